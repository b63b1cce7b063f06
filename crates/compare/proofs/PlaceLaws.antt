-- Where the value of a line stands, as `mphr` says it. Assumes nothing.
use Prim.Native.Nat.{ℕ, suc, ◌+◌, ◌≤◌, ◌<◌}
use native.Mathlib.Omega.{arith}
use mathlib.Core.Path.{◌≡◌, refl, sym, ap, ◌∙◌}
use mathlib.Core.Bool.{Bool}
use mathlib.Core.List.{List}
use borrow.Author.Tests.{le-leb}
use lib.ListN.{take, drop}
use Rattle.calendar.specs.Said.{answer}
use Rattle.calendar.specs.declared.Refusal.{Refusal}
use Rattle.mphr.specs.Layout.{width_of, kind_of, line_start, field_of}
use Rattle.mphr.specs.declared.layout.Place.{Place}
use Rattle.std.specs.declared.result.Result.TheVariants.{Ok}
use Rattle.std.specs.declared.result.Result.{Result}
use Rattle.calendar.specs.Said.{said}
use Rattle.mphr.proofs.LayoutLaws.{start_next, start_mono, start_72}
use Rattle.parts.specs.Rewritten.{value_of}
use Rattle.bytewise.specs.Comparing.{SameIs}

pub place_is : (k : ℕ) (r : Result Place Refusal) (p : Place) → k < 72 → r ≡ Ok p → said r ≡ field_of k → (p.start ≡ line_start k) × (p.width ≡ width_of k)
place_is k r p h e s =
    let q : Place = record { start = line_start k; width = width_of k; kind = kind_of k } in
    let f : field_of k ≡ answer q = rw (le-leb k 71 (omega arith)) refl in
    let b : answer p ≡ answer q = sym (ap said e) ∙ s ∙ f in
    let d : p ≡ q = answered b in
    (ap (λ (x : Place). x.start) d, ap (λ (x : Place). x.width) d)
  where
    answered : {p q : Place} → answer p ≡ answer q → p ≡ q
    answered e = cc

pub line_room : (k : ℕ) → k < 72 → line_start k + 32 + width_of k ≤ 3307
line_room k h = omega (arith, start_next k, start_mono {j = suc k} {k = 72} h, start_72)

-- a value, by where it stands
pub agreed_at : {b : Bool} (m n : List ℕ) (k w p : ℕ) → p ≡ line_start k → w ≡ width_of k → SameIs (take w (drop (p + 32) m)) (take w (drop (p + 32) n)) b → SameIs (value_of m k) (value_of n k) b
agreed_at m n k w p e d s = rw (← e, ← d) s
