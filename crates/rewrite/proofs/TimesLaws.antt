-- Times: a time by its bits, and whether one is too late after another. Assumes nothing.
use Prim.Native.Nat.{ℕ, ◌+◌, ◌*◌, ◌/◌, ◌%◌}
use mathlib.Core.Path.{◌≡◌, refl, sym, ap, ◌∙◌}
use mathlib.Core.Bool.{Bool, true, false}
use mathlib.Core.List.{List}
use borrow.Author.Tests.{eq-eqb, ne_eqb}
use native.Mathlib.Omega.{arith}
use lib.Dec.{ltb}
use lib.ListN.{get_or}
use Rattle.meter.specs.Integer.{be_at}
use Rattle.meter.specs.Time.{time_at, compared}
use Rattle.std.specs.declared.option.Option.TheVariants.{Some, None}
use Rattle.std.specs.declared.option.Option.{Option}
use Rattle.meter.specs.declared.time.Time.{Time}
use Rattle.meter.specs.Instant as T
use Rattle.record.specs.Times.{is_after}
use Rattle.parts.specs.CutHeader.{sooner, later}
use Rattle.moment.specs.Moment.{overlap_between}
use Rattle.parts.specs.Pass.{first_of, is_late}

pub none_before : (t u : Option Time) → t ≡ None → u ≡ first_of t u
none_before t u e = rw e refl

-- ---- a time by its bits
pub of_six :
    (s : List ℕ) (at a b c d e f : ℕ) → a ≡ get_or s at 0 → b ≡ get_or s (at + 1) 0 → c ≡ get_or s (at + 2) 0 → d ≡ get_or s (at + 3) 0 → e ≡ get_or s (at + 4) 0 → f ≡ get_or s (at + 5) 0
    → (a * 256 + b) * 0x1_0000_0000 + (((c * 256 + d) * 256 + e) * 256 + f) ≡ be_at s at 6
unfolding be_at
of_six s at a b c d e f p q r t u v =
    let z : at + 0 ≡ at = omega arith in
    let y : get_or s (at + 0) 0 ≡ get_or s at 0 = ap (λ (i : ℕ). get_or s i 0) z in
    omega (arith, y)

pub time_none : (s : List ℕ) (at v : ℕ) → v ≡ be_at s at 6 → v ≡ 0xffff_ffff_ffff → None ≡ time_at s at
time_none s at v e d = rw (eq-eqb (be_at s at 6) 0xffff_ffff_ffff (sym e ∙ d)) refl

pub time_some : (s : List ℕ) (at v : ℕ) → v ≡ be_at s at 6 → (v ≡ 0xffff_ffff_ffff → ⊥) → T.At (v / 0x1_0000_0000) (v % 0x1_0000_0000) ≡ time_at s at
time_some s at v e d = rw (e, ne_eqb (be_at s at 6) 0xffff_ffff_ffff (λ q. d (e ∙ q))) refl

-- ---- too late, by which join it is
pub late_identical : (i : Bool) (t u : Option Time) {r : Bool} → i ≡ true → r ≡ is_after (compared t u) → r ≡ is_late i t u
late_identical i t u e d = d ∙ ap (λ (b : Bool). is_late b t u) (sym e)

pub late_granules : (i : Bool) (t u : Option Time) {n : ℕ} → i ≡ false → n ≡ overlap_between t u → ltb 1 n ≡ is_late i t u
late_granules i t u e d = ap (ltb 1) d ∙ ap (λ (b : Bool). is_late b t u) (sym e)
