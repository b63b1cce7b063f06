-- `meter::scaled::scale_of` meets its contract: the number of a byte in two's complement is an i8. Assumes nothing.
use Rattle.meter.proofs.IntegerLaws.{twos_low, twos_high}
use Rattle.meter.specs.Integer.{twos}
use mir.ValLaws.{to_z-of_z}
use mir.Val.{SFits, to_z, of_z}
use mir.Syntax.{w8, w64}
use lib.Dec.{ltb}
use borrow.Author.Tests.{ltb-true, ltb-false}
use mathlib.Core.Bool.{Bool, true, false}
use Prim.Native.Nat.{ℕ, ◌<◌}
use lib.IntN.{ℤ}
use native.Mathlib.Omega.{arith}
use mathlib.Core.Path.{◌≡◌, refl, sym, ap, ◌∙◌, subst}
use Rattle.meter.proofs.scaled.scale_of.Goals as goal
use Rattle.meter.proofs.scaled.scale_of.Goals.{After-signed_of}

narrow : (b : ℕ) → b < 256 → SFits w8 (twos 128 b)
narrow b h = go (ltb b 128) refl
  where
    go : (x : Bool) → ltb b 128 ≡ x → SFits w8 (twos 128 b)
    go true e = let l = ltb-true b 128 e in subst (λ (y : ℤ). SFits w8 y) (sym (twos_low 128 b l)) (record { sfits = l })
    go false e = let l = ltb-false b 128 e in subst (λ (y : ℤ). SFits w8 y) (sym (twos_high 128 b l (omega arith))) (record { sfits = omega arith })

whole : (c : After-signed_of) → to_z w64 (of_z w64 c.signed_of.result) ≡ twos 128 c.args.b
whole c = to_z-of_z w64 c.signed_of.result (record { sfits = c.signed_of.type_inv }) ∙ c.signed_of.ensures

pub overflow_cast-result : goal.overflow_cast-result
overflow_cast-result c = subst (λ (y : ℤ). SFits w8 y) (sym (whole c)) (narrow c.args.b (omega arith))

pub returns : goal.returns
returns c = ap (λ (y : ℤ). to_z w8 (of_z w8 y)) (whole c) ∙ to_z-of_z w8 (twos 128 c.args.b) (narrow c.args.b (omega arith))
