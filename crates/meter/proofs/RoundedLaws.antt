-- WHAT round_to ANSWERS IS NEAREST, said of its answer: a whole number m is nearest to the number times 10 ^ d, a tie away from zero, and no other is. By
-- the answer's cases and what nearest means. Assumes nothing.
use Prim.Native.Nat.{ℕ, zero, suc, ◌*◌, ◌^◌, ◌<◌}
use native.Mathlib.Decide.{ℕ_discrete}
use native.Mathlib.Omega.{arith}
use mathlib.Core.Path.{◌≡◌, refl, sym, ap, ◌∙◌, subst}
use mathlib.Core.Bool.{Bool, true, false, cond}
use lib.Dec.{ltb}
use lib.IntN.{ℤ, pos, negsuc, nat_abs}
use lib.Signed.{mag}
use Rattle.calendar.specs.Said.{Said, answer, refusal}
use Rattle.meter.specs.Scaled.{is_scale, stands_for}
use Rattle.meter.specs.Rounding.{is_decimals, near, with_sign, whole64, rounded_of, distance, IsNearest, NearestTo}
use Rattle.std.specs.declared.option.Option.TheVariants.{Some}
use Rattle.std.specs.declared.result.Result.TheVariants.{Ok}
use Rattle.std.specs.declared.option.Option.{Option}
use Rattle.meter.specs.Numeral as S
use Rattle.calendar.specs.Said.{said}
use Rattle.meter.proofs.RoundingLaws.{below_pos, near_only, nearest_number}

taken : (b : Bool) {x : Said (Option ℤ)} {m : ℤ} → cond b x (refusal 21 0) ≡ answer (Some m) → x ≡ answer (Some m)
taken true e = e
taken false e = let z : ◌≡◌ {A = ℕ} 0 1 = cc in absurd (omega arith)

whole_is : (z m : ℤ) → whole64 z ≡ answer (Some m) → z ≡ m
unfolding whole64
whole_is z m e = go (ltb (mag z) 0x8000_0000_0000_0000) e
  where
    go : (b : Bool) → cond b (answer (Some z)) (refusal 21 0) ≡ answer (Some m) → z ≡ m
    go true e = cc
    go false e = let z : ◌≡◌ {A = ℕ} 0 1 = cc in absurd (omega arith)

size_of : (i : ℤ) (r : ℕ) → nat_abs (with_sign i r) ≡ r
unfolding with_sign
size_of (pos n) r = refl
size_of (negsuc n) zero = refl
size_of (negsuc n) (suc r) = refl

nearest_of : (i s : ℤ) (d : ℕ) (m : ℤ) → rounded_of (S.Number i s) (pos d) ≡ answer (Some m) → NearestTo (stands_for i s) d m
nearest_of i s d m e =
    let x = stands_for i s in
    let r = near (nat_abs x.above * 10 ^ d) x.below in
    let f : with_sign x.above r ≡ m = whole_is (with_sign x.above r) m (taken (is_scale s) (taken (is_decimals (pos d)) e)) in
    let g : r ≡ nat_abs m = sym (size_of x.above r) ∙ ap nat_abs f in
    record { size = subst (IsNearest (nat_abs x.above * 10 ^ d) x.below) g (nearest_number i s d); sign = sym f ∙ ap (with_sign x.above) g }

-- of whatever the promise of `round_to` lets it answer
pub rounded_nearest : (i s : ℤ) (d : ℕ) (m : ℤ) → said (Ok (Some m)) ≡ rounded_of (S.Number i s) (pos d) → NearestTo (stands_for i s) d m
rounded_nearest i s d m e = nearest_of i s d m (sym e)

-- NO OTHER is nearest
only : (a b k : ℕ) → 0 < b → IsNearest a b k → near a b ≡ k
only a b k h (n, t) = go (ℕ_discrete (2 * distance (k * b) a) b)
  where
    go : Dec (2 * distance (k * b) a ≡ b) → near a b ≡ k
    go (yes e) = near_only a b k (omega (arith, n, t e)) (omega (arith, n, t e))
    go (no d) = near_only a b k (omega (arith, n, d)) (omega (arith, n, d))

pub one_nearest : (i s : ℤ) (d : ℕ) (m n : ℤ) → NearestTo (stands_for i s) d m → NearestTo (stands_for i s) d n → m ≡ n
one_nearest i s d m n p q =
    let x = stands_for i s in
    let a = nat_abs x.above * 10 ^ d in
    p.sign ∙ ap (with_sign x.above) (sym (only a x.below (nat_abs m) (below_pos i s) p.size) ∙ only a x.below (nat_abs n) (below_pos i s) q.size) ∙ sym q.sign
