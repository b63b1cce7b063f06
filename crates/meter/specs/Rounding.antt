-- Rounding (01, "Times and scaled numbers": "Rounded to d decimals (0..15, else 21, for undefined too): the whole M nearest to
-- I·10^d / 10^s, a tie going away from zero, refused 21 if M leaves the signed 64-bit range"; 02, request Five: "Rounding keeps its rule and
-- refusal 21 covers results out of range"). Over unbounded integers. Assumes nothing.
use Rattle.std.specs.Prelude.{ℕ, ◌+◌, ◌-◌, ◌*◌, ◌/◌, ◌^◌, ◌≤◌, ◌<◌, ◌≡◌, Bool, false, cond, leb, ltb, ℤ, pos, negsuc, neg_ℤ, nat_abs}
use Rattle.std.specs.Int.Signed.{mag}
use Rattle.calendar.specs.Said.{Said, answer, refusal}
use Rattle.meter.specs.Scaled.{Fraction, is_scale, stands_for}
use Rattle.std.specs.declared.option.Option.TheVariants.{Some, None}
use Rattle.std.specs.declared.option.Option.{Option}
use Rattle.meter.specs.declared.scaled.Scaled.{Scaled}

-- the decimals that can be asked for: 0 to 15
unfoldable pub is_decimals : ℤ → Bool
is_decimals (pos d) = leb d 15
is_decimals (negsuc d) = false

-- a / b to the nearest whole number, a half upwards: the whole part of a / b + 1 / 2
unfoldable pub near : ℕ → ℕ → ℕ
near a b = (2 * a + b) / (2 * b)

-- r with the sign of i, so that a half goes away from zero
unfoldable pub with_sign : ℤ → ℕ → ℤ
with_sign (pos n) r = pos r
with_sign (negsuc n) r = neg_ℤ (pos r)

-- a number that leaves the signed 64-bit range is refused
unfoldable pub whole64 : ℤ → Said (Option ℤ)
whole64 z = cond (ltb (mag z) 0x8000_0000_0000_0000) (answer (Some z)) (refusal 21 0)

abbrev pub signed_of : ℤ → ℕ → Said (Option ℤ)
signed_of i r = whole64 (with_sign i r)

-- the number times 10 ^ d, rounded
abbrev pub nearest_to : Fraction → ℕ → Said (Option ℤ)
nearest_to x d = signed_of x.above (near (nat_abs x.above * 10 ^ d) x.below)

-- THE ROUNDING
abbrev pub rounding : Option Scaled → ℕ → Said (Option ℤ)
rounding None d = answer None
rounding (Some t) d = cond (is_scale t.scale) (nearest_to (stands_for t.integer t.scale) d) (refusal 21 0)

abbrev pub rounded_of : Option Scaled → ℤ → Said (Option ℤ)
rounded_of x d = cond (is_decimals d) (rounding x (nat_abs d)) (refusal 21 0)

-- ---- WHAT NEAREST MEANS, apart from how it is found
abbrev pub distance : ℕ → ℕ → ℕ
distance x y = (x - y) + (y - x)

-- k times b is within half of b from a, and above a at a tie
abbrev pub IsNearest : ℕ → ℕ → ℕ → Type 0
IsNearest a b k = (2 * distance (k * b) a ≤ b) × (2 * distance (k * b) a ≡ b → a < k * b)

-- m is the whole number nearest to the fraction x times 10 ^ d, "a tie going away from zero": its size is nearest, and it has the sign of x
pub record NearestTo (x : Fraction) (d : ℕ) (m : ℤ) : Type 0 where
  pub size : IsNearest (nat_abs x.above * 10 ^ d) x.below (nat_abs m)
  pub sign : m ≡ with_sign x.above (nat_abs m)
