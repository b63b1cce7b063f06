-- The meter's reading (01, "Times and scaled numbers": "A meter shows a reading that is missing, whole, or between: the last two carry the
-- f64 quotient of I and 10^s, one division; whole exactly when 10^s divides I; |I| at most 2^53, else 21"; 02, request Five: "The meter reading
-- counts it as whole, and gives 21 if the product's magnitude exceeds 2^53"). Assumes nothing.
use Rattle.std.specs.Prelude.{ℕ, suc, ◌%◌, ◌^◌, ◌≡◌, Bool, cond, eqb, leb, ℤ, pos, negsuc, nat_abs, Float}
use Rattle.std.specs.Int.Signed.{quot_z}
use Rattle.std.specs.Float.{binary64}
use Rattle.std.specs.Float.Ieee.{div, of_int}
use Rattle.calendar.specs.Said.{Said, answer, refusal}
use Rattle.meter.specs.Scaled.{Fraction, is_scale, multiplied, stands_for}
use Rattle.std.specs.declared.option.Option.TheVariants.{Some, None}
use Rattle.std.specs.declared.result.Result.TheVariants.{Ok}
use Rattle.std.specs.declared.option.Option.{Option}
use Rattle.std.specs.declared.result.Result.{Result}
use Rattle.calendar.specs.declared.Refusal.{Refusal}
use Rattle.meter.specs.declared.scaled.Scaled.{Scaled}
use Rattle.meter.specs.Numeral as S
use Rattle.meter.specs.declared.scaled.Reading.{Reading}
use Rattle.meter.specs.declared.scaled.Reading.TheVariants as M

-- one f64 division of two exactly converted integers
abbrev pub quotient : ℤ → ℕ → Float
quotient i s = div binary64 (of_int binary64 i) (of_int binary64 (pos (10 ^ s)))

-- one conversion of the exact product
abbrev pub converted : ℤ → ℕ → Float
converted i k = of_int binary64 (multiplied i k).above

-- the f64 that a reading carries
abbrev pub carried : ℤ → ℤ → Float
carried i (pos s) = quotient i s
carried i (negsuc s) = converted i (suc s)

-- whole exactly where the fraction is
abbrev pub is_whole : Fraction → Bool
is_whole x = eqb (nat_abs x.above % x.below) 0

-- of the number x with the f64 v: what stands above, which is I or the product, is at most 2 ^ 53 either way
abbrev pub shown_as : Fraction → Float → Said Reading
shown_as x v = cond (leb (nat_abs x.above) 0x20_0000_0000_0000) (answer (cond (is_whole x) (M.Whole v) (M.Between v))) (refusal 21 0)

-- THE READING
abbrev pub reading_of : Option Scaled → Said Reading
reading_of None = answer M.Missing
reading_of (Some t) = cond (is_scale t.scale) (shown_as (stands_for t.integer t.scale) (carried t.integer t.scale)) (refusal 21 0)

-- THE EXACT CASE: the f64 of a reading that is whole is the whole number itself
abbrev pub whole_of : Fraction → ℤ
whole_of x = quot_z x.above (pos x.below)

pub record ExactCase (x : Option Scaled) (r : Result Reading Refusal) : Type 0 where
  pub exact : {i s : ℤ} {v : Float} → x ≡ S.Number i s → r ≡ Ok (M.Whole v) → v ≡ of_int binary64 (whole_of (stands_for i s))
