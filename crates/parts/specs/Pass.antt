-- THE JOIN, WHOLE (02, request Seven: "Two accepted products of equal INSTRUMENT_ID, PRODUCT_TYPE, PROCESSING_LEVEL and SPACECRAFT_ID, with identical SPHR
-- and global records, and the last defined MDR stop of the first, in record order, not after the first defined MDR start of the second (met where either
-- has none), become one"). On parts: m and n are the main headers, rs and ss the records after them. The join of a pass is this with less compared (Join)
-- and one millisecond of overlap allowed. Assumes nothing.
use Rattle.std.specs.Prelude.{ℕ, ◌+◌, ◌≡◌, Bool, true, false, List, [], ◌∷◌, ltb}
use Rattle.meter.specs.Time.{time_at, compared}
use Rattle.std.specs.declared.option.Option.TheVariants.{Some, None}
use Rattle.std.specs.declared.option.Option.{Option}
use Rattle.meter.specs.declared.time.Time.{Time}
use Rattle.meter.specs.Instant as T
use Rattle.record.specs.Times.{is_after}
use Rattle.moment.specs.Moment.{overlap_between}
use Rattle.parts.specs.Parts.{bytes, bytes_of}
use Rattle.parts.specs.Only.{only, is_mdr}
use Rattle.parts.specs.Join.{join_parts, Like}
use Rattle.parts.specs.Rewritten.{value_of, Rewritten, Holdable}
use Rattle.parts.specs.JoinHeader.{join_values, SumsFit}

-- "of equal INSTRUMENT_ID, PRODUCT_TYPE, PROCESSING_LEVEL and SPACECRAFT_ID": the bytes of lines 5, 7, 8 and 9
pub record FourAgree (m n : List ℕ) : Type 0 where
  pub instrument : value_of m 5 ≡ value_of n 5
  pub type : value_of m 7 ≡ value_of n 7
  pub level : value_of m 8 ≡ value_of n 8
  pub spacecraft : value_of m 9 ≡ value_of n 9

-- 26 is where this does not hold
pub record Alike (i : Bool) (m n : List ℕ) (rs ss : List (List ℕ)) : Type 0 where
  pub fields : FourAgree m n
  pub records : Like i rs ss

-- the second of two times, or the first where it is undefined; and the other way round
abbrev pub last_of : Option Time → Option Time → Option Time
last_of t None = t
last_of t (Some u) = T.At u.day u.milli

abbrev pub first_of : Option Time → Option Time → Option Time
first_of None u = u
first_of (Some t) u = T.At t.day t.milli

abbrev pub last_stop_from : Option Time → List (List ℕ) → Option Time
last_stop_from t [] = t
last_stop_from t (r ∷ rs) = last_stop_from (last_of t (time_at r 14)) rs

abbrev pub first_start_from : Option Time → List (List ℕ) → Option Time
first_start_from t [] = t
first_start_from t (r ∷ rs) = first_start_from (first_of t (time_at r 8)) rs

-- "the last defined MDR stop .. in record order", "the first defined MDR start"; undefined where there is none
abbrev pub last_defined_stop : List (List ℕ) → Option Time
last_defined_stop rs = last_stop_from None (only is_mdr rs)

abbrev pub first_defined_start : List (List ℕ) → Option Time
first_defined_start ss = first_start_from None (only is_mdr ss)

-- "not after .. (met where either has none)": undefined times have no order. Of granules of a pass, not more than one millisecond after, on the line of request
-- Twelve: "one millisecond of overlap between MDRs that follow each other is nominal"
abbrev pub is_late : Bool → Option Time → Option Time → Bool
is_late true t u = is_after (compared t u)
is_late false t u = ltb 1 (overlap_between t u)

-- 27 is where this does not hold
abbrev pub InTime : Bool → List (List ℕ) → List (List ℕ) → Type 0
InTime i rs ss = is_late i (last_defined_stop rs) (first_defined_start ss) ≡ false

-- "28 as in request Three and also for a sum that doesn't fit its field": none of these
pub record Joinable (m n : List ℕ) (rs ss : List (List ℕ)) : Type 0 where
  pub holdable : Holdable (join_parts m rs ss)
  pub sums : SumsFit m n

abbrev pub join_size : List ℕ → List (List ℕ) → List (List ℕ) → ℕ
join_size m rs ss = 3307 + bytes (join_parts m rs ss)

-- c IS THE JOIN of the two
pub record IsJoin (m n : List ℕ) (rs ss : List (List ℕ)) (c : List ℕ) : Type 0 where
  pub header : List ℕ
  pub lines : Rewritten m header (join_values m n rs ss)
  pub whole : c ≡ bytes_of header (join_parts m rs ss)
