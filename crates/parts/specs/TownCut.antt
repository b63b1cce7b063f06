-- THE TOWN CUT, WHOLE (02, request Three: "Write a new product: MPHR with size, totals, SENSING_START, SENSING_END, the name's two times and
-- SUBSETTED_PRODUCT (`T`) set anew; the SPHR, auxiliary records and chosen MDRs byte for byte in their order; one IPR for each class, group and subclass
-- present in classes 4..8"). The records are said by `cut_parts`, the lines of the main header by `cut_values`; all else of the header is kept
-- (`Rewritten`). Assumes nothing.
use Rattle.std.specs.Prelude.{ℕ, ◌<◌, ◌≡◌, List}
use Rattle.std.specs.declared.option.Option.{Option}
use Rattle.meter.specs.declared.time.Time.{Time}
use Rattle.demands.specs.Product.{Meets}
use Rattle.parts.specs.Parts.{bytes_of, main_of, records_at}
use Rattle.parts.specs.Cut.{Window, cut_parts}
use Rattle.parts.specs.Rewritten.{value_of, Rewritten}
use Rattle.parts.specs.CutHeader.{EarliestStart, LatestStop, to_second, stamp, renamed, cut_values}

-- the records after the main header of the cut of a product a
abbrev pub cut_records : (a : List ℕ) → Window → Meets a → List (List ℕ)
cut_records a w t = cut_parts (main_of a) w (records_at a t.list)

-- b IS THE CUT of a by the window w
pub record IsCut (a : List ℕ) (w : Window) (b : List ℕ) : Type 0 where
  pub product : Meets a
  pub header : List ℕ
  pub lines : Rewritten (main_of a) header (cut_values (main_of a) w (records_at a product.list))
  pub whole : b ≡ bytes_of header (cut_records a w product)

-- the lines that a cut does not name: all but PRODUCT_NAME, SENSING_START, SENSING_END, ACTUAL_PRODUCT_SIZE and those from TOTAL_RECORDS on
pub record Unnamed (k : ℕ) : Type 0 where
  pub low : k < 55
  pub name : k ≡ 0 → ⊥
  pub start : k ≡ 10 → ⊥
  pub end : k ≡ 11 → ⊥
  pub size : k ≡ 28 → ⊥

-- "The two sensing times, and bytes 16..30 and 32..46 of PRODUCT_NAME, are the earliest start and latest defined stop of the chosen MDRs, cut to whole seconds,
-- or `x` where there is none": of the cut b of a, whose MDRs are these
pub record Sensed (a b : List ℕ) (mdrs : List (List ℕ)) : Type 0 where
  pub start : Option Time
  pub stop : Option Time
  pub earliest : EarliestStart mdrs start
  pub latest : LatestStop mdrs stop
  pub sensing_start : value_of (main_of b) 10 ≡ stamp (to_second start)
  pub sensing_end : value_of (main_of b) 11 ≡ stamp (to_second stop)
  pub name : value_of (main_of b) 0 ≡ renamed (value_of (main_of a) 0) (to_second start) (to_second stop)
