-- The survey of a product's headers: what the records that a cut takes over come to. What a function between two steps asks and promises. Assumes
-- nothing.
use Rattle.std.specs.Prelude.{ℕ, ◌+◌, ◌≤◌, ◌<◌, ◌≡◌, List, ◌++◌, length, get_or}
use Rattle.demands.specs.Product.{size as size_of}
use Rattle.parts.specs.Parts.{bytes, count}
use Rattle.parts.specs.Only.{only, is_sphr}
use Rattle.parts.specs.Cut.{Window, is_chosen, is_kept}
use Rattle.parts.specs.CutHeader.{first_start, last_stop}
use Rattle.parts.specs.Walk.{Walk}
use Rattle.rewrite.specs.declared.survey.Sums.{Sums}
use Rattle.rewrite.specs.Table.{Holds}

-- WHAT IS FOUND of the records rs: the places of the kinds that are kept; the bytes of the SPHR; how many records are carried over, in all and of each
-- class; the earliest start and the latest stop of the chosen MDRs
pub record Found (w : Window) (rs : List (List ℕ)) (table tally : List ℕ) (v : Sums) : Type 0 where
  pub holds : Holds (only (is_kept w) rs) table v.kept
  pub front : v.front ≡ bytes (only is_sphr rs)
  pub records : v.records ≡ length (only is_sphr rs) + length (only (is_kept w) rs)
  pub nine : length tally ≡ 9
  pub each : (c : ℕ) → c < 9 → get_or tally c 0 ≡ count c (only is_sphr rs) + count c (only (is_kept w) rs)
  pub first : v.start ≡ first_start (only (is_chosen w) rs)
  pub last : v.stop ≡ last_stop (only (is_chosen w) rs)

-- no number is over n
pub record Below (n : ℕ) (tally : List ℕ) (v : Sums) : Type 0 where
  pub front : v.front ≤ n
  pub kept : v.kept ≤ n
  pub records : v.records ≤ n
  pub each : (c : ℕ) → c < 9 → get_or tally c 0 ≤ n

-- between two records: those before byte i are pre
pub record Surveying (a : List ℕ) (w : Window) (i : ℕ) (table tally : List ℕ) (v : Sums) : Type 0 where
  pub small : length a ≤ 2147483647
  pub all : List (List ℕ)
  pub start : Walk a 3307 all
  pub pre : List (List ℕ)
  pub rest : List (List ℕ)
  pub cut : all ≡ pre ++ rest
  pub walk : Walk a i rest
  pub below : Below i tally v
  pub found : Found w pre table tally v

-- a turn, at a record of `size` bytes at byte i
pub record SurveyOne (a : List ℕ) (w : Window) (i size : ℕ) (table tally : List ℕ) (v : Sums) : Type 0 where
  pub surveying : Surveying a w i table tally v
  pub inside : i < length a
  pub sized : size ≡ size_of a i

-- all of it: the table and the tally are empty, and at the end have what is found
pub record Surveyable (a table tally : List ℕ) : Type 0 where
  pub small : length a ≤ 2147483647
  pub records : List (List ℕ)
  pub walk : Walk a 3307 records
  pub long : length table ≡ 20480
  pub empty : (j : ℕ) → get_or table j 0 ≡ 0
  pub nine : length tally ≡ 9
  pub none : (c : ℕ) → get_or tally c 0 ≡ 0

pub record Surveyed (a : List ℕ) (w : Window) (table tally : List ℕ) (v : Sums) : Type 0 where
  pub found : (rs : List (List ℕ)) → Walk a 3307 rs → Found w rs table tally v
  pub below : Below (length a) tally v
