-- The sections of a product, from its headers. What a function between two steps asks and promises. Assumes nothing.
use Rattle.std.specs.Prelude.{ℕ, ◌+◌, ◌≤◌, ◌<◌, ◌≡◌, cond, ◌⊎◌, List, [], ◌++◌, eqb, length, get_or}
use Rattle.meter.specs.Time.{time_at}
use Rattle.std.specs.declared.option.Option.TheVariants.{None}
use Rattle.std.specs.declared.option.Option.{Option}
use Rattle.meter.specs.declared.time.Time.{Time}
use Rattle.demands.specs.Product.{size as size_of}
use Rattle.parts.specs.Parts.{bytes, Follows}
use Rattle.parts.specs.Only.{only, is_in, is_sphr, is_global, is_variable, is_mdr}
use Rattle.parts.specs.Pass.{last_of, first_start_from, last_stop_from, first_defined_start, last_defined_stop}
use Rattle.parts.specs.Walk.{Walk}
use Rattle.rewrite.specs.declared.sections.Sections.{Sections}
use Rattle.rewrite.specs.declared.sections.Stopped.{Stopped}

pub record PartsOf (s p g v : ℕ) (t u : Option Time) (x : Sections) : Type 0 where
  pub sphr : x.sphr ≡ s
  pub ipr : x.ipr ≡ p
  pub global : x.global ≡ g
  pub variable : x.variable ≡ v
  pub start : x.start ≡ t
  pub stop : x.stop ≡ u

-- records go from byte i to the end, in a product of a size that a header can hold
pub record Left (a : List ℕ) (i : ℕ) : Type 0 where
  pub small : length a ≤ 2147483647
  pub records : List (List ℕ)
  pub walk : Walk a i records

-- their first defined start and their last defined stop
abbrev pub FirstStartIs : List ℕ → ℕ → Option Time → Type 0
FirstStartIs a i t = (rs : List (List ℕ)) → Walk a i rs → t ≡ first_start_from None rs

abbrev pub LastStopIs : List ℕ → ℕ → Option Time → Type 0
LastStopIs a i t = (rs : List (List ℕ)) → Walk a i rs → t ≡ last_stop_from None rs

-- the stop of the record at byte p; none where p is 0
abbrev pub stop_at : List ℕ → ℕ → Option Time
stop_at a p = cond (eqb p 0) None (time_at a (p + 14))

-- r is the place with the record at byte i
pub record LaterIs (a : List ℕ) (p i r : ℕ) : Type 0 where
  pub stop : stop_at a r ≡ last_of (stop_at a p) (time_at a (i + 14))
  pub one : (r ≡ p) ⊎ (r ≡ i)

-- those from byte i on are left, and p is a place before them, or 0
pub record LeftAfter (a : List ℕ) (i p : ℕ) : Type 0 where
  pub left : Left a i
  pub head : 3307 ≤ i
  pub come : p + 20 ≤ length a

-- those from byte i on, after the stop at p, have the last stop of those from byte j on, after the stop at q
pub record Stopping (a : List ℕ) (i p j q : ℕ) : Type 0 where
  pub after : LeftAfter a j q
  pub same : (rs : List (List ℕ)) → Walk a i rs → last_stop_from (stop_at a p) rs ≡ last_stop_from (stop_at a q) after.left.records

pub record StopsOn (a : List ℕ) (i p : ℕ) (r : Stopped) : Type 0 where
  pub further : i < r.at
  pub on : Stopping a i p r.at r.place

-- WHAT IS FOUND of the records rs
pub record SectionsAre (rs : List (List ℕ)) (x : Sections) : Type 0 where
  pub sphr : x.sphr ≡ bytes (only is_sphr rs)
  pub ipr : x.ipr ≡ bytes (only (is_in 3 3) rs)
  pub global : x.global ≡ bytes (only is_global rs)
  pub variable : x.variable ≡ bytes (only is_variable rs)
  pub start : x.start ≡ first_defined_start rs
  pub stop : x.stop ≡ last_defined_stop rs

-- between two records: those before byte i are pre, and none is an MDR
pub record Sectioning (a : List ℕ) (i : ℕ) (x : Sections) : Type 0 where
  pub small : length a ≤ 2147483647
  pub all : List (List ℕ)
  pub start : Walk a 3307 all
  pub order : Follows 1 all
  pub pre : List (List ℕ)
  pub rest : List (List ℕ)
  pub cut : all ≡ pre ++ rest
  pub walk : Walk a i rest
  pub no_mdr : only is_mdr pre ≡ []
  pub below : 3307 + (x.sphr + x.ipr + x.global + x.variable) ≤ i
  pub found : SectionsAre pre x

-- a turn, at a record of `size` bytes at byte i, which is no MDR
pub record SectionOne (a : List ℕ) (i size : ℕ) (x : Sections) : Type 0 where
  pub sectioning : Sectioning a i x
  pub inside : i < length a
  pub sized : size ≡ size_of a i
  pub other : get_or a i 0 < 8

-- the first MDR stands at byte i
pub record FirstMdr (a : List ℕ) (i : ℕ) (x : Sections) : Type 0 where
  pub sectioning : Sectioning a i x
  pub inside : i < length a
  pub mdr : 8 ≤ get_or a i 0

pub record Sectionable (a : List ℕ) : Type 0 where
  pub small : length a ≤ 2147483647
  pub records : List (List ℕ)
  pub walk : Walk a 3307 records
  pub order : Follows 1 records

pub record Sectioned (a : List ℕ) (x : Sections) : Type 0 where
  pub found : (rs : List (List ℕ)) → Walk a 3307 rs → SectionsAre rs x
