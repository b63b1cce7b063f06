-- A PRODUCT'S PARTS IN WORDS: what `MainHeader` and `IsRecord` say (Product.antt) with none of the tests that the table of faults has too: the bytes of a
-- line's frame one by one, its value by 01's grammar (`ValueIn` of `text`), times, classes and groups by their limits. proofs/WordsLaws.antt: both ways
-- the same. Assumes nothing.
use Rattle.std.specs.Prelude.{ℕ, ◌+◌, ◌*◌, ◌≤◌, ◌<◌, ◌≡◌, true, ◌⊎◌, List, get_or}
use Rattle.meter.specs.Integer.{be_at}
use Rattle.meter.specs.Time.{last_milli, time_at}
use Rattle.std.specs.declared.option.Option.TheVariants.{Some, None}
use Rattle.std.specs.declared.option.Option.{Option}
use Rattle.meter.specs.declared.time.Time.{Time}
use Rattle.meter.specs.Instant as T
use Rattle.record.specs.Follow.{may_follow}
use Rattle.text.specs.Grammar.{ValueIn}
use Rattle.mphr.specs.Layout.{names, width_of, kind_of, line_start}
use Rattle.mphr.specs.Table.{declared, Sums}
use Rattle.demands.specs.Product.{class, group, size}

-- line k: its name of 30 bytes, padded, "= ", and after the value a line feed
pub record FrameIn (a : List ℕ) (k : ℕ) : Type 0 where
  pub name : (j : ℕ) → j < 30 → get_or a (line_start k + j) 0 ≡ get_or names (30 * k + j) 0
  pub equals : get_or a (line_start k + 30) 0 ≡ 61
  pub space : get_or a (line_start k + 31) 0 ≡ 32
  pub feed : get_or a (line_start k + 32 + width_of k) 0 ≡ 10

-- a time is undefined, or its millisecond is one of its day
abbrev pub RightTime : Option Time → Type 0
RightTime None = Unit
RightTime (Some t) = t.milli ≤ last_milli t.day

-- "both defined and start after stop" is not so
abbrev pub NotAfter : Option Time → Option Time → Type 0
NotAfter (Some t) (Some u) = (t.day < u.day) ⊎ ((t.day ≡ u.day) × (t.milli ≤ u.milli))
NotAfter (Some t) None = Unit
NotAfter None u = Unit

-- the times of the header at byte i
pub record TimesIn (a : List ℕ) (i : ℕ) : Type 0 where
  pub start : RightTime (time_at a (i + 8))
  pub stop : RightTime (time_at a (i + 14))
  pub ordered : NotAfter (time_at a (i + 8)) (time_at a (i + 14))

-- THE MAIN HEADER
pub record MainIn (a : List ℕ) : Type 0 where
  pub class_1 : get_or a 0 0 ≡ 1
  pub group_0 : get_or a 1 0 ≡ 0
  pub subclass_0 : get_or a 2 0 ≡ 0
  pub size_3307 : be_at a 4 4 ≡ 3307
  pub times : TimesIn a 0
  pub frames : (k : ℕ) → k < 72 → FrameIn a k
  pub values : (k : ℕ) → k < 72 → ValueIn (kind_of k) a (line_start k + 32) (width_of k)
  pub least : 3307 ≤ declared a
  pub most : declared a ≤ 2147483647
  pub sums : Sums a

-- A RECORD at byte i, after one of class p: class 1 to 8, group 0 to 13, 15 or 99
pub record RecordIn (a : List ℕ) (p i : ℕ) : Type 0 where
  pub low : 1 ≤ class a i
  pub high : class a i ≤ 8
  pub grouped : (group a i ≤ 13) ⊎ ((group a i ≡ 15) ⊎ (group a i ≡ 99))
  pub ordered : may_follow p (class a i) ≡ true
  pub least : 20 ≤ size a i
  pub ipr : class a i ≡ 3 → size a i ≡ 27
  pub times : TimesIn a i
