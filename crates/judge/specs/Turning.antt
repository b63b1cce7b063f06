-- What the walk knows between two records, and what a turn comes to.
-- Assumes nothing.
use Rattle.std.specs.Prelude.{◌≡◌, ℕ, ◌+◌, ◌*◌, ◌<◌, ◌≤◌, Bool, true, false, List, length, slice_index, slice_index_or}
use Rattle.calendar.specs.Said.{refusing}
use Rattle.record.specs.Header.{is_class}
use Rattle.text.specs.Field.{count_at}
use Rattle.mphr.specs.Table.{declared, total, Fine}
use Rattle.mphr.specs.Table as M
use Rattle.judge.specs.Table.{Site, site, first, one_more, size_at, Leads, Fault, main, at, too_long, shown, Judged}
use Rattle.judge.specs.Step.{Kept}
use Rattle.judge.specs.Stretch.{StretchIs}
use Rattle.judge.specs.Profile.{Meeting}
use Rattle.judge.specs.declared.pointers.Pointers.{Pointers}
use Rattle.judge.specs.declared.arrival.Arrival.{Arrival}
use Rattle.judge.specs.declared.arrival.Arrival.TheVariants.{Refused}
use Rattle.judge.specs.declared.arrival.Walked.{Walked}
use Rattle.judge.specs.declared.arrival.Passed.{Passed}
use Rattle.std.specs.declared.ops.ControlFlow.{ControlFlow}
use Rattle.std.specs.declared.ops.ControlFlow.TheVariants.{Break, Continue}

-- the fault is at x, or further on
abbrev pub Onward : {a : List ℕ} → Site → Fault a → Type 0
Onward x (main _) = ⊥
Onward {a} x (at _ y _ _) = Leads a x y
Onward x (too_long _) = Unit

-- each fault that is shown is at x, or further on
abbrev pub Past : List ℕ → Site → Type 0
Past a x = (g : Fault a) → shown g ≤ length a → Onward x g

-- the array has the totals, 0 of the records and 1 to 8 of each class
-- what the fields of the totals count, of any bytes: 0 where one is no number
pub record TotalsRead (a t : List ℕ) : Type 0 where
  pub nine : length t ≡ 9
  pub read : (c : ℕ) → c ≤ 8 → slice_index t c ≡ count_at a (2675 + 39 * c) 6

pub record Totals (a t : List ℕ) : Type 0 where
  pub nine : length t ≡ 9
  pub same : (c : ℕ) → c ≤ 8 → slice_index t c ≡ total a c
  pub small : (c : ℕ) → c ≤ 8 → total a c < 1000000

-- the loop's invariant: the main header is fine, x is on the way and has come, not 1 to 19 bytes are left at x
pub record Turn (a : List ℕ) (x : Site) : Type 0 where
  pub fine : Fine a
  pub way : Leads a first x
  pub come : x.at ≤ length a
  pub inside : x.at ≤ declared a
  pub not_part : x.at < declared a → x.at + 20 ≤ declared a
  pub counted : x.count ≤ x.at
  pub known : is_class x.prev ≡ true
  pub nine : length x.tally ≡ 9
  pub past : Past a x

pub record Ready (a : List ℕ) (d : ℕ) (x : Site) (ts : List ℕ) (w : Pointers) : Type 0 where
  pub d_is : d ≡ declared a
  pub small : d ≤ 2147483647
  pub room : x.at < d
  pub totals : Totals a ts
  pub turn : Turn a x
  pub kept : Kept a x.at w

-- one turn on: the site after x
pub record Gone (a : List ℕ) (x : Site) (to c : ℕ) (w : Pointers) : Type 0 where
  pub further : x.at + 20 ≤ to
  pub to_is : to ≡ x.at + size_at a x.at
  pub eight : c ≤ 8
  pub fewer : slice_index_or x.tally c 0 < total a c
  pub turn : Turn a (site (x.count + 1) to c (one_more x.tally c))
  pub kept : Kept a to w

abbrev pub TurnedIs : List ℕ → Site → ControlFlow Arrival Passed → Type 0
TurnedIs a x (Break r) = Judged a r
TurnedIs a x (Continue p) = Gone a x p.to p.class p.pointers

abbrev pub refused_at : ℕ → ℕ → Arrival
refused_at n p = Refused (refusing n p)

-- what the walk asks: a fine main header that has come
pub record Begun (a : List ℕ) : Type 0 where
  pub clean : M.Clean a
  pub come : 3307 ≤ length a

-- what the walk asks: D and the totals are at hand, and not 1 to 19 bytes are left after the main header
pub record Walking (a ts : List ℕ) (d : ℕ) : Type 0 where
  pub begun : Begun a
  pub d_is : d ≡ declared a
  pub least : 3307 ≤ d
  pub small : d ≤ 2147483647
  pub not_part : 3307 < d → 3327 ≤ d
  pub totals : Totals a ts

-- what its end asks: each byte of D has come
pub record Over (a : List ℕ) (d : ℕ) (x : Site) (ts : List ℕ) : Type 0 where
  pub d_is : d ≡ declared a
  pub at_end : x.at ≡ d
  pub totals : Totals a ts
  pub turn : Turn a x

-- some class has fewer records than its total
pub record Fewer (totals tally : List ℕ) : Type 0 where
  pub class : ℕ
  pub one : 1 ≤ class
  pub eight : class ≤ 8
  pub less : slice_index_or tally class 0 < slice_index totals class

pub record FewerIs (totals tally : List ℕ) (r : Bool) : Type 0 where
  pub some : r ≡ true → Fewer totals tally
  pub none : r ≡ false → Fewer totals tally → ⊥

-- what the walk gives: what is to be said, a stretch of records of one size, and how far the records meet the profile
pub record WalkedIs (p : List (List ℕ)) (a : List ℕ) (r : Walked) : Type 0 where
  pub said : Judged a r.answer
  pub even : StretchIs a r.stretch
  pub meets : Meeting p a 3307 r.met
