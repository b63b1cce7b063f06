-- A NEW PRODUCT of a front fs, a pointer to the first of each kind of ks, and ks (`assembled`), from what was gathered of its records: what is known before
-- a byte of it is written, for the cut and for the join. What a function between two steps asks and promises. Assumes nothing.
use Rattle.std.specs.Prelude.{ℕ, suc, ◌+◌, ◌≤◌, ◌<◌, ◌≡◌, length, get_or, set}
use mathlib.Core.List.{List, Memᴰ as In}
use Rattle.demands.specs.Product.{class}
use Rattle.parts.specs.Parts.{bytes, count}
use Rattle.parts.specs.Kinds.{Kinded}
use Rattle.parts.specs.Pointers.{base, assembled}
use Rattle.parts.specs.Rewritten.{Holdable}
use Rattle.std.specs.declared.result.Result.TheVariants.{Ok, Err}
use Rattle.std.specs.declared.result.Result.{Result}
use Rattle.calendar.specs.declared.Refusal.{Refusal}
use Rattle.rewrite.specs.declared.plan.Size.{Size}
use Rattle.rewrite.specs.Table.{Holds}

-- the totals of a product of records ps, and its main header: of all, and of each class
pub record TotalsOf (ps : List (List ℕ)) (totals : List ℕ) : Type 0 where
  pub nine : length totals ≡ 9
  pub all : get_or totals 0 0 ≡ suc (length ps)
  pub main : get_or totals 1 0 ≡ 1
  pub each : (c : ℕ) → 2 ≤ c → c ≤ 8 → get_or totals c 0 ≡ count c ps

-- the tally with the total of all records, of main headers and of pointers
abbrev pub with_pointers : List ℕ → ℕ → ℕ → List ℕ
with_pointers tally n k = set (set (set tally 0 (1 + n + k)) 1 1) 3 k

-- what was gathered of fs and ks
pub record Collected (fs ks : List (List ℕ)) (table tally : List ℕ) (front kept records : ℕ) : Type 0 where
  pub holds : Holds ks table kept
  pub front_is : front ≡ bytes fs
  pub records_are : records ≡ length fs + length ks
  pub nine : length tally ≡ 9
  pub each : (c : ℕ) → c < 9 → get_or tally c 0 ≡ count c fs + count c ks
  pub two : (r : List ℕ) → In r fs → class r 0 ≡ 2
  pub kinded : (r : List ℕ) → In r ks → Kinded r

abbrev pub size_of : List ℕ → List (List ℕ) → List (List ℕ) → ℕ
size_of m fs ks = 3307 + bytes (assembled m fs ks)

-- no number leaves its bounds
pub record Plannable (table tally : List ℕ) (front kept records : ℕ) : Type 0 where
  pub long : length table ≡ 20480
  pub nine : length tally ≡ 9
  pub front_low : front ≤ 2147483647
  pub kept_low : kept ≤ 2147483647
  pub records_low : records ≤ 1099511627776

-- 28, then 18
pub data Unplanned (m : List ℕ) (fs ks : List (List ℕ)) (room : ℕ) : ℕ → ℕ → Type 0 where
  big : (Holdable (assembled m fs ks) → ⊥) → Unplanned m fs ks room 28 0
  long : Holdable (assembled m fs ks) → room < size_of m fs ks → Unplanned m fs ks room 18 (size_of m fs ks)

-- the place of ks, the size and the totals
pub record Planned (m : List ℕ) (fs ks : List (List ℕ)) (room at size : ℕ) (totals : List ℕ) : Type 0 where
  pub base_is : at ≡ base fs ks
  pub size_is : size ≡ size_of m fs ks
  pub holdable : Holdable (assembled m fs ks)
  pub fits : size ≤ room
  pub totals_of : TotalsOf (assembled m fs ks) totals

abbrev pub PlanOf : List ℕ → List (List ℕ) → List (List ℕ) → ℕ → Result Size Refusal → List ℕ → Type 0
PlanOf m fs ks room (Err r) totals = Unplanned m fs ks room r.number r.place
PlanOf m fs ks room (Ok t) totals = Planned m fs ks room t.base t.size totals

abbrev pub PlanIs : List ℕ → List ℕ → ℕ → ℕ → ℕ → ℕ → Result Size Refusal → List ℕ → Type 0
PlanIs table tally front kept records room r totals =
    (m : List ℕ) (fs ks : List (List ℕ)) → Collected fs ks table tally front kept records → PlanOf m fs ks room r totals
