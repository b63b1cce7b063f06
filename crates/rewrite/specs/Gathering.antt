-- Sections that go into a new product, gathered one after the other: what the table of kinds and the tally hold. What a function between two steps asks
-- and promises. Assumes nothing.
use Rattle.std.specs.Prelude.{ℕ, ◌+◌, ◌-◌, ◌≤◌, ◌<◌, ◌≡◌, true, length, get_or, set}
use mathlib.Core.List.{List, ◌++◌, Memᴰ as In}
use Rattle.record.specs.Header.{is_group}
use Rattle.demands.specs.Product.{class}
use Rattle.parts.specs.Parts.{bytes, count}
use Rattle.parts.specs.Walk.{Walk}
use Rattle.rewrite.specs.Table.{noted, SlotOf, Holds}
use Rattle.rewrite.specs.declared.gather.Reached.{Reached}

-- the table and the tally hold the records ks, n bytes in all
pub record Gathered (ks : List (List ℕ)) (table tally : List ℕ) (n : ℕ) : Type 0 where
  pub holds : Holds ks table n
  pub nine : length tally ≡ 9
  pub each : (c : ℕ) → c < 9 → get_or tally c 0 ≡ count c ks

-- the bytes of a from i to j are the records xs, of classes 4 to 8
pub record Stretch (a : List ℕ) (i j : ℕ) (xs : List (List ℕ)) : Type 0 where
  pub rest : List (List ℕ)
  pub walk : Walk a i (xs ++ rest)
  pub end : j ≡ i + bytes xs
  pub four : (r : List ℕ) → In r xs → 4 ≤ class r 0
  pub eight : (r : List ℕ) → In r xs → class r 0 ≤ 8

-- a turn, at the record of byte i
pub record GatherOne (a : List ℕ) (i n : ℕ) (table tally : List ℕ) : Type 0 where
  pub come : i + 20 ≤ length a
  pub four : 4 ≤ get_or a i 0
  pub eight : get_or a i 0 ≤ 8
  pub group : is_group (get_or a (i + 1) 0) ≡ true
  pub small : n ≤ 2147483647
  pub long : length table ≡ 20480
  pub nine : length tally ≡ 9
  pub low : (c : ℕ) → c < 9 → get_or tally c 0 ≤ n

-- the place of its kind is noted, and it is counted
pub record GathersOne (a : List ℕ) (i n : ℕ) (table tally table' tally' : List ℕ) : Type 0 where
  pub place : ℕ
  pub slot : SlotOf (get_or a i 0) (get_or a (i + 1) 0) (get_or a (i + 2) 0) place
  pub noted_there : table' ≡ noted table place n
  pub counted : tally' ≡ set tally (get_or a i 0) (get_or tally (get_or a i 0) 0 + 1)

-- a stretch that goes into the new product after the records ks, n bytes in all
pub record Gatherable (a : List ℕ) (i j n : ℕ) (table tally : List ℕ) : Type 0 where
  pub before : List (List ℕ)
  pub gathered : Gathered before table tally n
  pub low : (c : ℕ) → c < 9 → get_or tally c 0 ≤ n
  pub records : List (List ℕ)
  pub stretch : Stretch a i j records
  pub small : n + bytes records ≤ 2147483647

-- it is gathered, and r is how many records it has
pub record Gathers (a : List ℕ) (i j n : ℕ) (table tally : List ℕ) (r : ℕ) (table' tally' : List ℕ) : Type 0 where
  pub many : (xs : List (List ℕ)) → Stretch a i j xs → r ≡ length xs
  pub all : (ks xs : List (List ℕ)) → Gathered ks table tally n → Stretch a i j xs → Gathered (ks ++ xs) table' tally' (n + bytes xs)
  pub low : (c : ℕ) → (xs : List (List ℕ)) → Stretch a i j xs → c < 9 → get_or tally' c 0 ≤ n + bytes xs

-- between two records of a stretch: those before byte at are pre
pub record Going (a : List ℕ) (from to n : ℕ) (table₀ tally₀ : List ℕ) (k at : ℕ) (table tally : List ℕ) : Type 0 where
  pub start : Gatherable a from to n table₀ tally₀
  pub pre : List (List ℕ)
  pub post : List (List ℕ)
  pub cut : start.records ≡ pre ++ post
  pub walk : Walk a at (post ++ start.stretch.rest)
  pub end : to ≡ at + bytes post
  pub here : at ≡ from + bytes pre
  pub many : k ≡ length pre
  pub few : k ≤ at
  pub low : (c : ℕ) → c < 9 → get_or tally c 0 ≤ n + bytes pre
  pub long : length table ≡ 20480
  pub nine : length tally ≡ 9
  pub got : (ks : List (List ℕ)) → Gathered ks table₀ tally₀ n → Gathered (ks ++ pre) table tally (n + bytes pre)

-- some records from byte at on, of a stretch that is gathered as far as there
pub record GatherSome (a : List ℕ) (at to p : ℕ) (table tally : List ℕ) : Type 0 where
  pub from : ℕ
  pub n : ℕ
  pub table₀ : List ℕ
  pub tally₀ : List ℕ
  pub k : ℕ
  pub going : Going a from to n table₀ tally₀ k at table tally
  pub inside : at < to
  pub place : p ≡ n + (at - from)

-- wherever it was gathered as far as byte at, it is gathered as far as the byte of r, by as many records more
pub record GathersSome (a : List ℕ) (at to p : ℕ) (table tally : List ℕ) (r : Reached) (table' tally' : List ℕ) : Type 0 where
  pub further : at < r.at
  pub on :
      (from n k : ℕ) (table₀ tally₀ : List ℕ) → p ≡ n + (at - from) → Going a from to n table₀ tally₀ k at table tally
      → Going a from to n table₀ tally₀ (k + r.records) r.at table' tally'
