-- The walk over a cut's records beside its original: what a function between two steps asks and promises. Assumes nothing.
use Rattle.std.specs.Prelude.{ℕ, ◌+◌, ◌≤◌, ◌<◌, ◌≡◌, Bool, true, not, ◌||◌, List, eqb, length, get_or, take, drop}
use Rattle.demands.specs.Product.{size, Meets}
use Rattle.parts.specs.Only.{only, is_mdr}
use Rattle.parts.specs.Against.{Verdict, alike, unlike, earliest, is_fixed, on_match, on_next, against, verdict}
use Rattle.parts.specs.Walk.{Walk}
use Rattle.std.specs.declared.option.Option.TheVariants.{Some, None}
use Rattle.std.specs.declared.option.Option.{Option}
use Rattle.compare.specs.declared.walk.Places.{Places}

-- by its class, a record is neither a pointer nor an MDR
abbrev pub fixed_class : ℕ → Bool
fixed_class c = not (eqb c 3 || eqb c 8)

-- records go from byte i to the end, in a product of a size that a header can hold
pub record Fixing (a : List ℕ) (i : ℕ) : Type 0 where
  pub small : length a ≤ 2147483647
  pub records : List (List ℕ)
  pub walk : Walk a i records

-- of the records from byte i on, those from byte j on have the same SPHR and auxiliary records, and the first is one
pub record NextIs (a : List ℕ) (i j : ℕ) : Type 0 where
  pub rest : List (List ℕ)
  pub walk : Walk a j rest
  pub same : (rs : List (List ℕ)) → Walk a i rs → only is_fixed rs ≡ only is_fixed rest
  pub first : j < length a → fixed_class (get_or a j 0) ≡ true

-- the n bytes of b from j on are looked for among the records of a from byte i on
pub record Seeking (a : List ℕ) (i : ℕ) (b : List ℕ) (j n : ℕ) : Type 0 where
  pub fixing : Fixing a i
  pub come : j + n ≤ length b

-- where a record of the cut is matched or not: `step` says what is answered, by the answer k of what is left and the place p
pub record Goes (a : List ℕ) (j : ℕ) (step : (List (List ℕ) → Verdict) → ℕ → Verdict) (left : List (List ℕ) → List (List ℕ)) : Type 0 where
  pub rest : List (List ℕ)
  pub walk : Walk a j rest
  pub goes : (k : List (List ℕ) → Verdict) (p : ℕ) → step k p ≡ k (left rest)

abbrev pub TakenIs : List ℕ → ((List (List ℕ) → Verdict) → ℕ → Verdict) → (List (List ℕ) → List (List ℕ)) → Option ℕ → Type 0
TakenIs a step left None = (k : List (List ℕ) → Verdict) (p : ℕ) → step k p ≡ unlike p
TakenIs a step left (Some j) = Goes a j step left

abbrev pub FixedIs : List ℕ → ℕ → List ℕ → ℕ → ℕ → Option ℕ → Type 0
FixedIs a i b j n r = (rs : List (List ℕ)) → Walk a i rs → TakenIs a (on_next (take n (drop j b)) (only is_fixed rs)) (only is_fixed) r

abbrev pub EarliestIs : List ℕ → ℕ → List ℕ → ℕ → ℕ → Option ℕ → Type 0
EarliestIs a i b j n r =
    (rs : List (List ℕ)) → Walk a i rs → is_mdr (take n (drop j b)) ≡ true → TakenIs a (on_match (earliest (take n (drop j b)) (only is_mdr rs))) (only is_mdr) r

-- between two records of the cut: those from byte i on, against the original's from f on and from m on
pub record Left (a : List ℕ) (f m : ℕ) (b : List ℕ) (i : ℕ) : Type 0 where
  pub cs : List (List ℕ)
  pub fs : List (List ℕ)
  pub ms : List (List ℕ)
  pub cut : Walk b i cs
  pub fixed : Walk a f fs
  pub mdrs : Walk a m ms

abbrev pub left_verdict : {a : List ℕ} {f m : ℕ} {b : List ℕ} {i : ℕ} → Left a f m b i → Verdict
left_verdict {i = i} l = against i l.cs (only is_fixed l.fs) (only is_mdr l.ms)

-- a turn, at the cut's record of n bytes at byte i
pub record Turning (a : List ℕ) (p : Places) (b : List ℕ) (i n : ℕ) : Type 0 where
  pub small : length a ≤ 2147483647
  pub left : Left a p.fixed p.mdr b i
  pub inside : i < length b
  pub sized : n ≡ size b i

-- what is left after it says the same
pub record GoesOn (a : List ℕ) (p : Places) (b : List ℕ) (i n : ℕ) (q : Places) : Type 0 where
  pub left : Left a q.fixed q.mdr b (i + n)
  pub same : (l : Left a p.fixed p.mdr b i) → left_verdict l ≡ left_verdict left

abbrev pub TurnedIs : List ℕ → Places → List ℕ → ℕ → ℕ → Option Places → Type 0
TurnedIs a p b i n None = (l : Left a p.fixed p.mdr b i) → left_verdict l ≡ unlike i
TurnedIs a p b i n (Some q) = GoesOn a p b i n q

-- the records of two products
pub record Both (a b : List ℕ) : Type 0 where
  pub small : length a ≤ 2147483647
  pub short : length b ≤ 2147483647
  pub left : Left a 3307 3307 b 3307

abbrev pub compared_as : Option ℕ → Verdict
compared_as None = alike
compared_as (Some p) = unlike p

abbrev pub RecordsIs : List ℕ → List ℕ → Option ℕ → Type 0
RecordsIs a b r = (rs cs : List (List ℕ)) → Walk a 3307 rs → Walk b 3307 cs → verdict cs rs ≡ compared_as r

-- between two turns
pub record Comparing (a : List ℕ) (p : Places) (b : List ℕ) (i : ℕ) : Type 0 where
  pub left : Left a p.fixed p.mdr b i
  pub same : (rs cs : List (List ℕ)) → Walk a 3307 rs → Walk b 3307 cs → verdict cs rs ≡ left_verdict left

-- two products
pub record Products (a b : List ℕ) : Type 0 where
  pub original : Meets a
  pub cut : Meets b
