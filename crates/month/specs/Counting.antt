-- What a function between two steps asks and promises: the sums that are come to, with those of the records that are left, are the whole. No promise of a
-- public function names these. Assumes nothing.
use Rattle.std.specs.Prelude.{ℕ, ◌+◌, ◌≤◌, ◌<◌, ◌≡◌, Bool, true, false, cond, List, ◌∷◌, eqb, length}
use Rattle.moment.specs.Moment.{gap_between, overlap_between, undefined_between}
use Rattle.month.specs.Report.{over_pairs, stop_to_start, plus, Within, Contributes}
use Rattle.month.specs.declared.count.Pairs.{Pairs}
use Rattle.std.specs.declared.option.Option.TheVariants.{Some, None}
use Rattle.std.specs.declared.option.Option.{Option}

-- ---- the pairs: with the MDRs at the bytes xs, after the last, where there was one
abbrev pub held : Option ℕ → List ℕ → List ℕ
held None xs = xs
held (Some i) xs = i ∷ xs

-- the sum of f over the pairs, of which s is come to
abbrev pub with_left : (ℕ → ℕ → ℕ) → ℕ → Option ℕ → List ℕ → ℕ
with_left f s o xs = s + over_pairs f (held o xs)

pub record PairSums (a : List ℕ) (p : Pairs) (xs : List ℕ) (x y z : ℕ) : Type 0 where
  pub gap : with_left (stop_to_start gap_between a) p.gap p.last xs ≡ x
  pub overlap : with_left (stop_to_start overlap_between a) p.overlap p.last xs ≡ y
  pub undefined : with_left (stop_to_start undefined_between a) p.undefined p.last xs ≡ z

-- those of class 8 at the byte i, before the MDRs at the bytes xs
abbrev pub mdr_here : ℕ → ℕ → List ℕ → List ℕ
mdr_here c i xs = cond (eqb c 8) (i ∷ xs) xs

-- what a pair more asks, at the record of class c at byte i: its header is there, and so is that of the last; the sums have room
pub record Paired (a : List ℕ) (p : Pairs) (i c : ℕ) : Type 0 where
  pub here : i + 20 ≤ length a
  pub last : (j : ℕ) → p.last ≡ Some j → j + 20 ≤ length a
  pub xs : List ℕ
  pub gap : ℕ
  pub overlap : ℕ
  pub undefined : ℕ
  pub sums : PairSums a p (mdr_here c i xs) gap overlap undefined
  pub gap_small : gap < 18446744073709551616
  pub overlap_small : overlap < 18446744073709551616
  pub undefined_small : undefined < 18446744073709551616

-- and what it comes to
pub record PairedOn (a : List ℕ) (p : Pairs) (i c : ℕ) (r : Pairs) : Type 0 where
  pub last : (j : ℕ) → r.last ≡ Some j → j + 20 ≤ length a
  pub sums : (xs : List ℕ) (x y z : ℕ) → PairSums a p (mdr_here c i xs) x y z → PairSums a r xs x y z

-- ---- all records of an accepted product
abbrev pub CountsAll : List ℕ → List ℕ → Type 0
CountsAll a v = Contributes a None v

-- ---- the sum of two reports is within the limits, or is not
pub record FitsIs (x y : List ℕ) (b : Bool) : Type 0 where
  pub right : b ≡ true → Within (plus x y)
  pub wrong : b ≡ false → Within (plus x y) → ⊥
