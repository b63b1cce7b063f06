-- The search for block k: what is left to look for, in what is left of the file, is block k of the whole. By one segment at a time. Assumes nothing.
use mathlib.Core.Path.{◌≡◌, refl, sym, ap, ◌∙◌}
use mathlib.Core.List.{List}
use Prim.Native.Nat.{ℕ, zero, suc, ◌+◌, ◌-◌, ◌*◌, ◌≤◌, ◌<◌}
use native.Mathlib.Omega.{arith}
use lib.IntN.{nat_abs}
use Rattle.calendar.specs.Said.{Said, answer, refusal}
use Rattle.uth.specs.Layout.{segments, first_at, line, column, blocks, body_at, end_at}
use Rattle.uth.specs.Judge.{onward, segment_at, judge_from, judge_of}
use Rattle.uth.specs.Blocks.{block_of, blocks_from, blocks_of, item_of, block_read_of}
use Rattle.uth.proofs.BlockLaws.{count_is, item_here, item_after, item_none}
use Rattle.uth.proofs.JudgeLaws.{More, more_of, last_of, opened}
use Rattle.uth.proofs.SegmentLaws.{counted_as}

-- block k of n is block j of the m segments from p on, which come after i blocks
pub record Seeking (a : List ℕ) (n k p j : ℕ) : Type 0 where
  pub m : ℕ
  pub i : ℕ
  pub read : judge_from a m p i ≡ answer n
  pub has : i + j < n
  pub same : item_of (blocks_from a m p) j n ≡ item_of (blocks_of a) k n

pub seek : (a : List ℕ) (n k : ℕ) → judge_of a ≡ answer n → k < n → Seeking a n k first_at k
seek a n k e h = record { m = nat_abs (segments a); i = 0; read = (opened a n e).walked; has = omega arith; same = refl }

-- a segment is left
pub record Here (a : List ℕ) (n k p j : ℕ) : Type 0 where
  pub m : ℕ
  pub i : ℕ
  pub more : More a m p i n
  pub has : i + j < n
  pub same : item_of (blocks_from a (suc m) p) j n ≡ item_of (blocks_of a) k n

pub here : (a : List ℕ) (n k p j : ℕ) → Seeking a n k p j → Here a n k p j
here a n k p j s = go s.m s.i s.read s.has s.same
  where
    go : (m i : ℕ) → judge_from a m p i ≡ answer n → i + j < n → item_of (blocks_from a m p) j n ≡ item_of (blocks_of a) k n → Here a n k p j
    go zero i e h q = absurd (omega (arith, (last_of a p i n e).1))
    go (suc m) i e h q = record { m = m; i = i; more = more_of a m p i n e; has = h; same = q }

module _ (a : List ℕ) (n k p j : ℕ) (s : Seeking a n k p j) where
  pub segment_is : segment_at a p ≡ answer (here a n k p j s).more.k
  segment_is = (here a n k p j s).more.first

  -- it is not in this segment
  pub after : (w : ℕ) → (here a n k p j s).more.k ≡ w → w ≤ j → Seeking a n k (end_at p w) (j - w)
  after w e h =
      let x = here a n k p j s in
      let d : nat_abs (blocks a p) ≡ w = counted_as a p x.more.k x.more.first ∙ e in
      record {
        m = x.m;
        i = x.i + w;
        read = rw e at x.more.rest;
        has = omega (arith, x.has);
        same = sym (item_after a x.m p (nat_abs (line a p)) (nat_abs (column a p)) w n refl refl d j h) ∙ x.same;
      }

  -- it is
  pub found : (l c w : ℕ) → judge_of a ≡ answer n → (here a n k p j s).more.k ≡ w → nat_abs (line a p) ≡ l → nat_abs (column a p) ≡ c → j < w → block_read_of a k ≡ answer (block_of a l c (body_at p + 72 * j))
  found l c w e q el ec h =
      let x = here a n k p j s in
      let d : nat_abs (blocks a p) ≡ w = counted_as a p x.more.k x.more.first ∙ q in
      ap (λ (y : Said ℕ). onward y (λ (m : ℕ). item_of (blocks_of a) k m)) e ∙ sym x.same ∙ item_here a x.m p l c w n el ec d j h

-- there is no block k
pub not_found : (a : List ℕ) (n k : ℕ) → judge_of a ≡ answer n → n ≤ k → block_read_of a k ≡ refusal 19 n
not_found a n k e h =
    ap (λ (y : Said ℕ). onward y (λ (m : ℕ). item_of (blocks_of a) k m)) e
    ∙ item_none (blocks_of a) k n (omega (arith, count_is a (nat_abs (segments a)) first_at 0 n (opened a n e).walked))
