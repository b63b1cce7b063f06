-- The reader, by its cases: the file's refusal, a room that is too small, and what the rooms hold otherwise. Assumes nothing.
use mathlib.Core.Path.{◌≡◌, sym, ap, ◌∙◌}
use mathlib.Core.List.{List, ◌++◌, map}
use Prim.Native.Nat.{ℕ, ◌≤◌, ◌<◌}
use native.Mathlib.Omega.{arith}
use borrow.Author.Tests.{le-leb, lt-leb}
use lib.Ieee.{Float}
use lib.IntN.{nat_abs}
use lib.ListN.{length, drop, length-map}
use Rattle.calendar.specs.Said.{Said, answer, refusal}
use Rattle.uth.specs.Layout.{segments, first_at}
use Rattle.uth.specs.Judge.{judge_of}
use Rattle.uth.specs.Blocks.{blocks_of, row_of, pair_of, read_of, left, ReadsUth, put_all}
use Rattle.uth.specs.declared.blocks.Block.{Block}
use Rattle.std.specs.declared.result.Result.TheVariants.{Ok}
use Rattle.std.specs.declared.result.Result.{Result}
use Rattle.calendar.specs.declared.Refusal.{Refusal}
use Rattle.calendar.specs.Said.{said}
use Rattle.uth.proofs.BlockLaws.{count_is}
use Rattle.uth.proofs.JudgeLaws.{opened}
use Rattle.uth.proofs.PutLaws.{put_all_lem}

-- ---- what is answered
module _ (a : List ℕ) (r v : ℕ) where
  pub own_refusal : (x y : ℕ) → judge_of a ≡ refusal x y → read_of a r v ≡ refusal x y
  own_refusal x y e = rw e

  module _ (n : ℕ) (e : judge_of a ≡ answer n) where
    pub few_rows : r < n → read_of a r v ≡ refusal 18 n
    few_rows h = rw (e, lt-leb n r h)

    pub few_pairs : n ≤ r → v < n → read_of a r v ≡ refusal 18 n
    few_pairs h l = rw (e, le-leb n r h, lt-leb n v l)

    pub fits : n ≤ r → n ≤ v → read_of a r v ≡ answer n
    fits h l = rw (e, le-leb n r h, le-leb n v l)

-- ---- and what the rooms hold
module _ (a : List ℕ) (rows : List (List ℕ)) (pairs : List (List Float)) where
  pub refuses : (r : Result ℕ Refusal) (x y : ℕ) → said r ≡ refusal x y → read_of a (length rows) (length pairs) ≡ refusal x y → ReadsUth a rows pairs r rows pairs
  refuses r x y e q =
      record {
        says = e ∙ sym q;
        rowed = sym (ap (λ (s : Said ℕ). left s (map row_of (blocks_of a)) rows) q);
        paired = sym (ap (λ (s : Said ℕ). left s (map pair_of (blocks_of a)) pairs) q);
      }

  blocks_count : (n : ℕ) → judge_of a ≡ answer n → length (blocks_of a) ≡ n
  blocks_count n e = omega (arith, count_is a (nat_abs (segments a)) first_at 0 n (opened a n e).walked)

  put_is : {A : Type 0} (f : Block → A) (room : List A) (n : ℕ) → judge_of a ≡ answer n → n ≤ length room → put_all room 0 (map f (blocks_of a)) ≡ map f (blocks_of a) ++ drop n room
  put_is f room n e h =
      let k : length (map f (blocks_of a)) ≡ n = length-map (blocks_of a) f ∙ blocks_count n e in
      put_all_lem room (map f (blocks_of a)) (omega arith) ∙ ap (λ (m : ℕ). map f (blocks_of a) ++ drop m room) k

  pub reads : (n : ℕ) (rows' : List (List ℕ)) (pairs' : List (List Float)) → judge_of a ≡ answer n → n ≤ length rows → n ≤ length pairs → rows' ≡ put_all rows 0 (map row_of (blocks_of a)) → pairs' ≡ put_all pairs 0 (map pair_of (blocks_of a)) → ReadsUth a rows pairs (Ok n) rows' pairs'
  reads n rows' pairs' e h l x y =
      let q = fits a (length rows) (length pairs) n e h l in
      record {
        says = sym q;
        rowed = x ∙ put_is row_of rows n e h ∙ sym (ap (λ (s : Said ℕ). left s (map row_of (blocks_of a)) rows) q);
        paired = y ∙ put_is pair_of pairs n e l ∙ sym (ap (λ (s : Said ℕ). left s (map pair_of (blocks_of a)) pairs) q);
      }
