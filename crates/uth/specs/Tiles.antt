-- WHAT A FILE IS, apart from the order of its faults (02, request Eleven: "Segment line and column must be 1..80"; "blocks must tile the file").
-- Assumes nothing.
use Rattle.std.specs.Prelude.{ℕ, suc, ◌+◌, ◌≤◌, ◌≡◌, true, false, List, pos, nat_abs, length}
use Rattle.std.specs.Int.Signed.{lt_z}
use Rattle.uth.specs.Layout.{segments, first_at, line, column, blocks, end_at, is_grid, is_some}

-- a segment at p of n blocks: in the grid, and N is n, at least 1
pub record Segment (a : List ℕ) (p n : ℕ) : Type 0 where
  pub lined : is_grid (line a p) ≡ true
  pub columned : is_grid (column a p) ≡ true
  pub some : is_some (blocks a p) ≡ true
  pub counted : nat_abs (blocks a p) ≡ n

-- m segments from p on, with n blocks in all, reach e: each starts where the blocks of the one before it end
pub data Run (a : List ℕ) : ℕ → ℕ → ℕ → ℕ → Type 0 where
  none : {p : ℕ} → Run a 0 p 0 p
  more : {m p k n e : ℕ} → Segment a p k → Run a m (end_at p k) n e → Run a (suc m) p (k + n) e

-- the segments, as many as M says, and their n blocks tile the file, from its 642 bytes of text and header to its end
pub record Tiles (a : List ℕ) (n : ℕ) : Type 0 where
  pub headed : first_at ≤ length a
  pub natural : lt_z (segments a) (pos 0) ≡ false
  pub run : Run a (nat_abs (segments a)) first_at n (length a)
