-- The blocks of a file, and where they are put (02, request Eleven: "Read the file from lent bytes, take each block's UTH and CSR .., and give each as
-- missing when it isn't finite"; refusal 18 last). Assumes nothing.
use Rattle.std.specs.Prelude.{ℕ, zero, suc, ◌+◌, ◌≡◌, cond, ◌&&◌, List, [], ◌∷◌, ◌++◌, map, leb, Float, nat_abs, length, drop, set}
use Rattle.std.specs.Float.{binary32}
use Rattle.std.specs.Float.Ieee.{of_bits}
use Rattle.calendar.specs.Said.{Said, answer, refusal}
use Rattle.uth.specs.Layout.{segments, first_at, line, column, blocks, body_at, end_at, uth_at, csr_at}
use Rattle.uth.specs.Value.{value_at}
use Rattle.uth.specs.Judge.{onward, judge_of}
use Rattle.std.specs.declared.option.Option.TheVariants.{Some, None}
use Rattle.std.specs.declared.option.Option.{Option}
use Rattle.std.specs.declared.result.Result.{Result}
use Rattle.calendar.specs.declared.Refusal.{Refusal}
use Rattle.calendar.specs.Said.{said}
use Rattle.uth.specs.declared.blocks.Block.{Block}

-- the block that starts at b, of a segment of this line and column
abbrev pub block_of : List ℕ → ℕ → ℕ → ℕ → Block
block_of a l c b = record { line = l; column = c; uth = value_at a (uth_at b); csr = value_at a (csr_at b) }

-- n blocks from b on, one after the other
unfoldable pub blocks_in : List ℕ → ℕ → ℕ → ℕ → ℕ → List Block
blocks_in a l c zero b = []
blocks_in a l c (suc n) b = block_of a l c b ∷ blocks_in a l c n (b + 72)

-- those of m segments from p on
unfoldable pub blocks_from : List ℕ → ℕ → ℕ → List Block
blocks_from a zero p = []
blocks_from a (suc m) p =
    blocks_in a (nat_abs (line a p)) (nat_abs (column a p)) (nat_abs (blocks a p)) (body_at p) ++ blocks_from a m (end_at p (nat_abs (blocks a p)))

abbrev pub blocks_of : List ℕ → List Block
blocks_of a = blocks_from a (nat_abs (segments a)) first_at

-- ---- a block in the two rooms: line, column, whether UTH and CSR are there; and UTH and CSR, where one is missing 0.0, which is all bits zero
abbrev pub flag_of : Option Float → ℕ
flag_of None = 0
flag_of (Some x) = 1

abbrev pub number_of : Option Float → Float
number_of None = of_bits binary32 0
number_of (Some x) = x

abbrev pub row_of : Block → List ℕ
row_of b = b.line ∷ b.column ∷ flag_of b.uth ∷ flag_of b.csr ∷ []

abbrev pub pair_of : Block → List Float
pair_of b = number_of b.uth ∷ number_of b.csr ∷ []

-- ---- reading into rooms of so many places: 18 last, where either is too small
abbrev pub read_of : List ℕ → ℕ → ℕ → Said ℕ
read_of a rows pairs = onward (judge_of a) (λ (n : ℕ). cond (leb n rows && leb n pairs) (answer n) (refusal 18 n))

-- a room at exit: what was read at its start and the rest kept; a refusal writes nothing
abbrev pub left : {A : Type 0} → Said ℕ → List A → List A → List A
left (answer n) new room = new ++ drop n room
left (refusal n place) new room = room

-- THE READER: what it answers, and both rooms at exit
pub record ReadsUth (a : List ℕ) (rows : List (List ℕ)) (pairs : List (List Float)) (r : Result ℕ Refusal) (rows' : List (List ℕ)) (pairs' : List (List Float)) : Type 0 where
  pub says : said r ≡ read_of a (length rows) (length pairs)
  pub rowed : rows' ≡ left (read_of a (length rows) (length pairs)) (map row_of (blocks_of a)) rows
  pub paired : pairs' ≡ left (read_of a (length rows) (length pairs)) (map pair_of (blocks_of a)) pairs

-- ---- block k alone
-- item k of a list, or 19 with the count
unfoldable pub item_of : {A : Type 0} → List A → ℕ → ℕ → Said A
item_of [] k n = refusal 19 n
item_of (x ∷ l) zero n = answer x
item_of (x ∷ l) (suc k) n = item_of l k n

-- THE QUERY: the file's own refusal, then 19
abbrev pub block_read_of : List ℕ → ℕ → Said Block
block_read_of a k = onward (judge_of a) (λ (n : ℕ). item_of (blocks_of a) k n)

-- ---- the code's own step: items stored one after the other from place i on
unfoldable pub put_all : {A : Type 0} → List A → ℕ → List A → List A
put_all room i [] = room
put_all room i (x ∷ l) = put_all (set room i x) (i + 1) l
