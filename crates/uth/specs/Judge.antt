-- Which files are read, and of the others the fault that is given (02, request Eleven: "Refusals, in this order: 30 short of 642 bytes, 31 M negative,
-- 32 segment out of grid, 33 N below 1, 34 cut segment header or block, 35 bytes left over, 18; place is the offset of the field or the missing byte,
-- faults taken in file order"). Assumes nothing.
use Rattle.std.specs.Prelude.{ℕ, zero, suc, ◌+◌, Bool, cond, List, leb, pos, nat_abs, length}
use Rattle.std.specs.Int.Signed.{lt_z}
use Rattle.calendar.specs.Said.{Said, answer, refusal}
use Rattle.uth.specs.Layout.{segments_at, segments, first_at, line, column, blocks, end_at, is_grid, is_some}

-- a fault: n, with its place, unless the test holds
abbrev pub unless : {A : Type 0} → Bool → ℕ → ℕ → Said A → Said A
unless ok n place rest = cond ok rest (refusal n place)

-- the bytes before e are there, or 34 with the first that is missing
abbrev pub cut : {A : Type 0} → List ℕ → ℕ → Said A → Said A
cut a e rest = unless (leb e (length a)) 34 (length a) rest

-- the segment that starts at p, its fields in file order: how many blocks it has
unfoldable pub segment_at : List ℕ → ℕ → Said ℕ
segment_at a p =
    cut a (p + 4)
    (unless (is_grid (line a p)) 32 p
    (cut a (p + 8)
    (unless (is_grid (column a p)) 32 (p + 4)
    (cut a (p + 36) (unless (is_some (blocks a p)) 33 (p + 32) (cut a (end_at p (nat_abs (blocks a p))) (answer (nat_abs (blocks a p)))))))))

-- an answer goes on, a refusal stays
abbrev pub onward : {A B : Type 0} → Said A → (A → Said B) → Said B
onward (answer x) f = f x
onward (refusal n place) f = refusal n place

-- m segments from p on, after n blocks: how many blocks there are in all
unfoldable pub judge_from : List ℕ → ℕ → ℕ → ℕ → Said ℕ
judge_from a zero p n = unless (leb (length a) p) 35 p (answer n)
judge_from a (suc m) p n = onward (segment_at a p) (λ (k : ℕ). judge_from a m (end_at p k) (n + k))

-- THE FILE
abbrev pub judge_of : List ℕ → Said ℕ
judge_of a =
    unless (leb first_at (length a)) 30 (length a)
    (cond (lt_z (segments a) (pos 0)) (refusal 31 segments_at) (judge_from a (nat_abs (segments a)) first_at 0))
