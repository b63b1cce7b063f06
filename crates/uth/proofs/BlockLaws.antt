-- The laws of blocks: how many there are, how they are put one after the other, and which is block k. By induction on the segments. Assumes nothing.
use mathlib.Core.Path.{◌≡◌, refl, ap, ◌∙◌}
use mathlib.Core.List.{List, [], ◌∷◌, ◌++◌, map}
use Prim.Native.Nat.{ℕ, zero, suc, ◌+◌, ◌-◌, ◌*◌, ◌≤◌, ◌<◌}
use native.Mathlib.Omega.{arith}
use lib.IntN.{nat_abs}
use lib.ListN.{length, set, length-append, length-map}
use Rattle.calendar.specs.Said.{answer, refusal}
use Rattle.uth.specs.Layout.{line, column, blocks, body_at, end_at}
use Rattle.uth.specs.Judge.{judge_from}
use Rattle.uth.specs.Blocks.{block_of, blocks_in, blocks_from, item_of, put_all}
use Rattle.uth.specs.declared.blocks.Block.{Block}
use Rattle.uth.proofs.JudgeLaws.{answered, more_of, last_of}
use Rattle.uth.proofs.PutLaws.{put_append}

pub in_length : (a : List ℕ) (l c n b : ℕ) → length (blocks_in a l c n b) ≡ n
unfolding blocks_in
in_length a l c zero b = refl
in_length a l c (suc n) b = ap suc (in_length a l c n (b + 72))

-- as many blocks as the walk counts
pub count_is : (a : List ℕ) (m p n c : ℕ) → judge_from a m p n ≡ answer c → n + length (blocks_from a m p) ≡ c
unfolding blocks_from
count_is a zero p n c e = omega (arith, (last_of a p n c e).1)
count_is a (suc m) p n c e =
    let x = more_of a m p n c e in
    let k = nat_abs (blocks a p) in
    let q : k ≡ x.k = (answered a p x.k x.first).segment.counted in
    let r : n + x.k + length (blocks_from a m (end_at p x.k)) ≡ c = count_is a m (end_at p x.k) (n + x.k) c x.rest in
    let r' : n + k + length (blocks_from a m (end_at p k)) ≡ c = rw q r in
    omega (
      arith,
      r',
      length-append (blocks_in a (nat_abs (line a p)) (nat_abs (column a p)) k (body_at p)) (blocks_from a m (end_at p k)),
      in_length a (nat_abs (line a p)) (nat_abs (column a p)) k (body_at p),
    )

map_append : {A B : Type 0} (f : A → B) (x y : List A) → map f (x ++ y) ≡ map f x ++ map f y
map_append f [] y = refl
map_append f (a ∷ x) y = ap (λ l. f a ∷ l) (map_append f x y)

-- the first segment's, then those after it
apart : (a : List ℕ) (m p l c k : ℕ) → nat_abs (line a p) ≡ l → nat_abs (column a p) ≡ c → nat_abs (blocks a p) ≡ k → blocks_from a (suc m) p ≡ blocks_in a l c k (body_at p) ++ blocks_from a m (end_at p k)
unfolding blocks_from
apart a m p l c k el ec ek = rw (el, ec, ek)

-- ---- in a room, by whatever is put of a block
module _ {A : Type 0} (f : Block → A) (a : List ℕ) where
  pub put_one : (room : List A) (i l c n b : ℕ) → 0 < n → put_all room i (map f (blocks_in a l c n b)) ≡ put_all (set room i (f (block_of a l c b))) (i + 1) (map f (blocks_in a l c (n - 1) (b + 72)))
  unfolding put_all blocks_in
  put_one room i l c zero b h = absurd (omega arith)
  put_one room i l c (suc n) b h = let z : suc n - 1 ≡ n = omega arith in rw z

  pub put_none : (room : List A) (i l c n b : ℕ) → n ≡ 0 → put_all room i (map f (blocks_in a l c n b)) ≡ room
  unfolding put_all blocks_in
  put_none room i l c zero b e = refl
  put_none room i l c (suc n) b e = absurd (omega arith)

  pub put_rest : (room : List A) (i m p : ℕ) → m ≡ 0 → put_all room i (map f (blocks_from a m p)) ≡ room
  unfolding put_all blocks_from
  put_rest room i zero p e = refl
  put_rest room i (suc m) p e = absurd (omega arith)

  pub put_segment : (room : List A) (i m p l c k : ℕ) → 0 < m → nat_abs (line a p) ≡ l → nat_abs (column a p) ≡ c → nat_abs (blocks a p) ≡ k → put_all room i (map f (blocks_from a m p)) ≡ put_all (put_all room i (map f (blocks_in a l c k (body_at p)))) (i + k) (map f (blocks_from a (m - 1) (end_at p k)))
  put_segment room i zero p l c k h el ec ek = absurd (omega arith)
  put_segment room i (suc m) p l c k h el ec ek =
      let z : suc m - 1 ≡ m = omega arith in
      let x = blocks_in a l c k (body_at p) in
      let y = blocks_from a m (end_at p k) in
      let w : length (map f x) ≡ k = length-map x f ∙ in_length a l c k (body_at p) in
      ap (λ (q : List Block). put_all room i (map f q)) (apart a m p l c k el ec ek)
      ∙ ap (put_all room i) (map_append f x y)
      ∙ put_append room i (map f x) (map f y)
      ∙ rw (w, z)

-- ---- block k
module _ {A : Type 0} where
  pub item_left : (x y : List A) (k n : ℕ) → k < length x → item_of (x ++ y) k n ≡ item_of x k n
  unfolding item_of
  item_left [] y k n h = absurd (omega arith)
  item_left (a ∷ x) y zero n h = refl
  item_left (a ∷ x) y (suc k) n h = item_left x y k n (omega arith)

  pub item_right : (x y : List A) (k n : ℕ) → length x ≤ k → item_of (x ++ y) k n ≡ item_of y (k - length x) n
  unfolding item_of
  item_right [] y k n h = let e : k - 0 ≡ k = omega arith in rw e
  item_right (a ∷ x) y zero n h = absurd (omega arith)
  item_right (a ∷ x) y (suc k) n h = let e : suc k - suc (length x) ≡ k - length x = omega arith in item_right x y k n (omega arith) ∙ rw e

  pub item_none : (x : List A) (k n : ℕ) → length x ≤ k → item_of x k n ≡ refusal 19 n
  unfolding item_of
  item_none [] k n h = refl
  item_none (a ∷ x) zero n h = absurd (omega arith)
  item_none (a ∷ x) (suc k) n h = item_none x k n (omega arith)

pub item_in : (a : List ℕ) (l c m b k n : ℕ) → k < m → item_of (blocks_in a l c m b) k n ≡ answer (block_of a l c (b + 72 * k))
unfolding item_of blocks_in
item_in a l c zero b k n h = absurd (omega arith)
item_in a l c (suc m) b zero n h = let e : b + 72 * 0 ≡ b = omega arith in rw e
item_in a l c (suc m) b (suc k) n h =
    let e : b + 72 + 72 * k ≡ b + 72 * suc k = omega arith in
    item_in a l c m (b + 72) k n (omega arith) ∙ ap (λ (q : ℕ). answer (block_of a l c q)) e

-- of a file's segments: in the first of them, or in one after it
module _ (a : List ℕ) (m p l c k n : ℕ) (el : nat_abs (line a p) ≡ l) (ec : nat_abs (column a p) ≡ c) (ek : nat_abs (blocks a p) ≡ k) where
  pub item_here : (j : ℕ) → j < k → item_of (blocks_from a (suc m) p) j n ≡ answer (block_of a l c (body_at p + 72 * j))
  item_here j h =
      ap (λ (q : List Block). item_of q j n) (apart a m p l c k el ec ek)
      ∙ item_left (blocks_in a l c k (body_at p)) (blocks_from a m (end_at p k)) j n (omega (arith, in_length a l c k (body_at p)))
      ∙ item_in a l c k (body_at p) j n h

  pub item_after : (j : ℕ) → k ≤ j → item_of (blocks_from a (suc m) p) j n ≡ item_of (blocks_from a m (end_at p k)) (j - k) n
  item_after j h =
      let w = in_length a l c k (body_at p) in
      ap (λ (q : List Block). item_of q j n) (apart a m p l c k el ec ek)
      ∙ item_right (blocks_in a l c k (body_at p)) (blocks_from a m (end_at p k)) j n (omega arith)
      ∙ rw w
