-- The walk over the records of a product that is complete: the lines of the records that are left, counted or written, give the whole listing.
-- By the law of the walk (finish, AheadLaws). Assumes nothing.
use Prim.Native.Nat.{ℕ, ◌+◌, ◌-◌, ◌*◌, ◌≤◌, ◌<◌}
use native.Mathlib.Omega.{arith}
use mathlib.Core.Path.{◌≡◌, refl, sym, ap, ◌∙◌}
use mathlib.Core.List.{List, [], ◌∷◌, ◌++◌, append_assoc}
use lib.ListN.{length, get_or, length-append}
use lib.Seq.{sets}
use Rattle.mphr.specs.Layout.{bytes_of}
use Rattle.judge.specs.Table.{size_at}
use Rattle.judge.specs.Extent.{Covered}
use Rattle.finish.specs.Finish.{starts}
use Rattle.finish.specs.Ahead.{Record, Ahead}
use Rattle.finish.proofs.AheadLaws.{ahead_step, ahead_stop, record_here, ahead_first}
use Rattle.listing.specs.Decimal.{decimal, column, Puts}
use Rattle.listing.specs.Listing.{line, lines, listing, Listable, Needs, Roomy, Full}
use Rattle.listing.proofs.ColumnLaws.{column_length}
use Rattle.listing.proofs.StoreLaws.{sets_append, puts_length}

-- ---- the length of a line
pub width_at : {r x y : ℕ} → r ≡ length (decimal x) → x ≡ y → r ≡ length (decimal y)
width_at e f = e ∙ ap (λ (k : ℕ). length (decimal k)) f

pub line_length :
    (a : List ℕ) (i : ℕ)
    → length (line a i) ≡ length (decimal i) + length (decimal (get_or a i 0)) + length (decimal (get_or a (i + 1) 0)) + length (decimal (get_or a (i + 2) 0)) + length (decimal (get_or a (i + 3) 0)) + length (decimal (size_at a i)) + 6
unfolding line
line_length a i = simp length-append (omega arith)

-- ---- counting
-- n bytes are counted; with the lines that are left they are all
pub record Counting {a : List ℕ} {c : ℕ} (v : Covered a c) (n i : ℕ) : Type 0 where
  pub left : List ℕ
  pub ahead : Ahead a i left
  pub same : n + length (lines a left) ≡ length (listing v)

pub record Counted (a : List ℕ) (c n i : ℕ) : Type 0 where
  pub asked : Listable a c
  pub small : n ≤ 155 + 126 * i
  pub each : (v : Covered a c) → Counting v n i

lines_more : (a : List ℕ) (l m : List ℕ) (i : ℕ) → l ≡ i ∷ m → lines a l ≡ line a i ++ lines a m
unfolding lines
lines_more a l m i e = rw e

lines_none : (a l : List ℕ) → l ≡ [] → lines a l ≡ []
unfolding lines
lines_none a l e = rw e

pub listing_parts : {a : List ℕ} {c : ℕ} (v : Covered a c) → listing v ≡ (bytes_of "records " ++ column c 10) ++ (line a 0 ++ lines a (starts v.way))
listing_parts {a} {c} v = ap (λ (l : List ℕ). (bytes_of "records " ++ column c 10) ++ l) (lines_more a (0 ∷ starts v.way) (starts v.way) 0 refl)

pub counted_first : {a : List ℕ} {c p z : ℕ} → Listable a c → p ≡ length (decimal c) → p ≤ 20 → z ≡ length (line a 0) → z ≤ 126 → Counted a c (9 + p + z) 3307
counted_first {a} {c} {p} {z} q e h f l = record { asked = q; small = omega arith; each = go }
  where
    go : (v : Covered a c) → Counting v (9 + p + z) 3307
    go v = record {
      left = starts v.way;
      ahead = ahead_first q.complete v;
      same =
          let ls = lines a (starts v.way) in
          omega (arith, e, f, ap length (listing_parts v), length-append (column c 10) (line a 0 ++ ls), length-append (line a 0) ls, column_length c 10);
    }

pub counted_record : {a : List ℕ} {c n i : ℕ} → Counted a c n i → i < length a → Record a i
counted_record k h = record_here (k.each k.asked.covered).ahead h

pub counted_next : {a : List ℕ} {c n i w z : ℕ} → Counted a c n i → i < length a → w ≡ length (line a i) → w ≤ 126 → z ≡ size_at a i → Counted a c (n + w) (i + z)
counted_next {a} {c} {n} {i} {w} {z} k h e l f = rw f (record { asked = k.asked; small = omega (arith, k.small, (counted_record k h).least); each = go })
  where
    go : (v : Covered a c) → Counting v (n + w) (i + size_at a i)
    go v =
        let t = k.each v in
        let m = ahead_step t.ahead h in
        record {
          left = m.rest;
          ahead = m.on;
          same = omega (arith, e, t.same, ap length (lines_more a t.left m.rest i m.is), length-append (line a i) (lines a m.rest));
        }

pub counted_last : {a : List ℕ} {c n i : ℕ} → Counted a c n i → length a ≤ i → Needs a c n
counted_last {a} k h v =
    let t = k.each v in
    omega (arith, t.same, ap length (lines_none a t.left (ahead_stop t.ahead h)))

-- ---- writing
-- what is left to write, from byte p on, gives what was left to write in room₀ from byte p₀ on
pub record Laying {a : List ℕ} {c : ℕ} (v : Covered a c) (room₀ : List ℕ) (p₀ : ℕ) (room : List ℕ) (p i : ℕ) : Type 0 where
  pub left : List ℕ
  pub ahead : Ahead a i left
  pub fits : p + length (lines a left) ≤ length room
  pub same : sets room p (lines a left) ≡ sets room₀ p₀ (lines a (starts v.way))

pub record Laid (a : List ℕ) (c : ℕ) (room₀ : List ℕ) (p₀ : ℕ) (room : List ℕ) (p i : ℕ) : Type 0 where
  pub asked : Listable a c
  pub size : length room ≡ length room₀
  pub each : (v : Covered a c) → Laying v room₀ p₀ room p i

pub laid_first : {a room : List ℕ} {c p : ℕ} → Listable a c → ((v : Covered a c) → p + length (lines a (starts v.way)) ≤ length room) → Laid a c room p room p 3307
laid_first q h = record { asked = q; size = refl; each = λ v. record { left = starts v.way; ahead = ahead_first q.complete v; fits = h v; same = refl } }

pub laid_record : {a room₀ room : List ℕ} {c p₀ p i : ℕ} → Laid a c room₀ p₀ room p i → i < length a → Record a i
laid_record k h = record_here (k.each k.asked.covered).ahead h

-- the next line has room
pub laid_fits : {a room₀ room : List ℕ} {c p₀ p i : ℕ} → Laid a c room₀ p₀ room p i → i < length a → p + length (line a i) ≤ length room
laid_fits {a} {i = i} k h =
    let t = k.each k.asked.covered in
    let m = ahead_step t.ahead h in
    omega (arith, t.fits, ap length (lines_more a t.left m.rest i m.is), length-append (line a i) (lines a m.rest))

pub laid_next : {a room₀ room exit : List ℕ} {c p₀ p i q z : ℕ} → Laid a c room₀ p₀ room p i → i < length a → Puts room p (line a i) q exit → z ≡ size_at a i → Laid a c room₀ p₀ exit q (i + z)
laid_next {a} {room₀} {room} {exit} {c} {p₀} {p} {i} {q} {z} k h f e = rw e (record { asked = k.asked; size = puts_length f ∙ k.size; each = go })
  where
    go : (v : Covered a c) → Laying v room₀ p₀ exit q (i + size_at a i)
    go v =
        let t = k.each v in
        let m = ahead_step t.ahead h in
        let ls = lines a m.rest in
        let d = lines_more a t.left m.rest i m.is in
        record {
          left = m.rest;
          ahead = m.on;
          fits = omega (arith, t.fits, f.next, puts_length f, ap length d, length-append (line a i) ls);
          same =
              ap (λ (r : List ℕ). sets r q ls) f.put
              ∙ ap (λ (k : ℕ). sets (sets room p (line a i)) k ls) f.next
              ∙ sym (sets_append room p (line a i) ls)
              ∙ ap (sets room p) (sym d)
              ∙ t.same;
        }

pub laid_last : {a room₀ room : List ℕ} {c p₀ p i : ℕ} → Laid a c room₀ p₀ room p i → length a ≤ i → (v : Covered a c) → room ≡ sets room₀ p₀ (lines a (starts v.way))
laid_last {a} {room₀} {room} {c} {p₀} {p} k h v =
    let t = k.each v in
    ap (sets room p) (sym (lines_none a t.left (ahead_stop t.ahead h))) ∙ t.same

-- the head and the main header's line
pub record Begun (a : List ℕ) (c : ℕ) (room₀ : List ℕ) (p : ℕ) (room : List ℕ) : Type 0 where
  pub asked : Roomy a c room₀
  pub puts : Puts room₀ 0 ((bytes_of "records " ++ column c 10) ++ line a 0) p room

listing_joined : {a : List ℕ} {c : ℕ} (v : Covered a c) → listing v ≡ ((bytes_of "records " ++ column c 10) ++ line a 0) ++ lines a (starts v.way)
listing_joined {a} {c} v = listing_parts v ∙ sym (append_assoc (bytes_of "records " ++ column c 10) (line a 0) (lines a (starts v.way)))

pub head_fits : {a room : List ℕ} {c : ℕ} → Roomy a c room → (length (bytes_of "records " ++ column c 10) + length (line a 0) ≤ length room) × (8 + length (column c 10) ≤ length room)
head_fits {a} {room} {c} q =
    let v = q.asked.covered in
    let ls = lines a (starts v.way) in
    let e = ap length (listing_parts v) ∙ length-append (bytes_of "records " ++ column c 10) (line a 0 ++ ls) in
    (omega (arith, q.enough v, e, length-append (line a 0) ls), omega (arith, q.enough v, e))

pub begun_laid : {a room₀ room : List ℕ} {c p : ℕ} → Begun a c room₀ p room → Laid a c room p room p 3307
begun_laid {a} {room₀} {room} {c} {p} b = laid_first b.asked.asked go
  where
    go : (v : Covered a c) → p + length (lines a (starts v.way)) ≤ length room
    go v =
        let h = (bytes_of "records " ++ column c 10) ++ line a 0 in
        let e = ap length (listing_joined v) ∙ length-append h (lines a (starts v.way)) in
        omega (arith, b.asked.enough v, e, b.puts.next, puts_length b.puts)

pub begun_last : {a room₀ room exit : List ℕ} {c p : ℕ} → Begun a c room₀ p room → ((v : Covered a c) → exit ≡ sets room p (lines a (starts v.way))) → Full a c room₀ exit
begun_last {a} {room₀} {room} {exit} {c} {p} b f v =
    let h = (bytes_of "records " ++ column c 10) ++ line a 0 in
    let ls = lines a (starts v.way) in
    f v
    ∙ ap (λ (r : List ℕ). sets r p ls) b.puts.put
    ∙ ap (λ (k : ℕ). sets (sets room₀ 0 h) k ls) b.puts.next
    ∙ sym (sets_append room₀ 0 h ls)
    ∙ ap (sets room₀ 0) (sym (listing_joined v))

pub less : {n i z : ℕ} → i < n → 1 ≤ z → n - (i + z) < n - i
less h l = omega arith
