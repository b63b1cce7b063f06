-- RECORDS BUT FOR THE TIMES OF THEIR HEADERS: what is compared of a record tells its size, so that two lists of records agree exactly where each two records
-- do, at the same bytes of their texts. By induction on the records. Assumes nothing.
use Prim.Native.Nat.{ℕ, ◌+◌, ◌-◌, ◌≤◌, ◌<◌}
use native.Mathlib.Omega.{arith}
use mathlib.Core.Path.{◌≡◌, refl, sym, ap, subst, ◌∙◌}
use mathlib.Core.Bool.{Bool, true, false}
use mathlib.Core.List.Memᴰ.{head as top}
use mathlib.Core.List.Memᴰ.{tail as pop}
use mathlib.Core.List.{List, [], ◌∷◌, ◌++◌, Memᴰ as In}
use lib.ListN.{length, get_or, take, drop, length-append, length-drop}
use lib.Seq.{take-take, take-add, take_at, drop_at, drop-drop, length-take-le}
use Rattle.meter.proofs.IntegerLaws.{be_at_same}
use Rattle.demands.specs.Product.{size}
use Rattle.parts.specs.Parts.{joined, bytes, Own}
use Rattle.parts.specs.Join.{identical, granules, untimed, seen}
use Rattle.parts.specs.Walk.{Walk}
use Rattle.parts.proofs.WalkLaws.{Ahead, Next, next, walk_next, walk_none, ahead_size, one_walk}
use Rattle.rewrite.specs.Comparing.{untimed_at, Untimable, Texts, SeenIs}
use Rattle.bytewise.specs.Comparing.{Decides, SameIs}
use Rattle.rewrite.proofs.CopyLaws.{part_long}
use Rattle.bytewise.proofs.CompareLaws.{part_at, no_it_is, yes_it_is, decides_as}
use Rattle.rewrite.proofs.StretchLaws.{one_text}

-- ---- what is compared of the bytes from i on: the first 8, and those after the times
module _ (a b : List ℕ) (i m n : ℕ) (h : i + 8 ≤ length a) (k : i + 8 ≤ length b) (e : untimed_at a i m ≡ untimed_at b i n) where
  front_same : take 8 (drop i a) ≡ take 8 (drop i b)
  front_same =
      sym (take_at (take 8 (drop i a)) (take (m - 20) (drop (i + 20) a)) 8 (part_long a i 8 h)) ∙ ap (take 8) e ∙ take_at (take 8 (drop i b)) (take (n - 20) (drop (i + 20) b)) 8 (part_long b i 8 k)

  rest_same : take (m - 20) (drop (i + 20) a) ≡ take (n - 20) (drop (i + 20) b)
  rest_same =
      sym (drop_at (take 8 (drop i a)) (take (m - 20) (drop (i + 20) a)) 8 (part_long a i 8 h)) ∙ ap (drop 8) e ∙ drop_at (take 8 (drop i b)) (take (n - 20) (drop (i + 20) b)) 8 (part_long b i 8 k)

-- ---- ONE RECORD, at byte i of a text
untimed_of : {a : List ℕ} {i : ℕ} {x : List ℕ} → Ahead a i x → untimed x ≡ untimed_at a i (length x)
untimed_of {a} {i} {x} h =
    let n = length x in
    let d = drop i a in
    let l = h.own.least in
    let m : 20 ≤ length d = omega (arith, length-drop i a, h.most) in
    let z : 20 + (n - 20) ≡ n = omega arith in
    let f : take 8 x ≡ take 8 d = ap (take 8) (sym h.part) ∙ take-take 8 n d (omega arith) in
    let g : drop 20 x ≡ take (n - 20) (drop (i + 20) a) =
    ap (drop 20) (sym h.part ∙ ap (λ (k : ℕ). take k d) (sym z) ∙ take-add 20 (n - 20) d)
    ∙ drop_at (take 20 d) (take (n - 20) (drop 20 d)) 20 (length-take-le 20 d m)
    ∙ ap (take (n - 20)) (drop-drop 20 i a) in
    ap (λ (q : List ℕ). q ++ drop 20 x) f ∙ ap (λ (q : List ℕ). take 8 d ++ q) g

-- its first 8 bytes tell its size
front_size : {a b : List ℕ} {i : ℕ} {x y : List ℕ} → Ahead a i x → Ahead b i y → take 8 (drop i a) ≡ take 8 (drop i b) → length x ≡ length y
front_size {a} {b} {i} h k e = sym (ahead_size h) ∙ be_at_same a b (i + 4) (i + 4) 4 (λ j l. byte j l) ∙ ahead_size k
  where
    byte : (j : ℕ) → j < 4 → get_or a (i + 4 + j) 0 ≡ get_or b (i + 4 + j) 0
    byte j l =
        let z : i + 4 + j ≡ i + (4 + j) = omega arith in
        rw z (sym (part_at a i 8 (4 + j) (omega arith)) ∙ ap (λ (q : List ℕ). get_or q (4 + j) 0) e ∙ part_at b i 8 (4 + j) (omega arith))

module _ {a b : List ℕ} {i : ℕ} {x y : List ℕ} (h : Ahead a i x) (k : Ahead b i y) where
  come_1 : i + 8 ≤ length a
  come_1 = omega (arith, h.most, h.own.least)

  come_2 : i + 8 ≤ length b
  come_2 = omega (arith, k.most, k.own.least)

  -- the two records are compared by the size of the first
  pub untimed_decides : {r : Bool} (n : ℕ) → n ≡ length x → Decides (untimed_at a i n ≡ untimed_at b i n) r → Decides (untimed x ≡ untimed y) r
  untimed_decides n e d =
      decides_as
      (λ s.
      let l = front_size h k (front_same a b i n n come_1 come_2 s) in
      untimed_of h ∙ ap (untimed_at a i) (sym e) ∙ s ∙ ap (untimed_at b i) (e ∙ l) ∙ sym (untimed_of k))
      (λ s.
      let t = sym (untimed_of h) ∙ s ∙ untimed_of k in
      let l = front_size h k (front_same a b i (length x) (length y) come_1 come_2 t) in
      ap (untimed_at a i) e ∙ t ∙ ap (untimed_at b i) (sym (e ∙ l)))
      d

-- by its two parts
module _ {a b : List ℕ} {i n : ℕ} (u : Untimable a b i n) where
  one_first : i + 8 ≤ length a
  one_first = omega (arith, u.least, u.first)

  one_second : i + 8 ≤ length b
  one_second = omega (arith, u.least, u.second)

  pub one_no : {q : Bool} → SameIs (take 8 (drop i a)) (take 8 (drop i b)) q → q ≡ false → Decides (untimed_at a i n ≡ untimed_at b i n) false
  one_no d e = no_it_is (λ s. d.wrong e (front_same a b i n n one_first one_second s))

-- what is compared of a record is 12 bytes less
untimed_long : (x : List ℕ) → 20 ≤ length x → length (untimed x) + 12 ≡ length x
untimed_long x h = omega (arith, length-append (take 8 x) (drop 20 x), length-take-le 8 x (omega arith), length-drop 20 x)

pub both_long : (x y : List ℕ) → 20 ≤ length x → 20 ≤ length y → untimed x ≡ untimed y → length x ≡ length y
both_long x y h k e = omega (arith, untimed_long x h, untimed_long y k, ap length e)

-- ---- THE RECORDS, those from byte i of each text on
pub record Untiming (a b : List ℕ) (i : ℕ) : Type 0 where
  pub small : length a ≤ 2147483647
  pub long : length a ≡ length b
  pub first : List (List ℕ)
  pub second : List (List ℕ)
  pub walk_1 : Walk a i first
  pub walk_2 : Walk b i second
  pub on : (r : Bool) → Decides (seen granules first ≡ seen granules second) r → SeenIs granules a b r

pub untiming_first : {a b : List ℕ} → Texts a b → Untiming a b 0
untiming_first {a} {b} t = record {
  small = t.small;
  long = t.long;
  first = t.first;
  second = t.second;
  walk_1 = t.walk_1;
  walk_2 = t.walk_2;
  on = λ r d xs ys v w.
      subst (λ (l : List (List ℕ)). Decides (seen granules xs ≡ seen granules l) r) (one_walk t.second ys t.walk_2 w)
      (subst (λ (l : List (List ℕ)). Decides (seen granules l ≡ seen granules t.second) r) (one_walk t.first xs t.walk_1 v) d);
}

-- a record stands there, in each
record Turned (a b : List ℕ) (i : ℕ) (xs ys : List (List ℕ)) : Type 0 where
  x : List ℕ
  y : List ℕ
  us : List (List ℕ)
  vs : List (List ℕ)
  ahead_1 : Ahead a i x
  ahead_2 : Ahead b i y
  walk_1 : Walk a (i + length x) us
  walk_2 : Walk b (i + length y) vs
  xs_are : xs ≡ x ∷ us
  ys_are : ys ≡ y ∷ vs

turn : {a b : List ℕ} {i : ℕ} (xs ys : List (List ℕ)) → Walk a i xs → Walk b i ys → i < length a → length a ≡ length b → Turned a b i xs ys
turn {a} {b} {i} xs ys v w h e = go (walk_next v h) (walk_next w (omega arith))
  where
    go : {xs ys : List (List ℕ)} → Next a i xs → Next b i ys → Turned a b i xs ys
    go (next {r = r} {rs = rs} p v) (next {r = q} {rs = qs} k w) = record { x = r; y = q; us = rs; vs = qs; ahead_1 = p; ahead_2 = k; walk_1 = v; walk_2 = w; xs_are = refl; ys_are = refl }

seen_cons : (x y : List ℕ) (us vs : List (List ℕ)) → untimed x ≡ untimed y → seen granules us ≡ seen granules vs → seen granules (x ∷ us) ≡ seen granules (y ∷ vs)
seen_cons x y us vs e d = ap (λ (l : List ℕ). l ∷ seen granules us) e ∙ ap (λ (l : List (List ℕ)). untimed y ∷ l) d

cons_both : {x y : List ℕ} {us vs : List (List ℕ)} → x ∷ us ≡ y ∷ vs → (x ≡ y) × (us ≡ vs)
cons_both e = (cc, cc)

module _ {a b : List ℕ} {i : ℕ} (u : Untiming a b i) (h : i < length a) where
  now_at : Turned a b i u.first u.second
  now_at = turn u.first u.second u.walk_1 u.walk_2 h u.long

  sized : size a i ≡ length now_at.x
  sized = ahead_size now_at.ahead_1

  pub untiming_come : i + 20 ≤ length a
  untiming_come = omega (arith, now_at.ahead_1.most, now_at.ahead_1.own.least)

  pub untiming_least : 20 ≤ size a i
  untiming_least = omega (arith, sized, now_at.ahead_1.own.least)

  pub untiming_most : i + size a i ≤ length a
  untiming_most = omega (arith, sized, now_at.ahead_1.most)

  pub untimable : (n : ℕ) → n ≡ size a i → Untimable a b i n
  untimable n e = record { small = u.small; least = omega (arith, untiming_least); first = omega (arith, untiming_most); second = omega (arith, untiming_most, u.long) }

  module _ {r : Bool} (n : ℕ) (e : n ≡ size a i) (d : Decides (untimed_at a i n ≡ untimed_at b i n) r) where
    one_says : Decides (untimed now_at.x ≡ untimed now_at.y) r
    one_says = untimed_decides now_at.ahead_1 now_at.ahead_2 n (e ∙ sized) d

    pub untiming_no : r ≡ false → SeenIs granules a b false
    untiming_no f =
        u.on false (no_it_is (λ s. one_says.wrong f (cons_both (sym (ap (seen granules) now_at.xs_are) ∙ s ∙ ap (seen granules) now_at.ys_are)).0))

    pub untiming_next : r ≡ true → Untiming a b (i + n)
    untiming_next f =
        let t = now_at in
        let same = one_says.right f in
        let l : length t.x ≡ length t.y = both_long t.x t.y t.ahead_1.own.least t.ahead_2.own.least same in
        record {
          small = u.small;
          long = u.long;
          first = t.us;
          second = t.vs;
          walk_1 = subst (λ (k : ℕ). Walk a (i + k) t.us) (sym (e ∙ sized)) t.walk_1;
          walk_2 = subst (λ (k : ℕ). Walk b (i + k) t.vs) (sym (e ∙ sized ∙ l)) t.walk_2;
          on = λ q c.
              u.on q
              (decides_as
              (λ s. ap (seen granules) t.xs_are ∙ seen_cons t.x t.y t.us t.vs same s ∙ sym (ap (seen granules) t.ys_are))
              (λ s. (cons_both (sym (ap (seen granules) t.xs_are) ∙ s ∙ ap (seen granules) t.ys_are)).1)
              c);
        }

pub untiming_last : {a b : List ℕ} {i : ℕ} → Untiming a b i → length a ≤ i → SeenIs granules a b true
untiming_last u h =
    u.on true (yes_it_is (ap (seen granules) (walk_none u.walk_1 h) ∙ sym (ap (seen granules) (walk_none u.walk_2 (omega (arith, u.long))))))

-- ---- the same records are of as many bytes
pub seen_bytes :
    (i : Bool) (xs ys : List (List ℕ)) → ((r : List ℕ) → In r xs → Own r) → ((r : List ℕ) → In r ys → Own r) → seen i xs ≡ seen i ys → bytes xs ≡ bytes ys
seen_bytes true xs ys f g e = ap bytes e
seen_bytes false [] [] f g e = refl
seen_bytes false [] (y ∷ ys) f g e = let z : ◌≡◌ {A = ℕ} 0 1 = cc in absurd (omega arith)
seen_bytes false (x ∷ xs) [] f g e = let z : ◌≡◌ {A = ℕ} 0 1 = cc in absurd (omega arith)
seen_bytes false (x ∷ xs) (y ∷ ys) f g e =
    let c = cons_both e in
    omega (arith, both_long x y (f x (top refl)).least (g y (top refl)).least c.0, seen_bytes false xs ys (λ r n. f r (pop n)) (λ r n. g r (pop n)) c.1)

-- ---- identical records are those of identical bytes
pub seen_identical : {p q : List ℕ} {r : Bool} → SameIs p q r → SeenIs identical p q r
seen_identical d xs ys v w = decides_as (λ e. one_text xs ys v.own w.own (sym (text v) ∙ e ∙ text w)) (λ e. text v ∙ ap joined e ∙ sym (text w)) d
  where
    text : {l : List ℕ} {rs : List (List ℕ)} → Walk l 0 rs → l ≡ joined rs
    text {l} v = sym (none l) ∙ v.left
      where
        none : (l : List ℕ) → drop 0 l ≡ l
        none [] = refl
        none (x ∷ l) = refl

-- the parts of n bytes, by where they end
module _ (s t : List ℕ) (from at n : ℕ) where
  ends : (i : ℕ) → n ≡ i + n - i
  ends i = omega arith

  pub texts_ended : Texts (take n (drop from s)) (take n (drop at t)) → Texts (take (from + n - from) (drop from s)) (take (at + n - at) (drop at t))
  texts_ended h =
      subst (λ (k : ℕ). Texts (take k (drop from s)) (take (at + n - at) (drop at t))) (ends from) (subst (λ (k : ℕ). Texts (take n (drop from s)) (take k (drop at t))) (ends at) h)

  pub seen_ended :
      {r : Bool} → SeenIs granules (take (from + n - from) (drop from s)) (take (at + n - at) (drop at t)) r → SeenIs granules (take n (drop from s)) (take n (drop at t)) r
  seen_ended {r} h =
      subst (λ (k : ℕ). SeenIs granules (take k (drop from s)) (take n (drop at t)) r) (sym (ends from))
      (subst (λ (k : ℕ). SeenIs granules (take (from + n - from) (drop from s)) (take k (drop at t)) r) (sym (ends at)) h)

  pub seen_whole : (i : Bool) {r : Bool} → i ≡ true → SameIs (take n (drop from s)) (take n (drop at t)) r → SeenIs i (take n (drop from s)) (take n (drop at t)) r
  seen_whole i {r} e h = subst (λ (b : Bool). SeenIs b (take n (drop from s)) (take n (drop at t)) r) (sym e) (seen_identical h)

pub seen_untimed : {p q : List ℕ} (i : Bool) {r : Bool} → i ≡ false → SeenIs granules p q r → SeenIs i p q r
seen_untimed {p} {q} i {r} e h = subst (λ (b : Bool). SeenIs b p q r) (sym e) h
