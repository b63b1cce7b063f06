-- A stretch of records, gathered record by record: what was gathered, with one record more. Assumes nothing.
use Prim.Native.Nat.{ℕ, suc, ◌+◌, ◌-◌, ◌≤◌, ◌<◌}
use native.Mathlib.Decide.{ℕ_discrete}
use native.Mathlib.Omega.{arith}
use mathlib.Core.Path.{◌≡◌, refl, sym, ap, subst, ◌∙◌}
use mathlib.Core.Bool.{cond}
use mathlib.Core.List.Memᴰ.{head as top}
use mathlib.Core.List.Memᴰ.{tail as pop}
use mathlib.Core.List.{List, [], ◌∷◌, ◌++◌, append-nil, append_assoc, Memᴰ as In}
use lib.Dec.{eqb}
use lib.ListN.{length, get_or, set, length-set, length-append}
use Rattle.demands.specs.Product.{class, kind, size}
use Rattle.parts.specs.Parts.{bytes}
use Rattle.parts.specs.Kinds.{kind_at}
use Rattle.parts.specs.Walk.{Walk}
use Rattle.parts.proofs.KindLaws.{place_snoc}
use Rattle.parts.proofs.Local.{group_at, kind_at_lem}
use Rattle.parts.proofs.WalkLaws.{Ahead, Next, next, walk_step, ahead_size, ahead_class, one_walk}
use Rattle.rewrite.specs.Table.{noted, Holds}
use Rattle.rewrite.specs.Gathering.{Gathered, Stretch, GatherOne, GathersOne, Gatherable, Gathers, Going}
use Rattle.rewrite.proofs.TableLaws.{noted_length, noted_place, kind_of}
use Rattle.rewrite.proofs.SurveyLaws.{bytes_snoc, count_snoc, tally_one, most_one}

-- ---- one record more
pub holds_more : {ks : List (List ℕ)} {table : List ℕ} {n : ℕ} → Holds ks table n → (r : List ℕ) (p : ℕ) → p < 20480 → kind_at p ≡ kind r 0 → Holds (ks ++ (r ∷ [])) (noted table p n) (n + length r)
holds_more {ks} {table} {n} g r p h e = record {
  long = noted_length table p n ∙ g.long;
  count = omega (arith, g.count, bytes_snoc ks r);
  place = λ j l.
      let b : suc n ≡ suc (0 + bytes ks) = omega (arith, g.count) in
      noted_place table n (kind r 0) p j g.long h e l ∙ rw (g.place j l, b) refl ∙ sym (place_snoc (kind_at j) 0 ks r);
}

module _ {ks : List (List ℕ)} {table tally : List ℕ} {n : ℕ} (g : Gathered ks table tally n) (r : List ℕ) where
  pub gathered_more : (p : ℕ) → p < 20480 → kind_at p ≡ kind r 0 → class r 0 ≤ 8 → Gathered (ks ++ (r ∷ [])) (noted table p n) (set tally (class r 0) (get_or tally (class r 0) 0 + 1)) (n + length r)
  gathered_more p h e c = record {
    holds = holds_more g.holds r p h e;
    nine = length-set tally (class r 0) (get_or tally (class r 0) 0 + 1) ∙ g.nine;
    each = λ j l. omega (arith, tally_one tally (class r 0) j (omega (arith, g.nine)), count_snoc j ks r, g.each j l);
  }

-- ---- one stretch at most is between two bytes
same_front : (xs ys rs ss : List (List ℕ)) → ((r : List ℕ) → In r xs → 20 ≤ length r) → ((r : List ℕ) → In r ys → 20 ≤ length r) → xs ++ rs ≡ ys ++ ss → bytes xs ≡ bytes ys → xs ≡ ys
same_front [] [] rs ss f g e d = refl
same_front [] (y ∷ ys) rs ss f g e d = absurd (omega (arith, g y (top refl)))
same_front (x ∷ xs) [] rs ss f g e d = absurd (omega (arith, f x (top refl)))
same_front (x ∷ xs) (y ∷ ys) rs ss f g e d =
    let u : x ≡ y = cc in
    let v : xs ++ rs ≡ ys ++ ss = cc in
    let w = same_front xs ys rs ss (λ r n. f r (pop n)) (λ r n. g r (pop n)) v (omega (arith, ap length u)) in
    ap (λ (z : List ℕ). z ∷ xs) u ∙ ap (λ (z : List (List ℕ)). y ∷ z) w

in_front : (xs rs : List (List ℕ)) (r : List ℕ) → In r xs → In r (xs ++ rs)
in_front [] rs r n = elim n [ ]
in_front (x ∷ xs) rs r (top e) = top e
in_front (x ∷ xs) rs r (pop n) = pop (in_front xs rs r n)

pub one_stretch : {a : List ℕ} {i j : ℕ} (xs ys : List (List ℕ)) → Stretch a i j xs → Stretch a i j ys → xs ≡ ys
one_stretch xs ys s t =
    same_front xs ys s.rest t.rest
    (λ r n. (s.walk.own r (in_front xs s.rest r n)).least)
    (λ r n. (t.walk.own r (in_front ys t.rest r n)).least)
    (one_walk (xs ++ s.rest) (ys ++ t.rest) s.walk t.walk) (omega (arith, s.end, t.end))

-- ---- between two records of a stretch
pub going_first : {a : List ℕ} {from to n : ℕ} {table tally : List ℕ} → Gatherable a from to n table tally → Going a from to n table tally 0 from table tally
going_first {n = n} {table = table} {tally = tally} s = record {
  start = s;
  pre = [];
  post = s.records;
  cut = refl;
  walk = s.stretch.walk;
  end = s.stretch.end;
  here = omega arith;
  many = refl;
  few = omega arith;
  low = λ c h. omega (arith, s.low c h);
  long = s.gathered.holds.long;
  nine = s.gathered.nine;
  got = λ ks g. let e : n + 0 ≡ n = omega arith in rw (e, append-nil ks) g;
}

bytes_of : (pre post all : List (List ℕ)) → all ≡ pre ++ post → bytes all ≡ bytes pre + bytes post
bytes_of pre post all e = ap bytes e ∙ go pre
  where
    go : (pre : List (List ℕ)) → bytes (pre ++ post) ≡ bytes pre + bytes post
    go [] = omega arith
    go (x ∷ pre) = omega (arith, go pre)

-- the record at byte at
pub record Turn (a : List ℕ) (at : ℕ) (post rest : List (List ℕ)) : Type 0 where
  pub one : List ℕ
  pub after : List (List ℕ)
  pub is : post ≡ one ∷ after
  pub ahead : Ahead a at one
  pub walk : Walk a (at + length one) (after ++ rest)

turn_at : {a : List ℕ} {at : ℕ} (post rest : List (List ℕ)) → Walk a at (post ++ rest) → 0 < bytes post → Turn a at post rest
turn_at [] rest w h = absurd (omega arith)
turn_at {a} {at} (r ∷ after) rest w h = go (walk_step r (after ++ rest) w)
  where
    go : Next a at (r ∷ (after ++ rest)) → Turn a at (r ∷ after) rest
    go (next k v) = record { one = r; after = after; is = refl; ahead = k; walk = v }

in_all : (pre : List (List ℕ)) (r : List ℕ) (after all : List (List ℕ)) → all ≡ pre ++ (r ∷ after) → In r all
in_all pre r after all e = rw e (go pre)
  where
    go : (pre : List (List ℕ)) → In r (pre ++ (r ∷ after))
    go [] = top refl
    go (x ∷ pre) = pop (go pre)

module _ {a : List ℕ} {from to n : ℕ} {table₀ tally₀ : List ℕ} {k at : ℕ} {table tally : List ℕ} (m : Going a from to n table₀ tally₀ k at table tally) (h : at < to) where
  here : Turn a at m.post m.start.stretch.rest
  here = turn_at m.post m.start.stretch.rest m.walk (omega (arith, m.end))

  cut_here : m.start.records ≡ m.pre ++ (here.one ∷ here.after)
  cut_here = m.cut ∙ ap (λ (l : List (List ℕ)). m.pre ++ l) here.is

  inside : In here.one m.start.records
  inside = in_all m.pre here.one here.after m.start.records cut_here

  classed : get_or a at 0 ≡ class here.one 0
  classed = ahead_class here.ahead

  all_bytes : bytes m.start.records ≡ bytes m.pre + (length here.one + bytes here.after)
  all_bytes = bytes_of m.pre (here.one ∷ here.after) m.start.records cut_here

  going_size : size a at ≡ length here.one
  going_size = ahead_size here.ahead

  pub going_least : 20 ≤ size a at
  going_least = omega (arith, going_size, here.ahead.own.least)

  pub going_come : at + size a at ≤ length a
  going_come = omega (arith, going_size, here.ahead.most)

  pub going_one : (p : ℕ) → p ≡ n + (at - from) → GatherOne a at p table tally
  going_one p e = record {
    come = omega (arith, here.ahead.own.least, here.ahead.most);
    four = rw classed (m.start.stretch.four here.one inside);
    eight = rw classed (m.start.stretch.eight here.one inside);
    group = rw (group_at here.ahead.stands here.ahead.own.least) here.ahead.own.grouped;
    small = omega (arith, m.here, m.start.small, all_bytes);
    long = m.long;
    nine = m.nine;
    low = λ c l. omega (arith, m.low c l, m.here);
  }

  pub going_next : (p s : ℕ) (table' tally' : List ℕ) → p ≡ n + (at - from) → s ≡ size a at → GathersOne a at p table tally table' tally' → Going a from to n table₀ tally₀ (k + 1) (at + s) table' tally'
  going_next p s table' tally' e d g =
      let r = here.one in
      let f = bytes_snoc m.pre r in
      let q : p ≡ n + bytes m.pre = omega (arith, m.here) in
      let t : tally' ≡ set tally (class r 0) (get_or tally (class r 0) 0 + 1) = g.counted ∙ ap (λ (c : ℕ). set tally c (get_or tally c 0 + 1)) classed in
      let eight = m.start.stretch.eight r inside in
      let o : s ≡ length r = d ∙ going_size in
      record {
        start = m.start;
        pre = m.pre ++ (r ∷ []);
        post = here.after;
        cut = cut_here ∙ sym (append_assoc m.pre (r ∷ []) here.after);
        walk = subst (λ (i : ℕ). Walk a (at + i) (here.after ++ m.start.stretch.rest)) (sym o) here.walk;
        end = omega (arith, m.end, o, ap bytes here.is);
        here = omega (arith, m.here, o, f);
        many = omega (arith, m.many, length-append m.pre (r ∷ []));
        few = omega (arith, m.few, o, here.ahead.own.least);
        low = λ c l. let x : get_or tally' c 0 ≡ get_or tally c 0 + cond (eqb (class r 0) c) 1 0 = ap (λ (z : List ℕ). get_or z c 0) t ∙ tally_one tally (class r 0) c (omega (arith, m.nine)) in omega (arith, x, m.low c l, most_one (eqb (class r 0) c), f, here.ahead.own.least);
        long = ap length g.noted_there ∙ noted_length table g.place p ∙ m.long;
        nine = ap length t ∙ length-set tally (class r 0) (get_or tally (class r 0) 0 + 1) ∙ m.nine;
        got = λ ks x. finish ks (g.noted_there ∙ ap (noted table g.place) q) t (omega (arith, f)) (gathered_more (m.got ks x) r g.place g.slot.below (g.slot.same ∙ sym (kind_of a at) ∙ kind_at_lem here.ahead.stands here.ahead.own.least) eight);
      }
    where
      finish : (ks : List (List ℕ)) {u v w x : List ℕ} {i j : ℕ} → u ≡ v → w ≡ x → i ≡ j → Gathered ((ks ++ m.pre) ++ (here.one ∷ [])) v x i → Gathered (ks ++ (m.pre ++ (here.one ∷ []))) u w j
      finish ks e d c g = rw (e, d, ← c, ← append_assoc ks m.pre (here.one ∷ [])) g

pub going_last : {a : List ℕ} {from to n : ℕ} {table₀ tally₀ : List ℕ} {k at : ℕ} {table tally : List ℕ} → Going a from to n table₀ tally₀ k at table tally → to ≤ at → Gathers a from to n table₀ tally₀ k table tally
going_last {a} {from} {to} {n} {table₀} {tally₀} {k} {at} {table} {tally} m h =
    let none : m.post ≡ [] = empty m.post m.start.stretch.rest m.walk (omega (arith, m.end)) in
    let e : m.start.records ≡ m.pre = m.cut ∙ ap (λ (l : List (List ℕ)). m.pre ++ l) none ∙ append-nil m.pre in
    record {
      many = λ xs s. m.many ∙ ap length (sym e ∙ one_stretch m.start.records xs m.start.stretch s);
      all = λ ks xs g s. subst (λ (l : List (List ℕ)). Gathered (ks ++ l) table tally (n + bytes l)) (sym e ∙ one_stretch m.start.records xs m.start.stretch s) (m.got ks g);
      low = λ c xs s l. subst (λ (l : List (List ℕ)). get_or tally c 0 ≤ n + bytes l) (sym e ∙ one_stretch m.start.records xs m.start.stretch s) (m.low c l);
    }
  where
    empty : (post rest : List (List ℕ)) → Walk a at (post ++ rest) → bytes post ≡ 0 → post ≡ []
    empty [] rest w z = refl
    empty (r ∷ post) rest w z = absurd (omega (arith, (w.own r (top refl)).least))

-- ---- some records of one size, as far as they go
pub record Alike (a : List ℕ) (from to p : ℕ) (table₀ tally₀ : List ℕ) (z : ℕ) (table tally : List ℕ) (k at : ℕ) : Type 0 where
  pub on :
      (from' n k' : ℕ) (t y : List ℕ) → p ≡ n + (from - from') → Going a from' to n t y k' from table₀ tally₀
      → Going a from' to n t y (k' + k) at table tally
  pub least : from ≤ at
  pub begun : at ≡ from → z ≡ size a at

pub gone_on : {a : List ℕ} {from to p : ℕ} {t y : List ℕ} {z : ℕ} {table tally : List ℕ} {k at : ℕ} → Alike a from to p t y z table tally k at → (z ≡ size a at → ⊥) → from < at
gone_on {from = from} {at = at} l d = go (ℕ_discrete at from)
  where
    go : Dec (at ≡ from) → from < at
    go (yes e) = absurd (d (l.begun e))
    go (no n) = omega (arith, l.least, n)

pub alike_first : {a : List ℕ} {from to p : ℕ} {table tally : List ℕ} (z : ℕ) → z ≡ size a from → Alike a from to p table tally z table tally 0 from
alike_first {a} {from} {to} {p} {table} {tally} z e = record {
  on = λ f n k t y _ g. let d : k ≡ k + 0 = omega arith in subst (λ (i : ℕ). Going a f to n t y i from table tally) d g;
  least = omega arith;
  begun = λ _. e;
}

pub alike_next :
    {a : List ℕ} {from to p : ℕ} {table₀ tally₀ : List ℕ} {z : ℕ} {table tally : List ℕ} {k at : ℕ} → Alike a from to p table₀ tally₀ z table tally k at → at < to → 20 ≤ z
    → z ≡ size a at → (table' tally' : List ℕ) → GathersOne a at (p + (at - from)) table tally table' tally' → Alike a from to p table₀ tally₀ z table' tally' (k + 1) (at + z)
alike_next {a} {from} {to} {p} {table₀} {tally₀} {z} {table} {tally} {k} {at} l h low e table' tally' o = record {
  on = λ f n k' t y d g.
      let m = l.on f n k' t y d g in
      let q : p + (at - from) ≡ n + (at - f) = omega (arith, g.here, l.least) in
      let c : (k' + k) + 1 ≡ k' + (k + 1) = omega arith in
      subst (λ (i : ℕ). Going a f to n t y i (at + z) table' tally') c (going_next m h (p + (at - from)) z table' tally' q e o);
  least = omega (arith, l.least);
  begun = λ d. absurd (omega (arith, l.least));
}
