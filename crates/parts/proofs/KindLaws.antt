-- THE TABLE GIVES THE POINTERS: the entries from a kind on are the one of that kind, if there is one, and those of the kinds after it. By induction on the
-- places; a kind's place is told by the earliest record of it. Assumes nothing.
use Prim.Native.Nat.{ℕ, zero, suc, ◌+◌, ◌-◌, ◌*◌, ◌/◌, ◌%◌, ◌≤◌, ◌<◌}
use native.Mathlib.Decide.{dec_lt, dec_le, ℕ_discrete}
use native.Mathlib.Omega.{arith}
use mathlib.Core.Path.{◌≡◌, refl, sym, ap, ◌∙◌}
use mathlib.Core.Bool.{Bool, true, false, true≢false, cond}
use mathlib.Core.List.Memᴰ.{head as top}
use mathlib.Core.List.Memᴰ.{not-nil as nil}
use mathlib.Core.List.Memᴰ.{tail as pop}
use mathlib.Core.List.{List, [], ◌∷◌, ◌++◌, Memᴰ as In}
use borrow.Author.Tests.{le-leb, lt-leb, lt-ltb, eq-eqb, ne_eqb}
use lib.Dec.{T, eqb, leb, ltb, ltb→lt}
use Rattle.calendar.proofs.Range.{below, at}
use Rattle.record.specs.Header.{is_group}
use lib.ListN.{length, get_or}
use Rattle.meter.specs.Integer.{be_at}
use Rattle.demands.specs.Product.{kind}
use Rattle.parts.specs.Parts.{bytes}
use Rattle.parts.specs.Pointers.{Entry, entry, kind_of, Stands, this, later, firsts, Ascends, AreFirsts, ipr, pointers}
use Rattle.parts.specs.Kinds.{place_of, group_at, kind_at, ipr_to, emitted, Kinded}
use Rattle.parts.proofs.FirstsLaws.{above, firsts_are, stands_in, stands_from}

-- ---- entries from a kind on
abbrev from_kind : ℕ → List Entry → List Entry
from_kind k [] = []
from_kind k (e ∷ l) = cond (leb k (kind_of e)) (e ∷ l) (from_kind k l)

from_here : (k : ℕ) (e : Entry) (l : List Entry) → k ≤ kind_of e → from_kind k (e ∷ l) ≡ e ∷ l
from_here k e l h = rw (le-leb k (kind_of e) h)

from_there : (k : ℕ) (e : Entry) (l : List Entry) → kind_of e < k → from_kind k (e ∷ l) ≡ from_kind k l
from_there k e l h = rw (lt-leb k (kind_of e) h)

from_all : (k : ℕ) (l : List Entry) → Ascends k l → from_kind k l ≡ l
from_all k [] s = refl
from_all k (e ∷ l) (h, s) = from_here k e l h

data Split (k : ℕ) (l : List Entry) : Type 0 where
  found : (e : Entry) → In e l → kind_of e ≡ k → from_kind k l ≡ e ∷ from_kind (suc k) l → Split k l
  absent : ((e : Entry) → In e l → kind_of e ≡ k → ⊥) → from_kind k l ≡ from_kind (suc k) l → Split k l

split : (a k : ℕ) (l : List Entry) → Ascends a l → Split k l
split a k [] s = absent (λ e n _. nil n) refl
split a k (x ∷ l) (h, s) = go (dec_lt k (kind_of x)) (ℕ_discrete k (kind_of x)) (split (suc (kind_of x)) k l s)
  where
    go : Dec (k < kind_of x) → Dec (k ≡ kind_of x) → Split k l → Split k (x ∷ l)
    go (yes u) _ _ = absent (λ e n d. none e n d) (from_here k x l (omega arith) ∙ sym (from_here (suc k) x l u))
      where
        none : (e : Entry) → In e (x ∷ l) → kind_of e ≡ k → ⊥
        none e (top c) d = omega (arith, ap kind_of c)
        none e (pop n) d = omega (arith, above (suc (kind_of x)) l s e n)
    go (no u) (yes d) _ =
        let c : suc k ≡ suc (kind_of x) = omega arith in
        let f : from_kind (suc k) (x ∷ l) ≡ l = from_there (suc k) x l (omega arith) ∙ rw c (from_all (suc (kind_of x)) l s) in
        found x (top refl) (sym d) (from_here k x l (omega arith) ∙ ap (λ (z : List Entry). x ∷ z) (sym f))
    go (no u) (no d) (found e n c f) =
        found e (pop n) c (from_there k x l (omega (arith, u, d)) ∙ f ∙ ap (λ (z : List Entry). e ∷ z) (sym (from_there (suc k) x l (omega (arith, u, d)))))
    go (no u) (no d) (absent g f) = absent (λ e n c. out e n c) (from_there k x l (omega (arith, u, d)) ∙ f ∙ sym (from_there (suc k) x l (omega (arith, u, d))))
      where
        out : (e : Entry) → In e (x ∷ l) → kind_of e ≡ k → ⊥
        out e (top c) z = omega (arith, u, d, ap kind_of c)
        out e (pop n) z = g e n z

-- where no kind lies between
from_skip : (a k j : ℕ) (l : List Entry) → Ascends a l → k ≤ j → ((e : Entry) → In e l → k ≤ kind_of e → j ≤ kind_of e) → from_kind k l ≡ from_kind j l
from_skip a k j [] s h f = refl
from_skip a k j (x ∷ l) (g, s) h f = go (dec_le k (kind_of x)) (from_skip (suc (kind_of x)) k j l s h (λ e n. f e (pop n)))
  where
    go : Dec (k ≤ kind_of x) → from_kind k l ≡ from_kind j l → from_kind k (x ∷ l) ≡ from_kind j (x ∷ l)
    go (yes u) r = from_here k x l u ∙ sym (from_here j x l (f x (top refl) u))
    go (no u) r = from_there k x l (omega (arith, u)) ∙ r ∙ sym (from_there j x l (omega (arith, u)))

from_none : (a k : ℕ) (l : List Entry) → Ascends a l → ((e : Entry) → In e l → kind_of e < k) → from_kind k l ≡ []
from_none a k [] s f = refl
from_none a k (x ∷ l) (g, s) f = from_there k x l (f x (top refl)) ∙ from_none (suc (kind_of x)) k l s (λ e n. f e (pop n))

-- ---- the place of a kind
data Place (k i : ℕ) (rs : List (List ℕ)) : Type 0 where
  nowhere : place_of k i rs ≡ 0 → ((e : Entry) → Stands i rs e → kind_of e ≡ k → ⊥) → Place k i rs
  somewhere : (e : Entry) → Stands i rs e → kind_of e ≡ k → place_of k i rs ≡ suc e.at → ((x : Entry) → Stands i rs x → kind_of x ≡ k → e.at ≤ x.at) → Place k i rs

place : (k i : ℕ) (rs : List (List ℕ)) → Place k i rs
place k i [] = nowhere refl (λ e s _. none s)
  where
    none : {e : Entry} → Stands i [] e → ⊥
    none s = nil (stands_in s)
place k i (r ∷ rs) = go (ℕ_discrete (kind r 0) k) (place k (i + length r) rs)
  where
    first : (x : Entry) → Stands i (r ∷ rs) x → i ≤ x.at
    first x s = stands_from s

    go : Dec (kind r 0 ≡ k) → Place k (i + length r) rs → Place k i (r ∷ rs)
    go (yes e) _ = somewhere (entry i r) (this refl) e (rw (eq-eqb (kind r 0) k e)) (λ x s _. stands_from s)
    go (no d) (nowhere p f) = nowhere (rw (ne_eqb (kind r 0) k d) p) (λ e s c. out e s c)
      where
        out : (e : Entry) → Stands i (r ∷ rs) e → kind_of e ≡ k → ⊥
        out e (this z) c = d (sym (ap kind_of z) ∙ c)
        out e (later s) c = f e s c
    go (no d) (somewhere e s c p f) = somewhere e (later s) c (rw (ne_eqb (kind r 0) k d) p) (λ x t z. most x t z)
      where
        most : (x : Entry) → Stands i (r ∷ rs) x → kind_of x ≡ k → e.at ≤ x.at
        most x (this z) c = absurd (d (sym (ap kind_of z) ∙ c))
        most x (later t) c = f x t c

module _ (ks : List (List ℕ)) where
  F : AreFirsts 0 ks (firsts 0 ks)
  F = firsts_are 0 ks

  -- an entry tells its kind's place
  pub place_found : (e : Entry) → In e (firsts 0 ks) → place_of (kind_of e) 0 ks ≡ suc e.at
  place_found e n = go (place (kind_of e) 0 ks)
    where
      go : Place (kind_of e) 0 ks → place_of (kind_of e) 0 ks ≡ suc e.at
      go (nowhere p f) = absurd (f e ((firsts_are 0 ks).stand e n) refl)
      go (somewhere x s c p f) =
          let u = f e ((firsts_are 0 ks).stand e n) refl in
          let v = (firsts_are 0 ks).earliest e x n s (sym c) in
          omega (arith, u, v, p)

  pub place_absent : (k : ℕ) → ((e : Entry) → In e (firsts 0 ks) → kind_of e ≡ k → ⊥) → place_of k 0 ks ≡ 0
  place_absent k out = go (place k 0 ks)
    where
      go : Place k 0 ks → place_of k 0 ks ≡ 0
      go (nowhere p f) = p
      go (somewhere x s c p f) = absurd (each ((firsts_are 0 ks).each x.first (stands_in s)))
        where
          each : (e : Entry) × In e (firsts 0 ks) × (kind_of e ≡ kind_of x) → ⊥
          each (e, n, d) = out e n (d ∙ c)

-- ---- the kinds of the 20,480 places
rises : T (below (λ (j : ℕ). ltb (kind_at j) (kind_at (suc j))) 20480)
unfolding kind_at group_at
rises = tt

pub kind_next : (j : ℕ) → j < 20480 → kind_at j < kind_at (suc j)
kind_next j h = ltb→lt (kind_at j) (kind_at (suc j)) (at (λ (j : ℕ). ltb (kind_at j) (kind_at (suc j))) 20480 rises j h)

kind_up : (i d : ℕ) → i + d ≤ 20480 → kind_at i ≤ kind_at (i + d)
kind_up i zero h = let e : i + 0 ≡ i = omega arith in rw e (omega arith)
kind_up i (suc d) h =
    let e : i + suc d ≡ suc (i + d) = omega arith in
    rw e (omega (arith, kind_up i d (omega arith), kind_next (i + d) (omega arith)))

pub kind_mono : (i j : ℕ) → i ≤ j → j ≤ 20480 → kind_at i ≤ kind_at j
kind_mono i j h l = let e : i + (j - i) ≡ j = omega arith in rw e at (kind_up i (j - i) (omega arith))

pub kind_one : (i j : ℕ) → i < 20480 → j < 20480 → kind_at i ≡ kind_at j → i ≡ j
kind_one i j h l e = go (dec_lt i j) (dec_lt j i)
  where
    go : Dec (i < j) → Dec (j < i) → i ≡ j
    go (yes u) _ = absurd (omega (arith, kind_next i h, kind_mono (suc i) j u (omega arith)))
    go (no u) (yes v) = absurd (omega (arith, kind_next j l, kind_mono (suc j) i v (omega arith)))
    go (no u) (no v) = omega (arith, u, v)

-- the place of a class, a group and a subclass
pub record Covers (k : ℕ) : Type 0 where
  pub place : ℕ
  pub below : place < 20480
  pub same : kind_at place ≡ k

grouped : (c x s g : ℕ) → 4 ≤ c → c ≤ 8 → x < 16 → s < 256 → group_at x ≡ g → Covers ((c * 256 + g) * 256 + s)
unfolding kind_at
grouped c x s g l h u v e = record { place = j; below = omega arith; same = rw (q, r, w, e) (omega arith) }
  where
    j : ℕ
    j = ((c - 4) * 16 + x) * 256 + s

    q : j / 4096 ≡ c - 4
    q = omega arith

    r : j / 256 % 16 ≡ x
    r = omega arith

    w : j % 256 ≡ s
    w = omega arith

pub low_group : (x : ℕ) → x < 14 → group_at x ≡ x
unfolding group_at
low_group x h = rw (lt-ltb x 14 h)

covered : (c g s : ℕ) → 4 ≤ c → c ≤ 8 → is_group g ≡ true → s < 256 → Covers ((c * 256 + g) * 256 + s)
unfolding is_group group_at
covered c g s l h e v = go (dec_le g 13) (ℕ_discrete g 15) (ℕ_discrete g 99)
  where
    go : Dec (g ≤ 13) → Dec (g ≡ 15) → Dec (g ≡ 99) → Covers ((c * 256 + g) * 256 + s)
    go (yes a) _ _ = grouped c g s g l h (omega arith) v (low_group g (omega arith))
    go (no a) (yes b) _ = grouped c 14 s g l h (omega arith) v (sym b)
    go (no a) (no b) (yes d) = grouped c 15 s g l h (omega arith) v (sym d)
    go (no a) (no b) (no d) = absurd (true≢false (sym e ∙ rw (lt-leb g 13 (omega (arith, a)), ne_eqb g 15 b, ne_eqb g 99 d)))

pub kind_is : (r : List ℕ) → kind r 0 ≡ (get_or r 0 0 * 256 + get_or r 1 0) * 256 + get_or r 2 0
unfolding be_at
kind_is r = omega arith

pub covers : (r : List ℕ) → Kinded r → Covers (kind r 0)
covers r k = rw (kind_is r) (covered (get_or r 0 0) (get_or r 1 0) (get_or r 2 0) k.four k.eight k.group k.subclass)

ipr_to_lem : (m r : List ℕ) (t : ℕ) → Kinded r → ipr m r t ≡ ipr_to m (kind r 0) t
ipr_to_lem m r t k =
    let c = get_or r 0 0 in
    let g = get_or r 1 0 in
    let s = get_or r 2 0 in
    let z = kind_is r in
    let b1 : kind r 0 / 256 / 256 ≡ c = omega (arith, z, k.low, k.subclass) in
    let b2 : kind r 0 / 256 % 256 ≡ g = omega (arith, z, k.low, k.subclass) in
    let b3 : kind r 0 % 256 ≡ s = omega (arith, z, k.low, k.subclass) in
    rw (b1, b2, b3)

-- ---- THE LAW
module _ (m : List ℕ) (b : ℕ) (ks : List (List ℕ)) (kinded : (r : List ℕ) → In r ks → Kinded r) (T : ℕ → ℕ) (table : (j : ℕ) → j < 20480 → T j ≡ place_of (kind_at j) 0 ks) where
  entry_kinded : (e : Entry) → In e (firsts 0 ks) → Kinded e.first
  entry_kinded e n = kinded e.first (stands_in ((firsts_are 0 ks).stand e n))

  -- no kind lies between two places
  between : (j : ℕ) → j < 20480 → (e : Entry) → In e (firsts 0 ks) → suc (kind_at j) ≤ kind_of e → kind_at (suc j) ≤ kind_of e
  between j h e n u =
      let v = covers e.first (entry_kinded e n) in
      go v (dec_le v.place j)
    where
      go : (v : Covers (kind_of e)) → Dec (v.place ≤ j) → kind_at (suc j) ≤ kind_of e
      go v (yes l) = absurd (omega (arith, v.same, kind_mono v.place j l (omega arith)))
      go v (no l) = omega (arith, v.same, kind_mono (suc j) v.place (omega (arith, l)) (omega (arith, v.below)))

  step_rest : (j : ℕ) → j < 20480 → from_kind (suc (kind_at j)) (firsts 0 ks) ≡ from_kind (kind_at (suc j)) (firsts 0 ks)
  step_rest j h = from_skip 0 (suc (kind_at j)) (kind_at (suc j)) (firsts 0 ks) (firsts_are 0 ks).ascends (omega (arith, kind_next j h)) (between j h)

  emits : (n j : ℕ) → j + n ≡ 20480 → pointers m b (from_kind (kind_at j) (firsts 0 ks)) ≡ emitted m b T j n
  emits zero j e =
      ap (pointers m b) (from_none 0 (kind_at j) (firsts 0 ks) (firsts_are 0 ks).ascends past)
    where
      past : (x : Entry) → In x (firsts 0 ks) → kind_of x < kind_at j
      past x i =
          let v = covers x.first (entry_kinded x i) in
          let z : j ≡ 20480 = omega arith in
          omega (arith, v.same, kind_next v.place v.below, kind_mono (suc v.place) j (omega (arith, v.below)) (omega arith))
  emits (suc n) j e = go (split 0 (kind_at j) (firsts 0 ks) (firsts_are 0 ks).ascends) (emits n (suc j) (omega arith))
    where
      h : j < 20480
      h = omega arith

      rest : pointers m b (from_kind (kind_at (suc j)) (firsts 0 ks)) ≡ emitted m b T (suc j) n → pointers m b (from_kind (suc (kind_at j)) (firsts 0 ks)) ≡ emitted m b T (suc j) n
      rest r = ap (pointers m b) (step_rest j h) ∙ r

      go : Split (kind_at j) (firsts 0 ks) → pointers m b (from_kind (kind_at (suc j)) (firsts 0 ks)) ≡ emitted m b T (suc j) n → pointers m b (from_kind (kind_at j) (firsts 0 ks)) ≡ emitted m b T j (suc n)
      go (found x i c f) r =
          let p : T j ≡ suc x.at = table j h ∙ ap (λ (k : ℕ). place_of k 0 ks) (sym c) ∙ place_found ks x i in
          let t : T j - 1 ≡ x.at = omega (arith, p) in
          let z : eqb (T j) 0 ≡ false = ne_eqb (T j) 0 (λ d. omega (arith, p)) in
          let q : ipr m x.first (b + x.at) ≡ ipr_to m (kind_at j) (b + (T j - 1)) = ipr_to_lem m x.first (b + x.at) (entry_kinded x i) ∙ ap (λ (k : ℕ). ipr_to m k (b + x.at)) c ∙ ap (λ (a : ℕ). ipr_to m (kind_at j) (b + a)) (sym t) in
          rw z (ap (pointers m b) f ∙ ap (λ (l : List (List ℕ)). ipr m x.first (b + x.at) ∷ l) (rest r) ∙ ap (λ (y : List ℕ). y ∷ emitted m b T (suc j) n) q)
      go (absent g f) r =
          let z : eqb (T j) 0 ≡ true = eq-eqb (T j) 0 (table j h ∙ place_absent ks (kind_at j) g) in
          rw z (ap (pointers m b) f ∙ rest r)

  -- the pointers are those of the table, place after place
  pub pointers_emitted : pointers m b (firsts 0 ks) ≡ emitted m b T 0 20480
  pointers_emitted =
      ap (pointers m b)
      (sym (from_all 0 (firsts 0 ks) (firsts_are 0 ks).ascends)
      ∙ from_skip 0 0 (kind_at 0) (firsts 0 ks) (firsts_are 0 ks).ascends (omega arith) least)
      ∙ emits 20480 0 (omega arith)
    where
      least : (e : Entry) → In e (firsts 0 ks) → 0 ≤ kind_of e → kind_at 0 ≤ kind_of e
      least e n _ = let v = covers e.first (entry_kinded e n) in omega (arith, v.same, kind_mono 0 v.place (omega arith) (omega (arith, v.below)))

-- ---- one record more
pub place_snoc : (k i : ℕ) (ks : List (List ℕ)) (r : List ℕ) → place_of k i (ks ++ (r ∷ [])) ≡ cond (eqb (place_of k i ks) 0) (cond (eqb (kind r 0) k) (suc (i + bytes ks)) 0) (place_of k i ks)
place_snoc k i [] r = let e : i + 0 ≡ i = omega arith in rw e
place_snoc k i (x ∷ ks) r = go (eqb (kind x 0) k) (place_snoc k (i + length x) ks r)
  where
    c : i + length x + bytes ks ≡ i + (length x + bytes ks)
    c = omega arith

    go : (b : Bool) → place_of k (i + length x) (ks ++ (r ∷ [])) ≡ cond (eqb (place_of k (i + length x) ks) 0) (cond (eqb (kind r 0) k) (suc (i + length x + bytes ks)) 0) (place_of k (i + length x) ks)
        → cond b (suc i) (place_of k (i + length x) (ks ++ (r ∷ []))) ≡ cond (eqb (cond b (suc i) (place_of k (i + length x) ks)) 0) (cond (eqb (kind r 0) k) (suc (i + (length x + bytes ks))) 0) (cond b (suc i) (place_of k (i + length x) ks))
    go true e = rw (ne_eqb (suc i) 0 (λ d. omega arith))
    go false e = rw c at e
