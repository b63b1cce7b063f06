-- THE SENTENCE ON BYTES AND ON PARTS: `Apart` is `Repaid` of the product's records, both ways, and goes both ways itself. A byte is of the main header or of
-- one record, since these follow each other. Assumes nothing.
use Prim.Native.Nat.{ℕ, zero, suc, ◌+◌, ◌-◌, ◌≤◌, ◌<◌}
use native.Mathlib.Decide.{dec_lt, ℕ_discrete}
use native.Mathlib.Omega.{arith}
use mathlib.Core.Path.{◌≡◌, refl, sym, ap, subst, ◌∙◌}
use mathlib.Core.Bool.{true}
use mathlib.Core.Logic.{◌⊎◌, inl, inr, ⊎_elim}
use mathlib.Core.List.Memᴰ.{head as top}
use mathlib.Core.List.Memᴰ.{not-nil as nil}
use mathlib.Core.List.Memᴰ.{tail as pop}
use mathlib.Core.List.{List, [], ◌∷◌, Memᴰ as In}
use lib.ListN.{get_or, get_or-eq_default as past}
use Rattle.record.specs.Follow.{may_follow}
use Rattle.record.proofs.FollowLaws.{Follows, one_mphr}
use Rattle.mphr.specs.Table.{declared}
use Rattle.judge.proofs.RankLaws.{class_most}
use Rattle.demands.specs.Product.{class, size, Records, none, more, Meets}
use Rattle.parts.specs.Payload.{Repaid}
use Rattle.parts.proofs.PayloadLaws.{repaid_meets}
use Rattle.payload.specs.Apart.{Bears, IsPayload, Apart}

-- ---- RECORDS FOLLOW EACH OTHER
ends_in : {a : List ℕ} {i p : ℕ} {l : List ℕ} → Records a i p l → i ≤ declared a
ends_in (none e) = omega arith
ends_in (more r _ ts) = omega (arith, ends_in ts)

pub starts_from : {a : List ℕ} {i p t : ℕ} {l : List ℕ} → Records a i p l → In t l → (i ≤ t) × (t + 20 ≤ declared a)
starts_from (none e) h = absurd (nil h)
starts_from (more r _ ts) (top e) = omega (arith, r.least, ends_in ts)
starts_from (more r _ ts) (pop h) = omega (arith, starts_from ts h)

spaced : {a : List ℕ} {i p s t : ℕ} {l : List ℕ} → Records a i p l → In s l → In t l → s < t → s + size a s ≤ t
spaced (none e) h g u = absurd (nil h)
spaced (more r _ ts) (top e) (top d) u = absurd (omega arith)
spaced {a} (more r _ ts) (top e) (pop g) u = omega (arith, ap (size a) e, starts_from ts g)
spaced (more r _ ts) (pop h) (top d) u = absurd (omega (arith, starts_from ts h))
spaced (more r _ ts) (pop h) (pop g) u = spaced ts h g u

pub ipr_27 : {a : List ℕ} {i p t : ℕ} {l : List ℕ} → Records a i p l → In t l → class a t ≡ 3 → size a t ≡ 27
ipr_27 (none e) h c = absurd (nil h)
ipr_27 {a} (more r _ ts) (top e) c = ap (size a) e ∙ r.ipr (sym (ap (class a) e) ∙ c)
ipr_27 (more r _ ts) (pop h) c = ipr_27 ts h c

-- ---- FROM BYTES TO PARTS
module _ {a b : List ℕ} (x : Apart a b) where
  abbrev l : List ℕ
  l = x.product.list

  -- no byte of the main header is payload, no byte of a header, and none of a pointer
  not_main : (j : ℕ) → j < 3307 → IsPayload a l j → ⊥
  not_main j h q = omega (arith, q.beyond, starts_from x.product.records q.is_record)

  not_header : (i : ℕ) → In i l → (j : ℕ) → j < 20 → IsPayload a l (i + j) → ⊥
  not_header i m j h q = go (dec_lt q.start i)
    where
      go : Dec (q.start < i) → ⊥
      go (yes d) = omega (arith, q.inside, spaced x.product.records q.is_record m d)
      go (no d) = omega (arith, d, q.beyond)

  not_ipr : (i : ℕ) → In i l → class a i ≡ 3 → (j : ℕ) → j < 27 → IsPayload a l (i + j) → ⊥
  not_ipr i m c j h q = go (dec_lt q.start i) (dec_lt i q.start)
    where
      go : Dec (q.start < i) → Dec (i < q.start) → ⊥
      go (yes d) _ = omega (arith, q.inside, spaced x.product.records q.is_record m d)
      go (no d) (yes e) = omega (arith, q.beyond, spaced x.product.records m q.is_record e, ipr_27 x.product.records m c)
      go (no d) (no e) =
          let z : q.start ≡ i = omega (arith, d, e) in
          let k : class a q.start ≡ 3 = ap (class a) z ∙ c in
          ⊎_elim (λ s. omega (arith, k, s)) (λ s. omega (arith, k, s.0)) q.bears

  kept : (j : ℕ) → (IsPayload a l j → ⊥) → get_or a j 0 ≡ get_or b j 0
  kept j n = ⊎_elim (λ e. e) (λ q. absurd (n q)) (x.same j)

  -- THE LAW, one way
  pub apart_repaid : Repaid a b x.product.list
  apart_repaid = record {
    long = x.long;
    main = λ j h. kept j (not_main j h);
    headers = λ i m j h. kept (i + j) (not_header i m j h);
    iprs = λ i m c j h. kept (i + j) (not_ipr i m c j h);
  }

-- ---- AND BACK
-- the record that byte j is of
record Holds (a l : List ℕ) (j : ℕ) : Type 0 where
  start : ℕ
  is_in : In start l
  class_from : 2 ≤ class a start
  class_to : class a start ≤ 8
  from : start ≤ j
  to : j < start + size a start

two_on : (p c : ℕ) → may_follow p c ≡ true → 1 ≤ c → 2 ≤ c
two_on p c f h = go (ℕ_discrete c 1)
  where
    pair : Follows (p ∷ c ∷ [])
    pair zero _ = f
    pair (suc k) u = absurd (omega arith)

    go : Dec (c ≡ 1) → 2 ≤ c
    go (yes e) = absurd (omega (arith, one_mphr (p ∷ c ∷ []) pair 1 (omega arith) e))
    go (no n) = omega (arith, n)

holds : {a : List ℕ} {i p : ℕ} {l : List ℕ} → Records a i p l → (j : ℕ) → i ≤ j → j < declared a → Holds a l j
holds (none e) j h u = absurd (omega arith)
holds {a} {i} {p} (more {l = l} r _ ts) j h u = go (dec_lt j (i + size a i)) (holds ts j)
  where
    go : Dec (j < i + size a i) → (i + size a i ≤ j → j < declared a → Holds a l j) → Holds a (i ∷ l) j
    go (yes d) f =
        let c = class_most (class a i) r.known in
        record { start = i; is_in = top refl; class_from = two_on p (class a i) r.ordered c.0; class_to = c.1; from = h; to = d }
    go (no d) f = let k = f (omega (arith, d)) u in record { start = k.start; is_in = pop k.is_in; class_from = k.class_from; class_to = k.class_to; from = k.from; to = k.to }

module _ {a b : List ℕ} (t : Meets a) (h : Repaid a b t.list) where
  abbrev at : ℕ → Type 0
  at j = (get_or a j 0 ≡ get_or b j 0) ⊎ IsPayload a t.list j

  in_record : (j : ℕ) → Holds a t.list j → at j
  in_record j k = go (dec_lt j (k.start + 20)) (ℕ_discrete (class a k.start) 3)
    where
      e : k.start + (j - k.start) ≡ j
      e = omega (arith, k.from)

      go : Dec (j < k.start + 20) → Dec (class a k.start ≡ 3) → at j
      go (yes d) _ = inl (rw e at (h.headers k.start k.is_in (j - k.start) (omega (arith, k.from))))
      go (no d) (yes c) = inl (rw e at (h.iprs k.start k.is_in c (j - k.start) (omega (arith, k.from, k.to, ipr_27 t.records k.is_in c))))
      go (no d) (no c) = inr (record { start = k.start; is_record = k.is_in; bears = two (ℕ_discrete (class a k.start) 2); beyond = omega (arith, d); inside = k.to })
        where
          two : Dec (class a k.start ≡ 2) → Bears (class a k.start)
          two (yes z) = inl z
          two (no z) = inr (omega (arith, z, c, k.class_from), k.class_to)

  byte_at : (j : ℕ) → Dec (j < 3307) → Dec (j < declared a) → at j
  byte_at j (yes d) _ = inl (h.main j d)
  byte_at j (no d) (yes u) = in_record j (holds t.records j (omega (arith, d)) u)
  byte_at j (no d) (no u) = inl (past a 0 {n = j} (omega (arith, u, t.come)) ∙ sym (past b 0 {n = j} (omega (arith, u, t.come, h.long))))

  -- THE LAW, the other way
  pub repaid_apart : Apart a b
  repaid_apart = record { product = t; long = h.long; same = λ j. byte_at j (dec_lt j 3307) (dec_lt j (declared a)) }

-- ---- IT GOES BOTH WAYS
pub repaid_back : {a b l : List ℕ} → Repaid a b l → Repaid b a l
repaid_back {a} {b} h = record {
  long = sym h.long;
  main = λ j u. sym (h.main j u);
  headers = λ i m j u. sym (h.headers i m j u);
  iprs = λ i m c j u. let e : i + 0 ≡ i = omega arith in let k : class a i ≡ class b i = rw e at (h.headers i m 0 (omega arith)) in sym (h.iprs i m (k ∙ c) j u);
}

pub apart_product : {a b : List ℕ} (x : Apart a b) → (u : Meets b) × (u.list ≡ x.product.list)
apart_product x = repaid_meets x.product (apart_repaid x)

pub apart_back : {a b : List ℕ} → Apart a b → Apart b a
apart_back {a} {b} x =
    let u = apart_product x in
    repaid_apart u.0 (subst (Repaid b a) (sym u.1) (repaid_back (apart_repaid x)))
