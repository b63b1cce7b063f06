-- PAYLOAD IN LISTS OF RECORDS (`Paid`): what leaves records out, sorts them by kind, points at them or counts them looks at headers alone. By induction on
-- the two lists side by side. Assumes nothing.
use Prim.Native.Nat.{ℕ, suc, ◌+◌, ◌≤◌, ◌<◌}
use native.Mathlib.Omega.{arith}
use mathlib.Core.Path.{◌≡◌, refl, sym, ap, subst, ◌∙◌}
use mathlib.Core.Bool.{Bool, true, false, cond}
use mathlib.Core.List.Memᴰ.{head as top}
use mathlib.Core.List.Memᴰ.{not-nil as nil}
use mathlib.Core.List.Memᴰ.{tail as pop}
use mathlib.Core.List.{List, [], ◌∷◌, ◌++◌, Memᴰ as In}
use lib.Dec.{eqb, ltb}
use lib.ListN.{length, get_or, length-append, get_or-append}
use Rattle.meter.specs.Integer.{be_at}
use Rattle.meter.specs.Time.{time_at}
use Rattle.std.specs.declared.option.Option.{Option}
use Rattle.meter.specs.declared.time.Time.{Time}
use Rattle.meter.proofs.IntegerLaws.{be_at_same}
use Rattle.demands.specs.Product.{class}
use Rattle.parts.specs.Parts.{joined, bytes, bytes_of, starts_from, count, Own, Built}
use Rattle.parts.specs.Only.{only}
use Rattle.parts.specs.Pointers.{Entry, kind_of, put, firsts, part, word, ipr, pointers, base, assembled}
use Rattle.parts.specs.CutHeader.{sooner, later, first_from, last_from}
use Rattle.parts.specs.Payload.{Repaid}
use Rattle.parts.proofs.Local.{At, at_left, at_right, at_end}
use Rattle.parts.proofs.Built.{bytes_joined, built_meets, built_list}
use Rattle.payload.specs.Apart.{Apart}
use Rattle.payload.proofs.ApartLaws.{repaid_apart}

-- r and s differ in payload alone
pub record Pay (r s : List ℕ) : Type 0 where
  pub long : length r ≡ length s
  pub header : (j : ℕ) → j < 20 → get_or r j 0 ≡ get_or s j 0
  pub ipr : class r 0 ≡ 3 → r ≡ s

pub data Paid : List (List ℕ) → List (List ℕ) → Type 0 where
  none : Paid [] []
  more : {r s : List ℕ} {rs ss : List (List ℕ)} → Pay r s → Paid rs ss → Paid (r ∷ rs) (s ∷ ss)

-- ---- ONE RECORD
be_paid : {r s : List ℕ} → Pay r s → (j k : ℕ) → j + k ≤ 20 → be_at r j k ≡ be_at s j k
be_paid {r} {s} p j k h = be_at_same r s j j k (λ x l. p.header (j + x) (omega arith))

pub class_paid : {r s : List ℕ} → Pay r s → class r 0 ≡ class s 0
class_paid p = p.header 0 (omega arith)

pub start_paid : {r s : List ℕ} → Pay r s → time_at r 8 ≡ time_at s 8
start_paid p = rw (be_paid p 8 6 (omega arith))

stop_paid : {r s : List ℕ} → Pay r s → time_at r 14 ≡ time_at s 14
stop_paid p = rw (be_paid p 14 6 (omega arith))

-- ---- LISTS OF RECORDS
pub paid_refl : (rs : List (List ℕ)) → Paid rs rs
paid_refl [] = none
paid_refl (r ∷ rs) = more (record { long = refl; header = λ j h. refl; ipr = λ c. refl }) (paid_refl rs)

pub paid_append : {rs ss us vs : List (List ℕ)} → Paid rs ss → Paid us vs → Paid (rs ++ us) (ss ++ vs)
paid_append none q = q
paid_append (more p ps) q = more p (paid_append ps q)

-- a test that looks at headers alone
pub record Headed (f : List ℕ → Bool) : Type 0 where
  pub same : (r s : List ℕ) → Pay r s → f r ≡ f s

either : (b : Bool) {r s : List ℕ} {rs ss : List (List ℕ)} → Pay r s → Paid rs ss → Paid (cond b (r ∷ rs) rs) (cond b (s ∷ ss) ss)
either true p ps = more p ps
either false p ps = ps

pub paid_only : {f : List ℕ → Bool} → Headed f → {rs ss : List (List ℕ)} → Paid rs ss → Paid (only f rs) (only f ss)
paid_only h none = none
paid_only {f} h (more {r = r} {s = s} p ps) = rw (h.same r s p) (either (f s) p (paid_only h ps))

pub paid_bytes : {rs ss : List (List ℕ)} → Paid rs ss → bytes rs ≡ bytes ss
paid_bytes none = refl
paid_bytes (more p ps) = rw (p.long, paid_bytes ps)

pub paid_length : {rs ss : List (List ℕ)} → Paid rs ss → length rs ≡ length ss
paid_length none = refl
paid_length (more p ps) = ap suc (paid_length ps)

pub paid_count : (c : ℕ) {rs ss : List (List ℕ)} → Paid rs ss → count c rs ≡ count c ss
paid_count c none = refl
paid_count c (more p ps) = rw (class_paid p, paid_count c ps)

pub paid_first : (t : Option Time) {rs ss : List (List ℕ)} → Paid rs ss → first_from t rs ≡ first_from t ss
paid_first t none = refl
paid_first t (more {r = r} {s = s} {rs = rs} p ps) = ap (λ (u : Option Time). first_from (sooner t u) rs) (start_paid p) ∙ paid_first (sooner t (time_at s 8)) ps

pub paid_last : (t : Option Time) {rs ss : List (List ℕ)} → Paid rs ss → last_from t rs ≡ last_from t ss
paid_last t none = refl
paid_last t (more {r = r} {s = s} {rs = rs} p ps) = ap (λ (u : Option Time). last_from (later t u) rs) (stop_paid p) ∙ paid_last (later t (time_at s 14)) ps

-- ---- THE FIRST OF EACH KIND
record Twin (e x : Entry) : Type 0 where
  at : e.at ≡ x.at
  lead : part e.first 0 3 ≡ part x.first 0 3
  kind : kind_of e ≡ kind_of x

data Listed : List Entry → List Entry → Type 0 where
  end : Listed [] []
  one : {e x : Entry} {l m : List Entry} → Twin e x → Listed l m → Listed (e ∷ l) (x ∷ m)

choose : (b c : Bool) {k k' l l' m m' : List Entry} → Listed k k' → Listed l l' → Listed m m' → Listed (cond b k (cond c l m)) (cond b k' (cond c l' m'))
choose true c p q r = p
choose false true p q r = q
choose false false p q r = r

put_listed : {e x : Entry} {l m : List Entry} → Twin e x → Listed l m → Listed (put e l) (put x m)
put_listed t end = one t end
put_listed {e} {x} t (one {e = y} {x = z} u ps) =
    rw (t.kind, u.kind) (choose (ltb (kind_of x) (kind_of z)) (eqb (kind_of x) (kind_of z)) (one t (one u ps)) (one t ps) (one u (put_listed t ps)))

lead_paid : {r s : List ℕ} → Pay r s → part r 0 3 ≡ part s 0 3
lead_paid p = rw (p.header 0 (omega arith), p.header 1 (omega arith), p.header 2 (omega arith))

firsts_listed : (i : ℕ) {rs ss : List (List ℕ)} → Paid rs ss → Listed (firsts i rs) (firsts i ss)
firsts_listed i none = end
firsts_listed i (more {r = r} {s = s} {rs = rs} {ss = ss} p ps) =
    let k : Listed (firsts (i + length r) rs) (firsts (i + length s) ss) = subst (λ (n : ℕ). Listed (firsts (i + length r) rs) (firsts (i + n) ss)) p.long (firsts_listed (i + length r) ps) in
    put_listed (record { at = refl; lead = lead_paid p; kind = be_paid p 0 3 (omega arith) }) k

listed_length : {l m : List Entry} → Listed l m → length l ≡ length m
listed_length end = refl
listed_length (one t ps) = ap suc (listed_length ps)

same_pointers : (m : List ℕ) (b : ℕ) {l k : List Entry} → Listed l k → pointers m b l ≡ pointers m b k
same_pointers m b end = refl
same_pointers m b (one {e = e} {x = x} {l = l} t ps) =
    ap (λ (z : List ℕ). (3 ∷ 0 ∷ 0 ∷ 1 ∷ 0 ∷ 0 ∷ 0 ∷ 27 ∷ (part m 8 12 ++ (z ++ word (b + e.at)))) ∷ pointers m b l) t.lead
    ∙ ap (λ (n : ℕ). ipr m x.first (b + n) ∷ pointers m b l) t.at
    ∙ ap (λ (z : List (List ℕ)). ipr m x.first (b + x.at) ∷ z) (same_pointers m b ps)

pub paid_assembled : (m : List ℕ) {fs gs ks ls : List (List ℕ)} → Paid fs gs → Paid ks ls → Paid (assembled m fs ks) (assembled m gs ls)
paid_assembled m {fs} {gs} {ks} {ls} p q =
    let f = firsts_listed 0 q in
    let b : base fs ks ≡ base gs ls = rw (paid_bytes p, listed_length f) refl in
    let e : pointers m (base fs ks) (firsts 0 ks) ≡ pointers m (base gs ls) (firsts 0 ls) = ap (λ (n : ℕ). pointers m n (firsts 0 ks)) b ∙ same_pointers m (base gs ls) f in
    paid_append p (paid_append (subst (Paid (pointers m (base fs ks) (firsts 0 ks))) e (paid_refl (pointers m (base fs ks) (firsts 0 ks)))) q)

-- ---- FROM LISTS TO BYTES
module _ {a b : List ℕ} where
  headers_at : {i : ℕ} {rs ss : List (List ℕ)} → At a i (joined rs) → At b i (joined ss) → ((r : List ℕ) → In r rs → Own r) → Paid rs ss → (t : ℕ) → In t (starts_from i rs) → (j : ℕ) → j < 20 → get_or a (t + j) 0 ≡ get_or b (t + j) 0
  headers_at x y o none t m j h = absurd (nil m)
  headers_at x y o (more {r = r} {s = s} {rs = rs} {ss = ss} p ps) t (top e) j h =
      let n = (o r (top refl)).least in
      rw e ((at_left r (joined rs) x).byte j (omega arith) ∙ p.header j h ∙ sym ((at_left s (joined ss) y).byte j (omega (arith, p.long))))
  headers_at {i} x y o (more {r = r} {s = s} {rs = rs} {ss = ss} p ps) t (pop m) j h =
      headers_at {i = i + length r} (at_right r (joined rs) x) (subst (λ (n : ℕ). At b (i + n) (joined ss)) (sym p.long) (at_right s (joined ss) y)) (λ r n. o r (pop n)) ps t m j h

  iprs_at : {i : ℕ} {rs ss : List (List ℕ)} → At a i (joined rs) → At b i (joined ss) → ((r : List ℕ) → In r rs → Own r) → Paid rs ss → (t : ℕ) → In t (starts_from i rs) → class a t ≡ 3 → (j : ℕ) → j < 27 → get_or a (t + j) 0 ≡ get_or b (t + j) 0
  iprs_at x y o none t m c j h = absurd (nil m)
  iprs_at {i} x y o (more {r = r} {s = s} {rs = rs} {ss = ss} p ps) t (top e) c j h =
      let w = o r (top refl) in
      let n = w.least in
      let z : i + 0 ≡ i = omega arith in
      let k : class a i ≡ class r 0 = rw z at ((at_left r (joined rs) x).byte 0 (omega arith)) in
      let d : class r 0 ≡ 3 = sym k ∙ sym (ap (class a) e) ∙ c in
      let l = w.ipr d in
      rw e ((at_left r (joined rs) x).byte j (omega arith) ∙ ap (λ (v : List ℕ). get_or v j 0) (p.ipr d) ∙ sym ((at_left s (joined ss) y).byte j (omega (arith, p.long))))
  iprs_at {i} x y o (more {r = r} {s = s} {rs = rs} {ss = ss} p ps) t (pop m) c j h =
      iprs_at {i = i + length r} (at_right r (joined rs) x) (subst (λ (n : ℕ). At b (i + n) (joined ss)) (sym p.long) (at_right s (joined ss) y)) (λ r n. o r (pop n)) ps t m c j h

-- A PRODUCT of the one list and one of the other, of the same main header, are apart in payload alone
pub paid_apart : (m : List ℕ) (rs ss : List (List ℕ)) → Built m rs → Paid rs ss → Apart (bytes_of m rs) (bytes_of m ss)
paid_apart m rs ss b p =
    let l = b.fits.long in
    let x : At (bytes_of m rs) 3307 (joined rs) = rw l at (at_end m (joined rs)) in
    let y : At (bytes_of m ss) 3307 (joined ss) = rw l at (at_end m (joined ss)) in
    let o = b.tiles.own in
    let r : Repaid (bytes_of m rs) (bytes_of m ss) (starts_from 3307 rs) = record {
      long = omega (arith, length-append m (joined rs), length-append m (joined ss), bytes_joined rs, bytes_joined ss, paid_bytes p);
      main = λ j h. get_or-append m (joined rs) 0 j (omega arith) ∙ sym (get_or-append m (joined ss) 0 j (omega arith));
      headers = headers_at x y o p;
      iprs = iprs_at x y o p;
    } in
    repaid_apart (built_meets m rs b) (subst (Repaid (bytes_of m rs) (bytes_of m ss)) (sym (built_list m rs b)) r)
