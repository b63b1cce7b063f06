-- WHAT A PROFILE JUDGES, for every profile p: a product is accepted exactly where it meets the format and every record of it meets the profile; 29 names the
-- first record that does not; and no second answer fits. Assumes nothing.
use Prim.Native.Nat.{ℕ, suc, ◌≤◌, ◌<◌}
use native.Mathlib.Omega.{arith}
use mathlib.Core.Path.{◌≡◌, refl, sym, ap, ◌∙◌}
use mathlib.Core.Bool.{Bool, true, false, cond}
use mathlib.Core.Logic.{◌⊎◌, inl, inr, ⊎_elim}
use mathlib.Core.List.Memᴰ.{head as top}
use mathlib.Core.List.Memᴰ.{not-nil as nil}
use mathlib.Core.List.Memᴰ.{tail as pop}
use mathlib.Core.List.{List, [], ◌∷◌, Memᴰ as In}
use lib.ListN.{length}
use Rattle.calendar.specs.Said.{refusing}
use Rattle.mphr.proofs.Prefix.{same_refusal}
use Rattle.tables.proofs.Laws.{not_clean}
use Rattle.judge.specs.Extent.{Short, Complete, Covered}
use Rattle.finish.specs.Finish.{starts, put, Refuses, FinishedIs, RefusesBy, against, AcceptsBy, RowsBy}
use Rattle.finish.specs.Finish as F
use Rattle.finish.specs.Rows.{rows_of}
use Rattle.judge.specs.Profile.{is_allowed}
use Rattle.finish.specs.Profile.{first_against}
use Rattle.std.specs.declared.option.Option.TheVariants.{Some, None}
use Rattle.std.specs.declared.result.Result.TheVariants.{Ok, Err}
use Rattle.std.specs.declared.option.Option.{Option}
use Rattle.std.specs.declared.result.Result.{Result}
use Rattle.calendar.specs.declared.Refusal.{Refusal}
use Rattle.finish.proofs.AheadLaws.{all_ahead, one_ahead}
use Rattle.demands.specs.Product.{Meets}
use Rattle.demands.proofs.Prefix.{unique_given}
use Rattle.demands.proofs.Demands.{demand_1}
use Rattle.level0.specs.Profile.{Named}
use Rattle.demands.proofs.Accepted.{complete_is_product, covers, accepted_meets, meets_accepted, unique_finished}

-- ---- the first record against a profile, in words
split : (x : Option ℕ) (b : Bool) (i : ℕ) {y : Option ℕ} → cond b x (Some i) ≡ y → ((b ≡ true) × (x ≡ y)) ⊎ ((b ≡ false) × (Some i ≡ y))
split x true i e = inl (refl, e)
split x false i e = inr (refl, e)

same_place : {i q : ℕ} → Some i ≡ Some q → i ≡ q
same_place e = cc

never : {x : Option ℕ} {q : ℕ} {P : Type 0} → x ≡ None → x ≡ Some q → P
never e d = let z : ◌≡◌ {A = ℕ} 0 1 = cc in absurd (omega arith)

pub named : (p : List (List ℕ)) (a l : List ℕ) (q : ℕ) → first_against p a l ≡ Some q → Named p a l q
named p a [] q e = never refl e
named p a (i ∷ l) q e = go (split (first_against p a l) (is_allowed p a i) i e) (named p a l q)
  where
    go : ((is_allowed p a i ≡ true) × (first_against p a l ≡ Some q)) ⊎ ((is_allowed p a i ≡ false) × (Some i ≡ Some q)) → (first_against p a l ≡ Some q → Named p a l q) → Named p a (i ∷ l) q
    go (inl (b, d)) f =
        let n = f d in
        record { before = i ∷ n.before; after = n.after; is = ap (λ (m : List ℕ). i ∷ m) n.is; met = met n; unmet = n.unmet }
      where
        met : (n : Named p a l q) (j : ℕ) → In j (i ∷ n.before) → is_allowed p a j ≡ true
        met n j (top d) = rw d b
        met n j (pop m) = n.met j m
    go (inr (b, d)) f =
        let s : i ≡ q = same_place d in
        record { before = []; after = l; is = ap (λ (j : ℕ). j ∷ l) s; met = λ j m. absurd (nil m); unmet = ap (is_allowed p a) (sym s) ∙ b }

-- and where there is none
pub all_met : (p : List (List ℕ)) (a l : List ℕ) → first_against p a l ≡ None → (i : ℕ) → In i l → is_allowed p a i ≡ true
all_met p a [] e i m = absurd (nil m)
all_met p a (j ∷ l) e i m = go (split (first_against p a l) (is_allowed p a j) j e) m (all_met p a l)
  where
    go : ((is_allowed p a j ≡ true) × (first_against p a l ≡ None)) ⊎ ((is_allowed p a j ≡ false) × (Some j ≡ None)) → In i (j ∷ l) → (first_against p a l ≡ None → (i : ℕ) → In i l → is_allowed p a i ≡ true) → is_allowed p a i ≡ true
    go (inl (b, d)) (top e) f = rw e b
    go (inl (b, d)) (pop n) f = f d i n
    go (inr (b, d)) n f = never d refl

pub met_none : (p : List (List ℕ)) (a l : List ℕ) → ((i : ℕ) → In i l → is_allowed p a i ≡ true) → first_against p a l ≡ None
met_none p a [] f = refl
met_none p a (i ∷ l) f = rw (f i (top refl)) (met_none p a l (λ j m. f j (pop m)))

-- ---- two ways over one product have the same starts
one_way : {a : List ℕ} {c d : ℕ} → Complete a → (v : Covered a c) (w : Covered a d) → 0 ∷ starts v.way ≡ 0 ∷ starts w.way
one_way k v w = one_ahead (all_ahead k v) (all_ahead k w)

short_no : {a : List ℕ} {P : Type 0} → Complete a → Short a → P
short_no k s = absurd (⊎_elim (λ z. omega (arith, k.header)) (λ z. omega (arith, k.come)) s)

-- ---- ACCEPTED EXACTLY WHERE the product meets the format and every record the profile
pub accepted_by :
    (p : List (List ℕ)) {a : List ℕ} {rows rows' : List (List ℕ)} {c : ℕ} → RowsBy p a rows (Ok c) rows'
    → (m : Meets a) × ((i : ℕ) → In i (0 ∷ m.list) → is_allowed p a i ≡ true) × (c ≡ suc (length m.list)) × (rows' ≡ put 0 (rows_of a (0 ∷ m.list)) rows)
accepted_by p {a} f =
    let m = accepted_meets f.accepts in
    let e = covers m.0 f.accepts.filled.covered in
    let d = ap (λ (l : List ℕ). first_against p a (0 ∷ l)) (sym e.1) ∙ f.allowed in
    (m.0, all_met p a (0 ∷ m.0.list) d, m.1, m.2)

pub meets_by :
    (p : List (List ℕ)) (a : List ℕ) (rows rows' : List (List ℕ)) (m : Meets a) → ((i : ℕ) → In i (0 ∷ m.list) → is_allowed p a i ≡ true)
    → suc (length m.list) ≤ length rows → (r : Result ℕ Refusal) → RowsBy p a rows r rows' → (r ≡ Ok (suc (length m.list))) × (rows' ≡ put 0 (rows_of a (0 ∷ m.list)) rows)
meets_by p a rows rows' m met h (Ok c) f = meets_accepted a rows rows' m h (Ok c) f.accepts
meets_by p a rows rows' m met h (Err r) (q, e) = meets_accepted a rows rows' m h (Err r) (go q, e)
  where
    go : {n s : ℕ} → RefusesBy p a (length rows) n s → Refuses a (length rows) n s
    go (F.faulty g) = F.faulty g
    go (F.short c s) = F.short c s
    go (against k v d) = never (ap (λ (l : List ℕ). first_against p a (0 ∷ l)) (covers m v).1 ∙ met_none p a (0 ∷ m.list) met) d
    go (F.no_room k v d l) = F.no_room k v l

-- ---- 29 NAMES THE FIRST, and a product it is: no other refusal has that number
pub first_named : (p : List (List ℕ)) {a : List ℕ} {room q : ℕ} → RefusesBy p a room 29 q → (m : Meets a) × Named p a (0 ∷ m.list) q
first_named p {a} {room} {q} f = go 29 q f refl refl
  where
    go : (n s : ℕ) → RefusesBy p a room n s → n ≡ 29 → s ≡ q → (m : Meets a) × Named p a (0 ∷ m.list) q
    go n s (F.faulty g) d e = absurd (omega (arith, d, demand_1.arrival a (refusing n s) g))
    go n s (F.short c h) d e = absurd (omega (arith, d))
    go n s (against {q = t} k v z) d e =
        let m = complete_is_product k in
        (m, named p a (0 ∷ m.list) q (ap (λ (l : List ℕ). first_against p a (0 ∷ l)) (sym (covers m v).1) ∙ z ∙ ap Some e))
    go n s (F.no_room k v z l) d e = absurd (omega (arith, d))

-- ---- NO SECOND ANSWER
pub unique_by : (p : List (List ℕ)) (a : List ℕ) (rows : List (List ℕ)) (r s : Result ℕ Refusal) (x y : List (List ℕ)) → RowsBy p a rows r x → RowsBy p a rows s y → (r ≡ s) × (x ≡ y)
unique_by p a rows (Ok c) s x y f g =
    let m = accepted_by p f in
    let h = covers m.0 f.accepts.filled.covered in
    let k = meets_by p a rows y m.0 m.1 (omega (arith, m.2, f.accepts.filled.fits)) s g in
    (ap Ok m.2 ∙ sym k.0, m.3 ∙ sym k.1)
unique_by p a rows (Err r) (Ok c) x y f g =
    let m = accepted_by p g in
    let k = meets_by p a rows x m.0 m.1 (omega (arith, m.2, g.accepts.filled.fits)) (Err r) f in
    (k.0 ∙ ap Ok (sym m.2), k.1 ∙ sym m.3)
unique_by p a rows (Err r) (Err s) x y (f, e) (g, d) = let u = go f g in (ap Err (same_refusal r s u.0 u.1), e ∙ sym d)
  where
    seen : {c d q : ℕ} → Complete a → (v : Covered a c) (w : Covered a d) → first_against p a (0 ∷ starts v.way) ≡ Some q → first_against p a (0 ∷ starts w.way) ≡ Some q
    seen k v w z = ap (first_against p a) (sym (one_way k v w)) ∙ z

    counted : {c d : ℕ} → Complete a → (v : Covered a c) (w : Covered a d) → length rows < c → length rows < d → c ≡ d
    counted k v w h l =
        let u = unique_finished a rows (Err (record { number = 18; place = _ })) (Err (record { number = 18; place = _ })) rows rows (F.no_room k v h, refl) (F.no_room k w l, refl) in
        place u.0
      where
        place : {i j : ℕ} → ◌≡◌ {A = Result ℕ Refusal} (Err (record { number = 18; place = i })) (Err (record { number = 18; place = j })) → i ≡ j
        place e = ap place_of e
          where
            place_of : Result ℕ Refusal → ℕ
            place_of (Ok c) = 0
            place_of (Err r) = r.place

    go : {n m n' m' : ℕ} → RefusesBy p a (length rows) n m → RefusesBy p a (length rows) n' m' → (n ≡ n') × (m ≡ m')
    go (F.faulty g) (F.faulty h) = unique_given g h
    go (F.faulty g) (F.short c s) = absurd (not_clean g c)
    go (F.faulty g) (against k v z) = absurd (not_clean g k.clean)
    go (F.faulty g) (F.no_room k v z l) = absurd (not_clean g k.clean)
    go (F.short c s) (F.faulty g) = absurd (not_clean g c)
    go (F.short c s) (F.short c' s') = (refl, refl)
    go (F.short c s) (against k v z) = short_no k s
    go (F.short c s) (F.no_room k v z l) = short_no k s
    go (against k v z) (F.faulty g) = absurd (not_clean g k.clean)
    go (against k v z) (F.short c s) = short_no k s
    go (against k v z) (against k' w u) = (refl, same_place (sym (seen k v w z) ∙ u))
    go (against k v z) (F.no_room k' w u l) = never u (seen k v w z)
    go (F.no_room k v z l) (F.faulty g) = absurd (not_clean g k.clean)
    go (F.no_room k v z l) (F.short c s) = short_no k s
    go (F.no_room k v z l) (against k' w u) = never z (seen k' w v u)
    go (F.no_room k v z l) (F.no_room k' w u l') = (refl, counted k v w l l')
