-- THE MONTH REPORT DOES NOT SEE PAYLOAD (02, requests Eight and Twelve): what a product adds to a report is made of its records' headers alone, so the other of two
-- products that differ in payload adds the same, and the same is answered. Assumes nothing.
use Prim.Native.Nat.{ℕ, ◌+◌, ◌≤◌}
use native.Mathlib.Omega.{arith}
use mathlib.Core.Path.{◌≡◌, refl, sym, ap, subst, ◌∙◌}
use mathlib.Core.Bool.{Bool, true, false, cond}
use mathlib.Core.List.Memᴰ.{head as top}
use mathlib.Core.List.Memᴰ.{not-nil as nil}
use mathlib.Core.List.Memᴰ.{tail as pop}
use mathlib.Core.List.{List, [], ◌∷◌, Memᴰ as In}
use lib.Dec.{eqb}
use Rattle.meter.specs.Time.{time_of, time_at}
use Rattle.std.specs.declared.option.Option.{Option}
use Rattle.calendar.specs.declared.Refusal.{Refusal}
use Rattle.meter.specs.declared.time.Time.{Time}
use Rattle.meter.proofs.IntegerLaws.{be_at_same}
use Rattle.demands.specs.Product.{class, size}
use Rattle.demands.proofs.Accepted.{meets_fit, one_list}
use Rattle.moment.specs.Moment.{gap_between, overlap_between, undefined_between}
use Rattle.month.specs.Report.{sum_of, records_in, bytes_in, mdrs, over_pairs, stop_to_start, contribution, Contributes, accepted, unfit, Added, AddIs}
use Rattle.month.proofs.ReportLaws.{unique_add}
use Rattle.payload.specs.Apart.{Apart}
use Rattle.payload.proofs.Twins.{Twins, twins, alike, header_byte}

module _ {a b : List ℕ} (t : Twins a b) where
  abbrev all : List ℕ
  all = 0 ∷ t.one.list

  abbrev Among : List ℕ → Type 0
  Among l = (j : ℕ) → In j l → In j all

  same_sum : (w v : ℕ → ℕ) → ((i : ℕ) → In i all → w i ≡ v i) → (c : ℕ) (l : List ℕ) → Among l → sum_of a w c l ≡ sum_of b v c l
  same_sum w v f c [] sub = refl
  same_sum w v f c (i ∷ l) sub = let m = sub i (top refl) in rw ((alike t i m).class, f i m, same_sum w v f c l (λ j n. sub j (pop n)))

  same_mdrs : (l : List ℕ) → Among l → mdrs a l ≡ mdrs b l
  same_mdrs [] sub = refl
  same_mdrs (i ∷ l) sub = rw ((alike t i (sub i (top refl))).class, same_mdrs l (λ j n. sub j (pop n)))

  mdrs_among : (l : List ℕ) → Among l → Among (mdrs b l)
  mdrs_among [] sub = λ j n. absurd (nil n)
  mdrs_among (i ∷ l) sub = go (eqb (class b i) 8) (mdrs_among l (λ j n. sub j (pop n)))
    where
      own : Among (mdrs b l) → Among (i ∷ mdrs b l)
      own f j (top e) = sub j (top e)
      own f j (pop n) = f j n

      go : (x : Bool) → Among (mdrs b l) → Among (cond x (i ∷ mdrs b l) (mdrs b l))
      go true f = own f
      go false f = f

  same_pairs : (f g : ℕ → ℕ → ℕ) → ((i j : ℕ) → In i all → In j all → f i j ≡ g i j) → (l : List ℕ) → Among l → over_pairs f l ≡ over_pairs g l
  same_pairs f g h [] sub = refl
  same_pairs f g h (i ∷ []) sub = refl
  same_pairs f g h (i ∷ j ∷ l) sub = rw (h i j (sub i (top refl)) (sub j (pop (top refl))), same_pairs f g h (j ∷ l) (λ k n. sub k (pop n)))

  -- a time of a header
  same_time : (i k : ℕ) → In i all → k ≤ 14 → time_at a (i + k) ≡ time_at b (i + k)
  same_time i k m h = ap time_of (be_at_same a b (i + k) (i + k) 6 (λ j l. let e : i + k + j ≡ i + (k + j) = omega arith in rw e (header_byte t i m (k + j) (omega arith))))

  same_between : (f : Option Time → Option Time → ℕ) (i j : ℕ) → In i all → In j all → stop_to_start f a i j ≡ stop_to_start f b i j
  same_between f i j m n = ap (λ (x : Option Time). f x (time_at a (j + 8))) (same_time i 14 m (omega arith)) ∙ ap (f (time_at b (i + 14))) (same_time j 8 n (omega arith))

  same_over : (f : Option Time → Option Time → ℕ) → over_pairs (stop_to_start f a) (mdrs a all) ≡ over_pairs (stop_to_start f b) (mdrs b all)
  same_over f = ap (over_pairs (stop_to_start f a)) (same_mdrs all (λ j n. n)) ∙ same_pairs (stop_to_start f a) (stop_to_start f b) (same_between f) (mdrs b all) (mdrs_among all (λ j n. n))

  same_contribution : contribution a all ≡ contribution b all
  same_contribution =
      let r : (c : ℕ) → records_in a all c ≡ records_in b all c = λ c. same_sum (λ (i : ℕ). 1) (λ (i : ℕ). 1) (λ i m. refl) c all (λ j n. n) in
      let s : (c : ℕ) → bytes_in a all c ≡ bytes_in b all c = λ c. same_sum (size a) (size b) (λ i m. (alike t i m).size) c all (λ j n. n) in
      rw (r 1, r 2, r 3, r 4, r 5, r 6, r 7, r 8, s 1, s 2, s 3, s 4, s 5, s 6, s 7, s 8, same_over gap_between, same_over overlap_between, same_over undefined_between)

  contributes_over : {r : Option Refusal} {v : List ℕ} → Contributes a r v → Contributes b r v
  contributes_over (accepted m) =
      let e : contribution b (0 ∷ t.two.list) ≡ contribution a (0 ∷ m.list) = ap (λ (l : List ℕ). contribution b (0 ∷ l)) t.list ∙ sym same_contribution ∙ ap (λ (l : List ℕ). contribution a (0 ∷ l)) (one_list t.one m) in
      subst (Contributes b _) e (accepted t.two)
  contributes_over (unfit r g) = absurd (meets_fit t.one r g)

-- ---- THE LAWS
module _ {a b : List ℕ} (x : Apart a b) where
  pub apart_contributes : {r : Option Refusal} {v : List ℕ} → Contributes a r v → Contributes b r v
  apart_contributes = contributes_over (twins x)

  -- added to the same report
  pub apart_add : {y z : List ℕ} {r : Added} → AddIs a y r z → AddIs b y r z
  apart_add p = record { said = p.said; share = p.share; contributes = apart_contributes p.contributes; joins = p.joins }

  pub same_add : (y : List ℕ) (r s : Added) (z w : List ℕ) → AddIs a y r z → AddIs b y s w → (r ≡ s) × (z ≡ w)
  same_add y r s z w p q = unique_add b y r s z w (apart_add p) q
