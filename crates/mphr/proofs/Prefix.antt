-- THE PREFIX LAW of the main header: a fault that is shown at k depends on the first k bytes alone, so a refusal stays for every longer
-- arrival; and one answer at most is right. Each test looks only at bytes of its line. Assumes nothing.
use mathlib.Core.Path.{◌≡◌, refl, sym, ap, ◌∙◌}
use mathlib.Core.Logic.{inl, inr, ⊎_elim}
use mathlib.Core.List.{List}
use Prim.Native.Nat.{ℕ, zero, suc, ◌+◌, ◌*◌, ◌≤◌, ◌<◌}
use native.Mathlib.Omega.{arith}
use lib.Dec.{eqb}
use lib.ListN.{get_or}
use Rattle.calendar.specs.Said.{refusing}
use Rattle.calendar.specs.declared.Refusal.{Refusal}
use Rattle.meter.specs.Integer.{be_at}
use Rattle.meter.proofs.IntegerLaws.{be_at_same}
use Rattle.record.proofs.TimesLaws.{timed_same as timed-at-same}
use Rattle.text.proofs.Alike.{lead_cong}
use Rattle.tables.specs.Lawful.{Same, Lawful}
use Rattle.tables.proofs.Laws.{same_back, number_is, not_clean}
use Rattle.tables.proofs.Laws as L
use Rattle.text.proofs.Same.{number_same, value_same}
use Rattle.mphr.specs.Layout.{names, width_of, kind_of, line_start}
use Rattle.mphr.specs.Table.{headed, timed, named, framed, valued, declared, total, sum, Sums, bad_frame, bad_value, Fault, bad_header, bad_line, bad_size, bad_totals, bad_times, row, shown, table, Fine, FirstIs}
use Rattle.std.specs.declared.result.Result.TheVariants.{Ok, Err}
use Rattle.std.specs.declared.result.Result.{Result}
use Rattle.mphr.proofs.LayoutLaws.{start_next, start_mono, start_64, start_29}
use Rattle.mphr.proofs.LineLaws.{declared_is, total_is}
use Rattle.mphr.proofs.TurnLaws.{shown_most}

module _ (a b : List ℕ) (k : ℕ) (same : Same a b k) where
  pub be_same : (i n : ℕ) → i + n ≤ k → be_at a i n ≡ be_at b i n
  be_same i n h = be_at_same a b i i n (λ j l. same.byte (i + j) (omega arith))

  headed_same : 20 ≤ k → headed a ≡ headed b
  unfolding headed
  headed_same h = rw (same.byte 0 (omega arith), same.byte 1 (omega arith), same.byte 2 (omega arith), be_same 4 4 (omega arith))

  timed_same : 20 ≤ k → timed a ≡ timed b
  timed_same h = timed-at-same a b 0 (λ j l. same.byte j (omega arith))

  named_same : (l : ℕ) → line_start l + 30 ≤ k → named a l ≡ named b l
  unfolding named
  named_same l h = ap (λ (n : ℕ). eqb n 30) (lead_cong _ _ 30 (λ j g. ap (λ (x : ℕ). eqb x (get_or names (30 * l + j) 0)) (same.byte (line_start l + j) (omega arith))))

  framed_same : (l : ℕ) → line_start (suc l) ≤ k → framed a l ≡ framed b l
  unfolding framed
  framed_same l h =
      let e = start_next l in
      rw (named_same l (omega arith), same.byte (line_start l + 30) (omega arith), same.byte (line_start l + 31) (omega arith), same.byte (line_start l + 32 + width_of l) (omega arith))

  valued_same : (l : ℕ) → l < 72 → line_start (suc l) ≤ k → valued a l ≡ valued b l
  unfolding valued
  valued_same l g h = let e = start_next l in value_same same (kind_of l) (line_start l + 32) (width_of l) (omega arith)

  pub declared_same : 1497 ≤ k → declared a ≡ declared b
  declared_same h = declared_is a ∙ number_same same 1485 11 (omega arith) ∙ sym (declared_is b)

  pub total_same : 2994 ≤ k → (j : ℕ) → j ≤ 8 → total a j ≡ total b j
  total_same h j l = total_is a j (omega arith) ∙ number_same same (2675 + 39 * j) 6 (omega arith) ∙ sym (total_is b j (omega arith))

  sum_same : 2994 ≤ k → (n : ℕ) → n ≤ 8 → sum a n ≡ sum b n
  unfolding sum
  sum_same h zero l = refl
  sum_same h (suc n) l = rw (sum_same h n (omega arith), total_same h (n + 1) (omega arith))

  sums_on : 2994 ≤ k → Sums a → Sums b
  sums_on h s = record {
    main = sym (total_same h 1 (omega arith)) ∙ s.main;
    second = omega (arith, s.second, total_same h 2 (omega arith));
    all = sym (total_same h 0 (omega arith)) ∙ s.all ∙ sum_same h 8 (omega arith);
  }

-- THE PREFIX LAW
pub local : {a b : List ℕ} {k : ℕ} → Same a b k → (f : Fault a) → shown f ≤ k → (g : Fault b) × (row f ≡ row g)
local {a} {b} {k} same (bad_header e) h = (bad_header (sym (headed_same a b k same h) ∙ e), refl)
local {a} {b} {k} same (bad_line l g (bad_frame e)) h = (bad_line l g (bad_frame (sym (framed_same a b k same l h) ∙ e)), refl)
local {a} {b} {k} same (bad_line l g (bad_value e)) h = (bad_line l g (bad_value (sym (valued_same a b k same l g h) ∙ e)), refl)
local {a} {b} {k} same (bad_size v d) h =
    let e = declared_same a b k same h in
    (bad_size (sym (valued_same a b k same 28 (omega arith) (omega (arith, start_29))) ∙ v) (⊎_elim (λ u. inl (omega arith)) (λ u. inr (omega arith)) d), refl)
local {a} {b} {k} same (bad_totals v d) h = (
  bad_totals (λ j l. let m = start_mono {j = suc (55 + j)} {k = 64} (omega arith) in sym (valued_same a b k same (55 + j) (omega arith) (omega (arith, start_64))) ∙ v j l) (λ s. d (sums_on b a k (same_back same) h s)),
  refl,
)
local {a} {b} {k} same (bad_times e) h = (bad_times (sym (timed_same a b k same h) ∙ e), refl)

-- so what holds of every table (`tables`, proofs/Laws.antt) holds of this one: a refusal stays for every longer arrival
pub lawful : Lawful table
lawful = record { alike = local; kept = λ r. refl; one = λ r s e. e }

-- one answer at most is right
pub same_refusal : (x y : Refusal) → x.number ≡ y.number → x.place ≡ y.place → x ≡ y
same_refusal x y n p = ap (λ (k : ℕ). refusing k x.place) n ∙ ap (refusing y.number) p

pub unique_header_fault : (a : List ℕ) (r s : Result Unit Refusal) → FirstIs a r → FirstIs a s → r ≡ s
unique_header_fault a (Ok _) (Ok _) h k = refl
unique_header_fault a (Ok _) (Err x) h k = absurd (not_clean k h)
unique_header_fault a (Err x) (Ok _) h k = absurd (not_clean h k)
unique_header_fault a (Err x) (Err y) h k = let u = L.unique_given table lawful h k in ap Err (same_refusal x y u.0 u.1)

-- EXPORTED: a header that is fine stays so
pub fine_on : {a b : List ℕ} {k : ℕ} → Same a b k → 3307 ≤ k → Fine a → Fine b
fine_on same h f g n = let u = local (same_back same) g (omega (arith, shown_most g)) in f u.0 (omega (arith, number_is u.1))
