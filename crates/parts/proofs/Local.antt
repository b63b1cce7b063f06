-- LOCALITY: the bytes of a part stand in the whole from a place on, so a field of the part at j is the whole's at that place and j; and the main header
-- is a matter of the first 3,307 bytes. Assumes nothing.
use Prim.Native.Nat.{ℕ, ◌+◌, ◌≤◌, ◌<◌}
use native.Mathlib.Omega.{arith}
use mathlib.Core.Path.{◌≡◌, refl, sym, ◌∙◌}
use mathlib.Core.Bool.{Bool, true, false, true≢false}
use mathlib.Core.Logic.{⊎_elim}
use mathlib.Core.List.{List, ◌++◌}
use lib.ListN.{length, get_or, take, drop, length-append, get_or-append}
use lib.Seq.{get_or-append-add, get_or-take, get_or-drop}
use Rattle.meter.specs.Integer.{be_at}
use Rattle.meter.proofs.IntegerLaws.{be_at_same}
use Rattle.record.specs.Times.{timed_at}
use Rattle.tables.specs.Lawful.{Same}
use Rattle.tables.proofs.Laws.{same_back}
use Rattle.mphr.specs.Table.{headed, timed, declared, total, Fault, bad_header, bad_line, bad_size, bad_totals, bad_times, bad_frame, bad_value, Fine}
use Rattle.mphr.proofs.Export.{fine_framed, fine_valued, sized, summed}
use Rattle.mphr.proofs.Prefix.{local, declared_same, total_same}
use Rattle.mphr.proofs.TurnLaws.{shown_most}
use Rattle.demands.specs.Product.{MainHeader, class, group, kind, size, target_class, target_kind, offset}

-- the bytes of r stand in a from byte i on
pub record At (a : List ℕ) (i : ℕ) (r : List ℕ) : Type 0 where
  pub byte : (j : ℕ) → j < length r → get_or a (i + j) 0 ≡ get_or r j 0

-- what stands together stands apart
pub at_left : {a : List ℕ} {i : ℕ} (r s : List ℕ) → At a i (r ++ s) → At a i r
at_left r s t = record { byte = λ j h. t.byte j (omega (arith, length-append r s)) ∙ get_or-append r s 0 j h }

pub at_right : {a : List ℕ} {i : ℕ} (r s : List ℕ) → At a i (r ++ s) → At a (i + length r) s
at_right {a} {i} r s t = record {
  byte = λ j h.
      let e : i + length r + j ≡ i + (length r + j) = omega arith in
      rw e (t.byte (length r + j) (omega (arith, length-append r s)) ∙ get_or-append-add r s j 0);
}

pub at_end : (m s : List ℕ) → At (m ++ s) (length m) s
at_end m s = record { byte = λ j h. get_or-append-add m s j 0 }

pub at_part : (a : List ℕ) (i n : ℕ) → length (take n (drop i a)) ≡ n → At a i (take n (drop i a))
at_part a i n e = record { byte = λ j h. let g : j < n = omega arith in sym (get_or-take n (drop i a) j 0 g ∙ get_or-drop i a j 0) }

-- ---- the fields of a record
pub timed_alike : (a b : List ℕ) (i j : ℕ) → be_at a (i + 8) 6 ≡ be_at b (j + 8) 6 → be_at a (i + 14) 6 ≡ be_at b (j + 14) 6 → timed_at a i ≡ timed_at b j
unfolding timed_at
timed_alike a b i j e f = rw (e, f)

module _ {a : List ℕ} {i : ℕ} {r : List ℕ} (t : At a i r) where
  pub be_at_lem : (j n : ℕ) → j + n ≤ length r → be_at a (i + j) n ≡ be_at r j n
  be_at_lem j n h = be_at_same a r (i + j) j n (λ k l. let e : i + j + k ≡ i + (j + k) = omega arith in rw e (t.byte (j + k) (omega arith)))

  be_first : (n : ℕ) → n ≤ length r → be_at a i n ≡ be_at r 0 n
  be_first n h = let e : i + 0 ≡ i = omega arith in rw e at (be_at_lem 0 n (omega arith))

  pub class_at : 20 ≤ length r → class a i ≡ class r 0
  class_at h = let e : i + 0 ≡ i = omega arith in rw e at (t.byte 0 (omega arith))

  pub group_at : 20 ≤ length r → group a i ≡ group r 0
  group_at h = t.byte 1 (omega arith)

  pub kind_at_lem : 20 ≤ length r → kind a i ≡ kind r 0
  kind_at_lem h = be_first 3 (omega arith)

  pub size_at : 20 ≤ length r → size a i ≡ size r 0
  size_at h = be_at_lem 4 4 (omega arith)

  pub timed_at_lem : 20 ≤ length r → timed_at a i ≡ timed_at r 0
  timed_at_lem h = timed_alike a r i 0 (be_at_lem 8 6 (omega arith)) (be_at_lem 14 6 (omega arith))

  pub target_class_at : length r ≡ 27 → target_class a i ≡ target_class r 0
  target_class_at h = t.byte 20 (omega arith)

  pub target_kind_at : length r ≡ 27 → target_kind a i ≡ target_kind r 0
  target_kind_at h = be_at_lem 20 3 (omega arith)

  pub offset_at : length r ≡ 27 → offset a i ≡ offset r 0
  offset_at h = be_at_lem 23 4 (omega arith)

-- ---- the main header
clash : {b : Bool} → b ≡ true → b ≡ false → ⊥
clash t f = true≢false (sym t ∙ f)

passes : (b : Bool) → (b ≡ false → ⊥) → b ≡ true
passes true n = refl
passes false n = absurd (n refl)

no_fault : {a : List ℕ} → MainHeader a → (g : Fault a) → ⊥
no_fault h (bad_header e) = clash h.header e
no_fault h (bad_line j l (bad_frame e)) = clash (h.lines j l).0 e
no_fault h (bad_line j l (bad_value e)) = clash (h.lines j l).1 e
no_fault h (bad_size _ d) = ⊎_elim (λ z. omega (arith, h.least)) (λ z. omega (arith, h.most)) d
no_fault h (bad_totals _ d) = d h.sums
no_fault h (bad_times e) = clash h.times e

fault_free : {a : List ℕ} → ((g : Fault a) → ⊥) → MainHeader a
fault_free {a} n =
    let f : Fine a = λ g _. n g in
    record {
      header = passes (headed a) (λ e. n (bad_header e));
      times = passes (timed a) (λ e. n (bad_times e));
      lines = λ j h. (fine_framed f j h, fine_valued f j h);
      least = (sized f).0;
      most = (sized f).1;
      sums = summed f;
    }

module _ {a b : List ℕ} (same : Same a b 3307) where
  pub header_on : MainHeader a → MainHeader b
  header_on h = fault_free (λ g. no_fault h (local (same_back same) g (omega (arith, shown_most g))).0)

  pub declared_on : declared a ≡ declared b
  declared_on = declared_same a b 3307 same (omega arith)

  pub total_on : (c : ℕ) → c ≤ 8 → total a c ≡ total b c
  total_on = total_same a b 3307 same (omega arith)

pub same_main : (m s : List ℕ) → length m ≡ 3307 → Same m (m ++ s) 3307
same_main m s e = record { byte = λ j h. sym (get_or-append m s 0 j (omega arith)) }
