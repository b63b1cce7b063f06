-- What the walk over the lines can say at each way out. Every fault is shown where a line starts (its stage), so that a fault of the
-- next stage with the lowest number is the first, and none is passed over. Assumes nothing.
use mathlib.Core.Path.{◌≡◌, refl, sym, ap}
use mathlib.Core.Bool.{true, false}
use mathlib.Core.Logic.{◌⊎◌, ⊎_elim}
use mathlib.Core.List.{List}
use Prim.Native.Nat.{ℕ, suc, ◌+◌, ◌≤◌, ◌<◌}
use native.Mathlib.Numerals.{add-one}
use native.Mathlib.Omega.{arith}
use native.Mathlib.Decide.{ℕ_discrete, dec_lt}
use lib.ListN.{length}
use Rattle.tables.specs.Table.{Before}
use Rattle.tables.proofs.Laws.{given, given_at}
use Rattle.tables.proofs.Passing.{passes, clash}
use Rattle.mphr.specs.Layout.{width_of, line_start}
use Rattle.mphr.specs.Table.{headed, timed, framed, valued, declared, Sums, bad_frame, bad_value, Fault, bad_header, bad_line, bad_size, bad_totals, bad_times, row, number, place, shown, Given, Clean}
use Rattle.mphr.specs.Resumed.{Resumes, UnderWay}
use Rattle.mphr.specs.Turning.{stage, Past, Gone, Numbered, Later, Ready}
use Rattle.mphr.proofs.LayoutLaws.{start_next, start_29, start_64, start_72, start_mono, start_less}
use Rattle.mphr.proofs.LineLaws.{size_number, total_number}
use Rattle.mphr.proofs.UnderWayLaws.{at_first, at_line, at_end}

-- each fault is shown where its stage starts
pub shown_is : {a : List ℕ} (g : Fault a) → shown g ≡ line_start (stage g)
unfolding line_start
shown_is (bad_header _) = refl
shown_is (bad_line k _ (bad_frame _)) = refl
shown_is (bad_line k _ (bad_value _)) = refl
shown_is (bad_size _ _) = sym start_29
shown_is (bad_totals _ _) = sym start_64
shown_is (bad_times _) = refl

pub stage_most : {a : List ℕ} (g : Fault a) → stage g ≤ 72
stage_most (bad_header _) = omega arith
stage_most (bad_line k h _) = omega arith
stage_most (bad_size _ _) = omega arith
stage_most (bad_totals _ _) = omega arith
stage_most (bad_times _) = omega arith

-- EXPORTED: the whole header shows each of its faults
pub shown_most : {a : List ℕ} (g : Fault a) → shown g ≤ 3307
shown_most g = omega (arith, shown_is g, start_mono (stage_most g), start_72)

-- a fault of a stage before which there is none, which goes before the others of that stage, is given
give :
    {a : List ℕ} (k : ℕ) (f : Fault a) → ((g : Fault a) → k ≤ stage g) → stage f ≡ k → line_start k ≤ length a
    → ((g : Fault a) → stage g ≡ k → (number f ≤ number g) × (number f ≡ number g → place f ≤ place g)) → Given a (number f) (place f)
give {a} k f past e come low =
    given (record { fault = f; is = refl; seen = omega (arith, shown_is f, ap line_start e); best = λ g _. best g (ℕ_discrete (stage g) k) })
  where
    best : (g : Fault a) → Dec (stage g ≡ k) → Before (row f) (row g)
    best g (yes s) = let l = low g s in record { sooner = omega (arith, shown_is f, shown_is g, ap line_start e, ap line_start s); lower = λ _. l.0; nearer = λ _. l.1 }
    best g (no d) = let u : k < stage g = omega (arith, past g, d) in omega (arith, shown_is f, shown_is g, ap line_start e, start_less u)

-- ---- before the lines
pub begin : {a : List ℕ} → headed a ≡ true → timed a ≡ true → Past a 0
begin h t (bad_header e) = absurd (clash h e)
begin h t (bad_line k l w) = omega arith
begin h t (bad_size u d) = omega arith
begin h t (bad_totals u d) = omega arith
begin h t (bad_times e) = absurd (clash t e)

pub wait_first : {a : List ℕ} → length a < 20 → Clean a × UnderWay (length a) 0 20
unfolding line_start
wait_first l = (λ g s. omega (arith, shown_is g, start_mono {j = 0} {k = stage g} (omega arith)), at_first l)

-- where the bytes before line k show no fault
pub resumed : {a : List ℕ} {k : ℕ} → 1 ≤ k → line_start k ≤ length a → Resumes a k → Past a k
resumed {a} {k} l come r g = elim (dec_lt k (stage g)) [ yes d ↦ d | no d ↦ absurd (r l come g (omega (arith, d, shown_is g, start_mono {j = stage g} {k = k} (omega (arith, d))))) ]

pub refuse_1 : {a : List ℕ} → headed a ≡ false → 20 ≤ length a → Given a 1 0
unfolding line_start
refuse_1 {a} h come = give 0 (bad_header h) (λ g. omega arith) refl come low
  where
    low : (g : Fault a) → stage g ≡ 0 → (1 ≤ number g) × (1 ≡ number g → 0 ≤ place g)
    low (bad_header e) s = omega arith
    low (bad_line k l (bad_frame _)) s = omega arith
    low (bad_line k l (bad_value _)) s = omega arith
    low (bad_size u d) s = omega arith
    low (bad_totals u d) s = omega arith
    low (bad_times e) s = omega arith

pub refuse_10 : {a : List ℕ} → headed a ≡ true → timed a ≡ false → 20 ≤ length a → Given a 10 0
unfolding line_start
refuse_10 {a} h t come = give 0 (bad_times t) (λ g. omega arith) refl come low
  where
    low : (g : Fault a) → stage g ≡ 0 → (10 ≤ number g) × (10 ≡ number g → 0 ≤ place g)
    low (bad_header e) s = absurd (clash h e)
    low (bad_line k l w) s = absurd (omega arith)
    low (bad_size u d) s = absurd (omega arith)
    low (bad_totals u d) s = absurd (omega arith)
    low (bad_times e) s = omega arith

-- the lines before stage k have values of their kinds
pub past_valued : {a : List ℕ} {k : ℕ} → Past a k → (j : ℕ) → j < k → j < 72 → valued a j ≡ true
past_valued {a} past j h l = passes (valued a j) (λ e. omega (arith, past (bad_line j l (bad_value e))))

-- ---- a line
module _ {a : List ℕ} {k : ℕ} (line : k < 72) (past : Past a k) where
  pub wait : line_start k ≤ length a → length a < line_start (suc k) → Clean a × UnderWay (length a) k (line_start (suc k))
  wait come l = (λ g s. omega (arith, shown_is g, start_mono (past g)), at_line line come l)

  module _ (come : line_start (suc k) ≤ length a) where
    frame_at : {j : ℕ} → suc j ≡ suc k → framed a j ≡ false → framed a k ≡ false
    frame_at {j} s e = let i : k ≡ j = omega arith in rw i e

    value_at : {j : ℕ} → suc j ≡ suc k → valued a j ≡ false → valued a k ≡ false
    value_at {j} s e = let i : k ≡ j = omega arith in rw i e

    pub refuse_2 : framed a k ≡ false → Given a 2 (line_start k)
    refuse_2 e = give (suc k) (bad_line k line (bad_frame e)) past refl come low
      where
        low : (g : Fault a) → stage g ≡ suc k → (2 ≤ number g) × (2 ≡ number g → line_start k ≤ place g)
        low (bad_header _) s = absurd (omega arith)
        low (bad_line j l (bad_frame _)) s = let i : k ≡ j = omega arith in omega (arith, ap line_start i)
        low (bad_line j l (bad_value _)) s = omega arith
        low (bad_size u d) s = omega arith
        low (bad_totals u d) s = omega arith
        low (bad_times _) s = omega arith

    module _ (frame : framed a k ≡ true) where
      pub refuse_3 : valued a k ≡ false → Given a 3 (line_start k + 32)
      refuse_3 e = give (suc k) (bad_line k line (bad_value e)) past refl come low
        where
          low : (g : Fault a) → stage g ≡ suc k → (3 ≤ number g) × (3 ≡ number g → line_start k + 32 ≤ place g)
          low (bad_header _) s = absurd (omega arith)
          low (bad_line j l (bad_frame w)) s = absurd (clash frame (frame_at s w))
          low (bad_line j l (bad_value _)) s = let i : k ≡ j = omega arith in omega (arith, ap line_start i)
          low (bad_size u d) s = omega arith
          low (bad_totals u d) s = omega arith
          low (bad_times _) s = omega arith

      module _ (value : valued a k ≡ true) where
        value_28 : k ≡ 28 → valued a 28 ≡ true
        value_28 e = rw e at value

        pub values_55 : k ≡ 63 → (j : ℕ) → j < 9 → valued a (55 + j) ≡ true
        values_55 e j h = pick (ℕ_discrete j 8)
          where
            pick : Dec (j ≡ 8) → valued a (55 + j) ≡ true
            pick (yes q) = let i : 55 + j ≡ k = omega arith in rw i value
            pick (no d) = past_valued past (55 + j) (omega (arith, d)) (omega arith)

        pub refuse_4 : k ≡ 28 → (declared a < 3307) ⊎ (2147483647 < declared a) → Given a 4 1485
        refuse_4 e d = give (suc k) (bad_size (value_28 e) d) past (omega arith) come low
          where
            low : (g : Fault a) → stage g ≡ suc k → (4 ≤ number g) × (4 ≡ number g → 1485 ≤ place g)
            low (bad_header _) s = absurd (omega arith)
            low (bad_line j l (bad_frame w)) s = absurd (clash frame (frame_at s w))
            low (bad_line j l (bad_value w)) s = absurd (clash value (value_at s w))
            low (bad_size _ _) s = omega arith
            low (bad_totals _ _) s = omega arith
            low (bad_times _) s = omega arith

        pub refuse_5 : k ≡ 63 → (Sums a → ⊥) → Given a 5 2675
        refuse_5 e d = give (suc k) (bad_totals (values_55 e) d) past (omega arith) come low
          where
            low : (g : Fault a) → stage g ≡ suc k → (5 ≤ number g) × (5 ≡ number g → 2675 ≤ place g)
            low (bad_header _) s = absurd (omega arith)
            low (bad_line j l (bad_frame w)) s = absurd (clash frame (frame_at s w))
            low (bad_line j l (bad_value w)) s = absurd (clash value (value_at s w))
            low (bad_size _ _) s = absurd (omega arith)
            low (bad_totals _ _) s = omega arith
            low (bad_times _) s = omega arith

        pub go : (k ≡ 28 → (3307 ≤ declared a) × (declared a ≤ 2147483647)) → (k ≡ 63 → Sums a) → Past a (suc k)
        go size totals g = let d : stage g ≡ suc k → ⊥ = none g in omega (arith, past g, d)
          where
            none : (g : Fault a) → stage g ≡ suc k → ⊥
            none (bad_header _) s = omega arith
            none (bad_line j l (bad_frame w)) s = clash frame (frame_at s w)
            none (bad_line j l (bad_value w)) s = clash value (value_at s w)
            none (bad_size u d) s = let r = size (omega arith) in ⊎_elim (λ w. omega arith) (λ w. omega arith) d
            none (bad_totals u d) s = d (totals (omega arith))
            none (bad_times _) s = omega arith

-- ---- after the lines
pub whole : {a : List ℕ} {k : ℕ} → 72 ≤ k → line_start k ≤ length a → Past a k → Clean a × UnderWay (length a) 72 3307
whole {k = k} l come past = (λ g _. omega (arith, past g, stage_most g), at_end (omega (arith, start_mono {j = 72} {k = k} l, start_72)))

-- ---- a line, in the code's names: it starts at p, its value is w wide
module _ {a : List ℕ} {k p w : ℕ} (y : Ready a k p) (wide : w ≡ width_of k) where
  to_is : p + w + 33 ≡ line_start (suc k)
  to_is = omega (arith, start_next k, y.at_is)

  pub say_wait : length a < p + w + 33 → Past a k → Clean a × UnderWay (length a) k (p + w + 33)
  say_wait l past = rw to_is (wait y.line past (omega (arith, y.at_is, y.come)) (omega (arith, to_is)))

  module _ (come : p + w + 33 ≤ length a) where
    there : line_start (suc k) ≤ length a
    there = omega (arith, to_is)

    pub say_2 : framed a k ≡ false → Past a k → Given a 2 p
    say_2 e past = given_at (sym y.at_is) (refuse_2 y.line past there e)

    module _ (frame : framed a k ≡ true) where
      pub say_3 : valued a k ≡ false → Past a k → Given a 3 (p + 32)
      say_3 e past = given_at (ap (λ (i : ℕ). i + 32) (sym y.at_is)) (refuse_3 y.line past there frame e)

      module _ (value : valued a k ≡ true) where
        numbered : Past a k → Numbered a k
        numbered past = (
          λ e. (omega (arith, there, start_29, ap (λ (i : ℕ). line_start (suc i)) e), size_number a (rw e at value)),
          λ e. record {
            come = omega (arith, there, start_64, ap (λ (i : ℕ). line_start (suc i)) e);
            counts = λ j h. total_number a j h (values_55 y.line past there frame value e j h);
          },
        )

      module _ (value : valued a k ≡ true) {h : ℕ} (later : Numbered a k → Later a k h) where
        pub say_4 : h ≡ 4 → Past a k → Given a 4 1485
        say_4 e past = let f = (later (numbered value past)).four e in refuse_4 y.line past there frame value f.0 f.1

        pub say_5 : h ≡ 5 → Past a k → Given a 5 2675
        say_5 e past = let f = (later (numbered value past)).five e in refuse_5 y.line past there frame value f.0 f.1

        pub say_go : (h ≡ 4 → ⊥) → (h ≡ 5 → ⊥) → Gone a k (p + w + 33)
        say_go u v = record {
          to_is = to_is;
          come = come;
          past = λ past. let f = later (numbered value past) in go y.line past there frame value (f.size u) (f.totals v);
        }

-- ---- the loop
pub start_0 : line_start 0 ≡ 20
unfolding line_start
start_0 = refl

pub gone_at : {a : List ℕ} {k to : ℕ} → Gone a k to → (to ≡ line_start (k + 1)) × (to ≤ length a) × (Past a k → Past a (k + 1))
gone_at {k = k} g = rw add-one (g.to_is, g.come, g.past)
