-- A record like the last one goes the way of a turn: no fault is shown at it, and the next record starts after its size. By each row of the
-- table in turn, as the turn does; and a run of them by induction. Assumes nothing.
use Rattle.std.proofs.Common.{◌≡◌, ℕ, ◌+◌, ◌*◌, ◌<◌, ◌≤◌, true, false, List, length, get_or, set, sym, refl, ap, ◌∙◌, le_refl, arith, get_or-set_same, set-set}
use native.Mathlib.Decide.{dec_le}
use lib.Seq.{set-get_or}
use Rattle.record.specs.Header.{is_class}
use Rattle.record.specs.Times.{timed_at}
use Rattle.mphr.specs.Table.{declared, total}
use Rattle.judge.specs.declared.pointers.Pointers.{Pointers}
use Rattle.judge.specs.Table.{site, class_at, kind_at, one_more, Sound, Misplaced, Surplus}
use Rattle.judge.specs.Step.{Six, Ranked, any, Quiet, EntireIs, Kept}
use Rattle.judge.specs.Turning.{Totals, Turn, Ready, Gone}
use Rattle.judge.specs.Run.{LikeIs, Alike, none, more, some_more}
use Rattle.judge.proofs.RankLaws.{clash, rank_12, class_most, known}
use Rattle.judge.proofs.ScanLaws.{clear_still}
use Rattle.judge.proofs.JudgeLaws.{plain, turn_next}
use Rattle.judge.proofs.TurnLaws.{go_on, settling}

-- ---- the run's numbers, and what holds at its end
module _ {a : List ℕ} {c z due d most i : ℕ} where
  pub run_le : {n j : ℕ} → Alike a c z due d most i n j → (i + 20 * n ≤ j) × (n ≤ most)
  run_le none = omega arith
  run_le (more r l _ _ _ k) = omega (arith, run_le r, k.liking.least)

  pub run_within : {n j : ℕ} → Alike a c z due d most i n j → i ≤ d → j ≤ d
  run_within none h = h
  run_within (more r _ _ u _ _) h = omega arith

  -- what holds where the run starts, and from record to record, holds at its end
  pub fold : {P : ℕ → ℕ → Type 0} → P 0 i → ((n j : ℕ) → n < most → j + z ≤ due → j + z + 20 ≤ d → j + z ≤ length a → LikeIs a c z j → P n j → P (n + 1) (j + z)) → {n j : ℕ} → Alike a c z due d most i n j → P n j
  fold p s none = p
  fold p s (more r l f u g k) = s _ _ l f u g k (fold p s r)

-- ---- the tally
pub none_more : (t : List ℕ) (c : ℕ) → some_more t c 0 ≡ t
none_more t c = ap (set t c) (omega arith) ∙ set-get_or t c 0

pub one_further : (t : List ℕ) (c n : ℕ) → c < length t → one_more (some_more t c n) c ≡ some_more t c (n + 1)
one_further t c n l = set-set t c (get_or t c 0 + n) (get_or (some_more t c n) c 0 + 1) ∙ ap (set t c) (omega (arith, get_or-set_same t c (get_or t c 0 + n) 0 l))

-- after a record and the run of those like it
pub run_tally : (t : List ℕ) (c m : ℕ) → c < length t → some_more (one_more t c) c m ≡ set t c (get_or t c 0 + 1 + m)
run_tally t c m l = set-set t c (get_or t c 0 + 1) (get_or (one_more t c) c 0 + m) ∙ ap (set t c) (omega (arith, get_or-set_same t c (get_or t c 0 + 1) 0 l))

-- ---- one record
module _ {a ts : List ℕ} {d n i p z : ℕ} {tl : List ℕ} (t : Turn a (site n i p tl)) (d_is : d ≡ declared a) (s : Totals a ts) (l : LikeIs a p z i) (f : get_or tl p 0 < get_or ts p 0) (g : i + z ≤ length a) (u : i + z + 20 ≤ d) where
  known_class : is_class (class_at a i) ≡ true
  known_class = ap is_class l.class_is ∙ t.known

  eight : p ≤ 8
  eight = (class_most p t.known).1

  no_ipr : class_at a i ≡ 3 → ⊥
  no_ipr e = l.liking.other (sym l.class_is ∙ e)

  pub like_sound : Sound a i
  like_sound = record { room = omega (arith, l.liking.least); least = omega (arith, l.size_is, l.liking.least); most = omega (arith, l.size_is); ipr = λ e. absurd (no_ipr e) }

  no_six : Six a i → ⊥
  no_six x = omega (arith, l.size_is, x.short, x.part)

  placed : Misplaced a p i → ⊥
  placed m = clash (sym m.against ∙ l.follows)

  timely : timed_at a i ≡ false → ⊥
  timely e = clash (sym e ∙ sym l.timed)

  few : Surplus a tl i → ⊥
  few x = omega (arith, f, s.same p eight, ap (total a) l.class_is, ap (λ (c : ℕ). get_or tl c 0) l.class_is, x.over)

  ranked : Ranked a p i tl 12
  ranked = rank_12 no_six (known a i known_class l.group) placed (λ v. v like_sound) timely few

  -- where no pointer tells against it
  pub like_turn : Quiet a i (i + 1) (i + z) any → Quiet a i i (i + 1) (kind_at a i) → Turn a (site (n + 1) (i + z) p (one_more tl p))
  like_turn q o =
      rw (l.size_is, ← l.class_is) (turn_next t like_sound.room (plain t like_sound.room ranked (omega arith) (rw l.size_is at q) o) (λ h. omega (arith, l.size_is)) (omega (arith, l.size_is)) (λ e. absurd (no_ipr e)))

-- ---- by the judge's pointers
module _ {a ts : List ℕ} {d n i p z : ℕ} {tl : List ℕ} {w : Pointers} (y : Ready a d (site n i p tl) ts w) (l : LikeIs a p z i) (f : get_or tl p 0 < get_or ts p 0) (g : i + z ≤ length a) (u : i + z + 20 ≤ d) (due : i + z ≤ w.due) where
  entire : EntireIs a i (i + z) w w
  entire =
      let no = no_ipr y.turn y.d_is y.totals l f g u in
      record { ended = record { come = g; not_part = λ h. omega (arith, y.d_is) }; target = λ e. absurd (no e); pointer = λ e. absurd (no e); other = λ _. refl }

  like_on : Gone a (site n i p tl) (i + z) p w
  like_on =
      let r = ranked y.turn y.d_is y.totals l f g u in
      rw l.class_is at (go_on y l.come r (le_refl _) l.size_is (clear_still (settling y l.come r (le_refl _) l.size_is) due) entire)

-- what the walk knows after m records of class p
abbrev pub After : List ℕ → ℕ → ℕ → List ℕ → Pointers → ℕ → ℕ → Type 0
After a n p tl w m j = Turn a (site (n + m) j p (some_more tl p m)) × Kept a j w

-- A RUN goes the way of its turns
pub run_on : {a ts : List ℕ} {d n i p z most : ℕ} {tl : List ℕ} {w : Pointers} → d ≡ declared a → d ≤ 2147483647 → Totals a ts → Turn a (site n i p tl) → Kept a i w → get_or tl p 0 + most ≤ get_or ts p 0 → {m j : ℕ} → Alike a p z w.due d most i m j → After a n p tl w m j
run_on {a} {ts} {d} {n} {i} {p} {z} {most} {tl} {w} d-is small s t k f = fold {P = After a n p tl w} (rw (none_more tl p, same) t, k) step
  where
    inside : p < length tl
    inside = omega (arith, t.nine, (class_most p t.known).1)

    same : n + 0 ≡ n
    same = omega arith

    step : (m j : ℕ) → m < most → j + z ≤ w.due → j + z + 20 ≤ d → j + z ≤ length a → LikeIs a p z j → After a n p tl w m j → After a n p tl w (m + 1) (j + z)
    step m j l h u g q x =
        let y : Ready a d (site (n + m) j p (some_more tl p m)) ts w = record { d_is = d-is; small = small; room = omega (arith, q.liking.least); totals = s; turn = x.0; kept = x.1 } in
        let o = like_on y q (omega (arith, f, get_or-set_same tl p (get_or tl p 0 + m) 0 inside)) g u h in
        let e : n + (m + 1) ≡ n + m + 1 = omega arith in
        (rw (e, ← one_further tl p m inside) o.turn, o.kept)

-- DETERMINED: the lesser of two numbers is one of them
pub unique_lesser : (a b r s : ℕ) → (a ≤ b → r ≡ a) × (b ≤ a → r ≡ b) → (a ≤ b → s ≡ a) × (b ≤ a → s ≡ b) → r ≡ s
unique_lesser a b r s x y = elim (dec_le a b) [ yes l ↦ x.0 l ∙ sym (y.0 l) | no l ↦ x.1 (omega (arith, l)) ∙ sym (y.1 (omega (arith, l))) ]
