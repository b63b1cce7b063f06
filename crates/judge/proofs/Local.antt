-- LOCALITY of the table: a fault that is shown at k depends on the first k bytes alone. Each row by its bytes, the way by induction; the main
-- header's rows by mphr's law. Assumes nothing.
use Rattle.std.proofs.Common.{◌≡◌, ℕ, ◌+◌, ◌<◌, ◌≤◌, ◌⊎◌, List, length, sym, refl, ap, ◌∙◌, inl, inr, ⊎_elim, le_refl, arith}
use native.Mathlib.Decide.{dec_lt}
use Rattle.meter.specs.Integer.{be_at}
use Rattle.record.proofs.TimesLaws.{timed_same}
use Rattle.tables.specs.Table.{fault}
use Rattle.tables.specs.Lawful.{Same, Lawful}
use Rattle.tables.proofs.Laws.{same_back, shown_is}
use Rattle.mphr.specs.Table.{declared, total}
use Rattle.mphr.proofs.Prefix.{fine_on}
use Rattle.mphr.proofs.Prefix as M
use Rattle.mphr.proofs.Export.{sized}
use Rattle.mphr.proofs.TurnLaws.{shown_most}
use Rattle.judge.specs.Table.{Site, first, class_at, kind_at, size_at, aim_class, aim_at, offset_at, Sound, Leads, here, on, Target, Pointer, Wrong, part_left, unknown, misplaced, bad_size, bad_times, surplus, bad_target, points_inside, points_at_other, too_few, row_at, Fault, main, at, too_long, row, shown, table, Whole, Open}
use Rattle.judge.specs.Turning.{Onward, Turn}
use Rattle.judge.proofs.RankLaws.{class_most}
use Rattle.judge.proofs.WayLaws.{leads_le, counts, linear, ends_by, facts, goes, met}

-- LOCALITY: what is wrong at a site, and every fault, is the same where the first bytes are, as many as show it
module _ {a b : List ℕ} {k : ℕ} (same : Same a b k) where
  pub be_on : (i n : ℕ) → i + n ≤ k → be_at a i n ≡ be_at b i n
  be_on = M.be_same a b k same

  pub declared_on : 3307 ≤ k → declared a ≡ declared b
  declared_on h = M.declared_same a b k same (omega arith)

  pub total_on : 3307 ≤ k → (j : ℕ) → j ≤ 8 → total a j ≡ total b j
  total_on h = M.total_same a b k same (omega arith)

  module _ (m : 3307 ≤ k) where
    pub sound_on : {i : ℕ} → i + 20 ≤ k → Sound a i → Sound b i
    sound_on {i} h s =
        let ec : class_at a i ≡ class_at b i = same.byte i (omega arith) in
        let ez : size_at a i ≡ size_at b i = be_on (i + 4) 4 (omega arith) in
        record {
          room = omega (arith, s.room, declared_on m);
          least = omega (arith, s.least);
          most = omega (arith, s.most, declared_on m);
          ipr = λ o. sym ez ∙ s.ipr (ec ∙ o);
        }

    pub leads_on : {x y : Site} → Leads a x y → y.at ≤ k → Leads b x y
    leads_on here h = here
    leads_on {x} (on s l) h =
        let r : x.at + 20 ≤ k = omega (arith, leads_le l, s.least) in
        on (sound_on r s) (rw (same.byte x.at (omega arith), be_on (x.at + 4) 4 (omega arith)) at (leads_on l h))

    pub target_on : {i : ℕ} → i + 27 ≤ k → Target a i → Target b i
    target_on {i} h t =
        let ec : aim_class a i ≡ aim_class b i = same.byte (i + 20) (omega arith) in
        let eo : offset_at a i ≡ offset_at b i = be_on (i + 23) 4 (omega arith) in
        record {
          four = omega (arith, t.four);
          eight = omega (arith, t.eight);
          past = omega (arith, t.past);
          within = omega (arith, t.within, declared_on m);
        }

    pub pointer_on : {q : Site} → q.at + 27 ≤ k → Pointer a q → Pointer b q
    pointer_on {q} h p = record {
      way = leads_on p.way (omega arith);
      sound = sound_on (omega arith) p.sound;
      ipr = sym (same.byte q.at (omega arith)) ∙ p.ipr;
      target = target_on h p.target;
    }

module _ {a b : List ℕ} {k : ℕ} (same : Same a b k) (m : 3307 ≤ k) where
  pub wrong_on : {x : Site} → Leads a first x → (w : Wrong a x) → (row_at w).shown ≤ k → (v : Wrong b x) × (row_at w ≡ row_at v)
  wrong_on y (part_left u v) h = (part_left (omega (arith, declared_on same m)) (omega (arith, declared_on same m)), refl)
  wrong_on {x} y (unknown r c) h =
      (unknown (omega (arith, declared_on same m)) (rw (same.byte x.at (omega arith), same.byte (x.at + 1) (omega arith)) at c), refl)
  wrong_on {x} y (misplaced r c) h =
      let e = same.byte x.at (omega arith) in
      (misplaced (omega (arith, declared_on same m)) (record { before = c.before; known = rw e at c.known; against = rw e at c.against }), refl)
  wrong_on y (bad_size r c) h = (bad_size (omega (arith, declared_on same m)) (λ s. c (sound_on (same_back same) m h s)), refl)
  wrong_on {x} y (bad_times r c) h =
      (bad_times (omega (arith, declared_on same m)) (sym (timed_same a b x.at (λ j l. same.byte j (omega arith))) ∙ c), refl)
  wrong_on {x} y (surplus r c) h =
      let e = same.byte x.at (omega arith) in
      let t = total_on same m (class_at a x.at) (class_most (class_at a x.at) c.known).1 in
      (surplus (omega (arith, declared_on same m)) (record { known = rw e at c.known; over = rw e at (rw t at c.over) }), refl)
  wrong_on {x} y (bad_target s o c) h =
      (bad_target (sound_on same m (omega arith) s) (sym (same.byte x.at (omega arith)) ∙ o) (λ t. c (target_on (same_back same) m h t)), refl)
  wrong_on {x} y (points_inside q p r l u v) h =
      let i : q.at + 27 ≤ k = omega (arith, ends_by p.way y l, p.sound.ipr p.ipr) in
      let e : offset_at a q.at ≡ offset_at b q.at = be_on same (q.at + 23) 4 (omega arith) in
      let z : size_at a x.at ≡ size_at b x.at = be_on same (x.at + 4) 4 (omega arith) in
      (points_inside q (pointer_on same m i p) (omega (arith, declared_on same m)) l (omega arith) (omega arith), refl)
  wrong_on {x} y (points_at_other q p r l t c) h =
      let i : q.at + 27 ≤ k = omega (arith, p.target.past) in
      let e : offset_at a q.at ≡ offset_at b q.at = be_on same (q.at + 23) 4 (omega arith) in
      let f : aim_at a q.at ≡ aim_at b q.at = be_on same (q.at + 20) 3 (omega arith) in
      let g : kind_at a x.at ≡ kind_at b x.at = be_on same x.at 3 (omega arith) in
      (points_at_other q (pointer_on same m i p) (omega (arith, declared_on same m)) l (omega arith) (λ d. c (omega arith)), refl)
  wrong_on y (too_few e c l u f) h = (too_few (omega (arith, declared_on same m)) c l u (omega (arith, total_on same m c u)), refl)

-- THE LAW
pub local : {a b : List ℕ} {k : ℕ} → Same a b k → (f : Fault a) → shown f ≤ k → (g : Fault b) × (row f ≡ row g)
local same (main g) h = let f = M.local same g h in (main f.0, f.1)
local {k = k} same (at d x l w) h =
    let m : 3307 ≤ k = omega (arith, leads_le l, (facts w).from) in
    let v = wrong_on same m l w h in
    (at (fine_on same m d) x (leads_on same m l (omega (arith, (facts w).from))) v.0, v.1)
local {a} {k = k} same (too_long d) h =
    let m : 3307 ≤ k = omega (arith, sized d) in
    (too_long (fine_on same m d), ap (λ (d : ℕ). fault 16 d (d + 1)) (declared_on same m))

pub lawful : Lawful table
lawful = record { alike = local; kept = λ r. refl; one = λ r s e. e }

-- THE WALK'S PLACE STAYS: what the walk knows at x it knows in each arrival that has the same bytes up to x
within : {a : List ℕ} {x : Site} (w : Wrong a x) → Sound a x.at → (row_at w).shown ≤ x.at + size_at a x.at
within (part_left u v) s = omega (arith, s.least)
within (unknown r c) s = omega (arith, s.least)
within (misplaced r c) s = omega (arith, s.least)
within (bad_size r c) s = omega (arith, s.least)
within (bad_times r c) s = omega (arith, s.least)
within (surplus r c) s = omega (arith, s.least)
within (bad_target s o c) _ = omega (arith, s.ipr o)
within (points_inside q p r b u v) s = omega (arith, s.least)
within (points_at_other q p r b e c) s = omega (arith, s.least)
within (too_few e c l u v) s = omega (arith, s.least)

module _ {a b : List ℕ} {x : Site} (same : Same a b x.at) (come : x.at ≤ length b) (t : Turn a x) where
  far : 3307 ≤ x.at
  far = leads_le t.way

  way_on : Leads b first x
  way_on = leads_on same far t.way (omega arith)

  past_on : (g : Fault b) → shown g ≤ length b → Onward x g
  past_on (main g) h = let f = M.local (same_back same) g (omega (arith, shown_most g, far)) in t.past (main f.0) (omega (arith, shown_is f.1, shown_most g, far, t.come))
  past_on (too_long f) h = tt
  past_on (at f y l w) h = ⊎_elim (λ m. m) (λ m. go m) (linear way_on l)
    where
      before : Leads b y x → y.at < x.at → Leads b x y
      before m d =
          let s = goes m d in
          let v = wrong_on (same_back same) far l w (omega (arith, within w s.0, leads_le s.1)) in
          let k = t.past (at (fine_on (same_back same) far f) y (leads_on (same_back same) far l (omega arith)) v.0) (omega (arith, shown_is v.1, within w s.0, leads_le s.1, t.come)) in
          absurd (omega (arith, leads_le k))

      go : Leads b y x → Leads b x y
      go m = elim (dec_lt y.at x.at) [ yes d ↦ before m d | no n ↦ met m (omega arith) ]

  pub turn_on : Turn b x
  turn_on = record {
    fine = fine_on same far t.fine;
    way = way_on;
    come = come;
    inside = omega (arith, t.inside, declared_on same far);
    not_part = λ h. omega (arith, t.not_part (omega (arith, declared_on same far)), declared_on same far);
    counted = t.counted;
    known = t.known;
    nine = t.nine;
    past = past_on;
  }

-- WHAT IS WHOLE STAYS
-- what leads no further than the record at x is x
stay : {a : List ℕ} {x y : Site} → Leads a x y → (Sound a x.at → y.at < x.at + size_at a x.at) → Leads a y x
stay here h = here
stay (on s l) h = absurd (omega (arith, h s, leads_le l))

abbrev pub OpenAt : List ℕ → ℕ → ℕ → Type 0
OpenAt a c e = ((length a < 3307) × (c ≡ 0) × (e ≡ 0)) ⊎ ((3307 ≤ length a) × Whole a c e)

-- no fewer records are whole in an arrival that begins with another, and they end no earlier
pub no_fewer : {a b : List ℕ} {c e c' e' : ℕ} → Same a b (length a) → length a ≤ length b → Open a c e → Open b c' e' → (c ≤ c') × (e ≤ e')
no_fewer {a} {b} {c} {e} {c'} {e'} same long o o' = go o.whole o'.whole
  where
    go : OpenAt a c e → OpenAt b c' e' → (c ≤ c') × (e ≤ e')
    go (inl z) _ = omega arith
    go (inr w) (inl z) = absurd (omega arith)
    go (inr (h, w)) (inr (_, w')) =
        let l = ⊎_elim (λ l. l) (λ l. stay l (λ s. omega (arith, w'.last s, w.come))) (linear (leads_on same h w.way w.come) w'.way) in
        (counts l, leads_le l)

-- one count and end at most are right
pub unique_open : {a : List ℕ} {c e c' e' : ℕ} → Open a c e → Open a c' e' → (c ≡ c') × (e ≡ e')
unique_open {a} o q =
    let s : Same a a (length a) = record { byte = λ j h. refl } in
    omega (arith, no_fewer s (le_refl (length a)) o q, no_fewer s (le_refl (length a)) q o)
