-- THE TABLE READS THESE BYTES ALONE: where they are the same, each fault of the one arrival is one of the other, in the same row; so of two that are as long
-- the same is given, refusals too. Row by row, the walk by induction; payload is not among them. Assumes nothing.
use Prim.Native.Nat.{ℕ, ◌+◌, ◌≤◌, ◌<◌}
use native.Mathlib.Nat.{le_refl}
use native.Mathlib.Omega.{arith}
use mathlib.Core.Path.{◌≡◌, refl, sym, ap, ◌∙◌}
use mathlib.Core.List.{List}
use lib.ListN.{length, get_or}
use Rattle.meter.specs.Integer.{be_at}
use Rattle.meter.proofs.IntegerLaws.{be_at_same}
use Rattle.tables.specs.Table.{Row, fault}
use Rattle.tables.specs.Lawful.{Same}
use Rattle.tables.proofs.Laws.{shown_is}
use Rattle.record.specs.Times.{timed_at}
use Rattle.mphr.specs.Table.{declared}
use Rattle.mphr.proofs.Prefix.{fine_on}
use Rattle.mphr.proofs.Prefix as M
use Rattle.mphr.proofs.TurnLaws.{shown_most}
use Rattle.judge.specs.Table.{Site, first, class_at, kind_at, size_at, aim_class, aim_at, offset_at, Sound, Leads, here, on, Target, Pointer, Wrong, part_left, unknown, misplaced, bad_size, bad_times, surplus, bad_target, points_inside, points_at_other, too_few, row_at, Fault, main, at, too_long, row, Clean, Gives, Given}
use Rattle.judge.proofs.RankLaws.{class_most}
use Rattle.judge.proofs.WayLaws.{snoc}
use Rattle.parts.proofs.Local as L
use Rattle.payload.specs.Apart.{Apart}
use Rattle.payload.specs.Reads.{ReadsAlike}
use Rattle.payload.proofs.Twins.{Twins, twins, in_records}

-- the n bytes from i on are the same
record Bytes-at (a b : List ℕ) (i n : ℕ) : Type 0 where
  byte : (j : ℕ) → j < n → get_or a (i + j) 0 ≡ get_or b (i + j) 0

module _ {a b : List ℕ} {i n : ℕ} (s : Bytes-at a b i n) where
  be : (j k : ℕ) → j + k ≤ n → be_at a (i + j) k ≡ be_at b (i + j) k
  be j k h = be_at_same a b (i + j) (i + j) k (λ x l. let e : i + j + x ≡ i + (j + x) = omega arith in rw e (s.byte (j + x) (omega arith)))

  class_is : 1 ≤ n → class_at a i ≡ class_at b i
  class_is h = let e : i + 0 ≡ i = omega arith in rw e at (s.byte 0 (omega arith))

  kind_is : 3 ≤ n → kind_at a i ≡ kind_at b i
  kind_is h = let e : i + 0 ≡ i = omega arith in rw e at (be 0 3 (omega arith))

  timed_is : 20 ≤ n → timed_at a i ≡ timed_at b i
  timed_is h = L.timed_alike a b i i (be 8 6 (omega arith)) (be 14 6 (omega arith))

-- ---- THE WALK
module _ {a b : List ℕ} (h : ReadsAlike a b) where
  same_main : Same a b 3307
  same_main = record { byte = h.main }

  declared_is : declared a ≡ declared b
  declared_is = L.declared_on same_main

  head : {x : Site} → Leads a first x → x.at + 20 ≤ declared a → Bytes-at a b x.at 20
  head {x} w r = record { byte = h.header x w r }

  whole : {x : Site} → Leads a first x → Sound a x.at → class_at a x.at ≡ 3 → Bytes-at a b x.at 27
  whole {x} w s c = record { byte = h.ipr x w s c }

  sound_to : {x : Site} → Leads a first x → Sound a x.at → Sound b x.at
  sound_to w s =
      let k = head w s.room in
      let z = be k 4 4 (omega arith) in
      record {
        room = omega (arith, s.room, declared_is);
        least = omega (arith, s.least, z);
        most = omega (arith, s.most, z, declared_is);
        ipr = λ o. sym z ∙ s.ipr (class_is k (omega arith) ∙ o);
      }

  sound_from : {x : Site} → Leads a first x → Sound b x.at → Sound a x.at
  sound_from w s =
      let k = head w (omega (arith, s.room, declared_is)) in
      let z = be k 4 4 (omega arith) in
      record {
        room = omega (arith, s.room, declared_is);
        least = omega (arith, s.least, z);
        most = omega (arith, s.most, z, declared_is);
        ipr = λ o. z ∙ s.ipr (sym (class_is k (omega arith)) ∙ o);
      }

  leads_to : {x y : Site} → Leads a first x → Leads a x y → Leads b x y
  leads_to w here = here
  leads_to w (on s l) =
      let k = head w s.room in
      on (sound_to w s) (rw (class_is k (omega arith), be k 4 4 (omega arith)) at (leads_to (snoc w s) l))

  leads_from : {x y : Site} → Leads a first x → Leads b x y → Leads a x y
  leads_from w here = here
  leads_from w (on s l) =
      let t = sound_from w s in
      let k = head w t.room in
      let c = class_is k (omega arith) in
      let z = be k 4 4 (omega arith) in
      on t (rw (← c, ← z) at (leads_from (rw (c, z) at (snoc w t)) l))

  -- it goes both ways
  pub reads_back : ReadsAlike b a
  reads_back = record {
    main = λ j u. sym (h.main j u);
    header = λ x w r j u. sym (h.header x (leads_from here w) (omega (arith, declared_is)) j u);
    ipr = λ x w s c j u.
        let v = leads_from here w in
        let t = sound_from v s in
        sym (h.ipr x v t (class_is (head v t.room) (omega arith) ∙ c) j u);
  }

  target_to : {x : Site} → Leads a first x → Sound a x.at → class_at a x.at ≡ 3 → Target a x.at → Target b x.at
  target_to {x} w s c t =
      let k = whole w s c in
      let ec : aim_class a x.at ≡ aim_class b x.at = k.byte 20 (omega arith) in
      let eo : offset_at a x.at ≡ offset_at b x.at = be k 23 4 (omega arith) in
      record {
        four = omega (arith, t.four);
        eight = omega (arith, t.eight);
        past = omega (arith, t.past);
        within = omega (arith, t.within, declared_is);
      }

  pointer_to : {q : Site} → Pointer a q → Pointer b q
  pointer_to p = record {
    way = leads_to here p.way;
    sound = sound_to p.way p.sound;
    ipr = sym (class_is (head p.way p.sound.room) (omega arith)) ∙ p.ipr;
    target = target_to p.way p.sound p.ipr p.target;
  }

-- ---- THE ROWS
module _ {a b : List ℕ} (h : ReadsAlike a b) where
  wrong_over : {x : Site} → Leads a first x → (w : Wrong a x) → (v : Wrong b x) × (row_at w ≡ row_at v)
  wrong_over y (part_left u v) = (part_left (omega (arith, declared_is h)) (omega (arith, declared_is h)), refl)
  wrong_over {x} y (unknown r c) =
      let k = head h y r in
      (unknown (omega (arith, declared_is h)) (rw (class_is k (omega arith), k.byte 1 (omega arith)) at c), refl)
  wrong_over {x} y (misplaced r c) =
      let e = class_is (head h y r) (omega arith) in
      (misplaced (omega (arith, declared_is h)) (record { before = c.before; known = rw e at c.known; against = rw e at c.against }), refl)
  wrong_over y (bad_size r c) = (bad_size (omega (arith, declared_is h)) (λ s. c (sound_from h y s)), refl)
  wrong_over {x} y (bad_times r c) = (bad_times (omega (arith, declared_is h)) (sym (timed_is (head h y r) (omega arith)) ∙ c), refl)
  wrong_over {x} y (surplus r c) =
      let e = class_is (head h y r) (omega arith) in
      let t = L.total_on (same_main h) (class_at a x.at) (class_most (class_at a x.at) c.known).1 in
      (surplus (omega (arith, declared_is h)) (record { known = rw e at c.known; over = rw e at (rw t at c.over) }), refl)
  wrong_over {x} y (bad_target s o c) =
      let sb = sound_to h y s in
      let ob = sym (class_is (head h y s.room) (omega arith)) ∙ o in
      (bad_target sb ob (λ t. c (target_to (reads_back h) (leads_to h here y) sb ob t)), refl)
  wrong_over {x} y (points_inside q p r l u v) =
      let e : offset_at a q.at ≡ offset_at b q.at = be (whole h p.way p.sound p.ipr) 23 4 (omega arith) in
      let z : size_at a x.at ≡ size_at b x.at = be (head h y r) 4 4 (omega arith) in
      (points_inside q (pointer_to h p) (omega (arith, declared_is h)) l (omega arith) (omega arith), refl)
  wrong_over {x} y (points_at_other q p r l t c) =
      let k = whole h p.way p.sound p.ipr in
      let e : offset_at a q.at ≡ offset_at b q.at = be k 23 4 (omega arith) in
      let f : aim_at a q.at ≡ aim_at b q.at = be k 20 3 (omega arith) in
      let g : kind_at a x.at ≡ kind_at b x.at = kind_is (head h y r) (omega arith) in
      (points_at_other q (pointer_to h p) (omega (arith, declared_is h)) l (omega arith) (λ d. c (omega arith)), refl)
  wrong_over y (too_few e c l u f) = (too_few (omega (arith, declared_is h)) c l u (omega (arith, L.total_on (same_main h) c u)), refl)

  -- THE LAW
  pub table_reads : (f : Fault a) → (g : Fault b) × (row f ≡ row g)
  table_reads (main g) = let f = M.local (same_main h) g (omega (arith, shown_most g)) in (main f.0, f.1)
  table_reads (at d x l w) = let v = wrong_over l w in (at (fine_on (same_main h) (le_refl 3307) d) x (leads_to h here l) v.0, v.1)
  table_reads (too_long d) = (too_long (fine_on (same_main h) (le_refl 3307) d), ap (λ (d : ℕ). fault 16 d (d + 1)) (declared_is h))

-- so what is clean, and what is given, is the same where as many bytes have come
module _ {a b : List ℕ} (h : ReadsAlike a b) (e : length a ≡ length b) where
  pub clean_alike : Clean a → Clean b
  clean_alike c f u = let g = table_reads (reads_back h) f in c g.0 (omega (arith, shown_is g.1))

  gives_alike : {r : Row} → Gives a r → Gives b r
  gives_alike {r} g =
      let f = table_reads h g.fault in
      record {
        fault = f.0;
        is = sym f.1 ∙ g.is;
        seen = omega (arith, g.seen);
        best = λ u s. let v = table_reads (reads_back h) u in rw v.1 (g.best v.0 (omega (arith, shown_is v.1)));
      }

  pub given_alike : {n p : ℕ} → Given a n p → Given b n p
  given_alike g = record { shown = g.shown; gives = gives_alike g.gives }

-- PAYLOAD IS NONE OF THEM
pub apart_reads : {a b : List ℕ} → Apart a b → ReadsAlike a b
apart_reads {a} {b} x = record {
  main = t.repaid.main;
  header = λ y w r. t.repaid.headers y.at (in_records t w r);
  ipr = λ y w s c. t.repaid.iprs y.at (in_records t w s.room) c;
}
  where
    t : Twins a b
    t = twins x
