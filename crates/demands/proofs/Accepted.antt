-- DEMAND 2: the finished judge accepts, given room, just what is a product (`Meets`), with the rows of that product's list; and one thing at most
-- is right to say of a finished product. Forward, each field of `Meets` holds since no row of the table does; backward, of a product no row holds,
-- by induction on its list; the totals by one count of the records on a way. Assumes nothing.
use Prim.Native.Nat.{ℕ, suc, ◌+◌, ◌≤◌, ◌<◌}
use native.Mathlib.Decide.{dec_le, dec_lt, ℕ_discrete}
use native.Mathlib.Omega.{arith}
use mathlib.Core.Path.{◌≡◌, refl, sym, ◌∙◌, ap}
use mathlib.Core.Bool.{Bool, true, cond, ◌&&◌}
use mathlib.Core.Logic.{◌⊎◌, inl, inr, ⊎_elim}
use mathlib.Core.List.Memᴰ.{head as top}
use mathlib.Core.List.Memᴰ.{not-nil as nil}
use mathlib.Core.List.Memᴰ.{tail as pop}
use mathlib.Core.List.{List, ◌∷◌, Memᴰ as In}
use borrow.Author.Tests.{eq-eqb, ne_eqb}
use lib.Dec.{T, eqb, eqb→eq}
use lib.ListN.{length, get_or, length-set}
use lib.Seq.{get_or-set_same, get_or-set_other}
use Rattle.calendar.specs.declared.Refusal.{Refusal}
use Rattle.calendar.proofs.Range.{below}
use Rattle.calendar.proofs.Range as R
use Rattle.meter.specs.Integer.{be_at}
use Rattle.record.specs.Header.{is_class, is_group}
use Rattle.record.specs.Follow.{may_follow}
use Rattle.record.specs.Times.{timed_at}
use Rattle.record.proofs.FieldLaws.{both as parts}
use Rattle.mphr.specs.Table.{headed, timed, declared, total}
use Rattle.mphr.specs.Table as M
use Rattle.mphr.proofs.Export.{fine_framed, fine_valued, sized, summed}
use Rattle.judge.specs.Table.{Site, first, class_at, kind_at, size_at, offset_at, aim_at, Sound, one_more, next, Leads, here, on, Target, Pointer, Wrong, part_left, unknown, misplaced, bad_size, bad_times, surplus, bad_target, points_inside, points_at_other, too_few, main, at, too_long, Clean}
use Rattle.std.specs.declared.option.Option.TheVariants.{Some, None}
use Rattle.std.specs.declared.result.Result.TheVariants.{Ok, Err}
use Rattle.std.specs.declared.option.Option.{Option}
use Rattle.std.specs.declared.result.Result.{Result}
use Rattle.judge.specs.Extent.{ExtentIs, Complete, Covered}
use Rattle.finish.specs.Rows.{rows_of}
use Rattle.finish.specs.Finish.{starts, put, Refuses, Unfit, faulty, short, no_room, VerdictIs, FinishedIs}
use Rattle.demands.specs.Product.{class, kind, size, target_kind, offset, MainHeader, IsRecord, Aims, Records, none, more, of_class, Meets}
use Rattle.judge.proofs.WayLaws.{leads_le, snoc, trans, linear, holds, target?}
use Rattle.demands.proofs.Prefix.{unique_given}
use Rattle.tables.proofs.Laws.{not_clean}
use Rattle.tables.proofs.Passing.{passes, clash}
use Rattle.mphr.proofs.Prefix.{same_refusal}
use Rattle.judge.proofs.RankLaws.{class_most}
use Rattle.demands.proofs.Accept.{no_main, not_wrong, complete_covered}
use Rattle.judge.proofs.Covering.{complete_fine, whole_come}

-- ---- THE COUNT of each class

one_more_lem : (t : List ℕ) (k c : ℕ) → length t ≡ 9 → c ≤ 8 → get_or (one_more t k) c 0 ≡ get_or t c 0 + cond (eqb k c) 1 0
one_more_lem t k c n h = go (ℕ_discrete k c)
  where
    go : Dec (k ≡ c) → get_or (one_more t k) c 0 ≡ get_or t c 0 + cond (eqb k c) 1 0
    go (yes e) = rw (eq-eqb k c e) (rw (sym e) (get_or-set_same t k (get_or t k 0 + 1) 0 (omega arith)))
    go (no d) = rw (ne_eqb k c d) (get_or-set_other t k c (get_or t k 0 + 1) 0 (λ e. d (sym e)) ∙ omega arith)

nine : {a : List ℕ} {x y : Site} → Leads a x y → length x.tally ≡ 9 → length y.tally ≡ 9
nine here e = e
nine {a} {x} (on s l) e = nine l (simp length-set e)

-- what stands in the tally grows by the records on the way
tallied :
    {a : List ℕ} {x y : Site} (l : Leads a x y) → length x.tally ≡ 9 → (c : ℕ) → c ≤ 8
    → get_or y.tally c 0 ≡ get_or x.tally c 0 + of_class a c (starts l)
tallied here n c h = omega arith
tallied {a} {x} (on s l) n c h =
    let e = one_more_lem x.tally (class_at a x.at) c n h in
    let k = tallied l (simp length-set n) c h in
    omega (arith, e, k)

-- at the start it has the main header
abbrev first_test : ℕ → Bool
first_test c = eqb (get_or first.tally c 0) (cond (eqb 1 c) 1 0)

first_test_lem : T (below first_test 9)
first_test_lem = tt

first_is : (c : ℕ) → c ≤ 8 → get_or first.tally c 0 ≡ cond (eqb 1 c) 1 0
first_is c h = eqb→eq (get_or first.tally c 0) (cond (eqb 1 c) 1 0) (R.at first_test 9 first_test_lem c (omega arith))

pub first_class : (a : List ℕ) → headed a ≡ true → class a 0 ≡ 1
unfolding headed
first_class a e =
    let p = parts (eqb (get_or a 0 0) 1 && (eqb (get_or a 1 0) 0 && eqb (get_or a 2 0) 0)) (eqb (be_at a 4 4) 3307) e in
    let q = parts (eqb (get_or a 0 0) 1) (eqb (get_or a 1 0) 0 && eqb (get_or a 2 0) 0) p.0 in
    eqb→eq (get_or a 0 0) 1 (rw q.0 tt)

first_tally : (a : List ℕ) → headed a ≡ true → (c : ℕ) → c ≤ 8 → get_or first.tally c 0 ≡ cond (eqb (class a 0) c) 1 0
first_tally a e c h = rw (first_class a e) (first_is c h)

-- ---- FROM THE TABLE: the records of a complete product are as they shall be

-- on the way from x to y a record holds byte t
record Holds {a : List ℕ} {x y : Site} (l : Leads a x y) (t : ℕ) : Type 0 where
  it : Site
  way : Leads a x it
  sound : Sound a it.at
  above : it.at ≤ t
  below : t < it.at + size_at a it.at
  listed : In it.at (starts l)

held : {a : List ℕ} {x y : Site} (l : Leads a x y) {t : ℕ} → x.at ≤ t → t < y.at → Holds l t
held here h u = absurd (omega arith)
held {a} {x} {y} (on s l) {t} h u = go (dec_lt t (x.at + size_at a x.at)) (λ b. held l b u)
  where
    go : Dec (t < x.at + size_at a x.at) → (x.at + size_at a x.at ≤ t → Holds l t) → Holds (on {x = x} s l) t
    go (yes b) f = record { it = x; way = here; sound = s; above = h; below = b; listed = top refl }
    go (no b) f =
        let k = f (omega arith) in
        record { it = k.it; way = on s k.way; sound = k.sound; above = k.above; below = k.below; listed = pop k.listed }

aims_at : {a l : List ℕ} {i t : ℕ} → Target a i → t ≡ offset a i → In t l → kind a t ≡ target_kind a i → Aims a l i
aims_at g e h c = record { four = g.four; eight = g.eight; later = rw e at h; alike = rw e at c }

one_known : is_class 1 ≡ true
unfolding is_class
one_known = refl

module _ {a : List ℕ} (k : Complete a) where
  main_header : MainHeader a
  main_header =
      let f = complete_fine k in
      record {
        header = passes (headed a) (λ e. no_main k (M.bad_header e));
        times = passes (timed a) (λ e. no_main k (M.bad_times e));
        lines = λ j h. (fine_framed f j h, fine_valued f j h);
        least = (sized f).0;
        most = (sized f).1;
        sums = summed f;
      }

  module _ {x : Site} (w : Leads a first x) (s : Sound a x.at) where
    seen : x.at + 20 ≤ length a
    seen = omega (arith, s.room, whole_come k)

    known_here : (is_class (class_at a x.at) ≡ true) × (is_group (get_or a (x.at + 1) 0) ≡ true)
    known_here =
        parts (is_class (class_at a x.at)) (is_group (get_or a (x.at + 1) 0))
        (passes (is_class (class_at a x.at) && is_group (get_or a (x.at + 1) 0)) (λ e. not_wrong k w (unknown s.room e) seen))

    is_record : is_class x.prev ≡ true → IsRecord a x.prev x.at
    is_record p = record {
      known = known_here.0;
      grouped = known_here.1;
      ordered = passes (may_follow x.prev (class_at a x.at)) (λ e. not_wrong k w (misplaced s.room (record { before = p; known = known_here.0; against = e })) seen);
      least = s.least;
      ipr = s.ipr;
      times = passes (timed_at a x.at) (λ e. not_wrong k w (bad_times s.room e) seen);
    }

    -- no more than the total
    fewer_here : get_or x.tally (class_at a x.at) 0 + 1 ≤ total a (class_at a x.at)
    fewer_here =
        holds (dec_le (get_or x.tally (class_at a x.at) 0 + 1) (total a (class_at a x.at)))
        (λ n. not_wrong k w (surplus s.room (record { known = known_here.0; over = omega arith })) seen)

    module _ (o : class_at a x.at ≡ 3) where
      end : x.at + 27 ≤ length a
      end = omega (arith, s.ipr o, s.most, whole_come k)

      good_pointer : Pointer a x
      good_pointer = record { way = w; sound = s; ipr = o; target = holds (target? a x.at) (λ n. not_wrong k w (bad_target s o n) end) }

  aims :
      {x y : Site} (w : Leads a first x) (s : Sound a x.at) (l : Leads a (next a x) y) → y.at ≡ declared a → class_at a x.at ≡ 3
      → Aims a (starts l) x.at
  aims {x} w s l e o =
      let p = good_pointer w s o in
      let r = held l {t = offset_at a x.at} (omega (arith, s.ipr o, p.target.past)) (omega (arith, p.target.within)) in
      let z = r.it in
      let v : Leads a first z = trans w (on s r.way) in
      let b : x.at < z.at = omega (arith, leads_le r.way, s.least) in
      let m = r.sound.room in
      let u = holds (dec_le (offset_at a x.at) z.at) (λ n. not_wrong k v (points_inside x p m b (omega arith) r.below) (seen v r.sound)) in
      let q : z.at ≡ offset_at a x.at = omega (arith, u, r.above) in
      let f = holds (ℕ_discrete (aim_at a x.at) (kind_at a z.at)) (λ n. not_wrong k v (points_at_other x p m b (sym q) n) (seen v r.sound)) in
      aims_at p.target q r.listed (sym f)

  records_of :
      {x y : Site} → Leads a first x → is_class x.prev ≡ true → (l : Leads a x y) → y.at ≡ declared a
      → Records a x.at x.prev (starts l)
  records_of w p here e = none e
  records_of w p (on s l) e = more (is_record w s p) (aims w s l e) (records_of (snoc w s) (known_here w s).0 l e)

  -- the totals are kept to on the way
  kept_to :
      {x y : Site} → Leads a first x → length x.tally ≡ 9 → (l : Leads a x y) → (c : ℕ) → c ≤ 8
      → get_or x.tally c 0 ≤ total a c → get_or y.tally c 0 ≤ total a c
  kept_to w n here c h u = u
  kept_to {x} w n (on s l) c h u = kept_to (snoc w s) (simp length-set n) l c h (go (ℕ_discrete (class_at a x.at) c))
    where
      go : Dec (class_at a x.at ≡ c) → get_or (one_more x.tally (class_at a x.at)) c 0 ≤ total a c
      go (yes e) =
          let m = rw e at (fewer_here w s) in
          let b = rw (eq-eqb (class_at a x.at) c e) at (one_more_lem x.tally (class_at a x.at) c n h) in
          omega arith
      go (no d) = let b = rw (ne_eqb (class_at a x.at) c d) at (one_more_lem x.tally (class_at a x.at) c n h) in omega arith

  first_kept : (c : ℕ) → c ≤ 8 → get_or first.tally c 0 ≤ total a c
  first_kept c h = go (ℕ_discrete 1 c)
    where
      go : Dec (1 ≡ c) → get_or first.tally c 0 ≤ total a c
      go (yes e) = let b = rw (eq-eqb 1 c e) at (first_is c h) in let m = rw e at (summed (complete_fine k)).main in omega arith
      go (no d) = let b = rw (ne_eqb 1 c d) at (first_is c h) in omega arith

  total_met : {c : ℕ} (v : Covered a c) (j : ℕ) → 1 ≤ j → j ≤ 8 → of_class a j (0 ∷ starts v.way) ≡ total a j
  total_met v j l h =
      let y = v.last in
      let u = kept_to here refl v.way j h (first_kept j h) in
      let e : y.at ≤ length a = omega (arith, v.ends, whole_come k) in
      let m = holds (dec_le (total a j) (get_or y.tally j 0)) (λ n. not_wrong k v.way (too_few v.ends j l h (omega arith)) e) in
      omega (arith, u, m, tallied v.way refl j h, first_tally a main_header.header j h)

  pub complete_meets : {c : ℕ} → Covered a c → Meets a
  complete_meets v = record {
    header = main_header;
    list = starts v.way;
    records = records_of here one_known v.way v.ends;
    totals = total_met v;
    come = whole_come k;
  }

-- ---- TO THE TABLE: of a product that is as it shall be no row holds

no_main_fault : {a : List ℕ} → MainHeader a → (g : M.Fault a) → ⊥
no_main_fault h (M.bad_header e) = clash h.header e
no_main_fault h (M.bad_line j l (M.bad_frame e)) = clash (h.lines j l).0 e
no_main_fault h (M.bad_line j l (M.bad_value e)) = clash (h.lines j l).1 e
no_main_fault h (M.bad_size _ d) = ⊎_elim (λ z. omega (arith, h.least)) (λ z. omega (arith, h.most)) d
no_main_fault h (M.bad_totals _ d) = d h.sums
no_main_fault h (M.bad_times e) = clash h.times e

records_le : {a : List ℕ} {i p : ℕ} {l : List ℕ} → Records a i p l → i ≤ declared a
records_le (none e) = omega arith
records_le (more r _ ts) = omega (arith, records_le ts)

in_room : {a : List ℕ} {i p t : ℕ} {l : List ℕ} → Records a i p l → In t l → (i ≤ t) × (t + 20 ≤ declared a)
in_room (none e) h = absurd (nil h)
in_room (more r _ ts) (top e) = omega (arith, r.least, records_le ts)
in_room (more r _ ts) (pop h) = omega (arith, in_room ts h)

-- a record of the list starts where another does, or past its end
apart : {a : List ℕ} {i p t : ℕ} {l : List ℕ} → Records a i p l → In t l → i < t → t < i + size a i → ⊥
apart (none e) h u v = nil h
apart (more r _ ts) (top e) u v = omega arith
apart (more r _ ts) (pop h) u v = omega (arith, in_room ts h)

-- the records from y on, of those from x on: each other one starts before y, and is counted there
record Rest (a : List ℕ) (x y : Site) (l : List ℕ) : Type 0 where
  list : List ℕ
  records : Records a y.at y.prev list
  others : (t : ℕ) → In t l → (t < y.at) ⊎ In t list
  tally : (c : ℕ) → c ≤ 8 → get_or y.tally c 0 + of_class a c list ≡ get_or x.tally c 0 + of_class a c l

onward : {a l : List ℕ} {x y : Site} → Leads a x y → length x.tally ≡ 9 → Records a x.at x.prev l → Rest a x y l
onward {l = l} here n r = record { list = l; records = r; others = λ t h. inr h; tally = λ c h. refl }
onward (on s m) n (none e) = absurd (omega (arith, s.room))
onward {a} {x = x} {y = y} (on s m) n (more {l = l} r _ ts) =
    let k = onward {l = l} m (simp length-set n) ts in
    record {
      list = k.list;
      records = k.records;
      others = go k;
      tally = λ c h. omega (arith, k.tally c h, one_more_lem x.tally (class_at a x.at) c n h);
    }
  where
    go : (k : Rest a (next a x) y l) (t : ℕ) → In t (x.at ∷ l) → (t < y.at) ⊎ In t k.list
    go k t (top e) = inl (omega (arith, leads_le m, s.least))
    go k t (pop h) = k.others t h

-- what is known at x of a pointer before it
record Aimed (a : List ℕ) (q x : Site) : Type 0 where
  list : List ℕ
  records : Records a x.at x.prev list
  where_it_is : (offset_at a q.at < x.at) ⊎ In (offset_at a q.at) list
  alike : kind a (offset_at a q.at) ≡ aim_at a q.at

aimed_on :
    {a l : List ℕ} {q x : Site} → length q.tally ≡ 9 → Sound a q.at → class_at a q.at ≡ 3 → Records a q.at q.prev l
    → Leads a q x → q.at < x.at → Aimed a q x
aimed_on n s o (none e) m h = absurd (omega (arith, s.room))
aimed_on n s o (more r f ts) here h = absurd (omega arith)
aimed_on {a} {q = q} n s o (more r f ts) (on _ m) h =
    let k = onward m (simp length-set n) ts in
    let g = f o in
    record { list = k.list; records = k.records; where_it_is = k.others (offset_at a q.at) g.later; alike = g.alike }

module _ {a l : List ℕ} (rs : Records a 3307 1 l) where
  aimed : {q x : Site} → Pointer a q → Leads a first x → q.at < x.at → Aimed a q x
  aimed p w h =
      aimed_on (nine p.way refl) p.sound p.ipr (onward p.way refl rs).records
      (⊎_elim (λ m. m) (λ m. absurd (omega (arith, leads_le m))) (linear p.way w)) h

  -- a row a clause; m are the starts from x on, which with those counted make the totals
  no_wrong :
      {x : Site} {m : List ℕ} → Leads a first x → Records a x.at x.prev m
      → ((c : ℕ) → 1 ≤ c → c ≤ 8 → get_or x.tally c 0 + of_class a c m ≡ total a c) → Wrong a x → ⊥
  no_wrong w (none e) b (part_left u v) = omega arith
  no_wrong w (none e) b (unknown h c) = omega arith
  no_wrong w (none e) b (misplaced h c) = omega arith
  no_wrong w (none e) b (bad_size h c) = omega arith
  no_wrong w (none e) b (bad_times h c) = omega arith
  no_wrong w (none e) b (surplus h c) = omega arith
  no_wrong w (none e) b (bad_target s o c) = omega (arith, s.room)
  no_wrong w (none e) b (points_inside q p h d u v) = omega arith
  no_wrong w (none e) b (points_at_other q p h d u v) = omega arith
  no_wrong w (none e) b (too_few d c j h u) = omega (arith, b c j h)
  no_wrong w (more r _ ts) b (part_left u v) = omega (arith, r.least, records_le ts)
  no_wrong w (more r _ ts) b (unknown h c) = clash (rw (r.known, r.grouped) refl) c
  no_wrong w (more r _ ts) b (misplaced h c) = clash r.ordered c.against
  no_wrong w (more r _ ts) b (bad_size h c) = c (record { room = h; least = r.least; most = records_le ts; ipr = r.ipr })
  no_wrong w (more r _ ts) b (bad_times h c) = clash r.times c
  no_wrong {x} w (more r _ ts) b (surplus h c) =
      let k = class_at a x.at in
      let g = class_most k r.known in
      let e = rw (eq-eqb k k refl) at (b k g.0 g.1) in
      omega (arith, e, c.over)
  no_wrong w (more r f ts) b (bad_target s o c) =
      let g = f o in
      let i = in_room ts g.later in
      c (record { four = g.four; eight = g.eight; past = omega (arith, i, r.ipr o); within = i.1 })
  no_wrong w (more r _ ts) b (points_inside q p h d u v) =
      let g = aimed p w d in
      ⊎_elim (λ z. omega arith) (λ i. apart g.records i u v) g.where_it_is
  no_wrong w (more r _ ts) b (points_at_other q p h d e c) = c (sym (rw e at (aimed p w d).alike))
  no_wrong w (more r _ ts) b (too_few d c j h u) = omega (arith, r.least, records_le ts)

pub meets_complete : {a : List ℕ} → Meets a → Complete a
meets_complete {a} m = record { clean = clean; header = omega (arith, m.header.least, m.come); come = omega (arith, m.come) }
  where
    balance : {x : Site} (r : Rest a first x m.list) (c : ℕ) → 1 ≤ c → c ≤ 8 → get_or x.tally c 0 + of_class a c r.list ≡ total a c
    balance r c h l = omega (arith, r.tally c l, first_tally a m.header.header c l, m.totals c h l)

    clean : Clean a
    clean (main g) _ = no_main_fault m.header g
    clean (at _ x w v) _ = let r = onward w refl m.records in no_wrong m.records w r.records (balance r) v
    clean (too_long _) h = omega (arith, m.come)

-- the way that the list tells
record Told (a : List ℕ) (x : Site) (l : List ℕ) : Type 0 where
  last : Site
  way : Leads a x last
  ends : last.at ≡ declared a
  list : starts way ≡ l
  counted : last.count ≡ x.count + length l

told : {a l : List ℕ} (x : Site) → Records a x.at x.prev l → Told a x l
told x (none e) = record { last = x; way = here; ends = e; list = refl; counted = omega arith }
told {a} x (more r _ ts) =
    let k = told (next a x) ts in
    let s : Sound a x.at = record { room = omega (arith, r.least, records_le ts); least = r.least; most = records_le ts; ipr = r.ipr } in
    record {
      last = k.last;
      way = on s k.way;
      ends = k.ends;
      list = ap (λ (m : List ℕ). x.at ∷ m) k.list;
      counted = omega (arith, k.counted);
    }

same_way : {a : List ℕ} {x y z : Site} (l : Leads a x y) (m : Leads a x z) → y.at ≡ z.at → (starts l ≡ starts m) × (y.count ≡ z.count)
same_way here here e = (refl, refl)
same_way here (on s m) e = absurd (omega (arith, leads_le m, s.least))
same_way (on s l) here e = absurd (omega (arith, leads_le l, s.least))
same_way {x = x} (on s l) (on t m) e = let k = same_way l m e in (ap (λ (r : List ℕ). x.at ∷ r) k.0, k.1)

-- what covers a product is what its list says
pub covers : {a : List ℕ} {c : ℕ} (m : Meets a) (v : Covered a c) → (c ≡ suc (length m.list)) × (starts v.way ≡ m.list)
covers m v =
    let t = told first m.records in
    let e = same_way v.way t.way (v.ends ∙ sym t.ends) in
    (omega (arith, v.counted, e.1, t.counted), e.0 ∙ t.list)

-- ---- THE THEOREMS

-- 1. what is accepted is a product; the count is that of its records, with the main header; the list holds their rows and is kept elsewhere
pub accepted_meets :
    {a : List ℕ} {rows rows' : List (List ℕ)} {c : ℕ} → FinishedIs a rows (Ok c) rows'
    → (m : Meets a) × (c ≡ suc (length m.list)) × (rows' ≡ put 0 (rows_of a (0 ∷ m.list)) rows)
unfolding complete_meets
accepted_meets f =
    let m = complete_meets f.complete f.filled.covered in
    (m, (covers m f.filled.covered).0, f.filled.index)

-- 2. a product is accepted where the list has room, and nothing else may be said of it
pub meets_accepted :
    (a : List ℕ) (rows rows' : List (List ℕ)) (m : Meets a) → suc (length m.list) ≤ length rows → (r : Result ℕ Refusal) → FinishedIs a rows r rows'
    → (r ≡ Ok (suc (length m.list))) × (rows' ≡ put 0 (rows_of a (0 ∷ m.list)) rows)
meets_accepted a rows rows' m h (Ok c) f =
    let v = covers m f.filled.covered in
    (ap Ok v.0, f.filled.index ∙ ap (λ (l : List ℕ). put 0 (rows_of a (0 ∷ l)) rows) v.1)
meets_accepted a rows rows' m h (Err r) (f, _) = absurd (go f)
  where
    go : {n p : ℕ} → Refuses a (length rows) n p → ⊥
    go (faulty g) = not_clean g (meets_complete m).clean
    go (short _ s) = ⊎_elim (λ z. omega (arith, m.header.least, m.come)) (λ z. omega (arith, m.come)) s
    go (no_room _ v l) = omega (arith, (covers m v).0)

-- 3. a product's list is one
pub one_list : {a : List ℕ} (m n : Meets a) → m.list ≡ n.list
one_list m n =
    let t = told first m.records in
    let v : Covered _ t.last.count = record { last = t.last; way = t.way; ends = t.ends; counted = refl } in
    sym (covers m v).1 ∙ (covers n v).1

-- 4. no fault is shown, and the last byte of the main header and of D has come, just where it is a product
pub complete_is_product : {a : List ℕ} → Complete a → Meets a
complete_is_product k = complete_meets k (complete_covered k).1

-- 5. one thing at most is right to say, and to write
pub unique_finished : (a : List ℕ) (rows : List (List ℕ)) (r s : Result ℕ Refusal) (x y : List (List ℕ)) → FinishedIs a rows r x → FinishedIs a rows s y → (r ≡ s) × (x ≡ y)
unique_finished a rows (Ok c) s x y f g =
    let m = accepted_meets f in
    let k = meets_accepted a rows y m.0 (omega (arith, m.1, f.filled.fits)) s g in
    (ap Ok m.1 ∙ sym k.0, m.2 ∙ sym k.1)
unique_finished a rows (Err r) (Ok c) x y f g =
    let m = accepted_meets g in
    let k = meets_accepted a rows x m.0 (omega (arith, m.1, g.filled.fits)) (Err r) f in
    (k.0 ∙ ap Ok (sym m.1), k.1 ∙ sym m.2)
unique_finished a rows (Err r) (Err s) x y (f, e) (g, d) = let u = go f g in (ap Err (same_refusal r s u.0 u.1), e ∙ sym d)
  where
    go : {n p n' p' : ℕ} → Refuses a (length rows) n p → Refuses a (length rows) n' p' → (n ≡ n') × (p ≡ p')
    go (faulty g) (faulty h) = unique_given g h
    go (faulty g) (short c s) = absurd (not_clean g c)
    go (faulty g) (no_room k v l) = absurd (not_clean g k.clean)
    go (short c s) (faulty g) = absurd (not_clean g c)
    go (short c s) (short c' s') = (refl, refl)
    go (short c s) (no_room k v l) = absurd (⊎_elim (λ z. omega (arith, k.header)) (λ z. omega (arith, k.come)) s)
    go (no_room k v l) (faulty g) = absurd (not_clean g k.clean)
    go (no_room k v l) (short c s) = absurd (⊎_elim (λ z. omega (arith, k.header)) (λ z. omega (arith, k.come)) s)
    go (no_room k v l) (no_room k' v' l') = (refl, omega (arith, v.counted, v'.counted, (same_way v.way v'.way (v.ends ∙ sym v'.ends)).1))

pub unique_extent : (a : List ℕ) (r s : Result (Option ℕ) Refusal) → ExtentIs a r → ExtentIs a s → r ≡ s
unique_extent a (Ok None) (Ok None) f g = refl
unique_extent a (Ok None) (Ok (Some c)) f (k, v) = absurd (⊎_elim (λ z. omega (arith, k.header)) (λ z. omega (arith, k.come)) f.1)
unique_extent a (Ok None) (Err s) f g = absurd (not_clean g f.0)
unique_extent a (Ok (Some c)) (Ok None) (k, v) g = absurd (⊎_elim (λ z. omega (arith, k.header)) (λ z. omega (arith, k.come)) g.1)
unique_extent a (Ok (Some c)) (Ok (Some d)) (k, v) (l, w) = ap (λ n. Ok (Some n)) (omega (arith, v.counted, w.counted, (same_way v.way w.way (v.ends ∙ sym w.ends)).1))
unique_extent a (Ok (Some c)) (Err s) (k, v) g = absurd (not_clean g k.clean)
unique_extent a (Err r) (Ok None) f g = absurd (not_clean f g.0)
unique_extent a (Err r) (Ok (Some d)) f (l, w) = absurd (not_clean f l.clean)
unique_extent a (Err r) (Err s) f g = let u = unique_given f g in ap Err (same_refusal r s u.0 u.1)

-- ---- the verdict
no_verdict : {a : List ℕ} {n p : ℕ} → Complete a → Unfit a n p → ⊥
no_verdict k (faulty g) = not_clean g k.clean
no_verdict k (short c s) = ⊎_elim (λ z. omega (arith, k.header)) (λ z. omega (arith, k.come)) s

pub unique_verdict : (a : List ℕ) (r s : Result ℕ Refusal) → VerdictIs a r → VerdictIs a s → r ≡ s
unique_verdict a (Ok c) (Ok d) (k, v) (l, w) = ap Ok (omega (arith, v.counted, w.counted, (same_way v.way w.way (v.ends ∙ sym w.ends)).1))
unique_verdict a (Ok c) (Err s) (k, v) g = absurd (no_verdict k g)
unique_verdict a (Err r) (Ok d) f (l, w) = absurd (no_verdict l f)
unique_verdict a (Err r) (Err s) f g = let u = go f g in ap Err (same_refusal r s u.0 u.1)
  where
    go : {n p n' p' : ℕ} → Unfit a n p → Unfit a n' p' → (n ≡ n') × (p ≡ p')
    go (faulty g) (faulty h) = unique_given g h
    go (faulty g) (short c s) = absurd (not_clean g c)
    go (short c s) (faulty g) = absurd (not_clean g c)
    go (short c s) (short c' s') = (refl, refl)

-- a product is not refused, and a refusal is one
pub meets_fit : {a : List ℕ} → Meets a → (r : Refusal) → VerdictIs a (Err r) → ⊥
meets_fit t r g = no_verdict (meets_complete t) g

pub one_refused : {a : List ℕ} (r s : Refusal) → VerdictIs a (Err r) → VerdictIs a (Err s) → r ≡ s
one_refused {a} r s g h = go (unique_verdict a (Err r) (Err s) g h)
  where
    go : ◌≡◌ {A = Result ℕ Refusal} (Err r) (Err s) → r ≡ s
    go e = cc

pub accepted_product : {a : List ℕ} {c : ℕ} → VerdictIs a (Ok c) → Meets a
accepted_product g = complete_is_product g.0

pub verdict_at : (a : List ℕ) {x y : Result ℕ Refusal} → x ≡ y → VerdictIs a x → VerdictIs a y
verdict_at a e g = rw e at g
