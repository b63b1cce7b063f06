-- What the walk knows at a record, and what follows from it at each way out and at each turn. A fault that is shown is at the record or further on;
-- one case split on where (`View`) shows that what is given goes before it. Assumes nothing.
use Rattle.std.proofs.Common.{◌≡◌, ℕ, ◌+◌, ◌<◌, ◌≤◌, true, false, List, length, get_or, sym, refl, ap, inr, arith, length-set}
use native.Mathlib.Decide.{dec_le}
use Rattle.record.specs.Header.{is_class}
use Rattle.record.specs.Times.{timed_at}
use Rattle.tables.specs.Table.{Row, fault, Before}
use Rattle.tables.proofs.Laws.{given}
use Rattle.tables.proofs.Passing.{passes}
use Rattle.mphr.specs.Table.{declared, total, Fine}
use Rattle.mphr.specs.Table as M
use Rattle.mphr.proofs.Export.{clean_whole, clean_fine, sized}
use Rattle.judge.specs.Table.{Site, site, first, class_at, kind_at, size_at, aim_at, offset_at, Sound, Leads, here, on, next, Target, Pointer, Head, Unknown, Misplaced, Surplus, Wrong, part_left, unknown, misplaced, bad_size, bad_times, surplus, bad_target, points_inside, points_at_other, too_few, row_at, Fault, main, at, too_long, row, number, place, shown, Gives, Given, Open}
use Rattle.judge.specs.Step.{Ranked, any, Points, FirstPointer, Quiet}
use Rattle.judge.specs.Turning.{Onward, Past, Turn}
use Rattle.judge.proofs.WayLaws.{leads_le, snoc, ends_by, holds, sound?, target?, facts}
use Rattle.judge.proofs.RankLaws.{no_class}

-- ---- the first record after the main header
pub past_first : {a : List ℕ} → M.Clean a → 3307 ≤ length a → Past a first
past_first c h (main g) _ = absurd (clean_whole h c g)
past_first c h (at _ y l _) _ = l
past_first c h (too_long _) _ = tt

pub turn_first : {a : List ℕ} → M.Clean a → 3307 ≤ length a → (3307 < declared a → 3327 ≤ declared a) → Turn a first
unfolding is_class
turn_first c h p = record { fine = clean_fine h c; way = here; come = h; inside = (sized (clean_fine h c)).0; not_part = p; counted = omega arith; known = refl; nine = refl; past = past_first c h }

-- ---- what a fault at x or further on can be, where x has a header
pub data View (a : List ℕ) (x : Site) : Fault a → Type 0 where
  own : {f : Fine a} {l : Leads a first x} (w : Wrong a x) → View a x (at f x l w)
  six : {f : Fine a} {l : Leads a first (next a x)} → Sound a x.at → (m : x.at + size_at a x.at < declared a) (p : declared a < x.at + size_at a x.at + 20) → View a x (at f (next a x) l (part_left m p))
  later : {g : Fault a} → Sound a x.at → x.at + size_at a x.at ≤ shown g → (shown g ≡ x.at + size_at a x.at → number g ≡ 15) → View a x g
  end : {f : Fine a} → View a x (too_long f)

far : {a : List ℕ} {x y : Site} (f : Fine a) → Sound a x.at → (l : Leads a first y) (w : Wrong a y) → x.at + size_at a x.at + 20 ≤ (row_at w).shown → View a x (at f y l w)
far {y = y} f s l w h = later {g = at f y l w} s (omega arith) (λ e. absurd (omega arith))

view_next : {a : List ℕ} {x : Site} (f : Fine a) → Sound a x.at → (l : Leads a first (next a x)) (w : Wrong a (next a x)) → View a x (at f (next a x) l w)
view_next f s l (part_left m p) = six s m p
view_next f s l (unknown r c) = far f s l (unknown r c) (omega arith)
view_next f s l (misplaced r c) = far f s l (misplaced r c) (omega arith)
view_next f s l (bad_size r c) = far f s l (bad_size r c) (omega arith)
view_next f s l (bad_times r c) = far f s l (bad_times r c) (omega arith)
view_next f s l (surplus r c) = far f s l (surplus r c) (omega arith)
view_next f s l (bad_target t o c) = far f s l (bad_target t o c) (omega arith)
view_next f s l (points_inside q p r b u v) = far f s l (points_inside q p r b u v) (omega arith)
view_next f s l (points_at_other q p r b e c) = far f s l (points_at_other q p r b e c) (omega arith)
view_next {a} {x} f s l (too_few e c i u v) = later {g = at f (next a x) l (too_few e c i u v)} s (omega arith) (λ _. refl)

pub view : {a : List ℕ} {x : Site} (g : Fault a) → Onward x g → View a x g
view (main g) w = absurd w
view (at f y l w) here = own w
view (at f y l w) (on s here) = view_next f s l w
view (at f y l w) (on s (on t m)) = far f s l w (omega (arith, leads_le m, t.least, (facts w).from))
view (too_long f) _ = end

-- where a fault is, by its number
pub record Shows {a : List ℕ} (g : Fault a) : Type 0 where
  pub on_six : number g ≡ 6 → place g ≡ shown g
  pub near : 7 ≤ number g → number g ≤ 11 → place g + 20 ≡ shown g

pub shows : {a : List ℕ} (g : Fault a) → Shows g
shows (main (M.bad_header e)) = omega arith
shows (main (M.bad_line k h (M.bad_frame e))) = omega arith
shows (main (M.bad_line k h (M.bad_value e))) = omega arith
shows (main (M.bad_size v d)) = omega arith
shows (main (M.bad_totals v d)) = omega arith
shows (main (M.bad_times e)) = omega arith
shows (at f x l w) = let g = facts w in record { on_six = g.on_six; near = g.near }
shows (too_long f) = omega arith

-- 6 at the first record
pub gives_6_first : {a : List ℕ} → M.Clean a → 3307 ≤ length a → 3307 < declared a → declared a < 3327 → Gives a (fault 6 3307 3307)
gives_6_first {a} c h m p = record { fault = at (clean_fine h c) first here (part_left m p); is = refl; seen = h; best = λ g s. go g (past_first c h g s) }
  where
    go : (g : Fault a) → Onward first g → Before (fault 6 3307 3307) (row g)
    go (main g) w = absurd w
    go (at f y l w) _ = let k = facts w in record { sooner = omega (arith, leads_le l, k.from); lower = λ _. k.six; nearer = λ e n. omega (arith, k.on_six (sym n)) }
    go (too_long f) _ = record { sooner = omega arith; lower = λ _. omega arith; nearer = λ _ n. absurd (omega arith) }

pub refuse_6_first : {a : List ℕ} → M.Clean a → 3307 ≤ length a → 3307 < declared a → declared a < 3327 → Given a 6 3307
refuse_6_first c h m p = given (gives_6_first c h m p)

-- a pointer, as it is looked for
points : {a : List ℕ} {q : Site} {i lo hi k : ℕ} → Pointer a q → q.at < i → lo ≤ offset_at a q.at → offset_at a q.at < hi → (k < any → aim_at a q.at ≡ k → ⊥) → Points a i lo hi k q
points p b l u n = record { way = p.way; sound = p.sound; ipr = p.ipr; before = b; above = l; below = u; unlike = n }

every : {j : ℕ} → any < any → j ≡ any → ⊥
every n _ = omega arith

-- the record at x shows nothing with its header
pub record Plain (a : List ℕ) (x : Site) : Type 0 where
  pub sound : Sound a x.at
  pub known : Unknown a x.at → ⊥
  pub placed : Misplaced a x.prev x.at → ⊥
  pub timed : timed_at a x.at ≡ false → ⊥
  pub fewer : Surplus a x.tally x.at → ⊥
  pub no_inside : Quiet a x.at (x.at + 1) (x.at + size_at a x.at) any
  pub no_other : Quiet a x.at x.at (x.at + 1) (kind_at a x.at)

-- what can be wrong at such a record: it is a pointer with a bad target
record Twelve {a : List ℕ} {x : Site} (w : Wrong a x) : Type 0 where
  ipr : class_at a x.at ≡ 3
  bad : Target a x.at → ⊥
  number_is : (row_at w).number ≡ 12
  place_is : (row_at w).place ≡ x.at
  shown_is : (row_at w).shown ≡ x.at + 27

only : {a : List ℕ} {x : Site} → Plain a x → Head a x → (w : Wrong a x) → Twelve w
only f r (part_left m p) = absurd (omega arith)
only f r (unknown _ c) = absurd (f.known c)
only f r (misplaced _ c) = absurd (f.placed c)
only f r (bad_size _ c) = absurd (c f.sound)
only f r (bad_times _ c) = absurd (f.timed c)
only f r (surplus _ c) = absurd (f.fewer c)
only f r (bad_target s o c) = record { ipr = o; bad = c; number_is = refl; place_is = refl; shown_is = refl }
only f r (points_inside q p _ b u v) = absurd (f.no_inside q (points p b (omega arith) v every))
only f r (points_at_other q p _ b e c) = absurd (f.no_other q (points p b (omega arith) (omega arith) (λ _. c)))
only f r (too_few e c l u v) = absurd (omega arith)

-- a fault that goes before each that is at x or further on
abbrev pub Beats : {a : List ℕ} → Row → Fault a → Type 0
Beats f g = (f.shown ≤ shown g) × (shown g ≡ f.shown → (f.number ≤ number g) × (number g ≡ f.number → f.place ≤ place g))

module _ {a : List ℕ} {n i p : ℕ} {tl : List ℕ} (t : Turn a (site n i p tl)) (r : i + 20 ≤ declared a) where
  abbrev pub x : Site
  x = site n i p tl

  give : {r : Row} (f : Fault a) → row f ≡ r → r.shown ≤ length a → ((g : Fault a) → View a x g → Beats r g) → Gives a r
  give f e s b = record {
    fault = f;
    is = e;
    seen = s;
    best = λ g h.
        let w = b g (view g (t.past g h)) in
        record { sooner = w.0; lower = λ e. (w.1 (sym e)).0; nearer = λ e d. (w.1 (sym e)).1 (sym d) };
  }

  pub soonest : {g : Fault a} → View a x g → i + 20 ≤ shown g
  soonest (own w) = (facts w).head r
  soonest (six s m q) = omega (arith, s.least)
  soonest (later s l _) = omega (arith, s.least)
  soonest end = omega arith

  pub begun : 3307 ≤ length a
  begun = omega (arith, leads_le t.way, t.come)

  pub wait_head : length a < i + 20 → Open a n i
  wait_head l = record {
    clean = λ g h. omega (arith, soonest (view g (t.past g h)));
    whole = inr (begun, record { prev = p; tally = tl; way = t.way; come = t.come; last = λ s. omega (arith, s.least) });
  }

  module _ {v : ℕ} (k : Ranked a p i tl v) where
    pub sounds : 9 < v → Sound a i
    sounds h = holds (sound? a i) (λ c. omega (arith, k.nine.least c))

    -- of what the header shows nothing is numbered lower than the rank
    floor_own : (w : Wrong a x) → v ≤ (row_at w).number
    floor_own (part_left m q) = absurd (omega arith)
    floor_own (unknown _ c) = k.seven.least c
    floor_own (misplaced _ c) = k.eight.least c
    floor_own (bad_size _ c) = k.nine.least c
    floor_own (bad_times _ c) = k.ten.least c
    floor_own (surplus _ c) = k.eleven.least c
    floor_own (bad_target s o c) = omega (arith, k.high)
    floor_own (points_inside q w _ b u e) = omega (arith, k.high)
    floor_own (points_at_other q w _ b e c) = omega (arith, k.high)
    floor_own (too_few e c l u w) = absurd (omega arith)

    pub floor : {g : Fault a} → View a x g → shown g ≡ i + 20 → v ≤ number g
    floor (own w) f = floor_own w
    floor (six s m q) f = k.six.least (record { short = omega arith; other = λ o. omega (arith, s.ipr o); more = omega arith; part = omega arith })
    floor (later s l e) f = omega (arith, k.high, e (omega (arith, s.least)))
    floor end f = absurd (omega arith)

    pub refuse_6_head : v ≡ 6 → i + 20 ≤ length a → Gives a (fault 6 (i + 20) (i + 20))
    refuse_6_head e l =
        let z = k.six.is e in
        let s : Sound a i = record { room = r; least = omega (arith, z.short); most = omega (arith, z.short, z.more); ipr = λ o. absurd (z.other o) } in
        give (at t.fine (next a x) (snoc t.way s) (part_left (omega (arith, z.short, z.more)) (omega (arith, z.short, z.part)))) (ap (λ (j : ℕ). fault 6 (i + j) (i + j)) z.short) l
        (λ g w. (soonest w, λ d. (omega (arith, floor w d), λ m. omega (arith, (shows g).on_six m))))

    -- what the rank is the number of
    ranked : 6 < v → v < 12 → (w : Wrong a x) × (row_at w ≡ fault v i (i + 20))
    ranked l u = go (dec_le v 7) (dec_le v 8) (dec_le v 9) (dec_le v 10)
      where
        numbered : {m : ℕ} → m ≡ v → fault m i (i + 20) ≡ fault v i (i + 20)
        numbered e = ap (λ (m : ℕ). fault m i (i + 20)) e

        go : Dec (v ≤ 7) → Dec (v ≤ 8) → Dec (v ≤ 9) → Dec (v ≤ 10) → (w : Wrong a x) × (row_at w ≡ fault v i (i + 20))
        go (yes h) _ _ _ = (unknown r (k.seven.is (omega arith)), numbered (omega arith))
        go (no h) (yes j) _ _ = (misplaced r (k.eight.is (omega arith)), numbered (omega arith))
        go (no h) (no j) (yes m) _ = (bad_size r (k.nine.is (omega arith)), numbered (omega arith))
        go (no h) (no j) (no m) (yes q) = (bad_times r (k.ten.is (omega arith)), numbered (omega arith))
        go (no h) (no j) (no m) (no q) = (surplus r (k.eleven.is (omega arith)), numbered (omega arith))

    pub refuse_head : 6 < v → v < 12 → i + 20 ≤ length a → Gives a (fault v i (i + 20))
    refuse_head l u s =
        let f = ranked l u in
        give (at t.fine x t.way f.0) f.1 s (λ g w. (soonest w, λ d. (floor w d, λ m. omega (arith, (shows g).near (omega arith) (omega arith)))))

    -- a pointer that was looked for has no fault: a fault of its own would have been shown
    pub pointer_of : {lo hi j : ℕ} {q : Site} → Points a i lo hi j q → Pointer a q
    pointer_of {q = q} w = record { way = w.way; sound = w.sound; ipr = w.ipr; target = holds (target? a q.at) never }
      where
        whole : q.at + 27 ≤ i
        whole = omega (arith, ends_by w.way t.way w.before, w.sound.ipr w.ipr)

        never : (Target a q.at → ⊥) → ⊥
        never c = omega (arith, leads_le (t.past (at t.fine q w.way (bad_target w.sound w.ipr c)) (omega (arith, t.come, whole))), w.before)

    module _ (high : 11 < v) {u : ℕ} (in-it : FirstPointer a i (i + 1) (i + size_at a i) any u) where
      own_13 : (w : Wrong a x) → (row_at w).shown ≡ i + 20 → (13 ≤ (row_at w).number) × ((row_at w).number ≡ 13 → u ≤ (row_at w).place)
      own_13 (part_left m q) f = absurd (omega (arith, floor_own (part_left m q)))
      own_13 (unknown h c) f = absurd (omega (arith, floor_own (unknown h c)))
      own_13 (misplaced h c) f = absurd (omega (arith, floor_own (misplaced h c)))
      own_13 (bad_size h c) f = absurd (omega (arith, floor_own (bad_size h c)))
      own_13 (bad_times h c) f = absurd (omega (arith, floor_own (bad_times h c)))
      own_13 (surplus h c) f = absurd (omega (arith, floor_own (surplus h c)))
      own_13 (bad_target s o c) f = absurd (omega arith)
      own_13 (points_inside q w _ b l e) f = omega (arith, in-it.lowest q (points w b (omega arith) e every))
      own_13 (points_at_other q w _ b e c) f = omega arith
      own_13 (too_few e c l m w) f = absurd (omega arith)

      pub at_13 : (g : Fault a) → View a x g → shown g ≡ i + 20 → (13 ≤ number g) × (number g ≡ 13 → u ≤ place g)
      at_13 g (own w) f = own_13 w f
      at_13 g (six s m q) f = absurd (omega (arith, floor (view_next t.fine s (snoc t.way s) (part_left m q)) f))
      at_13 g (later s l e) f = let m = e (omega (arith, s.least)) in (omega arith, λ d. absurd (omega arith))
      at_13 g end f = absurd (omega arith)

      pub refuse_13 : (u ≡ 0 → ⊥) → i + 20 ≤ length a → Gives a (fault 13 u (i + 20))
      refuse_13 h s =
          let w = in-it.some h in
          give (at t.fine x t.way (points_inside w.0 (pointer_of w.2) r w.2.before (omega (arith, w.2.above)) w.2.below))
          (ap (λ (j : ℕ). fault 13 j (i + 20)) w.1) s (λ g y. (soonest y, at_13 g y))

      module _ (none : u ≡ 0) {u' : ℕ} (at-it : FirstPointer a i i (i + 1) (kind_at a i) u') where
        own_14 : (w : Wrong a x) → (row_at w).shown ≡ i + 20 → (14 ≤ (row_at w).number) × ((row_at w).number ≡ 14 → u' ≤ (row_at w).place)
        own_14 (part_left m q) f = absurd (omega (arith, own_13 (part_left m q) f))
        own_14 (unknown h c) f = absurd (omega (arith, own_13 (unknown h c) f))
        own_14 (misplaced h c) f = absurd (omega (arith, own_13 (misplaced h c) f))
        own_14 (bad_size h c) f = absurd (omega (arith, own_13 (bad_size h c) f))
        own_14 (bad_times h c) f = absurd (omega (arith, own_13 (bad_times h c) f))
        own_14 (surplus h c) f = absurd (omega (arith, own_13 (surplus h c) f))
        own_14 (bad_target s o c) f = absurd (omega arith)
        own_14 (points_inside q w _ b l e) f = absurd (in-it.none none q (points w b (omega arith) e every))
        own_14 (points_at_other q w _ b e c) f = omega (arith, at-it.lowest q (points w b (omega arith) (omega arith) (λ _. c)))
        own_14 (too_few e c l m w) f = absurd (omega arith)

        pub at_14 : (g : Fault a) → View a x g → shown g ≡ i + 20 → (14 ≤ number g) × (number g ≡ 14 → u' ≤ place g)
        at_14 g (own w) f = own_14 w f
        at_14 g (six s m q) f = absurd (omega (arith, floor (view_next t.fine s (snoc t.way s) (part_left m q)) f))
        at_14 g (later s l e) f = let m = e (omega (arith, s.least)) in (omega arith, λ d. absurd (omega arith))
        at_14 g end f = absurd (omega arith)

        pub refuse_14 : (u' ≡ 0 → ⊥) → kind_at a i < any → i + 20 ≤ length a → Gives a (fault 14 u' (i + 20))
        refuse_14 h small s =
            let w = at-it.some h in
            give (at t.fine x t.way (points_at_other w.0 (pointer_of w.2) r w.2.before (omega (arith, w.2.above, w.2.below)) (w.2.unlike small)))
            (ap (λ (j : ℕ). fault 14 j (i + 20)) w.1) s (λ g y. (soonest y, at_14 g y))

    pub plain : 11 < v → Quiet a i (i + 1) (i + size_at a i) any → Quiet a i i (i + 1) (kind_at a i) → Plain a x
    plain high q o = record {
      sound = sounds (omega arith);
      known = λ c. omega (arith, k.seven.least c);
      placed = λ c. omega (arith, k.eight.least c);
      timed = λ c. omega (arith, k.ten.least c);
      fewer = λ c. omega (arith, k.eleven.least c);
      no_inside = q;
      no_other = o;
    }

  module _ (f : Plain a x) where
    unshown : length a < i + size_at a i → {g : Fault a} → View a x g → length a < shown g
    unshown l (own w) = let z = only f r w in omega (arith, z.shown_is, f.sound.ipr z.ipr)
    unshown l (six s m q) = omega arith
    unshown l (later s h _) = omega arith
    unshown l end = omega (arith, f.sound.most)

    pub wait_body : length a < i + size_at a i → Open a n i
    wait_body l = record {
      clean = λ g h. omega (arith, unshown l (view g (t.past g h)));
      whole = inr (begun, record { prev = p; tally = tl; way = t.way; come = t.come; last = λ _. l });
    }

    pub at_6 : i + size_at a i < declared a → (g : Fault a) → View a x g → Beats (fault 6 (i + size_at a i) (i + size_at a i)) g
    at_6 l g (own w) = let z = only f r w in omega (arith, z.number_is, z.shown_is, f.sound.ipr z.ipr)
    at_6 l g (six s m q) = omega arith
    at_6 l g (later s h e) = (h, λ d. (omega (arith, e d), λ b. absurd (omega (arith, e d))))
    at_6 l g end = omega arith

    pub refuse_6 : i + size_at a i < declared a → declared a < i + size_at a i + 20 → i + size_at a i ≤ length a → Gives a (fault 6 (i + size_at a i) (i + size_at a i))
    refuse_6 m q l = give (at t.fine (next a x) (snoc t.way f.sound) (part_left m q)) refl l (at_6 m)

    module _ (e : i + size_at a i < declared a → i + size_at a i + 20 ≤ declared a) where
      pub at_12 : class_at a i ≡ 3 → (g : Fault a) → View a x g → Beats (fault 12 i (i + 27)) g
      at_12 o g (own w) = let z = only f r w in omega (arith, z.number_is, z.place_is, z.shown_is)
      at_12 o g (six s m q) = absurd (omega (arith, e m))
      at_12 o g (later s h d) = let z = f.sound.ipr o in (omega arith, λ b. let m = d (omega arith) in (omega arith, λ c. absurd (omega arith)))
      at_12 o g end = omega (arith, f.sound.ipr o, f.sound.most)

      pub refuse_12 : class_at a i ≡ 3 → (Target a i → ⊥) → i + 27 ≤ length a → Gives a (fault 12 i (i + 27))
      refuse_12 o c l = give (at t.fine x t.way (bad_target f.sound o c)) refl l (at_12 o)

      -- all that is shown is further on
      passed : (class_at a i ≡ 3 → Target a i) → (g : Fault a) → Onward x g → Onward (next a x) g
      passed b (main g) w = w
      passed b (at _ y l w) here = let z = only f r w in absurd (z.bad (b z.ipr))
      passed b (at _ y l w) (on s m) = m
      passed b (too_long _) w = w

      known_class : is_class (class_at a i) ≡ true
      known_class = passes (is_class (class_at a i)) (λ d. f.known (no_class a i d))

      pub turn_next : i + size_at a i ≤ length a → (class_at a i ≡ 3 → Target a i) → Turn a (next a x)
      turn_next l b = record {
        fine = t.fine;
        way = snoc t.way f.sound;
        come = l;
        inside = f.sound.most;
        not_part = e;
        counted = omega (arith, t.counted, f.sound.least);
        known = known_class;
        nine = simp length-set t.nine;
        past = λ g h. passed b g (t.past g h);
      }

-- ---- past the last record
-- some class has fewer records than its total
pub record Few (a tl : List ℕ) : Type 0 where
  pub class : ℕ
  pub one : 1 ≤ class
  pub eight : class ≤ 8
  pub less : get_or tl class 0 < total a class

few : {a : List ℕ} {x : Site} → x.at ≡ declared a → Wrong a x → Few a x.tally
few d (part_left m p) = absurd (omega arith)
few d (unknown r c) = absurd (omega arith)
few d (misplaced r c) = absurd (omega arith)
few d (bad_size r c) = absurd (omega arith)
few d (bad_times r c) = absurd (omega arith)
few d (surplus r c) = absurd (omega arith)
few d (bad_target s o c) = absurd (omega (arith, s.room))
few d (points_inside q p r b u v) = absurd (omega arith)
few d (points_at_other q p r b e c) = absurd (omega arith)
few d (too_few e c l u v) = record { class = c; one = l; eight = u; less = v }

module _ {a : List ℕ} {n i p : ℕ} {tl : List ℕ} (t : Turn a (site n i p tl)) (d : i ≡ declared a) where
  abbrev z : Site
  z = site n i p tl

  -- what is shown there: 15, or 16
  record Ends (g : Fault a) : Type 0 where
    sooner : i ≤ shown g
    fifteen : 15 ≤ number g
    nearer : number g ≡ 15 → place g ≡ i
    over : (Few a tl → ⊥) → (number g ≡ 16) × (place g ≡ declared a) × (shown g ≡ declared a + 1)

  stays : {y : Site} → Leads a z y → Wrong a y → y ≡ z
  stays here w = refl
  stays (on s l) w = absurd (omega (arith, s.room))

  ends_at : {y : Site} → y ≡ z → (l : Leads a first y) (w : Wrong a y) → Ends (at t.fine y l w)
  ends_at {y} e l w =
      let y-is : y.at ≡ i = ap (λ (s : Site). s.at) e in
      let k = facts w in
      let m = k.ended (omega arith) in
      record {
        sooner = omega (arith, k.from);
        fifteen = omega (arith, m);
        nearer = λ _. omega (arith, k.on_last m, k.within, k.from);
        over = λ none. absurd (none (rw (ap (λ (s : Site). s.tally) e) at (few (omega arith) w)));
      }

  ends : (g : Fault a) → Onward z g → Ends g
  ends (main g) w = absurd w
  ends (at f y l w) h = let k = ends_at (stays h w) l w in record { sooner = k.sooner; fifteen = k.fifteen; nearer = k.nearer; over = k.over }
  ends (too_long f) h = record { sooner = omega arith; fifteen = omega arith; nearer = λ e. absurd (omega arith); over = λ _. (refl, refl, refl) }

  pub refuse_15 : Few a tl → Gives a (fault 15 i i)
  refuse_15 f = record {
    fault = at t.fine z t.way (too_few d f.class f.one f.eight f.less);
    is = refl;
    seen = t.come;
    best = λ g h. let k = ends g (t.past g h) in record { sooner = k.sooner; lower = λ _. k.fifteen; nearer = λ _ e. omega (arith, k.nearer (sym e)) };
  }

  module _ (none : Few a tl → ⊥) where
    pub refuse_16 : declared a < length a → Gives a (fault 16 (declared a) (declared a + 1))
    refuse_16 l = record {
      fault = too_long t.fine;
      is = refl;
      seen = omega arith;
      best = λ g h. let e = (ends g (t.past g h)).over none in record { sooner = omega (arith, e); lower = λ _. omega (arith, e); nearer = λ _ _. omega (arith, e) };
    }

    pub wait_end : length a ≤ declared a → Open a n i
    wait_end l = record {
      clean = λ g h. omega (arith, (ends g (t.past g h)).over none);
      whole = inr (omega (arith, leads_le t.way, t.come), record { prev = p; tally = tl; way = t.way; come = t.come; last = λ s. absurd (omega (arith, s.room)) });
    }
