-- The scan over the pointer records, and what is kept of them from record to record: the pointers that are looked for are from the scan's record
-- on; it passes what is not looked for, and the first that it meets is the first there is. Assumes nothing.
use Rattle.std.proofs.Common.{◌≡◌, ℕ, ◌+◌, ◌-◌, ◌<◌, ◌≤◌, Bool, true, ◌⊎◌, List, length, get_or, sym, refl, ap, ◌∙◌, inl, inr, ⊎_elim, zero-le, le_refl, arith}
use native.Mathlib.Decide.{dec_lt}
use Rattle.mphr.specs.Table.{declared}
use Rattle.judge.specs.Table.{Site, site, first, class_at, size_at, offset_at, one_more, Sound, Leads, here, on, next}
use Rattle.judge.specs.declared.pointers.Pointers.{Pointers}
use Rattle.judge.specs.Step.{Started, any, Points, FirstPointer, Quiet, Scan, Met, Looking, Rising, Order, Kept, Search, NextIs, Settling, Follows, JoinedIs, Calm, ClearIs}
use Rattle.judge.proofs.WayLaws.{leads_le, snoc, goes, linear, met, near, ends_by}

-- the same pointer, for other bounds and any kind
pub bounded : {a : List ℕ} {e lo hi k e' lo' hi' : ℕ} {q : Site} → Points a e lo hi k q → q.at < e' → lo' ≤ offset_at a q.at → offset_at a q.at < hi' → Points a e' lo' hi' any q
bounded w b l u = record { way = w.way; sound = w.sound; ipr = w.ipr; before = b; above = l; below = u; unlike = λ n. absurd (omega arith) }

pub to_any : {a : List ℕ} {e lo hi k : ℕ} {q : Site} → Points a e lo hi k q → Points a e lo hi any q
to_any w = bounded w w.before w.above w.below

module _ {a : List ℕ} {e lo hi k q : ℕ} (s : Scan a e lo hi k q) where
  abbrev spot : Site
  spot = site s.count q s.prev s.tally

  pub scan_sound : q < e → Sound a q
  scan_sound h = (goes s.ahead h).0

  scan_next : q < e → Leads a (next a spot) (site s.goal.count e s.goal.prev s.goal.tally)
  scan_next h = (goes s.ahead h).1

  -- the record that is looked at has come
  pub scan_room : q < e → (q + size_at a q ≤ e) × (20 ≤ size_at a q) × (e ≤ length a)
  scan_room h = (leads_le (scan_next h), (scan_sound h).least, s.goal.come)

  pub scan_ipr : q < e → class_at a q ≡ 3 → 27 ≡ size_at a q
  scan_ipr h o = sym ((scan_sound h).ipr o)

  pub looking : q < e → Looking a q
  looking h = let r = scan_room h in record { come = omega (arith, r.2); ipr = λ o. omega (arith, r.0, r.2, (scan_sound h).ipr o) }

  met_here : q < e → Met a q lo hi k → Points a e lo hi k spot
  met_here h m = record { way = s.way; sound = scan_sound h; ipr = m.ipr; before = h; above = m.above; below = m.below; unlike = m.unlike }

  -- a record that is not looked for is passed
  pub scan_pass : q < e → (Met a q lo hi k → ⊥) → (z : ℕ) → z ≡ size_at a q → Scan a e lo hi k (q + z)
  scan_pass h nay z f = rw f (record {
    count = s.count + 1;
    prev = get_or a q 0;
    tally = one_more s.tally (get_or a q 0);
    way = snoc s.way (scan_sound h);
    goal = s.goal;
    ahead = scan_next h;
    rest = λ p w. go (s.rest p w) w;
  })
    where
      go : {p : Site} → Leads a spot p → Points a e lo hi k p → Leads a (next a spot) p
      go here w = absurd (nay (record { ipr = w.ipr; above = w.above; below = w.below; unlike = w.unlike }))
      go (on t l) w = l

  pub scan_found : q < e → Met a q lo hi k → FirstPointer a e lo hi k q
  scan_found h m = record {
    none = λ z. absurd (omega (arith, leads_le s.way));
    some = λ _. (spot, refl, met_here h m);
    lowest = λ p w. leads_le (s.rest p w);
  }

  -- where the targets never descend a target past hi ends the scan
  pub scan_stop : Rising a e → q < e → class_at a q ≡ 3 → hi ≤ offset_at a q → FirstPointer a e lo hi k 0
  scan_stop g h o u = record {
    none = λ _ p w. absurd (omega (arith, w.below, g.rise spot p (record { way = s.way; sound = scan_sound h; ipr = o; before = h; above = zero-le; below = le_refl _; unlike = λ n. absurd (omega arith) }) (to_any w) (leads_le (s.rest p w))));
    some = λ nay. absurd (nay refl);
    lowest = λ p w. zero-le;
  }

  pub scan_none : e ≤ q → FirstPointer a e lo hi k 0
  scan_none h = record {
    none = λ _ p w. absurd (omega (arith, leads_le (s.rest p w), w.before));
    some = λ nay. absurd (nay refl);
    lowest = λ p w. zero-le;
  }

-- a narrower scan
pub scan_narrow : {a : List ℕ} {e lo lo' hi hi' k q : ℕ} → lo ≤ lo' → hi' ≤ hi → Scan a e lo hi any q → Scan a e lo' hi' k q
scan_narrow l h s = record {
  count = s.count;
  prev = s.prev;
  tally = s.tally;
  way = s.way;
  goal = s.goal;
  ahead = s.ahead;
  rest = λ p w. s.rest p (bounded w w.before (omega (arith, w.above)) (omega (arith, w.below)));
}

pub quiet_narrow : {a : List ℕ} {e lo hi lo' hi' k : ℕ} → lo ≤ lo' → hi' ≤ hi → Quiet a e lo hi any → Quiet a e lo' hi' k
quiet_narrow l u h q w = h q (bounded w w.before (omega (arith, w.above)) (omega (arith, w.below)))

pub quiet_calm : {a : List ℕ} {e i hi : ℕ} → Quiet a e i hi any → Calm a e i hi
quiet_calm h = record { inside = quiet_narrow (omega arith) (le_refl _) h; other = λ l. quiet_narrow (le_refl _) (omega arith) h }

pub first_none : {a : List ℕ} {e lo hi k : ℕ} → Quiet a e lo hi k → FirstPointer a e lo hi k 0
first_none h = record { none = λ _. h; some = λ n. absurd (n refl); lowest = λ q w. zero-le }

pub less : {d i z : ℕ} → i < d → 20 ≤ z → d - (i + z) < d - i
less h z = omega arith

-- ---- the cursor
-- a pointer before the record at e is whole before it
pub pointer_room : {a : List ℕ} {e lo hi k : ℕ} {q : Site} → Started a e → Points a e lo hi k q → q.at + 27 ≤ e
pointer_room g w = omega (arith, ends_by w.way g.way w.before, w.sound.ipr w.ipr)

module _ {a : List ℕ} {from end : ℕ} {rising : Bool} {to d q : ℕ} (k : Search a from end rising to d) (e : d ≡ declared a) (f : FirstPointer a end to d any q) where
  cursor : Scan a end to (declared a) any from
  cursor = scan_narrow (le_refl _) (omega arith) k.cursor

  abbrev goal : Started a end
  goal = k.cursor.goal

  -- no pointer that is looked for is left
  pub follow_none : q ≡ 0 → Scan a end to (declared a) any end
  follow_none z = record { count = goal.count; prev = goal.prev; tally = goal.tally; way = goal.way; goal = goal; ahead = here; rest = λ p v. absurd (f.none z p (bounded v v.before v.above (omega (arith, v.below)))) }

  pub follow_room : (q ≡ 0 → ⊥) → q + 27 ≤ length a
  follow_room n = let v = f.some n in omega (arith, v.1, pointer_room goal v.2, goal.come)

  -- the first that is looked for is at q
  pub follow_cursor : (q ≡ 0 → ⊥) → Scan a end to (declared a) any q
  follow_cursor n =
      let v = f.some n in
      let x = v.0 in
      let y : Scan a end to (declared a) any x.at = record {
        count = x.count;
        prev = x.prev;
        tally = x.tally;
        way = v.2.way;
        goal = goal;
        ahead = ⊎_elim (λ l. l) (λ l. absurd (omega (arith, leads_le l, v.2.before))) (linear v.2.way goal.way);
        rest = λ p u. ⊎_elim (λ l. l) (λ l. met l (omega (arith, v.1, f.lowest p (bounded u u.before u.above (omega (arith, u.below)))))) (linear v.2.way u.way);
      } in
      rw v.1 at y

  pub follow_quiet : rising ≡ true → (q ≡ 0 → ⊥) → {due : ℕ} → due ≡ offset_at a q → Quiet a end to due any
  follow_quiet r n {due} h p u =
      let v = f.some n in
      let x = v.0 in
      let t : offset_at a x.at ≡ due = sym (h ∙ ap (offset_at a) (sym v.1)) in
      omega (arith, u.below, (k.order r).rise x p v.2 u (omega (arith, v.1, f.lowest p (bounded u u.before u.above (omega (arith, u.below, v.2.below))))))

-- ---- what is known of the pointers, from one record to the next
module _ {a : List ℕ} {i : ℕ} {w : Pointers} (kept : Kept a i w) where
  -- before i and before the last pointer's end are the same pointers
  pub ended : {lo hi k : ℕ} {q : Site} → Points a i lo hi k q → Points a w.end lo hi k q
  ended {q = q} p = record { way = p.way; sound = p.sound; ipr = p.ipr; before = kept.ends q p; above = p.above; below = p.below; unlike = p.unlike }

  pub widened : {lo hi k : ℕ} {q : Site} → Points a w.end lo hi k q → Points a i lo hi k q
  widened p = record { way = p.way; sound = p.sound; ipr = p.ipr; before = omega (arith, p.before, kept.within); above = p.above; below = p.below; unlike = p.unlike }

  -- what is found before the last pointer's end is found before i
  pub first_widened : {lo hi k u : ℕ} → FirstPointer a w.end lo hi k u → FirstPointer a i lo hi k u
  first_widened f = record {
    none = λ z q p. f.none z q (ended p);
    some = λ n. let v = f.some n in (v.0, v.1, widened v.2);
    lowest = λ q p. f.lowest q (ended p);
  }

-- the record at i is passed
module _ {a : List ℕ} {n i p : ℕ} {t : List ℕ} (way : Leads a first (site n i p t)) (sound : Sound a i) where
  abbrev end : ℕ
  end = i + size_at a i

  -- a pointer before the next record is one before this, or this
  pub before_or_at : {lo hi k : ℕ} {q : Site} → Points a end lo hi k q → Points a i lo hi k q ⊎ (q.at ≡ i)
  before_or_at {lo} {hi} {k} {q} w = go (dec_lt q.at i)
    where
      go : Dec (q.at < i) → Points a i lo hi k q ⊎ (q.at ≡ i)
      go (yes h) = inl (record { way = w.way; sound = w.sound; ipr = w.ipr; before = h; above = w.above; below = w.below; unlike = w.unlike })
      go (no h) = inr (⊎_elim (λ l. omega (arith, leads_le l)) (λ l. near l w.before) (linear w.way way))

  module _ {w v : Pointers} (kept : Kept a i w) (follows : Follows a w end v) (come : end ≤ length a) where
    -- a record that is no pointer leaves the pointers as they are
    pub kept_other : (class_at a i ≡ 3 → ⊥) → Kept a end v
    kept_other o = record {
      within = omega (arith, follows.end_is, kept.within);
      ends = λ q u. ⊎_elim (λ b. omega (arith, follows.end_is, kept.ends q b)) (λ e. absurd (o (sym (ap (class_at a) e) ∙ u.ipr))) (before_or_at u);
      cursor = rw follows.end_is follows.cursor;
      calm = quiet_calm (rw follows.end_is follows.quiet);
      order = λ r. rw (follows.end_is, follows.last_is) (kept.order (sym follows.rising_is ∙ r));
    }

    abbrev start : Started a end
    start = record { count = n + 1; prev = get_or a i 0; tally = one_more t (get_or a i 0); way = snoc way sound; come = come }

    to_end : {x : Site} → Leads a first x → x.at ≤ i → Leads a x (site n i p t)
    to_end l h = ⊎_elim (λ m. m) (λ m. met m h) (linear l way)

    module _ {u : Pointers} (o : class_at a i ≡ 3) (j : JoinedIs v end (offset_at a i) u) where
      it : (q : Site) → q.at ≡ i → offset_at a q.at ≡ offset_at a i
      it q e = ap (offset_at a) e

      joined_cursor : Scan a end end (declared a) any v.from
      joined_cursor =
          let s = follows.cursor in
          record {
            count = s.count;
            prev = s.prev;
            tally = s.tally;
            way = s.way;
            goal = start;
            ahead = snoc (to_end s.way (omega (arith, leads_le s.ahead, kept.within))) sound;
            rest = λ q b. ⊎_elim (λ c. s.rest q (ended kept c)) (λ e. ⊎_elim (λ m. m) (λ m. met m (omega (arith, leads_le s.ahead, kept.within))) (linear s.way b.way)) (before_or_at b);
          }

      joined_order : u.rising ≡ true → Order a end (offset_at a i)
      joined_order r = record { rising = record { rise = λ x y b c h. rise x y b c h }; top = λ q b. top q b }
        where
          old : Order a w.end w.last
          old = kept.order (sym follows.rising_is ∙ (j.still r).0)

          le : w.last ≤ offset_at a i
          le = omega (arith, follows.last_is, (j.still r).1)

          top : {lo hi : ℕ} (q : Site) → Points a end lo hi any q → offset_at a q.at ≤ offset_at a i
          top q b = ⊎_elim (λ c. omega (arith, le, old.top q (ended kept c))) (λ e. omega (arith, it q e)) (before_or_at b)

          rise : {lo hi lo' hi' : ℕ} (x y : Site) → Points a end lo hi any x → Points a end lo' hi' any y → x.at ≤ y.at → offset_at a x.at ≤ offset_at a y.at
          rise x y b c h =
              ⊎_elim (λ b'. ⊎_elim (λ c'. old.rising.rise x y (ended kept b') (ended kept c') h) (λ e. omega (arith, it y e, le, old.top x (ended kept b'))) (before_or_at c))
              (λ e. ⊎_elim (λ c'. absurd (omega (arith, c'.before))) (λ f. omega (arith, it x e, it y f)) (before_or_at c)) (before_or_at b)

      -- a pointer record joins them
      pub kept_pointer : Kept a end u
      kept_pointer = record {
        within = omega (arith, j.end_is);
        ends = λ q b. omega (arith, j.end_is, b.before);
        cursor = rw (j.end_is, j.from_is) joined_cursor;
        calm = quiet_calm (rw j.end_is (λ q b. ⊎_elim (λ c. follows.quiet q (bounded (ended kept c) (ended kept c).before c.above (omega (arith, c.below, j.sooner)))) (λ e. omega (arith, it q e, b.below, j.soon)) (before_or_at b)));
        order = λ r. rw (j.end_is, j.last_is) (joined_order r);
      }

-- ---- what a settling asks
pub searching : {a : List ℕ} {w : Pointers} {i to d : ℕ} → Settling a w i to d → {lo hi : ℕ} → i ≤ lo → hi ≤ d → Search a w.from w.end w.rising lo hi
searching k l h = record { cursor = scan_narrow l (omega (arith, k.d_is)) k.kept.cursor; order = λ r. (k.kept.order r).rising }

-- nothing is due: no pointer tells against the record, and they stay as they are
pub clear_still : {a : List ℕ} {w : Pointers} {i to d : ℕ} → Settling a w i to d → to ≤ w.due → ClearIs a w i to w
clear_still k h =
    let c = k.kept.calm in
    record {
      inside = quiet_narrow (le_refl _) h c.inside;
      other = c.other (omega (arith, k.least));
      follows = record { quiet = quiet_narrow (omega (arith, k.least)) (le_refl _) c.inside; cursor = scan_narrow (omega (arith, k.least)) (le_refl _) k.kept.cursor; end_is = refl; last_is = refl; rising_is = refl };
    }

pub of_kind : {a : List ℕ} {e lo hi k k' u : ℕ} → k ≡ k' → FirstPointer a e lo hi k u → FirstPointer a e lo hi k' u
of_kind e f = rw e at f

-- ---- the pointer at the cursor names the record, and the next record is a pointer further on: two looks are each of the searches
-- the record after a pointer at i has come as far as it is looked at
pub looking_next : {a : List ℕ} {e i hi q : ℕ} → Scan a e i hi any q → class_at a q ≡ 3 → offset_at a q ≡ i → q + 27 < e → Looking a (q + 27)
looking_next {i = i} s o t h =
    let g = scan_narrow {lo' = i + 1} (omega arith) (le_refl _) s in
    looking (scan_pass {k = any} g (omega arith) (λ m. omega (arith, m.above)) 27 (scan_ipr s (omega arith) o)) h

module _ {a : List ℕ} {w : Pointers} {i to d r : ℕ} (k : Settling a w i to d) (n : NextIs a w i to r) where
  abbrev kept_cursor : Scan a w.end i (declared a) any w.from
  kept_cursor = k.kept.cursor

  rises : Rising a w.end
  rises = (k.kept.order n.rises).rising

  inside : w.from < w.end
  inside = omega (arith, n.place, n.before)

  at_cursor : Points a w.end i (declared a) any (spot kept_cursor)
  at_cursor = met_here kept_cursor inside (record { ipr = n.names.ipr; above = omega (arith, n.names.target); below = omega (arith, n.names.target, k.least, k.most, k.d_is); unlike = λ u. absurd (omega arith) })

  -- whatever the bound: no pointer before the cursor points past D, since the one at the cursor does not
  wide_cursor : {hi : ℕ} → Scan a w.end i hi any w.from
  wide_cursor = record {
    count = kept_cursor.count;
    prev = kept_cursor.prev;
    tally = kept_cursor.tally;
    way = kept_cursor.way;
    goal = kept_cursor.goal;
    ahead = kept_cursor.ahead;
    rest = λ p u. ⊎_elim (λ l. l) (λ l. kept_cursor.rest p (bounded u u.before u.above (omega (arith, at_cursor.below, rises.rise p (spot kept_cursor) u at_cursor (leads_le l))))) (linear kept_cursor.way u.way);
  }

  passed : {lo hi j : ℕ} → i ≤ lo → (Met a w.from lo hi j → ⊥) → Scan a w.end lo hi j r
  passed l nay = rw n.place (scan_pass (scan_narrow l (le_refl _) wide_cursor) inside nay 27 (scan_ipr kept_cursor inside n.names.ipr))

  two_looks : {lo hi j : ℕ} → i ≤ lo → hi ≤ offset_at a r → (Met a w.from lo hi j → ⊥) → Quiet a w.end lo hi j
  two_looks l h nay = (scan_stop (passed l nay) rises n.before n.ipr h).none refl

  past : {lo hi : ℕ} → i < lo → Met a w.from lo hi any → ⊥
  past l m = omega (arith, m.above, n.names.target)

  after : Scan a w.end to (declared a) any r
  after = passed (omega (arith, k.least)) (past (omega (arith, k.least)))

  pub next_room : r + 27 ≤ length a
  next_room = (looking after n.before).ipr n.ipr

  pub clear_next : {due : ℕ} → due ≡ offset_at a r → ClearIs a w i to (record { end = w.end; due = due; from = r; last = w.last; rising = w.rising })
  clear_next e = record {
    inside = two_looks (omega arith) n.over (past (omega arith));
    other = two_looks (le_refl _) (omega (arith, n.over, k.least)) (λ m. m.unlike n.small n.names.kind);
    follows = record {
      quiet = rw e (two_looks (omega (arith, k.least)) (le_refl _) (past (omega (arith, k.least))));
      cursor = after;
      end_is = refl;
      last_is = refl;
      rising_is = refl;
    };
  }
