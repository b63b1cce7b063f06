-- THE ROWS OF A RECORD ARE THE TABLE'S: each row of the list at x is that of what is wrong at x, and what is wrong there has its row in the list, where the
-- sites that are looked through are those on the way. Row by row. Assumes nothing.
use Prim.Native.Nat.{ℕ, zero, suc, ◌+◌, ◌≤◌, ◌<◌}
use native.Mathlib.Decide.{ℕ_discrete}
use native.Mathlib.Omega.{arith}
use mathlib.Core.Path.{◌≡◌, sym}
use mathlib.Core.Bool.{Bool, true, not, ◌&&◌}
use mathlib.Core.Logic.{◌⊎◌, inl, inr}
use mathlib.Core.List.Memᴰ.{append_cases as parted}
use mathlib.Core.List.Memᴰ.{append_left as left}
use mathlib.Core.List.Memᴰ.{append_right as right}
use mathlib.Core.List.{List, ◌++◌, Memᴰ as In}
use borrow.Author.Tests.{leb-true, le-leb, ltb-true, lt-ltb, eqb-true, eqb-false, eq-eqb, ne_eqb}
use lib.Dec.{eqb, leb, ltb}
use lib.ListN.{get_or}
use Rattle.tables.specs.Table.{Row, fault}
use Rattle.record.specs.Header.{is_class, is_group}
use Rattle.record.specs.Follow.{may_follow}
use Rattle.record.specs.Times.{timed_at}
use Rattle.mphr.specs.Table.{declared, total}
use Rattle.judge.specs.Table.{Site, first, class_at, kind_at, size_at, aim_at, offset_at, Leads, Pointer, Wrong, part_left, unknown, misplaced, bad_size, bad_times, surplus, bad_target, points_inside, points_at_other, too_few, row_at}
use Rattle.arrivals.specs.Computed.{when, each, is_sound, is_target, aims_from, pointer_rows, fewer, record_rows}
use Rattle.arrivals.proofs.Lists.{both, together, not_so, so_not, one_of, either, in_when, when_in, in_each, each_in}
use Rattle.arrivals.proofs.Walks.{sound_is, sound_test, unsound_is, unsound_test, target_is, target_test, untarget_is, untarget_test}

-- one of the classes has fewer
fewer_test : (a t : List ℕ) (n c : ℕ) → 1 ≤ c → c ≤ n → get_or t c 0 < total a c → fewer a t n ≡ true
fewer_test a t zero c h k l = absurd (omega arith)
fewer_test a t (suc n) c h k l = go (ℕ_discrete c (suc n)) (λ m. fewer_test a t n c h m l)
  where
    go : Dec (c ≡ suc n) → (c ≤ n → fewer a t n ≡ true) → fewer a t (suc n) ≡ true
    go (yes e) f = either (ltb (get_or t (suc n) 0) (total a (suc n))) (fewer a t n) (inl (lt-ltb _ _ (rw e at l)))
    go (no d) f = either (ltb (get_or t (suc n) 0) (total a (suc n))) (fewer a t n) (inr (f (omega (arith, d))))

record Short (a t : List ℕ) (n : ℕ) : Type 0 where
  class : ℕ
  low : 1 ≤ class
  high : class ≤ n
  less : get_or t class 0 < total a class

fewer_is : (a t : List ℕ) (n : ℕ) → fewer a t n ≡ true → Short a t n
fewer_is a t zero e = absurd (let z : ◌≡◌ {A = ℕ} 0 1 = cc in omega arith)
fewer_is a t (suc n) e = go (one_of (ltb (get_or t (suc n) 0) (total a (suc n))) (fewer a t n) e) (fewer_is a t n)
  where
    go : (ltb (get_or t (suc n) 0) (total a (suc n)) ≡ true) ⊎ (fewer a t n ≡ true) → (fewer a t n ≡ true → Short a t n) → Short a t (suc n)
    go (inl l) f = record { class = suc n; low = omega arith; high = omega arith; less = ltb-true _ _ l }
    go (inr l) f = let s = f l in record { class = s.class; low = s.low; high = omega (arith, s.high); less = s.less }

module _ (a : List ℕ) (l : List Site) (x : Site) where
  abbrev head : Bool
  head = leb (x.at + 20) (declared a)

  abbrev known : Bool
  known = is_class (class_at a x.at)

  abbrev s6 : List Row
  s6 = when (ltb x.at (declared a) && ltb (declared a) (x.at + 20)) (fault 6 x.at x.at)

  abbrev s7 : List Row
  s7 = when (head && not (known && is_group (get_or a (x.at + 1) 0))) (fault 7 x.at (x.at + 20))

  abbrev s8 : List Row
  s8 = when (head && (is_class x.prev && (known && not (may_follow x.prev (class_at a x.at))))) (fault 8 x.at (x.at + 20))

  abbrev s9 : List Row
  s9 = when (head && not (is_sound a x.at)) (fault 9 x.at (x.at + 20))

  abbrev s10 : List Row
  s10 = when (head && not (timed_at a x.at)) (fault 10 x.at (x.at + 20))

  abbrev s11 : List Row
  s11 = when (head && (known && ltb (total a (class_at a x.at)) (get_or x.tally (class_at a x.at) 0 + 1))) (fault 11 x.at (x.at + 20))

  abbrev s12 : List Row
  s12 = when (is_sound a x.at && (eqb (class_at a x.at) 3 && not (is_target a x.at))) (fault 12 x.at (x.at + 27))

  abbrev s15 : List Row
  s15 = when (eqb x.at (declared a) && fewer a x.tally 8) (fault 15 x.at x.at)

  abbrev sp : List Row
  sp = each (pointer_rows a x) l

  abbrev from12 : List Row
  from12 = s12 ++ (s15 ++ sp)

  abbrev from10 : List Row
  from10 = s10 ++ (s11 ++ from12)

  abbrev from8 : List Row
  from8 = s8 ++ (s9 ++ from10)

  -- ---- what is wrong has its row
  aims_test : (q : Site) → Pointer a q → x.at + 20 ≤ declared a → q.at < x.at → aims_from a x q ≡ true
  aims_test q p h b = together (together (sound_test a q.at p.sound) (together (eq-eqb _ _ p.ipr) (target_test a q.at p.target))) (together (le-leb _ _ h) (lt-ltb _ _ b))

  pub in_record : ((q : Site) → Leads a first q → q.at < x.at → In q l) → (w : Wrong a x) → In (row_at w) (record_rows a l x)
  unfolding record_rows
  in_record f (part_left u v) = left (s7 ++ from8) (in_when (together (lt-ltb _ _ u) (lt-ltb _ _ v)))
  in_record f (unknown h u) = right s6 (left from8 (in_when (together (le-leb _ _ h) (so_not _ u))))
  in_record f (misplaced h m) = right s6 (right s7 (left (s9 ++ from10) (in_when (together (le-leb _ _ h) (together m.before (together m.known (so_not _ m.against)))))))
  in_record f (bad_size h n) = right s6 (right s7 (right s8 (left from10 (in_when (together (le-leb _ _ h) (so_not _ (unsound_test a x.at n)))))))
  in_record f (bad_times h t) = right s6 (right s7 (right s8 (right s9 (left (s11 ++ from12) (in_when (together (le-leb _ _ h) (so_not _ t)))))))
  in_record f (surplus h s) = right s6 (right s7 (right s8 (right s9 (right s10 (left from12 (in_when (together (le-leb _ _ h) (together s.known (lt-ltb _ _ s.over)))))))))
  in_record f (bad_target s c n) = right s6 (right s7 (right s8 (right s9 (right s10 (right s11 (left (s15 ++ sp) (in_when (together (sound_test a x.at s) (together (eq-eqb _ _ c) (so_not _ (untarget_test a x.at n)))))))))))
  in_record f (too_few e c h k u) = right s6 (right s7 (right s8 (right s9 (right s10 (right s11 (right s12 (left sp (in_when (together (eq-eqb _ _ e) (fewer_test a x.tally 8 c h k u))))))))))
  in_record f (points_inside q p h b u v) =
      right s6 (right s7 (right s8 (right s9 (right s10 (right s11 (right s12 (right s15 (in_each (pointer_rows a x) l (f q p.way b) (left (when (aims_from a x q && (eqb (offset_at a q.at) x.at && not (eqb (aim_at a q.at) (kind_at a x.at)))) (fault 14 q.at (x.at + 20))) (in_when (together (aims_test q p h b) (together (lt-ltb _ _ u) (lt-ltb _ _ v)))))))))))))
  in_record f (points_at_other q p h b e n) =
      right s6 (right s7 (right s8 (right s9 (right s10 (right s11 (right s12 (right s15 (in_each (pointer_rows a x) l (f q p.way b) (right (when (aims_from a x q && (ltb x.at (offset_at a q.at) && ltb (offset_at a q.at) (x.at + size_at a x.at))) (fault 13 q.at (x.at + 20))) (in_when (together (aims_test q p h b) (together (eq-eqb _ _ e) (so_not _ (ne_eqb _ _ n))))))))))))))

  -- ---- each row is of what is wrong
  pub record WrongOf (r : Row) : Type 0 where
    pub wrong : Wrong a x
    pub is : row_at wrong ≡ r

  record Aimed (q : Site) : Type 0 where
    pointer : Pointer a q
    room : x.at + 20 ≤ declared a
    before : q.at < x.at

  aims_is : (q : Site) → Leads a first q → aims_from a x q ≡ true → Aimed q
  aims_is q w e =
      let p = both (is_sound a q.at && (eqb (class_at a q.at) 3 && is_target a q.at)) _ e in
      let s = both (is_sound a q.at) _ p.0 in
      let t = both (eqb (class_at a q.at) 3) _ s.1 in
      let h = both (leb (x.at + 20) (declared a)) _ p.1 in
      record { pointer = record { way = w; sound = sound_is a q.at s.0; ipr = eqb-true _ _ t.0; target = target_is a q.at t.1 }; room = leb-true _ _ h.0; before = ltb-true _ _ h.1 }

  pointed : (q : Site) → Leads a first q → (r : Row) → In r (pointer_rows a x q) → WrongOf r
  pointed q w r m = go (parted (when (aims_from a x q && (ltb x.at (offset_at a q.at) && ltb (offset_at a q.at) (x.at + size_at a x.at))) (fault 13 q.at (x.at + 20))) m)
    where
      go : In r (when (aims_from a x q && (ltb x.at (offset_at a q.at) && ltb (offset_at a q.at) (x.at + size_at a x.at))) (fault 13 q.at (x.at + 20))) ⊎ In r (when (aims_from a x q && (eqb (offset_at a q.at) x.at && not (eqb (aim_at a q.at) (kind_at a x.at)))) (fault 14 q.at (x.at + 20))) → WrongOf r
      go (inl m) =
          let p = when_in _ (fault 13 q.at (x.at + 20)) r m in
          let b = both (aims_from a x q) _ p.0 in
          let o = both (ltb x.at (offset_at a q.at)) _ b.1 in
          let i = aims_is q w b.0 in
          record { wrong = points_inside q i.pointer i.room i.before (ltb-true _ _ o.0) (ltb-true _ _ o.1); is = sym p.1 }
      go (inr m) =
          let p = when_in _ (fault 14 q.at (x.at + 20)) r m in
          let b = both (aims_from a x q) _ p.0 in
          let o = both (eqb (offset_at a q.at) x.at) _ b.1 in
          let i = aims_is q w b.0 in
          record { wrong = points_at_other q i.pointer i.room i.before (eqb-true _ _ o.0) (eqb-false _ _ (not_so _ o.1)); is = sym p.1 }

  -- the tests of each row
  of_6 : (r : Row) → In r s6 → WrongOf r
  of_6 r m =
      let p = when_in (ltb x.at (declared a) && ltb (declared a) (x.at + 20)) (fault 6 x.at x.at) r m in
      let b = both (ltb x.at (declared a)) _ p.0 in
      record { wrong = part_left (ltb-true _ _ b.0) (ltb-true _ _ b.1); is = sym p.1 }

  of_7 : (r : Row) → In r s7 → WrongOf r
  of_7 r m =
      let p = when_in (head && not (known && is_group (get_or a (x.at + 1) 0))) (fault 7 x.at (x.at + 20)) r m in
      let b = both head _ p.0 in
      record { wrong = unknown (leb-true _ _ b.0) (not_so _ b.1); is = sym p.1 }

  of_8 : (r : Row) → In r s8 → WrongOf r
  of_8 r m =
      let p = when_in (head && (is_class x.prev && (known && not (may_follow x.prev (class_at a x.at))))) (fault 8 x.at (x.at + 20)) r m in
      let b = both head _ p.0 in
      let c = both (is_class x.prev) _ b.1 in
      let d = both known _ c.1 in
      record { wrong = misplaced (leb-true _ _ b.0) (record { before = c.0; known = d.0; against = not_so _ d.1 }); is = sym p.1 }

  of_9 : (r : Row) → In r s9 → WrongOf r
  of_9 r m =
      let p = when_in (head && not (is_sound a x.at)) (fault 9 x.at (x.at + 20)) r m in
      let b = both head _ p.0 in
      record { wrong = bad_size (leb-true _ _ b.0) (unsound_is a x.at (not_so _ b.1)); is = sym p.1 }

  of_10 : (r : Row) → In r s10 → WrongOf r
  of_10 r m =
      let p = when_in (head && not (timed_at a x.at)) (fault 10 x.at (x.at + 20)) r m in
      let b = both head _ p.0 in
      record { wrong = bad_times (leb-true _ _ b.0) (not_so _ b.1); is = sym p.1 }

  of_11 : (r : Row) → In r s11 → WrongOf r
  of_11 r m =
      let p = when_in (head && (known && ltb (total a (class_at a x.at)) (get_or x.tally (class_at a x.at) 0 + 1))) (fault 11 x.at (x.at + 20)) r m in
      let b = both head _ p.0 in
      let c = both known _ b.1 in
      record { wrong = surplus (leb-true _ _ b.0) (record { known = c.0; over = ltb-true _ _ c.1 }); is = sym p.1 }

  of_12 : (r : Row) → In r s12 → WrongOf r
  of_12 r m =
      let p = when_in (is_sound a x.at && (eqb (class_at a x.at) 3 && not (is_target a x.at))) (fault 12 x.at (x.at + 27)) r m in
      let b = both (is_sound a x.at) _ p.0 in
      let c = both (eqb (class_at a x.at) 3) _ b.1 in
      record { wrong = bad_target (sound_is a x.at b.0) (eqb-true _ _ c.0) (untarget_is a x.at (not_so _ c.1)); is = sym p.1 }

  of_15 : (r : Row) → In r s15 → WrongOf r
  of_15 r m =
      let p = when_in (eqb x.at (declared a) && fewer a x.tally 8) (fault 15 x.at x.at) r m in
      let b = both (eqb x.at (declared a)) _ p.0 in
      let s = fewer_is a x.tally 8 b.1 in
      record { wrong = too_few (eqb-true _ _ b.0) s.class s.low s.high s.less; is = sym p.1 }

  of_pointers : ((q : Site) → In q l → Leads a first q) → (r : Row) → In r sp → WrongOf r
  of_pointers f r m = let y = each_in (pointer_rows a x) l r m in pointed y.one (f y.one y.there) r y.row

  pub record_in : ((q : Site) → In q l → Leads a first q) → (r : Row) → In r (record_rows a l x) → WrongOf r
  unfolding record_rows
  record_in f r m = go6 (parted s6 m)
    where
      go15 : In r s15 ⊎ In r sp → WrongOf r
      go15 (inl m) = of_15 r m
      go15 (inr m) = of_pointers f r m

      go12 : In r s12 ⊎ In r (s15 ++ sp) → WrongOf r
      go12 (inl m) = of_12 r m
      go12 (inr m) = go15 (parted s15 m)

      go11 : In r s11 ⊎ In r from12 → WrongOf r
      go11 (inl m) = of_11 r m
      go11 (inr m) = go12 (parted s12 m)

      go10 : In r s10 ⊎ In r (s11 ++ from12) → WrongOf r
      go10 (inl m) = of_10 r m
      go10 (inr m) = go11 (parted s11 m)

      go9 : In r s9 ⊎ In r from10 → WrongOf r
      go9 (inl m) = of_9 r m
      go9 (inr m) = go10 (parted s10 m)

      go8 : In r s8 ⊎ In r (s9 ++ from10) → WrongOf r
      go8 (inl m) = of_8 r m
      go8 (inr m) = go9 (parted s9 m)

      go7 : In r s7 ⊎ In r from8 → WrongOf r
      go7 (inl m) = of_7 r m
      go7 (inr m) = go8 (parted s8 m)

      go6 : In r s6 ⊎ In r (s7 ++ from8) → WrongOf r
      go6 (inl m) = of_6 r m
      go6 (inr m) = go7 (parted s7 m)
