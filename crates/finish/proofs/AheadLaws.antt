-- THE LAW OF THE WALK: the records of a complete product start where its sizes lead, from byte 0 to its end; where a byte is left there is one record, and
-- the walk goes on after it; and it is one. The rows, the listing and a profile go by it. Assumes nothing.
use Prim.Native.Nat.{ℕ, ◌+◌, ◌≤◌, ◌<◌}
use native.Mathlib.Omega.{arith}
use mathlib.Core.Path.{◌≡◌, refl, ap, ◌∙◌}
use mathlib.Core.Bool.{Bool, true, false, ◌&&◌}
use mathlib.Core.List.{List, [], ◌∷◌}
use borrow.Author.Tests.{leb-true, eqb-true}
use lib.Dec.{eqb, leb}
use lib.ListN.{length, get_or}
use Rattle.meter.specs.Integer.{be_at}
use Rattle.record.specs.Header.{size_there, is_class, is_group}
use Rattle.record.proofs.HeaderLaws.{size_there_lem}
use Rattle.record.proofs.FieldLaws.{both}
use Rattle.mphr.specs.Table.{headed, declared, bad_header}
use Rattle.judge.specs.Table.{Site, first, class_at, size_at, Leads, here, on, unknown, at}
use Rattle.judge.specs.Extent.{Complete, Covered}
use Rattle.judge.proofs.WayLaws.{leads_le, snoc}
use Rattle.judge.proofs.Covering.{complete_fine, whole_come, head_here, sound_here}
use Rattle.finish.specs.Finish.{starts}
use Rattle.finish.specs.Ahead.{Record, Ahead, none, more}
use Rattle.finish.specs.Rows.{group_at, subclass_at}

-- ---- a turn
pub record Turn (a l : List ℕ) (i : ℕ) : Type 0 where
  pub rest : List ℕ
  pub is : l ≡ i ∷ rest
  pub here : Record a i
  pub on : Ahead a (i + size_at a i) rest

pub ahead_step : {a l : List ℕ} {i : ℕ} → Ahead a i l → i < length a → Turn a l i
ahead_step (none h) g = absurd (omega arith)
ahead_step (more {l = m} r n) g = record { rest = m; is = refl; here = r; on = n }

pub ahead_stop : {a l : List ℕ} {i : ℕ} → Ahead a i l → length a ≤ i → l ≡ []
ahead_stop (none h) g = refl
ahead_stop (more r n) g = absurd (omega (arith, r.least, r.most))

pub record_here : {a l : List ℕ} {i : ℕ} → Ahead a i l → i < length a → Record a i
record_here w h = (ahead_step w h).here

-- the size that is read there
pub there : {a : List ℕ} {i : ℕ} → Record a i → size_there a i ≡ size_at a i
there {a} {i} r = size_there_lem a i (omega (arith, r.least, r.most))

-- one walk at most starts at a byte
pub one_ahead : {a l m : List ℕ} {i : ℕ} → Ahead a i l → Ahead a i m → l ≡ m
one_ahead (none h) (none g) = refl
one_ahead (none h) (more r n) = absurd (omega (arith, r.least, r.most))
one_ahead (more r n) (none h) = absurd (omega (arith, r.least, r.most))
one_ahead {i = i} (more r n) (more s m) = ap (λ (l : List ℕ). i ∷ l) (one_ahead n m)

-- ---- the records of a product
module _ {a : List ℕ} (k : Complete a) where
  known_kind : {x : Site} → Leads a first x → x.at < declared a → (1 ≤ class_at a x.at) × (class_at a x.at ≤ 8) × (is_group (group_at a x.at) ≡ true)
  unfolding is_class
  known_kind {x} w h = let p = both (is_class (class_at a x.at)) (is_group (group_at a x.at)) (go (is_class (class_at a x.at) && is_group (group_at a x.at)) refl) in
      let q = both (leb 1 (class_at a x.at)) (leb (class_at a x.at) 8) p.0 in
      (leb-true 1 (class_at a x.at) q.0, leb-true (class_at a x.at) 8 q.1, p.1)
    where
      go : (b : Bool) → is_class (class_at a x.at) && is_group (group_at a x.at) ≡ b → is_class (class_at a x.at) && is_group (group_at a x.at) ≡ true
      go true e = e
      go false e = absurd (k.clean (at (complete_fine k) x w (unknown (head_here k w h) e)) (omega (arith, whole_come k, head_here k w h)))

  stands_here : {x : Site} → Leads a first x → x.at < declared a → Record a x.at
  stands_here w h =
      let s = sound_here k w h in
      let q = known_kind w h in
      record { least = s.least; most = omega (arith, s.most, whole_come k); one = q.0; eight = q.1; grouped = q.2 }

  ahead : {x y : Site} → Leads a first x → (l : Leads a x y) → y.at ≡ declared a → Ahead a x.at (starts l)
  ahead {x} w here e = none {i = x.at} (omega (arith, whole_come k))
  ahead w (on s l) e = more (stands_here w (omega (arith, s.least, leads_le l))) (ahead (snoc w s) l e)

  main_headed : headed a ≡ true
  main_headed = go (headed a) refl
    where
      go : (b : Bool) → headed a ≡ b → headed a ≡ true
      go true e = e
      go false e = absurd (complete_fine k (bad_header e) (omega arith))

  main_parts : (class_at a 0 ≡ 1) × (group_at a 0 ≡ 0) × (subclass_at a 0 ≡ 0) × (size_at a 0 ≡ 3307)
  unfolding headed
  main_parts =
      let p = both (eqb (get_or a 0 0) 1 && (eqb (get_or a 1 0) 0 && eqb (get_or a 2 0) 0)) (eqb (be_at a 4 4) 3307) main_headed in
      let q = both (eqb (get_or a 0 0) 1) (eqb (get_or a 1 0) 0 && eqb (get_or a 2 0) 0) p.0 in
      let r = both (eqb (get_or a 1 0) 0) (eqb (get_or a 2 0) 0) q.1 in
      (eqb-true (get_or a 0 0) 1 q.0, eqb-true (get_or a 1 0) 0 r.0, eqb-true (get_or a 2 0) 0 r.1, eqb-true (be_at a 4 4) 3307 p.1)

  zero_group : is_group 0 ≡ true
  unfolding is_group
  zero_group = refl

  pub all_ahead : {c : ℕ} (v : Covered a c) → Ahead a 0 (0 ∷ starts v.way)
  all_ahead v =
      let m = main_parts in
      let r : Record a 0 = record { least = omega (arith, m.3); most = omega (arith, m.3, k.header); one = omega (arith, m.0); eight = omega (arith, m.0); grouped = ap is_group m.1 ∙ zero_group } in
      let e : 0 + size_at a 0 ≡ 3307 = omega (arith, m.3) in
      let n : Ahead a (0 + size_at a 0) (starts v.way) = rw e (ahead here v.way v.ends) in
      more r n

  -- the same after the main header
  pub ahead_first : {c : ℕ} (v : Covered a c) → Ahead a 3307 (starts v.way)
  ahead_first v = ahead here v.way v.ends
