-- The sections, record by record: a record adds its bytes to its own section and to no other, and after the first MDR there are only MDRs; their first start
-- and last stop, record by record too. Assumes nothing.
use Prim.Native.Nat.{ℕ, ◌+◌, ◌≤◌, ◌<◌}
use native.Mathlib.Decide.{ℕ_discrete}
use native.Mathlib.Omega.{arith}
use mathlib.Core.Path.{◌≡◌, refl, sym, ap, subst, ◌∙◌}
use mathlib.Core.Bool.{Bool, true, false}
use mathlib.Core.Logic.{inl, inr, ⊎_elim}
use mathlib.Core.List.Memᴰ.{head as top}
use mathlib.Core.List.Memᴰ.{tail as pop}
use mathlib.Core.List.{List, [], ◌∷◌, ◌++◌, append-nil, Memᴰ as In}
use borrow.Author.Tests.{eq-eqb, ne_eqb, le-leb, lt-leb}
use lib.Dec.{eqb}
use lib.ListN.{length, get_or}
use Rattle.meter.specs.Integer.{be_at}
use Rattle.meter.specs.Time.{time_at}
use Rattle.std.specs.declared.option.Option.TheVariants.{None}
use Rattle.std.specs.declared.option.Option.{Option}
use Rattle.meter.specs.declared.time.Time.{Time}
use Rattle.meter.specs.Instant as T
use Rattle.demands.specs.Product.{class, size}
use Rattle.parts.specs.Parts.{bytes, Follows}
use Rattle.parts.specs.Only.{only, is_in, is_sphr, is_global, is_variable, is_mdr}
use Rattle.parts.specs.Pass.{last_of, first_start_from, last_stop_from, first_defined_start, last_defined_stop}
use Rattle.parts.specs.Walk.{Walk}
use Rattle.parts.proofs.HeaderLaws.{follows_classes}
use Rattle.record.specs.Follow.{first_after, may_follow}
use Rattle.parts.proofs.FollowLaws.{follow_parts}
use Rattle.parts.proofs.OnlyLaws.{only_append, only_none, only_all}
use Rattle.parts.proofs.WalkLaws.{Next, next, walk_next, walk_none, ahead_size, ahead_class, one_walk}
use Rattle.rewrite.specs.declared.sections.Sections.{Sections}
use Rattle.rewrite.specs.Keeping.{Lead}
use Rattle.rewrite.specs.Sectioning.{Left, FirstStartIs, LastStopIs, stop_at, LaterIs, Stopping, PartsOf, SectionsAre, Sectioning, FirstMdr, Sectionable, Sectioned}
use Rattle.rewrite.proofs.KeepLaws.{lead_there, start_there, stop_there}
use Rattle.rewrite.proofs.SurveyLaws.{none_taken, one_taken, bytes_snoc, Step, step}

-- ---- the first start and the last stop of what is left
undefined_at : (a : List ℕ) (i : ℕ) → eqb (be_at a i 6) 281474976710655 ≡ true → time_at a i ≡ None
undefined_at a i e = rw e refl

defined_last : (t : Option Time) (a : List ℕ) (i : ℕ) → eqb (be_at a i 6) 281474976710655 ≡ false → last_of t (time_at a i) ≡ time_at a i
defined_last t a i e = rw e refl

start_kept : (d m : ℕ) (rs : List (List ℕ)) → first_start_from (T.At d m) rs ≡ T.At d m
start_kept d m [] = refl
start_kept d m (r ∷ rs) = start_kept d m rs

-- those from byte i on have the first start of those from byte j on
pub record Starting (a : List ℕ) (i j : ℕ) : Type 0 where
  pub left : Left a j
  pub same : (rs : List (List ℕ)) → Walk a i rs → first_start_from None rs ≡ first_start_from None left.records

module _ {a : List ℕ} {i : ℕ} (l : Left a i) where
  one_left : (rs : List (List ℕ)) → Walk a i rs → rs ≡ l.records
  one_left rs w = one_walk rs l.records w l.walk

  pub start_first : Starting a i i
  start_first = record { left = l; same = λ rs w. ap (first_start_from None) (one_left rs w) }

  pub stop_first : (p : ℕ) → 3307 ≤ i → p + 20 ≤ length a → Stopping a i p i p
  stop_first p h c = record { after = record { left = l; head = h; come = c }; same = λ rs w. ap (last_stop_from (stop_at a p)) (one_left rs w) }

  -- the record at byte i, where one is left
  module _ (h : i < length a) where
    pub left_come : i + 20 ≤ length a
    left_come = go (walk_next l.walk h)
      where
        go : {rs : List (List ℕ)} → Next a i rs → i + 20 ≤ length a
        go (next k w) = omega (arith, k.own.least, k.most)

    pub left_least : 20 ≤ size a i
    left_least = go (walk_next l.walk h)
      where
        go : {rs : List (List ℕ)} → Next a i rs → 20 ≤ size a i
        go (next k w) = omega (arith, k.own.least, ahead_size k)

    pub left_most : i + size a i ≤ length a
    left_most = go (walk_next l.walk h)
      where
        go : {rs : List (List ℕ)} → Next a i rs → i + size a i ≤ length a
        go (next k w) = omega (arith, k.most, ahead_size k)

-- what is left after the record at byte i
record After (a : List ℕ) (i n : ℕ) (rs : List (List ℕ)) : Type 0 where
  pub left : Left a (i + n)
  pub start : time_at a (i + 8) ≡ None → first_start_from None rs ≡ first_start_from None left.records
  pub found : (d m : ℕ) → time_at a (i + 8) ≡ T.At d m → first_start_from None rs ≡ T.At d m
  pub stop : (t : Option Time) → last_stop_from t rs ≡ last_stop_from (last_of t (time_at a (i + 14))) left.records

after : {a : List ℕ} {i n : ℕ} {rs : List (List ℕ)} → length a ≤ 2147483647 → n ≡ size a i → Next a i rs → After a i n rs
after {a} {i} {n} small e (next {r = r} {rs = rs} k w) = record {
  left = record { small = small; records = rs; walk = subst (λ (j : ℕ). Walk a (i + j) rs) (sym (e ∙ ahead_size k)) w };
  start = λ u. ap (λ (t : Option Time). first_start_from t rs) (sym (start_there k) ∙ u);
  found = λ d m u. ap (λ (t : Option Time). first_start_from t rs) (sym (start_there k) ∙ u) ∙ start_kept d m rs;
  stop = λ t. ap (λ (u : Option Time). last_stop_from (last_of t u) rs) (sym (stop_there k));
}

module _ {a : List ℕ} {i j : ℕ} (s : Starting a i j) where
  pub start_next : (n : ℕ) → j < length a → n ≡ size a j → time_at a (j + 8) ≡ None → Starting a i (j + n)
  start_next n h e u =
      let o = after s.left.small e (walk_next s.left.walk h) in
      record { left = o.left; same = λ rs w. s.same rs w ∙ o.start u }

  pub start_found : (t : Option Time) (d m : ℕ) → j < length a → t ≡ time_at a (j + 8) → t ≡ T.At d m → FirstStartIs a i t
  start_found t d m h e u rs w = u ∙ sym (s.same rs w ∙ (after {n = size a j} s.left.small refl (walk_next s.left.walk h)).found d m (sym e ∙ u))

  pub start_none : length a ≤ j → FirstStartIs a i None
  start_none h rs w = sym (s.same rs w ∙ ap (first_start_from None) (walk_none s.left.walk h))

module _ {a : List ℕ} {i p j q : ℕ} (s : Stopping a i p j q) where
  pub stop_next : (r n : ℕ) → j < length a → n ≡ size a j → LaterIs a q j r → Stopping a i p (j + n) r
  stop_next r n h e d =
      let o = after s.after.left.small e (walk_next s.after.left.walk h) in
      record {
        after = record { left = o.left; head = omega (arith, s.after.head); come = ⊎_elim (λ e. omega (arith, s.after.come)) (λ e. omega (arith, left_come s.after.left h)) d.one };
        same = λ rs w. s.same rs w ∙ o.stop (stop_at a q) ∙ ap (λ (x : Option Time). last_stop_from x o.left.records) (sym d.stop);
      }

  pub stop_none : length a ≤ j → (rs : List (List ℕ)) → Walk a i rs → stop_at a q ≡ last_stop_from (stop_at a p) rs
  stop_none h rs w = sym (s.same rs w ∙ ap (last_stop_from (stop_at a q)) (walk_none s.after.left.walk h))

  pub stop_then : {k r : ℕ} → Stopping a j q k r → Stopping a i p k r
  stop_then o = record { after = o.after; same = λ rs w. s.same rs w ∙ o.same s.after.left.records s.after.left.walk }

-- between two records of one size
pub record Alike (a : List ℕ) (i p z j q : ℕ) : Type 0 where
  pub on : Stopping a i p j q
  pub from : i ≤ j
  pub begun : j ≡ i → z ≡ size a j

pub gone_on : {a : List ℕ} {i p z j q : ℕ} → Alike a i p z j q → (z ≡ size a j → ⊥) → i < j
gone_on {i = i} {j = j} l d = go (ℕ_discrete j i)
  where
    go : Dec (j ≡ i) → i < j
    go (yes e) = absurd (d (l.begun e))
    go (no n) = omega (arith, l.from, n)

-- the place of the last defined stop
pub later_same : (a : List ℕ) (p i : ℕ) → eqb (be_at a (i + 14) 6) 281474976710655 ≡ true → LaterIs a p i p
later_same a p i e = record { stop = ap (λ (t : Option Time). last_of (stop_at a p) t) (sym (undefined_at a (i + 14) e)); one = inl refl }

pub later_here : (a : List ℕ) (p i : ℕ) → 0 < i → eqb (be_at a (i + 14) 6) 281474976710655 ≡ false → LaterIs a p i i
later_here a p i h e = record { stop = rw (ne_eqb i 0 (λ d. omega arith)) (sym (defined_last (stop_at a p) a (i + 14) e)); one = inr refl }

-- ---- the bytes of a section, with one record more
more : (f : List ℕ → Bool) (pre : List (List ℕ)) (r : List ℕ) (n k : ℕ) → f r ≡ true → n ≡ bytes (only f pre) → k ≡ length r → n + k ≡ bytes (only f (pre ++ (r ∷ [])))
more f pre r n k e d l = omega (arith, ap bytes (one_taken f pre r e), bytes_snoc (only f pre) r)

same : (f : List ℕ → Bool) (pre : List (List ℕ)) (r : List ℕ) (n : ℕ) → f r ≡ false → n ≡ bytes (only f pre) → n ≡ bytes (only f (pre ++ (r ∷ [])))
same f pre r n e d = d ∙ ap bytes (sym (none_taken f pre r e))

-- ---- the tests by the class
in_yes : (c d : ℕ) (r : List ℕ) → c ≤ class r 0 → class r 0 ≤ d → is_in c d r ≡ true
in_yes c d r h l = rw (le-leb c (class r 0) h, le-leb (class r 0) d l)

in_low : (c d : ℕ) (r : List ℕ) → class r 0 < c → is_in c d r ≡ false
in_low c d r h = rw (lt-leb c (class r 0) h) refl

in_high : (c d : ℕ) (r : List ℕ) → c ≤ class r 0 → d < class r 0 → is_in c d r ≡ false
in_high c d r h l = rw (le-leb c (class r 0) h) (lt-leb (class r 0) d l)

one_of : {all : List (List ℕ)} (pre : List (List ℕ)) (r : List ℕ) (rest : List (List ℕ)) → all ≡ (pre ++ (r ∷ [])) ++ rest → In r all
one_of pre r rest e = rw e (go pre)
  where
    go : (pre : List (List ℕ)) → In r ((pre ++ (r ∷ [])) ++ rest)
    go [] = top refl
    go (y ∷ pre) = pop (go pre)

-- ---- A TURN: the record at byte i
module _ {a : List ℕ} {i n : ℕ} {x : Sections} (m : Sectioning a i x) (h : i < length a) (e : n ≡ size a i) where
  at : Step a i m.all m.pre
  at = step m.rest m.cut (walk_next m.walk h)

  sized : size a i ≡ length at.one
  sized = ahead_size at.ahead

  classed : get_or a i 0 ≡ class at.one 0
  classed = ahead_class at.ahead

  range : (2 ≤ class at.one 0) × (class at.one 0 ≤ 8)
  range = follows_classes 1 m.all m.order at.one (one_of m.pre at.one at.after at.cut)

  pub turn_lead : Lead a i
  turn_lead = lead_there at.ahead

  pub turn_least : 20 ≤ n
  turn_least = omega (arith, e, sized, at.ahead.own.least)

  pub turn_most : i + n ≤ length a
  turn_most = omega (arith, e, sized, at.ahead.most)

  on : (y : Sections) → is_mdr at.one ≡ false → y.sphr + y.ipr + y.global + y.variable ≤ x.sphr + x.ipr + x.global + x.variable + n → SectionsAre (m.pre ++ (at.one ∷ [])) y → Sectioning a (i + n) y
  on y o l f = record {
    small = m.small;
    all = m.all;
    start = m.start;
    order = m.order;
    pre = m.pre ++ (at.one ∷ []);
    rest = at.after;
    cut = at.cut;
    walk = subst (λ (k : ℕ). Walk a (i + k) at.after) (sym e) at.walk;
    no_mdr = none_taken is_mdr m.pre at.one o ∙ m.no_mdr;
    below = omega (arith, m.below);
    found = f;
  }

  -- the times stay where the record is no MDR
  module _ (d : get_or a i 0 < 8) where
    no_mdr : is_mdr at.one ≡ false
    no_mdr = ne_eqb (class at.one 0) 8 (λ e. omega (arith, classed))

    starts : x.start ≡ first_defined_start (m.pre ++ (at.one ∷ []))
    starts = m.found.start ∙ ap (first_start_from None) (sym (none_taken is_mdr m.pre at.one no_mdr))

    stops : x.stop ≡ last_defined_stop (m.pre ++ (at.one ∷ []))
    stops = m.found.stop ∙ ap (last_stop_from None) (sym (none_taken is_mdr m.pre at.one no_mdr))

  module _ (y : Sections) where
    pub turn_sphr : get_or a i 0 < 3 → PartsOf (x.sphr + n) x.ipr x.global x.variable x.start x.stop y → Sectioning a (i + n) y
    turn_sphr d p =
        let k : class at.one 0 ≡ 2 = omega (arith, classed, range) in
        on y (no_mdr (omega arith)) (omega (arith, p.sphr, p.ipr, p.global, p.variable)) record {
          sphr = p.sphr ∙ more is_sphr m.pre at.one x.sphr (n) (eq-eqb (class at.one 0) 2 k) m.found.sphr (e ∙ sized);
          ipr = p.ipr ∙ same (is_in 3 3) m.pre at.one x.ipr (in_low 3 3 at.one (omega arith)) m.found.ipr;
          global = p.global ∙ same is_global m.pre at.one x.global (in_low 4 5 at.one (omega arith)) m.found.global;
          variable = p.variable ∙ same is_variable m.pre at.one x.variable (in_low 6 7 at.one (omega arith)) m.found.variable;
          start = p.start ∙ starts (omega arith);
          stop = p.stop ∙ stops (omega arith);
        }

    no_sphr : 3 ≤ get_or a i 0 → is_sphr at.one ≡ false
    no_sphr d = ne_eqb (class at.one 0) 2 (λ e. omega (arith, classed))

    pub turn_ipr : 3 ≤ get_or a i 0 → get_or a i 0 < 4 → PartsOf x.sphr (x.ipr + n) x.global x.variable x.start x.stop y → Sectioning a (i + n) y
    turn_ipr l d p =
        let k : class at.one 0 ≡ 3 = omega (arith, classed) in
        on y (no_mdr (omega arith)) (omega (arith, p.sphr, p.ipr, p.global, p.variable)) record {
          sphr = p.sphr ∙ same is_sphr m.pre at.one x.sphr (no_sphr l) m.found.sphr;
          ipr = p.ipr ∙ more (is_in 3 3) m.pre at.one x.ipr (n) (in_yes 3 3 at.one (omega arith) (omega arith)) m.found.ipr (e ∙ sized);
          global = p.global ∙ same is_global m.pre at.one x.global (in_low 4 5 at.one (omega arith)) m.found.global;
          variable = p.variable ∙ same is_variable m.pre at.one x.variable (in_low 6 7 at.one (omega arith)) m.found.variable;
          start = p.start ∙ starts (omega arith);
          stop = p.stop ∙ stops (omega arith);
        }

    pub turn_global : 4 ≤ get_or a i 0 → get_or a i 0 < 6 → PartsOf x.sphr x.ipr (x.global + n) x.variable x.start x.stop y → Sectioning a (i + n) y
    turn_global l d p =
        on y (no_mdr (omega arith)) (omega (arith, p.sphr, p.ipr, p.global, p.variable)) record {
          sphr = p.sphr ∙ same is_sphr m.pre at.one x.sphr (no_sphr (omega arith)) m.found.sphr;
          ipr = p.ipr ∙ same (is_in 3 3) m.pre at.one x.ipr (in_high 3 3 at.one (omega (arith, classed)) (omega (arith, classed))) m.found.ipr;
          global = p.global ∙ more is_global m.pre at.one x.global (n) (in_yes 4 5 at.one (omega (arith, classed)) (omega (arith, classed))) m.found.global (e ∙ sized);
          variable = p.variable ∙ same is_variable m.pre at.one x.variable (in_low 6 7 at.one (omega (arith, classed))) m.found.variable;
          start = p.start ∙ starts (omega arith);
          stop = p.stop ∙ stops (omega arith);
        }

    pub turn_variable : 6 ≤ get_or a i 0 → get_or a i 0 < 8 → PartsOf x.sphr x.ipr x.global (x.variable + n) x.start x.stop y → Sectioning a (i + n) y
    turn_variable l d p =
        on y (no_mdr (omega arith)) (omega (arith, p.sphr, p.ipr, p.global, p.variable)) record {
          sphr = p.sphr ∙ same is_sphr m.pre at.one x.sphr (no_sphr (omega arith)) m.found.sphr;
          ipr = p.ipr ∙ same (is_in 3 3) m.pre at.one x.ipr (in_high 3 3 at.one (omega (arith, classed)) (omega (arith, classed))) m.found.ipr;
          global = p.global ∙ same is_global m.pre at.one x.global (in_high 4 5 at.one (omega (arith, classed)) (omega (arith, classed))) m.found.global;
          variable = p.variable ∙ more is_variable m.pre at.one x.variable (n) (in_yes 6 7 at.one (omega (arith, classed)) (omega (arith, classed))) m.found.variable (e ∙ sized);
          start = p.start ∙ starts (omega arith);
          stop = p.stop ∙ stops (omega arith);
        }

-- ---- ALL OF THEM
pub sections_first : {a : List ℕ} (x : Sections) → Sectionable a → PartsOf 0 0 0 0 None None x → Sectioning a 3307 x
sections_first x s p = record {
  small = s.small;
  all = s.records;
  start = s.walk;
  order = s.order;
  pre = [];
  rest = s.records;
  cut = refl;
  walk = s.walk;
  no_mdr = refl;
  below = omega (arith, p.sphr, p.ipr, p.global, p.variable);
  found = record { sphr = p.sphr; ipr = p.ipr; global = p.global; variable = p.variable; start = p.start; stop = p.stop };
}

pub sections_last : {a : List ℕ} {i : ℕ} {x : Sections} → Sectioning a i x → length a ≤ i → Sectioned a x
sections_last {a} {i} {x} m h =
    let e : m.all ≡ m.pre = m.cut ∙ ap (λ (l : List (List ℕ)). m.pre ++ l) (walk_none m.walk h) ∙ append-nil m.pre in
    record { found = λ rs w. rw (one_walk rs m.all w m.start ∙ e) m.found }

-- ---- THE MDRs: after one there are only such
follows_after : (p : ℕ) (pre : List (List ℕ)) (r : List ℕ) (rest : List (List ℕ)) → Follows p (pre ++ (r ∷ rest)) → Follows (class r 0) rest
follows_after p [] r rest (e, f) = f
follows_after p (x ∷ pre) r rest (e, f) = follows_after (class x 0) pre r rest f

mdr_next : (c : ℕ) → may_follow 8 c ≡ true → c ≡ 8
unfolding first_after
mdr_next c e = omega (arith, follow_parts 8 c e)

after_mdr : (rs : List (List ℕ)) → Follows 8 rs → (x : List ℕ) → In x rs → class x 0 ≡ 8
after_mdr [] f x n = elim n [ ]
after_mdr (y ∷ rs) (e, f) x (top d) = rw d (mdr_next (class y 0) e)
after_mdr (y ∷ rs) (e, f) x (pop n) = after_mdr rs (subst (λ (c : ℕ). Follows c rs) (mdr_next (class y 0) e) f) x n

module _ {a : List ℕ} {i : ℕ} {x : Sections} (q : FirstMdr a i x) where
  m : Sectioning a i x
  m = q.sectioning

  all_mdrs : (r : List ℕ) → In r m.rest → class r 0 ≡ 8
  all_mdrs = go m.rest m.cut (walk_next m.walk q.inside)
    where
      go : (rest : List (List ℕ)) → m.all ≡ m.pre ++ rest → Next a i rest → (r : List ℕ) → In r rest → class r 0 ≡ 8
      go [] c k r n = elim k [ ]
      go (y ∷ rest) c (next k w) r n = one n
        where
          f : Follows 1 (m.pre ++ (y ∷ rest))
          f = subst (Follows 1) c m.order

          eight : class y 0 ≡ 8
          eight = omega (arith, ahead_class k, q.mdr, follows_classes 1 m.all m.order y (rw c (within m.pre)))
            where
              within : (pre : List (List ℕ)) → In y (pre ++ (y ∷ rest))
              within [] = top refl
              within (z ∷ pre) = pop (within pre)

          one : In r (y ∷ rest) → class r 0 ≡ 8
          one (top d) = rw d eight
          one (pop n) = after_mdr rest (subst (λ (c : ℕ). Follows c rest) eight (follows_after 1 m.pre y rest f)) r n

  -- the other sections are those of the records before
  kept : (f : List ℕ → Bool) (n : ℕ) → ((r : List ℕ) → class r 0 ≡ 8 → f r ≡ false) → n ≡ bytes (only f m.pre) → n ≡ bytes (only f (m.pre ++ m.rest))
  kept f n h e = e ∙ ap bytes (sym (only_append f m.pre m.rest ∙ ap (λ (l : List (List ℕ)). only f m.pre ++ l) (only_none f m.rest (λ r k. h r (all_mdrs r k))) ∙ append-nil (only f m.pre)))

  mdrs_are : only is_mdr (m.pre ++ m.rest) ≡ m.rest
  mdrs_are = only_append is_mdr m.pre m.rest ∙ ap (λ (l : List (List ℕ)). l ++ only is_mdr m.rest) m.no_mdr ∙ only_all is_mdr m.rest (λ r k. eq-eqb (class r 0) 8 (all_mdrs r k))

  pub sections_mdrs : {t u : Option Time} (y : Sections) → FirstStartIs a i t → LastStopIs a i u → PartsOf x.sphr x.ipr x.global x.variable t u y → Sectioned a y
  sections_mdrs {t} {u} y s e p = record {
    found = λ rs w. rw (one_walk rs m.all w m.start ∙ m.cut) record {
      sphr = p.sphr ∙ kept is_sphr x.sphr (λ r e. ne_eqb (class r 0) 2 (λ d. omega arith)) m.found.sphr;
      ipr = p.ipr ∙ kept (is_in 3 3) x.ipr (λ r e. in_high 3 3 r (omega arith) (omega arith)) m.found.ipr;
      global = p.global ∙ kept is_global x.global (λ r e. in_high 4 5 r (omega arith) (omega arith)) m.found.global;
      variable = p.variable ∙ kept is_variable x.variable (λ r e. in_high 6 7 r (omega arith) (omega arith)) m.found.variable;
      start = p.start ∙ s m.rest m.walk ∙ ap (first_start_from None) (sym mdrs_are);
      stop = p.stop ∙ e m.rest m.walk ∙ ap (last_stop_from None) (sym mdrs_are);
    };
  }
