-- The survey, record by record: what is found of the records before, with one more. A record that a test keeps is the last of those that it keeps; one
-- that it does not keep changes nothing. Assumes nothing.
use Prim.Native.Nat.{ℕ, suc, ◌+◌, ◌≤◌, ◌<◌}
use native.Mathlib.Decide.{ℕ_discrete}
use native.Mathlib.Omega.{arith}
use mathlib.Core.Path.{◌≡◌, refl, sym, ap, ◌∙◌}
use mathlib.Core.Bool.{Bool, true, false, true≢false, cond, ◌||◌}
use mathlib.Core.List.{List, [], ◌∷◌, ◌++◌, append-nil, append_assoc}
use borrow.Author.Tests.{eq-eqb, ne_eqb}
use lib.Dec.{eqb}
use lib.ListN.{length, get_or, set, length-set, length-append}
use lib.Seq.{get_or-set_same, get_or-set_other}
use Rattle.meter.specs.Time.{time_at}
use Rattle.std.specs.declared.option.Option.TheVariants.{None}
use Rattle.std.specs.declared.option.Option.{Option}
use Rattle.meter.specs.declared.time.Time.{Time}
use Rattle.record.specs.Header.{is_group}
use Rattle.demands.specs.Product.{class, kind, size}
use Rattle.parts.specs.Parts.{bytes, count}
use Rattle.parts.specs.Only.{only, is_sphr, is_aux}
use Rattle.parts.specs.Cut.{Window, is_chosen, is_kept}
use Rattle.parts.specs.CutHeader.{sooner, later, first_from, last_from, first_start, last_stop}
use Rattle.parts.specs.Kinds.{kind_at}
use Rattle.parts.specs.Walk.{Walk}
use Rattle.parts.proofs.CutLaws.{kept_range}
use Rattle.parts.proofs.OnlyLaws.{only_append}
use Rattle.parts.proofs.KindLaws.{place_snoc}
use Rattle.parts.proofs.Local.{group_at, kind_at_lem}
use Rattle.parts.proofs.WalkLaws.{Ahead, Next, next, walk_next, walk_none, ahead_size, ahead_class, one_walk}
use Rattle.rewrite.specs.declared.survey.Sums.{Sums}
use Rattle.rewrite.specs.Keeping.{Lead, kept_at}
use Rattle.rewrite.specs.Table.{noted, SlotOf, Holds}
use Rattle.rewrite.specs.Surveying.{Found, Below, Surveying, Surveyable, Surveyed}
use Rattle.rewrite.proofs.TableLaws.{noted_length, noted_place, kind_of}
use Rattle.rewrite.proofs.KeepLaws.{lead_there, kept_there, start_there, stop_there}

-- ---- one record more
pub none_taken : (f : List ℕ → Bool) (pre : List (List ℕ)) (r : List ℕ) → f r ≡ false → only f (pre ++ (r ∷ [])) ≡ only f pre
none_taken f pre r e = only_append f pre (r ∷ []) ∙ ap (λ (b : Bool). only f pre ++ cond b (r ∷ []) []) e ∙ append-nil (only f pre)

pub one_taken : (f : List ℕ → Bool) (pre : List (List ℕ)) (r : List ℕ) → f r ≡ true → only f (pre ++ (r ∷ [])) ≡ only f pre ++ (r ∷ [])
one_taken f pre r e = only_append f pre (r ∷ []) ∙ ap (λ (b : Bool). only f pre ++ cond b (r ∷ []) []) e

pub bytes_snoc : (ks : List (List ℕ)) (r : List ℕ) → bytes (ks ++ (r ∷ [])) ≡ bytes ks + length r
bytes_snoc [] r = omega arith
bytes_snoc (x ∷ ks) r = omega (arith, bytes_snoc ks r)

pub count_snoc : (c : ℕ) (ks : List (List ℕ)) (r : List ℕ) → count c (ks ++ (r ∷ [])) ≡ count c ks + cond (eqb (class r 0) c) 1 0
count_snoc c [] r = omega arith
count_snoc c (x ∷ ks) r = omega (arith, count_snoc c ks r)

first_snoc : (t : Option Time) (ks : List (List ℕ)) (r : List ℕ) → first_from t (ks ++ (r ∷ [])) ≡ sooner (first_from t ks) (time_at r 8)
first_snoc t [] r = refl
first_snoc t (x ∷ ks) r = first_snoc (sooner t (time_at x 8)) ks r

last_snoc : (t : Option Time) (ks : List (List ℕ)) (r : List ℕ) → last_from t (ks ++ (r ∷ [])) ≡ later (last_from t ks) (time_at r 14)
last_snoc t [] r = refl
last_snoc t (x ∷ ks) r = last_snoc (later t (time_at x 14)) ks r

-- ---- the tally with one more of class c
pub tally_one : (t : List ℕ) (c j : ℕ) → c < length t → get_or (set t c (get_or t c 0 + 1)) j 0 ≡ get_or t j 0 + cond (eqb c j) 1 0
tally_one t c j h = go (ℕ_discrete j c)
  where
    go : Dec (j ≡ c) → get_or (set t c (get_or t c 0 + 1)) j 0 ≡ get_or t j 0 + cond (eqb c j) 1 0
    go (yes e) = rw (e, eq-eqb c c refl) (get_or-set_same t c (get_or t c 0 + 1) 0 h)
    go (no d) =
        let z : eqb c j ≡ false = ne_eqb c j (λ e. d (sym e)) in
        rw z (get_or-set_other t c j (get_or t c 0 + 1) 0 d ∙ omega arith)

-- ---- the tests by the class
sphr_yes : (r : List ℕ) → class r 0 ≡ 2 → is_sphr r ≡ true
sphr_yes r e = eq-eqb (class r 0) 2 e

sphr_no : (r : List ℕ) → (class r 0 ≡ 2 → ⊥) → is_sphr r ≡ false
sphr_no r d = ne_eqb (class r 0) 2 d

chosen_no : (w : Window) (r : List ℕ) → (class r 0 ≡ 8 → ⊥) → is_chosen w r ≡ false
unfolding is_chosen
chosen_no w r d = rw (ne_eqb (class r 0) 8 d)

chosen_left : (w : Window) (r : List ℕ) → is_kept w r ≡ false → is_chosen w r ≡ false
chosen_left w r e = go (is_aux r) (is_chosen w r) e
  where
    go : (x y : Bool) → x || y ≡ false → y ≡ false
    go true y e = absurd (true≢false e)
    go false y e = e

chosen_mdr : (w : Window) (r : List ℕ) → class r 0 ≡ 8 → is_kept w r ≡ true → is_chosen w r ≡ true
chosen_mdr w r c e = let z : is_aux r ≡ false = rw c refl in rw z at e

kept_two : (w : Window) (r : List ℕ) → class r 0 ≡ 2 → is_kept w r ≡ false
unfolding is_chosen
kept_two w r e = rw e

-- ---- WHAT IS FOUND, with one more record
module _ {w : Window} {pre : List (List ℕ)} {table tally : List ℕ} {v : Sums} (f : Found w pre table tally v) (r : List ℕ) where
  found_none : is_sphr r ≡ false → is_kept w r ≡ false → Found w (pre ++ (r ∷ [])) table tally v
  found_none s k =
      let x = none_taken is_sphr pre r s in
      let y = none_taken (is_kept w) pre r k in
      let z = none_taken (is_chosen w) pre r (chosen_left w r k) in
      record {
        holds = rw y f.holds;
        front = rw x f.front;
        records = rw (x, y) f.records;
        nine = f.nine;
        each = λ j h. rw (x, y) (f.each j h);
        first = rw z f.first;
        last = rw z f.last;
      }

  found_front :
      (u : Sums) → class r 0 ≡ 2 → u.front ≡ v.front + length r → u.kept ≡ v.kept → u.records ≡ v.records + 1 → u.start ≡ v.start → u.stop ≡ v.stop
      → Found w (pre ++ (r ∷ [])) table (set tally 2 (get_or tally 2 0 + 1)) u
  found_front u c n k l b e =
      let x = one_taken is_sphr pre r (sphr_yes r c) in
      let y = none_taken (is_kept w) pre r (kept_two w r c) in
      let z = none_taken (is_chosen w) pre r (chosen_left w r (kept_two w r c)) in
      record {
        holds = rw y record { long = f.holds.long; count = k ∙ f.holds.count; place = f.holds.place };
        front = rw x (omega (arith, n, f.front, bytes_snoc (only is_sphr pre) r));
        records = rw (x, y) (omega (arith, l, f.records, length-append (only is_sphr pre) (r ∷ [])));
        nine = length-set tally 2 (get_or tally 2 0 + 1) ∙ f.nine;
        each = λ j h.
            let i = tally_one tally 2 j (omega (arith, f.nine)) in
            let o = count_snoc j (only is_sphr pre) r in
            let q : ◌≡◌ {A = ℕ} (cond (eqb (class r 0) j) 1 0) (cond (eqb 2 j) 1 0) = rw c refl in
            rw (x, y) (omega (arith, i, o, q, f.each j h));
        first = rw z (b ∙ f.first);
        last = rw z (e ∙ f.last);
      }

  -- the table with its place
  holds_one : (p : ℕ) → p < 20480 → kind_at p ≡ kind r 0 → Holds (only (is_kept w) pre ++ (r ∷ [])) (noted table p v.kept) (v.kept + length r)
  holds_one p h e =
      let ks = only (is_kept w) pre in
      let n = v.kept in
      let g = f.holds in
      record {
        long = noted_length table p n ∙ g.long;
        count = omega (arith, g.count, bytes_snoc ks r);
        place = λ j u.
            let b : suc n ≡ suc (0 + bytes ks) = omega (arith, g.count) in
            noted_place table n (kind r 0) p j g.long h e u
            ∙ rw (g.place j u, b) refl
            ∙ sym (place_snoc (kind_at j) 0 ks r);
      }

  found_kept :
      (u : Sums) (p : ℕ) → is_kept w r ≡ true → p < 20480 → kind_at p ≡ kind r 0
      → u.front ≡ v.front → u.kept ≡ v.kept + length r → u.records ≡ v.records + 1
      → u.start ≡ first_start (only (is_chosen w) (pre ++ (r ∷ []))) → u.stop ≡ last_stop (only (is_chosen w) (pre ++ (r ∷ [])))
      → Found w (pre ++ (r ∷ [])) (noted table p v.kept) (set tally (class r 0) (get_or tally (class r 0) 0 + 1)) u
  found_kept u p k h e n d l b z =
      let c = kept_range w r k in
      let s = none_taken is_sphr pre r (sphr_no r (λ x. omega (arith, c.0))) in
      let o = one_taken (is_kept w) pre r k in
      record {
        holds = rw (o, d) (holds_one p h e);
        front = rw s (n ∙ f.front);
        records = rw (s, o) (omega (arith, l, f.records, length-append (only (is_kept w) pre) (r ∷ [])));
        nine = length-set tally (class r 0) (get_or tally (class r 0) 0 + 1) ∙ f.nine;
        each = λ j i.
            let x = tally_one tally (class r 0) j (omega (arith, f.nine, c.1)) in
            let y = count_snoc j (only (is_kept w) pre) r in
            rw (s, o) (omega (arith, x, y, f.each j i));
        first = b;
        last = z;
      }

  first_aux : (class r 0 ≡ 8 → ⊥) → v.start ≡ first_start (only (is_chosen w) (pre ++ (r ∷ [])))
  first_aux d = rw (none_taken (is_chosen w) pre r (chosen_no w r d)) f.first

  last_aux : (class r 0 ≡ 8 → ⊥) → v.stop ≡ last_stop (only (is_chosen w) (pre ++ (r ∷ [])))
  last_aux d = rw (none_taken (is_chosen w) pre r (chosen_no w r d)) f.last

  first_mdr : class r 0 ≡ 8 → is_kept w r ≡ true → sooner v.start (time_at r 8) ≡ first_start (only (is_chosen w) (pre ++ (r ∷ [])))
  first_mdr c k = rw (one_taken (is_chosen w) pre r (chosen_mdr w r c k), f.first) (sym (first_snoc None (only (is_chosen w) pre) r))

  last_mdr : class r 0 ≡ 8 → is_kept w r ≡ true → later v.stop (time_at r 14) ≡ last_stop (only (is_chosen w) (pre ++ (r ∷ [])))
  last_mdr c k = rw (one_taken (is_chosen w) pre r (chosen_mdr w r c k), f.last) (sym (last_snoc None (only (is_chosen w) pre) r))

-- ---- the bounds, with one more record of n bytes
below_same : {i : ℕ} {tally : List ℕ} {v : Sums} (n : ℕ) → Below i tally v → Below (i + n) tally v
below_same n b = record { front = omega (arith, b.front); kept = omega (arith, b.kept); records = omega (arith, b.records); each = λ c h. omega (arith, b.each c h) }

pub most_one : (b : Bool) → cond b 1 0 ≤ 1
most_one true = omega arith
most_one false = omega arith

below_one :
    {i : ℕ} {tally : List ℕ} {v : Sums} (n c : ℕ) (u : Sums) → 1 ≤ n → c < length tally → Below i tally v → u.front ≤ v.front + n → u.kept ≤ v.kept + n → u.records ≤ v.records + 1
    → Below (i + n) (set tally c (get_or tally c 0 + 1)) u
below_one {i} {tally} {v} n c u h l b x y z = record {
  front = omega (arith, b.front);
  kept = omega (arith, b.kept);
  records = omega (arith, b.records);
  each = λ j g. omega (arith, b.each j g, tally_one tally c j l, most_one (eqb c j));
}

-- ---- A TURN: the record at byte i
pub record Step (a : List ℕ) (i : ℕ) (all pre : List (List ℕ)) : Type 0 where
  pub one : List ℕ
  pub after : List (List ℕ)
  pub ahead : Ahead a i one
  pub walk : Walk a (i + size a i) after
  pub cut : all ≡ (pre ++ (one ∷ [])) ++ after

pub step : {a : List ℕ} {i : ℕ} {all pre : List (List ℕ)} (rest : List (List ℕ)) → all ≡ pre ++ rest → Next a i rest → Step a i all pre
step {pre = pre} rest e (next {r = r} {rs = rs} k w) =
    record { one = r; after = rs; ahead = k; walk = rw (ahead_size k) w; cut = e ∙ sym (append_assoc pre (r ∷ []) rs) }

module _ {a : List ℕ} {w : Window} {i : ℕ} {table tally : List ℕ} {v : Sums} (m : Surveying a w i table tally v) (h : i < length a) where
  at : Step a i m.all m.pre
  at = step m.rest m.cut (walk_next m.walk h)

  r : List ℕ
  r = at.one

  sized : size a i ≡ length at.one
  sized = ahead_size at.ahead

  classed : get_or a i 0 ≡ class at.one 0
  classed = ahead_class at.ahead

  pub turn_lead : Lead a i
  turn_lead = lead_there at.ahead

  pub turn_least : 20 ≤ size a i
  turn_least = omega (arith, sized, at.ahead.own.least)

  pub turn_most : i + size a i ≤ length a
  turn_most = omega (arith, sized, at.ahead.most)

  pub turn_group : is_group (get_or a (i + 1) 0) ≡ true
  turn_group = rw (group_at at.ahead.stands at.ahead.own.least) at.ahead.own.grouped

  pub turn_range : kept_at w a i ≡ true → (4 ≤ get_or a i 0) × (get_or a i 0 ≤ 8)
  turn_range e = rw classed (kept_range w at.one (sym (kept_there at.ahead w) ∙ e))

  on : (t l : List ℕ) (u : Sums) → Below (i + size a i) l u → Found w (m.pre ++ (at.one ∷ [])) t l u → Surveying a w (i + size a i) t l u
  on t l u b f = record {
    small = m.small;
    all = m.all;
    start = m.start;
    pre = m.pre ++ (at.one ∷ []);
    rest = at.after;
    cut = at.cut;
    walk = at.walk;
    below = b;
    found = f;
  }

  -- a record that is not carried over
  pub turn_none : (get_or a i 0 ≡ 2 → ⊥) → kept_at w a i ≡ false → Surveying a w (i + size a i) table tally v
  turn_none d k =
      on table tally v (below_same (size a i) m.below)
      (found_none m.found at.one (sphr_no at.one (λ e. d (classed ∙ e))) (sym (kept_there at.ahead w) ∙ k))

  -- the SPHR
  pub turn_front :
      (u : Sums) → get_or a i 0 ≡ 2 → u.front ≡ v.front + size a i → u.kept ≡ v.kept → u.records ≡ v.records + 1 → u.start ≡ v.start → u.stop ≡ v.stop
      → Surveying a w (i + size a i) table (set tally 2 (get_or tally 2 0 + 1)) u
  turn_front u c n k l b e =
      on table (set tally 2 (get_or tally 2 0 + 1)) u
      (below_one (size a i) 2 u (omega (arith, turn_least)) (omega (arith, m.found.nine)) m.below (omega (arith, n)) (omega (arith, k)) (omega (arith, l)))
      (found_front m.found at.one u (sym classed ∙ c) (omega (arith, n, sized)) k l b e)

  module _ (u : Sums) (p : ℕ) (k : kept_at w a i ≡ true) (s : SlotOf (get_or a i 0) (get_or a (i + 1) 0) (get_or a (i + 2) 0) p) (n : u.front ≡ v.front) (d : u.kept ≡ v.kept + size a i) (l : u.records ≡ v.records + 1) where
    kept_one : is_kept w at.one ≡ true
    kept_one = sym (kept_there at.ahead w) ∙ k

    kind_one : kind_at p ≡ kind at.one 0
    kind_one = s.same ∙ sym (kind_of a i) ∙ kind_at_lem at.ahead.stands at.ahead.own.least

    kept_on : u.start ≡ first_start (only (is_chosen w) (m.pre ++ (at.one ∷ []))) → u.stop ≡ last_stop (only (is_chosen w) (m.pre ++ (at.one ∷ [])))
        → Surveying a w (i + size a i) (noted table p v.kept) (set tally (get_or a i 0) (get_or tally (get_or a i 0) 0 + 1)) u
    kept_on b e =
        on (noted table p v.kept) (set tally (get_or a i 0) (get_or tally (get_or a i 0) 0 + 1)) u
        (below_one (size a i) (get_or a i 0) u (omega (arith, turn_least)) (omega (arith, m.found.nine, (turn_range k).1)) m.below (omega (arith, n)) (omega (arith, d)) (omega (arith, l)))
        (rw classed (found_kept m.found at.one u p kept_one s.below kind_one n (omega (arith, d, sized)) l b e))

    -- an auxiliary record
    pub turn_aux : (get_or a i 0 ≡ 8 → ⊥) → u.start ≡ v.start → u.stop ≡ v.stop
        → Surveying a w (i + size a i) (noted table p v.kept) (set tally (get_or a i 0) (get_or tally (get_or a i 0) 0 + 1)) u
    turn_aux c b e =
        let o : class at.one 0 ≡ 8 → ⊥ = λ x. c (classed ∙ x) in
        kept_on (b ∙ first_aux m.found at.one o) (e ∙ last_aux m.found at.one o)

    -- a chosen MDR
    pub turn_mdr : get_or a i 0 ≡ 8 → u.start ≡ sooner v.start (time_at a (i + 8)) → u.stop ≡ later v.stop (time_at a (i + 14))
        → Surveying a w (i + size a i) (noted table p v.kept) (set tally (get_or a i 0) (get_or tally (get_or a i 0) 0 + 1)) u
    turn_mdr c b e =
        let o = sym classed ∙ c in
        kept_on
        (b ∙ ap (sooner v.start) (start_there at.ahead) ∙ first_mdr m.found at.one o kept_one)
        (e ∙ ap (later v.stop) (stop_there at.ahead) ∙ last_mdr m.found at.one o kept_one)

-- ---- ALL OF THEM
pub survey_first : {a table tally : List ℕ} (w : Window) (v : Sums) → Surveyable a table tally → v.front ≡ 0 → v.kept ≡ 0 → v.records ≡ 0 → v.start ≡ None → v.stop ≡ None
    → Surveying a w 3307 table tally v
survey_first w v s f k n b e = record {
  small = s.small;
  all = s.records;
  start = s.walk;
  pre = [];
  rest = s.records;
  cut = refl;
  walk = s.walk;
  below = record { front = omega (arith, f); kept = omega (arith, k); records = omega (arith, n); each = λ c _. omega (arith, s.none c) };
  found = record {
    holds = record { long = s.long; count = k; place = λ j _. s.empty j };
    front = f;
    records = n;
    nine = s.nine;
    each = λ c _. s.none c;
    first = b;
    last = e;
  };
}

pub survey_last : {a table tally : List ℕ} {w : Window} {i : ℕ} {v : Sums} → Surveying a w i table tally v → length a ≤ i → Surveyed a w table tally v
survey_last {a} {table} {tally} {w} {i} {v} m h =
    let e : m.all ≡ m.pre = m.cut ∙ ap (λ (l : List (List ℕ)). m.pre ++ l) (walk_none m.walk h) ∙ append-nil m.pre in
    let z : i ≡ length a = omega (arith, h, m.walk.within) in
    record { found = λ rs x. rw (one_walk rs m.all x m.start ∙ e) m.found; below = rw z at m.below }

-- the same, at the code's names
pub surveying_at : {a : List ℕ} {w : Window} {t t' : List ℕ} {v : Sums} (l : List ℕ) (i n n' c c' : ℕ) → t ≡ t' → c ≡ c' → n ≡ n' → Surveying a w (i + n') t' (set l c' (get_or l c' 0 + 1)) v → Surveying a w (i + n) t (set l c (get_or l c 0 + 1)) v
surveying_at l i n n' c c' x y z s = rw (x, y, z) s
