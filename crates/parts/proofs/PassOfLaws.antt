-- A PASS IS OF ITS GRANULES ALONE (02, request Seven: "Where both ways of joining three products are accepted, the bytes are the same"): whichever two of a list
-- of products were joined first, what comes out is the pass of the list. What a product tells of the list that it was joined of, and that a join of two
-- tells of both lists. Assumes nothing.
use Prim.Native.Nat.{ℕ, ◌+◌, ◌≤◌, ◌<◌}
use native.Mathlib.Omega.{arith}
use mathlib.Core.Path.{◌≡◌, refl, sym, ap, ◌∙◌}
use mathlib.Core.Bool.{Bool, true, false, cond, ◌||◌}
use mathlib.Core.List.{List, [], ◌∷◌, ◌++◌, append-nil, append_assoc}
use lib.IntN.{pos}
use lib.ListN.{length, get_or, take, drop, replicate, take-append-drop}
use lib.Seq.{drop-drop}
use Rattle.meter.specs.General.{number_of}
use Rattle.text.specs.Field.{is_x}
use Rattle.text.specs.Writing.{put_number}
use Rattle.std.specs.declared.option.Option.TheVariants.{Some, None}
use Rattle.mphr.specs.Layout.{width_of, line_start}
use Rattle.parts.specs.Parts.{bytes_of, Built}
use Rattle.parts.specs.Only.{only, is_sphr, is_global, is_variable, is_mdr}
use Rattle.parts.specs.Pointers.{assembled}
use Rattle.parts.specs.Join.{together, join_parts}
use Rattle.parts.specs.Rewritten.{value_of, number, spelling, Rewritten, values_of, count_lines}
use Rattle.parts.specs.JoinHeader.{added, ended_as, join_lines, SumsFit, Sum}
use Rattle.parts.specs.Pass.{IsJoin}
use Rattle.parts.specs.PassOf.{Granule, granule, last_main, every_of, undefined_in, sum_in, added_up, pass_parts, pass_lines, pass_values, IsPass}
use Rattle.parts.proofs.CutHeaderLaws.{name_long}
use Rattle.parts.proofs.JoinLaws.{join_sphr, join_globals, join_variables, join_mdrs, assembled_same}
use Rattle.parts.proofs.JoinHeaderLaws.{ended_long}
use Rattle.parts.proofs.JoinLines.{ended_twice, ended_last, join_sums, Apart, apart_kept, Match, match_spelled, count_match, part_same}
use Rattle.parts.proofs.Unique.{one_rewritten}

-- ---- ONE PASS AT MOST
pub one_pass : {gs : List Granule} {c d : List ℕ} → IsPass gs c → IsPass gs d → c ≡ d
one_pass {gs} x y = x.whole ∙ ap (λ (h : List ℕ). bytes_of h (pass_parts gs)) (one_rewritten x.lines y.lines) ∙ sym y.whole

-- ---- of two lists
last_append : (m : List ℕ) (gs : List Granule) (h : Granule) (hs : List Granule) → last_main m (gs ++ (h ∷ hs)) ≡ last_main h.main hs
last_append m [] h hs = refl
last_append m (g ∷ gs) h hs = last_append g.main gs h hs

every_append : (f : List ℕ → Bool) (gs hs : List Granule) → every_of f (gs ++ hs) ≡ every_of f gs ++ every_of f hs
every_append f [] hs = refl
every_append f (g ∷ gs) hs = ap (λ (l : List (List ℕ)). only f g.records ++ l) (every_append f gs hs) ∙ sym (append_assoc (only f g.records) (every_of f gs) (every_of f hs))

or_assoc : (x y z : Bool) → (x || y) || z ≡ x || (y || z)
or_assoc true y z = refl
or_assoc false y z = refl

or_false : (x : Bool) → x || false ≡ x
or_false true = refl
or_false false = refl

undefined_append : (k : ℕ) (gs hs : List Granule) → undefined_in k (gs ++ hs) ≡ undefined_in k gs || undefined_in k hs
undefined_append k [] hs = refl
undefined_append k (g ∷ gs) hs =
    let x = is_x g.main (line_start k + 32) (width_of k) in
    ap (λ (b : Bool). x || b) (undefined_append k gs hs) ∙ sym (or_assoc x (undefined_in k gs) (undefined_in k hs))

sum_append : (k : ℕ) (gs hs : List Granule) → sum_in k (gs ++ hs) ≡ sum_in k gs + sum_in k hs
sum_append k [] hs = omega arith
sum_append k (g ∷ gs) hs = omega (arith, sum_append k gs hs)

-- ---- a name ended as itself
ended_self : (x : List ℕ) → ended_as x x ≡ x
ended_self x = ap (λ (l : List ℕ). take 32 x ++ (take 15 (drop 32 x) ++ l)) (sym (drop-drop 15 32 x)) ∙ ap (λ (l : List ℕ). take 32 x ++ l) (take-append-drop 15 (drop 32 x)) ∙ take-append-drop 32 x

-- ---- sums, `x` absorbing
same_sum : (d e : Bool) (x y : ℕ) → (d ≡ false → e ≡ false → x ≡ y) → cond (d || e) None (Some (pos x)) ≡ cond (d || e) None (Some (pos y))
same_sum true e x y f = refl
same_sum false true x y f = refl
same_sum false false x y f = ap (λ (i : ℕ). Some (pos i)) (f refl refl)

neither : (d e : Bool) → d || e ≡ false → (d ≡ false) × (e ≡ false)
neither true e h = absurd (let z : ◌≡◌ {A = ℕ} 0 1 = cc in omega arith)
neither false e h = (refl, h)

-- ---- WHAT A PRODUCT of main header m and records rs tells of the products g ∷ gs that it was joined of
pub record Tells (g : Granule) (gs : List Granule) (m : List ℕ) (rs : List (List ℕ)) : Type 0 where
  pub first_name : length (value_of g.main 0) ≡ 67
  pub last_name : length (value_of (last_main g.main gs) 0) ≡ 67
  pub start : (j : ℕ) → j < 20 → get_or g.main j 0 ≡ get_or m j 0
  pub name : value_of m 0 ≡ ended_as (value_of g.main 0) (value_of (last_main g.main gs) 0)
  pub end : value_of m 11 ≡ value_of (last_main g.main gs) 11
  pub keep : (k : ℕ) → k < 72 → Apart k (count_lines [] (join_lines [] [])) → value_of m k ≡ value_of g.main k
  pub unset : (k : ℕ) → 64 ≤ k → k ≤ 70 → is_x m (line_start k + 32) (width_of k) ≡ undefined_in k (g ∷ gs)
  pub sum : (k : ℕ) → 64 ≤ k → k ≤ 70 → undefined_in k (g ∷ gs) ≡ false → number_of m (line_start k + 32) (width_of k) ≡ sum_in k (g ∷ gs)
  pub sphr : only is_sphr rs ≡ only is_sphr g.records
  pub global : only is_global rs ≡ only is_global g.records
  pub variable : only is_variable rs ≡ every_of is_variable (g ∷ gs)
  pub mdr : only is_mdr rs ≡ every_of is_mdr (g ∷ gs)

-- a product tells of itself
pub tells_one : {m : List ℕ} {rs : List (List ℕ)} → Built m rs → Tells (granule m rs) [] m rs
tells_one {m} {rs} b = record {
  first_name = name_long b;
  last_name = name_long b;
  start = λ j h. refl;
  name = sym (ended_self (value_of m 0));
  end = refl;
  keep = λ k b h. refl;
  unset = λ k h l. sym (or_false (is_x m (line_start k + 32) (width_of k)));
  sum = λ k h l e. omega arith;
  sphr = refl;
  global = refl;
  variable = sym (append-nil (only is_variable rs));
  mdr = sym (append-nil (only is_mdr rs));
}

-- ---- A JOIN OF TWO
module _ {g h : Granule} {gs hs : List Granule} {m n c : List ℕ} {rs ss : List (List ℕ)} (p : Tells g gs m rs) (q : Tells h hs n ss) (j : IsJoin m n rs ss c) where
  -- the products of both
  abbrev rest : List Granule
  rest = gs ++ (h ∷ hs)

  lists : together rs ss ≡ only is_global g.records ++ (every_of is_variable (g ∷ rest) ++ every_of is_mdr (g ∷ rest))
  lists =
      let v = every_append is_variable (g ∷ gs) (h ∷ hs) in
      let d = every_append is_mdr (g ∷ gs) (h ∷ hs) in
      rw (p.global, p.variable, q.variable, p.mdr, q.mdr) (sym (ap (λ (l : List (List ℕ)). only is_global g.records ++ (l ++ every_of is_mdr (g ∷ rest))) v ∙ ap (λ (l : List (List ℕ)). only is_global g.records ++ ((every_of is_variable (g ∷ gs) ++ every_of is_variable (h ∷ hs)) ++ l)) d ∙ simp append_assoc))

  pass_list : join_parts m rs ss ≡ pass_parts (g ∷ rest)
  pass_list =
      assembled_same m g.main (only is_sphr rs) (together rs ss) (part_same m g.main 8 12 (λ i l. sym (p.start (8 + i) (omega arith))))
      ∙ ap (λ (l : List (List ℕ)). assembled g.main l (together rs ss)) p.sphr
      ∙ ap (assembled g.main (only is_sphr g.records)) lists

  names : ended_as (value_of m 0) (value_of n 0) ≡ ended_as (value_of g.main 0) (value_of (last_main [] (g ∷ rest)) 0)
  names =
      let a = value_of g.main 0 in
      let b = value_of (last_main g.main gs) 0 in
      let d = value_of h.main 0 in
      let e = value_of (last_main h.main hs) 0 in
      ap (λ (z : List ℕ). ended_as z (value_of n 0)) p.name
      ∙ ap (ended_as (ended_as a b)) q.name
      ∙ ended_last (ended_as a b) d e (ended_long a b p.first_name p.last_name) q.first_name q.last_name
      ∙ ended_twice a b e p.first_name p.last_name q.last_name
      ∙ ap (λ (z : List ℕ). ended_as a (value_of z 0)) (sym (last_append g.main gs h hs))

  added_all : (k : ℕ) → 64 ≤ k → k ≤ 70 → added m n k ≡ added_up (g ∷ rest) k
  added_all k lo hi =
      let s = number_of m (line_start k + 32) (width_of k) + number_of n (line_start k + 32) (width_of k) in
      let x = undefined_in k (g ∷ gs) in
      let y = undefined_in k (h ∷ hs) in
      ap (λ (b : Bool). cond (b || is_x n (line_start k + 32) (width_of k)) None (Some (pos s))) (p.unset k lo hi)
      ∙ ap (λ (b : Bool). cond (x || b) None (Some (pos s))) (q.unset k lo hi)
      ∙ same_sum x y s (sum_in k (g ∷ rest)) (λ u v. omega (arith, p.sum k lo hi u, q.sum k lo hi v, sum_append k (g ∷ gs) (h ∷ hs)))
      ∙ ap (λ (b : Bool). cond b None (Some (pos (sum_in k (g ∷ rest))))) (sym (undefined_append k (g ∷ gs) (h ∷ hs)))

  up : (k : ℕ) → 64 ≤ k → k ≤ 70 → spelling m k (number (added m n k)) ≡ spelling g.main k (number (added_up (g ∷ rest) k))
  up k lo hi = ap (put_number (width_of k) (replicate (width_of k) 0)) (added_all k lo hi)

  lines_match : Match m g.main (join_lines m n) (pass_lines (g ∷ rest))
  lines_match = (
    refl,
    names,
    (
      refl,
      q.end ∙ ap (λ (z : List ℕ). value_of z 11) (sym (last_append g.main gs h hs)),
      (
        refl,
        up 64 (omega arith) (omega arith),
        (
          refl,
          up 65 (omega arith) (omega arith),
          (
            refl,
            up 66 (omega arith) (omega arith),
            (refl, up 67 (omega arith) (omega arith), (refl, up 68 (omega arith) (omega arith), (refl, up 69 (omega arith) (omega arith), (refl, up 70 (omega arith) (omega arith), tt)))),
          ),
        ),
      ),
    ),
  )

  pass_lines_lem : Rewritten g.main j.header (pass_values (g ∷ rest))
  pass_lines_lem = record {
    long = j.lines.long;
    start = λ i l. p.start i l ∙ j.lines.start i l;
    frames = j.lines.frames;
    values = λ k l.
        j.lines.values k l
        ∙ ap (λ (z : List (List ℕ)). spelling m k (values_of (count_lines z (join_lines m n)) k)) pass_list
        ∙ match_spelled m g.main k (count_lines (pass_parts (g ∷ rest)) (join_lines m n)) (count_lines (pass_parts (g ∷ rest)) (pass_lines (g ∷ rest))) (count_match m g.main (pass_parts (g ∷ rest)) (join_lines m n) (pass_lines (g ∷ rest)) lines_match) (p.keep k l);
  }

  -- THE FIRST LAW: the join of what was joined of two lists is the pass of both, one after the other
  pub join_pass : IsPass (g ∷ (gs ++ (h ∷ hs))) c
  join_pass = record { header = j.header; lines = pass_lines_lem; whole = j.whole ∙ ap (bytes_of j.header) pass_list }

  -- THE SECOND LAW: and it tells of both
  module _ (fits : SumsFit m n) where
    told_unset : (k : ℕ) → Sum j.header m n k → 64 ≤ k → k ≤ 70 → is_x j.header (line_start k + 32) (width_of k) ≡ undefined_in k (g ∷ rest)
    told_unset k s lo hi =
        s.undefined
        ∙ ap (λ (b : Bool). b || is_x n (line_start k + 32) (width_of k)) (p.unset k lo hi)
        ∙ ap (λ (b : Bool). undefined_in k (g ∷ gs) || b) (q.unset k lo hi)
        ∙ sym (undefined_append k (g ∷ gs) (h ∷ hs))

    told_whole : (k : ℕ) → Sum j.header m n k → 64 ≤ k → k ≤ 70 → undefined_in k (g ∷ rest) ≡ false → number_of j.header (line_start k + 32) (width_of k) ≡ sum_in k (g ∷ rest)
    told_whole k s lo hi e =
        let both = neither (undefined_in k (g ∷ gs)) (undefined_in k (h ∷ hs)) (sym (undefined_append k (g ∷ gs) (h ∷ hs)) ∙ e) in
        let w = s.whole (sym s.undefined ∙ told_unset k s lo hi ∙ e) in
        omega (arith, w, p.sum k lo hi both.0, q.sum k lo hi both.1, sum_append k (g ∷ gs) (h ∷ hs))

    sums : (k : ℕ) → 64 ≤ k → k ≤ 70 → Sum j.header m n k
    sums = join_sums rs ss j.lines fits

    pub join_tells : Tells g (gs ++ (h ∷ hs)) j.header (join_parts m rs ss)
    join_tells = record {
      first_name = p.first_name;
      last_name = ap (λ (z : List ℕ). length (value_of z 0)) (last_append g.main gs h hs) ∙ q.last_name;
      start = λ i l. p.start i l ∙ j.lines.start i l;
      name = j.lines.values 0 (omega arith) ∙ names;
      end = j.lines.values 11 (omega arith) ∙ q.end ∙ ap (λ (z : List ℕ). value_of z 11) (sym (last_append g.main gs h hs));
      keep = λ k b l. j.lines.values k b ∙ ap (spelling m k) (apart_kept k (count_lines (join_parts m rs ss) (join_lines m n)) l) ∙ p.keep k b l;
      unset = λ k lo hi. told_unset k (sums k lo hi) lo hi;
      sum = λ k lo hi. told_whole k (sums k lo hi) lo hi;
      sphr = join_sphr m rs ss ∙ p.sphr;
      global = join_globals m rs ss ∙ p.global;
      variable = join_variables m rs ss ∙ ap (λ (l : List (List ℕ)). l ++ only is_variable ss) p.variable ∙ ap (λ (l : List (List ℕ)). every_of is_variable (g ∷ gs) ++ l) q.variable ∙ sym (every_append is_variable (g ∷ gs) (h ∷ hs));
      mdr = join_mdrs m rs ss ∙ ap (λ (l : List (List ℕ)). l ++ only is_mdr ss) p.mdr ∙ ap (λ (l : List (List ℕ)). every_of is_mdr (g ∷ gs) ++ l) q.mdr ∙ sym (every_append is_mdr (g ∷ gs) (h ∷ hs));
    }
