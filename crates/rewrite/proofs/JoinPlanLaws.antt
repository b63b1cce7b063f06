-- THE PLAN OF A JOIN: two products are alike where their sections' records are; what is gathered of the four stretches, one after the other, is what goes into
-- the join; and the texts that are put one after the other are the join. Assumes nothing.
use Prim.Native.Nat.{ℕ, ◌+◌, ◌-◌, ◌≤◌, ◌<◌}
use native.Mathlib.Decide.{ℕ_discrete}
use native.Mathlib.Omega.{arith}
use mathlib.Core.Path.{◌≡◌, refl, sym, ap, subst, ◌∙◌}
use mathlib.Core.Bool.{Bool, true, false, cond}
use mathlib.Core.Logic.{⊎_elim}
use mathlib.Core.List.Memᴰ.{append_cases as in-append}
use mathlib.Core.List.Memᴰ.{head as top}
use mathlib.Core.List.Memᴰ.{tail as pop}
use mathlib.Core.List.{List, [], ◌∷◌, ◌++◌, append_assoc, Memᴰ as In}
use borrow.Author.Tests.{ne_eqb}
use lib.Dec.{eqb}
use lib.ListN.{length, get_or, set, take, drop, length-append, length-set}
use lib.Seq.{sets, sets-eq, take_all, get_or-set_same, get_or-set_other}
use Rattle.std.specs.declared.result.Result.TheVariants.{Ok}
use Rattle.std.specs.declared.option.Option.{Option}
use Rattle.std.specs.declared.result.Result.{Result}
use Rattle.calendar.specs.declared.Refusal.{Refusal}
use Rattle.meter.specs.declared.time.Time.{Time}
use Rattle.demands.specs.Product.{class, Meets}
use Rattle.demands.proofs.Accepted.{one_list}
use Rattle.parts.specs.Parts.{joined, bytes, bytes_of, Own, count, main_of, records_at}
use Rattle.parts.specs.Only.{only, is_sphr, is_global, is_variable, is_mdr}
use Rattle.parts.specs.Kinds.{Kinded}
use Rattle.parts.specs.Pointers.{firsts, pointers}
use Rattle.parts.specs.Join.{seen, together, join_parts, Like}
use Rattle.parts.specs.JoinHeader.{join_lines, join_values, SumsFit}
use Rattle.parts.specs.Pass.{FourAgree, Alike, last_defined_stop, first_defined_start, is_late, InTime, join_size}
use Rattle.parts.specs.Rewritten.{Rewritten, Anew, values_of, count_lines}
use Rattle.parts.proofs.Built.{bytes_joined, meets_built}
use Rattle.parts.proofs.OnlyLaws.{only_in}
use Rattle.parts.proofs.Assembled.{assembled_bytes}
use Rattle.parts.proofs.CutLaws.{of_class, in_classes}
use Rattle.meter.specs.Integer.{Bytes}
use Rattle.parts.proofs.CutHeaderLaws.{parts_byte}
use Rattle.rewrite.specs.declared.sections.Sections.{Sections}
use Rattle.rewrite.specs.Emitting.{pointers_from, PutsText}
use Rattle.rewrite.specs.Comparing.{SeenIs, Seeable}
use Rattle.bytewise.specs.Comparing.{Decides}
use Rattle.parts.proofs.WalkLaws.{walk_first}
use Rattle.rewrite.specs.Sectioning.{Sectionable, Sectioned}
use Rattle.rewrite.specs.Gathering.{Gathered, Stretch, Gatherable, Gathers}
use Rattle.rewrite.specs.Assembling.{TotalsOf, Collected, Unplanned, big, long, Planned}
use Rattle.rewrite.specs.Cut.{refused_at}
use Rattle.rewrite.specs.Join.{PartsJoin, JoinIs, unlike, out_of_time, too_much, no_room, written, both}
use Rattle.rewrite.specs.Joining.{PutsRecords, Headers, join_lines_by, JoinHeaderFor, JoinHeaderIs, Two, Sections2, rs_of, ss_of, LikeIs, AlikeIs, Matched, MatchedIs, Gathering2, Gathers2, JoinPlanned, PutsJoin}
use Rattle.rewrite.proofs.CopyLaws.{sets_append, part_long}
use Rattle.bytewise.proofs.CompareLaws.{no_it_is, decides_as}
use Rattle.rewrite.proofs.AssembleLaws.{joined_append, count_none, count_all, assembled_text, pointers_text, pointers_long, totals_fit, put_together}
use Rattle.rewrite.proofs.UntimedLaws.{seen_bytes}
use Rattle.rewrite.proofs.StretchLaws.{bytes_append, text_walk, sections_come, sphr_text, global_text, sphr_own, global_own, aux_stretch, variable_stretch, mdr_stretch, stretch_text}

-- ---- another proof that a is a product has the same records
pub first_same : {a b : List ℕ} (t u : Two a b) → rs_of a b t ≡ rs_of a b u
first_same {a} t u = ap (records_at a) (one_list t.first u.first)

pub second_same : {a b : List ℕ} (t u : Two a b) → ss_of a b t ≡ ss_of a b u
second_same {b = b} t u = ap (records_at b) (one_list t.second u.second)

-- ---- THE SAME SPHR AND GLOBAL RECORDS, in what is compared of them
-- two stretches of as many bytes that are records
seeable :
    {a b : List ℕ} (i j n : ℕ) (xs ys : List (List ℕ)) → length a ≤ 2147483647 → i + n ≤ length a → j + n ≤ length b → take n (drop i a) ≡ joined xs → take n (drop j b) ≡ joined ys
    → ((r : List ℕ) → In r xs → Own r) → ((r : List ℕ) → In r ys → Own r) → Seeable a b i j n
seeable {a} {b} i j n xs ys l p q u v f g = record {
  first = p;
  second = q;
  texts = record {
    small = omega (arith, part_long a i n p);
    long = part_long a i n p ∙ sym (part_long b j n q);
    first = xs;
    second = ys;
    walk_1 = text_walk xs f u;
    walk_2 = text_walk ys g v;
  };
}

module _ {a b : List ℕ} {x y : Sections} (s : Sections2 a b x y) where
  told : {i r : Bool} → Decides (Like i (rs_of a b s.two) (ss_of a b s.two)) r → LikeIs i a b r
  told {i} {r} d t = subst (λ (l : List (List ℕ)). Decides (Like i l (ss_of a b t)) r) (first_same s.two t) (subst (λ (l : List (List ℕ)). Decides (Like i (rs_of a b s.two) l) r) (second_same s.two t) d)

  front_1 : (r : List ℕ) → In r (only is_sphr (rs_of a b s.two)) → Own r
  front_1 = sphr_own s.two.first s.first

  front_2 : (r : List ℕ) → In r (only is_sphr (ss_of a b s.two)) → Own r
  front_2 = sphr_own s.two.second s.second

  global_1 : (r : List ℕ) → In r (only is_global (rs_of a b s.two)) → Own r
  global_1 = global_own s.two.first s.first

  global_2 : (r : List ℕ) → In r (only is_global (ss_of a b s.two)) → Own r
  global_2 = global_own s.two.second s.second

  pub like_front : (i : Bool) → (x.sphr ≡ y.sphr → ⊥) → LikeIs i a b false
  like_front i d = told (no_it_is (λ l. d (s.first.sphr ∙ seen_bytes i (only is_sphr (rs_of a b s.two)) (only is_sphr (ss_of a b s.two)) front_1 front_2 l.sphr ∙ sym s.second.sphr)))

  pub like_global : (i : Bool) → (x.global ≡ y.global → ⊥) → LikeIs i a b false
  like_global i d = told (no_it_is (λ l. d (s.first.global ∙ seen_bytes i (only is_global (rs_of a b s.two)) (only is_global (ss_of a b s.two)) global_1 global_2 l.global ∙ sym s.second.global)))

  low : length a ≤ 2147483647
  low = let t = s.two.first in omega (arith, t.come, t.header.most)

  front_text : x.sphr ≡ y.sphr → take x.sphr (drop 3307 b) ≡ joined (only is_sphr (ss_of a b s.two))
  front_text e = ap (λ (n : ℕ). take n (drop 3307 b)) e ∙ sphr_text s.two.second s.second

  rest_text : x.global ≡ y.global → take x.global (drop (3307 + y.sphr + y.ipr) b) ≡ joined (only is_global (ss_of a b s.two))
  rest_text e = ap (λ (n : ℕ). take n (drop (3307 + y.sphr + y.ipr) b)) e ∙ global_text s.two.second s.second

  pub front_seeable : x.sphr ≡ y.sphr → Seeable a b 3307 3307 x.sphr
  front_seeable e =
      seeable 3307 3307 x.sphr (only is_sphr (rs_of a b s.two)) (only is_sphr (ss_of a b s.two)) low
      (omega (arith, sections_come s.two.first s.first)) (omega (arith, e, sections_come s.two.second s.second))
      (sphr_text s.two.first s.first) (front_text e) front_1 front_2

  pub global_seeable : x.global ≡ y.global → Seeable a b (3307 + x.sphr + x.ipr) (3307 + y.sphr + y.ipr) x.global
  global_seeable e =
      seeable (3307 + x.sphr + x.ipr) (3307 + y.sphr + y.ipr) x.global (only is_global (rs_of a b s.two)) (only is_global (ss_of a b s.two)) low
      (omega (arith, sections_come s.two.first s.first)) (omega (arith, e, sections_come s.two.second s.second))
      (global_text s.two.first s.first) (rest_text e) global_1 global_2

  front_decides :
      (i : Bool) {r : Bool} → x.sphr ≡ y.sphr → SeenIs i (take x.sphr (drop 3307 a)) (take x.sphr (drop 3307 b)) r
      → Decides (seen i (only is_sphr (rs_of a b s.two)) ≡ seen i (only is_sphr (ss_of a b s.two))) r
  front_decides i e d = d (only is_sphr (rs_of a b s.two)) (only is_sphr (ss_of a b s.two)) (text_walk _ front_1 (sphr_text s.two.first s.first)) (text_walk _ front_2 (front_text e))

  global_decides :
      (i : Bool) {r : Bool} → x.global ≡ y.global → SeenIs i (take x.global (drop (3307 + x.sphr + x.ipr) a)) (take x.global (drop (3307 + y.sphr + y.ipr) b)) r
      → Decides (seen i (only is_global (rs_of a b s.two)) ≡ seen i (only is_global (ss_of a b s.two))) r
  global_decides i e d = d (only is_global (rs_of a b s.two)) (only is_global (ss_of a b s.two)) (text_walk _ global_1 (global_text s.two.first s.first)) (text_walk _ global_2 (rest_text e))

  pub like_no : (i : Bool) {r : Bool} → x.sphr ≡ y.sphr → SeenIs i (take x.sphr (drop 3307 a)) (take x.sphr (drop 3307 b)) r → r ≡ false → LikeIs i a b false
  like_no i e d f = told (no_it_is (λ l. (front_decides i e d).wrong f l.sphr))

  pub like_last :
      (i : Bool) {q r : Bool} → x.sphr ≡ y.sphr → x.global ≡ y.global → SeenIs i (take x.sphr (drop 3307 a)) (take x.sphr (drop 3307 b)) q → q ≡ true
      → SeenIs i (take x.global (drop (3307 + x.sphr + x.ipr) a)) (take x.global (drop (3307 + y.sphr + y.ipr) b)) r → LikeIs i a b r
  like_last i e g d t c = told (decides_as (λ w. record { sphr = (front_decides i e d).right t; global = w }) (λ l. l.global) (global_decides i g c))

-- ---- a product can be walked
pub sectionable : {a : List ℕ} → Meets a → Sectionable a
sectionable {a} t = record { small = omega (arith, t.come, t.header.most); records = records_at a t.list; walk = walk_first a t; order = (meets_built a t).tiles.order }

pub two_sections : {a b : List ℕ} {x y : Sections} (t : Two a b) → Sectioned a x → Sectioned b y → Sections2 a b x y
two_sections {a} {b} t f g = record { two = t; first = f.found (records_at a t.first.list) (walk_first a t.first); second = g.found (records_at b t.second.list) (walk_first b t.second) }

-- ---- headers
pub two_headers : {a b : List ℕ} → Two a b → Headers (main_of a) (main_of b)
two_headers {a} {b} t =
    let x = (meets_built a t.first).fits in
    let y = (meets_built b t.second).fits in
    record { first_long = x.long; first = x.header; second_long = y.long; second = y.header }

-- ---- WHAT IS GATHERED
module _ {a b : List ℕ} (bytes-a : Bytes a) (bytes-b : Bytes b) (t : Two a b) where
  kinded : (f : List ℕ → Bool) (c d : ℕ) → ((r : List ℕ) → f r ≡ true → (4 ≤ class r 0) × (class r 0 ≤ 8)) → (p : List ℕ) (q : Meets p) → Bytes p → (r : List ℕ) → In r (only f (records_at p q.list)) → Kinded r
  kinded f c d g p q u r n =
      let o = only_in f r (records_at p q.list) n in
      let w = parts_byte p u q.list r o.0 in
      record { four = (g r o.1).0; eight = (g r o.1).1; group = ((meets_built p q).tiles.own r o.0).grouped; low = w 1; subclass = w 2 }

  in_global : (r : List ℕ) → is_global r ≡ true → (4 ≤ class r 0) × (class r 0 ≤ 8)
  in_global r e = let k = in_classes 4 5 r e in (k.0, omega (arith, k.1))

  in_variable : (r : List ℕ) → is_variable r ≡ true → (4 ≤ class r 0) × (class r 0 ≤ 8)
  in_variable r e = let k = in_classes 6 7 r e in (omega (arith, k.0), omega (arith, k.1))

  in_mdr : (r : List ℕ) → is_mdr r ≡ true → (4 ≤ class r 0) × (class r 0 ≤ 8)
  in_mdr r e = let k = of_class {c = 8} r e in (omega (arith, k), omega (arith, k))

  pub together_kinded : (r : List ℕ) → In r (together (rs_of a b t) (ss_of a b t)) → Kinded r
  together_kinded r n =
      ⊎_elim (kinded is_global 0 0 in_global a t.first bytes-a r)
      (λ n. ⊎_elim (kinded is_variable 0 0 in_variable a t.first bytes-a r)
      (λ n. ⊎_elim (kinded is_variable 0 0 in_variable b t.second bytes-b r)
      (λ n. ⊎_elim (kinded is_mdr 0 0 in_mdr a t.first bytes-a r) (kinded is_mdr 0 0 in_mdr b t.second bytes-b r) (in-append (only is_mdr (rs_of a b t)) n))
      (in-append (only is_variable (ss_of a b t)) n))
      (in-append (only is_variable (rs_of a b t)) n))
      (in-append (only is_global (rs_of a b t)) n)

-- the bytes of what goes into the join
pub together_bytes : {a b : List ℕ} {x y : Sections} (s : Sections2 a b x y) →
    bytes (together (rs_of a b s.two) (ss_of a b s.two)) ≡ x.global + x.variable + y.variable + bytes (only is_mdr (rs_of a b s.two)) + bytes (only is_mdr (ss_of a b s.two))
together_bytes {a} {b} {x} {y} s =
    let r = rs_of a b s.two in
    let q = ss_of a b s.two in
    omega (
      arith,
      bytes_append (only is_global r) (only is_variable r ++ (only is_variable q ++ (only is_mdr r ++ only is_mdr q))),
      bytes_append (only is_variable r) (only is_variable q ++ (only is_mdr r ++ only is_mdr q)),
      bytes_append (only is_variable q) (only is_mdr r ++ only is_mdr q),
      bytes_append (only is_mdr r) (only is_mdr q),
      s.first.global,
      s.first.variable,
      s.second.variable,
    )

pub kept_is : {a b : List ℕ} {x y : Sections} (s : Sections2 a b x y) →
    (length a - 3307 - x.sphr - x.ipr) + (length b - 3307 - y.sphr - y.ipr - y.global) ≡ bytes (together (rs_of a b s.two) (ss_of a b s.two))
kept_is {a} {b} {x} {y} s =
    let u : length a - 3307 - x.sphr - x.ipr ≡ x.global + x.variable + bytes (only is_mdr (rs_of a b s.two)) = left_over (length a) x.sphr x.ipr _ (omega (arith, sections_come s.two.first s.first)) in
    let v : length b - 3307 - y.sphr - y.ipr - y.global ≡ y.variable + bytes (only is_mdr (ss_of a b s.two)) = ap (λ (n : ℕ). n - y.global) (left_over (length b) y.sphr y.ipr (y.global + (y.variable + bytes (only is_mdr (ss_of a b s.two)))) (omega (arith, sections_come s.two.second s.second))) ∙ omega arith in
    ap (λ (n : ℕ). n + (length b - 3307 - y.sphr - y.ipr - y.global)) u ∙ ap (λ (n : ℕ). x.global + x.variable + bytes (only is_mdr (rs_of a b s.two)) + n) v ∙ omega (arith, together_bytes s)
  where
    left_over : (n p q k : ℕ) → n ≡ 3307 + p + q + k → n - 3307 - p - q ≡ k
    left_over n p q k e = omega arith

-- ---- the four stretches, one after the other
pub gathered_none : {table tally : List ℕ} → length table ≡ 20480 → ((j : ℕ) → get_or table j 0 ≡ 0) → length tally ≡ 9 → ((c : ℕ) → get_or tally c 0 ≡ 0) → Gathered [] table tally 0
gathered_none l e n z = record { holds = record { long = l; count = refl; place = λ j _. e j }; nine = n; each = λ c _. z c }

-- at another count of bytes
pub gathered_at : {ks : List (List ℕ)} {table tally : List ℕ} {m n : ℕ} → m ≡ n → Gathered ks table tally m → Gathered ks table tally n
gathered_at {ks} {table} {tally} e g = subst (Gathered ks table tally) e g

-- "at most one SPHR"
pub one_sphr : {a : List ℕ} (t : Meets a) → length (only is_sphr (records_at a t.list)) ≤ 1
one_sphr {a} t =
    let b = (meets_built a t).fits in
    omega (arith, count-only (records_at a t.list), b.totals 2 (omega arith) (omega arith), b.header.sums.second)
  where
    count-only : (rs : List (List ℕ)) → length (only is_sphr rs) ≡ count 2 rs
    count-only [] = refl
    count-only (r ∷ rs) = go (eqb (class r 0) 2) (count-only rs)
      where
        go : (c : Bool) → length (only is_sphr rs) ≡ count 2 rs → length (cond c (r ∷ only is_sphr rs) (only is_sphr rs)) ≡ cond c 1 0 + count 2 rs
        go true e = omega arith
        go false e = omega arith

pub one_most : {r : ℕ} (b : Bool) → r ≡ cond b 0 1 → r ≤ 1
one_most true e = omega arith
one_most false e = omega arith

front_count : (fs : List (List ℕ)) (n : ℕ) → length fs ≤ 1 → n ≡ bytes fs → ((r : List ℕ) → In r fs → Own r) → cond (eqb n 0) 0 1 ≡ length fs
front_count [] n h e f = rw e refl
front_count (r ∷ []) n h e f = rw (ne_eqb n 0 (λ z. omega (arith, (f r (top refl)).least))) refl
front_count (r ∷ q ∷ fs) n h e f = absurd (omega arith)

-- ALL THAT IS GATHERED, with the SPHR counted
module _ {a b : List ℕ} {x y : Sections} (s : Sections2 a b x y) (bytes-a : Bytes a) (bytes-b : Bytes b) where
  front_two : (r : List ℕ) → In r (only is_sphr (rs_of a b s.two)) → class r 0 ≡ 2
  front_two r n = of_class {c = 2} r (only_in is_sphr r (rs_of a b s.two) n).1

  pub collected :
      {table tally tally' : List ℕ} {n front aux more mdrs others records : ℕ} → Gathered (together (rs_of a b s.two) (ss_of a b s.two)) table tally n → front ≡ cond (eqb x.sphr 0) 0 1 → tally' ≡ set tally 2 front
      → aux ≡ length (only is_global (rs_of a b s.two) ++ only is_variable (rs_of a b s.two)) → more ≡ length (only is_variable (ss_of a b s.two)) → mdrs ≡ length (only is_mdr (rs_of a b s.two)) → others ≡ length (only is_mdr (ss_of a b s.two))
      → records ≡ front + aux + more + mdrs + others
      → (t : Two a b) → Collected (only is_sphr (rs_of a b t)) (together (rs_of a b t) (ss_of a b t)) table tally' x.sphr (bytes (together (rs_of a b t) (ss_of a b t))) records
  collected {table} {tally} {tally'} {n} {front} {aux} {more} {mdrs} {others} {records} g e d p q u v w t =
      let r = rs_of a b s.two in
      let k = ss_of a b s.two in
      let f = only is_sphr r in
      let c : front ≡ length f = e ∙ front_count f x.sphr (one_sphr s.two.first) s.first.sphr (sphr_own s.two.first s.first) in
      let l : length (together r k) ≡ aux + more + mdrs + others = omega (
        arith,
        length-append (only is_global r) (only is_variable r),
        length-append (only is_global r) (only is_variable r ++ (only is_variable k ++ (only is_mdr r ++ only is_mdr k))),
        length-append (only is_variable r) (only is_variable k ++ (only is_mdr r ++ only is_mdr k)),
        length-append (only is_variable k) (only is_mdr r ++ only is_mdr k),
        length-append (only is_mdr r) (only is_mdr k),
      ) in
      subst (λ (z : List (List ℕ)). Collected (only is_sphr z) (together z (ss_of a b t)) table tally' x.sphr (bytes (together z (ss_of a b t))) records) (first_same s.two t)
      (subst (λ (z : List (List ℕ)). Collected (only is_sphr r) (together r z) table tally' x.sphr (bytes (together r z)) records) (second_same s.two t)
      record {
        holds = record { long = g.holds.long; count = refl; place = g.holds.place };
        front_is = s.first.sphr;
        records_are = omega (arith, w, l, c);
        nine = ap length d ∙ length-set tally 2 front ∙ g.nine;
        each = λ j h. ap (λ (z : List ℕ). get_or z j 0) d ∙ go j h c (ℕ_discrete j 2);
        two = front_two;
        kinded = together_kinded bytes-a bytes-b s.two;
      })
    where
      go : (j : ℕ) → j < 9 → front ≡ length (only is_sphr (rs_of a b s.two)) → Dec (j ≡ 2) → get_or (set tally 2 front) j 0 ≡ count j (only is_sphr (rs_of a b s.two)) + count j (together (rs_of a b s.two) (ss_of a b s.two))
      go j h c (yes z) =
          rw z (get_or-set_same tally 2 front 0 (omega (arith, g.nine))
          ∙ omega (arith, c, count_all 2 (only is_sphr (rs_of a b s.two)) front_two, count_none 2 (together (rs_of a b s.two) (ss_of a b s.two)) (λ r n o. omega (arith, (together_kinded bytes-a bytes-b s.two r n).four))))
      go j h c (no z) =
          get_or-set_other tally 2 j front 0 z
          ∙ g.each j h
          ∙ omega (arith, count_none j (only is_sphr (rs_of a b s.two)) (λ r n o. z (sym o ∙ front_two r n)))

-- the four calls, each after what was gathered before it
module _ {a b : List ℕ} {x y : Sections} {table tally : List ℕ} (g : Gathering2 a b x y table tally) (i j k l : ℕ)
    (ei : i ≡ 3307 + x.sphr + x.ipr) (ej : j ≡ i + x.global + x.variable) (ek : k ≡ 3307 + y.sphr + y.ipr + y.global) (el : l ≡ k + y.variable) where
  first_part : Stretch a i j (only is_global (rs_of a b g.found.two) ++ only is_variable (rs_of a b g.found.two))
  first_part = aux_stretch g.found.two.first g.found.first i j ei ej

  second_part : Stretch b k l (only is_variable (ss_of a b g.found.two))
  second_part = variable_stretch g.found.two.second g.found.second k l ek el

  third_part : Stretch a j (length a) (only is_mdr (rs_of a b g.found.two))
  third_part = mdr_stretch g.found.two.first g.found.first j (length a) (ej ∙ ap (λ (n : ℕ). n + x.global + x.variable) ei) refl

  fourth_part : Stretch b l (length b) (only is_mdr (ss_of a b g.found.two))
  fourth_part = mdr_stretch g.found.two.second g.found.second l (length b) (el ∙ ap (λ (n : ℕ). n + y.variable) ek) refl

  aux_bytes : bytes (only is_global (rs_of a b g.found.two) ++ only is_variable (rs_of a b g.found.two)) ≡ j - i
  aux_bytes = omega (arith, first_part.end)

  most : (j - i) + (l - k) + (length a - j) + (length b - l) ≤ 2147483647
  most =
      let u : j - i ≡ x.global + x.variable = omega arith in
      let v : l - k ≡ y.variable = omega arith in
      let w : length a - j ≡ bytes (only is_mdr (rs_of a b g.found.two)) = omega (arith, third_part.end) in
      let z : length b - l ≡ bytes (only is_mdr (ss_of a b g.found.two)) = omega (arith, fourth_part.end) in
      rw (u, v, w, z) (omega (arith, g.small, together_bytes g.found))

  pub gather_1 : Gatherable a i j 0 table tally
  gather_1 = record {
    before = [];
    gathered = gathered_none g.long g.empty g.nine g.none;
    low = λ c h. omega (arith, g.none c);
    records = only is_global (rs_of a b g.found.two) ++ only is_variable (rs_of a b g.found.two);
    stretch = first_part;
    small = omega (arith, aux_bytes, most);
  }

  module _ {r₁ : ℕ} {T₁ t₁ : List ℕ} (g₁ : Gathers a i j 0 table tally r₁ T₁ t₁) where
    got_1 : (n : ℕ) → n ≡ j - i → Gathered (only is_global (rs_of a b g.found.two) ++ only is_variable (rs_of a b g.found.two)) T₁ t₁ n
    got_1 n e = gathered_at (omega (arith, aux_bytes)) (g₁.all [] _ (gathered_none g.long g.empty g.nine g.none) first_part)

    pub gather_2 : (n : ℕ) → n ≡ j - i → Gatherable b k l n T₁ t₁
    gather_2 n e = record {
      before = only is_global (rs_of a b g.found.two) ++ only is_variable (rs_of a b g.found.two);
      gathered = got_1 n e;
      low = λ c h. omega (arith, aux_bytes, g₁.low c _ first_part h);
      records = only is_variable (ss_of a b g.found.two);
      stretch = second_part;
      small = omega (arith, second_part.end, most);
    }

    module _ {r₂ : ℕ} {T₂ t₂ : List ℕ} (n₂ : ℕ) (e₂ : n₂ ≡ j - i) (g₂ : Gathers b k l n₂ T₁ t₁ r₂ T₂ t₂) where
      got_2 : (n : ℕ) → n ≡ (j - i) + (l - k) → Gathered ((only is_global (rs_of a b g.found.two) ++ only is_variable (rs_of a b g.found.two)) ++ only is_variable (ss_of a b g.found.two)) T₂ t₂ n
      got_2 n e = gathered_at (omega (arith, second_part.end)) (g₂.all _ _ (got_1 n₂ e₂) second_part)

      pub gather_3 : (n : ℕ) → n ≡ (j - i) + (l - k) → Gatherable a j (length a) n T₂ t₂
      gather_3 n e = record {
        before = (only is_global (rs_of a b g.found.two) ++ only is_variable (rs_of a b g.found.two)) ++ only is_variable (ss_of a b g.found.two);
        gathered = got_2 n e;
        low = λ c h. omega (arith, second_part.end, g₂.low c _ second_part h);
        records = only is_mdr (rs_of a b g.found.two);
        stretch = third_part;
        small = omega (arith, third_part.end, most);
      }

      module _ {r₃ : ℕ} {T₃ t₃ : List ℕ} (n₃ : ℕ) (e₃ : n₃ ≡ (j - i) + (l - k)) (g₃ : Gathers a j (length a) n₃ T₂ t₂ r₃ T₃ t₃) where
        got_3 : (n : ℕ) → n ≡ n₃ + (length a - j) → Gathered (((only is_global (rs_of a b g.found.two) ++ only is_variable (rs_of a b g.found.two)) ++ only is_variable (ss_of a b g.found.two)) ++ only is_mdr (rs_of a b g.found.two)) T₃ t₃ n
        got_3 n e = gathered_at (omega (arith, third_part.end)) (g₃.all _ _ (got_2 n₃ e₃) third_part)

        pub gather_4 : (n : ℕ) → n ≡ n₃ + (length a - j) → Gatherable b l (length b) n T₃ t₃
        gather_4 n e = record {
          before = ((only is_global (rs_of a b g.found.two) ++ only is_variable (rs_of a b g.found.two)) ++ only is_variable (ss_of a b g.found.two)) ++ only is_mdr (rs_of a b g.found.two);
          gathered = got_3 n e;
          low = λ c h. omega (arith, third_part.end, g₃.low c _ third_part h);
          records = only is_mdr (ss_of a b g.found.two);
          stretch = fourth_part;
          small = omega (arith, fourth_part.end, most);
        }

        module _ {r₄ : ℕ} {T₄ t₄ : List ℕ} (n₄ : ℕ) (e₄ : n₄ ≡ n₃ + (length a - j)) (g₄ : Gathers b l (length b) n₄ T₃ t₃ r₄ T₄ t₄) where
          got_4 : Gathered (together (rs_of a b g.found.two) (ss_of a b g.found.two)) T₄ t₄ (n₄ + bytes (only is_mdr (ss_of a b g.found.two)))
          got_4 =
              subst (λ (ks : List (List ℕ)). Gathered ks T₄ t₄ (n₄ + bytes (only is_mdr (ss_of a b g.found.two))))
              (in_one (only is_global (rs_of a b g.found.two)) (only is_variable (rs_of a b g.found.two)) (only is_variable (ss_of a b g.found.two)) (only is_mdr (rs_of a b g.found.two)) (only is_mdr (ss_of a b g.found.two)))
              (g₄.all _ _ (got_3 n₄ e₄) fourth_part)
            where
              in_one : (p q u v w : List (List ℕ)) → (((p ++ q) ++ u) ++ v) ++ w ≡ p ++ (q ++ (u ++ (v ++ w)))
              in_one p q u v w = simp append_assoc

          -- no count is over the bytes
          pub few : (r₁ ≤ 2147483647) × (r₂ ≤ 2147483647) × (r₃ ≤ 2147483647) × (r₄ ≤ 2147483647)
          few = (
            omega (arith, g₁.many _ first_part, counted (only is_global (rs_of a b g.found.two) ++ only is_variable (rs_of a b g.found.two)) first_part.rest first_part.walk.own, aux_bytes, most),
            omega (arith, g₂.many _ second_part, counted (only is_variable (ss_of a b g.found.two)) second_part.rest second_part.walk.own, second_part.end, most),
            omega (arith, g₃.many _ third_part, counted (only is_mdr (rs_of a b g.found.two)) third_part.rest third_part.walk.own, third_part.end, most),
            omega (arith, g₄.many _ fourth_part, counted (only is_mdr (ss_of a b g.found.two)) fourth_part.rest fourth_part.walk.own, fourth_part.end, most),
          )
            where
              counted : (xs ys : List (List ℕ)) → ((r : List ℕ) → In r (xs ++ ys) → Own r) → length xs ≤ bytes xs
              counted [] ys f = omega arith
              counted (r ∷ xs) ys f = omega (arith, (f r (top refl)).least, counted xs ys (λ q n. f q (pop n)))

          pub all_gathered : Bytes a → Bytes b → {tally' : List ℕ} (front records : ℕ) → front ≡ cond (eqb x.sphr 0) 0 1 → tally' ≡ set t₄ 2 front → records ≡ front + r₁ + r₂ + r₃ + r₄ → Gathers2 a b x records T₄ tally'
          all_gathered u v front records e d w = record {
            few = omega (arith, w, few, one_most (eqb x.sphr 0) e);
            collected = collected g.found u v got_4 e d (g₁.many _ first_part) (g₂.many _ second_part) (g₃.many _ third_part) (g₄.many _ fourth_part) w;
          }

          pub long_4 : length T₄ ≡ 20480
          long_4 = got_4.holds.long

          pub nine_4 : length t₄ ≡ 9
          nine_4 = got_4.nine

-- ---- WHAT IS PUT
module _ {a b : List ℕ} {x y : Sections} {table totals : List ℕ} {at size : ℕ} {room : List ℕ} (p : JoinPlanned a b x y table totals at size room) where
  pub planned_header : (h : List ℕ) → length h ≡ 3307 → JoinHeaderFor (main_of a) (main_of b) totals size h
  planned_header h e = record {
    headers = two_headers p.matched.found.two;
    sums = p.matched.sums;
    counts = totals_fit p.planned.totals_of p.planned.holdable;
    small = omega (arith, p.planned.size_is, p.planned.holdable.size);
    long = e;
  }

  pub planned_first : 3307 + x.sphr + x.ipr + x.global + x.variable ≤ length a
  planned_first = omega (arith, sections_come p.matched.found.two.first p.matched.found.first)

  pub planned_pointers : 3307 + x.sphr + length (pointers_from a at table 0) ≡ at
  planned_pointers = omega (arith, pointers_long a p.holds p.kinded at, p.planned.base_is, p.matched.found.first.sphr)

four_texts :
    (x A B C E y₁ y₂ y₃ y₄ : List ℕ) (i j k l : ℕ) → j ≡ i + length A → k ≡ j + length B → l ≡ k + length C → y₁ ≡ sets x i A → y₂ ≡ sets y₁ j B → y₃ ≡ sets y₂ k C → y₄ ≡ sets y₃ l E
    → y₄ ≡ sets x i (A ++ (B ++ (C ++ E)))
four_texts x A B C E y₁ y₂ y₃ y₄ i j k l ej ek el e₁ e₂ e₃ e₄ =
    let a = sets_append x i A (B ++ (C ++ E)) ∙ ap (λ (n : ℕ). sets (sets x i A) n (B ++ (C ++ E))) (sym ej) ∙ ap (λ (z : List ℕ). sets z j (B ++ (C ++ E))) (sym e₁) in
    let b = sets_append y₁ j B (C ++ E) ∙ ap (λ (n : ℕ). sets (sets y₁ j B) n (C ++ E)) (sym ek) ∙ ap (λ (z : List ℕ). sets z k (C ++ E)) (sym e₂) in
    let c = sets_append y₂ k C E ∙ ap (λ (n : ℕ). sets (sets y₂ k C) n E) (sym el) ∙ ap (λ (z : List ℕ). sets z l E) (sym e₃) in
    e₄ ∙ sym (a ∙ b ∙ c)

-- the lines that are set are those of the join
lines_same :
    (m n totals : List ℕ) (size : ℕ) (ps : List (List ℕ)) → TotalsOf ps totals → size ≡ 3307 + bytes ps → join_lines_by m n totals size ≡ count_lines ps (join_lines m n)
lines_same m n totals size ps t e =
    let each = t.each in
    rw (
      e,
      t.all,
      t.main,
      each 2 (omega arith) (omega arith),
      each 3 (omega arith) (omega arith),
      each 4 (omega arith) (omega arith),
      each 5 (omega arith) (omega arith),
      each 6 (omega arith) (omega arith),
      each 7 (omega arith) (omega arith),
      each 8 (omega arith) (omega arith),
    ) refl

-- ---- the four stretches are the records of the join
module _ {a b : List ℕ} {x y : Sections} (s : Sections2 a b x y) (i j k l : ℕ)
    (ei : i ≡ 3307 + x.sphr + x.ipr) (ej : j ≡ i + x.global + x.variable) (ek : k ≡ 3307 + y.sphr + y.ipr + y.global) (el : l ≡ k + y.variable) where
  aux_part : Stretch a i j (only is_global (rs_of a b s.two) ++ only is_variable (rs_of a b s.two))
  aux_part = aux_stretch s.two.first s.first i j ei ej

  more_part : Stretch b k l (only is_variable (ss_of a b s.two))
  more_part = variable_stretch s.two.second s.second k l ek el

  mdr_part : Stretch a j (length a) (only is_mdr (rs_of a b s.two))
  mdr_part = mdr_stretch s.two.first s.first j (length a) (ej ∙ ap (λ (n : ℕ). n + x.global + x.variable) ei) refl

  other_part : Stretch b l (length b) (only is_mdr (ss_of a b s.two))
  other_part = mdr_stretch s.two.second s.second l (length b) (el ∙ ap (λ (n : ℕ). n + y.variable) ek) refl

  pub puts_records :
      (at : ℕ) (room y₁ y₂ y₃ y₄ : List ℕ) → y₁ ≡ sets room at (take (j - i) (drop i a)) → y₂ ≡ sets y₁ (at + (j - i)) (take (l - k) (drop k b))
      → y₃ ≡ sets y₂ (at + (j - i) + (l - k)) (take (length a - j) (drop j a)) → y₄ ≡ sets y₃ (at + (j - i) + (l - k) + (length a - j)) (take (length b - l) (drop l b))
      → PutsRecords a b at room y₄
  puts_records at room y₁ y₂ y₃ y₄ e₁ e₂ e₃ e₄ t =
      let rs = rs_of a b s.two in
      let ss = ss_of a b s.two in
      let g = only is_global rs ++ only is_variable rs in
      let v = only is_variable ss in
      let d = only is_mdr rs in
      let e = only is_mdr ss in
      let tg = stretch_text g (j - i) aux_part refl in
      let tv = stretch_text v (l - k) more_part refl in
      let td = stretch_text d (length a - j) mdr_part refl in
      let te = stretch_text e (length b - l) other_part refl in
      let lg : length (joined g) ≡ j - i = bytes_joined g ∙ omega (arith, aux_part.end) in
      let lv : length (joined v) ≡ l - k = bytes_joined v ∙ omega (arith, more_part.end) in
      let ld : length (joined d) ≡ length a - j = bytes_joined d ∙ omega (arith, mdr_part.end) in
      let four = four_texts room (joined g) (joined v) (joined d) (joined e) y₁ y₂ y₃ y₄ at (at + (j - i)) (at + (j - i) + (l - k)) (at + (j - i) + (l - k) + (length a - j))
      (ap (λ (n : ℕ). at + n) (sym lg)) (ap (λ (n : ℕ). at + (j - i) + n) (sym lv)) (ap (λ (n : ℕ). at + (j - i) + (l - k) + n) (sym ld))
      (e₁ ∙ ap (sets room at) tg) (e₂ ∙ ap (sets y₁ (at + (j - i))) tv) (e₃ ∙ ap (sets y₂ (at + (j - i) + (l - k))) td) (e₄ ∙ ap (sets y₃ (at + (j - i) + (l - k) + (length a - j))) te) in
      let kt : joined (together rs ss) ≡ joined g ++ (joined v ++ (joined d ++ joined e)) =
      ap joined (sym (append_assoc (only is_global rs) (only is_variable rs) (v ++ (d ++ e))))
      ∙ joined_append g (v ++ (d ++ e))
      ∙ ap (λ (q : List ℕ). joined g ++ q) (joined_append v (d ++ e) ∙ ap (λ (q : List ℕ). joined v ++ q) (joined_append d e)) in
      four ∙ ap (sets room at) (sym kt)
      ∙ ap (λ (q : List (List ℕ)). sets room at (joined (together q ss))) (first_same s.two t)
      ∙ ap (λ (q : List (List ℕ)). sets room at (joined (together (rs_of a b t) q))) (second_same s.two t)

module _ {a b : List ℕ} {x y : Sections} {table totals : List ℕ} {at size : ℕ} {room : List ℕ} (p : JoinPlanned a b x y table totals at size room) where
  pub planned_bytes : at + bytes (together (rs_of a b p.matched.found.two) (ss_of a b p.matched.found.two)) ≡ size
  planned_bytes = omega (arith, p.planned.size_is, p.planned.base_is, assembled_bytes (main_of a) (only is_sphr (rs_of a b p.matched.found.two)) (together (rs_of a b p.matched.found.two) (ss_of a b p.matched.found.two)))

  pub puts_join :
      {header x₁ x₂ x₃ x₄ : List ℕ} {to : ℕ} → JoinHeaderIs (main_of a) (main_of b) totals size header → x₁ ≡ sets room 0 (take 3307 (drop 0 header))
      → x₂ ≡ sets x₁ 3307 (take x.sphr (drop 3307 a)) → PutsText (pointers_from a at table 0) x₂ (3307 + x.sphr) to x₃ → PutsRecords a b at x₃ x₄ → PutsJoin a b room x₄
  puts_join {header} {x₁} {x₂} {x₃} {x₄} {to} lines e₁ e₂ q k =
      let s = p.matched.found in
      let t = s.two in
      let rs = rs_of a b t in
      let ss = ss_of a b t in
      let m = main_of a in
      let f = only is_sphr rs in
      let ks = together rs ss in
      let o = pointers m at (firsts 0 ks) in
      let h₁ : x₁ ≡ sets room 0 header = e₁ ∙ ap (sets room 0) (ap (take 3307) (drop-none header) ∙ take_all 3307 header (omega (arith, lines.long))) in
      let lf : length (joined f) ≡ x.sphr = bytes_joined f ∙ sym s.first.sphr in
      let h₂ : x₂ ≡ sets x₁ 3307 (joined f) = e₂ ∙ ap (sets x₁ 3307) (sphr_text t.first s.first) in
      let ot = pointers_text a p.holds p.kinded at in
      let n₃ : 3307 + x.sphr ≡ 3307 + length (joined f) = omega (arith, lf) in
      let h₃ : x₃ ≡ sets x₂ (3307 + length (joined f)) (joined o) = q.put ∙ ap (sets x₂ (3307 + x.sphr)) ot ∙ ap (λ (n : ℕ). sets x₂ n (joined o)) n₃ in
      let n₄ : at ≡ 3307 + length (joined f) + length (joined o) = omega (arith, planned_pointers p, lf, ap length ot) in
      let h₄ : x₄ ≡ sets x₃ (3307 + length (joined f) + length (joined o)) (joined ks) = k t ∙ ap (λ (n : ℕ). sets x₃ n (joined ks)) n₄ in
      record {
        two = t;
        header = header;
        lines = subst (λ (l : List Anew). Rewritten m header (values_of l)) (lines_same m (main_of b) totals size (join_parts m rs ss) p.planned.totals_of p.planned.size_is) lines;
        put = put_together room header (joined f) (joined o) (joined ks) x₁ x₂ x₃ x₄ lines.long h₁ h₂ h₃ h₄ ∙ ap (λ (l : List ℕ). sets room 0 (header ++ l)) (sym (assembled_text m f ks at p.planned.base_is));
      }
    where
      drop-none : (v : List ℕ) → drop 0 v ≡ v
      drop-none [] = refl
      drop-none (z ∷ v) = refl

-- ---- the times of the sections are those of the records
pub late_is :
    {a b : List ℕ} {x y : Sections} (i : Bool) {r : Bool} (s : Sections2 a b x y) → is_late i x.stop y.start ≡ r
    → is_late i (last_defined_stop (rs_of a b s.two)) (first_defined_start (ss_of a b s.two)) ≡ r
late_is {a} {b} {x} {y} i s e =
    ap (λ (t : Option Time). is_late i t (first_defined_start (ss_of a b s.two))) (sym s.first.stop) ∙ ap (λ (t : Option Time). is_late i x.stop t) (sym s.second.start) ∙ e

-- ---- THE ANSWERS
module _ {a b room : List ℕ} {i : Bool} where
  pub says_unlike : {r : Bool} (t : Two a b) → AlikeIs i a b r → r ≡ false → JoinIs i a b room (refused_at 26 0) room
  says_unlike t d e = both t.first t.second (unlike ((d t).wrong e))

  pub says_late : {r : Bool} (t : Two a b) → AlikeIs i a b r → r ≡ true → (InTime i (rs_of a b t) (ss_of a b t) → ⊥) → JoinIs i a b room (refused_at 27 0) room
  says_late t d e h = both t.first t.second (out_of_time ((d t).right e) h)

  pub says_sums :
      {r q : Bool} (t : Two a b) → AlikeIs i a b r → r ≡ true → InTime i (rs_of a b t) (ss_of a b t) → Decides (SumsFit (main_of a) (main_of b)) q → q ≡ false
      → JoinIs i a b room (refused_at 28 0) room
  says_sums t d e h s c = both t.first t.second (too_much ((d t).right e) h (λ j. s.wrong c j.sums))

-- whichever join it is of, where the two are alike and in time
module _ {a b : List ℕ} {x y : Sections} (m : Matched a b x y) where
  pub matched_is :
      {room exit : List ℕ} {r : Result ℕ Refusal}
      → ((i : Bool) → Alike i (main_of a) (main_of b) (rs_of a b m.found.two) (ss_of a b m.found.two) → InTime i (rs_of a b m.found.two) (ss_of a b m.found.two) → JoinIs i a b room r exit)
      → MatchedIs a b room r exit
  matched_is f i t al ti =
      let u = m.found.two in
      f i
      (subst (λ (l : List (List ℕ)). Alike i (main_of a) (main_of b) l (ss_of a b u)) (first_same t u) (subst (λ (l : List (List ℕ)). Alike i (main_of a) (main_of b) (rs_of a b t) l) (second_same t u) al))
      (subst (λ (l : List (List ℕ)). InTime i l (ss_of a b u)) (first_same t u) (subst (λ (l : List (List ℕ)). InTime i (rs_of a b t) l) (second_same t u) ti))

  module _ {room : List ℕ} {i : Bool} (al : Alike i (main_of a) (main_of b) (rs_of a b m.found.two) (ss_of a b m.found.two)) (ti : InTime i (rs_of a b m.found.two) (ss_of a b m.found.two)) where
    pub says_big : (n : ℕ) → n ≡ bytes (together (rs_of a b m.found.two) (ss_of a b m.found.two)) → 2147483647 < n → JoinIs i a b room (refused_at 28 0) room
    says_big n e h =
        let t = m.found.two in
        both t.first t.second (too_much al ti (λ j. omega (arith, j.holdable.size, assembled_bytes (main_of a) (only is_sphr (rs_of a b t)) (together (rs_of a b t) (ss_of a b t)))))

    pub says_unplanned :
        (n p : ℕ) → Unplanned (main_of a) (only is_sphr (rs_of a b m.found.two)) (together (rs_of a b m.found.two) (ss_of a b m.found.two)) (length room) n p
        → JoinIs i a b room (refused_at n p) room
    says_unplanned n p (big h) = let t = m.found.two in both t.first t.second (too_much al ti (λ j. h j.holdable))
    says_unplanned n p (long h l) = let t = m.found.two in both t.first t.second (no_room al ti record { holdable = h; sums = m.sums } l)

    pub says_written :
        {at size : ℕ} {totals exit : List ℕ} → Planned (main_of a) (only is_sphr (rs_of a b m.found.two)) (together (rs_of a b m.found.two) (ss_of a b m.found.two)) (length room) at size totals
        → PutsJoin a b room exit → JoinIs i a b room (Ok size) exit
    says_written {at} {size} {totals} {exit} p q =
        let t = q.two in
        let k = m.found.two in
        let rs = rs_of a b k in
        let ss = ss_of a b k in
        let n = join_size (main_of a) rs ss in
        let c = bytes_of q.header (join_parts (main_of a) rs ss) in
        let l : length c ≡ n = length-append q.header (joined (join_parts (main_of a) rs ss)) ∙ omega (arith, q.lines.long, bytes_joined (join_parts (main_of a) rs ss)) in
        let z : 0 + length c ≡ n = omega (arith, l) in
        let put : exit ≡ sets room 0 c = q.put ∙ ap (λ (u : List (List ℕ)). sets room 0 (bytes_of q.header (join_parts (main_of a) u (ss_of a b t)))) (first_same t k) ∙ ap (λ (u : List (List ℕ)). sets room 0 (bytes_of q.header (join_parts (main_of a) rs u))) (second_same t k) in
        let e : exit ≡ c ++ drop n room =
        put
        ∙ sets-eq c room 0 (omega (arith, l, p.fits, p.size_is))
        ∙ ap (λ (u : List ℕ). u ++ c ++ drop (0 + length c) room) (take-zero room)
        ∙ ap (λ (v : ℕ). c ++ drop v room) z in
        let lines = subst (λ (u : List (List ℕ)). Rewritten (main_of a) q.header (join_values (main_of a) (main_of b) rs u)) (second_same t k) (subst (λ (u : List (List ℕ)). Rewritten (main_of a) q.header (join_values (main_of a) (main_of b) u (ss_of a b t))) (first_same t k) q.lines) in
        let w : PartsJoin i (main_of a) (main_of b) rs ss room (Ok n) (c ++ drop n room) = written c al ti record { holdable = p.holdable; sums = m.sums } (omega (arith, p.fits, p.size_is)) record { header = q.header; lines = lines; whole = refl } in
        both k.first k.second (subst (λ (u : List ℕ). PartsJoin i (main_of a) (main_of b) rs ss room (Ok size) u) (sym e) (subst (λ (v : ℕ). PartsJoin i (main_of a) (main_of b) rs ss room (Ok v) (c ++ drop n room)) (sym p.size_is) w))
      where
        take-zero : (v : List ℕ) → take 0 v ≡ []
        take-zero [] = refl
        take-zero (y ∷ v) = refl

-- the same, at the code's names
pub kept_at : {fs ks : List (List ℕ)} {table tally : List ℕ} {front k n records : ℕ} → k ≡ n → Collected fs ks table tally front k records → Collected fs ks table tally front n records
kept_at {fs} {ks} {table} {tally} {front} {records = records} e c = subst (λ (i : ℕ). Collected fs ks table tally front i records) e c
