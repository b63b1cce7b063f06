-- THE SECTIONS AS STRETCHES: each section of a product is one stretch of its bytes, which is its records one after the other; and records by their own bytes
-- are told by these bytes. Assumes nothing.
use Prim.Native.Nat.{ℕ, ◌+◌, ◌-◌, ◌≤◌}
use native.Mathlib.Omega.{arith}
use mathlib.Core.Path.{◌≡◌, refl, sym, ap, subst, ◌∙◌}
use mathlib.Core.Bool.{Bool, true, false}
use mathlib.Core.List.Memᴰ.{append_cases as in-append}
use mathlib.Core.List.Memᴰ.{head as top}
use mathlib.Core.List.Memᴰ.{tail as pop}
use mathlib.Core.List.{List, [], ◌∷◌, ◌++◌, append-nil, append_assoc, Memᴰ as In}
use mathlib.Core.Logic.{⊎_elim}
use borrow.Author.Tests.{ne_eqb, lt-leb, leb-true}
use native.Mathlib.Decide.{ℕ_discrete}
use lib.Dec.{leb}
use lib.ListN.{length, take, drop}
use lib.Seq.{take_at, drop_at, drop-drop}
use Rattle.demands.specs.Product.{class, Meets}
use Rattle.parts.specs.Parts.{joined, bytes, Own, records_at}
use Rattle.parts.specs.Only.{only, is_in, is_sphr, is_global, is_variable, is_mdr}
use Rattle.parts.specs.Walk.{Walk}
use Rattle.parts.proofs.Built.{bytes_joined, meets_built}
use Rattle.parts.proofs.OnlyLaws.{only_in}
use Rattle.parts.proofs.CutLaws.{of_class, in_classes}
use Rattle.parts.proofs.Sections.{only_same_in, sections}
use Rattle.parts.proofs.WalkLaws.{walk_first, walk_length, one_walk}
use Rattle.rewrite.specs.declared.sections.Sections.{Sections}
use Rattle.rewrite.specs.Sectioning.{SectionsAre}
use Rattle.rewrite.specs.Gathering.{Stretch}
use Rattle.rewrite.proofs.AssembleLaws.{joined_append}

pub bytes_append : (xs ys : List (List ℕ)) → bytes (xs ++ ys) ≡ bytes xs + bytes ys
bytes_append [] ys = omega arith
bytes_append (x ∷ xs) ys = omega (arith, bytes_append xs ys)

in_left : (xs ys : List (List ℕ)) (r : List ℕ) → In r xs → In r (xs ++ ys)
in_left [] ys r n = elim n [ ]
in_left (x ∷ xs) ys r (top e) = top e
in_left (x ∷ xs) ys r (pop n) = pop (in_left xs ys r n)

in_right : (xs ys : List (List ℕ)) (r : List ℕ) → In r ys → In r (xs ++ ys)
in_right [] ys r n = n
in_right (x ∷ xs) ys r n = pop (in_right xs ys r n)

-- ---- a walk, after the first records
pub walk_on : {a : List ℕ} {i j : ℕ} (xs ys : List (List ℕ)) → Walk a i (xs ++ ys) → j ≡ i + bytes xs → Walk a j ys
walk_on {a} {i} {j} xs ys w e =
    let n = walk_length w in
    let b = bytes_append xs ys in
    let d : drop j a ≡ joined ys =
    ap (λ (k : ℕ). drop k a) e ∙ sym (drop-drop (bytes xs) i a) ∙ ap (drop (bytes xs)) (w.left ∙ joined_append xs ys) ∙ drop_at (joined xs) (joined ys) (bytes xs) (bytes_joined xs) in
    record { within = omega arith; left = d; own = λ r m. w.own r (in_right xs ys r m) }

-- and their text
pub walk_text : {a : List ℕ} {i : ℕ} (xs ys : List (List ℕ)) (n : ℕ) → Walk a i (xs ++ ys) → n ≡ bytes xs → take n (drop i a) ≡ joined xs
walk_text xs ys n w e = ap (take n) (w.left ∙ joined_append xs ys) ∙ take_at (joined xs) (joined ys) n (bytes_joined xs ∙ sym e)

-- ---- records are told by their bytes
walk_of : (xs : List (List ℕ)) → ((r : List ℕ) → In r xs → Own r) → Walk (joined xs) 0 xs
walk_of xs f = record { within = omega arith; left = none (joined xs); own = f }
  where
    none : (l : List ℕ) → drop 0 l ≡ l
    none [] = refl
    none (x ∷ l) = refl

pub one_text : (xs ys : List (List ℕ)) → ((r : List ℕ) → In r xs → Own r) → ((r : List ℕ) → In r ys → Own r) → joined xs ≡ joined ys → xs ≡ ys
one_text xs ys f g e = one_walk xs ys (walk_of xs f) (subst (λ (l : List ℕ). Walk l 0 ys) (sym e) (walk_of ys g))

pub text_walk : {l : List ℕ} (xs : List (List ℕ)) → ((r : List ℕ) → In r xs → Own r) → l ≡ joined xs → Walk l 0 xs
text_walk xs f e = subst (λ (l : List ℕ). Walk l 0 xs) (sym e) (walk_of xs f)

-- ---- OF A PRODUCT
mdr_same : (rs : List (List ℕ)) → only (is_in 8 8) rs ≡ only is_mdr rs
mdr_same rs = only_same_in (is_in 8 8) is_mdr rs (λ r _. go r (ℕ_discrete (class r 0) 8))
  where
    go : (r : List ℕ) → Dec (class r 0 ≡ 8) → is_in 8 8 r ≡ is_mdr r
    go r (yes e) = rw e refl
    go r (no d) = ne r d
      where
        ne : (r : List ℕ) → (class r 0 ≡ 8 → ⊥) → is_in 8 8 r ≡ is_mdr r
        ne r d = sides (leb 8 (class r 0)) refl
          where
            sides : (b : Bool) → leb 8 (class r 0) ≡ b → is_in 8 8 r ≡ is_mdr r
            sides true u = rw (u, ne_eqb (class r 0) 8 d) (lt-leb (class r 0) 8 (omega (arith, leb-true 8 (class r 0) u, d)))
            sides false u = rw (u, ne_eqb (class r 0) 8 d) refl

module _ {a : List ℕ} {x : Sections} (t : Meets a) (f : SectionsAre (records_at a t.list) x) where
  walk_2 : Walk a 3307 (only is_sphr (records_at a t.list) ++ (only (is_in 3 3) (records_at a t.list) ++ (only is_global (records_at a t.list) ++ (only is_variable (records_at a t.list) ++ only is_mdr (records_at a t.list)))))
  walk_2 =
      let rs = records_at a t.list in
      subst (Walk a 3307) (sections rs (meets_built a t).tiles.order ∙ ap (λ (l : List (List ℕ)). only is_sphr rs ++ (only (is_in 3 3) rs ++ (only is_global rs ++ (only is_variable rs ++ l)))) (mdr_same rs)) (walk_first a t)

  walk_3 : Walk a (3307 + x.sphr) (only (is_in 3 3) (records_at a t.list) ++ (only is_global (records_at a t.list) ++ (only is_variable (records_at a t.list) ++ only is_mdr (records_at a t.list))))
  walk_3 = walk_on (only is_sphr (records_at a t.list)) _ walk_2 (omega (arith, f.sphr))

  walk_4 : Walk a (3307 + x.sphr + x.ipr) (only is_global (records_at a t.list) ++ (only is_variable (records_at a t.list) ++ only is_mdr (records_at a t.list)))
  walk_4 = walk_on (only (is_in 3 3) (records_at a t.list)) _ walk_3 (omega (arith, f.ipr))

  walk_6 : Walk a (3307 + x.sphr + x.ipr + x.global) (only is_variable (records_at a t.list) ++ only is_mdr (records_at a t.list))
  walk_6 = walk_on (only is_global (records_at a t.list)) _ walk_4 (omega (arith, f.global))

  walk_8 : Walk a (3307 + x.sphr + x.ipr + x.global + x.variable) (only is_mdr (records_at a t.list))
  walk_8 = walk_on (only is_variable (records_at a t.list)) _ walk_6 (omega (arith, f.variable))

  pub sections_come : 3307 + x.sphr + x.ipr + x.global + x.variable + bytes (only is_mdr (records_at a t.list)) ≡ length a
  sections_come = walk_length walk_8

  own : (r : List ℕ) → In r (records_at a t.list) → Own r
  own = (meets_built a t).tiles.own

  -- the SPHR and the global records, by their text
  pub sphr_text : take x.sphr (drop 3307 a) ≡ joined (only is_sphr (records_at a t.list))
  sphr_text = walk_text (only is_sphr (records_at a t.list)) _ x.sphr walk_2 f.sphr

  pub global_text : take x.global (drop (3307 + x.sphr + x.ipr) a) ≡ joined (only is_global (records_at a t.list))
  global_text = walk_text (only is_global (records_at a t.list)) _ x.global walk_4 f.global

  pub sphr_own : (r : List ℕ) → In r (only is_sphr (records_at a t.list)) → Own r
  sphr_own r n = own r (only_in is_sphr r (records_at a t.list) n).0

  pub global_own : (r : List ℕ) → In r (only is_global (records_at a t.list)) → Own r
  global_own r n = own r (only_in is_global r (records_at a t.list) n).0

  -- ---- what goes into a join
  global_range : (r : List ℕ) → In r (only is_global (records_at a t.list)) → (4 ≤ class r 0) × (class r 0 ≤ 5)
  global_range r n = in_classes 4 5 r (only_in is_global r (records_at a t.list) n).1

  variable_range : (r : List ℕ) → In r (only is_variable (records_at a t.list)) → (6 ≤ class r 0) × (class r 0 ≤ 7)
  variable_range r n = in_classes 6 7 r (only_in is_variable r (records_at a t.list) n).1

  mdr_range : (r : List ℕ) → In r (only is_mdr (records_at a t.list)) → class r 0 ≡ 8
  mdr_range r n = of_class {c = 8} r (only_in is_mdr r (records_at a t.list) n).1

  pub aux_stretch : (i j : ℕ) → i ≡ 3307 + x.sphr + x.ipr → j ≡ i + x.global + x.variable → Stretch a i j (only is_global (records_at a t.list) ++ only is_variable (records_at a t.list))
  aux_stretch i j e d =
      let g = only is_global (records_at a t.list) in
      let v = only is_variable (records_at a t.list) in
      record {
        rest = only is_mdr (records_at a t.list);
        walk = subst (λ (k : ℕ). Walk a k ((g ++ v) ++ only is_mdr (records_at a t.list))) (sym e) (subst (Walk a (3307 + x.sphr + x.ipr)) (sym (append_assoc g v (only is_mdr (records_at a t.list)))) walk_4);
        end = omega (arith, bytes_append g v, f.global, f.variable);
        four = λ r n. ⊎_elim (λ m. (global_range r m).0) (λ m. omega (arith, variable_range r m)) (in-append g n);
        eight = λ r n. ⊎_elim (λ m. omega (arith, global_range r m)) (λ m. omega (arith, variable_range r m)) (in-append g n);
      }

  pub variable_stretch : (i j : ℕ) → i ≡ 3307 + x.sphr + x.ipr + x.global → j ≡ i + x.variable → Stretch a i j (only is_variable (records_at a t.list))
  variable_stretch i j e d = record {
    rest = only is_mdr (records_at a t.list);
    walk = subst (λ (k : ℕ). Walk a k (only is_variable (records_at a t.list) ++ only is_mdr (records_at a t.list))) (sym e) walk_6;
    end = omega (arith, f.variable);
    four = λ r n. omega (arith, variable_range r n);
    eight = λ r n. omega (arith, variable_range r n);
  }

  pub mdr_stretch : (i j : ℕ) → i ≡ 3307 + x.sphr + x.ipr + x.global + x.variable → j ≡ length a → Stretch a i j (only is_mdr (records_at a t.list))
  mdr_stretch i j e d = record {
    rest = [];
    walk = subst (λ (k : ℕ). Walk a k (only is_mdr (records_at a t.list) ++ [])) (sym e) (subst (Walk a (3307 + x.sphr + x.ipr + x.global + x.variable)) (sym (append-nil (only is_mdr (records_at a t.list)))) walk_8);
    end = omega (arith, sections_come);
    four = λ r n. omega (arith, mdr_range r n);
    eight = λ r n. omega (arith, mdr_range r n);
  }

-- the text of a stretch
pub stretch_text : {a : List ℕ} {i j : ℕ} (xs : List (List ℕ)) (n : ℕ) → Stretch a i j xs → n ≡ j - i → take n (drop i a) ≡ joined xs
stretch_text xs n s e = walk_text xs s.rest n s.walk (omega (arith, s.end))
