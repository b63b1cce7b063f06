-- THE JOIN IS A PRODUCT (02, request Seven), whatever header fits its list; every MDR of the two is in it once. By
-- the law of assembled lists; the order by sections. Assumes nothing.
use Prim.Native.Nat.{ℕ, ◌+◌, ◌≤◌}
use native.Mathlib.Omega.{arith}
use mathlib.Core.Path.{◌≡◌, refl, ap, ◌∙◌}
use mathlib.Core.Bool.{Bool, true, false, ◌&&◌}
use mathlib.Core.Logic.{⊎_elim}
use mathlib.Core.List.Memᴰ.{append_cases as in-append}
use mathlib.Core.List.{List, [], ◌∷◌, ◌++◌, Memᴰ as In, append-nil}
use borrow.Author.Tests.{ne_eqb, lt-leb}
use lib.Dec.{leb}
use Rattle.demands.specs.Product.{class}
use Rattle.parts.specs.Parts.{bytes, Own, Follows, Fits, Tiles, Built}
use Rattle.parts.specs.Only.{only, is_of, is_in, is_sphr, is_global, is_variable, is_mdr}
use Rattle.parts.specs.Pointers.{Entry, part, word, firsts, ipr, pointers, base, assembled}
use Rattle.parts.specs.Join.{together, join_parts}
use Rattle.parts.proofs.OnlyLaws.{only_in, only_append, only_none, only_all}
use Rattle.parts.proofs.FollowLaws.{only_follows, section, sect_global, sect_variable, sect_mdr}
use Rattle.parts.proofs.Assembled.{Ready, assembled_tiles, assembled_bytes, after_three}
use Rattle.parts.proofs.CutLaws.{of_class, in_classes, assembled_only, assembled_front, assembled_pointers, low_mdr, low_in}

module _ (rs : List (List ℕ)) where
  global_in : (r : List ℕ) → In r (only is_global rs) → (4 ≤ class r 0) × (class r 0 ≤ 5)
  global_in r n = in_classes 4 5 r (only_in is_global r rs n).1

  variable_in : (r : List ℕ) → In r (only is_variable rs) → (6 ≤ class r 0) × (class r 0 ≤ 7)
  variable_in r n = in_classes 6 7 r (only_in is_variable r rs n).1

  mdr_in : (r : List ℕ) → In r (only is_mdr rs) → class r 0 ≡ 8
  mdr_in r n = of_class {c = 8} r (only_in is_mdr r rs n).1

-- where each record of the two comes from
module _ (rs ss : List (List ℕ)) (P : List ℕ → Type 0)
    (g : (r : List ℕ) → In r (only is_global rs) → P r)
    (v : (r : List ℕ) → In r (only is_variable rs) → P r)
    (v' : (r : List ℕ) → In r (only is_variable ss) → P r)
    (d : (r : List ℕ) → In r (only is_mdr rs) → P r)
    (d' : (r : List ℕ) → In r (only is_mdr ss) → P r) where
  of_each : (r : List ℕ) → In r (together rs ss) → P r
  of_each r n =
      ⊎_elim (g r)
      (λ n. ⊎_elim (v r) (λ n. ⊎_elim (v' r) (λ n. ⊎_elim (d r) (d' r) (in-append (only is_mdr rs) n)) (in-append (only is_variable ss) n)) (in-append (only is_variable rs) n))
      (in-append (only is_global rs) n)

module _ (rs ss : List (List ℕ)) where
  together_follows : Follows 3 (together rs ss)
  together_follows =
      section 4 3 (only is_global rs) _ (omega (arith, after_three)) (λ r n. let k = global_in rs r n in sect_global r k.0 k.1)
      (λ q h. section 6 q (only is_variable rs) _ (omega arith) (λ r n. let k = variable_in rs r n in sect_variable r k.0 k.1)
      (λ q h. section 6 q (only is_variable ss) _ (omega arith) (λ r n. let k = variable_in ss r n in sect_variable r k.0 k.1)
      (λ q h. section 8 q (only is_mdr rs) _ (omega arith) (λ r n. sect_mdr r (mdr_in rs r n))
      (λ q h. rw append-nil at (section 8 q (only is_mdr ss) [] h (λ r n. sect_mdr r (mdr_in ss r n)) (λ q h. tt))))))

  together_four : (r : List ℕ) → In r (together rs ss) → 4 ≤ class r 0
  together_four =
      of_each rs ss (λ (r : List ℕ). 4 ≤ class r 0) (λ r n. (global_in rs r n).0) (λ r n. omega (arith, variable_in rs r n)) (λ r n. omega (arith, variable_in ss r n)) (λ r n. omega (arith, mdr_in rs r n)) (λ r n. omega (arith, mdr_in ss r n))

  module _ (t : Tiles rs) (u : Tiles ss) where
    join_ready : Ready (only is_sphr rs) (together rs ss)
    join_ready = record {
      front_own = λ r n. t.own r (only_in is_sphr r rs n).0;
      front_two = λ r n. of_class {c = 2} r (only_in is_sphr r rs n).1;
      front_order = only_follows is_sphr 1 1 rs (omega arith) t.order;
      own =
          of_each rs ss Own (λ r n. t.own r (only_in is_global r rs n).0) (λ r n. t.own r (only_in is_variable r rs n).0) (λ r n. u.own r (only_in is_variable r ss n).0) (λ r n. t.own r (only_in is_mdr r rs n).0) (λ r n. u.own r (only_in is_mdr r ss n).0);
      four = together_four;
      order = together_follows;
    }

-- ---- THE LAW
pub join_tiles : {m n : List ℕ} {rs ss : List (List ℕ)} → Built m rs → Built n ss → 3307 + bytes (join_parts m rs ss) ≤ 2147483647 → Tiles (join_parts m rs ss)
join_tiles {m} {rs = rs} {ss = ss} b c h =
    assembled_tiles m (only is_sphr rs) (together rs ss) (join_ready rs ss b.tiles c.tiles) b.fits.header.times
    (omega (arith, assembled_bytes m (only is_sphr rs) (together rs ss)))

pub join_built : {m n m' : List ℕ} {rs ss : List (List ℕ)} → Built m rs → Built n ss → Fits m' (join_parts m rs ss) → Built m' (join_parts m rs ss)
join_built b c f = record { fits = f; tiles = join_tiles b c (omega (arith, f.come, f.header.most)) }

-- ---- WHAT IS IN IT
mdr_low : (d : ℕ) (r : List ℕ) → class r 0 ≡ 8 → d ≤ 7 → (c : ℕ) → is_in c d r ≡ false
mdr_low d r e h c = go (leb c (class r 0))
  where
    go : (b : Bool) → b && leb (class r 0) d ≡ false
    go true = lt-leb (class r 0) d (omega arith)
    go false = refl

module _ (m : List ℕ) (rs ss : List (List ℕ)) where
  two_in : (r : List ℕ) → In r (only is_sphr rs) → class r 0 ≡ 2
  two_in r n = of_class {c = 2} r (only_in is_sphr r rs n).1

  split : (f : List ℕ → Bool) → only f (together rs ss) ≡ only f (only is_global rs) ++ (only f (only is_variable rs) ++ (only f (only is_variable ss) ++ (only f (only is_mdr rs) ++ only f (only is_mdr ss))))
  split f = simp (only_append f) refl

  -- "Every MDR of the inputs is in the result once"
  pub join_mdrs : only is_mdr (join_parts m rs ss) ≡ only is_mdr rs ++ only is_mdr ss
  join_mdrs =
      assembled_only m (only is_sphr rs) (together rs ss) two_in is_mdr low_mdr ∙ split is_mdr
      ∙ rw (
        only_none is_mdr (only is_global rs) (λ r n. ne_eqb (class r 0) 8 (λ e. omega (arith, global_in rs r n))),
        only_none is_mdr (only is_variable rs) (λ r n. ne_eqb (class r 0) 8 (λ e. omega (arith, variable_in rs r n))),
        only_none is_mdr (only is_variable ss) (λ r n. ne_eqb (class r 0) 8 (λ e. omega (arith, variable_in ss r n))),
        only_all is_mdr (only is_mdr rs) (λ r n. (only_in is_mdr r rs n).1),
        only_all is_mdr (only is_mdr ss) (λ r n. (only_in is_mdr r ss n).1),
      )

  pub join_variables : only is_variable (join_parts m rs ss) ≡ only is_variable rs ++ only is_variable ss
  join_variables =
      assembled_only m (only is_sphr rs) (together rs ss) two_in is_variable (λ r h. low_in 6 7 r (omega arith) h) ∙ split is_variable
      ∙ rw (
        only_none is_variable (only is_global rs) (λ r n. rw (lt-leb 6 (class r 0) (omega (arith, global_in rs r n))) refl),
        only_all is_variable (only is_variable rs) (λ r n. (only_in is_variable r rs n).1),
        only_all is_variable (only is_variable ss) (λ r n. (only_in is_variable r ss n).1),
        only_none is_variable (only is_mdr rs) (λ r n. mdr_low 7 r (mdr_in rs r n) (omega arith) 6),
        only_none is_variable (only is_mdr ss) (λ r n. mdr_low 7 r (mdr_in ss r n) (omega arith) 6),
      ) (ap (λ (l : List (List ℕ)). only is_variable rs ++ l) (append-nil (only is_variable ss)))

  pub join_globals : only is_global (join_parts m rs ss) ≡ only is_global rs
  join_globals =
      assembled_only m (only is_sphr rs) (together rs ss) two_in is_global (λ r h. low_in 4 5 r (omega arith) h) ∙ split is_global
      ∙ rw (
        only_all is_global (only is_global rs) (λ r n. (only_in is_global r rs n).1),
        only_none is_global (only is_variable rs) (λ r n. high r (variable_in rs r n).0),
        only_none is_global (only is_variable ss) (λ r n. high r (variable_in ss r n).0),
        only_none is_global (only is_mdr rs) (λ r n. mdr_low 5 r (mdr_in rs r n) (omega arith) 4),
        only_none is_global (only is_mdr ss) (λ r n. mdr_low 5 r (mdr_in ss r n) (omega arith) 4),
      ) (append-nil (only is_global rs))
    where
      high : (r : List ℕ) → 6 ≤ class r 0 → is_global r ≡ false
      high r h = go (leb 4 (class r 0))
        where
          go : (b : Bool) → b && leb (class r 0) 5 ≡ false
          go true = lt-leb (class r 0) 5 (omega arith)
          go false = refl

  pub join_sphr : only is_sphr (join_parts m rs ss) ≡ only is_sphr rs
  join_sphr = assembled_front m (only is_sphr rs) (together rs ss) two_in (together_four rs ss)

  -- "IPRs as in request Three": what `firsts` gives is told by `firsts-are`
  pub join_pointers : only (is_of 3) (join_parts m rs ss) ≡ pointers m (base (only is_sphr rs) (together rs ss)) (firsts 0 (together rs ss))
  join_pointers = assembled_pointers m (only is_sphr rs) (together rs ss) two_in (together_four rs ss)

-- ---- of the main header the pointers have its times alone
ipr_same : (m m' r : List ℕ) (t : ℕ) → part m 8 12 ≡ part m' 8 12 → ipr m r t ≡ ipr m' r t
ipr_same m m' r t e = ap (λ (l : List ℕ). 3 ∷ 0 ∷ 0 ∷ 1 ∷ 0 ∷ 0 ∷ 0 ∷ 27 ∷ (l ++ (part r 0 3 ++ word t))) e

pointers_same : (m m' : List ℕ) (b : ℕ) (es : List Entry) → part m 8 12 ≡ part m' 8 12 → pointers m b es ≡ pointers m' b es
pointers_same m m' b [] e = refl
pointers_same m m' b (x ∷ es) e =
    ap (λ (r : List ℕ). r ∷ pointers m b es) (ipr_same m m' x.first (b + x.at) e) ∙ ap (λ (l : List (List ℕ)). ipr m' x.first (b + x.at) ∷ l) (pointers_same m m' b es e)

pub assembled_same : (m m' : List ℕ) (front ks : List (List ℕ)) → part m 8 12 ≡ part m' 8 12 → assembled m front ks ≡ assembled m' front ks
assembled_same m m' front ks e = ap (λ (l : List (List ℕ)). front ++ (l ++ ks)) (pointers_same m m' (base front ks) (firsts 0 ks) e)
