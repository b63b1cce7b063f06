-- THE TABLE IN WORDS: a record meets the Level 0 profile exactly where its class, group, subclass and version are those of 002's section 9 (`OfLevel0`). By
-- the class. Assumes nothing.
use Prim.Native.Nat.{ℕ, ◌≤◌, ◌<◌}
use native.Mathlib.Decide.{ℕ_discrete}
use native.Mathlib.Omega.{arith}
use mathlib.Core.Path.{◌≡◌, refl, sym, subst}
use mathlib.Core.Bool.{Bool, true, false, ◌&&◌, ◌||◌}
use mathlib.Core.Logic.{◌⊎◌, inl, inr}
use mathlib.Core.List.{List}
use borrow.Author.Tests.{ne_eqb, le-leb, leb-true, eqb-true}
use lib.Dec.{eqb, leb}
use Rattle.record.proofs.FieldLaws.{both}
use Rattle.judge.specs.Table.{class_at}
use Rattle.finish.specs.Rows.{group_at, subclass_at, version_at}
use Rattle.judge.specs.Profile.{is_let, allows, is_allowed}
use Rattle.level0.specs.Profile.{level0, OfLevel0}

-- ---- tests
or_left : (x : Bool) → (x || false) || false ≡ true → x ≡ true
or_left true e = refl
or_left false e = e

or_either : (x y : Bool) → (x || (y || false)) || false ≡ true → (x ≡ true) ⊎ (y ≡ true)
or_either true y e = inl refl
or_either false true e = inr refl
or_either false false e = inl e

or_true : (x : Bool) → x || true ≡ true
or_true true = refl
or_true false = refl

-- ---- from the table to the words
viadr_says : (g s v : ℕ) → allows level0 7 g s v ≡ true → (g ≡ 0) × (s ≡ 0) × (1 ≤ v) × (v ≤ 2)
unfolding level0 is_let
viadr_says g s v e =
    let p = both (eqb 0 g) (leb 0 s && (leb s 0 && (leb 1 v && leb v 2))) (or_left (eqb 0 g && (leb 0 s && (leb s 0 && (leb 1 v && leb v 2)))) e) in
    let q = both (leb 0 s) (leb s 0 && (leb 1 v && leb v 2)) p.1 in
    let r = both (leb s 0) (leb 1 v && leb v 2) q.1 in
    let t = both (leb 1 v) (leb v 2) r.1 in
    (sym (eqb-true 0 g p.0), omega (arith, leb-true s 0 r.0), leb-true 1 v t.0, leb-true v 2 t.1)

mdr_says : (g s v : ℕ) → allows level0 8 g s v ≡ true → (g ≡ 13) ⊎ ((g ≡ 0) × (s ≤ 4) × (v ≡ 1))
unfolding level0 is_let
mdr_says g s v e = go (or_either (eqb 0 g && (leb 0 s && (leb s 4 && (leb 1 v && leb v 1)))) (eqb 13 g && (leb 0 s && (leb s 255 && (leb 0 v && leb v 255)))) e)
  where
    go :
        ((eqb 0 g && (leb 0 s && (leb s 4 && (leb 1 v && leb v 1)))) ≡ true) ⊎ ((eqb 13 g && (leb 0 s && (leb s 255 && (leb 0 v && leb v 255)))) ≡ true)
        → (g ≡ 13) ⊎ ((g ≡ 0) × (s ≤ 4) × (v ≡ 1))
    go (inl f) =
        let p = both (eqb 0 g) (leb 0 s && (leb s 4 && (leb 1 v && leb v 1))) f in
        let q = both (leb 0 s) (leb s 4 && (leb 1 v && leb v 1)) p.1 in
        let r = both (leb s 4) (leb 1 v && leb v 1) q.1 in
        let t = both (leb 1 v) (leb v 1) r.1 in
        inr (sym (eqb-true 0 g p.0), leb-true s 4 r.0, omega (arith, leb-true 1 v t.0, leb-true v 1 t.1))
    go (inr f) = inl (sym (eqb-true 13 g (both (eqb 13 g) (leb 0 s && (leb s 255 && (leb 0 v && leb v 255))) f).0))

pub level0_says : (a : List ℕ) (i : ℕ) → is_allowed level0 a i ≡ true → OfLevel0 a i
level0_says a i e = record {
  viadr = λ d. viadr_says (group_at a i) (subclass_at a i) (version_at a i) (subst (λ (c : ℕ). allows level0 c (group_at a i) (subclass_at a i) (version_at a i) ≡ true) d e);
  mdr = λ d. mdr_says (group_at a i) (subclass_at a i) (version_at a i) (subst (λ (c : ℕ). allows level0 c (group_at a i) (subclass_at a i) (version_at a i) ≡ true) d e);
}

-- ---- and back; a byte is below 256
viadr_met : (g s v : ℕ) → g ≡ 0 → s ≡ 0 → 1 ≤ v → v ≤ 2 → allows level0 7 g s v ≡ true
unfolding level0 is_let
viadr_met g s v e d h l = rw (e, d, le-leb 1 v h, le-leb v 2 l) refl

mdr_met : (g s v : ℕ) → g ≡ 0 → s ≤ 4 → v ≡ 1 → allows level0 8 g s v ≡ true
unfolding level0 is_let
mdr_met g s v e h d = rw (e, d, le-leb 0 s (omega arith), le-leb s 4 h) refl

dummy_met : (g s v : ℕ) → g ≡ 13 → s < 256 → v < 256 → allows level0 8 g s v ≡ true
unfolding level0 is_let
dummy_met g s v e h l = rw (e, le-leb 0 s (omega arith), le-leb s 255 (omega arith), le-leb 0 v (omega arith), le-leb v 255 (omega arith)) refl

other_met : (c g s v : ℕ) → (c ≡ 7 → ⊥) → (c ≡ 8 → ⊥) → allows level0 c g s v ≡ true
unfolding level0 is_let
other_met c g s v n m = rw (ne_eqb 7 c (λ e. n (sym e)), ne_eqb 8 c (λ e. m (sym e))) refl

pub level0_met : (a : List ℕ) (i : ℕ) → subclass_at a i < 256 → version_at a i < 256 → OfLevel0 a i → is_allowed level0 a i ≡ true
level0_met a i h l o = go (ℕ_discrete (class_at a i) 7) (ℕ_discrete (class_at a i) 8)
  where
    go : Dec (class_at a i ≡ 7) → Dec (class_at a i ≡ 8) → is_allowed level0 a i ≡ true
    go (yes e) _ = let f = o.viadr e in rw e (viadr_met (group_at a i) (subclass_at a i) (version_at a i) f.0 f.1 f.2 f.3)
    go (no n) (yes e) = rw e (mdrs (o.mdr e))
      where
        mdrs : (group_at a i ≡ 13) ⊎ ((group_at a i ≡ 0) × (subclass_at a i ≤ 4) × (version_at a i ≡ 1)) → allows level0 8 (group_at a i) (subclass_at a i) (version_at a i) ≡ true
        mdrs (inl f) = dummy_met (group_at a i) (subclass_at a i) (version_at a i) f h l
        mdrs (inr (f, k, d)) = mdr_met (group_at a i) (subclass_at a i) (version_at a i) f k d
    go (no n) (no m) = other_met (class_at a i) (group_at a i) (subclass_at a i) (version_at a i) n m
