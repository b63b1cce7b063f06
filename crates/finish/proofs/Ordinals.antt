-- "the row's ordinal among rows of its triple, from 0": the ordinals in the rows of one class, group and subclass are 0, 1, 2 and so on, in the rows'
-- order. By induction on the records. Assumes nothing.
use Prim.Native.Nat.{ℕ, suc, ◌+◌}
use native.Mathlib.Omega.{arith}
use mathlib.Core.Path.{◌≡◌, refl, sym, ap, ◌∙◌}
use mathlib.Core.Bool.{Bool, true, false, cond, ◌&&◌}
use mathlib.Core.List.{List, [], ◌∷◌}
use borrow.Author.Tests.{eqb-true}
use lib.Dec.{eqb}
use Rattle.record.proofs.FieldLaws.{both}
use Rattle.judge.specs.Table.{class_at}
use Rattle.finish.specs.Rows.{group_at, subclass_at, is_of, how_many, ordinal, rows_after, rows_of}
use Rattle.finish.specs.Ordinals.{ordinals_of, up_from}

-- the triple of a row is its record's, so its ordinal is the number of those before
same_count : (a before : List ℕ) (c g s i : ℕ) → is_of a c g s i ≡ true → ordinal a before i ≡ how_many a c g s before
same_count a before c g s i e =
    let p = both (eqb (class_at a i) c) (eqb (group_at a i) g && eqb (subclass_at a i) s) e in
    let q = both (eqb (group_at a i) g) (eqb (subclass_at a i) s) p.1 in
    ap (λ (x : ℕ). how_many a x (group_at a i) (subclass_at a i) before) (eqb-true (class_at a i) c p.0)
    ∙ ap (λ (x : ℕ). how_many a c x (subclass_at a i) before) (eqb-true (group_at a i) g q.0)
    ∙ ap (λ (x : ℕ). how_many a c g x before) (eqb-true (subclass_at a i) s q.1)

up_suc : (n m k : ℕ) → k ≡ suc m → up_from n k ≡ n ∷ up_from (n + 1) m
up_suc n m k e = ap (up_from n) e

up_same : (n m n' m' : ℕ) → n ≡ n' → m ≡ m' → up_from n m ≡ up_from n' m'
up_same n m n' m' e f = rw (e, f) refl

pub ordinals_after : (a before l : List ℕ) (c g s : ℕ) → ordinals_of c g s (rows_after a before l) ≡ up_from (how_many a c g s before) (how_many a c g s l)
ordinals_after a before [] c g s = refl
ordinals_after a before (i ∷ l) c g s = go (is_of a c g s i) refl (ordinals_after a (i ∷ before) l c g s)
  where
    b : ℕ
    b = how_many a c g s before

    n : ℕ
    n = how_many a c g s l

    rest : List ℕ
    rest = ordinals_of c g s (rows_after a (i ∷ before) l)

    go : (t : Bool) → is_of a c g s i ≡ t → rest ≡ up_from (b + cond (is_of a c g s i) 1 0) n → cond (is_of a c g s i) (ordinal a before i ∷ rest) rest ≡ up_from b (n + cond (is_of a c g s i) 1 0)
    go true e h =
        let h' : rest ≡ up_from (b + 1) n = rw e at h in
        ap (λ (t : Bool). cond t (ordinal a before i ∷ rest) rest) e
        ∙ ap (λ (x : ℕ). x ∷ rest) (same_count a before c g s i e)
        ∙ ap (λ (x : List ℕ). b ∷ x) h'
        ∙ sym (up_suc b n (n + 1) (omega arith))
        ∙ ap (λ (t : Bool). up_from b (n + cond t 1 0)) (sym e)
    go false e h =
        let h' : rest ≡ up_from (b + 0) n = rw e at h in
        ap (λ (t : Bool). cond t (ordinal a before i ∷ rest) rest) e
        ∙ h'
        ∙ up_same (b + 0) n b (n + 0) (omega arith) (omega arith)
        ∙ ap (λ (t : Bool). up_from b (n + cond t 1 0)) (sym e)

-- THE LAW
pub ordinals_of_lem : (a l : List ℕ) (c g s : ℕ) → ordinals_of c g s (rows_of a l) ≡ up_from 0 (how_many a c g s l)
ordinals_of_lem a l c g s = ordinals_after a [] l c g s
