-- The field of a name (01, under the table of numbers: "A name lookup gives the field number whose unpadded name equals the lent bytes,
-- else 22"). Assumes nothing.
use Rattle.std.specs.Prelude.{ℕ, suc, Bool, true, false, cond, List, [], ◌∷◌, eqb}
use Rattle.mphr.specs.Layout.{rows}
use Rattle.calendar.specs.Said.{Said, answer, refusal, refused}
use Rattle.std.specs.declared.result.Result.TheVariants.{Ok, Err}
use Rattle.std.specs.declared.result.Result.{Result}
use Rattle.calendar.specs.declared.Refusal.{Refusal}

abbrev pub same : List ℕ → List ℕ → Bool
same [] [] = true
same [] (y ∷ ys) = false
same (x ∷ xs) [] = false
same (x ∷ xs) (y ∷ ys) = cond (eqb x y) (same xs ys) false

-- the first of the rows that is the name, counted from i; there is at most one, since no two are equal (proofs/NameLaws.antt)
abbrev pub look_from : List (List ℕ) → ℕ → List ℕ → Said ℕ
look_from [] i name = refusal 22 0
look_from (r ∷ rs) i name = cond (same name r) (answer i) (look_from rs (suc i) name)

abbrev pub field_named : List ℕ → Said ℕ
field_named name = look_from rows 0 name
