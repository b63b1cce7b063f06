-- WHAT THE CHECK OF A CUT ANSWERS (02, request Ten: "Given an original and a cut, both judged first, say yes exactly when the cut's MDRs are a run-through
-- of the original's in order (some left out, none changed or repeated), the SPHR and auxiliary records are byte-identical and in order, none missing, and
-- the four fields named in request Seven agree. .. Refusals: the original's own, then the cut's own; a plain no has place 0 for a field, else the start of
-- the first cut record that can't be matched (SPHR and auxiliary records against the original's next such, each MDR taking the earliest match left), else
-- the cut's length"). The yes is a relation (`IsCutOf`), the place of a no is the walk's (`verdict` of parts, specs/Against.antt). Assumes nothing.
use Rattle.std.specs.Prelude.{ℕ, ◌+◌, ◌≡◌, length}
use mathlib.Core.List.{List, [], ◌∷◌, ◌++◌, Memᴰ as In}
use Rattle.calendar.specs.declared.Refusal.{Refusal}
use Rattle.finish.specs.Finish.{VerdictIs}
use Rattle.std.specs.declared.option.Option.TheVariants.{Some, None}
use Rattle.std.specs.declared.result.Result.TheVariants.{Ok, Err}
use Rattle.std.specs.declared.option.Option.{Option}
use Rattle.std.specs.declared.result.Result.{Result}
use Rattle.demands.specs.Product.{Meets}
use Rattle.parts.specs.Parts.{bytes, main_of, records_at}
use Rattle.parts.specs.Only.{only, is_mdr}
use Rattle.parts.specs.Against.{CutOf, unlike, is_fixed, verdict, Matches}
use Rattle.parts.specs.Pass.{FourAgree}

-- A CUT, by the parts: the main header n and the records cs after it are those of a cut of a product of main header m and records rs
pub record IsCutOf (m n : List ℕ) (rs cs : List (List ℕ)) : Type 0 where
  pub fields : FourAgree m n
  pub records : CutOf cs rs

-- of an original and a cut, by their parts
pub data PartsCheck (m n : List ℕ) (rs cs : List (List ℕ)) : Result (Option ℕ) Refusal → Type 0 where
  is : IsCutOf m n rs cs → PartsCheck m n rs cs (Ok None)
  other_field : (FourAgree m n → ⊥) → PartsCheck m n rs cs (Ok (Some 0))
  unmatched : (p : ℕ) → FourAgree m n → verdict cs rs ≡ unlike p → PartsCheck m n rs cs (Ok (Some p))

-- of the bytes a of an original and b of a cut
pub data CheckIs (a b : List ℕ) : Result (Option ℕ) Refusal → Type 0 where
  original_unfit : (r : Refusal) → VerdictIs a (Err r) → CheckIs a b (Err r)
  cut_unfit : (r : Refusal) → Meets a → VerdictIs b (Err r) → CheckIs a b (Err r)
  both :
      {r : Result (Option ℕ) Refusal} (t : Meets a) (u : Meets b) → PartsCheck (main_of a) (main_of b) (records_at a t.list) (records_at b u.list) r → CheckIs a b r

-- YES, of the bytes a and b: two products, and the second is a cut of the first
pub record Cut (a b : List ℕ) : Type 0 where
  pub original : Meets a
  pub cut : Meets b
  pub parts : IsCutOf (main_of a) (main_of b) (records_at a original.list) (records_at b cut.list)

-- WHERE A NO STANDS, told apart from the walk: "place 0 for a field", and the fields differ; "else the start of the first cut record that can't be matched": a
-- record of the cut starts there, those before it can be matched with the original's, and with it they cannot; "else the cut's length": all can be matched,
-- and one of the original's SPHR and auxiliary records is left
pub data NotAt (m n : List ℕ) (rs cs : List (List ℕ)) (starts : List ℕ) (long : ℕ) : ℕ → Type 0 where
  field : (FourAgree m n → ⊥) → NotAt m n rs cs starts long 0
  at_record :
      (p : ℕ) (xs : List (List ℕ)) (y : List ℕ) (ys : List (List ℕ)) → FourAgree m n → In p starts → p ≡ 3307 + bytes xs → cs ≡ xs ++ (y ∷ ys)
      → Matches (only is_fixed rs) (only is_mdr rs) xs → (Matches (only is_fixed rs) (only is_mdr rs) (xs ++ (y ∷ [])) → ⊥) → NotAt m n rs cs starts long p
  at_end : FourAgree m n → (k : Matches (only is_fixed rs) (only is_mdr rs) cs) → (k.left ≡ [] → ⊥) → NotAt m n rs cs starts long long

-- of the bytes a and b
pub record No (a b : List ℕ) (p : ℕ) : Type 0 where
  pub original : Meets a
  pub cut : Meets b
  pub stands : NotAt (main_of a) (main_of b) (records_at a original.list) (records_at b cut.list) cut.list (length b) p
