-- The answers that a program puts together, and how it counts. Assumes nothing.
use Rattle.std.specs.Prelude.{ℕ, ◌+◌, ◌%◌, ◌^◌, Bool, true, false, List, [], ◌∷◌, slice_index, slice_set}
use Rattle.calendar.specs.declared.Refusal.{Refusal}
use Rattle.std.specs.declared.result.Result.TheVariants.{Ok, Err}
use Rattle.std.specs.declared.result.Result.{Result}
use Rattle.cases.specs.declared.answer.Answer.{Answer}
use Rattle.cases.specs.declared.counts.Counts.{Counts}

abbrev pub answer_of : ℕ → ℕ → List ℕ → Bool → Answer
answer_of tag number values kept = record { tag = tag; number = number; values = values; kept = kept }

abbrev pub values_of : ℕ → ℕ → ℕ → ℕ → ℕ → Answer
values_of a b c d e = answer_of 0 0 (a ∷ b ∷ c ∷ d ∷ e ∷ []) true

-- a refusal: its number, and its place first of the numbers
abbrev pub refused_as : Refusal → Bool → Answer
refused_as r kept = answer_of 1 r.number (r.place ∷ 0 ∷ 0 ∷ 0 ∷ 0 ∷ []) kept

-- what a writer answered: the bytes written first of the numbers, or its refusal
abbrev pub written_as : Result ℕ Refusal → Bool → Answer
written_as (Ok n) kept = answer_of 0 0 (n ∷ 0 ∷ 0 ∷ 0 ∷ 0 ∷ []) kept
written_as (Err r) kept = refused_as r kept

-- ---- the counts, 32 kinds of each, in 64 bits
abbrev pub counts_of : List ℕ → List ℕ → Counts
counts_of agreed disagreed = record { agreed = agreed; disagreed = disagreed }

abbrev pub one_more : List ℕ → ℕ → List ℕ
one_more l at = slice_set l at ((slice_index l at + 1) % 2 ^ 64)

-- one more of the kind, among those that agreed or those that did not
abbrev pub counted_as : Counts → ℕ → Bool → Counts
counted_as c kind true = counts_of (one_more c.agreed (kind % 32)) c.disagreed
counted_as c kind false = counts_of c.agreed (one_more c.disagreed (kind % 32))
