-- The main header judged from a line on: what has to be known of the bytes before it, and what is then right to answer. Assumes nothing.
use Rattle.std.specs.Prelude.{ℕ, ◌≤◌, ◌≡◌, ◌⊎◌, List, length}
use Rattle.mphr.specs.Layout.{line_start, LineAfter}
use Rattle.mphr.specs.Table.{Fault, shown, Given, Clean}
use Rattle.std.specs.declared.result.Result.TheVariants.{Ok, Err}
use Rattle.std.specs.declared.result.Result.{Result}
use Rattle.calendar.specs.declared.Refusal.{Refusal}
use Rattle.mphr.specs.declared.faults.Line.{Line}
use Rattle.mphr.specs.LineEnd.{line_end}

-- the bytes before line k show no fault: at the first line, which is judged with the record header before it, nothing is asked
abbrev pub Resumes : List ℕ → ℕ → Type 0
Resumes a k = 1 ≤ k → line_start k ≤ length a → (g : Fault a) → shown g ≤ line_start k → ⊥

-- n bytes have come to line k: it starts there or before, or is the first
abbrev pub Come : ℕ → ℕ → Type 0
Come n k = (k ≡ 0) ⊎ (line_start k ≤ n)

-- line k is under way in n bytes: the last that they have come to, or 72 after all; and e is where the next starts, which is its end
pub record UnderWay (n k e : ℕ) : Type 0 where
  pub come : Come n k
  pub last : (j : ℕ) → j ≤ 72 → line_start j ≤ n → j ≤ k
  pub most : k ≤ 72
  pub end : LineAfter n e

-- what is right to answer of an arrival's main header, to whoever goes on with it
abbrev pub ReachedIs : List ℕ → Result Line Refusal → Type 0
ReachedIs a (Err r) = Given a r.number r.place
ReachedIs a (Ok t) = Clean a × UnderWay (length a) t.line t.end
