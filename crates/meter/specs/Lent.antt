-- What leaf readers and writers answer, and what a lent room holds at exit (01, under the table of numbers: "Leaf readers check 20,
-- then 21. Writers check 22 or 21, then 18. Refusals write nothing."). Assumes nothing.
use Rattle.std.specs.Prelude.{ℕ, ◌+◌, ◌≡◌, Bool, cond, ◌&&◌, List, leb, length}
use Rattle.calendar.specs.Said.{Said, answer, refusal}
use Rattle.std.specs.declared.result.Result.{Result}
use Rattle.calendar.specs.declared.Refusal.{Refusal}
use Rattle.calendar.specs.Said.{said}

-- the n bytes from at on lie in a
abbrev pub inside : List ℕ → ℕ → ℕ → Bool
inside a at n = leb (at + n) (length a)

-- a leaf reader of n bytes from at on: 20 and the length where they are not all there, then 21 unless they are right, then the value
abbrev pub reads : {A : Type 0} → List ℕ → ℕ → ℕ → Bool → A → Said A
reads a at n right v = cond (inside a at n) (cond right (answer v) (refusal 21 0)) (refusal 20 (length a))

-- a writer of n bytes: 21 unless what is to be written is right, then 18 and the bytes needed where the room is too small
abbrev pub writes : List ℕ → ℕ → Bool → Said ℕ
writes room n right = cond right (cond (leb n (length room)) (answer n) (refusal 18 n)) (refusal 21 0)

-- the room at exit: a refusal writes nothing
abbrev pub wrote : List ℕ → ℕ → Bool → List ℕ → List ℕ
wrote room n right new = cond (right && leb n (length room)) new room

-- THE PROMISE of a writer of n bytes: what it answers, and the room at exit, which is `new` where nothing is refused
abbrev pub Writes : List ℕ → ℕ → Bool → List ℕ → Result ℕ Refusal → List ℕ → Type 0
Writes room n right new r exit = (said r ≡ writes room n right) × (exit ≡ wrote room n right new)
