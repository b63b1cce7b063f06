-- The first header by what meter's reader answers of its size. Assumes nothing.
use mathlib.Core.Path.{◌≡◌, ◌∙◌}
use mathlib.Core.List.{List}
use Prim.Native.Nat.{ℕ, ◌≤◌}
use native.Mathlib.Omega.{arith}
use borrow.Author.Tests.{le-leb}
use lib.ListN.{length}
use Rattle.calendar.specs.Said.{answer, refused}
use Rattle.calendar.specs.declared.Refusal.{Refusal}
use Rattle.meter.specs.Integer.{be_at, is_width, unsigned_at}

-- ---- the size
four : (a : List ℕ) → 20 ≤ length a → unsigned_at a 4 4 ≡ answer (be_at a 4 4)
unfolding is_width
four a h = simp (le-leb 8 (length a) (omega arith))

pub size_is : (a : List ℕ) (v : ℕ) → 20 ≤ length a → answer v ≡ unsigned_at a 4 4 → v ≡ be_at a 4 4
size_is a v h e = let f = e ∙ four a h in cc

pub size_there : (a : List ℕ) (r : Refusal) → 20 ≤ length a → refused r ≡ unsigned_at a 4 4 → ⊥
size_there a r h e = let f = e ∙ four a h in let z : ◌≡◌ {A = ℕ} 0 1 = cc in omega arith
