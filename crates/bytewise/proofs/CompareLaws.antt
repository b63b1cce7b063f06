-- Bytes compared: two parts of as many bytes are the same exactly where each byte is; and answers of comparisons taken together. Assumes nothing.
use Prim.Native.Nat.{ℕ, ◌+◌, ◌≤◌, ◌<◌}
use native.Mathlib.Omega.{arith}
use mathlib.Core.Path.{◌≡◌, refl, sym, ◌∙◌}
use mathlib.Core.Bool.{Bool, true, false, true≢false}
use mathlib.Core.List.{List}
use lib.ListN.{length, get_or, take, drop, length-take, length-drop}
use lib.Seq.{get_or-take, get_or-drop}
use Rattle.bytewise.specs.Comparing.{Decides, SameIs, SameParts}

pub part_long : (a : List ℕ) (from n : ℕ) → from + n ≤ length a → length (take n (drop from a)) ≡ n
part_long a from n h = simp (length-take, length-drop) (omega arith)

pub part_at : (a : List ℕ) (from n i : ℕ) → i < n → get_or (take n (drop from a)) i 0 ≡ get_or a (from + i) 0
part_at a from n i h = get_or-take n (drop from a) i 0 h ∙ get_or-drop from a i 0

-- ---- an answer
pub yes_it_is : {P : Type 0} → P → Decides P true
yes_it_is p = record { right = λ _. p; wrong = λ e. absurd (true≢false e) }

pub no_it_is : {P : Type 0} → (P → ⊥) → Decides P false
no_it_is d = record { right = λ e. absurd (true≢false (sym e)); wrong = λ _. d }

-- what it is held to can be said in another way
pub decides_as : {P Q : Type 0} {b : Bool} → (P → Q) → (Q → P) → Decides P b → Decides Q b
decides_as f g d = record { right = λ e. f (d.right e); wrong = λ e q. d.wrong e (g q) }

-- ---- parts that may not be all there
module _ {a b : List ℕ} {i j n : ℕ} where
  -- of parts that are there, what is asked is that they are the same
  pub same_parts : i + n ≤ length a → j + n ≤ length b → {r : Bool} → Decides (SameParts a i b j n) r → SameIs (take n (drop i a)) (take n (drop j b)) r
  same_parts h k d = record { right = λ e. (d.right e).same; wrong = λ e s. d.wrong e (record { first = h; second = k; same = s }) }

  pub parts_same : i + n ≤ length a → j + n ≤ length b → {r : Bool} → SameIs (take n (drop i a)) (take n (drop j b)) r → Decides (SameParts a i b j n) r
  parts_same h k d = record { right = λ e. record { first = h; second = k; same = d.right e }; wrong = λ e s. d.wrong e s.same }

-- one answer at most
pub unique_is_same : {P : Type 0} {x y : Bool} → Decides P x → Decides P y → x ≡ y
unique_is_same {x = true} {y = true} d e = refl
unique_is_same {x = false} {y = false} d e = refl
unique_is_same {x = true} {y = false} d e = absurd (e.wrong refl (d.right refl))
unique_is_same {x = false} {y = true} d e = absurd (d.wrong refl (e.right refl))
