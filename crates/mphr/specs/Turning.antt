-- What the walk over the lines knows, and what its helpers find.
-- Assumes nothing.
use Rattle.std.specs.Prelude.{ℕ, suc, ◌+◌, ◌*◌, ◌≤◌, ◌<◌, ◌≡◌, Bool, true, false, ◌⊎◌, List, length, get_or}
use Rattle.calendar.specs.Said.{refusing}
use Rattle.text.specs.Field.{is_number}
use Rattle.mphr.specs.Layout.{line_start}
use Rattle.mphr.specs.Table.{declared, Sums, Fault, bad_header, bad_line, bad_size, bad_totals, bad_times}
use Rattle.mphr.specs.Resumed.{ReachedIs}
use Rattle.std.specs.declared.result.Result.TheVariants.{Err}
use Rattle.mphr.specs.declared.faults.Line.{Line}
use Rattle.std.specs.declared.result.Result.{Result}
use Rattle.calendar.specs.declared.Refusal.{Refusal}
use Rattle.std.specs.declared.ops.ControlFlow.{ControlFlow}
use Rattle.std.specs.declared.ops.ControlFlow.TheVariants.{Break, Continue}

-- the n bytes of a from i on are those of t from j on
abbrev pub Alike : List ℕ → List ℕ → ℕ → ℕ → ℕ → Type 0
Alike a t i j n = (m : ℕ) → m < n → get_or a (i + m) 0 ≡ get_or t (j + m) 0

pub record AlikeIs (a t : List ℕ) (i j : ℕ) (r : Bool) : Type 0 where
  pub good : r ≡ true → Alike a t i j 10
  pub bad : r ≡ false → Alike a t i j 10 → ⊥

-- the stage of a fault: it is shown where line `stage` starts
abbrev pub stage : {a : List ℕ} → Fault a → ℕ
stage (bad_header _) = 0
stage (bad_line k _ _) = suc k
stage (bad_size _ _) = 29
stage (bad_totals _ _) = 64
stage (bad_times _) = 0

-- each fault is of a later stage
abbrev pub Past : List ℕ → ℕ → Type 0
Past a k = (g : Fault a) → k < stage g

-- the size and the totals, once line k is right: 4, 5, or 0 for neither
pub record Later (a : List ℕ) (k h : ℕ) : Type 0 where
  pub four : h ≡ 4 → (k ≡ 28) × ((declared a < 3307) ⊎ (2147483647 < declared a))
  pub five : h ≡ 5 → (k ≡ 63) × (Sums a → ⊥)
  pub size : (h ≡ 4 → ⊥) → k ≡ 28 → (3307 ≤ declared a) × (declared a ≤ 2147483647)
  pub totals : (h ≡ 5 → ⊥) → k ≡ 63 → Sums a

-- the nine totals have come, and each is a number
pub record Counts (a : List ℕ) : Type 0 where
  pub come : 2994 ≤ length a
  pub counts : (j : ℕ) → j < 9 → is_number false a (2675 + 39 * j) 6 ≡ true

-- where line k is the last that they look at, the fields of the size, or of the totals, have come and are numbers
abbrev pub Numbered : List ℕ → ℕ → Type 0
Numbered a k = (k ≡ 28 → (1497 ≤ length a) × (is_number false a 1485 11 ≡ true)) × (k ≡ 63 → Counts a)

pub record Ready (a : List ℕ) (k at : ℕ) : Type 0 where
  pub line : k < 72
  pub at_is : at ≡ line_start k
  pub come : at ≤ length a

pub record Gone (a : List ℕ) (k to : ℕ) : Type 0 where
  pub to_is : to ≡ line_start (suc k)
  pub come : to ≤ length a
  pub past : Past a k → Past a (suc k)

abbrev pub TurnedIs : List ℕ → ℕ → ControlFlow (Result Line Refusal) ℕ → Type 0
TurnedIs a k (Break r) = Past a k → ReachedIs a r
TurnedIs a k (Continue to) = Gone a k to

abbrev pub refused_at : ℕ → ℕ → ControlFlow (Result Line Refusal) ℕ
refused_at n p = Break (Err (refusing n p))
