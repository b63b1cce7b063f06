-- A TABLE OF FAULTS, whatever they are faults of (01, "Numbers we answer with"), and what is given of those that an arrival shows. The rows of each
-- table stand in its own crate. Assumes nothing.
use Rattle.std.specs.Prelude.{ℕ, ◌≤◌, ◌≡◌, List, length}

-- what is given of a fault: its number, its place, and where it is shown, "the shortest arrival, in bytes, that shows the fault"
pub record Row : Type 0 where
  pub number : ℕ
  pub place : ℕ
  pub shown : ℕ

abbrev pub fault : ℕ → ℕ → ℕ → Row
fault n p k = record { number = n; place = p; shown = k }

-- a table: the faults of an arrival; the row of each; and a row as it is compared, with the place of its number in number order for the number
pub record Table : Type 1 where
  pub Fault : List ℕ → Type 0
  pub row : {a : List ℕ} → Fault a → Row
  pub order : Row → Row

-- THE RULE, "the one shown earliest is given, then the lowest number, then the lowest place": f goes before g, or is as good
pub record Before (f g : Row) : Type 0 where
  pub sooner : f.shown ≤ g.shown
  pub lower : f.shown ≡ g.shown → f.number ≤ g.number
  pub nearer : f.shown ≡ g.shown → f.number ≡ g.number → f.place ≤ g.place

-- no fault is shown
abbrev pub Clean : Table → List ℕ → Type 0
Clean T a = (g : T.Fault a) → (T.row g).shown ≤ length a → ⊥

-- "Of the shown faults" r is the row of the one that is given
pub record Gives (T : Table) (a : List ℕ) (r : Row) : Type 0 where
  pub fault : T.Fault a
  pub is : T.row fault ≡ r
  pub seen : r.shown ≤ length a
  pub best : (g : T.Fault a) → (T.row g).shown ≤ length a → Before (T.order r) (T.order (T.row g))

-- the refusal (n, p) is given, and where it is shown
pub record Given (T : Table) (a : List ℕ) (n p : ℕ) : Type 0 where
  pub shown : ℕ
  pub gives : Gives T a (fault n p shown)
