-- THE WRITERS' SPELLING, line by line (01, "Kinds": "we write it right-justified with spaces, `-` only"; 002's spelling of an undefined time). `Meets`
-- takes other spellings too: a plus, zeros before a number, a minus before zero, an undefined time that ends in x (01). Assumes nothing.
use Rattle.std.specs.Prelude.{ℕ, suc, ◌+◌, ◌<◌, ◌≡◌, List, get_or}
use Rattle.text.specs.Field.{spaces}
use Rattle.text.specs.declared.Kind.{Kind}
use Rattle.text.specs.declared.Kind.TheVariants.{Text, Unsigned, Count, Signed, Time, LongTime}
use Rattle.mphr.specs.Layout.{width_of, kind_of, line_start}

-- the first byte after the spaces of the w bytes from i on
abbrev pub lead : List ℕ → ℕ → ℕ → ℕ
lead a i w = get_or a (i + spaces a i w) 0

-- a number: no plus; no 0 after a minus; a 0 that is not after a digit is the last byte. (Undefined is all x, and one spelling.)
pub record Plain (a : List ℕ) (i w : ℕ) : Type 0 where
  pub plus : lead a i w ≡ 43 → ⊥
  pub minus : lead a i w ≡ 45 → get_or a (i + suc (spaces a i w)) 0 ≡ 48 → ⊥
  pub naught : lead a i w ≡ 48 → suc (spaces a i w) ≡ w

-- text has one spelling; a time, defined or not, ends in Z
abbrev pub Spelled : Kind → List ℕ → ℕ → ℕ → Type 0
Spelled Text a i w = Unit
Spelled Unsigned a i w = Plain a i w
Spelled Count a i w = Plain a i w
Spelled Signed a i w = Plain a i w
Spelled Time a i w = get_or a (i + 14) 0 ≡ 90
Spelled LongTime a i w = get_or a (i + 17) 0 ≡ 90

-- CANONICAL: each of the 72 lines is
abbrev pub Canonical : List ℕ → Type 0
Canonical a = (k : ℕ) → k < 72 → Spelled (kind_of k) a (line_start k + 32) (width_of k)
