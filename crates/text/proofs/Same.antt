-- Locality: the value of a field that ends by byte k is a matter of the first k bytes. The field of the one arrival and of the other are
-- alike. Assumes nothing.
use mathlib.Core.Path.{◌≡◌}
use mathlib.Core.List.{List}
use Prim.Native.Nat.{ℕ, ◌+◌, ◌≤◌}
use native.Mathlib.Omega.{arith}
use Rattle.tables.specs.Lawful.{Same}
use Rattle.meter.specs.General.{number_of}
use Rattle.text.specs.Field.{is_value}
use Rattle.text.specs.declared.Kind.{Kind}
use Rattle.text.proofs.Alike.{Alike, number_alike, value_alike}

module _ {a b : List ℕ} {k : ℕ} (same : Same a b k) where
  pub field_alike : (i w : ℕ) → i + w ≤ k → Alike a b i i w
  field_alike i w h = record { byte = λ j l. same.byte (i + j) (omega arith) }

  pub number_same : (i n : ℕ) → i + n ≤ k → number_of a i n ≡ number_of b i n
  number_same i n h = number_alike (field_alike i n h) n (omega arith)

  -- THE VALUE of a field that ends by byte k is the same
  pub value_same : (d : Kind) (i w : ℕ) → i + w ≤ k → is_value d a i w ≡ is_value d b i w
  value_same d i w h = value_alike (field_alike i w h) d
