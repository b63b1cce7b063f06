-- A float of a file (02, request Eleven: "take each block's UTH and CSR as f32 from their bits, and give each as missing when it isn't finite"), by
-- the kit's account of IEEE 754. Assumes nothing.
use Rattle.std.specs.Prelude.{ℕ, Bool, true, false, cond, List, Float}
use Rattle.std.specs.Float.{nan, inf, fin, binary32}
use Rattle.std.specs.Float.Ieee.{of_bits}
use Rattle.meter.specs.Integer.{be_at}
use Rattle.std.specs.declared.option.Option.TheVariants.{Some, None}
use Rattle.std.specs.declared.option.Option.{Option}

abbrev pub finite : Float → Bool
finite nan = false
finite (inf s) = false
finite (fin s m e) = true

unfoldable pub value_of : ℕ → Option Float
value_of bits = cond (finite (of_bits binary32 bits)) (Some (of_bits binary32 bits)) None

-- the R4 in the 4 bytes from at on
abbrev pub value_at : List ℕ → ℕ → Option Float
value_at a at = value_of (be_at a at 4)
