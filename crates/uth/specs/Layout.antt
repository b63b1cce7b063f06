-- The layout of a file (003, section 3: "ASCII header. This fixed length (542 byte) record", "product header. This fixed length (100 byte) record",
-- "a 36 byte segment header, followed by one or more results for that segment"; 4.2 and 4.3 for the offsets; 02, request Eleven: "for each of the M
-- segments 36 bytes and N blocks of 72"). Assumes nothing.
use Rattle.std.specs.Prelude.{ℕ, ◌+◌, ◌*◌, Bool, ◌&&◌, List, ℤ, pos}
use Rattle.std.specs.Int.Signed.{le_z}
use Rattle.meter.specs.Integer.{be_at, twos, half_of}

-- an I4: "A full integer is four bytes in length. It is represented in two's complement", the most significant byte first (2.2)
abbrev pub field_at : List ℕ → ℕ → ℤ
field_at a at = twos (half_of 4) (be_at a at 4)

-- where M stands: 072 NSEG of the product header, which is after the text
abbrev pub segments_at : ℕ
segments_at = 542 + 72

abbrev pub segments : List ℕ → ℤ
segments a = field_at a segments_at

-- where the first segment starts
abbrev pub first_at : ℕ
first_at = 542 + 100

-- of the segment that starts at p: 000 SEGLIN, 004 SEGCOL, 032 NPRES
abbrev pub line : List ℕ → ℕ → ℤ
line a p = field_at a p

abbrev pub column : List ℕ → ℕ → ℤ
column a p = field_at a (p + 4)

abbrev pub blocks : List ℕ → ℕ → ℤ
blocks a p = field_at a (p + 32)

-- where its blocks start, and where they end
abbrev pub body_at : ℕ → ℕ
body_at p = p + 36

abbrev pub end_at : ℕ → ℕ → ℕ
end_at p n = p + 36 + 72 * n

-- of the block that starts at b: 044 UTH and 048 CSR, counted from the segment header's 36 bytes before the first
abbrev pub uth_at : ℕ → ℕ
uth_at b = b + 8

abbrev pub csr_at : ℕ → ℕ
csr_at b = b + 12

-- "Segment line and column must be 1..80"
unfoldable pub is_grid : ℤ → Bool
is_grid z = le_z (pos 1) z && le_z z (pos 80)

-- "33 N below 1"
unfoldable pub is_some : ℤ → Bool
is_some z = le_z (pos 1) z
