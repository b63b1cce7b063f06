-- Record headers (01, "Record header, 20 bytes": class 0, instrument group 1, subclass 2, subclass version 3, record size 4..7, start time
-- 8..13, stop time 14..19; 002, tables 12, 13 and 14). Assumes nothing.
use Rattle.std.specs.Prelude.{ℕ, ◌+◌, ◌≡◌, Bool, cond, ◌&&◌, ◌||◌, List, eqb, leb, get_or}
use Rattle.calendar.specs.Said.{Said, answer}
use Rattle.meter.specs.Lent.{inside, reads, Writes}
use Rattle.std.specs.declared.result.Result.{Result}
use Rattle.calendar.specs.declared.Refusal.{Refusal}
use Rattle.calendar.specs.Said.{said}
use Rattle.meter.specs.Integer.{be_at, stored}
use Rattle.meter.specs.Time.{is_time, bits_of, time_at}
use Rattle.record.specs.declared.header.Header.{Header}

-- "record size 4..7" of the header at byte at, and 0, which is no size, where its first 8 bytes are not all there
abbrev pub size_there : List ℕ → ℕ → ℕ
size_there a at = cond (inside a at 8) (be_at a (at + 4) 4) 0

-- "Classes: 1 MPHR, 2 SPHR, 3 IPR, 4 GEADR, 5 GIADR, 6 VEADR, 7 VIADR, 8 MDR"
unfoldable pub is_class : ℕ → Bool
is_class c = leb 1 c && leb c 8

-- the groups of 002's Table 14: 0 to 13, 15 and 99 (01 has 14 for an archive record, 002 has 99; 002 decides)
unfoldable pub is_group : ℕ → Bool
is_group g = leb g 13 || (eqb g 15 || eqb g 99)

-- a class, a group and a size that a header can have ("21 for an unknown class or group, a size under 20")
unfoldable pub is_lead : ℕ → ℕ → ℕ → Bool
is_lead c g z = is_class c && (is_group g && leb 20 z)

-- and both times right ("or a bad time, not for start after stop")
unfoldable pub is_header : Header → Bool
is_header h = is_lead h.class h.group h.size && (is_time h.start && is_time h.stop)

-- the header in the 20 bytes from at on
unfoldable pub header_at : List ℕ → ℕ → Header
header_at a at =
    record { class = get_or a at 0; group = get_or a (at + 1) 0; subclass = get_or a (at + 2) 0; version = get_or a (at + 3) 0; size = be_at a (at + 4) 4; start = time_at a (at + 8); stop = time_at a (at + 14) }

-- THE READER
abbrev pub header_read_at : List ℕ → ℕ → Said Header
header_read_at a at = reads a at 20 (is_header (header_at a at)) (header_at a at)

-- a with the 20 bytes of a header at its start
unfoldable pub put_header : List ℕ → Header → List ℕ
put_header a h =
    stored (stored (stored (stored (stored (stored (stored a 0 1 h.class) 1 1 h.group) 2 1 h.subclass) 3 1 h.version) 4 4 h.size) 8 6 (bits_of h.start)) 14 6 (bits_of h.stop)

-- THE WRITER
abbrev pub WritesHeader : List ℕ → Header → Result ℕ Refusal → List ℕ → Type 0
WritesHeader room x r exit = Writes room 20 (is_header x) (put_header room x) r exit

-- AND WHAT IT WROTE READS BACK
abbrev pub HeaderBack : Header → Result ℕ Refusal → List ℕ → Type 0
HeaderBack h r exit = said r ≡ answer 20 → header_read_at exit 0 ≡ answer h
