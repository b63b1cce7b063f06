-- Pointer records (01, "Record header, 20 bytes": "An IPR is exactly 27 bytes: header, target class, target group, target subclass, target
-- offset (4 bytes, from the product's first byte)"; class 3). The target is not judged (01 leaves that to fault 12). Assumes nothing.
use Rattle.std.specs.Prelude.{ℕ, ◌+◌, ◌≡◌, Bool, ◌&&◌, List, eqb, get_or}
use Rattle.calendar.specs.Said.{Said, answer}
use Rattle.meter.specs.Lent.{reads, Writes}
use Rattle.std.specs.declared.result.Result.{Result}
use Rattle.calendar.specs.declared.Refusal.{Refusal}
use Rattle.calendar.specs.Said.{said}
use Rattle.meter.specs.Integer.{be_at, stored}
use Rattle.record.specs.Header.{is_header, header_at, put_header}
use Rattle.record.specs.declared.pointer.Pointer.{Pointer}

-- a pointer record has a header of class 3 and of size 27
unfoldable pub is_pointer : Pointer → Bool
is_pointer p = is_header p.header && (eqb p.header.class 3 && eqb p.header.size 27)

-- the pointer record in the 27 bytes from at on
unfoldable pub pointer_at : List ℕ → ℕ → Pointer
pointer_at a at =
    record { header = header_at a at; class = get_or a (at + 20) 0; group = get_or a (at + 21) 0; subclass = get_or a (at + 22) 0; offset = be_at a (at + 23) 4 }

-- THE READER
abbrev pub pointer_read_at : List ℕ → ℕ → Said Pointer
pointer_read_at a at = reads a at 27 (is_pointer (pointer_at a at)) (pointer_at a at)

-- a with the 27 bytes of a pointer record at its start
unfoldable pub put_pointer : List ℕ → Pointer → List ℕ
put_pointer a p =
    stored (stored (stored (stored (put_header a p.header) 20 1 p.class) 21 1 p.group) 22 1 p.subclass) 23 4 p.offset

-- THE WRITER
abbrev pub WritesPointer : List ℕ → Pointer → Result ℕ Refusal → List ℕ → Type 0
WritesPointer room x r exit = Writes room 27 (is_pointer x) (put_pointer room x) r exit

-- AND WHAT IT WROTE READS BACK
abbrev pub PointerBack : Pointer → Result ℕ Refusal → List ℕ → Type 0
PointerBack p r exit = said r ≡ answer 27 → pointer_read_at exit 0 ≡ answer p
