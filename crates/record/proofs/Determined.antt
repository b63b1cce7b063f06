-- DETERMINED: no second answer, and no second room at exit, fits a promise of this crate. Each answer says one thing of the paper's and
-- is made again from it (`unsaid`), so one shared lemma serves all; a writer's room is an equation. Assumes nothing.
use mathlib.Core.Path.{◌≡◌, refl, sym, ◌∙◌}
use mathlib.Core.Bool.{Bool}
use mathlib.Core.List.{List}
use Prim.Native.Nat.{ℕ}
use Rattle.calendar.specs.Said.{Said, answer, refusal, refusing}
use Rattle.calendar.proofs.Determined.{fixes, only}
use Rattle.std.specs.declared.result.Result.TheVariants.{Ok, Err}
use Rattle.std.specs.declared.result.Result.{Result}
use Rattle.calendar.specs.declared.Refusal.{Refusal}
use Rattle.calendar.specs.Said.{said}
use Rattle.meter.proofs.Determined.{one_writing}
use Rattle.record.specs.Header.{size_there, is_class, is_group, is_header, header_read_at, put_header, WritesHeader}
use Rattle.record.specs.Pointer.{is_pointer, pointer_read_at, put_pointer, WritesPointer}
use Rattle.record.specs.Follow.{may_follow}
use Rattle.record.specs.Times.{times_stand}
use Rattle.record.specs.declared.header.Header.{Header}
use Rattle.record.specs.declared.pointer.Pointer.{Pointer}

-- ---- each answer is made again from what it says
abbrev unsaid_header : Said Header → Result Header Refusal
unsaid_header (answer x) = Ok x
unsaid_header (refusal n p) = Err (refusing n p)

header_unsaid : (r : Result Header Refusal) → unsaid_header (said r) ≡ r
header_unsaid (Ok x) = refl
header_unsaid (Err r) = refl

abbrev unsaid_pointer : Said Pointer → Result Pointer Refusal
unsaid_pointer (answer x) = Ok x
unsaid_pointer (refusal n p) = Err (refusing n p)

pointer_unsaid : (r : Result Pointer Refusal) → unsaid_pointer (said r) ≡ r
pointer_unsaid (Ok x) = refl
pointer_unsaid (Err r) = refl

-- ---- the readers, the tests and the follow rule
pub unique_read_header : (a : List ℕ) (at : ℕ) (r s : Result Header Refusal) → said r ≡ header_read_at a at → said s ≡ header_read_at a at → r ≡ s
unique_read_header a at = fixes said unsaid_header header_unsaid (header_read_at a at)

pub unique_read_pointer : (a : List ℕ) (at : ℕ) (r s : Result Pointer Refusal) → said r ≡ pointer_read_at a at → said s ≡ pointer_read_at a at → r ≡ s
unique_read_pointer a at = fixes said unsaid_pointer pointer_unsaid (pointer_read_at a at)

pub unique_may_follow : (last next : ℕ) (r s : Bool) → r ≡ may_follow last next → s ≡ may_follow last next → r ≡ s
unique_may_follow last next = only (may_follow last next)

pub unique_size_at : (a : List ℕ) (at r s : ℕ) → r ≡ size_there a at → s ≡ size_there a at → r ≡ s
unique_size_at a at r s e f = e ∙ sym f

pub unique_is_class : (c : ℕ) (r s : Bool) → r ≡ is_class c → s ≡ is_class c → r ≡ s
unique_is_class c = only (is_class c)

pub unique_is_group : (g : ℕ) (r s : Bool) → r ≡ is_group g → s ≡ is_group g → r ≡ s
unique_is_group g = only (is_group g)

pub unique_times_stand : (a : List ℕ) (at : ℕ) (r s : Bool) → r ≡ times_stand a at → s ≡ times_stand a at → r ≡ s
unique_times_stand a at = only (times_stand a at)

-- ---- the writers: of a room, the answer and the room at exit
pub unique_write_header : (room : List ℕ) (h : Header) (r s : Result ℕ Refusal) (p q : List ℕ) → WritesHeader room h r p → WritesHeader room h s q → (r ≡ s) × (p ≡ q)
unique_write_header room h = one_writing room 20 (is_header h) (put_header room h)

pub unique_write_pointer : (room : List ℕ) (t : Pointer) (r s : Result ℕ Refusal) (p q : List ℕ) → WritesPointer room t r p → WritesPointer room t s q → (r ≡ s) × (p ≡ q)
unique_write_pointer room t = one_writing room 27 (is_pointer t) (put_pointer room t)
