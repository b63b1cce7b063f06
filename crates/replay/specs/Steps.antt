-- What a function of this crate asks and promises between two steps. Assumes nothing.
use Rattle.std.specs.Prelude.{ℕ, ◌+◌, ◌*◌, ◌≤◌, ◌<◌, ◌≡◌, Bool, true, false, List, length, get_or}
use Rattle.judge.specs.declared.arrival.Arrival.{Arrival}
use Rattle.replay.specs.Layout.{number_at, parts, length_at, Three, three, three_at, three_of, length_in}
use Rattle.replay.specs.Replay.{Answered, Replayable}
use Rattle.replay.specs.Record.{Recordable, record_size}

-- ---- the replay
-- the first n lengths are there, and a count says n
pub record HasLengths (r : List ℕ) (n : ℕ) : Type 0 where
  pub counted : n < 4294967296
  pub come : 4 + 4 * n ≤ length r

-- a test that says whether two answers are the same
pub record Decides (s t : Three) (is : Bool) : Type 0 where
  pub right : is ≡ true → s ≡ t
  pub wrong : is ≡ false → s ≡ t → ⊥

abbrev pub IsAnswer : List ℕ → ℕ → ℕ → ℕ → ℕ → Bool → Type 0
IsAnswer r j n p c is = Decides (three_at r j) (three n p c) is

abbrev pub AgreesIs : List ℕ → ℕ → Arrival → Bool → Type 0
AgreesIs r j s is = Decides (three_at r j) (three_of s) is

-- a record that fits the product, of n parts
pub record Parts (r b : List ℕ) (n : ℕ) : Type 0 where
  pub fit : Replayable r b
  pub counted : n ≡ parts r

-- ---- the writer
-- the room changed from byte p to byte q at most
pub record Kept (room : List ℕ) (p q : ℕ) (room' : List ℕ) : Type 0 where
  pub long : length room' ≡ length room
  pub before : (i : ℕ) → i < p → get_or room' i 0 ≡ get_or room i 0
  pub after : (i : ℕ) → q ≤ i → get_or room' i 0 ≡ get_or room i 0

-- three numbers stand from number j on
pub record Puts (room : List ℕ) (j : ℕ) (t : Three) (room' : List ℕ) : Type 0 where
  pub kept : Kept room (4 * j) (4 * j + 12) room'
  pub stand : three_at room' j ≡ t

abbrev pub PutsThree : List ℕ → ℕ → ℕ → ℕ → ℕ → List ℕ → Type 0
PutsThree room j n p c room' = Puts room j (three n p c) room'

abbrev pub PutsAnswer : List ℕ → ℕ → Arrival → List ℕ → Type 0
PutsAnswer room j s room' = Puts room j (three_of s) room'

-- each number of an answer has 4 bytes
pub record Short (t : Three) : Type 0 where
  pub number : t.number < 4294967296
  pub place : t.place < 4294967296
  pub count : t.count < 4294967296

abbrev pub Fits : Arrival → Type 0
Fits s = Short (three_of s)

-- the first n lengths stand, from number 1 on
pub record PutsLengths (ls : List ℕ) (n : ℕ) (room room' : List ℕ) : Type 0 where
  pub kept : Kept room 4 (4 + 4 * n) room'
  pub stand : (k : ℕ) → k < n → length_at room' k ≡ get_or ls k 0

-- lengths that make the product, and a room of so many bytes for their record
pub record Recording (ls b : List ℕ) (bytes : ℕ) : Type 0 where
  pub fit : Recordable ls b
  pub enough : record_size ls ≤ bytes

-- the answers after the first n parts stand, from number 2 + the number of lengths on
pub record PutsAnswers (ls b : List ℕ) (n : ℕ) (room room' : List ℕ) : Type 0 where
  pub kept : Kept room (8 + 4 * length ls) (8 + 4 * length ls + 12 * n) room'
  pub stand : (k : ℕ) → k < n → Answered b (length_in ls) k (three_at room' (2 + length ls + 3 * k))

-- the record stands at the room's start, and what lies beyond it is kept
pub record PutsRecord (ls b room room' : List ℕ) : Type 0 where
  pub kept : Kept room 0 (record_size ls) room'
  pub counted : number_at room' 0 ≡ length ls
  pub lengths : (k : ℕ) → k < length ls → length_at room' k ≡ get_or ls k 0
  pub again : number_at room' (1 + length ls) ≡ length ls
  pub answered : (k : ℕ) → k < length ls → Answered b (length_in ls) k (three_at room' (2 + length ls + 3 * k))
