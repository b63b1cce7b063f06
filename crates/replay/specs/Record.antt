-- WHAT THE WATCH RECORDS (02, request Thirteen: "We record downloads and want to rerun them") of a product that comes in parts of given lengths: 39 where
-- they do not sum to its length or are more than a record counts, then 18 with the bytes needed. Assumes nothing.
use Rattle.std.specs.Prelude.{ℕ, suc, ◌+◌, ◌*◌, ◌≤◌, ◌<◌, ◌≡◌, List, ◌++◌, length, get_or, take, drop}
use Rattle.meter.specs.Integer.{Bytes}
use Rattle.std.specs.declared.result.Result.TheVariants.{Ok, Err}
use Rattle.std.specs.declared.result.Result.{Result}
use Rattle.calendar.specs.declared.Refusal.{Refusal}
use Rattle.judge.specs.declared.arrival.Arrival.{Arrival}
use Rattle.watch.specs.Stands.{FedIs, Fresh, Feeds, joined}
use Rattle.watch.specs.declared.Watch.{Watch}
use Rattle.replay.specs.Layout.{length_at, Three, answer_at, three_of, sums, length_in}
use Rattle.replay.specs.Layout as L
use Rattle.replay.specs.Replay.{Answered}

abbrev pub refused_with : ℕ → ℕ → Result ℕ Refusal
refused_with n p = Err (record { number = n; place = p })

-- the lengths make the product, and a 4-byte count can say how many they are
pub record Recordable (ls b : List ℕ) : Type 0 where
  pub few : length ls < 0x1_0000_0000
  pub summed : sums (length_in ls) (length ls) ≡ length b

-- the bytes of its record: 4 for each count, 4 for each length, 12 for each answer
abbrev pub record_size : List ℕ → ℕ
record_size ls = 8 + 16 * length ls

-- the bytes r are the record: these lengths, and after each part what the watch answers
pub record Records (ls b r : List ℕ) : Type 0 where
  pub bytes : Bytes r
  pub long : length r ≡ record_size ls
  pub parts : L.parts r ≡ length ls
  pub lengths : (k : ℕ) → k < length ls → length_at r k ≡ get_or ls k 0
  pub answers : L.answers r ≡ length ls
  pub answered : (k : ℕ) → k < length ls → Answered b (length_in ls) k (answer_at r k)

-- THE WRITER: what it answers, and the room at exit; a refusal writes nothing, and what lies beyond the record is kept
pub data RecordIs (ls b room : List ℕ) : Result ℕ Refusal → List ℕ → Type 0 where
  unfit : (Recordable ls b → ⊥) → RecordIs ls b room (refused_with 39 0) room
  no_room : Recordable ls b → length room < record_size ls → RecordIs ls b room (refused_with 18 (record_size ls)) room
  written :
      Recordable ls b → record_size ls ≤ length room → (r : List ℕ) → Records ls b r → RecordIs ls b room (Ok (record_size ls)) (r ++ drop (record_size ls) room)

-- "WHAT THE WATCH RECORDED", by request One's own words for feeding: some watch, new and then fed the first k + 1 parts of b, cut up in any way before the last
-- of them, answered t
pub record Fed (b : List ℕ) (f : ℕ → ℕ) (k : ℕ) (t : Three) : Type 0 where
  pub new : Watch
  pub before : Watch
  pub after : Watch
  pub earlier : List (List ℕ)
  pub last : List ℕ
  pub answer : Arrival
  pub fresh : Fresh new
  pub feeds : Feeds new earlier before
  pub fed : FedIs before last after answer
  pub bytes : joined earlier ++ last ≡ take (sums f (suc k)) b
  pub says : t ≡ three_of answer
