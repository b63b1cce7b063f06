-- The room that the writer leaves is the record followed by what it kept of the room. Assumes nothing.
use Prim.Native.Nat.{ℕ, ◌+◌, ◌*◌, ◌≤◌, ◌<◌}
use native.Mathlib.Decide.{dec_lt}
use native.Mathlib.Omega.{arith}
use mathlib.Core.Path.{◌≡◌, sym, ap, ◌∙◌, subst}
use mathlib.Core.List.{List, ◌++◌}
use lib.ListN.{length, get_or, take, drop, length-drop, take-append-drop, get_or-eq_default}
use lib.Seq.{ext_get_or, get_or-take, get_or-drop, length-take-le}
use Rattle.meter.specs.Integer.{Bytes}
use Rattle.std.specs.declared.result.Result.TheVariants.{Ok}
use Rattle.meter.proofs.IntegerLaws.{be_at_same}
use Rattle.replay.specs.Layout.{number_at, three_at}
use Rattle.replay.specs.Record.{record_size, Records, RecordIs, written}
use Rattle.replay.specs.Steps.{Recording, PutsRecord}
use Rattle.replay.proofs.RunLaws.{said_as}

-- a number of the first n bytes
pub front_number : (a : List ℕ) (n j : ℕ) → 4 * j + 4 ≤ n → number_at (take n a) j ≡ number_at a j
front_number a n j h = be_at_same (take n a) a (4 * j) (4 * j) 4 (λ k l. get_or-take n a (4 * j + k) 0 (omega arith))

pub front_three : (a : List ℕ) (n j : ℕ) → 4 * j + 12 ≤ n → three_at (take n a) j ≡ three_at a j
front_three a n j h =
    let x = front_number a n j (omega arith) in
    let y = front_number a n (j + 1) (omega arith) in
    let z = front_number a n (j + 2) (omega arith) in
    cc

module _ {ls b room room' : List ℕ} (w : Recording ls b (length room)) (bytes : Bytes room') (p : PutsRecord ls b room room') where
  abbrev front : List ℕ
  front = take (record_size ls) room'

  front_long : length front ≡ record_size ls
  front_long = length-take-le (record_size ls) room' (omega (arith, w.enough, p.kept.long))

  front_parts : number_at front 0 ≡ length ls
  front_parts = front_number room' (record_size ls) 0 (omega arith) ∙ p.counted

  front_byte : Bytes front
  front_byte i = go (dec_lt i (record_size ls))
    where
      go : Dec (i < record_size ls) → get_or front i 0 < 256
      go (yes h) = omega (arith, get_or-take (record_size ls) room' i 0 h, bytes i)
      go (no h) = omega (arith, get_or-eq_default front 0 {n = i} (omega (arith, front_long, h)))

  records : Records ls b front
  records = record {
    bytes = front_byte;
    long = front_long;
    parts = front_parts;
    lengths = λ k h. front_number room' (record_size ls) (1 + k) (omega arith) ∙ p.lengths k h;
    answers = ap (λ (n : ℕ). number_at front (1 + n)) front_parts ∙ front_number room' (record_size ls) (1 + length ls) (omega arith) ∙ p.again;
    answered = λ k h. said_as (ap (λ (n : ℕ). three_at front (2 + n + 3 * k)) front_parts ∙ front_three room' (record_size ls) (2 + length ls + 3 * k) (omega arith)) (p.answered k h);
  }

  rest : drop (record_size ls) room ≡ drop (record_size ls) room'
  rest = ext_get_or 0 (drop (record_size ls) room) (drop (record_size ls) room') (simp length-drop (omega (arith, p.kept.long))) (λ i h. get_or-drop (record_size ls) room i 0 ∙ sym (p.kept.after (record_size ls + i) (omega arith)) ∙ sym (get_or-drop (record_size ls) room' i 0))

  pub writes : RecordIs ls b room (Ok (record_size ls)) room'
  writes = subst (λ (x : List ℕ). RecordIs ls b room (Ok (record_size ls)) x) (ap (λ (x : List ℕ). front ++ x) rest ∙ take-append-drop (record_size ls) room') (written w.fit w.enough front records)
