-- WHAT THE JOIN ANSWERS (02, request Seven: "Refusals: the first product's own, the second's own, then 26 unlike (place 0), 27 out of time (place 0), 28 as
-- in request Three and also for a sum that doesn't fit its field (place 0), 18"). The result stands at the start of the room and the rest is kept; a
-- refusal writes nothing. The same of both joins, request Seven's (`identical`) and that of a pass (`granules`). Assumes nothing.
use Rattle.std.specs.Prelude.{ℕ, ◌≤◌, ◌<◌, ◌≡◌, Bool, List, ◌++◌, length, drop}
use Rattle.calendar.specs.declared.Refusal.{Refusal}
use Rattle.std.specs.declared.result.Result.TheVariants.{Ok, Err}
use Rattle.std.specs.declared.result.Result.{Result}
use Rattle.finish.specs.Finish.{VerdictIs}
use Rattle.demands.specs.Product.{Meets}
use Rattle.parts.specs.Parts.{main_of, records_at}
use Rattle.parts.specs.Pass.{Alike, InTime, Joinable, join_size, IsJoin}
use Rattle.rewrite.specs.Cut.{refused_at}

-- of two products, by their parts, and a room: the answer, and the room at exit; i is which join it is
pub data PartsJoin (i : Bool) (m n : List ℕ) (rs ss : List (List ℕ)) (room : List ℕ) : Result ℕ Refusal → List ℕ → Type 0 where
  unlike : (Alike i m n rs ss → ⊥) → PartsJoin i m n rs ss room (refused_at 26 0) room
  out_of_time : Alike i m n rs ss → (InTime i rs ss → ⊥) → PartsJoin i m n rs ss room (refused_at 27 0) room
  too_much : Alike i m n rs ss → InTime i rs ss → (Joinable m n rs ss → ⊥) → PartsJoin i m n rs ss room (refused_at 28 0) room
  no_room :
      Alike i m n rs ss → InTime i rs ss → Joinable m n rs ss → length room < join_size m rs ss → PartsJoin i m n rs ss room (refused_at 18 (join_size m rs ss)) room
  written :
      (c : List ℕ) → Alike i m n rs ss → InTime i rs ss → Joinable m n rs ss → join_size m rs ss ≤ length room → IsJoin m n rs ss c
      → PartsJoin i m n rs ss room (Ok (join_size m rs ss)) (c ++ drop (join_size m rs ss) room)

-- of the bytes a and b
pub data JoinIs (i : Bool) (a b : List ℕ) (room : List ℕ) : Result ℕ Refusal → List ℕ → Type 0 where
  first_unfit : (r : Refusal) → VerdictIs a (Err r) → JoinIs i a b room (Err r) room
  second_unfit : (r : Refusal) → Meets a → VerdictIs b (Err r) → JoinIs i a b room (Err r) room
  both :
      {r : Result ℕ Refusal} {exit : List ℕ} (t : Meets a) (u : Meets b) → PartsJoin i (main_of a) (main_of b) (records_at a t.list) (records_at b u.list) room r exit
      → JoinIs i a b room r exit

-- WHAT WAS WRITTEN, of k bytes: the join of the two products, and then what the room held
pub record JoinResult (i : Bool) (a b room : List ℕ) (k : ℕ) (exit : List ℕ) : Type 0 where
  pub text : List ℕ
  pub first : Meets a
  pub second : Meets b
  pub alike : Alike i (main_of a) (main_of b) (records_at a first.list) (records_at b second.list)
  pub in_time : InTime i (records_at a first.list) (records_at b second.list)
  pub joinable : Joinable (main_of a) (main_of b) (records_at a first.list) (records_at b second.list)
  pub join : IsJoin (main_of a) (main_of b) (records_at a first.list) (records_at b second.list) text
  pub long : k ≡ join_size (main_of a) (records_at a first.list) (records_at b second.list)
  pub stands : exit ≡ text ++ drop k room
