-- WHAT A REPLAY ANSWERS (02, request Thirteen: "Given the record and the product, replay the watch and name the first part whose answer differs, or none.
-- .. Refusals in this order: 37, record short or long; 38, counts unequal; 39, lengths that don't sum to the product's length; place 0"). What the watch
-- answers is a relation, One's `Watched` of all that was fed. Assumes nothing.
use Rattle.std.specs.Prelude.{ℕ, suc, ◌<◌, ◌≡◌, List, length, take}
use Rattle.judge.specs.declared.arrival.Arrival.{Arrival}
use Rattle.watch.specs.Watched.{Watched}
use Rattle.replay.specs.Layout.{parts, length_at, answers, Three, answer_at, size_of, three_of, sums}
use Rattle.std.specs.declared.option.Option.TheVariants.{Some, None}
use Rattle.std.specs.declared.result.Result.TheVariants.{Ok, Err}
use Rattle.std.specs.declared.option.Option.{Option}
use Rattle.std.specs.declared.result.Result.{Result}
use Rattle.calendar.specs.declared.Refusal.{Refusal}

abbrev pub refused_at : ℕ → ℕ → Result (Option ℕ) Refusal
refused_at n p = Err (record { number = n; place = p })

-- t is what the watch answers after part k of b, which comes in parts of the lengths f: what is right to say of the first k + 1 parts
pub record Answered (b : List ℕ) (f : ℕ → ℕ) (k : ℕ) (t : Three) : Type 0 where
  pub arrival : Arrival
  pub right : Watched (take (sums f (suc k)) b) arrival
  pub says : t ≡ three_of arrival

-- the record's answer of part k is the watch's
abbrev pub Agrees : List ℕ → List ℕ → ℕ → Type 0
Agrees r b k = Answered b (length_at r) k (answer_at r k)

-- it is another
pub record Differs (r b : List ℕ) (k : ℕ) : Type 0 where
  pub own : Three
  pub answered : Answered b (length_at r) k own
  pub other : answer_at r k ≡ own → ⊥

-- none of 37, 38 and 39
pub record Replayable (r b : List ℕ) : Type 0 where
  pub sized : length r ≡ size_of r
  pub even : answers r ≡ parts r
  pub summed : sums (length_at r) (parts r) ≡ length b

-- THE REPLAY of the record r with the product b
pub data ReplayIs (r b : List ℕ) : Result (Option ℕ) Refusal → Type 0 where
  missized : (length r ≡ size_of r → ⊥) → ReplayIs r b (refused_at 37 0)
  uneven : length r ≡ size_of r → (answers r ≡ parts r → ⊥) → ReplayIs r b (refused_at 38 0)
  unsummed : length r ≡ size_of r → answers r ≡ parts r → (sums (length_at r) (parts r) ≡ length b → ⊥) → ReplayIs r b (refused_at 39 0)
  none : Replayable r b → ((k : ℕ) → k < parts r → Agrees r b k) → ReplayIs r b (Ok None)
  first : Replayable r b → (k : ℕ) → k < parts r → ((j : ℕ) → j < k → Agrees r b j) → Differs r b k → ReplayIs r b (Ok (Some k))
