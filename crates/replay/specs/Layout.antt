-- THE RECORD OF AN ARRIVAL (02, request Thirteen: "The record has two sections in this order, each after its 4-byte big-endian count: part lengths (4
-- bytes each), then the answers as number, place and count (4 bytes each; number 0 while waiting, with place the last whole record's end; a refusal's
-- count is 0)"). All of it is numbers of 4 bytes, so that number j has the bytes from 4 j on; parts are counted from 0. Assumes nothing.
use Rattle.std.specs.Prelude.{ℕ, zero, suc, ◌+◌, ◌*◌, List, get_or}
use Rattle.meter.specs.Integer.{be_at}
use Rattle.judge.specs.declared.arrival.Arrival.{Arrival}
use Rattle.judge.specs.declared.arrival.Arrival.TheVariants.{Waiting, Refused}

abbrev pub number_at : List ℕ → ℕ → ℕ
number_at r j = be_at r (4 * j) 4

-- the first section: how many part lengths there are, and that of part k
abbrev pub parts : List ℕ → ℕ
parts r = number_at r 0

abbrev pub length_at : List ℕ → ℕ → ℕ
length_at r k = number_at r (1 + k)

-- the second, after it: how many answers there are, and that of part k
abbrev pub answers : List ℕ → ℕ
answers r = number_at r (1 + parts r)

pub record Three : Type 0 where
  pub number : ℕ
  pub place : ℕ
  pub count : ℕ

abbrev pub three : ℕ → ℕ → ℕ → Three
three n p c = record { number = n; place = p; count = c }

abbrev pub three_at : List ℕ → ℕ → Three
three_at r j = three (number_at r j) (number_at r (j + 1)) (number_at r (j + 2))

abbrev pub answer_at : List ℕ → ℕ → Three
answer_at r k = three_at r (2 + parts r + 3 * k)

-- the bytes of both sections with their counts. A record too short to hold a count is shorter than this, whatever that count is taken for
abbrev pub size_of : List ℕ → ℕ
size_of r = 8 + 4 * parts r + 12 * answers r

-- an answer of the watch as three numbers
abbrev pub three_of : Arrival → Three
three_of (Waiting c e) = three 0 e c
three_of (Refused r) = three r.number r.place 0

-- the sum of the first k lengths, a whole number of any size
unfoldable pub sums : (ℕ → ℕ) → ℕ → ℕ
sums f zero = 0
sums f (suc k) = sums f k + f k

-- the lengths of a list
abbrev pub length_in : List ℕ → ℕ → ℕ
length_in ls k = get_or ls k 0
