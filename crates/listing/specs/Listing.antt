-- THE LISTING (01: "The listing checks 23 first, then is as the finished judge; its columns are start, class, group, subclass, version, size, one
-- space between, each line ended by a line feed"; "A refusal prints one line, as `refused 17 0` for empty input"; row 23, "listing input over 65,536
-- bytes"; row 18, "lent room too small", with the bytes needed). Assumes nothing.
use Rattle.std.specs.Prelude.{ℕ, ◌+◌, ◌≤◌, ◌<◌, ◌≡◌, List, [], ◌∷◌, ◌++◌, length, get_or, drop}
use Rattle.std.proofs.lemmas.List.Edits.{sets}
use Rattle.calendar.specs.declared.Refusal.{Refusal}
use Rattle.calendar.specs.Said.{refusing}
use Rattle.mphr.specs.Layout.{bytes_of}
use Rattle.judge.specs.Table.{size_at, Clean, Given}
use Rattle.judge.specs.Extent.{Short, Complete, Covered}
use Rattle.finish.specs.Finish.{starts}
use Rattle.listing.specs.Decimal.{column}
use Rattle.std.specs.declared.result.Result.TheVariants.{Ok, Err}
use Rattle.std.specs.declared.result.Result.{Result}

-- numbers in columns: one space between, a line feed at the end
abbrev pub row : List ℕ → List ℕ
row [] = []
row (v ∷ []) = column v 10
row (v ∷ w ∷ l) = column v 32 ++ row (w ∷ l)

-- the columns of the record at byte i, whose header has the class at byte 0, and then the group, the subclass, the version and the size
abbrev pub columns : List ℕ → ℕ → List ℕ
columns a i = i ∷ get_or a i 0 ∷ get_or a (i + 1) 0 ∷ get_or a (i + 2) 0 ∷ get_or a (i + 3) 0 ∷ size_at a i ∷ []

unfoldable pub line : List ℕ → ℕ → List ℕ
line a i = row (columns a i)

-- the lines of the records that start at the bytes of l
unfoldable pub lines : List ℕ → List ℕ → List ℕ
lines a [] = []
lines a (i ∷ l) = line a i ++ lines a l

-- the listing of a product of c records: their number, and a line for each, the main header's first
abbrev pub listing : {a : List ℕ} {c : ℕ} → Covered a c → List ℕ
listing {a} {c} v = (bytes_of "records " ++ column c 10) ++ lines a (0 ∷ starts v.way)

-- a refusal's line
abbrev pub refusal_line : Refusal → List ℕ
refusal_line r = (bytes_of "refused " ++ column r.number 32) ++ column r.place 10

-- the text, of n bytes, is at the start of the room, and what lies beyond is kept
pub record Wrote (room text : List ℕ) (n : ℕ) (exit : List ℕ) : Type 0 where
  pub bytes : n ≡ length text
  pub fits : n ≤ length room
  pub text_is : exit ≡ text ++ drop n room

-- ---- THE LISTING OF A PRODUCT
pub record Lists (a room : List ℕ) (n : ℕ) (exit : List ℕ) : Type 0 where
  pub small : length a ≤ 65536
  pub complete : Complete a
  pub count : ℕ
  pub covered : Covered a count
  pub wrote : Wrote room (listing covered) n exit

-- a product is not listed, and is refused with (n, p)
pub data NoList (a room : List ℕ) : ℕ → ℕ → Type 0 where
  too_large : 65536 < length a → NoList a room 23 65536
  faulty : {n p : ℕ} → length a ≤ 65536 → Given a n p → NoList a room n p
  short : length a ≤ 65536 → Clean a → Short a → NoList a room 17 (length a)
  no_room : {c : ℕ} → length a ≤ 65536 → Complete a → (v : Covered a c) → length room < length (listing v) → NoList a room 18 (length (listing v))

-- what is right to say of a product, and to write; a refusal keeps all of the room
abbrev pub ListedIs : List ℕ → List ℕ → Result ℕ Refusal → List ℕ → Type 0
ListedIs a room (Ok n) exit = Lists a room n exit
ListedIs a room (Err r) exit = NoList a room r.number r.place × (exit ≡ room)

-- ---- THE LINE OF A REFUSAL
pub record NoLine (room text : List ℕ) (r : Refusal) (exit : List ℕ) : Type 0 where
  pub needed : r ≡ refusing 18 (length text)
  pub over : length room < length text
  pub kept : exit ≡ room

abbrev pub LineIs : Refusal → List ℕ → Result ℕ Refusal → List ℕ → Type 0
LineIs x room (Ok n) exit = Wrote room (refusal_line x) n exit
LineIs x room (Err r) exit = NoLine room (refusal_line x) r exit

-- ---- what the functions behind them ask and answer
-- a product that is to be listed
pub record Listable (a : List ℕ) (c : ℕ) : Type 0 where
  pub small : length a ≤ 65536
  pub complete : Complete a
  pub covered : Covered a c

-- a listing of n bytes
abbrev pub Needs : List ℕ → ℕ → ℕ → Type 0
Needs a c n = (v : Covered a c) → n ≡ length (listing v)

-- a product that is to be listed, and a room for it
pub record Roomy (a : List ℕ) (c : ℕ) (room : List ℕ) : Type 0 where
  pub asked : Listable a c
  pub enough : (v : Covered a c) → length (listing v) ≤ length room

abbrev pub Full : List ℕ → ℕ → List ℕ → List ℕ → Type 0
Full a c room exit = (v : Covered a c) → exit ≡ sets room 0 (listing v)
