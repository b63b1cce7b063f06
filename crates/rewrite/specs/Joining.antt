-- What is known of a join before a byte of it is written. What a function between two steps asks and promises. Assumes nothing.
use Rattle.std.specs.Prelude.{ℕ, zero, suc, ◌+◌, ◌≤◌, ◌≡◌, Bool, length, get_or}
use mathlib.Core.List.{List, [], ◌∷◌, ◌++◌, Memᴰ as In}
use Rattle.std.proofs.lemmas.List.Edits.{sets}
use Rattle.std.specs.declared.result.Result.{Result}
use Rattle.calendar.specs.declared.Refusal.{Refusal}
use Rattle.demands.specs.Product.{MainHeader, Meets}
use Rattle.parts.specs.Parts.{joined, bytes, bytes_of, main_of, records_at}
use Rattle.parts.specs.Only.{only, is_sphr}
use Rattle.parts.specs.Kinds.{Kinded}
use Rattle.parts.specs.Join.{together, join_parts, Like}
use Rattle.parts.specs.JoinHeader.{added, ended_as, join_values, SumsFit}
use Rattle.parts.specs.Pass.{Alike, InTime}
use Rattle.parts.specs.Rewritten.{value_of, text, number, copied, whole, Rewritten, Anew, anew, values_of}
use Rattle.rewrite.specs.declared.sections.Sections.{Sections}
use Rattle.rewrite.specs.Table.{Holds}
use Rattle.bytewise.specs.Comparing.{Decides}
use Rattle.rewrite.specs.Join.{JoinIs}
use Rattle.rewrite.specs.Lining.{Totals, total_lines}
use Rattle.rewrite.specs.Sectioning.{SectionsAre}
use Rattle.rewrite.specs.Assembling.{Collected, Planned}

-- two main headers that are right
pub record Headers (m n : List ℕ) : Type 0 where
  pub first_long : length m ≡ 3307
  pub first : MainHeader m
  pub second_long : length n ≡ 3307
  pub second : MainHeader n

-- the lines of n sums from k on
abbrev pub sum_lines : List ℕ → List ℕ → ℕ → ℕ → List Anew
sum_lines m n k zero = []
sum_lines m n k (suc j) = anew k (number (added m n k)) ∷ sum_lines m n (suc k) j

-- the end time and the name's end time
abbrev pub end_lines : List ℕ → List ℕ → List Anew
end_lines m n = anew 0 (text (ended_as (value_of m 0) (value_of n 0))) ∷ anew 11 (copied (value_of n 11)) ∷ []

-- two main headers, and what goes into that of the join
pub record JoinHeaderFor (m n totals : List ℕ) (size : ℕ) (h : List ℕ) : Type 0 where
  pub headers : Headers m n
  pub sums : SumsFit m n
  pub counts : Totals totals
  pub small : size ≤ 2147483647
  pub long : length h ≡ 3307

abbrev pub join_lines_by : List ℕ → List ℕ → List ℕ → ℕ → List Anew
join_lines_by m n totals size = anew 28 (whole size) ∷ (total_lines totals 0 9 ++ (end_lines m n ++ sum_lines m n 64 7))

abbrev pub JoinHeaderIs : List ℕ → List ℕ → List ℕ → ℕ → List ℕ → Type 0
JoinHeaderIs m n totals size h = Rewritten m h (values_of (join_lines_by m n totals size))

-- two products
pub record Two (a b : List ℕ) : Type 0 where
  pub first : Meets a
  pub second : Meets b

-- and their sections
pub record Sections2 (a b : List ℕ) (x y : Sections) : Type 0 where
  pub two : Two a b
  pub first : SectionsAre (records_at a two.first.list) x
  pub second : SectionsAre (records_at b two.second.list) y

abbrev pub rs_of : (a b : List ℕ) → Two a b → List (List ℕ)
rs_of a b t = records_at a t.first.list

abbrev pub ss_of : (a b : List ℕ) → Two a b → List (List ℕ)
ss_of a b t = records_at b t.second.list

-- b says whether they have the same SPHR and global records; whether they are alike
abbrev pub LikeIs : Bool → List ℕ → List ℕ → Bool → Type 0
LikeIs i a b r = (t : Two a b) → Decides (Like i (rs_of a b t) (ss_of a b t)) r

abbrev pub AlikeIs : Bool → List ℕ → List ℕ → Bool → Type 0
AlikeIs i a b r = (t : Two a b) → Decides (Alike i (main_of a) (main_of b) (rs_of a b t) (ss_of a b t)) r

-- their sums fit
pub record Matched (a b : List ℕ) (x y : Sections) : Type 0 where
  pub found : Sections2 a b x y
  pub sums : SumsFit (main_of a) (main_of b)

-- the answer, whichever join it is of, where they are alike and in time
abbrev pub MatchedIs : List ℕ → List ℕ → List ℕ → Result ℕ Refusal → List ℕ → Type 0
MatchedIs a b room r exit =
    (i : Bool) (t : Two a b) → Alike i (main_of a) (main_of b) (rs_of a b t) (ss_of a b t) → InTime i (rs_of a b t) (ss_of a b t) → JoinIs i a b room r exit

-- what is gathered of both, for a table and a tally that are empty
pub record Gathering2 (a b : List ℕ) (x y : Sections) (table tally : List ℕ) : Type 0 where
  pub found : Sections2 a b x y
  pub small : bytes (together (rs_of a b found.two) (ss_of a b found.two)) ≤ 2147483647
  pub long : length table ≡ 20480
  pub empty : (j : ℕ) → get_or table j 0 ≡ 0
  pub nine : length tally ≡ 9
  pub none : (c : ℕ) → get_or tally c 0 ≡ 0

pub record Gathers2 (a b : List ℕ) (x : Sections) (records : ℕ) (table tally : List ℕ) : Type 0 where
  pub few : records ≤ 1099511627776
  pub collected :
      (t : Two a b) → Collected (only is_sphr (rs_of a b t)) (together (rs_of a b t) (ss_of a b t)) table tally x.sphr (bytes (together (rs_of a b t) (ss_of a b t))) records

-- a room for the records from byte `at` on; they stand there, and the other bytes are kept
pub record RecordsFor (a b : List ℕ) (x y : Sections) (at : ℕ) (room : List ℕ) : Type 0 where
  pub found : Sections2 a b x y
  pub fits : at + bytes (together (rs_of a b found.two) (ss_of a b found.two)) ≤ length room
  pub low : at ≤ 2147483647

abbrev pub PutsRecords : (a b : List ℕ) → ℕ → List ℕ → List ℕ → Type 0
PutsRecords a b at room exit = (t : Two a b) → exit ≡ sets room at (joined (together (rs_of a b t) (ss_of a b t)))

-- all that the writing rests on
pub record JoinPlanned (a b : List ℕ) (x y : Sections) (table totals : List ℕ) (at size : ℕ) (room : List ℕ) : Type 0 where
  pub matched : Matched a b x y
  pub holds : Holds (together (rs_of a b matched.found.two) (ss_of a b matched.found.two)) table (bytes (together (rs_of a b matched.found.two) (ss_of a b matched.found.two)))
  pub kinded : (r : List ℕ) → In r (together (rs_of a b matched.found.two) (ss_of a b matched.found.two)) → Kinded r
  pub planned :
      Planned (main_of a) (only is_sphr (rs_of a b matched.found.two)) (together (rs_of a b matched.found.two) (ss_of a b matched.found.two)) (length room) at size
      totals

-- a header of the join, and with it the join stands at the start of the room
pub record PutsJoin (a b : List ℕ) (room exit : List ℕ) : Type 0 where
  pub two : Two a b
  pub header : List ℕ
  pub lines : Rewritten (main_of a) header (join_values (main_of a) (main_of b) (rs_of a b two) (ss_of a b two))
  pub put : exit ≡ sets room 0 (bytes_of header (join_parts (main_of a) (rs_of a b two) (ss_of a b two)))
