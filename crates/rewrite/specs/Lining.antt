-- Lines of a main header set anew, one after the other. What a function between two steps asks and promises. Assumes nothing.
use Rattle.std.specs.Prelude.{ℕ, zero, suc, ◌+◌, ◌≤◌, ◌<◌, ◌≡◌, true, false, List, [], ◌∷◌, ◌++◌, pos, length, get_or, take, drop}
use Rattle.meter.specs.Time.{is_time}
use Rattle.std.specs.declared.option.Option.TheVariants.{Some, None}
use Rattle.std.specs.declared.option.Option.{Option}
use Rattle.std.specs.Prelude.{ℤ}
use Rattle.meter.specs.declared.time.Time.{Time}
use Rattle.text.specs.Writing.{fits_number}
use Rattle.mphr.specs.Layout.{width_of}
use Rattle.demands.specs.Product.{MainHeader}
use Rattle.parts.specs.Parts.{main_of}
use Rattle.parts.specs.Rewritten.{value_of, text, number, time, whole, Rewritten, Anew, anew, values_of}
use Rattle.parts.specs.CutHeader.{to_second, renamed}

-- whatever header h is with lines set anew, h' is with those of new besides
abbrev pub Adds : List ℕ → List ℕ → List Anew → Type 0
Adds h h' new = (m : List ℕ) (l : List Anew) → Rewritten m h (values_of l) → Rewritten m h' (values_of (new ++ l))

-- a number that line k can hold
pub record NumberFor (k : ℕ) (x : Option ℤ) : Type 0 where
  pub line : k < 72
  pub narrow : width_of k ≤ 17
  pub fits : fits_number false (width_of k) x ≡ true

abbrev pub whole_number : ℕ → Option ℤ
whole_number n = Some (pos n)

abbrev pub number_line : ℕ → Option ℤ → List Anew
number_line k x = anew k (number x) ∷ []

abbrev pub unknown_lines : List Anew
unknown_lines =
    anew 64 (number None)
    ∷ anew 65 (number None)
    ∷ anew 66 (number None)
    ∷ anew 67 (number None)
    ∷ anew 68 (number None)
    ∷ anew 69 (number None)
    ∷ anew 70 (number None)
    ∷ anew 71 (text (84 ∷ []))
    ∷ []

-- nine totals that the lines can hold
pub record Totals (t : List ℕ) : Type 0 where
  pub nine : length t ≡ 9
  pub most : (j : ℕ) → j < 9 → get_or t j 0 ≤ 999999

-- the lines of n totals from j on
abbrev pub total_lines : List ℕ → ℕ → ℕ → List Anew
total_lines t j zero = []
total_lines t j (suc n) = anew (55 + j) (whole (get_or t j 0)) ∷ total_lines t (suc j) n

-- a name of 67 bytes with two texts at bytes 16..30 and 32..46 (`renamed`)
abbrev pub timed : List ℕ → List ℕ → List ℕ → List ℕ
timed n f l = take 16 n ++ (f ++ (take 1 (drop 31 n) ++ (l ++ drop 47 n)))

abbrev pub time_lines : List ℕ → Option Time → Option Time → List Anew
time_lines n t u = anew 0 (text (renamed n (to_second t) (to_second u))) ∷ anew 10 (time (to_second t)) ∷ anew 11 (time (to_second u)) ∷ []

-- a product's header that is to be rewritten, and what goes into it
pub record HeaderFor (a : List ℕ) (t u : Option Time) (totals : List ℕ) (size : ℕ) (h : List ℕ) : Type 0 where
  pub come : 3307 ≤ length a
  pub header : MainHeader (main_of a)
  pub start : is_time t ≡ true
  pub stop : is_time u ≡ true
  pub counts : Totals totals
  pub small : size ≤ 2147483647
  pub long : length h ≡ 3307

-- the lines of the cut, by these
abbrev pub lines_by : List ℕ → Option Time → Option Time → List ℕ → ℕ → List Anew
lines_by m t u totals size = anew 28 (whole size) ∷ (total_lines totals 0 9 ++ (time_lines (value_of m 0) t u ++ unknown_lines))

abbrev pub HeaderIs : List ℕ → Option Time → Option Time → List ℕ → ℕ → List ℕ → Type 0
HeaderIs a t u totals size h = Rewritten (main_of a) h (values_of (lines_by (main_of a) t u totals size))
