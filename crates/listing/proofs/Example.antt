-- 01's example, line by line, computed from the definitions. Assumes nothing.
use mathlib.Core.Path.{◌≡◌, refl}
use mathlib.Core.List.{[], ◌∷◌, ◌++◌}
use Rattle.calendar.specs.Said.{refusing}
use Rattle.mphr.specs.Layout.{bytes_of}
use Rattle.listing.specs.Decimal.{digits, decimal, column}
use Rattle.listing.specs.Listing.{row, refusal_line}

head : bytes_of "records " ++ column 2 10 ≡ bytes_of "records 2\n"
unfolding digits decimal
head = refl

main_line : row (0 ∷ 1 ∷ 0 ∷ 0 ∷ 2 ∷ 3307 ∷ []) ≡ bytes_of "0 1 0 0 2 3307\n"
unfolding digits decimal
main_line = refl

dummy_line : row (3307 ∷ 8 ∷ 13 ∷ 1 ∷ 1 ∷ 21 ∷ []) ≡ bytes_of "3307 8 13 1 1 21\n"
unfolding digits decimal
dummy_line = refl

empty_input : refusal_line (refusing 17 0) ≡ bytes_of "refused 17 0\n"
unfolding digits decimal
empty_input = refl
