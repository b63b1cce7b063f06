-- The invariant of the loop: the digits of `rest` go from byte `at` up to byte i.
use Rattle.listing.proofs.ColumnLaws.{Writing}
use Rattle.listing.proofs.put_column.Given as goal

abbrev pub invariant-loop-i : goal.invariant-loop-i
invariant-loop-i l = Writing l.initial.room l.at l.v l.room l.i l.rest
