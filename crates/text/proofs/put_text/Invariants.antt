-- The invariant of the loop: the first i bytes are the text's, and the others as they were.
use lib.ListN.{length, take, drop}
use mathlib.Core.Path.{◌≡◌}
use mathlib.Core.List.{◌++◌}
use Rattle.text.proofs.put_text.Given as goal

abbrev pub invariant-loop-i : goal.invariant-loop-i
invariant-loop-i l = l.room ≡ take l.i l.text ++ drop l.i l.initial.room
