-- Whether the times of a record's header stand (01, "Numbers we answer with", row 10: "bad time, or both defined and start after stop"). Assumes
-- nothing.
use Rattle.std.specs.Prelude.{ℕ, ◌+◌, Bool, true, false, not, ◌&&◌, List}
use Rattle.calendar.specs.Said.{Said, answer, refusal}
use Rattle.meter.specs.Lent.{inside}
use Rattle.meter.specs.Time.{time_at, is_time, compared}
use Rattle.std.specs.declared.cmp.Ordering.TheVariants.{Less, Equal, Greater}
use Rattle.std.specs.declared.cmp.Ordering.{Ordering}

-- the order of two times is that the first comes after the second; undefined times have none
abbrev pub is_after : Said Ordering → Bool
is_after (answer Greater) = true
is_after (answer Less) = false
is_after (answer Equal) = false
is_after (refusal n p) = false

-- both times of the header at byte at are right, and the start is not after the stop where both are defined
unfoldable pub timed_at : List ℕ → ℕ → Bool
timed_at a at = (is_time (time_at a (at + 8)) && is_time (time_at a (at + 14))) && not (is_after (compared (time_at a (at + 8)) (time_at a (at + 14))))

-- THE TEST: the header's 20 bytes are there too
abbrev pub times_stand : List ℕ → ℕ → Bool
times_stand a at = inside a at 20 && timed_at a at
