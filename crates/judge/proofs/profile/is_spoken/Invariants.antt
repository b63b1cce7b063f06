-- The invariant of the loop: what the lines that are left say is what all say.
use Rattle.std.proofs.Common.{◌≡◌, drop}
use Rattle.judge.specs.Profile.{speaks}
use Rattle.judge.proofs.profile.is_spoken.Given as goal

abbrev pub invariant-loop-line : goal.invariant-loop-line
invariant-loop-line l = speaks (drop l.line-index l.profile) l.class ≡ speaks l.profile l.class
