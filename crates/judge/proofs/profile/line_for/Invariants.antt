-- The invariant of the loop: no line before i lets the record through.
use Rattle.std.proofs.Common.{◌≡◌, drop}
use Rattle.judge.specs.Profile.{lets}
use Rattle.judge.proofs.profile.line_for.Given as goal

abbrev pub invariant-loop-i : goal.invariant-loop-i
invariant-loop-i l = lets (drop l.i l.profile) l.class l.group l.subclass l.version ≡ lets l.profile l.class l.group l.subclass l.version
