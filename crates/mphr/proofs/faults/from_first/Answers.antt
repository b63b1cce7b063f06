-- `mphr::faults::from_first` meets its contract: the record header by its tests, and then the walk from the first line on. Assumes nothing.
use native.Mathlib.Omega.{arith}
use mathlib.Core.Path.{◌≡◌, sym, ◌∙◌}
use mathlib.Core.Bool.{true}
use borrow.Author.Tests.{not-true, not-false}
use Rattle.record.proofs.TimesLaws.{stands}
use Rattle.mphr.specs.Table.{headed}
use Rattle.mphr.proofs.TurnLaws.{wait_first, refuse_1, refuse_10, begin, start_0}
use Rattle.mphr.proofs.faults.from_first.Goals as goal
use Rattle.mphr.proofs.faults.from_first.Goals.{After-times_stand}

pub returns-then-s-lt20 : goal.returns-then-s-lt20
returns-then-s-lt20 c = wait_first c.if-s-lt20.true

pub is_headed-requires : goal.is_headed-requires
is_headed-requires c = omega arith

pub returns-then-not-is_headed : goal.returns-then-not-is_headed
returns-then-not-is_headed c = refuse_1 (sym c.is_headed.ensures ∙ not-true c.is_headed.result c.if-not-is_headed.true-raw) (omega arith)

head-stands : (c : After-times_stand) → headed c.args.s.now ≡ true
head-stands c = sym c.is_headed.ensures ∙ not-false c.is_headed.result c.if-not-is_headed.false-raw

pub returns-then-not-times_stand : goal.returns-then-not-times_stand
returns-then-not-times_stand c = refuse_10 (head-stands (goal.at.returns-then-not-times_stand c).After-times_stand) (sym (stands _ 0 c.times_stand.result (omega arith) c.times_stand.ensures) ∙ not-true c.times_stand.result c.if-not-times_stand.true-raw) (omega arith)

pub walk-requires : goal.walk-requires
walk-requires c = record { line = omega arith; at_is = sym start_0; come = omega arith }

pub returns : goal.returns
returns c =
    c.walk.ensures (begin (head-stands (goal.at.returns c).After-times_stand) (sym (stands _ 0 c.times_stand.result (omega arith) c.times_stand.ensures) ∙ not-false c.times_stand.result c.if-not-times_stand.false-raw))
