-- `compare::walk::turn` meets its contract: by what the record is, each way out is a law of StepLaws. Assumes nothing.
use Rattle.compare.proofs.StepLaws.{turn_mdr, turn_fixed, on_pointer, mdr_nowhere, mdr_after, fixed_nowhere, fixed_after}
use Rattle.std.proofs.Common.{rules}
use Rattle.compare.proofs.walk.turn.Goals as goal

pub take_earliest-requires : goal.take_earliest-requires
take_earliest-requires c = turn_mdr c.requires

pub returns-in_err-mdr-in-8 : goal.returns-in_err-mdr-in-8
returns-in_err-mdr-in-8 c = rw c.from_residual.ensures (mdr_nowhere c.requires c.in-8.is c.in_err-mdr-in-8.ensures)

pub take_next-requires : goal.take_next-requires
take_next-requires c = turn_fixed c.requires

pub returns-in_err-fixed-in_default : goal.returns-in_err-fixed-in_default
returns-in_err-fixed-in_default c = rw c.from_residual-in_err-fixed-in_default.ensures (fixed_nowhere c.requires (search rules) (search rules) c.in_err-fixed-in_default.ensures)

pub returns-in-3 : goal.returns-in-3
returns-in-3 c = on_pointer c.requires c.in-3.is

pub returns-in_ok-mdr-in-8 : goal.returns-in_ok-mdr-in-8
returns-in_ok-mdr-in-8 c = mdr_after c.requires c.in-8.is _ c.in_ok-mdr-in-8.ensures

pub returns-in_ok-fixed-in_default : goal.returns-in_ok-fixed-in_default
returns-in_ok-fixed-in_default c = fixed_after c.requires (search rules) (search rules) _ c.in_ok-fixed-in_default.ensures
