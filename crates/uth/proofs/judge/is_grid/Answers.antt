-- `uth::judge::is_grid` meets its contract: 1 to 80, by the number of the bytes. Assumes nothing.
use mathlib.Core.Path.{sym}
use Rattle.uth.proofs.FieldLaws.{grid_zero, grid_is}
use Rattle.uth.proofs.judge.is_grid.Goals as goal

pub returns-then-field-lt1 : goal.returns-then-field-lt1
returns-then-field-lt1 c = sym (grid_zero c.args.field c.if-field-lt1.true)

pub returns : goal.returns
returns c = grid_is c.args.field c.requires c.if-field-lt1.false
