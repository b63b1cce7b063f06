-- `uth::judge::is_some` meets its contract: 1 to 2 ^ 31 - 1, by the number of the bytes. Assumes nothing.
use mathlib.Core.Path.{sym}
use Rattle.uth.proofs.FieldLaws.{some_zero, some_is}
use Rattle.uth.proofs.judge.is_some.Goals as goal

pub returns-then-field-lt1 : goal.returns-then-field-lt1
returns-then-field-lt1 c = sym (some_zero c.args.field c.if-field-lt1.true)

pub returns : goal.returns
returns c = some_is c.args.field c.requires c.if-field-lt1.false
