-- `rewrite::lines::whole` meets its contract: a number of 31 bits is itself with a sign. Assumes nothing.
use native.Mathlib.Omega.{arith}
use mathlib.Core.Path.{ap}
use mir.Syntax.{w64}
use mir.ValLaws.{to_z_pos}
use Rattle.std.specs.declared.option.Option.TheVariants.{Some}
use Rattle.rewrite.proofs.lines.whole.Goals as goal

pub returns : goal.returns
returns c = ap Some (to_z_pos w64 c.args.n (omega arith))
