-- `mphr::faults::is_named` meets its contract: after i turns the first 10 i bytes are those of the name in the table that is handed over.
-- Assumes nothing.
use native.Mathlib.Omega.{arith}
use borrow.Author.Tests.{not-true, not-false}
use mathlib.Core.Path.{◌≡◌, refl, ap, ◌∙◌}
use Prim.Native.Nat.{◌*◌}
use lib.ListN.{length}
use Rattle.mphr.specs.Layout.{fields, rows, names}
use Rattle.mphr.proofs.AlikeLaws.{ten_more, not_named}
use Rattle.mphr.proofs.LineLaws.{name_yes}
use Rattle.mphr.proofs.faults.is_named.Goals as goal
use Rattle.mphr.proofs.faults.is_named.Goals.{In-loop-i}

all-names : length names ≡ 2160
unfolding fields rows names
all-names = refl

in_table : (c : In-loop-i) → length c.args.table.now ≡ 2160
in_table c = ap length c.requires.3 ∙ all-names

pub is_alike-requires : goal.is_alike-requires
is_alike-requires c = (omega arith, omega (arith, in_table c, c.requires.0))

pub returns-then-not-is_alike : goal.returns-then-not-is_alike
returns-then-not-is_alike c = not_named c.args.s.now c.args.table.now c.args.k c.args.at c.loop-i.i c.requires.1 c.requires.3 c.loop-i-test.true (c.is_alike.ensures.bad (not-true c.is_alike.result c.if-not-is_alike.true-raw))

pub loop-i-preserved : goal.loop-i-preserved
loop-i-preserved c = ten_more c.args.s.now c.args.table.now c.args.k c.args.at c.loop-i.i c.requires.1 c.requires.3 c.loop-i.invariant (c.is_alike.ensures.good (not-false c.is_alike.result c.if-not-is_alike.false-raw))

pub returns : goal.returns
returns c = name_yes c.args.s.now c.args.k c.args.at (10 * c.loop-i.i) c.requires.1 (omega arith) c.loop-i.invariant
