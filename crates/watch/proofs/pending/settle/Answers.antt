-- `watch::pending::settle` meets its contract: what is found inside, then what is of another kind, then neither. Assumes nothing.
use Prim.Native.Nat.{ℕ}
use mathlib.Core.Path.{◌≡◌}
use mathlib.Core.List.{List}
use Rattle.watch.specs.Pending.{FirstIn}
use Rattle.watch.proofs.Leaves.{clear_soon, clear_found}
use Rattle.watch.proofs.pending.settle.Goals as goal

pub returns-then-to-due : goal.returns-then-to-due
returns-then-to-due c = clear_soon c.requires.1 c.if-to-due.true

pub returns-then-inside-ne0 : goal.returns-then-inside-ne0
returns-then-inside-ne0 c = record { some = c.if-inside-ne0.true; found = c.first_of-inside.ensures }

zeroed : {ss gs ks : List ℕ} {n lo hi k u : ℕ} → u ≡ 0 → FirstIn ss gs ks n lo hi k u → FirstIn ss gs ks n lo hi k 0
zeroed e f = rw e at f

pub returns-then-other-ne0 : goal.returns-then-other-ne0
returns-then-other-ne0 c = record { some = c.if-other-ne0.true; none = zeroed c.if-inside-ne0.false c.first_of-inside.ensures; found = c.first_of-other.ensures }

pub returns : goal.returns
returns c = clear_found c.if-inside-ne0.false c.if-other-ne0.false c.first_of-inside.ensures c.first_of-other.ensures c.nearest.ensures
