-- DETERMINED: of a watch that stands for some bytes no second four numbers fit a promise: the answer below is one, and the numbers are said of it. The state is not
-- one (docs/PROMISES.md says why); what it stands for is. Assumes nothing.
use Prim.Native.Nat.{ℕ}
use mathlib.Core.Path.{◌≡◌, sym, ap, ◌∙◌}
use mathlib.Core.List.{List}
use Rattle.watch.specs.Stands.{StandsFor}
use Rattle.watch.specs.declared.Watch.{Watch}
use Rattle.watch.proofs.Laws.{unique_fed}
use Rattle.watch_c.specs.Boundary.{numbers_of, FedIs}
use Rattle.watch_c.specs.declared.Numbers.{Numbers}

pub unique_wl_watch_feed : {w w' w'' : Watch} {a p : List ℕ} {n m : Numbers} → StandsFor w a → FedIs w p w' n → FedIs w p w'' m → n ≡ m
unique_wl_watch_feed s f g = f.said ∙ ap numbers_of (unique_fed s f.fed g.fed) ∙ sym g.said
