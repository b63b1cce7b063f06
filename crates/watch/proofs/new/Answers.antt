-- `watch::new` meets its contract: a state of zeros, which stands for no bytes (`fresh`). Assumes nothing.
use mathlib.Core.Path.{refl}
use Rattle.watch.proofs.StepLaws.{fresh}
use Rattle.watch.proofs.new.Goals as goal

pub returns : goal.returns
returns c = record { is = refl; fresh = fresh _ (record { head = refl; under = refl; starts = refl; targets = refl; kinds = refl }) refl refl refl refl }
