-- `watch::step` meets its contract: that of `step_in`, on the watch's arrays in locals. Assumes nothing.
use Rattle.watch.proofs.step.Goals as goal

pub returns : goal.returns
returns c = c.step_in-gone.ensures
