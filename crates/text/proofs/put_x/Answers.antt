-- `text::put_x` meets its contract: the first n bytes are filled. Assumes nothing.
use Rattle.std.proofs.Common.{◌≡◌, List, ℕ, ◌++◌, drop, ap, ◌∙◌, rules}
use lib.ListN.{replicate}
use Rattle.meter.proofs.GeneralWrite.{x_filled}
use Rattle.text.proofs.put_x.Goals as goal

pub returns : goal.returns
returns c =
    let a = c.args in
    let f : c.fill.new.self ≡ replicate a.n 120 = search rules in
    ap (λ (b : List ℕ). b ++ drop a.n a.room.now) f ∙ x_filled a.room.now a.n c.requires
