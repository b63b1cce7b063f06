-- `listing::line_width` meets its contract: the digits of each column, and a byte after each. Assumes nothing.
use native.Mathlib.Omega.{arith}
use mathlib.Core.Path.{◌∙◌}
use Rattle.record.proofs.HeaderLaws.{size_there_lem}
use Rattle.listing.proofs.WalkLaws.{width_at, line_length}
use Rattle.listing.proofs.line_width.Goals as goal

pub returns : goal.returns
returns c =
    let s = c.args in
    let l = line_length s.s.now s.at in
    let w6 = width_at c.places-6.ensures.0 (c.size_at.ensures ∙ size_there_lem s.s.now s.at c.requires) in
    let w5 = width_at c.places-5.ensures.0 c.from-4.ensures in
    let w3 = width_at c.places-3.ensures.0 c.from-3.ensures in
    let w2 = width_at c.places-2.ensures.0 c.from-2.ensures in
    let w1 = width_at c.places.ensures.0 c.from.ensures in
    (omega (arith, w6, w5, w3, w2, w1, l, c.places-4.ensures.0), omega (arith, c.places-6.ensures.1, c.places-5.ensures.1, c.places-4.ensures.1, c.places-3.ensures.1, c.places-2.ensures.1, c.places.ensures.1))
