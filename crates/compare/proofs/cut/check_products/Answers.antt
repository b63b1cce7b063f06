-- `compare::cut::check_products` meets its contract: the four fields, then the records. Assumes nothing.
use mathlib.Core.Path.{sym}
use Rattle.compare.proofs.CheckLaws.{product_long, both_records, says_field, says_records}
use Rattle.std.proofs.Common.{rules}
use Rattle.compare.proofs.cut.check_products.Goals as goal

pub slice_bounds-four_agree-end : goal.slice_bounds-four_agree-end
slice_bounds-four_agree-end c = sym (product_long c.requires.original)

pub slice_bounds-four_agree-end-2 : goal.slice_bounds-four_agree-end-2
slice_bounds-four_agree-end-2 c = sym (product_long c.requires.cut)

pub four_agree-requires : goal.four_agree-requires
four_agree-requires c = let p = c.requires in (product_long p.original, product_long p.cut)

pub returns-then-not-four_agree : goal.returns-then-not-four_agree
returns-then-not-four_agree c = says_field c.requires (c.four_agree.ensures.wrong (search rules))

pub compare_records-requires : goal.compare_records-requires
compare_records-requires c = both_records c.requires

pub returns : goal.returns
returns c = says_records c.requires (c.four_agree.ensures.right (search rules)) c.compare_records.result c.compare_records.ensures
