-- `compare::walk::take_next` meets its contract: each way out is a law of StepLaws. Assumes nothing.
use Rattle.compare.proofs.StepLaws.{fixed_none, fixed_stands, fixed_other, fixed_same}
use Rattle.compare.proofs.walk.take_next.Goals as goal
use Rattle.compare.proofs.walk.take_next.Goals.{else-next-original-via-then-next-original+else-is_record, else-next-original-via-else-next-original}

pub is_record-requires : goal.is_record-requires
is_record-requires c = (fixed_stands c.requires c.next_fixed-next.ensures c.if-next-original.true, c.requires.come)

pub returns-then-is_record : goal.returns-then-is_record
returns-then-is_record c = fixed_same c.requires c.next_fixed-next.ensures c.if-next-original.true (c.is_record.ensures.right c.if-is_record.true)

pub returns-else-next-original : goal.returns-else-next-original
returns-else-next-original c = elim c.else-next-original.branch [
  | else-next-original-via-then-next-original+else-is_record w ↦ fixed_other c.requires c.next_fixed-next.ensures w.if-next-original.true (w.is_record.ensures.wrong w.if-is_record.false)
  | else-next-original-via-else-next-original w ↦ fixed_none c.requires c.next_fixed-next.ensures w.if-next-original.false
]
