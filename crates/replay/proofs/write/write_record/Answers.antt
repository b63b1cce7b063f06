-- `replay::write::write_record` meets its contract: the refusals in order, and the record (WriteLaws). Assumes nothing.
use mathlib.Core.Path.{sym, ◌∙◌}
use native.Mathlib.Omega.{arith}
use Rattle.replay.specs.Record.{Recordable, unfit, no_room}
use Rattle.replay.proofs.WriteLaws.{writes}
use Rattle.replay.proofs.write.write_record.Goals as goal
use Rattle.replay.proofs.write.write_record.Goals.{Else-sum_in-product, then-n-gt4294967295-via-then-n-gt4294967295, then-n-gt4294967295-via-else-n-gt4294967295+then-sum_in-product}

fit : (c : Else-sum_in-product) → Recordable c.args.lengths.now c.args.product.now
fit c = record { few = (let t = c.if-n-gt4294967295.false in omega arith); summed = sym c.sum_in.ensures ∙ c.if-sum_in-product.false }

pub returns-then-n-gt4294967295 : goal.returns-then-n-gt4294967295
returns-then-n-gt4294967295 c = elim c.then-n-gt4294967295.branch [
  | then-n-gt4294967295-via-then-n-gt4294967295 w ↦ unfit (λ f. let n = f.few in let t = w.if-n-gt4294967295.true in omega arith)
  | then-n-gt4294967295-via-else-n-gt4294967295+then-sum_in-product w ↦ unfit (λ f. w.if-sum_in-product.true (w.sum_in.ensures ∙ f.summed))
]

pub returns-then-room-bytes : goal.returns-then-room-bytes
returns-then-room-bytes c = no_room (fit (goal.at.returns-then-room-bytes c).Else-sum_in-product) c.if-room-bytes.true

pub put_record-requires : goal.put_record-requires
put_record-requires c = record { fit = fit (goal.at.put_record-requires c).Else-sum_in-product; enough = c.if-room-bytes.false }

pub returns : goal.returns
returns c =
    writes (record { fit = fit (goal.at.returns c).Else-sum_in-product; enough = c.if-room-bytes.false }) (λ i. (c.type_inv.room i).fits) c.put_record.ensures
