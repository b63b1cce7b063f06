-- `record::header::word_at` meets its contract: the four bytes are there, so their number is answered. Assumes nothing.
use Rattle.record.proofs.HeaderLaws.{word_value, word_never}
use Rattle.calendar.specs.Said.{said}
use Rattle.meter.proofs.IntegerLaws.{be_at_lt}
use Rattle.meter.specs.Integer.{be_at}
use native.Mathlib.Omega.{arith}
use mathlib.Core.Path.{◌≡◌, sym, ap, ◌∙◌}
use Rattle.record.proofs.header.word_at.Goals as goal
use Rattle.record.proofs.header.word_at.Goals.{In-Ok}

-- the number that was answered
value : (c : In-Ok) → c.in-Ok.v ≡ be_at c.args.bytes.now c.args.at 4
value c = word_value c.args.bytes.now c.args.at c.requires _ (sym (ap said c.in-Ok.is) ∙ c.read_unsigned.ensures)

pub overflow_cast-result : goal.overflow_cast-result
overflow_cast-result c = record { fits = omega (arith, value c, be_at_lt c.args.bytes.now (λ k. (c.shared_slice_known-1.given k).fits) c.args.at 4) }

pub returns-in-Ok : goal.returns-in-Ok
returns-in-Ok c = value c

pub returns-in-Err : goal.returns-in-Err
returns-in-Err c = absurd (word_never c.args.bytes.now c.args.at c.requires _ (sym (ap said c.in-Err.is) ∙ c.read_unsigned.ensures))
