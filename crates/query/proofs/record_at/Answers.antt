-- `query::record_at` meets its contract: the judge's refusal is handed on; where it waits, the header of a whole record is read. Assumes
-- nothing.
use mathlib.Core.Path.{◌≡◌, sym, ap, ◌∙◌}
use Rattle.std.proofs.Common.{rules}
use Rattle.std.proofs.lemmas.Result.{err_from_is_err_and}
use Rattle.calendar.specs.Said.{said, answer}
use Rattle.std.specs.declared.result.Result.TheVariants.{Err}
use Rattle.record.specs.Header.{header_at}
use Rattle.judge.specs.Table.{Open}
use Rattle.query.specs.Query.{faulty, not_yet}
use Rattle.query.proofs.QueryLaws.{no_answer, handed, open_reach, start_headed, header_read}
use Rattle.query.proofs.record_at.Goals as goal
use Rattle.query.proofs.record_at.Goals.{In-Waiting, After-read_header}

opened : (c : In-Waiting) → Open c.args.bytes.now c.in-Waiting.count c.in-Waiting.end
opened c = rw c.in-Waiting.is at c.judge_arrival-judged.ensures

read : (c : After-read_header) → said c.read_header.result ≡ answer (header_at c.args.bytes.now c.start_of-start.result)
read c =
    let o = opened (goal.at.After-read_header c).In-Waiting in
    c.read_header.ensures ∙ header_read (start_headed o.clean (open_reach o c.if-count-k.false) c.start_of-start.ensures)

pub returns-in_default : goal.returns-in_default
returns-in_default c = faulty (handed c.in_default.is c.refusal_of.ensures c.judge_arrival-judged.ensures)

pub returns-then-count-k : goal.returns-then-count-k
returns-then-count-k c = not_yet (opened (goal.at.returns-then-count-k c).In-Waiting) c.if-count-k.true

pub returns-in_err-header : goal.returns-in_err-header
returns-in_err-header c =
    let q = err_from_is_err_and c.from_residual.result c.from_residual.ensures.1 in
    let e : c.read_header.result ≡ Err q.0 = search rules in
    absurd (no_answer (ap said (sym e) ∙ read (goal.at.returns-in_err-header c).After-read_header))
