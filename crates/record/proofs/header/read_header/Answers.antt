-- `record::header::read_header` meets its contract: the part, each time, then the class, the group and the size (HeaderLaws). Assumes nothing.
use Rattle.std.proofs.Common.{◌≡◌, ◌+◌, true, ◌∙◌, rules, slice_index_or}
use Rattle.calendar.specs.Said.{said, refused, answer}
use Rattle.meter.specs.Lent.{inside}
use Rattle.meter.specs.Time.{time_read_at}
use Rattle.record.specs.declared.header.Header.{Header}
use Rattle.record.specs.Header.{is_lead}
use Rattle.record.proofs.HeaderLaws.{start_bad, stop_bad, lead_bad, header_good}
use Rattle.record.proofs.header.read_header.Goals as goal

pub returns-in_err-start : goal.returns-in_err-start
returns-in_err-start c =
    let i : inside c.args.bytes.now c.args.at 20 ≡ true = search rules in
    let e : said c.from_residual.result ≡ refused c.in_err-start.field-0.0 = search rules in
    e ∙ start_bad c.args.bytes.now c.args.at i c.in_err-start.field-0.0 c.in_err-start.ensures

pub returns-in_err-stop : goal.returns-in_err-stop
returns-in_err-stop c =
    let i : inside c.args.bytes.now c.args.at 20 ≡ true = search rules in
    let e : said c.from_residual-in_err-stop.result ≡ refused c.in_err-stop.field-0.0 = search rules in
    e ∙ stop_bad c.args.bytes.now c.args.at i c.in_err-stop.field-0.0 c.in_err-stop.ensures

pub returns-then-not-is_lead : goal.returns-then-not-is_lead
returns-then-not-is_lead c =
    let i : inside c.args.bytes.now c.args.at 20 ≡ true = search rules in
    lead_bad c.args.bytes.now c.args.at i c.word_at-size.result c.word_at-size.ensures (search rules)

pub returns : goal.returns
returns c =
    let i : inside c.args.bytes.now c.args.at 20 ≡ true = search rules in
    header_good c.args.bytes.now c.args.at i c.word_at-size.result c.word_at-size.ensures _ _ (search rules) c.in_ok-start.ensures c.in_ok-stop.ensures
