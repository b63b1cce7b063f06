-- `record::pointer::read_pointer` meets its contract: the part, its header, then the class and the size (PointerLaws). Assumes nothing.
use Rattle.std.proofs.Common.{◌≡◌, true, ◌∙◌, rules}
use Rattle.calendar.specs.Said.{said, refused}
use Rattle.meter.specs.Lent.{inside}
use Rattle.record.proofs.PointerLaws.{header_bad, pointing_bad, not_class, not_size, pointer_good}
use Rattle.record.proofs.pointer.read_pointer.Goals as goal
use Rattle.record.proofs.pointer.read_pointer.Goals.{then-header-ne3-via-then-header-ne3, then-header-ne3-via-else-header-ne3+then-header-ne27}

pub returns-in_err-header : goal.returns-in_err-header
returns-in_err-header c =
    let i : inside c.args.bytes.now c.args.at 27 ≡ true = search rules in
    let e : said c.from_residual.result ≡ refused c.in_err-header.field-0.0 = search rules in
    e ∙ header_bad c.args.bytes.now c.args.at i c.in_err-header.field-0.0 c.in_err-header.ensures

pub returns-then-header-ne3 : goal.returns-then-header-ne3
returns-then-header-ne3 c =
    let i : inside c.args.bytes.now c.args.at 27 ≡ true = search rules in
    let h = c.in_ok-header.header in
    elim c.then-header-ne3.branch [
      | then-header-ne3-via-then-header-ne3 w ↦ pointing_bad c.args.bytes.now c.args.at i h c.in_ok-header.ensures (not_class h w.if-header-ne3.true)
      | then-header-ne3-via-else-header-ne3+then-header-ne27 w ↦ pointing_bad c.args.bytes.now c.args.at i h c.in_ok-header.ensures (not_size h w.if-header-ne27.true)
    ]

pub returns : goal.returns
returns c =
    let i : inside c.args.bytes.now c.args.at 27 ≡ true = search rules in
    pointer_good c.args.bytes.now c.args.at i c.in_ok-header.header c.in_ok-header.ensures c.word_at.result c.if-header-ne3.false c.if-header-ne27.false c.word_at.ensures
