-- `rewrite::survey::put_one` meets its contract: a record that is kept is its own text. Assumes nothing.
use native.Mathlib.Omega.{arith}
use mathlib.Core.Path.{sym, ap, ◌∙◌}
use lib.ListN.{length}
use lib.Seq.{sets}
use borrow.Author.Tests.{not-true, not-false}
use Rattle.parts.specs.Cut.{window}
use Rattle.rewrite.proofs.CopyLaws.{part_long}
use Rattle.rewrite.proofs.KeepLaws.{text_none, text_all}
use Rattle.rewrite.proofs.survey.put_one.Goals as goal

pub returns-then-not-is_kept : goal.returns-then-not-is_kept
returns-then-not-is_kept c =
    let a = c.args in
    let e = text_none (window a.first a.last) a.s.now a.at a.size (sym c.is_kept.ensures ∙ not-true c.is_kept.result c.if-not-is_kept.true-raw) in
    record { next = omega (arith, ap length e); put = ap (sets a.room.now a.p) (sym e) }

pub copy-requires : goal.copy-requires
copy-requires c =
    let a = c.args in
    let e = text_all (window a.first a.last) a.s.now a.at a.size (sym c.is_kept.ensures ∙ not-false c.is_kept.result c.if-not-is_kept.false-raw) in
    (c.requires.1, omega (arith, c.requires.2, ap length e, part_long a.s.now a.at a.size c.requires.1))

pub returns : goal.returns
returns c =
    let a = c.args in
    let e = text_all (window a.first a.last) a.s.now a.at a.size (sym c.is_kept.ensures ∙ not-false c.is_kept.result c.if-not-is_kept.false-raw) in
    record {
      next = omega (arith, ap length e, part_long a.s.now a.at a.size c.requires.1);
      put = c.copy.ensures ∙ ap (sets a.room.now a.p) (sym e);
    }
