-- `rewrite::survey::is_kept` meets its contract: by the class, and for an MDR by its start. Assumes nothing.
use native.Mathlib.Omega.{arith}
use mathlib.Core.Path.{sym, ap, ◌∙◌}
use Rattle.parts.specs.Cut.{window, within}
use Rattle.rewrite.proofs.KeepLaws.{kept_low, kept_aux, kept_high, kept_mdr}
use Rattle.rewrite.proofs.survey.is_kept.Goals as goal

pub returns-in-8 : goal.returns-in-8
returns-in-8 c =
    let a = c.args in
    let w = window a.first a.last in
    c.is_within.ensures ∙ ap (within w) c.time_at.ensures ∙ sym (kept_mdr w a.s.now a.at c.in-8.is)

pub returns-in-4-to-7 : goal.returns-in-4-to-7
returns-in-4-to-7 c = let a = c.args in sym (kept_aux (window a.first a.last) a.s.now a.at (omega arith) (omega arith))

pub returns-in_default : goal.returns-in_default
returns-in_default c = let a = c.args in sym (kept_low (window a.first a.last) a.s.now a.at (omega arith))

pub returns-in_default-2 : goal.returns-in_default-2
returns-in_default-2 c = let a = c.args in sym (kept_high (window a.first a.last) a.s.now a.at (omega arith) (λ e. omega arith))
