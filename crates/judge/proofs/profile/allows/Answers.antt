-- `judge::profile::allows` meets its contract: a line lets such a record through, or none does and it is the class that tells. Assumes nothing.
use Rattle.std.proofs.Common.{not, sym, ap, ◌∙◌}
use Rattle.judge.proofs.ProfileLaws.{by_line, by_no_line}
use Rattle.judge.proofs.profile.allows.Goals as goal

pub returns-then-line_for-profile : goal.returns-then-line_for-profile
returns-then-line_for-profile c =
    let a = c.args in
    sym (by_line a.profile.now a.class a.group a.subclass a.version c.line_for.result c.if-line_for-profile.true (c.line_for.ensures.found c.if-line_for-profile.true))

pub returns : goal.returns
returns c =
    let a = c.args in
    ap not c.is_spoken.ensures ∙ by_no_line a.profile.now a.class a.group a.subclass a.version (c.line_for.ensures.none c.if-line_for-profile.false)
