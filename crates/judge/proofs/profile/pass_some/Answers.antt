-- `judge::profile::pass_some` meets its contract: a line lets the record through, or none does and its class is spoken of or not. Assumes nothing.
use Rattle.std.proofs.Common.{◌+◌, ◌≤◌, length, sym, ◌∙◌, arith}
use Rattle.judge.proofs.ProfileLaws.{by_line, by_silence, one_room, one_next, passed_none, passed_one, passed_joined}
use Rattle.judge.proofs.profile.pass_some.Goals as goal
use Rattle.judge.proofs.profile.pass_some.Goals.{Start}

come : (s : Start) → s.args.at + 20 ≤ length s.args.s.now
come s = omega (arith, one_room s.requires.0 s.requires.1, s.requires.0.least)

pub bounds-s-at-2 : goal.bounds-s-at-2
bounds-s-at-2 c = omega (arith, come (goal.at.bounds-s-at-2 c).Start)

pub bounds-s-at-3 : goal.bounds-s-at-3
bounds-s-at-3 c = omega (arith, come (goal.at.bounds-s-at-3 c).Start)

pub bounds-s-at-4 : goal.bounds-s-at-4
bounds-s-at-4 c = omega (arith, come (goal.at.bounds-s-at-4 c).Start)

pub overflow_add-at-then-i-profile : goal.overflow_add-at-then-i-profile
overflow_add-at-then-i-profile c = let p = c.requires in omega (arith, one_room p.0 p.1)

pub pass_let-requires : goal.pass_let-requires
pass_let-requires c = let p = c.requires in (one_next p.0 p.1, c.if-i-profile.true)

pub returns-then-i-profile : goal.returns-then-i-profile
returns-then-i-profile c =
    passed_joined (passed_one c.requires.0 c.requires.1 (by_line c.args.profile.now _ _ _ _ c.line_for-i.result c.if-i-profile.true (c.line_for-i.ensures.found c.if-i-profile.true))) c.pass_let.ensures

pub overflow_add-result : goal.overflow_add-result
overflow_add-result c = let p = c.requires in omega (arith, one_room p.0 p.1)

pub returns : goal.returns
returns c =
    passed_one c.requires.0 c.requires.1 (by_silence c.args.profile.now _ _ _ _ (sym c.is_spoken.ensures ∙ c.if-is_spoken.false))

pub returns-then-is_spoken : goal.returns-then-is_spoken
returns-then-is_spoken c = passed_none c.requires.0
