-- `judge::arrival::turn` meets its contract: one of the laws of TurnLaws at each way out. Assumes nothing.
use Rattle.std.proofs.Common.{◌≡◌, ℕ, ◌+◌, ◌≤◌, List, length, subst}
use Rattle.judge.specs.Table.{Site, site}
use Rattle.judge.specs.Step.{ClearIs, SettledIs, BodyIs}
use Rattle.judge.specs.declared.pointers.Settled.{Settled}
use Rattle.judge.specs.declared.pointers.Settled.TheVariants as S
use Rattle.judge.specs.declared.pointers.Body.{Body}
use Rattle.judge.specs.declared.pointers.Body.TheVariants as B
use Rattle.judge.proofs.TurnLaws.{said, say_short, ranking, say_6_head, say_head, settling, say_13, say_14, bodied, say_part, say_6, say_12, go_on}
use Rattle.judge.proofs.arrival.turn.Goals as goal
use Rattle.judge.proofs.arrival.turn.Goals.{After-rank-h, After-word, After-settle, In-Clear, After-close_record}

abbrev a : After-rank-h → List ℕ
a c = c.args.s.now

abbrev x : After-rank-h → Site
x c = site c.args.count c.args.at c.args.prev c.args.tally.now

come : (c : After-rank-h) → c.args.at + 20 ≤ length (a c)
come c = c.if-s-at.false

high : (c : After-word) → 12 ≤ c.rank-h.result
high c = c.if-h-lt12.false

told : (c : After-settle) (r : Settled) → c.settle.result ≡ r → SettledIs (a (goal.at.After-settle c).After-rank-h) c.args.w c.args.at (c.args.at + c.word.result) r
told c r e = subst (SettledIs (a (goal.at.After-settle c).After-rank-h) c.args.w c.args.at (c.args.at + c.word.result)) e c.settle.ensures

clear : (c : In-Clear) → ClearIs (a (goal.at.In-Clear c).After-rank-h) c.args.w c.args.at (c.args.at + c.word.result) c.in-Clear.v
clear c = told (goal.at.In-Clear c).After-settle (S.Clear c.in-Clear.v) c.in-Clear.is

closed : (c : After-close_record) (r : Body) → c.close_record.result ≡ r → BodyIs (a (goal.at.After-close_record c).After-rank-h) c.args.at (c.args.at + c.word.result) c.in-Clear.v r
closed c r e = subst (BodyIs (a (goal.at.After-close_record c).After-rank-h) c.args.at (c.args.at + c.word.result) c.in-Clear.v) e c.close_record.ensures

pub returns-then-s-at : goal.returns-then-s-at
returns-then-s-at c = say_short c.requires.0 c.if-s-at.true

pub rank-h-requires : goal.rank-h-requires
rank-h-requires c = (ranking c.requires.0 c.if-s-at.false, c.requires.1)

pub returns-then-h-eq6 : goal.returns-then-h-eq6
returns-then-h-eq6 c = said (a (goal.at.returns-then-h-eq6 c).After-rank-h) c.refusal.ensures (say_6_head c.requires.0 (come (goal.at.returns-then-h-eq6 c).After-rank-h) c.rank-h.ensures c.if-h-eq6.true)

pub returns-then-h-lt12 : goal.returns-then-h-lt12
returns-then-h-lt12 c = said (a (goal.at.returns-then-h-lt12 c).After-rank-h) c.refusal-then-h-lt12.ensures (say_head c.requires.0 (come (goal.at.returns-then-h-lt12 c).After-rank-h) c.rank-h.ensures c.if-h-eq6.false c.if-h-lt12.true)

pub settle-requires : goal.settle-requires
settle-requires c = settling c.requires.0 (come (goal.at.settle-requires c).After-rank-h) c.rank-h.ensures (high c) c.word.ensures.0

pub close_record-requires : goal.close_record-requires
close_record-requires c = bodied c.requires.0 (come (goal.at.close_record-requires c).After-rank-h) c.rank-h.ensures (high (goal.at.close_record-requires c).After-word) c.word.ensures.0

pub returns-in-Inside : goal.returns-in-Inside
returns-in-Inside c =
    said (a (goal.at.returns-in-Inside c).After-rank-h) c.refusal-in-Inside.ensures (say_13 c.requires.0 (come (goal.at.returns-in-Inside c).After-rank-h) c.rank-h.ensures (high (goal.at.returns-in-Inside c).After-word) c.word.ensures.0 (told (goal.at.returns-in-Inside c).After-settle (S.Inside c.in-Inside.q) c.in-Inside.is))

pub returns-in-Other : goal.returns-in-Other
returns-in-Other c =
    said (a (goal.at.returns-in-Other c).After-rank-h) c.refusal-in-Other.ensures (say_14 c.requires.0 (come (goal.at.returns-in-Other c).After-rank-h) c.rank-h.ensures (high (goal.at.returns-in-Other c).After-word) c.word.ensures.0 (told (goal.at.returns-in-Other c).After-settle (S.Other c.in-Other.q) c.in-Other.is))

pub returns-in-Part : goal.returns-in-Part
returns-in-Part c =
    say_part c.requires.0 (come (goal.at.returns-in-Part c).After-rank-h) c.rank-h.ensures (high (goal.at.returns-in-Part c).After-word) c.word.ensures.0 (clear (goal.at.returns-in-Part c).In-Clear) (closed (goal.at.returns-in-Part c).After-close_record B.Part c.in-Part.is)

pub returns-in-Six : goal.returns-in-Six
returns-in-Six c =
    said (a (goal.at.returns-in-Six c).After-rank-h) c.refusal-in-Six.ensures (say_6 c.requires.0 (come (goal.at.returns-in-Six c).After-rank-h) c.rank-h.ensures (high (goal.at.returns-in-Six c).After-word) c.word.ensures.0 (clear (goal.at.returns-in-Six c).In-Clear) (closed (goal.at.returns-in-Six c).After-close_record B.Six c.in-Six.is))

pub returns-in-BadTarget : goal.returns-in-BadTarget
returns-in-BadTarget c =
    said (a (goal.at.returns-in-BadTarget c).After-rank-h) c.refusal-in-BadTarget.ensures (say_12 c.requires.0 (come (goal.at.returns-in-BadTarget c).After-rank-h) c.rank-h.ensures (high (goal.at.returns-in-BadTarget c).After-word) c.word.ensures.0 (clear (goal.at.returns-in-BadTarget c).In-Clear) (closed (goal.at.returns-in-BadTarget c).After-close_record B.BadTarget c.in-BadTarget.is))

pub returns-in-Entire : goal.returns-in-Entire
returns-in-Entire c =
    go_on c.requires.0 (come (goal.at.returns-in-Entire c).After-rank-h) c.rank-h.ensures (high (goal.at.returns-in-Entire c).After-word) c.word.ensures.0 (clear (goal.at.returns-in-Entire c).In-Clear) (closed (goal.at.returns-in-Entire c).After-close_record (B.Entire c.in-Entire.pointers) c.in-Entire.is)
