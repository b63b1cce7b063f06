-- `watch::turn` meets its contract: each way out by its law (TurnLaws), from the tests that lead there. Assumes nothing.
use Prim.Native.Nat.{ℕ, ◌+◌, ◌-◌, ◌≤◌, ◌<◌}
use native.Mathlib.Omega.{arith}
use mathlib.Core.Path.{◌≡◌, sym, ◌∙◌, subst}
use mathlib.Core.List.{List}
use lib.ListN.{get_or}
use borrow.Author.Tests.{not-true, not-false}
use Rattle.judge.proofs.RankLaws.{part_is, not_part}
use Rattle.judge.specs.Table.{site, class_at, size_at}
use Rattle.watch.specs.Watched.{Open}
use Rattle.watch.specs.Turning.{Read}
use Rattle.judge.specs.Step.{RankIs}
use Rattle.watch.specs.Pending.{ClearIs, SettledIs}
use Rattle.watch.specs.declared.pending.Settled.{Settled}
use Rattle.watch.specs.declared.pending.Settled.TheVariants as S
use Rattle.watch.proofs.TurnLaws.{least, most, known, fewer, say_wait, say_6_head, say_head, say_24, say_13, say_14, say_body, say_6, go_pass, say_12, go_point}
use Rattle.watch.proofs.turn.Goals as goal
use Rattle.watch.proofs.turn.Goals.{After-kind_in, After-header_rank-h, After-settle, In-Clear, Else-is_part}

abbrev under : After-kind_in → List ℕ
under c = c.args.under.now

have20 : (c : After-header_rank-h) → 20 ≤ c.args.have
have20 c = c.if-have-lt20.false

ranked : (c : After-header_rank-h) → RankIs c.args.under.now 0 (c.args.d - c.args.at) c.args.prev c.args.totals.now c.args.tally.now c.header_rank-h.result
ranked c = c.header_rank-h.ensures.0 c.requires.3 c.requires.4

high : (c : After-kind_in) → 12 ≤ c.header_rank-h.result
high c = c.if-h-lt12.false

few : (c : After-kind_in) → class_at (under c) 0 ≡ 3 → get_or c.args.tally.now 3 0 < 64
few c = c.is_one_more.ensures.bad c.if-is_one_more.false

abbrev to : After-kind_in → ℕ
to c = c.args.at + c.word_in.result

size_is : (c : After-kind_in) → c.word_in.result ≡ size_at (under c) 0
size_is c = c.word_in.ensures.0 (omega arith)

-- the record ends in the product
inside : (c : After-kind_in) → (c.args.at + 20 ≤ to c) × (to c ≤ c.args.d)
inside c = (omega (arith, size_is c, least (ranked (goal.at.After-kind_in c).After-header_rank-h) (high c)), omega (arith, size_is c, most (ranked (goal.at.After-kind_in c).After-header_rank-h) (high c), c.requires.0))

told : (c : After-settle) (r : Settled) → c.settle.result ≡ r
    → SettledIs c.args.starts.now c.args.targets.now c.args.kinds.now (get_or c.args.tally.now 3 0) c.args.due c.args.at (to (goal.at.After-settle c).After-kind_in) c.kind_in.result r
told c r e = subst (SettledIs c.args.starts.now c.args.targets.now c.args.kinds.now (get_or c.args.tally.now 3 0) c.args.due c.args.at (to (goal.at.After-settle c).After-kind_in) c.kind_in.result) e c.settle.ensures

clear : (c : In-Clear) → ClearIs c.args.starts.now c.args.targets.now c.args.kinds.now (get_or c.args.tally.now 3 0) c.args.due c.args.at (to (goal.at.In-Clear c).After-kind_in) c.kind_in.result c.in-Clear.due
clear c = told (goal.at.In-Clear c).After-settle (S.Clear c.in-Clear.due) c.in-Clear.is

-- not 1 to 19 bytes are left after it
ended : (c : Else-is_part) → to (goal.at.Else-is_part c).After-kind_in < c.args.d → to (goal.at.Else-is_part c).After-kind_in + 20 ≤ c.args.d
ended c = not_part (to (goal.at.Else-is_part c).After-kind_in) c.args.d (sym c.is_part.ensures ∙ c.if-is_part.false)

pub returns-then-have-lt20 : goal.returns-then-have-lt20
returns-then-have-lt20 c = record { safe = tt; right = λ b n y. say_wait y c.if-have-lt20.true; rests = tt }

pub returns-then-h-eq-BYTES_LEFT : goal.returns-then-h-eq-BYTES_LEFT
returns-then-h-eq-BYTES_LEFT c = record { safe = omega arith; right = λ b n y. say_6_head y (have20 (goal.at.returns-then-h-eq-BYTES_LEFT c).After-header_rank-h) (ranked (goal.at.returns-then-h-eq-BYTES_LEFT c).After-header_rank-h) c.if-h-eq-BYTES_LEFT.true; rests = tt }

pub returns-then-h-lt12 : goal.returns-then-h-lt12
returns-then-h-lt12 c = record { safe = omega (arith, (ranked (goal.at.returns-then-h-lt12 c).After-header_rank-h).low); right = λ b n y. say_head y (have20 (goal.at.returns-then-h-lt12 c).After-header_rank-h) (ranked (goal.at.returns-then-h-lt12 c).After-header_rank-h) c.if-h-eq-BYTES_LEFT.false c.if-h-lt12.true; rests = tt }

pub returns-then-is_one_more : goal.returns-then-is_one_more
returns-then-is_one_more c = let g = c.is_one_more.ensures.good c.if-is_one_more.true in record { safe = omega arith; right = λ b n y. say_24 y (have20 (goal.at.returns-then-is_one_more c).After-header_rank-h) (ranked (goal.at.returns-then-is_one_more c).After-header_rank-h) c.if-h-lt12.false g.0 g.1; rests = tt }

pub settle-requires : goal.settle-requires
settle-requires c = let w = inside c in (c.requires.2, omega (arith, w), omega (arith, w, c.requires.1))

pub returns-then-len-to : goal.returns-then-len-to
returns-then-len-to c =
    let say : (b : List ℕ) (n len : ℕ) → Read b (site n c.args.at c.args.prev c.args.tally.now) c.args.d c.args.due c.args.totals.now c.args.starts.now c.args.targets.now c.args.kinds.now (under (goal.at.returns-then-len-to c).After-kind_in) c.args.have len → len < to (goal.at.returns-then-len-to c).After-kind_in → Open b n c.args.at
    = λ b n len y l. say_body y (have20 (goal.at.returns-then-len-to c).After-header_rank-h) (ranked (goal.at.returns-then-len-to c).After-header_rank-h) (high (goal.at.returns-then-len-to c).After-kind_in) (few (goal.at.returns-then-len-to c).After-kind_in) (size_is (goal.at.returns-then-len-to c).After-kind_in) (c.kind_in.ensures.0 (omega arith)) c.kind_in.ensures.1 (clear (goal.at.returns-then-len-to c).In-Clear) l in
    record { safe = tt; right = λ b n y. say b n _ y c.if-len-to.true; rests = (have20 (goal.at.returns-then-len-to c).After-header_rank-h, say) }

pub returns-then-is_part : goal.returns-then-is_part
returns-then-is_part c = let q = part_is (to (goal.at.returns-then-is_part c).After-kind_in) c.args.d (sym c.is_part.ensures ∙ c.if-is_part.true) in record { safe = omega arith; right = λ b n y. say_6 y (have20 (goal.at.returns-then-is_part c).After-header_rank-h) (ranked (goal.at.returns-then-is_part c).After-header_rank-h) (high (goal.at.returns-then-is_part c).After-kind_in) (few (goal.at.returns-then-is_part c).After-kind_in) (size_is (goal.at.returns-then-is_part c).After-kind_in) (c.kind_in.ensures.0 (omega arith)) c.kind_in.ensures.1 (clear (goal.at.returns-then-is_part c).In-Clear) q.0 q.1 c.if-len-to.false; rests = tt }

pub returns-then-class-ne3 : goal.returns-then-class-ne3
returns-then-class-ne3 c = let w = inside (goal.at.returns-then-class-ne3 c).After-kind_in in record { safe = (omega (arith, w), w.1, known (ranked (goal.at.returns-then-class-ne3 c).After-header_rank-h) (high (goal.at.returns-then-class-ne3 c).After-kind_in), c.if-class-ne3.true, fewer (ranked (goal.at.returns-then-class-ne3 c).After-header_rank-h) (high (goal.at.returns-then-class-ne3 c).After-kind_in)); right = λ b n y. go_pass y (have20 (goal.at.returns-then-class-ne3 c).After-header_rank-h) (ranked (goal.at.returns-then-class-ne3 c).After-header_rank-h) (high (goal.at.returns-then-class-ne3 c).After-kind_in) (few (goal.at.returns-then-class-ne3 c).After-kind_in) (size_is (goal.at.returns-then-class-ne3 c).After-kind_in) (c.kind_in.ensures.0 (omega arith)) c.kind_in.ensures.1 (clear (goal.at.returns-then-class-ne3 c).In-Clear) (ended (goal.at.returns-then-class-ne3 c).Else-is_part) c.if-len-to.false c.if-class-ne3.true; rests = tt }

pub returns-then-not-is_aim : goal.returns-then-not-is_aim
returns-then-not-is_aim c = record { safe = omega arith; right = λ b n y. say_12 y (have20 (goal.at.returns-then-not-is_aim c).After-header_rank-h) (ranked (goal.at.returns-then-not-is_aim c).After-header_rank-h) (high (goal.at.returns-then-not-is_aim c).After-kind_in) (few (goal.at.returns-then-not-is_aim c).After-kind_in) (size_is (goal.at.returns-then-not-is_aim c).After-kind_in) (c.kind_in.ensures.0 (omega arith)) c.kind_in.ensures.1 (clear (goal.at.returns-then-not-is_aim c).In-Clear) (ended (goal.at.returns-then-not-is_aim c).Else-is_part) c.if-len-to.false c.if-class-ne3.false (c.is_aim.ensures.bad (not-true c.is_aim.result c.if-not-is_aim.true-raw)); rests = tt }

pub returns-in-Inside : goal.returns-in-Inside
returns-in-Inside c = record { safe = omega arith; right = λ b n y. say_13 y (have20 (goal.at.returns-in-Inside c).After-header_rank-h) (ranked (goal.at.returns-in-Inside c).After-header_rank-h) (high (goal.at.returns-in-Inside c).After-kind_in) (few (goal.at.returns-in-Inside c).After-kind_in) (size_is (goal.at.returns-in-Inside c).After-kind_in) (c.kind_in.ensures.0 (omega arith)) c.kind_in.ensures.1 (told (goal.at.returns-in-Inside c).After-settle (S.Inside c.in-Inside.q) c.in-Inside.is); rests = tt }

pub returns-in-Other : goal.returns-in-Other
returns-in-Other c = record { safe = omega arith; right = λ b n y. say_14 y (have20 (goal.at.returns-in-Other c).After-header_rank-h) (ranked (goal.at.returns-in-Other c).After-header_rank-h) (high (goal.at.returns-in-Other c).After-kind_in) (few (goal.at.returns-in-Other c).After-kind_in) (size_is (goal.at.returns-in-Other c).After-kind_in) (c.kind_in.ensures.0 (omega arith)) c.kind_in.ensures.1 (told (goal.at.returns-in-Other c).After-settle (S.Other c.in-Other.q) c.in-Other.is); rests = tt }

pub returns-else-not-is_aim : goal.returns-else-not-is_aim
returns-else-not-is_aim c = let w = inside (goal.at.returns-else-not-is_aim c).After-kind_in in let f = fewer (ranked (goal.at.returns-else-not-is_aim c).After-header_rank-h) (high (goal.at.returns-else-not-is_aim c).After-kind_in) in record { safe = (omega (arith, w), w.1, few (goal.at.returns-else-not-is_aim c).After-kind_in c.if-class-ne3.false, rw c.if-class-ne3.false at f, c.word_in-target.ensures.1, c.kind_in-in-Clear.ensures.1); right = λ b n y. go_point y (have20 (goal.at.returns-else-not-is_aim c).After-header_rank-h) (ranked (goal.at.returns-else-not-is_aim c).After-header_rank-h) (high (goal.at.returns-else-not-is_aim c).After-kind_in) (few (goal.at.returns-else-not-is_aim c).After-kind_in) (size_is (goal.at.returns-else-not-is_aim c).After-kind_in) (c.kind_in.ensures.0 (omega arith)) c.kind_in.ensures.1 (clear (goal.at.returns-else-not-is_aim c).In-Clear) (ended (goal.at.returns-else-not-is_aim c).Else-is_part) c.if-len-to.false c.if-class-ne3.false (c.is_aim.ensures.good (not-false c.is_aim.result c.if-not-is_aim.false-raw)) (c.word_in-target.ensures.0 (omega arith)) (c.kind_in-in-Clear.ensures.0 (omega arith)) c.kind_in-in-Clear.ensures.1 (omega arith) (omega arith); rests = tt }
