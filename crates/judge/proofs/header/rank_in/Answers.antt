-- `judge::header::rank_in` meets its contract: the tests in the order of the numbers. Assumes nothing.
use borrow.Author.Tests.{not-true, not-false}
use Rattle.std.proofs.Common.{◌≡◌, ℕ, ◌≤◌, true, false, ◌&&◌, List, get_or, sym, ◌∙◌, arith}
use Rattle.record.specs.Header.{is_class}
use Rattle.record.specs.Follow.{Ruled}
use Rattle.record.specs.Times.{timed_at}
use Rattle.judge.specs.Table.{class_at, size_at, Unknown, Misplaced}
use Rattle.judge.specs.Step.{SixLeft, Sized}
use Rattle.judge.proofs.RankLaws.{clash, class_most, rank_6, rank_7, rank_8, rank_9, rank_10, rank_11, rank_12, six_in, not_six_in, sized_in, not_sized_in, known, not_known, and_true}
use Rattle.judge.proofs.header.rank_in.Goals as goal
use Rattle.judge.proofs.header.rank_in.Goals.{After-word-size, Else-is_six, Else-not-known, Else-not-may_follow, Else-not-is_sized, Else-not-stand}

abbrev a : (c : After-word-size) → List ℕ
a c = c.args.s.now

abbrev i : (c : After-word-size) → ℕ
i c = c.args.at

-- what was found on the way
no_six : (c : Else-is_six) → SixLeft (class_at (a (goal.at.Else-is_six c).After-word-size) (i (goal.at.Else-is_six c).After-word-size)) (size_at (a (goal.at.Else-is_six c).After-word-size) (i (goal.at.Else-is_six c).After-word-size)) c.args.left → ⊥
no_six c = not_six_in c.word-size.ensures.0 c.is_six.ensures c.if-is_six.false

class-and-group : (c : Else-not-known) → (c.is_class.result ≡ true) × (c.is_group.result ≡ true)
class-and-group c =
    let k = c.is_class.result in
    let g = c.is_group.result in
    and_true k g (not-false (k && g) c.if-not-known.false-raw)

a-class : (c : Else-not-known) → is_class (get_or (a (goal.at.Else-not-known c).After-word-size) (i (goal.at.Else-not-known c).After-word-size) 0) ≡ true
a-class c = sym c.is_class.ensures ∙ (class-and-group c).0

not-unknown : (c : Else-not-known) → Unknown (a (goal.at.Else-not-known c).After-word-size) (i (goal.at.Else-not-known c).After-word-size) → ⊥
not-unknown c = known (a (goal.at.Else-not-known c).After-word-size) (i (goal.at.Else-not-known c).After-word-size) (a-class c) (sym c.is_group.ensures ∙ (class-and-group c).1)

not-misplaced : (c : Else-not-may_follow) → Ruled c.args.follow.now → Misplaced (a (goal.at.Else-not-may_follow c).After-word-size) c.args.prev (i (goal.at.Else-not-may_follow c).After-word-size) → ⊥
not-misplaced c ruled m = clash (sym m.against ∙ sym (c.may_follow.ensures ruled) ∙ not-false c.may_follow.result c.if-not-may_follow.false-raw)

pub returns-then-is_six : goal.returns-then-is_six
returns-then-is_six c ruled = rank_6 (six_in c.word-size.ensures.0 c.is_six.ensures c.if-is_six.true)

pub returns-then-not-known : goal.returns-then-not-known
returns-then-not-known c ruled =
    rank_7 (no_six (goal.at.returns-then-not-known c).Else-is_six) (not_known (a (goal.at.returns-then-not-known c).After-word-size) (i (goal.at.returns-then-not-known c).After-word-size) c.is_class.ensures c.is_group.ensures (not-true (c.is_class.result && c.is_group.result) c.if-not-known.true-raw))

pub may_follow-requires : goal.may_follow-requires
may_follow-requires c = (c.requires.known, a-class c)

pub returns-then-not-may_follow : goal.returns-then-not-may_follow
returns-then-not-may_follow c ruled =
    rank_8 (no_six (goal.at.returns-then-not-may_follow c).Else-is_six) (not-unknown (goal.at.returns-then-not-may_follow c).Else-not-known) (record { before = c.requires.known; known = a-class (goal.at.returns-then-not-may_follow c).Else-not-known; against = sym (c.may_follow.ensures ruled) ∙ not-true c.may_follow.result c.if-not-may_follow.true-raw })

pub returns-then-not-is_sized : goal.returns-then-not-is_sized
returns-then-not-is_sized c ruled =
    rank_9 (no_six (goal.at.returns-then-not-is_sized c).Else-is_six) (not-unknown (goal.at.returns-then-not-is_sized c).Else-not-known) (not-misplaced (goal.at.returns-then-not-is_sized c).Else-not-may_follow ruled) (not_sized_in c.word-size.ensures.0 c.is_sized.ensures (not-true c.is_sized.result c.if-not-is_sized.true-raw))

pub stand-requires : goal.stand-requires
stand-requires c = c.requires.come

is-sound : (c : Else-not-is_sized) → Sized (class_at (a (goal.at.Else-not-is_sized c).After-word-size) (i (goal.at.Else-not-is_sized c).After-word-size)) (size_at (a (goal.at.Else-not-is_sized c).After-word-size) (i (goal.at.Else-not-is_sized c).After-word-size)) c.args.left
is-sound c =
    sized_in c.word-size.ensures.0 c.is_sized.ensures (not-false c.is_sized.result c.if-not-is_sized.false-raw)

is-timed : (c : Else-not-stand) → timed_at (a (goal.at.Else-not-stand c).After-word-size) (i (goal.at.Else-not-stand c).After-word-size) ≡ false → ⊥
is-timed c n =
    clash (sym n ∙ sym c.stand.ensures ∙ not-false c.stand.result c.if-not-stand.false-raw)

eight : (c : Else-not-stand) → get_or (a (goal.at.Else-not-stand c).After-word-size) (i (goal.at.Else-not-stand c).After-word-size) 0 ≤ 8
eight c = (class_most (get_or (a (goal.at.Else-not-stand c).After-word-size) (i (goal.at.Else-not-stand c).After-word-size) 0) (a-class (goal.at.Else-not-stand c).Else-not-known)).1

pub returns-then-not-stand : goal.returns-then-not-stand
returns-then-not-stand c ruled =
    rank_10 (no_six (goal.at.returns-then-not-stand c).Else-is_six) (not-unknown (goal.at.returns-then-not-stand c).Else-not-known) (not-misplaced (goal.at.returns-then-not-stand c).Else-not-may_follow ruled) (λ n. n (is-sound (goal.at.returns-then-not-stand c).Else-not-is_sized)) (sym c.stand.ensures ∙ not-true c.stand.result c.if-not-stand.true-raw)

pub overflow_cast-class : goal.overflow_cast-class
overflow_cast-class c = record { fits = omega (arith, eight c) }

pub offset_bounds-totals-class : goal.offset_bounds-totals-class
offset_bounds-totals-class c = omega (arith, eight c)

pub bounds-totals-class : goal.bounds-totals-class
bounds-totals-class c = omega (arith, eight (goal.at.bounds-totals-class c).Else-not-stand, c.requires.nine)

pub overflow_cast-class-2 : goal.overflow_cast-class-2
overflow_cast-class-2 c = record { fits = omega (arith, eight (goal.at.overflow_cast-class-2 c).Else-not-stand) }

pub offset_bounds-tally-class : goal.offset_bounds-tally-class
offset_bounds-tally-class c = omega (arith, eight (goal.at.offset_bounds-tally-class c).Else-not-stand)

pub bounds-tally-class : goal.bounds-tally-class
bounds-tally-class c = omega (arith, eight (goal.at.bounds-tally-class c).Else-not-stand, c.requires.nine')

pub returns-then-totals-class : goal.returns-then-totals-class
returns-then-totals-class c ruled =
    rank_11 (no_six (goal.at.returns-then-totals-class c).Else-is_six) (not-unknown (goal.at.returns-then-totals-class c).Else-not-known) (not-misplaced (goal.at.returns-then-totals-class c).Else-not-may_follow ruled) (λ n. n (is-sound (goal.at.returns-then-totals-class c).Else-not-is_sized)) (is-timed (goal.at.returns-then-totals-class c).Else-not-stand) (record { known = a-class (goal.at.returns-then-totals-class c).Else-not-known; over = c.if-totals-class.true })

pub returns : goal.returns
returns c ruled =
    rank_12 (no_six (goal.at.returns c).Else-is_six) (not-unknown (goal.at.returns c).Else-not-known) (not-misplaced (goal.at.returns c).Else-not-may_follow ruled) (λ n. n (is-sound (goal.at.returns c).Else-not-is_sized)) (is-timed (goal.at.returns c).Else-not-stand) (λ x. omega (arith, x.over, c.if-totals-class.false))
