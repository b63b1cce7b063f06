-- `record::follow::may_follow` meets its contract: what is no class, then the table, which antt compares with the rule. Assumes nothing.
use Rattle.record.proofs.FollowLaws.{after_zero, after_none, zero_after, none_after, in_table}
use Rattle.record.specs.Follow.{first_after, may_follow}
use mathlib.Core.Path.{sym}
use mathlib.Core.Bool.{Bool}
use mathlib.Core.List.{List, [], ◌∷◌, map}
use Prim.Native.Nat.{ℕ}
use lib.Dec.{leb}
use Rattle.record.proofs.follow.may_follow.Goals as goal

-- the table of the code: a row is no up to a class, and yes from it on
table : List (List Bool)
table = map (λ (first : ℕ). map (leb first) (1 ∷ 2 ∷ 3 ∷ 4 ∷ 5 ∷ 6 ∷ 7 ∷ 8 ∷ [])) (2 ∷ 3 ∷ 3 ∷ 4 ∷ 4 ∷ 6 ∷ 6 ∷ 8 ∷ [])

pub returns-then-last-lt1 : goal.returns-then-last-lt1
returns-then-last-lt1 c = sym (after_zero c.args.last c.args.next c.if-last-lt1.true)

pub returns-then-last-gt8 : goal.returns-then-last-gt8
returns-then-last-gt8 c = sym (after_none c.args.last c.args.next c.if-last-gt8.true)

pub returns-then-next-lt1 : goal.returns-then-next-lt1
returns-then-next-lt1 c = sym (zero_after c.args.last c.args.next c.if-next-lt1.true)

pub returns-then-next-gt8 : goal.returns-then-next-gt8
returns-then-next-gt8 c = sym (none_after c.args.last c.args.next c.if-next-gt8.true)

pub returns : goal.returns
unfolding first_after may_follow table
returns c =
    in_table table tt c.args.last c.args.next c.if-last-lt1.false c.if-last-gt8.false c.if-next-lt1.false c.if-next-gt8.false
