-- `judge::pointers::close_record` meets its contract: the tests in turn. Assumes nothing.
use borrow.Author.Tests.{not-true, not-false}
use Rattle.std.proofs.Common.{◌≡◌, ℕ, sym, refl, ◌∙◌, arith}
use Rattle.judge.specs.declared.pointers.Pointers.{Pointers}
use Rattle.judge.specs.Step.{Ended, JoinedIs}
use Rattle.judge.proofs.RankLaws.{part_is, not_part}
use Rattle.judge.proofs.pointers.close_record.Goals as goal
use Rattle.judge.proofs.pointers.close_record.Goals.{Else-is_part}

ended : (c : Else-is_part) → Ended c.args.s.now c.args.to
ended c =
    record { come = omega arith; not_part = λ h. omega (arith, c.requires.d_is, not_part c.args.to c.args.d (sym c.is_part.ensures ∙ c.if-is_part.false) (omega (arith, c.requires.d_is))) }

joined_at : {v u : Pointers} {to x y : ℕ} → x ≡ y → JoinedIs v to x u → JoinedIs v to y u
joined_at e j = rw e at j

pub returns-then-is_part : goal.returns-then-is_part
returns-then-is_part c =
    let p = part_is c.args.to c.args.d (sym c.is_part.ensures ∙ c.if-is_part.true) in
    let b = c.requires in
    record { come = omega arith; more = omega (arith, p, b.d_is); part = omega (arith, p, b.d_is) }

pub returns-then-s-at-ne3 : goal.returns-then-s-at-ne3
returns-then-s-at-ne3 c = record { ended = ended (goal.at.returns-then-s-at-ne3 c).Else-is_part; target = λ o. absurd (c.if-s-at-ne3.true o); pointer = λ o. absurd (c.if-s-at-ne3.true o); other = λ _. refl }

pub is_target-requires : goal.is_target-requires
is_target-requires c = let b = c.requires in (b, b.ipr c.if-s-at-ne3.false, (ended (goal.at.is_target-requires c).Else-is_part).come)

pub returns-then-not-is_target : goal.returns-then-not-is_target
returns-then-not-is_target c =
    record { ended = ended (goal.at.returns-then-not-is_target c).Else-is_part; ipr = c.if-s-at-ne3.false; bad = c.is_target.ensures.bad (not-true c.is_target.result c.if-not-is_target.true-raw) }

pub word-requires : goal.word-requires
word-requires c =
    omega (arith, (ended (goal.at.word-requires c).Else-is_part).come, c.requires.ipr c.if-s-at-ne3.false)

pub returns : goal.returns
returns c =
    record {
      ended = ended (goal.at.returns c).Else-is_part;
      target = λ _. c.is_target.ensures.good (not-false c.is_target.result c.if-not-is_target.false-raw);
      pointer = λ _. joined_at c.word.ensures.0 c.joined.ensures;
      other = λ n. absurd (n c.if-s-at-ne3.false);
    }
