-- `judge::pointers::settle` meets its contract: the plain case by its two looks; else the two searches, then the pointers that are left. Assumes
-- nothing.
use Rattle.std.proofs.Common.{◌+◌, ◌≤◌, length, le_refl, arith}
use Rattle.judge.proofs.ScanLaws.{searching, clear_still, clear_next, next_room, of_kind}
use Rattle.judge.proofs.pointers.settle.Goals as goal
use Rattle.judge.proofs.pointers.settle.Goals.{Then-next-ne0}

pub returns-then-to-w : goal.returns-then-to-w
returns-then-to-w c = clear_still c.requires c.if-to-w.true

pub next_after-next-requires : goal.next_after-next-requires
next_after-next-requires c = let k = c.requires in (k.kept, k.come)

room : (c : Then-next-ne0) → c.next_after-next.result + 27 ≤ length c.args.s.now
room c = next_room c.requires (c.next_after-next.ensures c.if-next-ne0.true)

pub overflow_add-next : goal.overflow_add-next
overflow_add-next c = record { fits = omega (arith, room c) }

pub word-requires : goal.word-requires
word-requires c = omega (arith, room c)

pub returns-then-next-ne0 : goal.returns-then-next-ne0
returns-then-next-ne0 c = clear_next c.requires (c.next_after-next.ensures c.if-next-ne0.true) c.word.ensures.0

pub pointer-inside-requires : goal.pointer-inside-requires
pointer-inside-requires c = let k = c.requires in searching k (omega arith) k.most

pub pointer-other-requires : goal.pointer-other-requires
pointer-other-requires c = let k = c.requires in searching k (le_refl _) (omega (arith, k.least, k.most))

pub returns-then-other-ne0 : goal.returns-then-other-ne0
returns-then-other-ne0 c =
    record { some = c.if-other-ne0.true; small = omega (arith, c.triple.ensures); none = c.pointer-inside.ensures.none c.if-inside-ne0.false; found = of_kind c.triple.ensures.0 c.pointer-other.ensures }

pub follow-requires : goal.follow-requires
follow-requires c = let k = c.requires in (searching k (omega (arith, k.least)) (le_refl _), k.d_is)

pub returns : goal.returns
returns c =
    record {
      inside = c.pointer-inside.ensures.none c.if-inside-ne0.false;
      other = (of_kind c.triple.ensures.0 c.pointer-other.ensures).none c.if-other-ne0.false;
      follows = c.follow.ensures;
    }
