-- `judge::pointers::follow` meets its contract: the first pointer that points further on; where the targets are in no order, no bound. Assumes nothing.
use borrow.Author.Tests.{not-false}
use Rattle.std.proofs.Common.{refl, le_refl, arith}
use Rattle.judge.proofs.ScanLaws.{scan_narrow, follow_none, follow_room, follow_cursor, follow_quiet}
use Rattle.judge.proofs.pointers.follow.Goals as goal

pub returns-then-not-w : goal.returns-then-not-w
returns-then-not-w c = let k = c.requires in record { quiet = λ q b. omega (arith, b.above, b.below); cursor = scan_narrow (le_refl _) (omega (arith, k.1)) k.0.cursor; end_is = refl; last_is = refl; rising_is = refl }

pub returns-then-q-eq0 : goal.returns-then-q-eq0
returns-then-q-eq0 c =
    let k = c.requires in
    record { quiet = c.pointer-q.ensures.none c.if-q-eq0.true; cursor = follow_none k.0 k.1 c.pointer-q.ensures c.if-q-eq0.true; end_is = refl; last_is = refl; rising_is = refl }

pub overflow_add-q : goal.overflow_add-q
overflow_add-q c = let k = c.requires in record { fits = omega (arith, follow_room k.0 k.1 c.pointer-q.ensures c.if-q-eq0.false) }

pub word-requires : goal.word-requires
word-requires c = let k = c.requires in omega (arith, follow_room k.0 k.1 c.pointer-q.ensures c.if-q-eq0.false)

pub returns : goal.returns
returns c =
    let k = c.requires in
    record {
      quiet = follow_quiet k.0 k.1 c.pointer-q.ensures (not-false c.args.w.rising c.if-not-w.false) c.if-q-eq0.false c.word.ensures.0;
      cursor = follow_cursor k.0 k.1 c.pointer-q.ensures c.if-q-eq0.false;
      end_is = refl;
      last_is = refl;
      rising_is = refl;
    }
