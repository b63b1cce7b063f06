-- `judge::pending::ease` meets its contract: nothing is asked, or what the buffer says. Assumes nothing.
use Rattle.std.proofs.Common.{refl, arith}
use Rattle.judge.proofs.EaseLaws.{eased_same, eased_ready}
use Rattle.judge.proofs.pending.ease.Goals as goal

pub returns-then-w : goal.returns-then-w
returns-then-w c = eased_same refl c.requires.1 c.requires.0.calm

pub returns-then-s-at : goal.returns-then-s-at
returns-then-s-at c = eased_same refl c.requires.1 c.requires.0.calm

pub returns-then-to-w : goal.returns-then-to-w
returns-then-to-w c = eased_same refl c.requires.1 c.requires.0.calm

pub returns-then-to-at : goal.returns-then-to-at
returns-then-to-at c = eased_same refl c.requires.1 c.requires.0.calm

pub returns : goal.returns
returns c =
    let t = c.triple.ensures in
    let w = c.word.ensures in
    eased_ready c.ready-v.ensures c.skip-next.ensures c.key-named.ensures t.0 (omega (arith, t)) c.due_of.ensures.0 c.due_of.ensures.1 (omega (arith, c.if-to-at.false, w))
