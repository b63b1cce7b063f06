-- `judge::pointers::next_after` meets its contract: its tests are the parts of `NextIs`; the second look is one, since the first is passed.
-- Assumes nothing.
use Rattle.std.proofs.Common.{◌≡◌, ℕ, sym, refl, ◌∙◌, arith}
use borrow.Author.Tests.{not-false}
use Rattle.judge.proofs.WayLaws.{leads_le}
use Rattle.judge.proofs.ScanLaws.{looking_next}
use Rattle.judge.proofs.pointers.next_after.Goals as goal
use Rattle.judge.proofs.pointers.next_after.Goals.{Else-word-at}

pub overflow_add-next : goal.overflow_add-next
overflow_add-next c = let k = c.requires.0 in record { fits = omega (arith, leads_le k.cursor.ahead, k.cursor.goal.come) }

target : (c : Else-word-at) → ◌≡◌ {A = ℕ} c.word.result c.args.at
target c = c.if-word-at.false

pub word-requires-2 : goal.word-requires-2
word-requires-2 c =
    omega (arith, (looking_next c.requires.0.cursor c.if-s-q-ne3.false (sym c.word.ensures.0 ∙ target (goal.at.word-requires-2 c).Else-word-at) c.if-w-next.false).ipr c.if-s-next-ne3.false)

pub returns : goal.returns
returns c _ =
    record {
      rises = not-false c.args.w.rising c.if-not-w.false;
      names = record { ipr = c.if-s-q-ne3.false; target = sym c.word.ensures.0 ∙ target (goal.at.returns c).Else-word-at; kind = omega (arith, c.if-triple.false, c.triple.ensures, c.triple-2.ensures) };
      small = omega (arith, c.triple-2.ensures);
      place = refl;
      before = c.if-w-next.false;
      ipr = c.if-s-next-ne3.false;
      over = omega (arith, c.if-word-to.false, c.word-2.ensures);
    }

pub returns-then-not-w : goal.returns-then-not-w
returns-then-not-w c n = absurd (n refl)

pub returns-then-w-next : goal.returns-then-w-next
returns-then-w-next c n = absurd (n refl)

pub returns-then-s-q-ne3 : goal.returns-then-s-q-ne3
returns-then-s-q-ne3 c n = absurd (n refl)

pub returns-then-word-at : goal.returns-then-word-at
returns-then-word-at c n = absurd (n refl)

pub returns-then-triple : goal.returns-then-triple
returns-then-triple c n = absurd (n refl)

pub returns-then-s-next-ne3 : goal.returns-then-s-next-ne3
returns-then-s-next-ne3 c n = absurd (n refl)

pub returns-then-word-to : goal.returns-then-word-to
returns-then-word-to c n = absurd (n refl)
