-- `uth::judge::judge` meets its contract: the length, the sign of M, then its segments. Assumes nothing.
use mathlib.Core.Path.{sym, ap, ◌∙◌}
use Rattle.calendar.specs.Said.{said}
use Prim.Native.Nat.{ℕ, ◌≤◌, ◌<◌}
use native.Mathlib.Omega.{arith}
use lib.IntN.{pos, nat_abs}
use lib.Signed.{lt_z}
use Rattle.meter.specs.Integer.{twos, half_of}
use Rattle.uth.specs.Judge.{judge_from}
use Rattle.uth.proofs.FieldLaws.{below_zero, not_below, number}
use Rattle.uth.proofs.JudgeLaws.{short, negative, walks}
use Rattle.uth.proofs.judge.judge.Goals as goal

pub returns-then-bytes-lt642 : goal.returns-then-bytes-lt642
returns-then-bytes-lt642 c =
    ap said c.refused.ensures ∙ sym (short c.args.bytes.now c.if-bytes-lt642.true)

pub returns-then-m-gt2147483647 : goal.returns-then-m-gt2147483647
returns-then-m-gt2147483647 c =
    let a = c.args.bytes.now in
    let w = c.word-m in
    let h : 2147483648 ≤ w.result = omega (arith, c.if-m-gt2147483647.true) in
    ap said c.refused-then-m-gt2147483647.ensures
    ∙ sym (negative a c.if-bytes-lt642.false (ap (λ (v : ℕ). lt_z (twos (half_of 4) v) (pos 0)) (sym w.ensures.0) ∙ below_zero w.result w.ensures.1 h))

pub returns : goal.returns
returns c =
    let a = c.args.bytes.now in
    let w = c.word-m in
    let h : w.result < 2147483648 = omega (arith, c.if-m-gt2147483647.false) in
    c.judge_segments.ensures
    ∙ ap (λ (m : ℕ). judge_from a m 642 0) (sym (ap (λ (v : ℕ). nat_abs (twos (half_of 4) v)) (sym w.ensures.0) ∙ number w.result h))
    ∙ sym (walks a c.if-bytes-lt642.false (ap (λ (v : ℕ). lt_z (twos (half_of 4) v) (pos 0)) (sym w.ensures.0) ∙ not_below w.result h))
