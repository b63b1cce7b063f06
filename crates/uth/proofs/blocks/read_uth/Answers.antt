-- `uth::blocks::read_uth` meets its contract: the file, the rooms, then its blocks in them. Assumes nothing.
use mathlib.Core.Path.{◌≡◌, sym, ap, ◌∙◌}
use Prim.Native.Nat.{ℕ}
use native.Mathlib.Omega.{arith}
use lib.IntN.{pos, nat_abs}
use lib.Signed.{lt_z}
use lib.ListN.{length}
use Rattle.calendar.specs.Said.{answer}
use Rattle.meter.specs.Integer.{twos, half_of}
use Rattle.uth.specs.Layout.{segments}
use Rattle.uth.specs.Judge.{judge_from, judge_of}
use Rattle.calendar.specs.Said.{said}
use Rattle.uth.proofs.FieldLaws.{natural_number}
use Rattle.uth.proofs.JudgeLaws.{opened}
use Rattle.uth.proofs.ReadLaws.{own_refusal, few_rows, few_pairs, refuses, reads}
use Rattle.std.proofs.lemmas.Result.{err_from_is_err_and}
use Rattle.std.proofs.Common.{rules}
use Rattle.uth.proofs.blocks.read_uth.Goals as goal
use Rattle.uth.proofs.blocks.read_uth.Goals.{In_ok-n}

-- the file is read, with n blocks
read : (c : In_ok-n) → judge_of c.args.bytes.now ≡ answer c.in_ok-n.n
read c = sym c.judge.ensures ∙ ap said c.in_ok-n.was

pub returns-then-blocks-n : goal.returns-then-blocks-n
returns-then-blocks-n c =
    let s = c.args in
    refuses s.bytes.now s.blocks.now s.values.now c.refused.result 18 c.in_ok-n.n (ap said c.refused.ensures) (few_rows s.bytes.now (length s.blocks.now) (length s.values.now) c.in_ok-n.n (read (goal.at.returns-then-blocks-n c).In_ok-n) c.if-blocks-n.true)

pub returns-then-values-n : goal.returns-then-values-n
returns-then-values-n c =
    let s = c.args in
    refuses s.bytes.now s.blocks.now s.values.now c.refused-then-values-n.result 18 c.in_ok-n.n (ap said c.refused-then-values-n.ensures) (few_pairs s.bytes.now (length s.blocks.now) (length s.values.now) c.in_ok-n.n (read (goal.at.returns-then-values-n c).In_ok-n) c.if-blocks-n.false c.if-values-n.true)

pub word-requires : goal.word-requires
word-requires c =
    omega (arith, (opened c.args.bytes.now c.in_ok-n.n (read (goal.at.word-requires c).In_ok-n)).headed)

pub fill-requires : goal.fill-requires
fill-requires c =
    let o = opened c.args.bytes.now c.in_ok-n.n (read (goal.at.fill-requires c).In_ok-n) in
    let w = c.word in
    let k : nat_abs (segments c.args.bytes.now) ≡ w.result = ap (λ (v : ℕ). nat_abs (twos (half_of 4) v)) (sym w.ensures.0) ∙ natural_number w.result w.ensures.1 (ap (λ (v : ℕ). lt_z (twos (half_of 4) v) (pos 0)) w.ensures.0 ∙ o.natural) in
    record {
      n = c.in_ok-n.n;
      counted = k;
      read = ap (λ (m : ℕ). judge_from c.args.bytes.now m 642 0) (sym k) ∙ o.walked;
      rowed = c.if-blocks-n.false;
      paired = c.if-values-n.false;
    }

pub returns-in_err-n : goal.returns-in_err-n
returns-in_err-n c =
    let s = c.args in
    let q = err_from_is_err_and c.from_residual.result c.from_residual.ensures.1 in
    let e : c.judge.result ≡ c.from_residual.result = search rules in
    refuses s.bytes.now s.blocks.now s.values.now c.from_residual.result q.0.number q.0.place (ap said q.1) (own_refusal s.bytes.now (length s.blocks.now) (length s.values.now) q.0.number q.0.place (sym c.judge.ensures ∙ ap said (e ∙ q.1)))

pub returns : goal.returns
returns c =
    let s = c.args in
    let q = c.fill.ensures in
    reads s.bytes.now s.blocks.now s.values.now c.in_ok-n.n _ _ (read (goal.at.returns c).In_ok-n) c.if-blocks-n.false c.if-values-n.false q.0 q.1
