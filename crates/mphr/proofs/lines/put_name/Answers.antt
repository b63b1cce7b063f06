-- `mphr::lines::put_name` meets its contract. The invariant: to put what is left of the name into what stands there gives the whole name. Assumes nothing.
use Rattle.mphr.proofs.QuickLaws.{byte_at}
use Rattle.mphr.proofs.WritingLaws.{name_step, name_none}
use Rattle.mphr.specs.Lines.{put_name}
use Rattle.mphr.specs.Quick.{byte_of}
use lib.ListN.{length-set, get_or, set}
use mathlib.Core.List.{List}
use Prim.Native.Nat.{ℕ, ◌-◌, ◌/◌, ◌%◌}
use native.Mathlib.Omega.{arith}
use mathlib.Core.Path.{refl, sym, ap, ◌∙◌}
use Rattle.mphr.proofs.lines.put_name.Goals as goal

pub loop-i-preserved : goal.loop-i-preserved
loop-i-preserved c =
    let l = c.loop-i in
    let i = l.i - 1 in
    let b = c.byte_of.ensures ∙ ap (λ (r : List ℕ). byte_of (get_or r (i / 8) 0) (i % 8)) c.words-row.ensures ∙ byte_at c.args.k (omega arith) i (omega arith) in (
      simp length-set l.invariant.0,
      ap (λ (x : ℕ). put_name (set l.room i x) c.args.k i) b ∙ sym (name_step l.room c.args.k l.i (omega arith)) ∙ l.invariant.1,
    )

pub returns : goal.returns
returns c =
    let l = c.loop-i in
    sym (name_none l.room c.args.k l.i (omega arith)) ∙ l.invariant.1
