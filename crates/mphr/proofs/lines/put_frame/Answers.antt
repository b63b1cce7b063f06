-- `mphr::lines::put_frame` meets its contract: the name, and three bytes stored one after the other. Assumes nothing.
use Rattle.mphr.specs.Lines.{put_frame}
use mathlib.Core.List.{List}
use mathlib.Core.Path.{ap}
use Prim.Native.Nat.{ℕ, ◌+◌}
use lib.ListN.{length-set, set}
use native.Mathlib.Omega.{arith}
use Rattle.mphr.proofs.lines.put_frame.Goals as goal

pub bounds-room-31 : goal.bounds-room-31
bounds-room-31 c = simp length-set (omega arith)

pub bounds-room-w : goal.bounds-room-w
bounds-room-w c = simp length-set (omega arith)

pub returns : goal.returns
unfolding put_frame
returns c =
    ap (λ (b : List ℕ). set (set (set b 30 61) 31 32) (32 + c.args.w) 10) c.put_name.ensures
