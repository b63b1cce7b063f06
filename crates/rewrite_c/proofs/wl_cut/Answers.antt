-- `rewrite_c::wl_cut` meets its contract: what was handed in is cut, and what is answered is told. Assumes nothing.
use mathlib.Core.Path.{◌≡◌}
use mathlib.Core.List.{List}
use Prim.Native.Nat.{ℕ}
use Rattle.std.specs.declared.option.Option.{Option}
use Rattle.meter.specs.declared.time.Time.{Time}
use Rattle.parts.specs.Cut.{Window, window}
use Rattle.rewrite.specs.Cut.{CutIs}
use Rattle.told.proofs.Laws.{moved}
use Rattle.rewrite_c.proofs.wl_cut.Goals as goal

-- the window by the times that were made
same-window : {t t' u u' : Option Time} → t ≡ t' → u ≡ u' → window t u ≡ window t' u'
same-window e f = cc

pub returns : goal.returns
returns c =
    record { lower = c.cut.result; right = moved (λ (x : Window) (e : List ℕ). CutIs c.args.bytes.now x c.args.room.now c.cut.result e) _ (same-window c.time-first.ensures c.time-last.ensures) c.cut.ensures; says = c.put_written.ensures }
