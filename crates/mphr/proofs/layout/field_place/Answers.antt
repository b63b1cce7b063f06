-- `mphr::layout::field_place` meets its contract: 22, or the three tables at k. Assumes nothing.
use Rattle.mphr.specs.declared.layout.Place.{Place}
use Rattle.text.specs.declared.Kind.{Kind}
use Rattle.calendar.specs.Said.{answer}
use borrow.Author.Tests.{le-leb, lt-leb}
use Prim.Native.Nat.{ℕ, ◌≤◌, ◌<◌}
use native.Mathlib.Omega.{arith}
use mathlib.Core.Path.{◌≡◌, ap}
use Rattle.mphr.proofs.layout.field_place.Goals as goal

placed : (s t w v : ℕ) (d e : Kind) → s ≡ t → w ≡ v → d ≡ e → ◌≡◌ {A = Place} (record { start = s; width = w; kind = d }) (record { start = t; width = v; kind = e })
placed s t w v d e p q r = rw (p, q, r)

pub returns-then-k-gt71 : goal.returns-then-k-gt71
returns-then-k-gt71 c = let h : 71 < c.args.k = omega arith in simp (lt-leb c.args.k 71 h)

pub returns : goal.returns
returns c =
    let k = c.args.k in
    let h : k ≤ 71 = omega arith in
    simp (le-leb k 71 h) (ap answer (placed _ _ _ _ _ _ c.start.ensures c.width.ensures.0 c.kind.ensures))
