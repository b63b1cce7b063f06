-- `finish::fill::fill_some` meets its contract: the known stretch where it begins here, or what is read before it. Assumes nothing.
use Rattle.std.proofs.Common.{arith}
use Prim.Native.Nat.{ℕ}
use mathlib.Core.Path.{sym, subst}
use Rattle.judge.specs.Stretch.{Even}
use Rattle.finish.proofs.fill.fill_some.Goals as goal

pub fill_even-requires : goal.fill_even-requires
fill_even-requires c =
    let v = c.args.even in
    record {
      onward = c.requires.0;
      some = c.if-at-end.true;
      most = omega arith;
      stop = v.end;
      even = subst (λ (i : ℕ). Even c.args.s.now v.size i v.end) (sym c.if-at-even.true) c.requires.1;
      within = omega arith;
    }
