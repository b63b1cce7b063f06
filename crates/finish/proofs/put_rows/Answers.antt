-- `finish::put_rows` meets its contract: a product that is covered by its records has room in the list of rows or has not. Assumes nothing.
use Prim.Native.Nat.{ℕ}
use mathlib.Core.List.{◌∷◌}
use mathlib.Core.Path.{refl}
use lib.ListN.{length-replicate, get_or-replicate}
use Rattle.finish.specs.Finish.{starts, no_room}
use Rattle.finish.proofs.Filling.{fillable, filled, refused_with_lem}
use Rattle.finish.proofs.put_rows.Goals as goal

pub returns-then-rows-count : goal.returns-then-rows-count
returns-then-rows-count c =
    refused_with_lem c.args.s.now _ refl (no_room c.requires.0 c.requires.1 c.if-rows-count.true)

pub fill-requires : goal.fill-requires
fill-requires c =
    let p = c.requires in (
      record {
        list = 0 ∷ starts p.1.way;
        asked = fillable p.0 p.1 c.if-rows-count.false;
        long = length-replicate {A = ℕ} 32768 0;
        zero = λ j h. get_or-replicate {A = ℕ} 32768 j 0 0 h;
      },
      p.2,
    )

pub returns : goal.returns
returns c =
    let p = c.requires in
    filled p.0 p.1 c.if-rows-count.false c.fill.ensures
