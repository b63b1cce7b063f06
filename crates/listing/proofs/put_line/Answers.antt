-- `listing::put_line` meets its contract: six columns, one after the other. Assumes nothing.
use Prim.Native.Nat.{ℕ, ◌+◌, ◌≤◌}
use mathlib.Core.Path.{◌≡◌, refl, ◌∙◌}
use mathlib.Core.List.{List}
use lib.ListN.{length, get_or, drop}
use Rattle.record.proofs.HeaderLaws.{size_there_lem}
use Rattle.judge.specs.Table.{size_at}
use Rattle.listing.specs.Decimal.{column, Puts}
use Rattle.listing.specs.Listing.{row, columns, line}
use Rattle.listing.proofs.ColumnLaws.{column_at, fits_column, fits_last, fits_rest}
use Rattle.listing.proofs.StoreLaws.{puts_append}
use Rattle.listing.proofs.put_line.Goals as goal
use Rattle.listing.proofs.put_line.Goals.{Start, After-put_column-group, After-put_column-subclass, After-put_column-version, After-put_column-size, After-put_column-class, After-size_at}

-- the columns, and what is left of them
abbrev K : Start → List ℕ
K s = columns s.args.s.now s.args.at

put2 : (c : After-put_column-group) → Puts c.put_column-class.new.room c.put_column-class.result (column (get_or (K (goal.at.After-put_column-group c).Start) 1 0) 32) c.put_column-group.result c.put_column-group.new.room
put2 c = column_at 32 c.from.ensures c.put_column-group.ensures

put3 : (c : After-put_column-subclass) → Puts c.put_column-group.new.room c.put_column-group.result (column (get_or (K (goal.at.After-put_column-subclass c).Start) 2 0) 32) c.put_column-subclass.result c.put_column-subclass.new.room
put3 c = column_at 32 c.from-2.ensures c.put_column-subclass.ensures

put4 : (c : After-put_column-version) → Puts c.put_column-subclass.new.room c.put_column-subclass.result (column (get_or (K (goal.at.After-put_column-version c).Start) 3 0) 32) c.put_column-version.result c.put_column-version.new.room
put4 c = column_at 32 c.from-3.ensures c.put_column-version.ensures

put5 : (c : After-put_column-size) → Puts c.put_column-version.new.room c.put_column-version.result (column (get_or (K (goal.at.After-put_column-size c).Start) 4 0) 32) c.put_column-size.result c.put_column-size.new.room
put5 c = column_at 32 c.from-4.ensures c.put_column-size.ensures

fit1 : (s : Start) → s.args.p + length (row (K s)) ≤ length s.args.room.now
unfolding line
fit1 s = s.requires.1

fit2 : (c : After-put_column-class) → c.put_column-class.result + length (row (drop 1 (K (goal.at.After-put_column-class c).Start))) ≤ length c.put_column-class.new.room
fit2 c = let k = K (goal.at.After-put_column-class c).Start in fits_rest (get_or k 0 0) (get_or k 1 0) (drop 2 k) c.put_column-class.ensures (fit1 (goal.at.After-put_column-class c).Start)

fit3 : (c : After-put_column-group) → c.put_column-group.result + length (row (drop 2 (K (goal.at.After-put_column-group c).Start))) ≤ length c.put_column-group.new.room
fit3 c = let k = K (goal.at.After-put_column-group c).Start in fits_rest (get_or k 1 0) (get_or k 2 0) (drop 3 k) (put2 c) (fit2 (goal.at.After-put_column-group c).After-put_column-class)

fit4 : (c : After-put_column-subclass) → c.put_column-subclass.result + length (row (drop 3 (K (goal.at.After-put_column-subclass c).Start))) ≤ length c.put_column-subclass.new.room
fit4 c = let k = K (goal.at.After-put_column-subclass c).Start in fits_rest (get_or k 2 0) (get_or k 3 0) (drop 4 k) (put3 c) (fit3 (goal.at.After-put_column-subclass c).After-put_column-group)

fit5 : (c : After-put_column-version) → c.put_column-version.result + length (row (drop 4 (K (goal.at.After-put_column-version c).Start))) ≤ length c.put_column-version.new.room
fit5 c = let k = K (goal.at.After-put_column-version c).Start in fits_rest (get_or k 3 0) (get_or k 4 0) (drop 5 k) (put4 c) (fit4 (goal.at.After-put_column-version c).After-put_column-subclass)

fit6 : (c : After-put_column-size) → c.put_column-size.result + length (row (drop 5 (K (goal.at.After-put_column-size c).Start))) ≤ length c.put_column-size.new.room
fit6 c = let k = K (goal.at.After-put_column-size c).Start in fits_rest (get_or k 4 0) (get_or k 5 0) (drop 6 k) (put5 c) (fit5 (goal.at.After-put_column-size c).After-put_column-version)

pub put_column-class-requires : goal.put_column-class-requires
put_column-class-requires c = fits_column (get_or (K (goal.at.put_column-class-requires c).Start) 1 0) (drop 2 (K (goal.at.put_column-class-requires c).Start)) _ refl (fit1 (goal.at.put_column-class-requires c).Start)

pub put_column-group-requires : goal.put_column-group-requires
put_column-group-requires c = let k = K (goal.at.put_column-group-requires c).Start in fits_column (get_or k 2 0) (drop 3 k) _ c.from.ensures (fit2 (goal.at.put_column-group-requires c).After-put_column-class)

pub put_column-subclass-requires : goal.put_column-subclass-requires
put_column-subclass-requires c = let k = K (goal.at.put_column-subclass-requires c).Start in fits_column (get_or k 3 0) (drop 4 k) _ c.from-2.ensures (fit3 (goal.at.put_column-subclass-requires c).After-put_column-group)

pub put_column-version-requires : goal.put_column-version-requires
put_column-version-requires c = let k = K (goal.at.put_column-version-requires c).Start in fits_column (get_or k 4 0) (drop 5 k) _ c.from-3.ensures (fit4 (goal.at.put_column-version-requires c).After-put_column-subclass)

pub put_column-size-requires : goal.put_column-size-requires
put_column-size-requires c = let k = K (goal.at.put_column-size-requires c).Start in fits_column (get_or k 5 0) (drop 6 k) _ c.from-4.ensures (fit5 (goal.at.put_column-size-requires c).After-put_column-version)

size : (c : After-size_at) → c.size_at.result ≡ size_at c.args.s.now c.args.at
size c = c.size_at.ensures ∙ size_there_lem c.args.s.now c.args.at c.requires.0

pub put_column-requires : goal.put_column-requires
put_column-requires c = fits_last _ (size c) (fit6 (goal.at.put_column-requires c).After-put_column-size)

pub returns : goal.returns
unfolding line
returns c =
    puts_append c.put_column-class.ensures
    (puts_append (put2 (goal.at.returns c).After-put_column-group)
    (puts_append (put3 (goal.at.returns c).After-put_column-subclass)
    (puts_append (put4 (goal.at.returns c).After-put_column-version)
    (puts_append (put5 (goal.at.returns c).After-put_column-size) (column_at 10 (size (goal.at.returns c).After-size_at) c.put_column.ensures)))))
