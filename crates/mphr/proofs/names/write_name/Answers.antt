-- `mphr::names::write_name` meets its contract: 22, then 18, then the bytes of the name and what lay beyond them (WritingLaws). Assumes nothing.
use Prim.Native.Nat.{◌<◌}
use native.Mathlib.Omega.{arith}
use Rattle.mphr.proofs.NameLaws.{most}
use Rattle.mphr.proofs.WritingLaws.{name_laid, write_unfit, write_small, write_done}
use Rattle.mphr.specs.Layout.{name_of}
use Rattle.mphr.specs.Lines.{put_name}
use Rattle.text.specs.Writing.{put_text}
use borrow.Author.Tests.{le-leb, lt-leb}
use lib.Dec.{leb}
use lib.ListN.{length}
use mathlib.Core.Path.{refl, ap, ◌∙◌}
use Rattle.mphr.proofs.names.write_name.Goals as goal

pub returns-then-k-gt71 : goal.returns-then-k-gt71
returns-then-k-gt71 c = write_unfit c.args.room.now (length (name_of c.args.k)) (length (name_of c.args.k)) refl (leb c.args.k 71) (put_text c.args.room.now (name_of c.args.k)) (lt-leb c.args.k 71 c.if-k-gt71.true)

pub returns-then-room-n : goal.returns-then-room-n
returns-then-room-n c =
    write_small c.args.room.now c.name_width-n.result (length (name_of c.args.k)) c.name_width-n.ensures (leb c.args.k 71) (put_text c.args.room.now (name_of c.args.k)) (le-leb c.args.k 71 c.if-k-gt71.false) c.if-room-n.true

pub put_name-requires : goal.put_name-requires
put_name-requires c =
    let k : c.args.k < 72 = omega arith in
    (k, omega (arith, c.name_width-n.ensures, most c.args.k k), c.if-room-n.false)

pub returns : goal.returns
returns c =
    let k : c.args.k < 72 = omega arith in
    let n = c.name_width-n.ensures in
    write_done c.args.room.now c.name_width-n.result (length (name_of c.args.k)) n (leb c.args.k 71) (put_text c.args.room.now (name_of c.args.k)) (le-leb c.args.k 71 c.if-k-gt71.false) c.if-room-n.false c.put_name.new.room (c.put_name.ensures ∙ ap (put_name c.args.room.now c.args.k) n ∙ name_laid c.args.room.now c.args.k k (omega (arith, n, c.if-room-n.false)))
