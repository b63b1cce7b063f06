-- `listing::list_complete` meets its contract: the bytes needed are counted, and the room has them or is too small. Assumes nothing.
use mathlib.Core.Path.{refl}
use Rattle.listing.proofs.ProductLaws.{small_room, full_lists}
use Rattle.listing.proofs.list_complete.Goals as goal

pub returns-then-room-n : goal.returns-then-room-n
returns-then-room-n c =
    (small_room c.requires c.needed-n.ensures c.if-room-n.true, refl)

pub returns : goal.returns
returns c =
    full_lists c.requires c.needed-n.ensures c.if-room-n.false c.put_list.ensures
