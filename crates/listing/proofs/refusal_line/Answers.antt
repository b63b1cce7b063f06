-- `listing::refusal_line` meets its contract: the word, the number and the place, one after the other. Assumes nothing.
use Prim.Native.Nat.{◌+◌}
use native.Mathlib.Omega.{arith}
use mathlib.Core.Path.{◌≡◌, refl}
use lib.ListN.{length}
use Rattle.meter.specs.General.{run_of, lead}
use Rattle.mphr.specs.Layout.{bytes_of}
use Rattle.listing.specs.Listing.{refusal_line}
use Rattle.listing.proofs.ColumnLaws.{column_length}
use Rattle.listing.proofs.StoreLaws.{puts_append, puts_length, puts_wrote}
use Rattle.listing.proofs.LineLaws.{line_bytes, head_at}
use Rattle.listing.proofs.refusal_line.Goals as goal
use Rattle.listing.proofs.refusal_line.Goals.{After-places-2}

bytes : (c : After-places-2) → 10 + c.places.result + c.places-2.result ≡ length (refusal_line c.args.refusal)
bytes c = line_bytes c.args.refusal c.from-number.ensures c.places.ensures.0 c.places-2.ensures.0

pub put_head-p-requires : goal.put_head-p-requires
unfolding run_of lead
put_head-p-requires c =
    (refl, omega (arith, c.if-room-n.false, c.places.ensures.0, column_length c.from-number.result 32))

pub returns : goal.returns
returns c =
    puts_wrote (puts_append (head_at (bytes_of "refused ") 32 c.from-number.ensures c.put_head-p.ensures) c.put_column.ensures) (bytes (goal.at.returns c).After-places-2) c.if-room-n.false
