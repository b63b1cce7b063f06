-- What is right to say of a product that is to be listed, by what its listing needs. Assumes nothing.
use Prim.Native.Nat.{ℕ, ◌≤◌, ◌<◌}
use native.Mathlib.Omega.{arith}
use mathlib.Core.Path.{◌≡◌, refl}
use mathlib.Core.List.{List}
use lib.ListN.{length}
use Rattle.listing.specs.Listing.{listing, Lists, NoList, no_room, ListedIs, Listable, Needs, Full}
use Rattle.std.specs.declared.result.Result.{Result}
use Rattle.calendar.specs.declared.Refusal.{Refusal}
use Rattle.listing.proofs.StoreLaws.{puts_wrote}

pub small_room : {a room : List ℕ} {c n : ℕ} → Listable a c → Needs a c n → length room < n → NoList a room 18 n
small_room {a} {room} q f h =
    let e = f q.covered in
    let l : length room < length (listing q.covered) = omega (arith, e) in
    rw e (no_room q.small q.complete q.covered l)

pub full_lists : {a room exit : List ℕ} {c n : ℕ} → Listable a c → Needs a c n → n ≤ length room → Full a c room exit → Lists a room n exit
full_lists {c = c} q f h w = record {
  small = q.small;
  complete = q.complete;
  count = c;
  covered = q.covered;
  wrote = puts_wrote (record { next = refl; put = w q.covered }) (f q.covered) h;
}
