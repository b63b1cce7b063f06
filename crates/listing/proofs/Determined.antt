-- DETERMINED: no second answer fits a promise of this crate, and no second room. The records of a product that is complete are one list, so its
-- listing is one text; a refusal is the judge's, of which there is one, or its row's. Assumes nothing.
use Prim.Native.Nat.{ℕ}
use native.Mathlib.Omega.{arith}
use mathlib.Core.Path.{◌≡◌, refl, sym, ap, ◌∙◌}
use mathlib.Core.Logic.{⊎_elim}
use mathlib.Core.List.{List, ◌∷◌, ◌++◌}
use lib.ListN.{length, drop}
use Rattle.calendar.specs.declared.Refusal.{Refusal}
use Rattle.mphr.specs.Layout.{bytes_of}
use Rattle.tables.proofs.Laws.{not_clean}
use Rattle.mphr.proofs.Prefix.{same_refusal}
use Rattle.judge.specs.Extent.{Complete, Covered}
use Rattle.finish.specs.Finish.{starts}
use Rattle.demands.proofs.Prefix.{unique_given}
use Rattle.demands.proofs.Accepted.{covers, complete_is_product}
use Rattle.listing.specs.Decimal.{column}
use Rattle.listing.specs.Listing.{lines, listing, Wrote, Lists, NoList, too_large, faulty, short, no_room, ListedIs, LineIs}
use Rattle.std.specs.declared.result.Result.TheVariants.{Ok, Err}
use Rattle.std.specs.declared.result.Result.{Result}

pub one_listing : {a : List ℕ} {c d : ℕ} → Complete a → (v : Covered a c) (w : Covered a d) → listing v ≡ listing w
one_listing {a} {c} {d} k v w =
    let m = complete_is_product k in
    let e = covers m v in
    let f = covers m w in
    ap (λ (n : ℕ). (bytes_of "records " ++ column n 10) ++ lines a (0 ∷ starts v.way)) (e.0 ∙ sym f.0)
    ∙ ap (λ (l : List ℕ). (bytes_of "records " ++ column d 10) ++ lines a (0 ∷ l)) (e.1 ∙ sym f.1)

one_wrote : {room text : List ℕ} {n m : ℕ} {x y : List ℕ} → Wrote room text n x → Wrote room text m y → (n ≡ m) × (x ≡ y)
one_wrote {room} {text} f g = let e = f.bytes ∙ sym g.bytes in (e, f.text_is ∙ ap (λ (k : ℕ). text ++ drop k room) e ∙ sym g.text_is)

wrote_at : {room text other : List ℕ} {n : ℕ} {x : List ℕ} → text ≡ other → Wrote room text n x → Wrote room other n x
wrote_at e f = rw e at f

not_both : {a room : List ℕ} {n m p : ℕ} {x : List ℕ} → Lists a room n x → NoList a room m p → ⊥
not_both f (too_large h) = omega (arith, f.small)
not_both f (faulty _ g) = not_clean g f.complete.clean
not_both f (short _ c s) = ⊎_elim (λ z. omega (arith, f.complete.header)) (λ z. omega (arith, f.complete.come)) s
not_both f (no_room _ k v l) = omega (arith, f.wrote.bytes, f.wrote.fits, ap length (one_listing k f.covered v))

one_refusal : {a room : List ℕ} {n p m q : ℕ} → NoList a room n p → NoList a room m q → (n ≡ m) × (p ≡ q)
one_refusal (too_large h) (too_large l) = (refl, refl)
one_refusal (too_large h) (faulty l _) = absurd (omega arith)
one_refusal (too_large h) (short l _ _) = absurd (omega arith)
one_refusal (too_large h) (no_room l _ _ _) = absurd (omega arith)
one_refusal (faulty h f) (too_large l) = absurd (omega arith)
one_refusal (faulty h f) (faulty l g) = unique_given f g
one_refusal (faulty h f) (short l c s) = absurd (not_clean f c)
one_refusal (faulty h f) (no_room l k v r) = absurd (not_clean f k.clean)
one_refusal (short h c s) (too_large l) = absurd (omega arith)
one_refusal (short h c s) (faulty l g) = absurd (not_clean g c)
one_refusal (short h c s) (short l d t) = (refl, refl)
one_refusal (short h c s) (no_room l k v r) = absurd (⊎_elim (λ z. omega (arith, k.header)) (λ z. omega (arith, k.come)) s)
one_refusal (no_room h k v r) (too_large l) = absurd (omega arith)
one_refusal (no_room h k v r) (faulty l g) = absurd (not_clean g k.clean)
one_refusal (no_room h k v r) (short l c s) = absurd (⊎_elim (λ z. omega (arith, k.header)) (λ z. omega (arith, k.come)) s)
one_refusal (no_room h k v r) (no_room l j w t) = (refl, ap length (one_listing k v w))

pub unique_list : (a room : List ℕ) (r s : Result ℕ Refusal) (x y : List ℕ) → ListedIs a room r x → ListedIs a room s y → (r ≡ s) × (x ≡ y)
unique_list a room (Ok n) (Ok m) x y f g =
    let e = one_wrote f.wrote (wrote_at (one_listing f.complete g.covered f.covered) g.wrote) in
    (ap Ok e.0, e.1)
unique_list a room (Ok n) (Err s) x y f g = absurd (not_both f g.0)
unique_list a room (Err r) (Ok m) x y f g = absurd (not_both g f.0)
unique_list a room (Err r) (Err s) x y f g =
    let e = one_refusal f.0 g.0 in
    (ap Err (same_refusal r s e.0 e.1), f.1 ∙ sym g.1)

pub unique_refusal_line : (x : Refusal) (room : List ℕ) (r s : Result ℕ Refusal) (p q : List ℕ) → LineIs x room r p → LineIs x room s q → (r ≡ s) × (p ≡ q)
unique_refusal_line x room (Ok n) (Ok m) p q f g = let e = one_wrote f g in (ap Ok e.0, e.1)
unique_refusal_line x room (Ok n) (Err s) p q f g = absurd (omega (arith, f.bytes, f.fits, g.over))
unique_refusal_line x room (Err r) (Ok m) p q f g = absurd (omega (arith, g.bytes, g.fits, f.over))
unique_refusal_line x room (Err r) (Err s) p q f g = (ap Err (f.needed ∙ sym g.needed), f.kept ∙ sym g.kept)
