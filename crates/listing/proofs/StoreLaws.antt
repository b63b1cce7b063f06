-- A text that is stored in a room: one text after the other, and the last byte first. By induction on the text. Assumes nothing.
use Prim.Native.Nat.{ℕ, suc, ◌+◌, ◌≤◌, ◌<◌}
use native.Mathlib.Omega.{arith}
use mathlib.Core.Path.{◌≡◌, refl, sym, ap, ◌∙◌}
use mathlib.Core.List.{List, [], ◌∷◌, ◌++◌}
use lib.ListN.{length, set, drop, length-append}
use lib.Seq.{sets, sets-eq, length-sets, set_comm}
use borrow.Author.Tests.{le-leb}
use mathlib.Core.Bool.{true}
use Rattle.meter.specs.Lent.{wrote}
use Rattle.text.specs.Writing.{fits_text, put_text}
use Rattle.text.proofs.Laws.{text_wide}
use Rattle.listing.specs.Decimal.{Puts}
use Rattle.calendar.specs.declared.Refusal.{Refusal}
use Rattle.listing.specs.Listing.{Wrote, ListedIs, LineIs}
use Rattle.std.specs.declared.result.Result.TheVariants.{Ok}
use Rattle.std.specs.declared.result.Result.{Result}

pub sets_append : (room : List ℕ) (i : ℕ) (x y : List ℕ) → sets room i (x ++ y) ≡ sets (sets room i x) (i + length x) y
sets_append room i [] y = ap (λ (k : ℕ). sets room k y) (omega arith)
sets_append room i (b ∷ x) y = sets_append (set room i b) (suc i) x y ∙ ap (λ (k : ℕ). sets (sets (set room i b) (suc i) x) k y) (omega arith)

-- a store before the text's place is one after it
set_before : (room : List ℕ) (i j b : ℕ) (x : List ℕ) → j < i → sets (set room j b) i x ≡ set (sets room i x) j b
set_before room i j b [] h = refl
set_before room i j b (d ∷ x) h =
    ap (λ (r : List ℕ). sets r (suc i) x) (set_comm room j i b d (λ e. omega arith)) ∙ set_before (set room i d) (suc i) j b x (omega arith)

-- the last byte may be stored first
pub sets_snoc : (room : List ℕ) (i : ℕ) (x : List ℕ) (b : ℕ) → sets room i (x ++ (b ∷ [])) ≡ sets (set room (i + length x) b) i x
sets_snoc room i [] b = ap (λ (k : ℕ). set room k b) (omega arith)
sets_snoc room i (d ∷ x) b =
    sets_snoc (set room i d) (suc i) x b
    ∙ ap (λ (r : List ℕ). sets r (suc i) x) (ap (λ (k : ℕ). set (set room i d) k b) (omega arith) ∙ set_comm room i (i + suc (length x)) d b (λ e. omega arith))

-- ---- one text after another
pub puts_append : {room mid exit x y : List ℕ} {i r q : ℕ} → Puts room i x r mid → Puts mid r y q exit → Puts room i (x ++ y) q exit
puts_append {room} {mid} {exit} {x} {y} {i} {r} {q} f g = record {
  next = omega (arith, f.next, g.next, length-append x y);
  put = g.put ∙ ap (λ (m : List ℕ). sets m r y) f.put ∙ ap (λ (k : ℕ). sets (sets room i x) k y) f.next ∙ sym (sets_append room i x y);
}

pub puts_length : {room exit x : List ℕ} {i r : ℕ} → Puts room i x r exit → length exit ≡ length room
puts_length {room} {exit} {x} {i} f = ap length f.put ∙ length-sets room i x

-- at the room's start
pub sets_start : (room x : List ℕ) → length x ≤ length room → sets room 0 x ≡ x ++ drop (length x) room
sets_start room x h =
    let e : 0 + length x ≡ length x = omega arith in
    sets-eq x room 0 (omega arith) ∙ ap (λ (k : ℕ). x ++ drop k room) e

-- what `text::write_text` writes
pub text_puts : (room word : List ℕ) {exit : List ℕ} → fits_text 8 word ≡ true → 8 ≤ length room → exit ≡ wrote room 8 (fits_text 8 word) (put_text room word) → Puts room 0 word 8 exit
text_puts room word {exit} f h e =
    let w = text_wide 8 word f in
    let g : exit ≡ put_text room word = rw (f, le-leb 8 (length room) h) at e in
    record { next = omega (arith, w); put = g ∙ sym (sets_start room word (omega (arith, w))) }

pub puts_wrote : {room exit text : List ℕ} {n r : ℕ} → Puts room 0 text r exit → n ≡ length text → n ≤ length room → Wrote room text n exit
puts_wrote {room} {exit} {text} {n} f e h = record {
  bytes = e;
  fits = h;
  text_is = f.put ∙ sets_start room text (omega arith) ∙ ap (λ (k : ℕ). text ++ drop k room) (sym e);
}

-- ---- what was written lies in the room
wrote_inside : {room exit text : List ℕ} {n : ℕ} → Wrote room text n exit → n ≤ length exit
wrote_inside {room} {exit} {text} {n} w = omega (arith, w.bytes, ap length w.text_is, length-append text (drop n room))

pub line_inside : (x : Refusal) (room exit : List ℕ) {r : Result ℕ Refusal} {n : ℕ} → r ≡ Ok n → LineIs x room r exit → n ≤ length exit
line_inside x room exit {r} {n} e f = let w : LineIs x room (Ok n) exit = rw e at f in wrote_inside w

pub list_inside : (a room exit : List ℕ) {r : Result ℕ Refusal} {n : ℕ} → r ≡ Ok n → ListedIs a room r exit → n ≤ length exit
list_inside a room exit {r} {n} e f = let w : ListedIs a room (Ok n) exit = rw e at f in wrote_inside w.wrote
