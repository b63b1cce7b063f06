-- WHAT THE CUT ANSWERS DOES NOT CHANGE WITH THE PAYLOAD (beyond the request): of two products that differ in payload, with the same window and the same room,
-- the same number of bytes or the same refusal is right. What is written has as many bytes (`apart-cut`). Assumes nothing.
use Prim.Native.Nat.{ℕ, ◌+◌}
use native.Mathlib.Omega.{arith}
use mathlib.Core.Path.{◌≡◌, refl, sym, ap, subst}
use mathlib.Core.List.{List, ◌++◌}
use lib.ListN.{drop}
use Rattle.std.specs.declared.result.Result.TheVariants.{Ok}
use Rattle.std.specs.declared.result.Result.{Result}
use Rattle.calendar.specs.declared.Refusal.{Refusal}
use Rattle.demands.specs.Product.{Meets}
use Rattle.demands.proofs.Accepted.{complete_is_product, meets_fit}
use Rattle.parts.specs.Parts.{bytes_of, main_of, records_at}
use Rattle.parts.specs.Cut.{Window, cut_parts}
use Rattle.parts.specs.CutHeader.{cut_values}
use Rattle.parts.specs.TownCut.{cut_records, IsCut}
use Rattle.parts.specs.Rewritten.{Rewritten, Holdable}
use Rattle.parts.proofs.TownLaws.{town_built}
use Rattle.rewrite.specs.Cut.{refused_at, cut_size, CutIs, no_window, unfit, too_much, no_room, written}
use Rattle.rewrite.proofs.Laws.{unique_cut}
use Rattle.payload.specs.Apart.{Apart}
use Rattle.payload.proofs.Twins.{Twins, twins, complete}
use Rattle.payload.proofs.Fields.{main_over}
use Rattle.payload.proofs.Parted.{Paid, paid_bytes, paid_length, paid_apart}
use Rattle.payload.proofs.ApartLaws.{apart_product}
use Rattle.payload.proofs.Cuts.{paid_records, cut_paid, cut_values_lem}

module _ {a b : List ℕ} (t : Twins a b) (w : Window) (u : Meets a) where
  paid_cut : Paid (cut_records a w u) (cut_records b w t.two)
  paid_cut =
      subst (λ (m : List ℕ). Paid (cut_records a w u) (cut_parts m w (records_at b t.two.list))) (main_over t) (cut_paid (main_of a) w (paid_records t u t.two))

  same_size : cut_size a w u ≡ cut_size b w t.two
  same_size = ap (λ (n : ℕ). 3307 + n) (paid_bytes paid_cut)

  holds_over : Holdable (cut_records a w u) → Holdable (cut_records b w t.two)
  holds_over h = record { size = omega (arith, h.size, paid_bytes paid_cut); all = omega (arith, h.all, paid_length paid_cut) }

  holds_back : Holdable (cut_records b w t.two) → Holdable (cut_records a w u)
  holds_back h = record { size = omega (arith, h.size, paid_bytes paid_cut); all = omega (arith, h.all, paid_length paid_cut) }

-- where the one has a cut the other has one, of the same main header, and both are products
cut_over : {a b c : List ℕ} {w : Window} (t : Twins a b) → IsCut a w c → Meets c → (d : List ℕ) × IsCut b w d × Meets d
cut_over {a} {b} {w = w} t k u =
    let rs = records_at a k.product.list in
    let ss = records_at b t.two.list in
    let p = paid_records t k.product t.two in
    let x : Rewritten (main_of a) k.header (cut_values (main_of a) w ss) = subst (Rewritten (main_of a) k.header) (cut_values_lem (main_of a) w p) k.lines in
    let y : Rewritten (main_of b) k.header (cut_values (main_of b) w ss) = subst (λ (m : List ℕ). Rewritten m k.header (cut_values m w ss)) (main_over t) x in
    let x = paid_apart k.header (cut_records a w k.product) (cut_records b w t.two) (town_built k u) (paid_cut t w k.product) in
    (bytes_of k.header (cut_records b w t.two), record { product = t.two; header = k.header; lines = y; whole = refl }, (apart_product x).0)

answered : {a b : List ℕ} {w : Window} {room exit : List ℕ} {r : Result ℕ Refusal} → Twins a b → CutIs a w room r exit → (exit' : List ℕ) × CutIs b w room r exit'
answered {room = room} t (no_window e) = (room, no_window e)
answered {a = a} t (unfit q e g) = absurd (meets_fit (complete_is_product (complete t)) q g)
answered {w = w} {room = room} t (too_much u e g) = (room, too_much t.two e (λ h. g (holds_back t w u h)))
answered {b = b} {w = w} {room = room} t (no_room u e g l) =
    let s = same_size t w u in
    (room, subst (λ (n : ℕ). CutIs b w room (refused_at 18 n) room) (sym s) (no_room t.two e (holds_over t w u g) (omega (arith, s))))
answered {b = b} {w = w} {room = room} t (written u c e g l k n) =
    let s = same_size t w u in
    let d = cut_over t k n in
    let z = cut_size b w t.two in
    (d.0 ++ drop z room, subst (λ (m : ℕ). CutIs b w room (Ok m) (d.0 ++ drop z room)) (sym s) (written t.two d.0 e (holds_over t w u g) (omega (arith, s)) d.1 d.2))

-- THE LAW
pub same_cut_answer : {a b : List ℕ} {w : Window} {room x y : List ℕ} {r s : Result ℕ Refusal} → Apart a b → CutIs a w room r x → CutIs b w room s y → r ≡ s
same_cut_answer {b = b} {w = w} {room = room} {y = y} {r = r} {s = s} p f g =
    let k = answered (twins p) f in
    (unique_cut b w room r s k.0 y k.1 g).0
