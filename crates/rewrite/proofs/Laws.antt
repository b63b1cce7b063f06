-- THE CUT'S ANSWERS: no second answer and no second room fit; a refusal leaves the room as it came; what is written is the cut, which the
-- verdict accepts, and then what the room held. By cases on the answers: the window, the judge's answer and the plan each decide. Assumes nothing.
use Prim.Native.Nat.{ℕ, suc, ◌+◌, ◌≤◌, ◌<◌}
use native.Mathlib.Omega.{arith}
use mathlib.Core.Path.{◌≡◌, refl, sym, ap, subst, ◌∙◌}
use mathlib.Core.Bool.{Bool, true, false, true≢false}
use mathlib.Core.List.{List, ◌++◌}
use lib.ListN.{length, take, drop, length-append}
use lib.Seq.{take_at}
use Rattle.calendar.specs.declared.Refusal.{Refusal}
use Rattle.std.specs.declared.result.Result.TheVariants.{Ok, Err}
use Rattle.std.specs.declared.result.Result.{Result}
use Rattle.finish.specs.Finish.{VerdictIs}
use Rattle.demands.specs.Product.{Meets}
use Rattle.demands.proofs.Accepted.{meets_fit, one_refused}
use Rattle.demands.proofs.Verdict.{product_verdict}
use Rattle.parts.specs.Parts.{joined, bytes}
use Rattle.parts.specs.Cut.{Window, Inside, is_window}
use Rattle.parts.specs.Rewritten.{Holdable}
use Rattle.parts.specs.TownCut.{cut_records, IsCut}
use Rattle.meter.specs.Integer.{Bytes}
use Rattle.parts.proofs.Built.{bytes_joined}
use Rattle.parts.proofs.Narrower.{one_cut, cut_of_cut_records, cut_of_cut}
use Rattle.parts.proofs.TownLaws.{town_product}
use Rattle.rewrite.specs.Cut.{refused_at, cut_size, CutIs, no_window, unfit, too_much, no_room, written, CutResult}
use Rattle.rewrite.proofs.PlanLaws.{same_records}

-- ---- what cannot be together
pub clash : {b : Bool} → b ≡ true → b ≡ false → ⊥
clash t f = true≢false (sym t ∙ f)

module _ {a : List ℕ} (w : Window) (t u : Meets a) where
  held : Holdable (cut_records a w t) → Holdable (cut_records a w u)
  held h = subst Holdable (same_records w t u) h

  sized : cut_size a w t ≡ cut_size a w u
  sized = ap (λ (ps : List (List ℕ)). 3307 + bytes ps) (same_records w t u)

-- ---- NO SECOND ANSWER FITS
module _ {a : List ℕ} {w : Window} {room : List ℕ} where
  one_no_window : {s : Result ℕ Refusal} {y : List ℕ} → is_window w ≡ false → CutIs a w room s y → (refused_at 25 0 ≡ s) × (room ≡ y)
  one_no_window e (no_window _) = (refl, refl)
  one_no_window e (unfit r d g) = absurd (clash d e)
  one_no_window e (too_much t d h) = absurd (clash d e)
  one_no_window e (no_room t d h l) = absurd (clash d e)
  one_no_window e (written t b d h l c _) = absurd (clash d e)

  one_unfit : {s : Result ℕ Refusal} {y : List ℕ} (r : Refusal) → is_window w ≡ true → VerdictIs a (Err r) → CutIs a w room s y → (Err r ≡ s) × (room ≡ y)
  one_unfit r e g (no_window d) = absurd (clash e d)
  one_unfit r e g (unfit q d k) = (ap Err (one_refused r q g k), refl)
  one_unfit r e g (too_much t d h) = absurd (meets_fit t r g)
  one_unfit r e g (no_room t d h l) = absurd (meets_fit t r g)
  one_unfit r e g (written t b d h l c _) = absurd (meets_fit t r g)

  one_too_much : {s : Result ℕ Refusal} {y : List ℕ} (u : Meets a) → is_window w ≡ true → (Holdable (cut_records a w u) → ⊥) → CutIs a w room s y → (refused_at 28 0 ≡ s) × (room ≡ y)
  one_too_much u e g (no_window d) = absurd (clash e d)
  one_too_much u e g (unfit q d k) = absurd (meets_fit u q k)
  one_too_much u e g (too_much t d h) = (refl, refl)
  one_too_much u e g (no_room t d h l) = absurd (g (held w t u h))
  one_too_much u e g (written t b d h l c _) = absurd (g (held w t u h))

  one_no_room :
      {s : Result ℕ Refusal} {y : List ℕ} (u : Meets a) → is_window w ≡ true → Holdable (cut_records a w u) → length room < cut_size a w u → CutIs a w room s y
      → (refused_at 18 (cut_size a w u) ≡ s) × (room ≡ y)
  one_no_room u e g n (no_window d) = absurd (clash e d)
  one_no_room u e g n (unfit q d k) = absurd (meets_fit u q k)
  one_no_room u e g n (too_much t d h) = absurd (h (held w u t g))
  one_no_room u e g n (no_room t d h l) = (ap (refused_at 18) (sized w u t), refl)
  one_no_room u e g n (written t b d h l c _) = absurd (omega (arith, sized w u t))

  one_written :
      {s : Result ℕ Refusal} {y : List ℕ} (u : Meets a) (b : List ℕ) → is_window w ≡ true → Holdable (cut_records a w u) → cut_size a w u ≤ length room → IsCut a w b → CutIs a w room s y
      → (Ok (cut_size a w u) ≡ s) × (b ++ drop (cut_size a w u) room ≡ y)
  one_written u b e g n c (no_window d) = absurd (clash e d)
  one_written u b e g n c (unfit q d k) = absurd (meets_fit u q k)
  one_written u b e g n c (too_much t d h) = absurd (h (held w u t g))
  one_written u b e g n c (no_room t d h l) = absurd (omega (arith, sized w u t))
  one_written u b e g n c (written t x d h l k _) =
      (ap Ok (sized w u t), ap (λ (z : List ℕ). z ++ drop (cut_size a w u) room) (one_cut c k) ∙ ap (λ (i : ℕ). x ++ drop i room) (sized w u t))

pub unique_cut : (a : List ℕ) (w : Window) (room : List ℕ) (r s : Result ℕ Refusal) (x y : List ℕ) → CutIs a w room r x → CutIs a w room s y → (r ≡ s) × (x ≡ y)
unique_cut a w room r s x y (no_window e) c = one_no_window e c
unique_cut a w room r s x y (unfit q e g) c = one_unfit q e g c
unique_cut a w room r s x y (too_much t e g) c = one_too_much t e g c
unique_cut a w room r s x y (no_room t e g l) c = one_no_room t e g l c
unique_cut a w room r s x y (written t b e g l k _) c = one_written t b e g l k c

-- ---- A REFUSAL LEAVES THE ROOM AS IT CAME
pub refusal_keeps : {a : List ℕ} {w : Window} {room exit : List ℕ} (r : Refusal) (s : Result ℕ Refusal) → s ≡ Err r → CutIs a w room s exit → exit ≡ room
refusal_keeps r s e (no_window _) = refl
refusal_keeps r s e (unfit q _ _) = refl
refusal_keeps r s e (too_much _ _ _) = refl
refusal_keeps r s e (no_room _ _ _ _) = refl
refusal_keeps r s e (written t b _ _ _ _ _) = absurd (let z : ◌≡◌ {A = ℕ} 0 1 = cc in omega arith)

-- ---- WHAT IS WRITTEN: the cut, so that the laws of TownLaws hold of it
pub written_is : {a : List ℕ} {w : Window} {room exit : List ℕ} (n : ℕ) (s : Result ℕ Refusal) → s ≡ Ok n → CutIs a w room s exit → CutResult a w room n exit
written_is n s e (no_window _) = absurd (let z : ◌≡◌ {A = ℕ} 0 1 = cc in omega arith)
written_is n s e (unfit q _ _) = absurd (let z : ◌≡◌ {A = ℕ} 0 1 = cc in omega arith)
written_is n s e (too_much _ _ _) = absurd (let z : ◌≡◌ {A = ℕ} 0 1 = cc in omega arith)
written_is n s e (no_room _ _ _ _) = absurd (let z : ◌≡◌ {A = ℕ} 0 1 = cc in omega arith)
written_is {a} {w} {room} n s e (written t b d h l c m) =
    let z : cut_size a w t ≡ n = bytes_of e in
    record {
      text = b;
      cut = c;
      product = m;
      holdable = held w t c.product h;
      long = sym z ∙ sized w t c.product;
      fits = omega (arith, z);
      stands = ap (λ (i : ℕ). b ++ drop i room) z;
    }
  where
    bytes_of : {i j : ℕ} → ◌≡◌ {A = Result ℕ Refusal} (Ok i) (Ok j) → i ≡ j
    bytes_of e = cc

-- ---- "The result is accepted", of what the cut left in the room: whatever the verdict answers of those bytes, it accepts them
pub left_is : {a : List ℕ} {w : Window} {room exit : List ℕ} {n : ℕ} (x : CutResult a w room n exit) → take n exit ≡ x.text
left_is {a} {w} {room} {exit} {n} x =
    let c = x.cut in
    let ps = cut_records a w c.product in
    let l : length x.text ≡ n = ap length c.whole ∙ length-append c.header (joined ps) ∙ omega (arith, c.lines.long, bytes_joined ps, x.long) in
    ap (take n) x.stands ∙ take_at x.text (drop n room) n l

pub written_accepted : {a : List ℕ} {w : Window} {room exit : List ℕ} {n : ℕ} → CutIs a w room (Ok n) exit → (r : Result ℕ Refusal) → VerdictIs (take n exit) r → (c : ℕ) × (r ≡ Ok c)
written_accepted {n = n} c r v =
    let x = written_is n (Ok n) refl c in
    (suc (length x.product.list), product_verdict x.text x.product r (subst (λ (b : List ℕ). VerdictIs b r) (left_is x) v))

-- ---- A CUT OF A CUT: what is right to answer of b, the cut of a by v, and a window that lies inside v, is right to answer of a and that window; so the
-- two answers are one (`unique_cut`), refusals too
pub narrower_answer :
    {a b : List ℕ} {w v : Window} {room exit : List ℕ} {r : Result ℕ Refusal} (byte : Bytes a) (x : IsCut a v b) → Holdable (cut_records a v x.product) → Inside w v
    → CutIs b w room r exit → CutIs a w room r exit
narrower_answer byte x k i (no_window e) = no_window e
narrower_answer byte x k i (unfit q e g) = absurd (meets_fit (town_product byte x k) q g)
narrower_answer byte x k i (too_much t e h) = too_much x.product e (λ g. h (subst Holdable (sym (cut_of_cut_records byte x k i t)) g))
narrower_answer {a} {b} {w} {room = room} byte x k i (no_room t e h l) =
    let s = cut_of_cut_records byte x k i t in
    let z : cut_size b w t ≡ cut_size a w x.product = ap (λ (ps : List (List ℕ)). 3307 + bytes ps) s in
    subst (λ (n : ℕ). CutIs a w room (refused_at 18 n) room) (sym z) (no_room x.product e (subst Holdable s h) (omega (arith, z)))
narrower_answer {a} {b} {w} {room = room} byte x k i (written t c e h l y m) =
    let s = cut_of_cut_records byte x k i t in
    let z : cut_size b w t ≡ cut_size a w x.product = ap (λ (ps : List (List ℕ)). 3307 + bytes ps) s in
    subst (λ (n : ℕ). CutIs a w room (Ok n) (c ++ drop n room)) (sym z) (written x.product c e (subst Holdable s h) (omega (arith, z)) (cut_of_cut byte x k i y) m)
