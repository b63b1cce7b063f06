-- The counters: two triples have one slot only where they are one, so a record changes the counter of its own triple alone. By the columns of the
-- 16 groups. Assumes nothing.
use Prim.Native.Nat.{ℕ, ◌+◌, ◌-◌, ◌*◌, ◌≤◌, ◌<◌}
use native.Mathlib.Decide.{ℕ_discrete, dec_le}
use native.Mathlib.Omega.{arith}
use mathlib.Core.Path.{◌≡◌, refl, sym, ap, ◌∙◌}
use mathlib.Core.Bool.{Bool, true, false, true≢false, cond}
use mathlib.Core.List.{List, [], ◌∷◌}
use borrow.Author.Tests.{lt-leb, eq-eqb, ne_eqb}
use lib.Dec.{eqb}
use lib.ListN.{length, get_or, set, length-set}
use lib.Seq.{get_or-set_same, get_or-set_other}
use Rattle.record.specs.Header.{is_group}
use Rattle.judge.specs.Table.{class_at}
use Rattle.finish.specs.Rows.{group_at, subclass_at, is_of, how_many}
use Rattle.finish.specs.Slots.{Known, column_of, slot_of, SlotIs, slot_at, Counted}
use Rattle.finish.specs.Ahead.{Record}

-- ---- columns
pub last_column : (g : ℕ) → g ≡ 99 → column_of g ≡ 14
unfolding column_of
last_column g e = rw (eq-eqb g 99 e) refl

pub own_column : (g : ℕ) → (g ≡ 99 → ⊥) → column_of g ≡ g
unfolding column_of
own_column g d = rw (ne_eqb g 99 d) refl

-- 14 is no group
not_14 : (g : ℕ) → is_group g ≡ true → g ≡ 14 → ⊥
unfolding is_group
not_14 g e h = true≢false (sym e ∙ rw h refl)

below_16 : (g : ℕ) → is_group g ≡ true → (g ≡ 99 → ⊥) → g < 16
unfolding is_group
below_16 g e d = go (dec_le g 15)
  where
    go : Dec (g ≤ 15) → g < 16
    go (yes h) = omega arith
    go (no n) = absurd (true≢false (sym e ∙ rw (lt-leb g 13 (omega (arith, n)), ne_eqb g 15 (λ z. omega (arith, n)), ne_eqb g 99 d) refl))

-- the group of a column
unfoldable back_of : ℕ → ℕ
back_of x = cond (eqb x 14) 99 x

back_last : back_of 14 ≡ 99
unfolding back_of
back_last = refl

back_own : (x : ℕ) → (x ≡ 14 → ⊥) → back_of x ≡ x
unfolding back_of
back_own x d = rw (ne_eqb x 14 d) refl

record Column (g : ℕ) : Type 0 where
  back : back_of (column_of g) ≡ g
  below : column_of g < 16

column : (g : ℕ) → is_group g ≡ true → Column g
column g e = go (ℕ_discrete g 99)
  where
    go : Dec (g ≡ 99) → Column g
    go (yes z) = let q = last_column g z in record { back = ap back_of q ∙ back_last ∙ sym z; below = omega arith }
    go (no d) =
        let q = own_column g d in
        record { back = ap back_of q ∙ back_own g (not_14 g e); below = omega (arith, below_16 g e d) }

pub column_below : (g : ℕ) → is_group g ≡ true → column_of g < 16
column_below g e = (column g e).below

-- ---- slots
pub slot_is : (c g s j : ℕ) → 1 ≤ c → c ≤ 8 → is_group g ≡ true → s < 256 → j ≡ slot_of c g s → SlotIs c g s j
slot_is c g s j l h u v e = record { same = e; below = omega (arith, (column g u).below); byte = v }

pub slot_below : {c g s : ℕ} → Known c g s → slot_of c g s < 32768
slot_below {c} {g} {s} k = let b = (column g k.grouped).below in omega (arith, k.one, k.eight, k.byte)

digits : (u v x y s t : ℕ) → x < 16 → y < 16 → s < 256 → t < 256 → (u * 16 + x) * 256 + s ≡ (v * 16 + y) * 256 + t → (u ≡ v) × (x ≡ y) × (s ≡ t)
digits u v x y s t a b c d e = (omega arith, omega arith, omega arith)

pub one_slot : {c g s c' g' s' : ℕ} → Known c g s → Known c' g' s' → slot_of c g s ≡ slot_of c' g' s' → (c ≡ c') × (g ≡ g') × (s ≡ s')
one_slot {c} {g} {s} {c'} {g'} {s'} k m e =
    let x = column g k.grouped in
    let y = column g' m.grouped in
    let d = digits (c - 1) (c' - 1) (column_of g) (column_of g') s s' x.below y.below k.byte m.byte e in
    (omega (arith, d.0, k.one, m.one), sym x.back ∙ ap back_of d.1 ∙ y.back, d.2)

-- ---- one more record
is_of_lem : (a : List ℕ) {c g s : ℕ} (i : ℕ) → class_at a i ≡ c → group_at a i ≡ g → subclass_at a i ≡ s → is_of a c g s i ≡ true
is_of_lem a {c} {g} {s} i p q r = rw (eq-eqb (class_at a i) c p, eq-eqb (group_at a i) g q, eq-eqb (subclass_at a i) s r) refl

not_of : (a : List ℕ) {c g s : ℕ} (i : ℕ) → (class_at a i ≡ c → group_at a i ≡ g → subclass_at a i ≡ s → ⊥) → is_of a c g s i ≡ false
not_of a {c} {g} {s} i n = go (ℕ_discrete (class_at a i) c) (ℕ_discrete (group_at a i) g) (ℕ_discrete (subclass_at a i) s)
  where
    go : Dec (class_at a i ≡ c) → Dec (group_at a i ≡ g) → Dec (subclass_at a i ≡ s) → is_of a c g s i ≡ false
    go (yes p) (yes q) (yes r) = absurd (n p q r)
    go (no p) _ _ = rw (ne_eqb (class_at a i) c p) refl
    go (yes p) (no q) _ = rw (eq-eqb (class_at a i) c p, ne_eqb (group_at a i) g q) refl
    go (yes p) (yes q) (no r) = rw (eq-eqb (class_at a i) c p, eq-eqb (group_at a i) g q, ne_eqb (subclass_at a i) s r) refl

pub known_here : {a : List ℕ} {i : ℕ} → Record a i → subclass_at a i < 256 → Known (class_at a i) (group_at a i) (subclass_at a i)
known_here r b = record { one = r.one; eight = r.eight; grouped = r.grouped; byte = b }

plus_none : (n : ℕ) → n ≡ n + 0
plus_none n = omega arith

pub counted_next : {a l counts : List ℕ} {i : ℕ} → Counted a l counts → Record a i → subclass_at a i < 256 → Counted a (i ∷ l) (set counts (slot_at a i) (get_or counts (slot_at a i) 0 + 1))
counted_next {a} {l} {counts} {i} k r b = record { long = simp length-set k.long; each = λ c g s w. go c g s w (ℕ_discrete (slot_of c g s) (slot_at a i)) }
  where
    h : Known (class_at a i) (group_at a i) (subclass_at a i)
    h = known_here r b

    inside : slot_at a i < length counts
    inside = omega (arith, slot_below h, k.long)

    go : (c g s : ℕ) → Known c g s → Dec (slot_of c g s ≡ slot_at a i) → get_or (set counts (slot_at a i) (get_or counts (slot_at a i) 0 + 1)) (slot_of c g s) 0 ≡ how_many a c g s (i ∷ l)
    go c g s w (yes e) =
        let u = one_slot w h e in
        let t = is_of_lem a {c = c} {g = g} {s = s} i (sym u.0) (sym u.1) (sym u.2) in
        ap (λ (j : ℕ). get_or (set counts (slot_at a i) (get_or counts (slot_at a i) 0 + 1)) j 0) e
        ∙ get_or-set_same counts (slot_at a i) (get_or counts (slot_at a i) 0 + 1) 0 inside
        ∙ ap (λ (j : ℕ). get_or counts j 0 + 1) (sym e)
        ∙ ap (λ (n : ℕ). n + 1) (k.each c g s w)
        ∙ ap (λ (t : Bool). how_many a c g s l + cond t 1 0) (sym t)
    go c g s w (no n) =
        let t = not_of a {c = c} {g = g} {s = s} i (λ p q r. n (ap (λ (x : ℕ). slot_of x g s) (sym p) ∙ ap (λ (x : ℕ). slot_of (class_at a i) x s) (sym q) ∙ ap (λ (x : ℕ). slot_of (class_at a i) (group_at a i) x) (sym r))) in
        get_or-set_other counts (slot_at a i) (slot_of c g s) (get_or counts (slot_at a i) 0 + 1) 0 n
        ∙ k.each c g s w
        ∙ plus_none (how_many a c g s l)
        ∙ ap (λ (t : Bool). how_many a c g s l + cond t 1 0) (sym t)

bit : (b : Bool) → cond b 1 0 ≤ 1
bit true = omega arith
bit false = omega arith

pub few : (a : List ℕ) (c g s : ℕ) (l : List ℕ) → how_many a c g s l ≤ length l
few a c g s [] = omega arith
few a c g s (j ∷ l) = omega (arith, few a c g s l, bit (is_of a c g s j))
