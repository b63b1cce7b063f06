-- The rank of a header from what it was found to show: the first fault that holds, in the order of the numbers, none of the lower ones holding.
-- Each of 6 to 11 by itself: it does not hold, or is the first that does, or comes later. Assumes nothing.
use Rattle.std.proofs.Common.{◌≡◌, ℕ, ◌+◌, ◌-◌, ◌<◌, ◌≤◌, Bool, true, false, ◌&&◌, ltb, leb, List, get_or, sym, refl, ap, ◌∙◌, arith, ltb-false, ltb-true, lt-ltb, leb-true}
use Rattle.record.specs.Header.{is_class, is_group}
use Rattle.record.specs.Times.{timed_at}
use Rattle.mphr.specs.Table.{declared, total}
use Rattle.meter.specs.Integer.{be_at}
use Rattle.meter.proofs.IntegerLaws.{be_at_same}
use Rattle.judge.specs.Table.{class_at, kind_at, size_at, Sound, Unknown, Misplaced, Surplus}
use Rattle.judge.specs.Step.{Six, Facing, Bears, Lowest, Ranked, RankIs, Excess, Sized, SizedIs, SixLeft, SixIn}

-- a test that came out both ways
pub clash : {P : Type 0} → false ≡ true → P
clash e = let z : ◌≡◌ {A = ℕ} 0 1 = cc in absurd (omega arith)

-- ---- a condition that does not hold, the first that does, one with a higher number
passed : {P : Type 0} {n r : ℕ} → (P → ⊥) → n < r → Bears P n r
passed n h = record { least = λ p. absurd (n p); is = λ e. absurd (omega arith) }

here : {P : Type 0} {n : ℕ} → P → Bears P n n
here p = record { least = λ _. omega arith; is = λ _. p }

beyond : {P : Type 0} {n r : ℕ} → r < n → Bears P n r
beyond h = record { least = λ _. omega arith; is = λ e. absurd (omega arith) }

borne : {P Q : Type 0} {n r : ℕ} → (P → Q) → (Q → P) → Bears P n r → Bears Q n r
borne f g k = record { least = λ q. k.least (g q); is = λ e. f (k.is e) }

module _ {P6 P7 P8 P9 P10 P11 : Type 0} where
  pub rank_6 : P6 → Lowest P6 P7 P8 P9 P10 P11 6
  rank_6 p6 = record { low = omega arith; high = omega arith; six = here p6; seven = beyond (omega arith); eight = beyond (omega arith); nine = beyond (omega arith); ten = beyond (omega arith); eleven = beyond (omega arith) }

  pub rank_7 : (P6 → ⊥) → P7 → Lowest P6 P7 P8 P9 P10 P11 7
  rank_7 n6 p7 = record { low = omega arith; high = omega arith; six = passed n6 (omega arith); seven = here p7; eight = beyond (omega arith); nine = beyond (omega arith); ten = beyond (omega arith); eleven = beyond (omega arith) }

  pub rank_8 : (P6 → ⊥) → (P7 → ⊥) → P8 → Lowest P6 P7 P8 P9 P10 P11 8
  rank_8 n6 n7 p8 = record { low = omega arith; high = omega arith; six = passed n6 (omega arith); seven = passed n7 (omega arith); eight = here p8; nine = beyond (omega arith); ten = beyond (omega arith); eleven = beyond (omega arith) }

  pub rank_9 : (P6 → ⊥) → (P7 → ⊥) → (P8 → ⊥) → P9 → Lowest P6 P7 P8 P9 P10 P11 9
  rank_9 n6 n7 n8 p9 = record { low = omega arith; high = omega arith; six = passed n6 (omega arith); seven = passed n7 (omega arith); eight = passed n8 (omega arith); nine = here p9; ten = beyond (omega arith); eleven = beyond (omega arith) }

  pub rank_10 : (P6 → ⊥) → (P7 → ⊥) → (P8 → ⊥) → (P9 → ⊥) → P10 → Lowest P6 P7 P8 P9 P10 P11 10
  rank_10 n6 n7 n8 n9 p10 = record { low = omega arith; high = omega arith; six = passed n6 (omega arith); seven = passed n7 (omega arith); eight = passed n8 (omega arith); nine = passed n9 (omega arith); ten = here p10; eleven = beyond (omega arith) }

  pub rank_11 : (P6 → ⊥) → (P7 → ⊥) → (P8 → ⊥) → (P9 → ⊥) → (P10 → ⊥) → P11 → Lowest P6 P7 P8 P9 P10 P11 11
  rank_11 n6 n7 n8 n9 n10 p11 = record { low = omega arith; high = omega arith; six = passed n6 (omega arith); seven = passed n7 (omega arith); eight = passed n8 (omega arith); nine = passed n9 (omega arith); ten = passed n10 (omega arith); eleven = here p11 }

  pub rank_12 : (P6 → ⊥) → (P7 → ⊥) → (P8 → ⊥) → (P9 → ⊥) → (P10 → ⊥) → (P11 → ⊥) → Lowest P6 P7 P8 P9 P10 P11 12
  rank_12 n6 n7 n8 n9 n10 n11 = record { low = omega arith; high = omega arith; six = passed n6 (omega arith); seven = passed n7 (omega arith); eight = passed n8 (omega arith); nine = passed n9 (omega arith); ten = passed n10 (omega arith); eleven = passed n11 (omega arith) }

pub and_true : (b d : Bool) → b && d ≡ true → (b ≡ true) × (d ≡ true)
and_true true d e = (refl, e)
and_true false d e = clash e

pub class_most : (c : ℕ) → is_class c ≡ true → (1 ≤ c) × (c ≤ 8)
unfolding is_class
class_most c e = let w = and_true (leb 1 c) (leb c 8) e in (leb-true 1 c w.0, leb-true c 8 w.1)

-- ---- the code's tests of a size and what is left, at the size that the header has
module _ {c z z' left : ℕ} {b : Bool} (z-is : z ≡ z') where
  pub six_in : SixIn c z left b → b ≡ true → SixLeft c z' left
  six_in r e = rw z-is at (r.good e)

  pub not_six_in : SixIn c z left b → b ≡ false → SixLeft c z' left → ⊥
  not_six_in r e s = r.bad e (rw z-is s)

  pub sized_in : SizedIs c z left b → b ≡ true → Sized c z' left
  sized_in r e = rw z-is at (r.good e)

  pub not_sized_in : SizedIs c z left b → b ≡ false → Sized c z' left → ⊥
  not_sized_in r e s = r.bad e (rw z-is s)

-- ---- a header by its own bytes and by the product's: those from byte o of h on are those from byte i of a on
module _ {h a : List ℕ} {o i n : ℕ} (alike : Facing h o a i n) (twenty : 20 ≤ n) where
  pub class_alike : class_at h o ≡ class_at a i
  class_alike = let z : o + 0 ≡ o = omega arith in let y : i + 0 ≡ i = omega arith in rw (z, y) at (alike.byte 0 (omega arith))

  pub group_alike : get_or h (o + 1) 0 ≡ get_or a (i + 1) 0
  group_alike = alike.byte 1 (omega arith)

  pub be_alike : (j m : ℕ) → j + m ≤ n → be_at h (o + j) m ≡ be_at a (i + j) m
  be_alike j m l = be_at_same h a (o + j) (i + j) m (λ k u. let e = alike.byte (j + k) (omega arith) in let z : o + (j + k) ≡ o + j + k = omega arith in let y : i + (j + k) ≡ i + j + k = omega arith in rw (z, y) at e)

  pub size_alike : size_at h o ≡ size_at a i
  size_alike = be_alike 4 4 (omega arith)

  pub kind_alike : kind_at h o ≡ kind_at a i
  kind_alike = let z : o + 0 ≡ o = omega arith in let y : i + 0 ≡ i = omega arith in rw (z, y) at (be_alike 0 3 (omega arith))

  pub timed_alike : timed_at h o ≡ timed_at a i
  unfolding timed_at
  timed_alike = rw (be_alike 8 6 (omega arith), be_alike 14 6 (omega arith))

  module _ (ts t : List ℕ) (p left : ℕ) (room : i + 20 ≤ declared a) (left_is : left ≡ declared a - i) (before : is_class p ≡ true) (totals : (c : ℕ) → c ≤ 8 → get_or ts c 0 ≡ total a c) where
    pub sized_of : Sound a i → Sized (class_at h o) (size_at h o) left
    sized_of s = let e = size_alike in let c = class_alike in record { least = omega (arith, s.least); most = omega (arith, s.most); ipr = λ k. e ∙ s.ipr (sym c ∙ k) }

    pub sound_of : Sized (class_at h o) (size_at h o) left → Sound a i
    sound_of s = let e = size_alike in let c = class_alike in record { room = room; least = omega (arith, s.least); most = omega (arith, s.most); ipr = λ k. sym e ∙ s.ipr (c ∙ k) }

    six_of : SixLeft (class_at h o) (size_at h o) left → Six a i
    six_of s = let e = size_alike in record { short = sym e ∙ s.short; other = λ k. s.other (class_alike ∙ k); more = omega (arith, s.more); part = omega (arith, s.part) }

    six_back : Six a i → SixLeft (class_at h o) (size_at h o) left
    six_back s = let e = size_alike in record { short = e ∙ s.short; other = λ k. s.other (sym class_alike ∙ k); more = omega (arith, s.more); part = omega (arith, s.part) }

    unknown_of : Unknown h o → Unknown a i
    unknown_of u = rw (class_alike, group_alike) at u

    unknown_back : Unknown a i → Unknown h o
    unknown_back u = rw (class_alike, group_alike) u

    misplaced_of : Misplaced h p o → Misplaced a p i
    misplaced_of m = record { before = m.before; known = rw class_alike at m.known; against = rw class_alike at m.against }

    misplaced_back : Misplaced a p i → Misplaced h p o
    misplaced_back m = record { before = m.before; known = rw class_alike m.known; against = rw class_alike m.against }

    surplus_of : Excess ts t (class_at h o) → Surplus a t i
    surplus_of x = let y = rw class_alike at x in record { known = y.known; over = omega (arith, y.over, totals (class_at a i) (class_most (class_at a i) y.known).1) }

    surplus_back : Surplus a t i → Excess ts t (class_at h o)
    surplus_back y = rw class_alike (record { known = y.known; over = omega (arith, y.over, totals (class_at a i) (class_most (class_at a i) y.known).1) })

    -- THE RANK IS THE PRODUCT'S
    pub ranked_of : {r : ℕ} → RankIs h o left p ts t r → Ranked a p i t r
    ranked_of k = record {
      low = k.low;
      high = k.high;
      six = borne six_of six_back k.six;
      seven = borne unknown_of unknown_back k.seven;
      eight = borne misplaced_of misplaced_back k.eight;
      nine = borne (λ n s. n (sized_of s)) (λ n s. n (sound_of s)) k.nine;
      ten = borne (λ e. sym timed_alike ∙ e) (λ e. timed_alike ∙ e) k.ten;
      eleven = borne surplus_of surplus_back k.eleven;
    }

both_known : {b d : Bool} → b ≡ true → d ≡ true → b && d ≡ true
both_known e f = rw (e, f)

pub known : (a : List ℕ) (i : ℕ) → is_class (get_or a i 0) ≡ true → is_group (get_or a (i + 1) 0) ≡ true → Unknown a i → ⊥
known a i e f u = clash (sym u ∙ both_known e f)

pub no_class : (a : List ℕ) (i : ℕ) → is_class (get_or a i 0) ≡ false → Unknown a i
no_class a i e = ap (λ (b : Bool). b && is_group (get_or a (i + 1) 0)) e

pub not_known : (a : List ℕ) (i : ℕ) {b d : Bool} → b ≡ is_class (get_or a i 0) → d ≡ is_group (get_or a (i + 1) 0) → b && d ≡ false → Unknown a i
not_known a i e f n = rw (e, f) at n

-- 1 to 19 bytes are left, or not
pub part_is : (at d : ℕ) → ltb at d && ltb d (at + 20) ≡ true → (at < d) × (d < at + 20)
part_is at d e = let w = and_true (ltb at d) (ltb d (at + 20)) e in (ltb-true at d w.0, ltb-true d (at + 20) w.1)

pub not_part : (at d : ℕ) → ltb at d && ltb d (at + 20) ≡ false → at < d → at + 20 ≤ d
not_part at d e h = ltb-false d (at + 20) (sym (ap (λ (b : Bool). b && ltb d (at + 20)) (lt-ltb at d h)) ∙ e)
