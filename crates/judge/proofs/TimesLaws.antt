-- Times that stand for sure: their milliseconds are such as every day has, or they are undefined, and as numbers of 48 bits, of which an
-- undefined time is the greatest, the first is not above the second. By the day and the millisecond of each. Assumes nothing.
use Rattle.std.proofs.Common.{◌≡◌, ℕ, ◌+◌, ◌*◌, ◌/◌, ◌%◌, ◌^◌, ◌<◌, ◌≤◌, Bool, true, false, cond, ◌||◌, ltb, ◌⊎◌, List, get_or, sym, refl, ap, ◌∙◌, inl, inr, arith, ltb-false, le-ltb, le-leb}
use native.Mathlib.Decide.{ℕ_discrete}
use Rattle.calendar.specs.Said.{answer}
use Rattle.meter.specs.Integer.{be_at}
use Rattle.meter.specs.Time.{last_milli, is_milli, is_time, time_of, time_at, compared}
use Rattle.std.specs.declared.option.Option.TheVariants.{Some, None}
use Rattle.std.specs.declared.cmp.Ordering.TheVariants.{Less, Equal, Greater}
use Rattle.std.specs.declared.option.Option.{Option}
use Rattle.meter.specs.declared.time.Time.{Time}
use Rattle.meter.specs.Instant as T
use Rattle.meter.proofs.TimeLaws.{bits_none, bits_some, every_day}
use Rattle.record.specs.Times.{is_after, timed_at}

abbrev pub bits : ℕ → ℕ → ℕ
bits day ms = day * 0x1_0000_0000 + ms

pub or_true : (a b : Bool) → (a || b) ≡ true → (a ≡ true) ⊎ (b ≡ true)
or_true true b e = inl refl
or_true false b e = inr e

-- ---- a time by itself
module _ (day ms next : ℕ) (e : next ≡ (ms + 1) % 2 ^ 32) (f : ms < 4294967296) where
  pub sure_milli : next ≤ 86400000 → (next ≡ 0 → ⊥) → is_time (time_of (bits day ms)) ≡ true
  sure_milli h n =
      let g : ms < 86400000 = omega (arith, n) in
      let q : bits day ms / 0x1_0000_0000 ≡ day = omega arith in
      let r : bits day ms % 0x1_0000_0000 ≡ ms = omega arith in
      ap is_time (bits_some (bits day ms) (λ z. omega arith)) ∙ ap (λ (k : ℕ). is_milli k (bits day ms % 0x1_0000_0000)) q ∙ ap (is_milli day) r ∙ le-leb ms (last_milli day) (omega (arith, every_day day))

  pub sure_ones : next ≡ 0 → day ≡ 65535 → is_time (time_of (bits day ms)) ≡ true
  sure_ones z d = ap is_time (bits_none (bits day ms) (omega arith))

  pub sure : next ≤ 86400000 → (next ≡ 0 → ⊥) ⊎ (day ≡ 65535) → is_time (time_of (bits day ms)) ≡ true
  sure h (inl n) = sure_milli h n
  sure h (inr d) = go (ℕ_discrete next 0)
    where
      go : Dec (next ≡ 0) → is_time (time_of (bits day ms)) ≡ true
      go (yes z) = sure_ones z d
      go (no n) = sure_milli h n

-- ---- the order of two times
module _ (x y : ℕ) where
  abbrev outcome : Bool → Bool → Bool → Bool → Bool
  outcome p q r t = is_after (answer (cond p Less (cond q Greater (cond r Less (cond t Greater Equal)))))

  early : (p q r t : Bool) → q ≡ false → (p ≡ false → t ≡ false) → outcome p q r t ≡ false
  early true q r t e f = refl
  early false q true t e f = rw e
  early false q false t e f = rw (e, f refl)

  abbrev high : ℕ → ℕ
  high b = b / 0x1_0000_0000

  abbrev low : ℕ → ℕ
  low b = b % 0x1_0000_0000

  both_some : (x ≡ 0xffff_ffff_ffff → ⊥) → (y ≡ 0xffff_ffff_ffff → ⊥) → is_time (time_of x) ≡ true → is_time (time_of y) ≡ true → is_after (compared (time_of x) (time_of y)) ≡ outcome (ltb (high x) (high y)) (ltb (high y) (high x)) (ltb (low x) (low y)) (ltb (low y) (low x))
  both_some n m p q =
      let e = bits_some x n in
      let f = bits_some y m in
      let i : is_milli (high x) (low x) ≡ true = sym (ap is_time e) ∙ p in
      let j : is_milli (high y) (low y) ≡ true = sym (ap is_time f) ∙ q in
      ap (λ (t : Option Time). is_after (compared t (time_of y))) e ∙ ap (λ (t : Option Time). is_after (compared (T.At (high x) (low x)) t)) f ∙ rw (i, j)

  none_first : x ≡ 0xffff_ffff_ffff → is_after (compared (time_of x) (time_of y)) ≡ false
  none_first e = ap (λ (t : Option Time). is_after (compared t (time_of y))) (bits_none x e)

  none_second : (t : Option Time) → is_after (compared t None) ≡ false
  none_second None = refl
  none_second (Some t) = refl

  not_after : is_time (time_of x) ≡ true → is_time (time_of y) ≡ true → (x ≤ y) ⊎ (x ≡ 0xffff_ffff_ffff) → is_after (compared (time_of x) (time_of y)) ≡ false
  not_after p q (inr e) = none_first e
  not_after p q (inl h) = go (ℕ_discrete x 0xffff_ffff_ffff) (ℕ_discrete y 0xffff_ffff_ffff)
    where
      go : Dec (x ≡ 0xffff_ffff_ffff) → Dec (y ≡ 0xffff_ffff_ffff) → is_after (compared (time_of x) (time_of y)) ≡ false
      go (yes e) d = none_first e
      go (no n) (yes e) = ap (λ (t : Option Time). is_after (compared (time_of x) t)) (bits_none y e) ∙ none_second (time_of x)
      go (no n) (no m) =
          both_some n m p q
          ∙ early (ltb (high x) (high y)) (ltb (high y) (high x)) (ltb (low x) (low y)) (ltb (low y) (low x)) (le-ltb (high y) (high x) (omega arith)) (λ e. le-ltb (low y) (low x) (let g = ltb-false (high x) (high y) e in omega arith))

-- ---- the header's bytes
-- six bytes are two and four
pub six : (a : List ℕ) (i j : ℕ) → j ≡ i + 2 → {d m : ℕ} → d ≡ be_at a i 2 → m ≡ be_at a j 4 → bits d m ≡ be_at a i 6
unfolding be_at
six a i j e d-is m-is =
    let f : (k m : ℕ) → j + k ≡ i + m → get_or a (j + k) 0 ≡ get_or a (i + m) 0 = λ k m h. ap (λ (n : ℕ). get_or a n 0) h in
    omega (arith, d-is, m-is, f 0 2 (omega arith), f 1 3 (omega arith), f 2 4 (omega arith), f 3 5 (omega arith))

pub both_stand : (a : List ℕ) (at : ℕ) {x y : ℕ} → x ≡ be_at a (at + 8) 6 → y ≡ be_at a (at + 14) 6 → is_time (time_of x) ≡ true → is_time (time_of y) ≡ true → (x ≤ y) ⊎ (x ≡ 0xffff_ffff_ffff) → timed_at a at ≡ true
unfolding timed_at
both_stand a at {x} {y} x-is y-is p q o =
    let u : is_time (time_at a (at + 8)) ≡ true = ap (λ (b : ℕ). is_time (time_of b)) (sym x-is) ∙ p in
    let v : is_time (time_at a (at + 14)) ≡ true = ap (λ (b : ℕ). is_time (time_of b)) (sym y-is) ∙ q in
    let w : is_after (compared (time_at a (at + 8)) (time_at a (at + 14))) ≡ false = ap (λ (b : ℕ). is_after (compared (time_of b) (time_at a (at + 14)))) (sym x-is) ∙ ap (λ (b : ℕ). is_after (compared (time_of x) (time_of b))) (sym y-is) ∙ not_after x y p q o in
    rw (u, v, w)
