-- A NUMBER IN THE WRITERS' SPELLING IS WRITTEN BACK AS IT STOOD, and what the writer writes is in that spelling. By induction on the bytes that are left: a
-- digit, once, a minus, then spaces. Assumes nothing.
use mathlib.Core.Path.{◌≡◌, refl, sym, ap, ◌∙◌}
use mathlib.Core.Bool.{Bool, true, false, cond}
use mathlib.Core.Logic.{◌⊎◌, inl, inr, ⊎_elim}
use mathlib.Core.List.{List}
use Prim.Native.Nat.{ℕ, zero, suc, ◌+◌, ◌-◌, ◌*◌, ◌/◌, ◌%◌, ◌^◌, ◌≤◌, ◌<◌}
use native.Mathlib.Nat.{pow-suc}
use native.Mathlib.Decide.{dec_lt, ℕ_discrete}
use native.Mathlib.Omega.{arith}
use borrow.Author.Tests.{eq-eqb, ne_eqb, lt-ltb, ltb-true}
use lib.Dec.{eqb, ltb}
use lib.IntN.{ℤ, pos, negsuc, neg_ℤ, nat_abs}
use lib.ListN.{length, get_or, set, length-set}
use lib.Seq.{get_or-set_same}
use Rattle.meter.specs.General.{number_of}
use Rattle.meter.proofs.GeneralRuns.{and_true, number_join}
use Rattle.text.specs.Field.{spaces, integer_of}
use Rattle.text.specs.Grammar.{In, NumberIn}
use Rattle.text.specs.Writing.{below, spelled, mark, still, put_rest, put_whole}
use Rattle.text.proofs.Meaning.{spaces_are}
use Rattle.text.proofs.Exact.{number_small, number_zeros, in_small}
use Rattle.text.proofs.Back.{rest_after, whole_in}
use Rattle.text.proofs.Alike.{Alike, run_alike}
use Rattle.whole.specs.Spelled.{lead, Plain}

-- the byte that a turn stores stays
stays : (a : List ℕ) (n b : ℕ) (minus : Bool) (v : ℕ) → n < length a → get_or (put_rest (set a n b) n minus v) n 0 ≡ b
stays a n b minus v h = rest_after (set a n b) n minus v n (omega arith) ∙ get_or-set_same a n b 0 h

last_is : (a : List ℕ) (n : ℕ) (minus : Bool) (v : ℕ) → n < length a → get_or (put_rest a (suc n) minus v) n 0 ≡ mark minus v
unfolding put_rest
last_is a n minus v h = stays a n (mark minus v) (still minus v) (v / 10) h

pub number_next : (a : List ℕ) (i n : ℕ) → number_of a i (suc n) ≡ number_of a i n * 10 + (get_or a (i + n) 0 - 48)
unfolding number_of
number_next a i n = refl

pub nat_abs_is : (b : Bool) (n : ℕ) → nat_abs (cond b (neg_ℤ (pos n)) (pos n)) ≡ n
nat_abs_is true zero = refl
nat_abs_is true (suc n) = refl
nat_abs_is false n = refl

-- ---- A NUMBER THAT STANDS
module _ (signed : Bool) (a : List ℕ) (i w : ℕ) (g : NumberIn signed a i w) where
  abbrev Sign : Type 0
  Sign = (g.sign ≡ 0) ⊎ ((g.sign ≡ 1) × (signed ≡ true) × ((get_or a (i + g.spaces) 0 ≡ 43) ⊎ (get_or a (i + g.spaces) 0 ≡ 45)))

  -- what stands before the digits counts nothing
  front : (j : ℕ) → j < g.spaces + g.sign → get_or a (i + j) 0 ≤ 48
  front j h = go (dec_lt j g.spaces) g.either
    where
      go : Dec (j < g.spaces) → Sign → get_or a (i + j) 0 ≤ 48
      go (yes l) _ = omega (arith, g.blank j l)
      go (no l) (inl z) = absurd (omega (arith, l))
      go (no l) (inr (o, t, b)) =
          let e : g.spaces ≡ j = omega (arith, l) in
          rw (← e) (⊎_elim (λ f. omega arith) (λ f. omega arith) b)

  most : (j : ℕ) → j < w → get_or a (i + j) 0 ≤ 57
  most j h = go (dec_lt j (g.spaces + g.sign))
    where
      go : Dec (j < g.spaces + g.sign) → get_or a (i + j) 0 ≤ 57
      go (yes l) = omega (arith, front j l)
      go (no l) = (g.digits j (omega (arith, l)) h).1

  minus_signed : g.sign ≡ 1 → Sign → signed ≡ true
  minus_signed e (inl z) = absurd (omega arith)
  minus_signed e (inr (o, t, b)) = t

  -- with a sign, one byte less
  short : g.sign ≡ 1 → number_of a i w < 10 ^ (w - 1)
  short e =
      let q : 1 + (w - 1) ≡ w = omega (arith, g.some) in
      let z : number_of a i 1 ≡ 0 = number_zeros a i 1 (λ j h. front j (omega arith)) in
      let s = number_small a (i + 1) (w - 1) (λ j h. let c : i + (1 + j) ≡ i + 1 + j = omega arith in rw c at (most (1 + j) (omega arith))) in
      let n : number_of a i (1 + (w - 1)) < 10 ^ (w - 1) = rw (number_join a i 1 (w - 1), z) (omega arith) in
      rw q at n

  -- a minus stands where the sign does
  minus_is : Sign → get_or a (i + g.spaces) 0 ≡ 45 → g.sign ≡ 1
  minus_is (inl z) e = absurd (omega (arith, g.digits g.spaces (omega arith) (omega (arith, g.some))))
  minus_is (inr (o, t, b)) e = o

  -- ITS VALUE FITS THE FIELD
  pub spelled_of : spelled signed w (integer_of a i w) ≡ true
  spelled_of = rw (spaces_are signed a i w g) (go (ℕ_discrete (get_or a (i + g.spaces) 0) 45))
    where
      neg : (n : ℕ) → number_of a i w ≡ n → g.sign ≡ 1 → spelled signed w (neg_ℤ (pos n)) ≡ true
      neg zero e o = lt-ltb 0 (10 ^ w) (omega (arith, in_small signed a i w g))
      neg (suc n) e o = rw (minus_signed o g.either, lt-ltb 1 w (omega (arith, g.some)), lt-ltb (suc n) (10 ^ (w - 1)) (omega (arith, short o)))

      go : Dec (get_or a (i + g.spaces) 0 ≡ 45) → spelled signed w (cond (eqb (get_or a (i + g.spaces) 0) 45) (neg_ℤ (pos (number_of a i w))) (pos (number_of a i w))) ≡ true
      go (yes e) = rw (eq-eqb (get_or a (i + g.spaces) 0) 45 e) (neg (number_of a i w) refl (minus_is g.either e))
      go (no d) = rw (ne_eqb (get_or a (i + g.spaces) 0) 45 d) (lt-ltb (number_of a i w) (10 ^ w) (in_small signed a i w g))

  -- ---- IN THE WRITERS' SPELLING
  module _ (p : Plain a i w) where
    abbrev lead_is : ℕ
    lead_is = get_or a (i + g.spaces) 0

    no_plus : lead_is ≡ 43 → ⊥
    no_plus e = p.plus (rw (spaces_are signed a i w g) e)

    -- the sign is a minus
    sign_is : g.sign ≡ 1 → lead_is ≡ 45
    sign_is o = go g.either
      where
        go : Sign → lead_is ≡ 45
        go (inl z) = absurd (omega arith)
        go (inr (_, t, inl f)) = absurd (no_plus f)
        go (inr (_, t, inr f)) = f

    -- after a minus, and where more follow, the first digit is not 0
    after_minus : g.sign ≡ 1 → 49 ≤ get_or a (i + (g.spaces + g.sign)) 0
    after_minus o =
        let s = spaces_are signed a i w g in
        let d = g.digits (g.spaces + g.sign) (omega arith) (omega (arith, g.some)) in
        let e : i + (g.spaces + g.sign) ≡ i + suc g.spaces = omega arith in
        let n : get_or a (i + suc g.spaces) 0 ≡ 48 → ⊥ = λ q. p.minus (rw s (sign_is o)) (rw s q) in
        omega (arith, n, rw e at d, ap (λ (k : ℕ). get_or a k 0) e)

    first_digit : suc (g.spaces + g.sign) < w → 49 ≤ get_or a (i + (g.spaces + g.sign)) 0
    first_digit h = go g.either
      where
        go : Sign → 49 ≤ get_or a (i + (g.spaces + g.sign)) 0
        go (inl z) =
            let s = spaces_are signed a i w g in
            let d = g.digits (g.spaces + g.sign) (omega arith) (omega (arith, g.some)) in
            let e : i + (g.spaces + g.sign) ≡ i + g.spaces = omega arith in
            let n : get_or a (i + g.spaces) 0 ≡ 48 → ⊥ = λ q. omega (arith, rw s at (p.naught (rw s q))) in
            omega (arith, n, rw e at d, ap (λ (k : ℕ). get_or a k 0) e)
        go (inr (o, _, _)) = after_minus o

    -- so what has come of the digits is not 0
    not_none : 49 ≤ get_or a (i + (g.spaces + g.sign)) 0 → (n : ℕ) → g.spaces + g.sign < n → 1 ≤ number_of a i n
    unfolding number_of
    not_none f zero h = absurd (omega arith)
    not_none f (suc n) h = go (ℕ_discrete (g.spaces + g.sign) n) (not_none f n)
      where
        go : Dec (g.spaces + g.sign ≡ n) → (g.spaces + g.sign < n → 1 ≤ number_of a i n) → 1 ≤ number_of a i n * 10 + (get_or a (i + n) 0 - 48)
        go (yes e) r = let c = rw e at f in omega arith
        go (no d) r = omega (arith, r (omega (arith, d)))

    -- a minus is due among the first n bytes, or not
    abbrev Due : ℕ → Bool → Type 0
    Due n true = (g.sign ≡ 1) × (g.spaces < n)
    Due n false = (g.sign ≡ 0) ⊎ (n ≤ g.spaces)

    record Turn (n : ℕ) (minus : Bool) (v : ℕ) : Type 0 where
      byte : mark minus v ≡ get_or a (i + n) 0
      due : Due n (still minus v)
      rest : v / 10 ≡ number_of a i n

    sign_none : Sign → (n : ℕ) → g.spaces ≤ n → n < g.spaces + g.sign → (g.sign ≡ 1) × (n ≡ g.spaces)
    sign_none (inl z) n h l = absurd (omega arith)
    sign_none (inr (o, _, _)) n h l = (o, omega arith)

    turn : (n : ℕ) → suc n < w → (minus : Bool) → Due (suc n) minus → (v : ℕ) → v ≡ number_of a i (suc n) → Dec (n < g.spaces) → Dec (n < g.spaces + g.sign) → Turn n minus v
    unfolding number_of
    turn n h true d v e (yes l) _ = absurd (omega (arith, d.1))
    turn n h false d v e (yes l) _ =
        let z : v ≡ 0 = e ∙ number_zeros a i (suc n) (λ j u. front j (omega arith)) in
        let q = number_zeros a i n (λ j u. front j (omega arith)) in
        record { byte = rw (eq-eqb v 0 z) (sym (g.blank n l)); due = rw (eq-eqb v 0 z) (inr (omega arith)); rest = omega arith }
    turn n h true d v e (no l) (yes m) =
        let z : v ≡ 0 = e ∙ number_zeros a i (suc n) (λ j u. front j (omega arith)) in
        let q = number_zeros a i n (λ j u. front j (omega arith)) in
        let k = sign_none g.either n (omega (arith, l)) m in
        record { byte = rw (eq-eqb v 0 z, k.1) (sym (sign_is k.0)); due = rw (eq-eqb v 0 z) (inr (omega (arith, k.1))); rest = omega arith }
    turn n h false d v e (no l) (yes m) =
        let k = sign_none g.either n (omega (arith, l)) m in
        absurd (⊎_elim (λ z. omega arith) (λ z. omega (arith, k.1)) d)
    turn n h minus d v e (no l) (no m) =
        let f = first_digit (omega (arith, m)) in
        let c = g.digits n (omega (arith, m)) (omega arith) in
        let o : v ≡ 0 → ⊥ = λ z. omega (arith, not_none f (suc n) (omega (arith, m))) in
        record { byte = rw (ne_eqb v 0 o) (omega arith); due = rw (ne_eqb v 0 o) (go minus d); rest = omega arith }
      where
        go : (minus : Bool) → Due (suc n) minus → Due n minus
        go true (o, s) = (o, omega (arith, m))
        go false (inl z) = inl z
        go false (inr z) = absurd (omega (arith, l))

    rest_again : (r : List ℕ) (n : ℕ) → n < w → n ≤ length r → (minus : Bool) → Due n minus → (v : ℕ) → v ≡ number_of a i n → (j : ℕ) → j < n → get_or (put_rest r n minus v) j 0 ≡ get_or a (i + j) 0
    unfolding put_rest
    rest_again r zero h l minus d v e j u = absurd (omega arith)
    rest_again r (suc n) h l minus d v e j u =
        let t = turn n (omega arith) minus d v e (dec_lt n g.spaces) (dec_lt n (g.spaces + g.sign)) in
        go (ℕ_discrete n j) (stays r n (mark minus v) (still minus v) (v / 10) (omega arith) ∙ t.byte)
        (λ k. rest_again (set r n (mark minus v)) n (omega arith) (simp length-set (omega arith)) (still minus v) t.due (v / 10) t.rest j k)
      where
        go : Dec (n ≡ j) → get_or (put_rest (set r n (mark minus v)) n (still minus v) (v / 10)) n 0 ≡ get_or a (i + n) 0 → (j < n → get_or (put_rest (set r n (mark minus v)) n (still minus v) (v / 10)) j 0 ≡ get_or a (i + j) 0) → get_or (put_rest (set r n (mark minus v)) n (still minus v) (v / 10)) j 0 ≡ get_or a (i + j) 0
        go (yes q) x f = rw (← q) x
        go (no q) x f = f (omega (arith, q))

    value_due : Due (w - 1) (below (integer_of a i w))
    value_due = rw (spaces_are signed a i w g) (go (ℕ_discrete lead_is 45))
      where
        neg : (n : ℕ) → number_of a i w ≡ n → g.sign ≡ 1 → Due (w - 1) (below (neg_ℤ (pos n)))
        neg zero e o = absurd (omega (arith, not_none (after_minus o) w g.some))
        neg (suc n) e o = (o, omega (arith, g.some))

        plain : (lead_is ≡ 45 → ⊥) → Sign → Due (w - 1) false
        plain d (inl z) = inl z
        plain d (inr (o, _, _)) = absurd (d (sign_is o))

        go : Dec (lead_is ≡ 45) → Due (w - 1) (below (cond (eqb lead_is 45) (neg_ℤ (pos (number_of a i w))) (pos (number_of a i w))))
        go (yes e) = rw (eq-eqb lead_is 45 e) (neg (number_of a i w) refl (minus_is g.either e))
        go (no d) = rw (ne_eqb lead_is 45 d) (plain d g.either)

    -- THE LAW: it is written back as it stood
    pub whole_again : (r : List ℕ) → w ≤ length r → (j : ℕ) → j < w → get_or (put_whole r w (integer_of a i w)) j 0 ≡ get_or a (i + j) 0
    whole_again r h j u = go (numbered w refl) (ℕ_discrete (w - 1) j)
      where
        size : nat_abs (integer_of a i w) ≡ number_of a i w
        size = nat_abs_is (eqb (get_or a (i + spaces a i w) 0) 45) (number_of a i w)

        numbered : (n : ℕ) → n ≡ w → number_of a i w ≡ number_of a i (w - 1) * 10 + (get_or a (i + (w - 1)) 0 - 48)
        numbered zero e = absurd (omega (arith, g.some))
        numbered (suc n) e = let q : w - 1 ≡ n = omega arith in rw (q, ← e) (number_next a i n)

        go : number_of a i w ≡ number_of a i (w - 1) * 10 + (get_or a (i + (w - 1)) 0 - 48) → Dec (w - 1 ≡ j) → get_or (put_whole r w (integer_of a i w)) j 0 ≡ get_or a (i + j) 0
        go e (yes q) =
            let d = g.digits (w - 1) (omega (arith, g.some)) (omega (arith, g.some)) in
            rw (← q) (stays r (w - 1) (48 + nat_abs (integer_of a i w) % 10) (below (integer_of a i w)) (nat_abs (integer_of a i w) / 10) (omega (arith, g.some)) ∙ omega (arith, size))
        go e (no q) =
            let d = g.digits (w - 1) (omega (arith, g.some)) (omega (arith, g.some)) in
            rest_again (set r (w - 1) (48 + nat_abs (integer_of a i w) % 10)) (w - 1) (omega (arith, g.some)) (simp length-set (omega arith)) (below (integer_of a i w)) value_due (nat_abs (integer_of a i w) / 10) (omega (arith, size)) j (omega (arith, q))

-- ---- WHAT IS WRITTEN IS IN THE WRITERS' SPELLING
no_mark : (minus : Bool) (v : ℕ) → mark minus v ≡ 43 → ⊥
no_mark minus v e = go (ℕ_discrete v 0) minus e
  where
    go : Dec (v ≡ 0) → (minus : Bool) → mark minus v ≡ 43 → ⊥
    go (yes z) true e = omega (arith, rw (eq-eqb v 0 z) at e)
    go (yes z) false e = omega (arith, rw (eq-eqb v 0 z) at e)
    go (no d) minus e = omega (arith, rw (ne_eqb v 0 d) at e)

-- a mark that is 0 has more digits before it
more_left : (minus : Bool) (v : ℕ) → mark minus v ≡ 48 → v / 10 ≡ 0 → ⊥
more_left minus v e q = go (ℕ_discrete v 0) minus e
  where
    go : Dec (v ≡ 0) → (minus : Bool) → mark minus v ≡ 48 → ⊥
    go (yes z) true e = omega (arith, rw (eq-eqb v 0 z) at e)
    go (yes z) false e = omega (arith, rw (eq-eqb v 0 z) at e)
    go (no d) minus e = omega (arith, rw (ne_eqb v 0 d) at e)

mark_some : (minus : Bool) (v : ℕ) → (v ≡ 0 → ⊥) → In 48 57 (mark minus v)
mark_some minus v d = rw (ne_eqb v 0 d) (omega arith, omega arith)

no_plus_rest : (a : List ℕ) (n : ℕ) (minus : Bool) (v : ℕ) → n ≤ length a → (j : ℕ) → j < n → get_or (put_rest a n minus v) j 0 ≡ 43 → ⊥
unfolding put_rest
no_plus_rest a zero minus v h j l e = omega arith
no_plus_rest a (suc n) minus v h j l e =
    go (ℕ_discrete j n) (λ k. no_plus_rest (set a n (mark minus v)) n (still minus v) (v / 10) (simp length-set (omega arith)) j k e)
  where
    go : Dec (j ≡ n) → (j < n → ⊥) → ⊥
    go (yes q) _ = no_mark minus v (sym (stays a n (mark minus v) (still minus v) (v / 10) (omega arith)) ∙ rw q at e)
    go (no q) f = f (omega (arith, q))

-- the byte before the last one stored, where digits are left
digit_before : (a : List ℕ) (n : ℕ) (minus : Bool) (v : ℕ) → n ≤ length a → 0 < n → (v ≡ 0 → ⊥) → In 48 57 (get_or (put_rest a n minus v) (n - 1) 0)
digit_before a zero minus v h l d = absurd (omega arith)
digit_before a (suc n) minus v h l d = let e : suc n - 1 ≡ n = omega arith in rw (e, last_is a n minus v (omega arith)) (mark_some minus v d)

-- a 0 has a digit before it
zero_after : (a : List ℕ) (n : ℕ) (minus : Bool) (v : ℕ) → n ≤ length a → v < 10 ^ n → (j : ℕ) → j < n → get_or (put_rest a n minus v) j 0 ≡ 48 → (0 < j) × In 48 57 (get_or (put_rest a n minus v) (j - 1) 0)
unfolding put_rest
zero_after a zero minus v h s j l e = absurd (omega arith)
zero_after a (suc n) minus v h s j l e =
    go (ℕ_discrete j n) (λ k. zero_after (set a n (mark minus v)) n (still minus v) (v / 10) (simp length-set (omega arith)) (omega (arith, rw pow-suc at s)) j k e)
  where
    go : Dec (j ≡ n) → (j < n → (0 < j) × In 48 57 (get_or (put_rest (set a n (mark minus v)) n (still minus v) (v / 10)) (j - 1) 0)) → (0 < j) × In 48 57 (get_or (put_rest (set a n (mark minus v)) n (still minus v) (v / 10)) (j - 1) 0)
    go (yes q) _ =
        let m : mark minus v ≡ 48 = sym (stays a n (mark minus v) (still minus v) (v / 10) (omega arith)) ∙ rw q at e in
        let d = more_left minus v m in
        let some : 0 < n = big n s d in
        rw q (some, digit_before (set a n (mark minus v)) n (still minus v) (v / 10) (simp length-set (omega arith)) some d)
      where
        big : (n : ℕ) → v < 10 ^ suc n → (v / 10 ≡ 0 → ⊥) → 0 < n
        big zero s d = absurd (d (omega arith))
        big (suc n) s d = omega arith
    go (no q) f = f (omega (arith, q))

none_below : (z : ℤ) → nat_abs z ≡ 0 → below z ≡ false
none_below (pos n) e = refl
none_below (negsuc n) e = absurd (omega arith)

pow_more : (n : ℕ) → 10 ^ (n - 1) ≤ 10 ^ n
pow_more zero = omega arith
pow_more (suc n) = let e : suc n - 1 ≡ n = omega arith in rw (e, pow-suc 10 n) (omega arith)

abs_small : (signed : Bool) (w : ℕ) (z : ℤ) → spelled signed w z ≡ true → nat_abs z < 10 ^ w
abs_small signed w (pos n) e = ltb-true n (10 ^ w) e
abs_small signed w (negsuc n) e =
    let t = and_true (ltb 1 w) _ (and_true signed _ e).1 in
    omega (arith, ltb-true (suc n) (10 ^ (w - 1)) t.1, pow_more w)

tenth : (signed : Bool) (n : ℕ) (z : ℤ) → spelled signed (suc n) z ≡ true → nat_abs z / 10 < 10 ^ n
tenth signed n z s = omega (arith, abs_small signed (suc n) z s, pow-suc 10 n)

pub plain_alike : {a b : List ℕ} {i k w : ℕ} → Alike a b i k w → 0 < w → spaces b k w < w → (lead b k w ≡ 45 → suc (spaces b k w) < w) → Plain b k w → Plain a i w
plain_alike {a} {b} {i} {k} {w} same some h next p =
    let s : spaces a i w ≡ spaces b k w = run_alike same 32 32 w (omega arith) in
    let e : lead a i w ≡ lead b k w = rw s (same.byte (spaces b k w) h) in
    record {
      plus = λ q. p.plus (sym e ∙ q);
      minus = λ q c. p.minus (sym e ∙ q) (sym (same.byte (suc (spaces b k w)) (next (sym e ∙ q))) ∙ rw s at c);
      naught = λ q. rw s (p.naught (sym e ∙ q));
    }

module _ (signed : Bool) (n : ℕ) (a : List ℕ) (z : ℤ) (h : suc n ≤ length a) (s : spelled signed (suc n) z ≡ true) where
  abbrev form : NumberIn signed (put_whole a (suc n) z) 0 (suc n)
  form = whole_in signed n a z h s

  is_rest : put_whole a (suc n) z ≡ put_rest (set a n (48 + nat_abs z % 10)) n (below z) (nat_abs z / 10)
  is_rest = let e : suc n - 1 ≡ n = omega arith in rw e

  last_byte : get_or (put_whole a (suc n) z) n 0 ≡ 48 + nat_abs z % 10
  last_byte = rw is_rest (stays a n (48 + nat_abs z % 10) (below z) (nat_abs z / 10) (omega arith))

  -- before a last byte 0 no minus stands
  no_minus : 0 < n → get_or (put_whole a (suc n) z) n 0 ≡ 48 → get_or (put_whole a (suc n) z) (n - 1) 0 ≡ 45 → ⊥
  no_minus l e m = go (ℕ_discrete (nat_abs z / 10) 0)
    where
      before : (k : ℕ) → k ≡ n → get_or (put_rest (set a n (48 + nat_abs z % 10)) n (below z) (nat_abs z / 10)) (n - 1) 0 ≡ mark (below z) (nat_abs z / 10)
      before zero q = absurd (omega arith)
      before (suc k) q =
          let o : n - 1 ≡ k = omega arith in
          rw (o, ← q) (last_is (set a (suc k) (48 + nat_abs z % 10)) k (below z) (nat_abs z / 10) (simp length-set (omega arith)))

      is-mark : mark (below z) (nat_abs z / 10) ≡ 45
      is-mark = sym (before n refl) ∙ rw is_rest at m

      go : Dec (nat_abs z / 10 ≡ 0) → ⊥
      go (yes q) = omega (arith, rw (eq-eqb (nat_abs z / 10) 0 q, none_below z (omega (arith, last_byte))) at is-mark)
      go (no q) = omega (arith, is-mark, mark_some (below z) (nat_abs z / 10) q)

  at_spaces : spaces (put_whole a (suc n) z) 0 (suc n) ≡ form.spaces
  at_spaces = spaces_are signed (put_whole a (suc n) z) 0 (suc n) form

  zero_at : (j : ℕ) → j < n → get_or (put_whole a (suc n) z) j 0 ≡ 48 → (0 < j) × In 48 57 (get_or (put_whole a (suc n) z) (j - 1) 0)
  zero_at j l e = rw is_rest (zero_after (set a n (48 + nat_abs z % 10)) n (below z) (nat_abs z / 10) (simp length-set (omega arith)) (tenth signed n z s) j l (rw is_rest at e))

  plus_at : (j : ℕ) → j < suc n → get_or (put_whole a (suc n) z) j 0 ≡ 43 → ⊥
  plus_at j l e = go (ℕ_discrete j n)
    where
      go : Dec (j ≡ n) → ⊥
      go (yes q) = omega (arith, last_byte, rw q at e)
      go (no q) = no_plus_rest (set a n (48 + nat_abs z % 10)) n (below z) (nat_abs z / 10) (simp length-set (omega arith)) j (omega (arith, q)) (rw is_rest at e)

  -- a minus has a digit after it
  pub minus_next : lead (put_whole a (suc n) z) 0 (suc n) ≡ 45 → suc (spaces (put_whole a (suc n) z) 0 (suc n)) < suc n
  minus_next e = rw at_spaces (go (ℕ_discrete form.sign 0) (rw at_spaces at e))
    where
      go : Dec (form.sign ≡ 0) → get_or (put_whole a (suc n) z) (0 + form.spaces) 0 ≡ 45 → suc form.spaces < suc n
      go (yes o) e = absurd (omega (arith, form.digits form.spaces (omega arith) (omega (arith, form.some))))
      go (no o) e = omega (arith, o, form.some)

  pub whole_plain : Plain (put_whole a (suc n) z) 0 (suc n)
  whole_plain = record {
    plus = λ e. let q : 0 + spaces (put_whole a (suc n) z) 0 (suc n) ≡ form.spaces = omega (arith, at_spaces) in plus_at form.spaces (omega (arith, form.some)) (rw q at e);
    minus = λ e f. after-it e (ℕ_discrete (suc form.spaces) n) f;
    naught = λ e. rw at_spaces (zero-it (ℕ_discrete form.spaces n) (rw at_spaces at e));
  }
    where
      after-it : lead (put_whole a (suc n) z) 0 (suc n) ≡ 45 → Dec (suc form.spaces ≡ n) → get_or (put_whole a (suc n) z) (0 + suc (spaces (put_whole a (suc n) z) 0 (suc n))) 0 ≡ 48 → ⊥
      after-it e (yes q) f =
          let l = minus_next e in
          let c : 0 + spaces (put_whole a (suc n) z) 0 (suc n) ≡ n - 1 = omega (arith, at_spaces) in
          let d : 0 + suc (spaces (put_whole a (suc n) z) 0 (suc n)) ≡ n = omega (arith, at_spaces) in
          no_minus (omega arith) (rw d at f) (rw c at e)
      after-it e (no q) f =
          let l = minus_next e in
          let d : 0 + suc (spaces (put_whole a (suc n) z) 0 (suc n)) ≡ suc form.spaces = omega (arith, at_spaces) in
          let x = zero_at (suc form.spaces) (omega (arith, at_spaces, q)) (rw d at f) in
          let c : suc form.spaces - 1 ≡ form.spaces = omega arith in
          let k : 0 + spaces (put_whole a (suc n) z) 0 (suc n) ≡ form.spaces = omega (arith, at_spaces) in
          omega (arith, rw c at x.1, rw k at e)

      zero-it : Dec (form.spaces ≡ n) → get_or (put_whole a (suc n) z) (0 + form.spaces) 0 ≡ 48 → suc form.spaces ≡ suc n
      zero-it (yes q) e = ap suc q
      zero-it (no q) e =
          let k : 0 + form.spaces ≡ form.spaces = omega arith in
          let x = zero_at form.spaces (omega (arith, q, form.some)) (rw k at e) in
          let c : 0 + (form.spaces - 1) ≡ form.spaces - 1 = omega arith in
          absurd (omega (arith, x.1, rw c at (form.blank (form.spaces - 1) (omega (arith, x.0)))))
