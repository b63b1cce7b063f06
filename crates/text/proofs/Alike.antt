-- The value of a field is a matter of its bytes alone, wherever it stands: two fields with the same bytes are alike in every test, in their
-- number and in what the reader says. Each test looks at bytes of the field only. Assumes nothing.
use mathlib.Core.Path.{◌≡◌, refl, sym, ap, ◌∙◌}
use mathlib.Core.Bool.{Bool, true, false, cond, ◌&&◌, ◌||◌}
use mathlib.Core.List.{List}
use Prim.Native.Nat.{ℕ, zero, suc, ◌+◌, ◌-◌, ◌≤◌, ◌<◌}
use native.Mathlib.Decide.{dec_lt, ℕ_discrete}
use native.Mathlib.Omega.{arith}
use borrow.Author.Tests.{le-ltb, le-leb, ne_eqb}
use lib.Dec.{eqb}
use lib.IntN.{ℤ, pos, neg_ℤ}
use lib.ListN.{length, get_or}
use Rattle.meter.specs.General.{lead, within, run_of, number_of, is_none, is_digits, moment_at, is_general, digits_of, general_at, general_read_at}
use Rattle.meter.proofs.GeneralRuns.{run_below, number_cong}
use Rattle.meter.proofs.GeneralWrite.{width_low}
use Rattle.text.specs.Field.{is_x, spaces, before, is_number, integer_of, is_value, number_read_at}
use Rattle.text.specs.declared.Kind.{Kind}
use Rattle.text.specs.declared.Kind.TheVariants.{Text, Unsigned, Count, Signed, Time, LongTime}
use Rattle.text.proofs.Exact.{number_zeros}

-- the w bytes of a from p on are those of b from q on
pub record Alike (a b : List ℕ) (p q w : ℕ) : Type 0 where
  pub byte : (j : ℕ) → j < w → get_or a (p + j) 0 ≡ get_or b (q + j) 0

-- ---- runs
pub lead_cong : (p q : ℕ → Bool) (n : ℕ) → ((j : ℕ) → j < n → p j ≡ q j) → lead p n ≡ lead q n
unfolding lead
lead_cong p q zero f = refl
lead_cong p q (suc n) f =
    rw (f 0 (omega arith), lead_cong (λ (j : ℕ). p (suc j)) (λ (j : ℕ). q (suc j)) n (λ j l. f (suc j) (omega arith)))

sign_le : (c : Bool) → cond c 1 0 ≤ 1
sign_le true = omega arith
sign_le false = omega arith

no_value : (c : Bool) → ◌≡◌ {A = ℤ} (cond c (neg_ℤ (pos 0)) (pos 0)) (pos 0)
no_value true = refl
no_value false = refl

module _ {a b : List ℕ} {p q w : ℕ} (alike : Alike a b p q w) where
  -- a part of the field
  part : (i j : ℕ) → i + j < w → get_or a (p + i + j) 0 ≡ get_or b (q + i + j) 0
  part i j h =
      let e : p + i + j ≡ p + (i + j) = omega arith in
      let f : q + i + j ≡ q + (i + j) = omega arith in
      rw (e, f) (alike.byte (i + j) h)

  run_part : (lo hi i n : ℕ) → i + n ≤ w → run_of lo hi a (p + i) n ≡ run_of lo hi b (q + i) n
  unfolding run_of
  run_part lo hi i n h = lead_cong _ _ n (λ j l. ap (within lo hi) (part i j (omega arith)))

  pub run_alike : (lo hi n : ℕ) → n ≤ w → run_of lo hi a p n ≡ run_of lo hi b q n
  unfolding run_of
  run_alike lo hi n h = lead_cong _ _ n (λ j l. ap (within lo hi) (alike.byte j (omega arith)))

  -- ---- numbers
  pub number_alike : (n : ℕ) → n ≤ w → number_of a p n ≡ number_of b q n
  number_alike n h = number_cong a b p q n (λ j l. alike.byte j (omega arith))

  number_part : (i n : ℕ) → i + n ≤ w → number_of a (p + i) n ≡ number_of b (q + i) n
  number_part i n h = number_cong a b (p + i) (q + i) n (λ j l. part i j (omega arith))

  blank_alike : (signed : Bool) → Dec (spaces b q w < w) → is_number signed a p w ≡ is_number signed b q w
  unfolding is_number
  blank_alike signed (yes l) =
      let m = before signed b q w in
      let s = sign_le (signed && (eqb (get_or b (q + spaces b q w) 0) 43 || eqb (get_or b (q + spaces b q w) 0) 45)) in
      rw (run_alike 32 32 w (omega arith), alike.byte (spaces b q w) l, run_part 48 57 m (w - m) (omega arith))
  blank_alike signed (no l) = rw (run_alike 32 32 w (omega arith), le-ltb (spaces b q w) w (omega (arith, l)))

  pub is_number_alike : (signed : Bool) → is_number signed a p w ≡ is_number signed b q w
  is_number_alike signed = blank_alike signed (dec_lt (spaces b q w) w)

  pub x_alike : is_x a p w ≡ is_x b q w
  unfolding is_x
  x_alike = rw (run_alike 120 120 w (omega arith))

  minus_alike : Dec (spaces b q w < w) → integer_of a p w ≡ integer_of b q w
  minus_alike (yes l) = rw (run_alike 32 32 w (omega arith), number_alike w (omega arith), alike.byte (spaces b q w) l)
  minus_alike (no l) =
      let z : number_of b q w ≡ 0 = number_zeros b q w (λ j g. let x = run_below 32 32 b q w j (omega (arith, l)) in omega arith) in
      rw (number_alike w (omega arith), z) (no_value (eqb (get_or a (p + spaces a p w) 0) 45) ∙ sym (no_value (eqb (get_or b (q + spaces b q w) 0) 45)))

  pub integer_alike : integer_of a p w ≡ integer_of b q w
  integer_alike = minus_alike (dec_lt (spaces b q w) w)

  -- ---- times
  pub general_alike : (n : ℕ) → 14 ≤ n → n < w → is_general n a p ≡ is_general n b q
  unfolding is_none is_digits moment_at
  general_alike n g h =
      rw (
        run_alike 120 120 n (omega arith),
        run_alike 48 57 n (omega arith),
        alike.byte n h,
        number_alike 4 (omega arith),
        number_part 4 2 (omega arith),
        number_part 6 2 (omega arith),
        number_part 8 2 (omega arith),
        number_part 10 2 (omega arith),
        number_part 12 2 (omega arith),
        number_part 14 (n - 14) (omega arith),
      )

  moment_alike : (n : ℕ) → 14 ≤ n → n < w → general_at n a p ≡ general_at n b q
  unfolding is_none moment_at
  moment_alike n g h =
      rw (
        run_alike 120 120 n (omega arith),
        alike.byte n h,
        number_alike 4 (omega arith),
        number_part 4 2 (omega arith),
        number_part 6 2 (omega arith),
        number_part 8 2 (omega arith),
        number_part 10 2 (omega arith),
        number_part 12 2 (omega arith),
        number_part 14 (n - 14) (omega arith),
      )

  pub general_read_alike : (long : Bool) → digits_of long < w → p + (digits_of long + 1) ≤ length a → q + (digits_of long + 1) ≤ length b → general_read_at long a p ≡ general_read_at long b q
  general_read_alike long h l m =
      let n = digits_of long in
      rw (le-leb (p + (n + 1)) (length a) l, le-leb (q + (n + 1)) (length b) m, general_alike n (width_low long) h, moment_alike n (width_low long) h)

  time_alike : (n m : ℕ) → 14 ≤ n → m ≡ n + 1 → Dec (w ≡ m) → eqb w m && is_general n a p ≡ eqb w m && is_general n b q
  time_alike n m g e (yes f) = rw (general_alike n g (omega arith))
  time_alike n m g e (no d) = rw (ne_eqb w m d)

  -- THE VALUE is the same
  pub value_alike : (d : Kind) → is_value d a p w ≡ is_value d b q w
  unfolding is_value
  value_alike Text = rw (run_alike 32 126 w (omega arith))
  value_alike Unsigned = rw (is_number_alike false, x_alike)
  value_alike Count = is_number_alike false
  value_alike Signed = rw (is_number_alike true, x_alike)
  value_alike Time = time_alike 14 15 (omega arith) refl (ℕ_discrete w 15)
  value_alike LongTime = time_alike 17 18 (omega arith) refl (ℕ_discrete w 18)

  -- and so is what the reader says of it
  pub read_alike : (signed : Bool) → p + w ≤ length a → q + w ≤ length b → number_read_at signed w a p ≡ number_read_at signed w b q
  read_alike signed l m =
      rw (le-leb (p + w) (length a) l, le-leb (q + w) (length b) m, x_alike, is_number_alike signed, integer_alike)
