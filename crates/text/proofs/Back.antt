-- WRITING READS BACK: what a writer writes is a value of the kind and reads back as what was written, a minus right before the digits too;
-- only the field's bytes change. By induction on the bytes that are left; a number with a minus fits one byte less. Assumes nothing.
use mathlib.Core.Path.{◌≡◌, refl, sym, ap, ◌∙◌}
use mathlib.Core.Bool.{Bool, true, false, ◌&&◌, ◌||◌, true≢false}
use mathlib.Core.Logic.{◌⊎◌, inl, inr}
use mathlib.Core.List.{List}
use Prim.Native.Nat.{ℕ, zero, suc, ◌+◌, ◌-◌, ◌/◌, ◌%◌, ◌^◌, ◌≤◌, ◌<◌}
use native.Mathlib.Nat.{pow-suc}
use native.Mathlib.Decide.{ℕ_discrete, dec_lt}
use native.Mathlib.Omega.{arith}
use borrow.Author.Tests.{eq-eqb, ne_eqb, le-leb, leb-true, ltb-true, eqb-true}
use lib.Dec.{eqb, leb, ltb}
use lib.IntN.{ℤ, pos, negsuc, nat_abs}
use lib.ListN.{length, get_or, set, take, drop, length-set, length-append, length-drop, get_or-append}
use lib.Seq.{get_or-set_same, get_or-set_other, get_or-append-add, get_or-drop, take_at}
use Rattle.calendar.specs.Said.{answer}
use Rattle.meter.specs.General.{number_of, put_x}
use Rattle.std.specs.declared.option.Option.TheVariants.{Some, None}
use Rattle.std.specs.declared.result.Result.TheVariants.{Ok}
use Rattle.std.specs.declared.option.Option.{Option}
use Rattle.std.specs.declared.result.Result.{Result}
use Rattle.calendar.specs.declared.Refusal.{Refusal}
use Rattle.calendar.specs.Said.{said}
use Rattle.meter.proofs.WriterLaws.{beyond, done}
use Rattle.meter.proofs.GeneralRuns.{and_true, each_in, in_each}
use Rattle.meter.proofs.GeneralWrite as Times
use Rattle.text.specs.Field.{is_text, is_x, is_number, integer_of, spaces, is_value, number_read_at}
use Rattle.text.specs.Grammar.{In, NumberIn}
use Rattle.text.specs.Writing.{below, spelled, fits_number, mark, still, put_rest, put_whole, put_number, fits_text, put_text, WritesNumber, WritesText}
use Rattle.text.specs.declared.Kind.{Kind}
use Rattle.text.specs.declared.Kind.TheVariants.{Text, Unsigned, Count, Signed}
use Rattle.text.proofs.Laws.{read_x, read_whole, fits_some, text_wide}
use Rattle.text.proofs.Meaning.{means_number, means_x, spaces_are}
use Rattle.text.proofs.Exact.{not_x}
use Rattle.text.proofs.Determined.{unique_read_number}

-- ---- only the first n bytes change
pub rest_length : (a : List ℕ) (n : ℕ) (minus : Bool) (v : ℕ) → length (put_rest a n minus v) ≡ length a
unfolding put_rest
rest_length a zero minus v = refl
rest_length a (suc n) minus v = rest_length (set a n (mark minus v)) n (still minus v) (v / 10) ∙ length-set a n (mark minus v)

pub rest_after : (a : List ℕ) (n : ℕ) (minus : Bool) (v j : ℕ) → n ≤ j → get_or (put_rest a n minus v) j 0 ≡ get_or a j 0
unfolding put_rest
rest_after a zero minus v j h = refl
rest_after a (suc n) minus v j h = rest_after (set a n (mark minus v)) n (still minus v) (v / 10) j (omega arith) ∙ get_or-set_other a n j (mark minus v) 0 (λ e. omega arith)

-- the byte that a turn stores stays
rest_last : (a : List ℕ) (n : ℕ) (b : ℕ) (minus : Bool) (v : ℕ) → n < length a → get_or (put_rest (set a n b) n minus v) n 0 ≡ b
rest_last a n b minus v h = rest_after (set a n b) n minus v n (omega arith) ∙ get_or-set_same a n b 0 h

pub number_length : (w : ℕ) (a : List ℕ) (x : Option ℤ) → length (put_number w a x) ≡ length a
number_length w a None = Times.x_length a w
number_length w a (Some z) =
    rest_length (set a (w - 1) (48 + nat_abs z % 10)) (w - 1) (below z) (nat_abs z / 10) ∙ length-set a (w - 1) (48 + nat_abs z % 10)

pub number_kept : (w : ℕ) (a : List ℕ) (x : Option ℤ) (j : ℕ) → 0 < w → w ≤ j → get_or (put_number w a x) j 0 ≡ get_or a j 0
number_kept w a None j s h = Times.x_after a w j h
number_kept w a (Some z) j s h =
    rest_after (set a (w - 1) (48 + nat_abs z % 10)) (w - 1) (below z) (nat_abs z / 10) j (omega arith)
    ∙ get_or-set_other a (w - 1) j (48 + nat_abs z % 10) 0 (λ e. omega arith)

-- ---- the mark before the digits that are left
mark_none : (v : ℕ) → v ≡ 0 → mark false v ≡ 32
mark_none v e = rw (eq-eqb v 0 e)

mark_minus : (v : ℕ) → v ≡ 0 → mark true v ≡ 45
mark_minus v e = rw (eq-eqb v 0 e)

mark_some : (minus : Bool) (v : ℕ) → (v ≡ 0 → ⊥) → mark minus v ≡ 48 + v % 10
mark_some minus v d = rw (ne_eqb v 0 d)

still_none : (minus : Bool) (v : ℕ) → v ≡ 0 → still minus v ≡ false
still_none minus v e = rw (eq-eqb v 0 e)

still_some : (minus : Bool) (v : ℕ) → (v ≡ 0 → ⊥) → still minus v ≡ minus
still_some minus v d = rw (ne_eqb v 0 d)

mark_digit : (minus : Bool) (v : ℕ) → Dec (v ≡ 0) → mark minus v - 48 ≡ v % 10
mark_digit true v (yes e) = omega (arith, mark_minus v e)
mark_digit false v (yes e) = omega (arith, mark_none v e)
mark_digit minus v (no d) = omega (arith, mark_some minus v d)

-- ---- THE NUMBER READS BACK
rest_back : (a : List ℕ) (n : ℕ) (minus : Bool) (v : ℕ) → n ≤ length a → v < 10 ^ n → number_of (put_rest a n minus v) 0 n ≡ v
unfolding number_of put_rest
rest_back a zero minus v h l = omega arith
rest_back a (suc n) minus v h l =
    let z : 0 + n ≡ n = omega arith in
    let t = set a n (mark minus v) in
    let low = rest_last a n (mark minus v) (still minus v) (v / 10) (omega arith) in
    let high = rest_back t n (still minus v) (v / 10) (simp length-set (omega arith)) (omega (arith, rw pow-suc at l)) in
    rw (z, high, low, mark_digit minus v (ℕ_discrete v 0)) (omega arith)

-- ---- ITS FORM: spaces, a minus where one is due, and digits
pub record Front (minus : Bool) (b : List ℕ) (n : ℕ) : Type 0 where
  pub spaces : ℕ
  pub sign : ℕ
  pub fits : spaces + sign ≤ n
  pub blank : (j : ℕ) → j < spaces → get_or b j 0 ≡ 32
  pub either : ((minus ≡ false) × (sign ≡ 0)) ⊎ ((minus ≡ true) × (sign ≡ 1) × (get_or b spaces 0 ≡ 45))
  pub digits : (j : ℕ) → spaces + sign ≤ j → j < n → In 48 57 (get_or b j 0)

last_digit : (minus : Bool) (b : List ℕ) (n : ℕ) (f : Front minus b n) → In 48 57 (get_or b n 0) → (j : ℕ) → f.spaces + f.sign ≤ j → j < suc n → Dec (j < n) → In 48 57 (get_or b j 0)
last_digit minus b n f d j l h (yes k) = f.digits j l k
last_digit minus b n f d j l h (no k) = let e : n ≡ j = omega (arith, k) in rw e at d

one_more : {minus : Bool} {b : List ℕ} {n : ℕ} → Front minus b n → In 48 57 (get_or b n 0) → Front minus b (suc n)
one_more {minus} {b} {n} f d =
    record { spaces = f.spaces; sign = f.sign; fits = omega (arith, f.fits); blank = f.blank; either = f.either; digits = λ j l h. last_digit minus b n f d j l h (dec_lt j n) }

last_blank : (b : List ℕ) (n j : ℕ) → get_or b n 0 ≡ 32 → ((j : ℕ) → j < n → get_or b j 0 ≡ 32) → j < suc n → Dec (j < n) → get_or b j 0 ≡ 32
last_blank b n j e f h (yes k) = f j k
last_blank b n j e f h (no k) = let q : n ≡ j = omega (arith, k) in rw q at e

-- where nothing is left, spaces
blanks : (a : List ℕ) (n : ℕ) (minus : Bool) (v : ℕ) → minus ≡ false → v ≡ 0 → n ≤ length a → (j : ℕ) → j < n → get_or (put_rest a n minus v) j 0 ≡ 32
unfolding put_rest
blanks a zero minus v m z h j l = absurd (omega arith)
blanks a (suc n) minus v m z h j l =
    let t = set a n (mark minus v) in
    let e : mark minus v ≡ 32 = ap (λ (b : Bool). mark b v) m ∙ mark_none v z in
    last_blank (put_rest t n (still minus v) (v / 10)) n j (rest_last a n (mark minus v) (still minus v) (v / 10) (omega arith) ∙ e)
    (blanks t n (still minus v) (v / 10) (still_none minus v z) (omega arith) (simp length-set (omega arith))) l (dec_lt j n)

-- v and a minus where one is due fit n bytes
abbrev Room : Bool → ℕ → ℕ → Type 0
Room false n v = v < 10 ^ n
Room true n v = (0 < n) × (v < 10 ^ (n - 1))

less_room : (minus : Bool) (n v : ℕ) → Room minus (suc n) v → (v ≡ 0 → ⊥) → Room minus n (v / 10)
less_room false n v r d = omega (arith, rw pow-suc at r)
less_room true zero v r d = absurd (omega (arith, d, r.1))
less_room true (suc m) v r d =
    let e : suc (suc m) - 1 ≡ suc m = omega arith in
    let f : suc m - 1 ≡ m = omega arith in
    (omega arith, rw f (omega (arith, rw (e, pow-suc) at r.1)))

turn : (a : List ℕ) (n : ℕ) (minus : Bool) (v : ℕ) → suc n ≤ length a → Dec (v ≡ 0) → ((v ≡ 0 → ⊥) → Front minus (put_rest (set a n (48 + v % 10)) n minus (v / 10)) n) → Front minus (put_rest a (suc n) minus v) (suc n)
unfolding put_rest
turn a n minus v h (no d) f =
    let e = rest_last a n (48 + v % 10) minus (v / 10) (omega arith) in
    rw (ne_eqb v 0 d) (one_more (f d) (omega arith, omega arith))
turn a n false v h (yes z) f =
    record { spaces = suc n; sign = 0; fits = omega arith; blank = blanks a (suc n) false v refl z h; either = inl (refl, refl); digits = λ j l g. absurd (omega arith) }
turn a n true v h (yes z) f =
    record {
      spaces = n;
      sign = 1;
      fits = omega arith;
      blank = blanks (set a n (mark true v)) n (still true v) (v / 10) (still_none true v z) (omega arith) (simp length-set (omega arith));
      either = inr (refl, refl, rest_last a n (mark true v) (still true v) (v / 10) (omega arith) ∙ mark_minus v z);
      digits = λ j l g. absurd (omega arith);
    }

front : (a : List ℕ) (n : ℕ) (minus : Bool) (v : ℕ) → n ≤ length a → Room minus n v → Front minus (put_rest a n minus v) n
front a zero true v h r = absurd (omega (arith, r.0))
front a zero false v h r =
    record { spaces = 0; sign = 0; fits = omega arith; blank = λ j l. absurd (omega arith); either = inl (refl, refl); digits = λ j l g. absurd (omega arith) }
front a (suc n) minus v h r =
    turn a n minus v h (ℕ_discrete v 0) (λ d. front (set a n (48 + v % 10)) n minus (v / 10) (simp length-set (omega arith)) (less_room minus n v r d))

-- ---- a whole number
room_of : (signed : Bool) (n : ℕ) (z : ℤ) → spelled signed (suc n) z ≡ true → Room (below z) n (nat_abs z / 10)
room_of signed n (pos k) e = omega (arith, rw pow-suc at (ltb-true k (10 ^ suc n) e))
room_of signed n (negsuc k) e =
    let t = and_true (ltb 1 (suc n)) _ (and_true signed _ e).1 in
    less_room true n (suc k) (omega arith, ltb-true (suc k) (10 ^ (suc n - 1)) t.1) (λ q. omega arith)

size_fits : (signed : Bool) (n : ℕ) (z : ℤ) → spelled signed (suc n) z ≡ true → nat_abs z / 10 < 10 ^ n
size_fits signed n (pos k) e = room_of signed n (pos k) e
size_fits signed n (negsuc k) e =
    let q : suc n - 1 ≡ n = omega arith in
    let t = and_true (ltb 1 (suc n)) _ (and_true signed _ e).1 in
    omega (arith, rw q at (ltb-true (suc k) (10 ^ (suc n - 1)) t.1))

minus_signed : (signed : Bool) (w : ℕ) (z : ℤ) → spelled signed w z ≡ true → below z ≡ true → signed ≡ true
minus_signed signed w (pos k) e b = absurd (true≢false (sym b))
minus_signed signed w (negsuc k) e b = (and_true signed _ e).0

module _ (signed minus : Bool) (b : List ℕ) (n : ℕ) (f : Front minus b n) (d : In 48 57 (get_or b n 0)) where
  either_sign : (minus ≡ true → signed ≡ true) → ((minus ≡ false) × (f.sign ≡ 0)) ⊎ ((minus ≡ true) × (f.sign ≡ 1) × (get_or b f.spaces 0 ≡ 45)) → (f.sign ≡ 0) ⊎ ((f.sign ≡ 1) × (signed ≡ true) × ((get_or b (0 + f.spaces) 0 ≡ 43) ⊎ (get_or b (0 + f.spaces) 0 ≡ 45)))
  either_sign g (inl (m, s)) = inl s
  either_sign g (inr (m, s, e)) = let z : 0 + f.spaces ≡ f.spaces = omega arith in inr (s, g m, inr (rw z e))

  front_number : (minus ≡ true → signed ≡ true) → NumberIn signed b 0 (suc n)
  front_number g =
      record {
        spaces = f.spaces;
        sign = f.sign;
        some = omega (arith, f.fits);
        blank = λ j h. let z : 0 + j ≡ j = omega arith in rw z (f.blank j h);
        either = either_sign g f.either;
        digits = λ j l h. let z : 0 + j ≡ j = omega arith in rw z (last_digit minus b n f d j l h (dec_lt j n));
      }

  minus_byte : ((minus ≡ false) × (f.sign ≡ 0)) ⊎ ((minus ≡ true) × (f.sign ≡ 1) × (get_or b f.spaces 0 ≡ 45)) → eqb (get_or b (0 + f.spaces) 0) 45 ≡ minus
  minus_byte (inl (m, s)) =
      let z : 0 + f.spaces ≡ f.spaces = omega arith in
      let x = last_digit minus b n f d f.spaces (omega arith) (omega (arith, f.fits)) (dec_lt f.spaces n) in
      rw z (ne_eqb (get_or b f.spaces 0) 45 (λ q. omega arith) ∙ sym m)
  minus_byte (inr (m, s, e)) = let z : 0 + f.spaces ≡ f.spaces = omega arith in rw z (eq-eqb (get_or b f.spaces 0) 45 e ∙ sym m)

value_is : (b : List ℕ) (w : ℕ) (z : ℤ) → number_of b 0 w ≡ nat_abs z → eqb (get_or b (0 + spaces b 0 w) 0) 45 ≡ below z → integer_of b 0 w ≡ z
value_is b w (pos k) e m = rw (m, e)
value_is b w (negsuc k) e m = rw (m, e)

module _ (signed : Bool) (n : ℕ) (a : List ℕ) (z : ℤ) (h : suc n ≤ length a) (s : spelled signed (suc n) z ≡ true) where
  put_is : put_whole a (suc n) z ≡ put_rest (set a n (48 + nat_abs z % 10)) n (below z) (nat_abs z / 10)
  put_is = let e : suc n - 1 ≡ n = omega arith in rw e

  whole_last : get_or (put_whole a (suc n) z) n 0 ≡ 48 + nat_abs z % 10
  whole_last = rw put_is (rest_last a n (48 + nat_abs z % 10) (below z) (nat_abs z / 10) (omega arith))

  whole_digit : In 48 57 (get_or (put_whole a (suc n) z) n 0)
  whole_digit = let e = whole_last in (omega arith, omega arith)

  whole_front : Front (below z) (put_whole a (suc n) z) n
  whole_front = rw put_is (front (set a n (48 + nat_abs z % 10)) n (below z) (nat_abs z / 10) (simp length-set (omega arith)) (room_of signed n z s))

  pub whole_in : NumberIn signed (put_whole a (suc n) z) 0 (suc n)
  whole_in = front_number signed (below z) (put_whole a (suc n) z) n whole_front whole_digit (minus_signed signed (suc n) z s)

  whole_size : number_of (put_whole a (suc n) z) 0 (suc n) ≡ nat_abs z
  unfolding number_of
  whole_size =
      let q : 0 + n ≡ n = omega arith in
      let high : number_of (put_whole a (suc n) z) 0 n ≡ nat_abs z / 10 = rw put_is (rest_back (set a n (48 + nat_abs z % 10)) n (below z) (nat_abs z / 10) (simp length-set (omega arith)) (size_fits signed n z s)) in
      rw (q, high, whole_last) (omega arith)

  pub whole_value : integer_of (put_whole a (suc n) z) 0 (suc n) ≡ z
  unfolding whole_in front_number
  whole_value =
      let b = put_whole a (suc n) z in
      let e : spaces b 0 (suc n) ≡ whole_front.spaces = spaces_are signed b 0 (suc n) whole_in in
      value_is b (suc n) z whole_size (ap (λ (k : ℕ). eqb (get_or b (0 + k) 0) 45) e ∙ minus_byte signed (below z) b n whole_front whole_digit whole_front.either)

-- ---- numbers, of any width and either spelling
-- the kind of a field that may be undefined
abbrev pub numeric : Bool → Kind
numeric true = Signed
numeric false = Unsigned

number_of_kind : (signed : Bool) (a : List ℕ) (i w : ℕ) → is_number signed a i w || is_x a i w ≡ true → is_value (numeric signed) a i w ≡ true
unfolding is_value
number_of_kind true a i w e = e
number_of_kind false a i w e = e

either_true : (x y : Bool) → (x ≡ true) ⊎ (y ≡ true) → x || y ≡ true
either_true x y (inl e) = rw e
either_true true y (inr e) = refl
either_true false y (inr e) = e

x_written : (w : ℕ) (a : List ℕ) → 0 < w → w ≤ length a → is_x (put_x a w) 0 w ≡ true
x_written w a s h =
    means_x (put_x a w) 0 w (s, λ j l. let z : 0 + j ≡ j = omega arith in let e = Times.x_are a w h j l in rw z (omega arith, omega arith))

number_written : (signed : Bool) (w : ℕ) (a : List ℕ) (z : ℤ) → 0 < w → w ≤ length a → spelled signed w z ≡ true → (is_number signed (put_whole a w z) 0 w ≡ true) × (integer_of (put_whole a w z) 0 w ≡ z)
number_written signed zero a z s h f = absurd (omega arith)
number_written signed (suc n) a z s h f = (means_number signed (put_whole a (suc n) z) 0 (suc n) (whole_in signed n a z h f), whole_value signed n a z h f)

written_inside : (w : ℕ) (a : List ℕ) (x : Option ℤ) → w ≤ length a → leb (0 + w) (length (put_number w a x)) ≡ true
written_inside w a x h = le-leb (0 + w) (length (put_number w a x)) (omega (arith, number_length w a x))

-- WHAT IS WRITTEN READS BACK
pub number_back : (signed : Bool) (w : ℕ) (a : List ℕ) (x : Option ℤ) → fits_number signed w x ≡ true → w ≤ length a → number_read_at signed w (put_number w a x) 0 ≡ answer x
number_back signed w a None f h =
    let t = and_true (ltb 0 w) _ f in
    sym (read_x signed (put_x a w) 0 w (written_inside w a None h) (leb-true w 17 t.1) (x_written w a (ltb-true 0 w t.0) h))
number_back signed w a (Some z) f h =
    let u = and_true (ltb 0 w && leb w 17) _ f in
    let t = and_true (ltb 0 w) _ u.0 in
    let k = number_written signed w a z (ltb-true 0 w t.0) h u.1 in
    let b = put_whole a w z in
    sym (read_whole signed b 0 w (written_inside w a (Some z) h) (leb-true w 17 t.1) (not_x signed b 0 w k.0) k.0 z (sym k.1))

-- WHAT IS WRITTEN IS A VALUE of the kind, and of a size or a total unless it is undefined
pub number_valued : (signed : Bool) (w : ℕ) (a : List ℕ) (x : Option ℤ) → fits_number signed w x ≡ true → w ≤ length a → is_value (numeric signed) (put_number w a x) 0 w ≡ true
number_valued signed w a None f h =
    number_of_kind signed (put_x a w) 0 w (either_true (is_number signed (put_x a w) 0 w) (is_x (put_x a w) 0 w) (inr (x_written w a (fits_some signed w None f) h)))
number_valued signed w a (Some z) f h =
    let u = and_true (ltb 0 w && leb w 17) _ f in
    let b = put_whole a w z in
    number_of_kind signed b 0 w (either_true (is_number signed b 0 w) (is_x b 0 w) (inl (number_written signed w a z (fits_some signed w (Some z) f) h u.1).0))

pub count_valued : (w : ℕ) (a : List ℕ) (z : ℤ) → fits_number false w (Some z) ≡ true → w ≤ length a → is_value Count (put_number w a (Some z)) 0 w ≡ true
unfolding is_value
count_valued w a z f h =
    let u = and_true (ltb 0 w && leb w 17) _ f in
    (number_written false w a z (fits_some false w (Some z) f) h u.1).0

-- ---- texts
pub text_length : (a t : List ℕ) → length t ≤ length a → length (put_text a t) ≡ length a
text_length a t h = simp (length-append, length-drop) (omega arith)

pub text_kept : (a t : List ℕ) (j : ℕ) → length t ≤ j → get_or (put_text a t) j 0 ≡ get_or a j 0
text_kept a t j h =
    let e : length t + (j - length t) ≡ j = omega arith in
    rw (e) at (get_or-append-add t (drop (length t) a) (j - length t) 0 ∙ get_or-drop (length t) a (j - length t) 0)

-- THE TEXT STANDS AT THE START, and is a text
pub text_back : (w : ℕ) (a t : List ℕ) → fits_text w t ≡ true → (take w (put_text a t) ≡ t) × (is_text (put_text a t) 0 w ≡ true)
text_back w a t f =
    let u = and_true (eqb (length t) w) _ f in
    let e = eqb-true (length t) w u.0 in (
      take_at t (drop (length t) a) w e,
      in_each 32 126 (put_text a t) 0 w (λ j l. rw (get_or-append t (drop (length t) a) 0 (0 + j) (omega arith)) (each_in 32 126 t 0 w u.1 j l)),
    )

pub text_valued : (w : ℕ) (a t : List ℕ) → fits_text w t ≡ true → is_value Text (put_text a t) 0 w ≡ true
unfolding is_value
text_valued w a t f = (text_back w a t f).1

-- ---- THE WRITERS, by their promises: what lies beyond is kept, whatever is answered
module _ (room exit : List ℕ) (r : Result ℕ Refusal) (w j : ℕ) (h : w ≤ j) where
  pub write_number_keeps : (signed : Bool) (x : Option ℤ) → WritesNumber room w signed x r exit → get_or exit j 0 ≡ get_or room j 0
  write_number_keeps signed x p = beyond room w (fits_number signed w x) (put_number w room x) exit j p.1 (λ f _. number_kept w room x j (fits_some signed w x f) h)

  pub write_text_keeps : (t : List ℕ) → WritesText room w t r exit → get_or exit j 0 ≡ get_or room j 0
  write_text_keeps t p = beyond room w (fits_text w t) (put_text room t) exit j p.1 (λ f _. text_kept room t j (omega (arith, text_wide w t f)))

-- and where bytes are answered, what was written reads back
module _ (room exit : List ℕ) (m w : ℕ) where
  pub write_number_back : (signed : Bool) (x : Option ℤ) → WritesNumber room w signed x (Ok m) exit → (r : Result (Option ℤ) Refusal) → said r ≡ number_read_at signed w exit 0 → r ≡ Ok x
  write_number_back signed x p r e =
      let d = done room w (fits_number signed w x) (put_number w room x) exit 21 m p.0 p.1 in
      unique_read_number signed w exit 0 r (Ok x) e (rw d.left (sym (number_back signed w room x d.fits d.room_is)))

  pub write_text_back : (t : List ℕ) → WritesText room w t (Ok m) exit → take w exit ≡ t
  write_text_back t p =
      let d = done room w (fits_text w t) (put_text room t) exit 21 m p.0 p.1 in
      rw d.left (text_back w room t d.fits).0
