-- The laws of written lines: which values fit a field, by its kind; the name and the frame of a line byte by byte; and where the value
-- stands. By cases on the kind, and by induction on the name's bytes. Assumes nothing.
use mathlib.Core.Path.{◌≡◌, refl, sym, ap, ◌∙◌}
use mathlib.Core.Bool.{Bool, true, false, cond, ◌&&◌, true≢false}
use mathlib.Core.List.{List, [], ◌++◌, append-nil}
use Prim.Native.Nat.{ℕ, zero, suc, ◌+◌, ◌-◌, ◌*◌, ◌≤◌, ◌<◌}
use native.Mathlib.Decide.{ℕ_discrete, dec_lt}
use native.Mathlib.Omega.{arith}
use borrow.Author.Tests.{le-leb, lt-leb, leb-true, eq-eqb, ne_eqb, eqb-true}
use borrow.Rule.Slice.PartMut.{mid_of, post_of, put_mid, Post-is}
use lib.Dec.{T, leb, ltb, eqb, eqb→eq}
use lib.IntN.{pos, negsuc}
use lib.ListN.{length, get_or, set, take, drop, length-set, length-drop, length-append, get_or-append}
use lib.Seq.{get_or-set_same, get_or-set_other, get_or-append-add, get_or-drop, ext_get_or, take_all, drop-length}
use Rattle.calendar.specs.Said.{answer, refusal, refused}
use Rattle.calendar.specs.declared.Refusal.{Refusal}
use Rattle.calendar.proofs.Range.{below, at}
use Rattle.meter.specs.Lent.{wrote}
use Rattle.std.specs.declared.option.Option.TheVariants.{Some, None}
use Rattle.std.specs.declared.result.Result.TheVariants.{Ok, Err}
use Rattle.std.specs.declared.option.Option.{Option}
use Rattle.std.specs.declared.result.Result.{Result}
use Rattle.std.specs.Prelude.{ℤ}
use Rattle.meter.specs.declared.general.Moment.{Moment}
use Rattle.calendar.specs.Said.{said}
use Rattle.meter.proofs.GeneralRuns.{and_true}
use Rattle.meter.proofs.WriterLaws.{Done, done}
use Rattle.meter.specs.General.{digits_of, fits_general}
use Rattle.text.specs.Writing.{fits_text, fits_number}
use Rattle.text.specs.declared.Kind.TheVariants.{Text, Unsigned, Count, Signed, Time, LongTime}
use Rattle.text.specs.declared.Kind.{Kind}
use Rattle.mphr.specs.Layout.{fields, widths, kinds, code_of, kind_from, names, name_of, width_of, kind_of}
use Rattle.mphr.proofs.LayoutLaws.{kind_back}
use Rattle.mphr.proofs.NameLaws.{byte_in, most}
use Rattle.mphr.specs.Lines.{text_fits, count_fits, number_fits, time_fits, is_long, text_on, number_on, time_on, put_name, put_frame, put_line, writes_line, BeginsLine, WritesLine}

-- ---- what fits, by the number of the kind
text_by : (d : Kind) (w : ℕ) (t : List ℕ) → text_fits d w t ≡ eqb (code_of d) 0 && fits_text w t
unfolding text_fits
text_by Text w t = refl
text_by Unsigned w t = refl
text_by Count w t = refl
text_by Signed w t = refl
text_by Time w t = refl
text_by LongTime w t = refl

number_by : (d : Kind) (w : ℕ) (x : Option ℤ) → number_fits d w x ≡ cond (eqb (code_of d) 1) (fits_number false w x) (cond (eqb (code_of d) 2) (count_fits w x) (cond (eqb (code_of d) 3) (fits_number true w x) false))
unfolding number_fits
number_by Text w x = refl
number_by Unsigned w x = refl
number_by Count w x = refl
number_by Signed w x = refl
number_by Time w x = refl
number_by LongTime w x = refl

time_by : (d : Kind) (t : Option Moment) → time_fits d t ≡ leb 4 (code_of d) && fits_general (is_long d) t
unfolding time_fits is_long
time_by Text t = refl
time_by Unsigned t = refl
time_by Count t = refl
time_by Signed t = refl
time_by Time t = refl
time_by LongTime t = refl

-- ---- the name
pub name_step : (a : List ℕ) (k i : ℕ) → 0 < i → put_name a k i ≡ put_name (set a (i - 1) (get_or names (30 * k + (i - 1)) 0)) k (i - 1)
unfolding put_name
name_step a k zero h = absurd (omega arith)
name_step a k (suc n) h = let e : suc n - 1 ≡ n = omega arith in rw e

pub name_none : (a : List ℕ) (k i : ℕ) → i ≡ 0 → put_name a k i ≡ a
unfolding put_name
name_none a k zero e = refl
name_none a k (suc n) e = absurd (omega arith)

pub name_length : (a : List ℕ) (k n : ℕ) → length (put_name a k n) ≡ length a
unfolding put_name
name_length a k zero = refl
name_length a k (suc n) = name_length (set a n (get_or names (30 * k + n) 0)) k n ∙ length-set a n (get_or names (30 * k + n) 0)

pub name_kept : (a : List ℕ) (k n j : ℕ) → n ≤ j → get_or (put_name a k n) j 0 ≡ get_or a j 0
unfolding put_name
name_kept a k zero j h = refl
name_kept a k (suc n) j h =
    name_kept (set a n (get_or names (30 * k + n) 0)) k n j (omega arith) ∙ get_or-set_other a n j (get_or names (30 * k + n) 0) 0 (λ e. omega arith)

pub name_bytes : (a : List ℕ) (k n j : ℕ) → n ≤ length a → j < n → get_or (put_name a k n) j 0 ≡ get_or names (30 * k + j) 0
unfolding put_name
name_bytes a k zero j r h = absurd (omega arith)
name_bytes a k (suc n) j r h =
    go (ℕ_discrete j n) (name_bytes (set a n (get_or names (30 * k + n) 0)) k n j (simp length-set (omega arith)))
  where
    go : Dec (j ≡ n) → (j < n → get_or (put_name (set a n (get_or names (30 * k + n) 0)) k n) j 0 ≡ get_or names (30 * k + j) 0) → get_or (put_name (set a n (get_or names (30 * k + n) 0)) k n) j 0 ≡ get_or names (30 * k + j) 0
    go (yes e) f = rw (name_kept (set a n (get_or names (30 * k + n) 0)) k n j (omega arith), e, get_or-set_same a n (get_or names (30 * k + n) 0) 0 (omega arith))
    go (no d) f = f (omega (arith, d))

-- as many bytes as the name has are the name, and what lies beyond is kept
module _ (a : List ℕ) (k : ℕ) (h : k < 72) (room : length (name_of k) ≤ length a) where
  name_byte : (j : ℕ) → j < length a → Dec (j < length (name_of k)) → get_or (put_name a k (length (name_of k))) j 0 ≡ get_or (name_of k ++ drop (length (name_of k)) a) j 0
  name_byte j l (yes i) =
      name_bytes a k (length (name_of k)) j room i
      ∙ byte_in k j h (omega (arith, most k h)) i
      ∙ sym (get_or-append (name_of k) (drop (length (name_of k)) a) 0 j i)
  name_byte j l (no d) =
      let e : length (name_of k) + (j - length (name_of k)) ≡ j = omega (arith, d) in
      name_kept a k (length (name_of k)) j (omega (arith, d))
      ∙ sym (ap (λ (i : ℕ). get_or a i 0) e)
      ∙ sym (get_or-drop (length (name_of k)) a (j - length (name_of k)) 0)
      ∙ sym (get_or-append-add (name_of k) (drop (length (name_of k)) a) (j - length (name_of k)) 0)
      ∙ ap (λ (i : ℕ). get_or (name_of k ++ drop (length (name_of k)) a) i 0) e

  pub name_laid : put_name a k (length (name_of k)) ≡ name_of k ++ drop (length (name_of k)) a
  name_laid =
      ext_get_or 0 (put_name a k (length (name_of k))) (name_of k ++ drop (length (name_of k)) a)
      (name_length a k (length (name_of k)) ∙ sym (length-append (name_of k) (drop (length (name_of k)) a) ∙ omega (arith, length-drop (length (name_of k)) a)))
      (λ j l. name_byte j (omega (arith, name_length a k (length (name_of k)))) (dec_lt j (length (name_of k))))

-- ---- the frame
pub frame_length : (k w : ℕ) (a : List ℕ) → length (put_frame k w a) ≡ length a
unfolding put_frame
frame_length k w a = simp length-set (name_length a k 30)

module _ (k w : ℕ) (a : List ℕ) (room : w + 33 ≤ length a) where
  other : (j : ℕ) → (j ≡ 30 → ⊥) → (j ≡ 31 → ⊥) → (j ≡ 32 + w → ⊥) → get_or (put_frame k w a) j 0 ≡ get_or (put_name a k 30) j 0
  unfolding put_frame
  other j x y z =
      get_or-set_other (set (set (put_name a k 30) 30 61) 31 32) (32 + w) j 10 0 z
      ∙ get_or-set_other (set (put_name a k 30) 30 61) 31 j 32 0 y
      ∙ get_or-set_other (put_name a k 30) 30 j 61 0 x

  pub frame_name : (j : ℕ) → j < 30 → get_or (put_frame k w a) j 0 ≡ get_or names (30 * k + j) 0
  frame_name j h = other j (λ e. omega arith) (λ e. omega arith) (λ e. omega arith) ∙ name_bytes a k 30 j (omega arith) h

  pub frame_equals : get_or (put_frame k w a) 30 0 ≡ 61
  unfolding put_frame
  frame_equals =
      get_or-set_other (set (set (put_name a k 30) 30 61) 31 32) (32 + w) 30 10 0 (λ e. omega arith)
      ∙ get_or-set_other (set (put_name a k 30) 30 61) 31 30 32 0 (λ e. omega arith)
      ∙ get_or-set_same (put_name a k 30) 30 61 0 (omega (arith, name_length a k 30))

  pub frame_space : get_or (put_frame k w a) 31 0 ≡ 32
  unfolding put_frame
  frame_space =
      get_or-set_other (set (set (put_name a k 30) 30 61) 31 32) (32 + w) 31 10 0 (λ e. omega arith)
      ∙ get_or-set_same (set (put_name a k 30) 30 61) 31 32 0 (simp length-set (omega (arith, name_length a k 30)))

  pub frame_feed : get_or (put_frame k w a) (32 + w) 0 ≡ 10
  unfolding put_frame
  frame_feed = get_or-set_same (set (set (put_name a k 30) 30 61) 31 32) (32 + w) 10 0 (simp length-set (omega (arith, name_length a k 30)))

  pub frame_kept : (j : ℕ) → 32 + w < j → get_or (put_frame k w a) j 0 ≡ get_or a j 0
  frame_kept j h = other j (λ e. omega arith) (λ e. omega arith) (λ e. omega arith) ∙ name_kept a k 30 j (omega arith)

-- ---- the three answers of a writer of n bytes, which are m
module _ (room : List ℕ) (n m : ℕ) (e : n ≡ m) (right : Bool) (new : List ℕ) where
  pub write_unfit : right ≡ false → (refusal 22 0 ≡ writes_line room m right) × (room ≡ wrote room m right new)
  write_unfit r = (rw r, rw r)

  pub write_small : right ≡ true → length room < n → (refusal 18 n ≡ writes_line room m right) × (room ≡ wrote room m right new)
  write_small r h = (rw (r, ← e, lt-leb n (length room) h), rw (r, ← e, lt-leb n (length room) h))

  pub write_done : right ≡ true → n ≤ length room → (b : List ℕ) → b ≡ new → (answer n ≡ writes_line room m right) × (b ≡ wrote room m right new)
  write_done r h b q = (rw (r, ← e, le-leb n (length room) h), rw (r, ← e, le-leb n (length room) h) q)

-- ---- what fits a field fits its value's writer
pub on_both : (k : ℕ) (b : Bool) → leb k 71 && b ≡ true → (k < 72) × (b ≡ true)
on_both k b e = go (leb k 71) refl e
  where
    go : (x : Bool) → leb k 71 ≡ x → x && b ≡ true → (k < 72) × (b ≡ true)
    go true l f = (omega (arith, leb-true k 71 l), f)
    go false l f = absurd (true≢false (sym f))

-- a kind has its number
of_code : (d e : Kind) → code_of d ≡ code_of e → d ≡ e
of_code d e q = sym (kind_back d) ∙ ap kind_from q ∙ kind_back e

pub is_text : (d : Kind) (w : ℕ) (t : List ℕ) → text_fits d w t ≡ true → (d ≡ Text) × (fits_text w t ≡ true)
is_text d w t e = let u = and_true (eqb (code_of d) 0) (fits_text w t) (sym (text_by d w t) ∙ e) in (of_code d Text (eqb-true (code_of d) 0 u.0), u.1)

-- an unsigned number is also a signed one
more : (w : ℕ) (x : Option ℤ) → fits_number false w x ≡ true → fits_number true w x ≡ true
more w None e = e
more w (Some (pos n)) e = e
more w (Some (negsuc n)) e = absurd (none (ltb 0 w && leb w 17) e)
  where
    none : (b : Bool) → b && false ≡ true → ⊥
    none true f = true≢false (sym f)
    none false f = true≢false (sym f)

pub number_fits_lem : (d : Kind) (w : ℕ) (x : Option ℤ) → number_fits d w x ≡ true → fits_number true w x ≡ true
unfolding number_fits
number_fits_lem Text w x e = absurd (true≢false (sym e))
number_fits_lem Unsigned w x e = more w x e
number_fits_lem Count w None e = absurd (true≢false (sym e))
number_fits_lem Count w (Some z) e = more w (Some z) e
number_fits_lem Signed w x e = e
number_fits_lem Time w x e = absurd (true≢false (sym e))
number_fits_lem LongTime w x e = absurd (true≢false (sym e))

pub time_fits_lem : (d : Kind) (t : Option Moment) → time_fits d t ≡ true → fits_general (is_long d) t ≡ true
time_fits_lem d t e = (and_true (leb 4 (code_of d)) (fits_general (is_long d) t) (sym (time_by d t) ∙ e)).1

-- a time's field is as wide as its text: one test over the 72
abbrev is_wide : ℕ → Bool
is_wide k = cond (leb 4 (code_of (kind_of k))) (eqb (digits_of (is_long (kind_of k)) + 1) (width_of k)) true

all_wide : T (below is_wide 72)
unfolding is_long kind_of kinds width_of widths fields
all_wide = tt

pub time_wide : (k : ℕ) (t : Option Moment) → k < 72 → time_fits (kind_of k) t ≡ true → digits_of (is_long (kind_of k)) + 1 ≡ width_of k
time_wide k t h e =
    let u = (and_true (leb 4 (code_of (kind_of k))) (fits_general (is_long (kind_of k)) t) (sym (time_by (kind_of k) t) ∙ e)).0 in
    eqb→eq _ _ (rw u at (at is_wide 72 all_wide k h))

-- ---- the value, written into the room from byte 32 on
mid_all : (xs : List ℕ) → 32 ≤ length xs → mid_of 32 (length xs - 32) xs ≡ drop 32 xs
mid_all xs h = take_all (length xs - 32) (drop 32 xs) (omega (arith, length-drop 32 xs))

put_all : (xs ys : List ℕ) → 32 ≤ length xs → put_mid 32 (length xs - 32) xs ys ≡ take 32 xs ++ ys
put_all xs ys h =
    let e : post_of 32 (length xs - 32) xs ≡ [] = Post-is 32 (length xs) xs h ∙ drop-length xs in
    ap (λ (z : List ℕ). take 32 xs ++ (ys ++ z)) e ∙ ap (λ (z : List ℕ). take 32 xs ++ z) (append-nil ys)

-- a line that was begun for a value that is right or not, which `put` puts: refused, or ended by the value's writer, of n bytes
pub record Begun (room xs : List ℕ) (k : ℕ) (right : Bool) (put : List ℕ → List ℕ) (r : Result ℕ Refusal) : Type 0 where
  pub begins : BeginsLine room k right r xs

pub begun_as : {room xs : List ℕ} {k : ℕ} {right f : Bool} {put : List ℕ → List ℕ} {r : Result ℕ Refusal} → f ≡ right → BeginsLine room k f r xs → Begun room xs k right put r
begun_as e b = record { begins = rw e at b }

module _ {room xs : List ℕ} {k : ℕ} {right : Bool} {put : List ℕ → List ℕ} {r : Result ℕ Refusal} (b : Begun room xs k right put r) where
  pub begun : (m : ℕ) → r ≡ Ok m → Done room (width_of k + 33) right (put_frame k (width_of k) room) xs m
  begun m e = done room (width_of k + 33) right (put_frame k (width_of k) room) xs 22 m (sym (ap said e) ∙ b.begins.0) b.begins.1

  pub begun_room : (m : ℕ) → r ≡ Ok m → width_of k + 33 ≤ length xs
  begun_room m e = let d = begun m e in omega (arith, d.room_is, ap length d.left ∙ frame_length k (width_of k) room)

  pub line_refused : (x : Refusal) → r ≡ Err x → WritesLine room k right put r xs
  line_refused x e = (b.begins.0, go right (leb (width_of k + 33) (length room)) (sym (ap said e) ∙ b.begins.0) b.begins.1)
    where
      go : (u v : Bool) → refused x ≡ cond u (cond v (answer (width_of k + 33)) (refusal 18 (width_of k + 33))) (refusal 22 0) → xs ≡ cond (u && v) (put_frame k (width_of k) room) room → xs ≡ cond (u && v) (put_line k put room) room
      go true true q z = let o : ◌≡◌ {A = ℕ} 0 1 = cc in absurd (omega arith)
      go true false q z = z
      go false v q z = z

  pub line_ended : (m n : ℕ) (ys : List ℕ) (g : Bool) → r ≡ Ok m → n ≤ width_of k → g ≡ true → ys ≡ wrote (mid_of 32 (length xs - 32) xs) n g (put (mid_of 32 (length xs - 32) xs)) → WritesLine room k right put r (put_mid 32 (length xs - 32) xs ys)
  line_ended m n ys g e l t q =
      let d = begun m e in
      let long = begun_room m e in
      let o = mid_all xs (omega (arith, long)) in
      let there : leb n (length (drop 32 xs)) ≡ true = le-leb n (length (drop 32 xs)) (omega (arith, length-drop 32 xs, long)) in
      let y : ys ≡ put (drop 32 xs) = q ∙ ap (λ (z : List ℕ). wrote z n g (put z)) o ∙ rw (t, there) in
      let p = put_all xs ys (omega (arith, long)) ∙ ap (λ (z : List ℕ). take 32 xs ++ z) y ∙ ap (λ (z : List ℕ). take 32 z ++ put (drop 32 z)) d.left in
      (b.begins.0, p ∙ rw (d.fits, le-leb (width_of k + 33) (length room) d.room_is))
