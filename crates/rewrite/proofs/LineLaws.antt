-- Lines set anew, one after the other: a value in its place is one line more; the texts that the values are. Assumes nothing.
use Prim.Native.Nat.{ℕ, zero, suc, ◌+◌, ◌-◌, ◌*◌, ◌/◌, ◌%◌, ◌≤◌, ◌<◌, min}
use native.Mathlib.Omega.{arith}
use mathlib.Core.Path.{◌≡◌, refl, sym, ap, subst, ◌∙◌}
use mathlib.Core.Bool.{Bool, true, false, ◌&&◌}
use mathlib.Core.List.{List, [], ◌∷◌, ◌++◌, append_assoc, append-nil}
use borrow.Author.Tests.{le-leb, lt-ltb, leb-true}
use lib.Dec.{T, eqb, eqb→eq, leb, ltb}
use lib.IntN.{pos}
use lib.ListN.{length, get_or, take, drop, replicate, length-append, length-take, length-drop, length-replicate, take-append-drop}
use lib.Seq.{sets, sets-eq, ext_get_or, get_or-take, get_or-drop, take-length, take_at, drop_at, drop-drop, length-take-le}
use Rattle.calendar.specs.Said.{answer, refused}
use Rattle.calendar.specs.declared.Refusal.{Refusal}
use Rattle.calendar.proofs.Range.{below, at}
use Rattle.meter.specs.Lent.{wrote}
use Rattle.meter.specs.Time.{is_time}
use Rattle.meter.specs.General.{general_of, minute_of, moment_of, put_general, put_moment, put_digits, put_x}
use Rattle.meter.specs.declared.general.Moment.{Moment}
use Rattle.std.specs.declared.option.Option.TheVariants.{Some, None}
use Rattle.std.specs.declared.result.Result.TheVariants.{Ok, Err}
use Rattle.std.specs.declared.option.Option.{Option}
use Rattle.std.specs.declared.result.Result.{Result}
use Rattle.std.specs.Prelude.{ℤ}
use Rattle.meter.specs.declared.time.Time.{Time}
use Rattle.calendar.specs.Said.{said}
use Rattle.meter.proofs.GeneralWrite.{general_length}
use Rattle.record.proofs.FieldLaws.{both}
use Rattle.text.specs.Writing.{fits_number, put_number}
use Rattle.text.proofs.Back.{number_length}
use Rattle.mphr.specs.Lines.{is_long}
use Rattle.demands.specs.Product.{MainHeader}
use Rattle.parts.specs.Parts.{main_of}
use Rattle.mphr.specs.Layout.{fields, widths, kinds, width_of, kind_of, line_start, field_of}
use Rattle.mphr.specs.declared.layout.Place.{Place}
use Rattle.mphr.proofs.LayoutLaws.{start_next, start_mono, start_72}
use Rattle.parts.specs.Rewritten.{value_of, Value, text, time, spelling, whole, Rewritten, anew, values_of}
use Rattle.parts.specs.CutHeader.{to_second, stamp, renamed}
use Rattle.parts.proofs.CutHeaderLaws.{name_width, name_start}
use Rattle.parts.proofs.Relined.{rewritten_none, rewritten_next}
use Rattle.rewrite.specs.Lining.{Adds, NumberFor, whole_number, number_line, unknown_lines, Totals, total_lines, timed, time_lines, lines_by}

-- ---- one line more
pub adds_value : (h h' v : List ℕ) (k : ℕ) (x : Value) → k < 72 → length v ≡ width_of k → ((m : List ℕ) → spelling m k x ≡ v) → h' ≡ sets h (line_start k + 32) v → Adds h h' (anew k x ∷ [])
adds_value h h' v k x below wide same e m l r =
    subst (λ (z : List ℕ). Rewritten m z (values_of (anew k x ∷ l))) (ap (sets h (line_start k + 32)) (same m) ∙ sym e)
    (rewritten_next l k x r below (ap length (same m) ∙ wide))

-- ---- the stamp: the long text without the digits of its millisecond
first_digits :
    (t u : Moment) (x : List ℕ) → t.date ≡ u.date → t.hour ≡ u.hour → t.minute ≡ u.minute → t.second ≡ u.second → x ≡ put_moment 17 (replicate 18 0) t
    → sets (replicate 15 90) 0 (take 14 (drop 0 x)) ≡ put_moment 14 (replicate 15 0) u
unfolding put_moment put_digits
first_digits t u x d h m s e = rw (e, d, h, m, s) refl

module _ (day ms : ℕ) where
  same_minute : minute_of ms ≡ minute_of (ms / 1000 * 1000)
  same_minute = let e : ms / 1000 * 1000 / 60000 ≡ ms / 60000 = omega arith in ap (λ (n : ℕ). min n 1439) (sym e)

  same_date : (moment_of day ms).date ≡ (moment_of day (ms / 1000 * 1000)).date
  unfolding moment_of
  same_date = refl

  same_hour : (moment_of day ms).hour ≡ (moment_of day (ms / 1000 * 1000)).hour
  unfolding moment_of
  same_hour = ap (λ (n : ℕ). n / 60) same_minute

  same_in_hour : (moment_of day ms).minute ≡ (moment_of day (ms / 1000 * 1000)).minute
  unfolding moment_of
  same_in_hour = ap (λ (n : ℕ). n % 60) same_minute

  same_second : (moment_of day ms).second ≡ (moment_of day (ms / 1000 * 1000)).second
  unfolding moment_of
  same_second =
      let d : ms / 1000 ≡ ms / 1000 * 1000 / 1000 = omega arith in
      ap (λ (n : ℕ). n - 60 * minute_of ms) d ∙ ap (λ (n : ℕ). ms / 1000 * 1000 / 1000 - 60 * n) same_minute

pub stamp_is :
    (t : Option Time) (x : List ℕ) → x ≡ put_general 17 (replicate 18 0) (general_of t)
    → sets (replicate 15 90) 0 (take 14 (drop 0 x)) ≡ stamp (to_second t)
unfolding put_x
stamp_is None x e = rw e refl
stamp_is (Some t) x e =
    first_digits (moment_of t.day t.milli) (moment_of t.day (t.milli / 1000 * 1000)) x (same_date t.day t.milli) (same_hour t.day t.milli) (same_in_hour t.day t.milli) (same_second t.day t.milli) e

-- what `meter` writes of a time that is right
pub text_wrote : (t : Option Time) → is_time t ≡ true → wrote (replicate 18 0) 18 (is_time t) (put_general 17 (replicate 18 0) (general_of t)) ≡ put_general 17 (replicate 18 0) (general_of t)
text_wrote t e = rw e refl

-- ---- where a line stands
pub place_is : (k : ℕ) (r : Result Place Refusal) (p : Place) → k < 72 → r ≡ Ok p → said r ≡ field_of k → (p.start ≡ line_start k) × (p.width ≡ width_of k)
place_is k r p h e s =
    let q : Place = record { start = line_start k; width = width_of k; kind = kind_of k } in
    let f : field_of k ≡ answer q = rw (le-leb k 71 (omega arith)) refl in
    let b : answer p ≡ answer q = sym (ap said e) ∙ s ∙ f in
    let d : p ≡ q = answered b in
    (ap (λ (x : Place). x.start) d, ap (λ (x : Place). x.width) d)
  where
    answered : {p q : Place} → answer p ≡ answer q → p ≡ q
    answered e = cc

pub place_lost : (k : ℕ) (r : Result Place Refusal) (x : Refusal) → k < 72 → r ≡ Err x → said r ≡ field_of k → ⊥
place_lost k r x h e s =
    let q : Place = record { start = line_start k; width = width_of k; kind = kind_of k } in
    let f : field_of k ≡ answer q = rw (le-leb k 71 (omega arith)) refl in
    never x q (sym (ap said e) ∙ s ∙ f)
  where
    never : (x : Refusal) (q : Place) → refused x ≡ answer q → ⊥
    never x q e = let z : ◌≡◌ {A = ℕ} 0 1 = cc in omega arith

pub line_room : (k : ℕ) → k < 72 → line_start k + 32 + width_of k ≤ 3307
line_room k h = omega (arith, start_next k, start_mono {j = suc k} {k = 72} h, start_72)

pub whole_text : (v : List ℕ) → take (length v) (drop 0 v) ≡ v
whole_text v = ap (take (length v)) (drop-zero v) ∙ take-length v
  where
    drop-zero : (v : List ℕ) → drop 0 v ≡ v
    drop-zero [] = refl
    drop-zero (x ∷ v) = refl

-- ---- numbers
zeros : (w n : ℕ) → w ≤ n → take w (replicate {A = ℕ} n 0) ≡ replicate w 0
zeros zero n h = take_none (replicate n 0)
  where
    take_none : (l : List ℕ) → take 0 l ≡ []
    take_none [] = refl
    take_none (x ∷ l) = refl
zeros (suc w) zero h = absurd (omega arith)
zeros (suc w) (suc n) h = ap (λ (l : List ℕ). 0 ∷ l) (zeros w n (omega arith))

pub zeros_long : (w : ℕ) → w ≤ 17 → w ≡ length (take w (replicate {A = ℕ} 17 0))
zeros_long w h = sym (ap length (zeros w 17 h) ∙ length-replicate w 0)

-- what `text` writes of a number that fits
pub number_wrote : (w k : ℕ) (x : Option ℤ) (r : List ℕ) → w ≡ width_of k → NumberFor k x → r ≡ wrote (take w (replicate 17 0)) w (fits_number false w x) (put_number w (take w (replicate 17 0)) x) → r ≡ put_number (width_of k) (replicate (width_of k) 0) x
number_wrote w k x r e n s =
    let z = zeros w 17 (omega (arith, n.narrow)) in
    let l : leb w (length (replicate {A = ℕ} w 0)) ≡ true = le-leb w (length (replicate {A = ℕ} w 0)) (omega (arith, length-replicate {A = ℕ} w 0)) in
    let f : fits_number false w x ≡ true = ap (λ (v : ℕ). fits_number false v x) e ∙ n.fits in
    s ∙ rw (z, f, l) (ap (λ (v : ℕ). put_number v (replicate v 0) x) e)

pub number_long : (k : ℕ) (x : Option ℤ) → length (put_number (width_of k) (replicate (width_of k) 0) x) ≡ width_of k
number_long k x = number_length (width_of k) (replicate (width_of k) 0) x ∙ length-replicate (width_of k) 0

-- ---- the name
pub sets_mid : (p q r v : List ℕ) (i : ℕ) → length p ≡ i → length v ≡ length q → sets (p ++ (q ++ r)) i v ≡ p ++ (v ++ r)
sets_mid p q r v i e d =
    let l = p ++ (q ++ r) in
    let n = length-append p (q ++ r) in
    let o = length-append q r in
    sets-eq v l i (omega (arith, n, o))
    ∙ append_assoc (take i l) v (drop (i + length v) l)
    ∙ ap (λ (x : List ℕ). x ++ (v ++ drop (i + length v) l)) (take_at p (q ++ r) i e)
    ∙ ap (λ (x : List ℕ). p ++ (v ++ drop (i + length v) x)) (sym (append_assoc p q r))
    ∙ ap (λ (x : List ℕ). p ++ (v ++ x)) (drop_at (p ++ q) r (i + length v) (omega (arith, length-append p q)))

pub parted : (n : List ℕ) (i k : ℕ) → drop i n ≡ take k (drop i n) ++ drop (i + k) n
parted n i k = sym (take-append-drop k (drop i n)) ∙ ap (λ (x : List ℕ). take k (drop i n) ++ x) (drop-drop k i n)

pub timed_is : (n f l : List ℕ) → length n ≡ 67 → length f ≡ 15 → length l ≡ 15 → sets (sets n 16 f) 32 l ≡ timed n f l
timed_is n f l e g h =
    let a = take 16 n in
    let b = take 15 (drop 16 n) in
    let c = take 1 (drop 31 n) in
    let d = take 15 (drop 32 n) in
    let r = drop 47 n in
    let whole : n ≡ a ++ (b ++ drop 31 n) = sym (take-append-drop 16 n) ∙ ap (λ (x : List ℕ). a ++ x) (parted n 16 15) in
    let la : length a ≡ 16 = length-take-le 16 n (omega arith) in
    let lb : length b ≡ 15 = length-take-le 15 (drop 16 n) (omega (arith, length-drop 16 n)) in
    let lc : length c ≡ 1 = length-take-le 1 (drop 31 n) (omega (arith, length-drop 31 n)) in
    let ld : length d ≡ 15 = length-take-le 15 (drop 32 n) (omega (arith, length-drop 32 n)) in
    let first : sets n 16 f ≡ a ++ (f ++ drop 31 n) = ap (λ (x : List ℕ). sets x 16 f) whole ∙ sets_mid a b (drop 31 n) f 16 la (g ∙ sym lb) in
    let rest : drop 31 n ≡ c ++ (d ++ r) = parted n 31 1 ∙ ap (λ (x : List ℕ). c ++ x) (parted n 32 15) in
    let group : a ++ (f ++ drop 31 n) ≡ (a ++ (f ++ c)) ++ (d ++ r) = ap (λ (x : List ℕ). a ++ (f ++ x)) rest ∙ simp append_assoc in
    ap (λ (x : List ℕ). sets x 32 l) (first ∙ group)
    ∙ sets_mid (a ++ (f ++ c)) d r l 32 (length-append a (f ++ c) ∙ omega (arith, length-append f c)) (h ∙ sym ld)
    ∙ simp append_assoc

pub sets_whole : (z v : List ℕ) → length z ≡ length v → sets z 0 v ≡ v
sets_whole z v e = ap (λ (x : List ℕ). sets x 0 v) (sym (append-nil z)) ∙ sets_mid [] z [] v 0 refl (sym e) ∙ append-nil v

pub name_is :
    (a f l x y z : List ℕ) → 3307 ≤ length a → length f ≡ 15 → length l ≡ 15 → x ≡ sets (replicate 67 0) 0 (take 67 (drop 52 a)) → y ≡ sets x 16 (take 15 (drop 0 f)) → z ≡ sets y 32 (take 15 (drop 0 l))
    → z ≡ timed (value_of a 0) f l
name_is a f l x y z h lf ll e d c =
    let n = take 67 (drop 52 a) in
    let ln : length n ≡ 67 = length-take-le 67 (drop 52 a) (omega (arith, length-drop 52 a)) in
    let v : n ≡ value_of a 0 = rw (name_width, name_start) refl in
    let x-is : x ≡ n = e ∙ sets_whole (replicate 67 0) n (sym ln) in
    let f-is : take 15 (drop 0 f) ≡ f = ap (λ (k : ℕ). take k (drop 0 f)) (sym lf) ∙ whole_text f in
    let l-is : take 15 (drop 0 l) ≡ l = ap (λ (k : ℕ). take k (drop 0 l)) (sym ll) ∙ whole_text l in
    let y-is : y ≡ sets n 16 f = d ∙ ap (λ (u : List ℕ). sets x 16 u) f-is ∙ ap (λ (u : List ℕ). sets u 16 f) x-is in
    c ∙ ap (λ (u : List ℕ). sets y 32 u) l-is ∙ ap (λ (u : List ℕ). sets u 32 l) y-is ∙ timed_is n f l ln lf ll ∙ ap (λ (u : List ℕ). timed u f l) v

-- ---- the lines of numbers, computed
unknown_widths : T (below (λ (j : ℕ). ltb 0 (width_of (64 + j)) && leb (width_of (64 + j)) 17) 7)
unfolding width_of widths fields
unknown_widths = tt

pub unknown_for : (j : ℕ) → j < 7 → NumberFor (64 + j) None
unknown_for j h =
    let t = both-T (ltb 0 (width_of (64 + j))) (leb (width_of (64 + j)) 17) (at (λ (j : ℕ). ltb 0 (width_of (64 + j)) && leb (width_of (64 + j)) 17) 7 unknown_widths j h) in
    record { line = omega arith; narrow = leb-true (width_of (64 + j)) 17 t.1; fits = rw (t.0, t.1) refl }
  where
    is_true : (b : Bool) → T b → b ≡ true
    is_true true t = refl
    is_true false t = absurd t

    both-T : (x y : Bool) → T (x && y) → (x ≡ true) × (y ≡ true)
    both-T x y t = both x y (is_true (x && y) t)

total_widths : T (below (λ (j : ℕ). eqb (width_of (55 + j)) 6) 9)
unfolding width_of widths fields
total_widths = tt

pub total_width : (j : ℕ) → j < 9 → width_of (55 + j) ≡ 6
total_width j h = eqb→eq _ _ (at (λ (j : ℕ). eqb (width_of (55 + j)) 6) 9 total_widths j h)

pub total_for : (j n : ℕ) → j < 9 → n ≤ 999999 → NumberFor (55 + j) (Some (pos n))
total_for j n h l = let e = total_width j h in record { line = omega arith; narrow = omega arith; fits = rw e (lt-ltb n 1000000 (omega arith)) }

pub size_for : (n : ℕ) → n ≤ 2147483647 → NumberFor 28 (Some (pos n))
unfolding width_of widths fields
size_for n l = record { line = omega arith; narrow = omega arith; fits = lt-ltb n 100000000000 (omega arith) }

-- ---- the totals, from the last to the first: those from j on are set
pub record Adding (t h₀ h : List ℕ) (j : ℕ) : Type 0 where
  pub totals : Totals t
  pub long : length h ≡ 3307
  pub same : length h₀ ≡ 3307
  pub within : j ≤ 9
  pub adds : Adds h₀ h (total_lines t j (9 - j))

pub adding_first : {t h : List ℕ} → length h ≡ 3307 → Totals t → Adding t h h 9
adding_first e n = record { totals = n; long = e; same = e; within = omega arith; adds = λ m l r. r }

pub adding_next : {t h₀ h h' : List ℕ} {j i : ℕ} → Adding t h₀ h j → suc i ≡ j → length h' ≡ 3307 → Adds h h' (anew (55 + i) (whole (get_or t i 0)) ∷ []) → Adding t h₀ h' i
adding_next {t} {h₀} {h} {h'} {j} {i} a e n f = record {
  totals = a.totals;
  long = n;
  same = a.same;
  within = omega (arith, a.within);
  adds =
      let d : 9 - i ≡ suc (9 - suc i) = omega (arith, a.within) in
      let b : Adds h₀ h (total_lines t (suc i) (9 - suc i)) = rw e a.adds in
      rw d (λ m l r. f m (total_lines t (suc i) (9 - suc i) ++ l) (b m l r));
}

pub adding_last : {t h₀ h : List ℕ} {j : ℕ} → Adding t h₀ h j → j ≡ 0 → Adds h₀ h (total_lines t 0 9)
adding_last {t} {h₀} {h} a e = rw e at a.adds

-- ---- the times
pub stamp_long : (t : Option Time) → length (stamp (to_second t)) ≡ 15
stamp_long t = general_length 14 (replicate 15 0) (to_second t)

pub width_10 : width_of 10 ≡ 15
unfolding width_of widths fields
width_10 = refl

pub width_11 : width_of 11 ≡ 15
unfolding width_of widths fields
width_11 = refl

spelled_10 : (m : List ℕ) (t : Option Time) → spelling m 10 (time (to_second t)) ≡ stamp (to_second t)
unfolding width_of widths fields kind_of kinds is_long
spelled_10 m t = refl

spelled_11 : (m : List ℕ) (t : Option Time) → spelling m 11 (time (to_second t)) ≡ stamp (to_second t)
unfolding width_of widths fields kind_of kinds is_long
spelled_11 m t = refl

pub name_long : (a : List ℕ) → 3307 ≤ length a → length (value_of a 0) ≡ 67
name_long a h = rw (name_width, name_start) (length-take-le 67 (drop 52 a) (omega (arith, length-drop 52 a)))

pub timed_long : (n f l : List ℕ) → length n ≡ 67 → length f ≡ 15 → length l ≡ 15 → length (timed n f l) ≡ 67
timed_long n f l e d g = simp (length-append, length-take, length-drop) (omega arith)

pub times_add :
    (h h₁ h₂ h₃ n x y z : List ℕ) (t u : Option Time) → x ≡ stamp (to_second t) → y ≡ stamp (to_second u) → z ≡ timed n x y → length n ≡ 67
    → h₁ ≡ sets h (line_start 11 + 32) y → h₂ ≡ sets h₁ (line_start 10 + 32) x → h₃ ≡ sets h₂ (line_start 0 + 32) z → Adds h h₃ (time_lines n t u)
times_add h h₁ h₂ h₃ n x y z t u ex ey ez ln e₁ e₂ e₃ m l r =
    let a = adds_value h h₁ y 11 (time (to_second u)) (omega arith) (ap length ey ∙ stamp_long u ∙ sym width_11) (λ k. spelled_11 k u ∙ sym ey) e₁ in
    let b = adds_value h₁ h₂ x 10 (time (to_second t)) (omega arith) (ap length ex ∙ stamp_long t ∙ sym width_10) (λ k. spelled_10 k t ∙ sym ex) e₂ in
    let q : z ≡ renamed n (to_second t) (to_second u) = ez ∙ ap (λ (v : List ℕ). timed n v y) ex ∙ ap (timed n (stamp (to_second t))) ey in
    let w : length z ≡ width_of 0 = ap length ez ∙ timed_long n x y ln (ap length ex ∙ stamp_long t) (ap length ey ∙ stamp_long u) ∙ sym name_width in
    let c = adds_value h₂ h₃ z 0 (text (renamed n (to_second t) (to_second u))) (omega arith) w (λ k. sym q) e₃ in
    c m (anew 10 (time (to_second t)) ∷ anew 11 (time (to_second u)) ∷ l) (b m (anew 11 (time (to_second u)) ∷ l) (a m l r))

-- ---- the whole header
pub main_copied : (a h : List ℕ) → 3307 ≤ length a → length h ≡ 3307 → sets h 0 (take 3307 (drop 0 a)) ≡ main_of a
main_copied a h l e =
    let d : take 3307 (drop 0 a) ≡ take 3307 a = ap (take 3307) (drop-none a) in
    ap (sets h 0) d ∙ sets_whole h (take 3307 a) (e ∙ sym (length-take-le 3307 a l))
  where
    drop-none : (v : List ℕ) → drop 0 v ≡ v
    drop-none [] = refl
    drop-none (x ∷ v) = refl

main_name : (a : List ℕ) → 3307 ≤ length a → value_of (main_of a) 0 ≡ value_of a 0
main_name a h =
    ext_get_or 0 (value_of (main_of a) 0) (value_of a 0) (name_long (main_of a) (omega (arith, length-take-le 3307 a h)) ∙ sym (name_long a h))
    (λ j l.
    let z : j < 67 = omega (arith, name_long (main_of a) (omega (arith, length-take-le 3307 a h))) in
    byte (main_of a) j z ∙ get_or-take 3307 a (52 + j) 0 (omega arith) ∙ sym (byte a j z))
  where
    byte : (b : List ℕ) (j : ℕ) → j < 67 → get_or (value_of b 0) j 0 ≡ get_or b (52 + j) 0
    byte b j h = rw (name_width, name_start) (get_or-take 67 (drop 52 b) j 0 h ∙ get_or-drop 52 b j 0)

pub header_done :
    (a h h₀ h₁ h₂ h₃ h₄ : List ℕ) (t u : Option Time) (totals : List ℕ) (size : ℕ) → 3307 ≤ length a → MainHeader (main_of a) → length h ≡ 3307 → h₀ ≡ sets h 0 (take 3307 (drop 0 a))
    → Adds h₀ h₁ unknown_lines → Adds h₁ h₂ (time_lines (value_of a 0) t u) → Adds h₂ h₃ (total_lines totals 0 9) → Adds h₃ h₄ (number_line 28 (whole_number size))
    → Rewritten (main_of a) h₄ (values_of (lines_by (main_of a) t u totals size))
header_done a h h₀ h₁ h₂ h₃ h₄ t u totals size l head e c f g k n =
    let m = main_of a in
    let r : Rewritten m h₀ (values_of []) =
    subst (λ (x : List ℕ). Rewritten m x (values_of [])) (sym (c ∙ main_copied a h l e)) (rewritten_none (length-take-le 3307 a l) head) in
    let s : Adds h₁ h₂ (time_lines (value_of m 0) t u) = rw (main_name a l) g in
    n m (total_lines totals 0 9 ++ (time_lines (value_of m 0) t u ++ unknown_lines)) (k m (time_lines (value_of m 0) t u ++ unknown_lines) (s m unknown_lines (f m [] r)))
