-- WHAT IS PRINTED IS IN THE WRITERS' SPELLING: each line by its kind. Assumes nothing.
use mathlib.Core.Path.{◌≡◌, refl, sym, ◌∙◌}
use mathlib.Core.Bool.{Bool, true, false, true≢false, ◌&&◌}
use mathlib.Core.List.{List}
use Prim.Native.Nat.{ℕ, zero, suc, ◌+◌, ◌≤◌, ◌<◌}
use native.Mathlib.Omega.{arith}
use lib.Dec.{ltb, leb}
use lib.IntN.{ℤ}
use lib.ListN.{length, get_or, get_or-append}
use Rattle.meter.specs.General.{digits_of}
use Rattle.std.specs.declared.option.Option.TheVariants.{Some, None}
use Rattle.std.specs.declared.option.Option.{Option}
use Rattle.meter.specs.declared.general.Moment.{Moment}
use Rattle.meter.proofs.GeneralRuns.{and_true, run_is, outside}
use Rattle.meter.proofs.GeneralWrite.{x_are}
use Rattle.text.specs.Field.{spaces}
use Rattle.text.specs.Writing.{spelled, fits_number, put_number}
use Rattle.text.specs.declared.Kind.{Kind}
use Rattle.text.specs.declared.Kind.TheVariants.{Text, Unsigned, Count, Signed, Time, LongTime}
use Rattle.text.proofs.Meaning.{means_number}
use Rattle.text.proofs.Laws.{some_left, fits_some}
use Rattle.text.proofs.Back.{whole_in}
use Rattle.text.proofs.Alike.{Alike}
use Rattle.mphr.specs.Layout.{width_of, kind_of, line_start}
use Rattle.mphr.specs.Lines.{text_fits, number_fits, time_fits, is_long}
use Rattle.mphr.proofs.LayoutLaws.{start_next, start_mono, start_72}
use Rattle.mphr.proofs.WritingLaws.{number_fits_lem}
use Rattle.whole.specs.Values.{Value, text, number, time, Values, put, main_of, joined, print, line_in, Right}
use Rattle.whole.specs.Spelled.{lead, Plain, Spelled, Canonical}
use Rattle.whole.proofs.Numbers.{plain_alike, minus_next, whole_plain}
use Rattle.whole.proofs.Moments.{general_zed}
use Rattle.whole.proofs.Printed.{main_long}
use Rattle.whole.proofs.Parsed.{fits_by, fits_is, timed, timed_wide}
use Rattle.whole.proofs.Again.{value_room, value_room_lem, value_byte, put_by, put_is}

-- ---- a number
none_plain : (b : List ℕ) (i w : ℕ) → 0 < w → ((j : ℕ) → j < w → get_or b (i + j) 0 ≡ 120) → Plain b i w
none_plain b i w h f =
    let s : spaces b i w ≡ 0 = run_is 32 32 b i w 0 (omega arith) (λ j l. absurd (omega arith)) (λ l. outside 32 32 (get_or b (i + 0) 0) (λ _. omega (arith, f 0 h))) in
    let e : lead b i w ≡ 120 = rw s (f 0 h) in
    record { plus = λ q. omega arith; minus = λ q c. omega arith; naught = λ q. absurd (omega arith) }

whole_spelled : (w : ℕ) (z : ℤ) (r b : List ℕ) (i : ℕ) → 0 < w → spelled true w z ≡ true → w ≤ length r → Alike b (put_number w r (Some z)) i 0 w → Plain b i w
whole_spelled zero z r b i h s l e = absurd (omega arith)
whole_spelled (suc n) z r b i h s l e =
    plain_alike e h (some_left true _ 0 (suc n) (means_number true _ 0 (suc n) (whole_in true n r z l s))) (minus_next true n r z l s) (whole_plain true n r z l s)

number_spelled : (w : ℕ) (x : Option ℤ) (r b : List ℕ) (i : ℕ) → fits_number true w x ≡ true → w ≤ length r → Alike b (put_number w r x) i 0 w → Plain b i w
number_spelled w None r b i f l e = none_plain b i w (fits_some true w None f) (λ j h. let z : 0 + j ≡ j = omega arith in e.byte j h ∙ rw z (x_are r w l j h))
number_spelled w (Some z) r b i f l e = whole_spelled w z r b i (fits_some true w (Some z) f) (and_true (ltb 0 w && leb w 17) _ f).1 l e

-- ---- a value
none : {A : Type 0} → false ≡ true → A
none e = absurd (true≢false (sym e))

abbrev long_kind : Bool → Kind
long_kind true = LongTime
long_kind false = Time

zed_at : (long : Bool) (w : ℕ) (g : Option Moment) (r b : List ℕ) (i : ℕ) → digits_of long + 1 ≡ w → w < length r → Alike b (put_by (long_kind long) w (time g) r) i 0 w → get_or b (i + digits_of long) 0 ≡ 90
unfolding is_long
zed_at true w g r b i q l e = e.byte 17 (omega arith) ∙ general_zed 17 r g (omega arith) (omega arith)
zed_at false w g r b i q l e = e.byte 14 (omega arith) ∙ general_zed 14 r g (omega arith) (omega arith)

module _ (w : ℕ) (r b : List ℕ) (i : ℕ) (l : w < length r) where
  spelled_by : (d : Kind) (x : Value) → fits_by d w x ≡ true → (timed d ≡ true → digits_of (is_long d) + 1 ≡ w) → Alike b (put_by d w x r) i 0 w → Spelled d b i w
  unfolding text_fits number_fits time_fits is_long
  spelled_by Text x f t e = tt
  spelled_by Unsigned (text s) f t e = none f
  spelled_by Unsigned (number x) f t e = number_spelled w x r b i (number_fits_lem Unsigned w x f) (omega arith) e
  spelled_by Unsigned (time g) f t e = none f
  spelled_by Count (text s) f t e = none f
  spelled_by Count (number x) f t e = number_spelled w x r b i (number_fits_lem Count w x f) (omega arith) e
  spelled_by Count (time g) f t e = none f
  spelled_by Signed (text s) f t e = none f
  spelled_by Signed (number x) f t e = number_spelled w x r b i (number_fits_lem Signed w x f) (omega arith) e
  spelled_by Signed (time g) f t e = none f
  spelled_by Time (text s) f t e = none f
  spelled_by Time (number x) f t e = none f
  spelled_by Time (time g) f t e = zed_at false w g r b i (t refl) l e
  spelled_by LongTime (text s) f t e = none f
  spelled_by LongTime (number x) f t e = none f
  spelled_by LongTime (time g) f t e = zed_at true w g r b i (t refl) l e

-- THE LAW
module _ (v : Values) (r : Right v) where
  pub value_alike : (k : ℕ) → k < 72 → Alike (print v) (put k (line_in v k) (value_room k)) (line_start k + 32) 0 (width_of k)
  value_alike k h = record {
    byte = λ j l.
        let z : 0 + j ≡ j = omega arith in
        get_or-append (main_of v) (joined v.records) 0 (line_start k + 32 + j) (omega (arith, main_long v r, start_next k, start_mono {j = suc k} {k = 72} h, start_72))
        ∙ rw z (value_byte v r k h j l);
  }

  pub print_canonical : Canonical (print v)
  print_canonical k h =
      let e = put_is k (line_in v k) (value_room k) in
      spelled_by (width_of k) (value_room k) (print v) (line_start k + 32) (omega (arith, value_room_lem k)) (kind_of k) (line_in v k)
      (sym (fits_is k (line_in v k)) ∙ r.lines k h)
      (λ t. timed_wide k h t)
      (rw e at (value_alike k h))
