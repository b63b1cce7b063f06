-- WHAT IS WRITTEN IS ANSWERED: a product whose line k is what a line writer wrote answers the value to the query of field k. The line is the
-- writer's by its promise (mphr's LineBack); of a product no fault of the main header is shown; one answer fits. Assumes nothing.
use Prim.Native.Nat.{ℕ, ◌+◌, ◌≤◌, ◌<◌}
use native.Mathlib.Omega.{arith}
use mathlib.Core.Path.{◌≡◌, refl, sym, ap}
use mathlib.Core.Bool.{true, true≢false}
use mathlib.Core.List.{List}
use lib.ListN.{length, take, drop, take-append-drop}
use Rattle.meter.specs.General.{digits_of, is_general, put_general}
use Rattle.std.specs.declared.result.Result.TheVariants.{Ok}
use Rattle.std.specs.declared.option.Option.{Option}
use Rattle.std.specs.declared.result.Result.{Result}
use Rattle.calendar.specs.declared.Refusal.{Refusal}
use Rattle.std.specs.Prelude.{ℤ}
use Rattle.meter.specs.declared.general.Moment.{Moment}
use Rattle.query.specs.declared.Part.{Part}
use Rattle.query.specs.Found.{part_found}
use Rattle.meter.proofs.ReadsBack.{reads_answer}
use Rattle.text.specs.Field.{is_numeric}
use Rattle.text.specs.Writing.{put_number, put_text}
use Rattle.text.specs.declared.Kind.{Kind}
use Rattle.text.specs.declared.Kind.TheVariants.{Text, Unsigned, Count, Signed, Time, LongTime}
use Rattle.mphr.specs.Layout.{width_of, kind_of, line_start}
use Rattle.mphr.specs.Lines.{text_fits, number_fits, time_fits, is_long, text_on, number_on, time_on, WritesTextLine, WritesNumberLine, WritesTimeLine}
use Rattle.mphr.proofs.WritingLaws.{on_both, is_text}
use Rattle.mphr.proofs.LineBack.{Stands, line_written, text_line_back, number_line_back, time_line_back}
use Rattle.tables.proofs.Laws.{stays_clean}
use Rattle.judge.specs.Table.{Clean, table}
use Rattle.judge.proofs.Local.{lawful}
use Rattle.demands.specs.Product.{Meets}
use Rattle.demands.proofs.Accepted.{meets_complete}
use Rattle.query.specs.Query.{main_part, sort_of, times_of, FieldOf, Allowed, value_start, TextIs, number_in, NumberIs, time_in, TimeIs}
use Rattle.query.specs.declared.Sort.{Sort}
use Rattle.query.specs.declared.Sort.TheVariants.{Numbers, Texts}
use Rattle.query.proofs.QueryLaws.{start_small}
use Rattle.query.proofs.QueryDetermined.{unique_text_field, unique_number_field, unique_time_of}

-- ---- the sort of a field that takes a value
text_sort : (d : Kind) (w : ℕ) (t : List ℕ) → text_fits d w t ≡ true → sort_of d ≡ Texts
text_sort d w t e = ap sort_of (is_text d w t e).0

number_sort : (d : Kind) (w : ℕ) (x : Option ℤ) → number_fits d w x ≡ true → sort_of d ≡ Numbers
unfolding number_fits
number_sort Text w x e = absurd (true≢false (sym e))
number_sort Unsigned w x e = refl
number_sort Count w x e = refl
number_sort Signed w x e = refl
number_sort Time w x e = absurd (true≢false (sym e))
number_sort LongTime w x e = absurd (true≢false (sym e))

time_sort : (d : Kind) (t : Option Moment) → time_fits d t ≡ true → sort_of d ≡ times_of (is_long d)
unfolding time_fits is_long
time_sort Text t e = absurd (true≢false (sym e))
time_sort Unsigned t e = absurd (true≢false (sym e))
time_sort Count t e = absurd (true≢false (sym e))
time_sort Signed t e = absurd (true≢false (sym e))
time_sort Time t e = refl
time_sort LongTime t e = refl

-- of a product the main header's bytes show no fault
module _ {b : List ℕ} (m : Meets b) where
  pub come : 3307 ≤ length b
  come = (meets_complete m).header

  pub main_clean : Clean (main_part b)
  main_clean = let e = take-append-drop 3307 b in stays_clean table lawful (take 3307 b) (drop 3307 b) (rw e (meets_complete m).clean)

  allowed : {k : ℕ} {sort : Sort} → FieldOf k sort → Allowed b k sort
  allowed f = record { clean = main_clean; come = come; field = f }

  -- the room at entry, the room at exit, the bytes answered
  module _ (room exit : List ℕ) (n k : ℕ) (stands : Stands b k exit) where
    field_come : k < 72 → line_start k + 32 + width_of k ≤ length b
    field_come h = omega (arith, start_small {k = k} (omega arith), come)

    pub text_answered : (t : List ℕ) → WritesTextLine room k t (Ok n) exit → (r : Result Part Refusal) → TextIs b k r → (r ≡ part_found (value_start k) (width_of k)) × (take (width_of k) (drop (value_start k) b) ≡ t)
    unfolding text_on
    text_answered t w r f =
        let d = line_written room exit n k (text_on k t) (λ (a : List ℕ). put_text a t) w in
        let o = on_both k (text_fits (kind_of k) (width_of k) t) d.fits in
        let y = allowed (record { known = omega (arith, o.0); sorted = text_sort (kind_of k) (width_of k) t o.1 }) in (
          unique_text_field b k r (part_found (value_start k) (width_of k)) f (record { allowed = y; start_is = refl; width_is = refl }),
          text_line_back k t room d.fits d.room_is b (rw d.left at stands) (field_come o.0),
        )

    pub number_answered : (x : Option ℤ) → WritesNumberLine room k x (Ok n) exit → (r : Result (Option ℤ) Refusal) → NumberIs b k r → r ≡ Ok x
    unfolding number_on
    number_answered x w r f =
        let d = line_written room exit n k (number_on k x) (λ (a : List ℕ). put_number (width_of k) a x) w in
        let o = on_both k (number_fits (kind_of k) (width_of k) x) d.fits in
        let y = allowed (record { known = omega (arith, o.0); sorted = number_sort (kind_of k) (width_of k) x o.1 }) in
        let e = reads_answer b (value_start k) (width_of k) (is_numeric true b (value_start k) (width_of k)) (number_in b k) x (number_line_back k x room d.fits d.room_is b (rw d.left at stands) (field_come o.0)) in
        unique_number_field b k r (Ok x) f (y, sym e.2)

    pub time_answered : (t : Option Moment) → WritesTimeLine room k t (Ok n) exit → (r : Result (Option Moment) Refusal) → TimeIs b k (is_long (kind_of k)) r → r ≡ Ok t
    unfolding time_on
    time_answered t w r f =
        let long = is_long (kind_of k) in
        let d = line_written room exit n k (time_on k t) (λ (a : List ℕ). put_general (digits_of long) a t) w in
        let o = on_both k (time_fits (kind_of k) t) d.fits in
        let y = allowed (record { known = omega (arith, o.0); sorted = time_sort (kind_of k) t o.1 }) in
        let e = reads_answer b (value_start k) (digits_of long + 1) (is_general (digits_of long) b (value_start k)) (time_in b k long) t (time_line_back k t room d.fits d.room_is b (rw d.left at stands) (field_come o.0)) in
        unique_time_of b k long r (Ok t) f (y, sym e.2)
