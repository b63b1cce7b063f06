-- THE CUT, WHOLE (02, request Three): each line of its main header fits, so that the header with those lines fits the list, and the result is a product. The
-- times are valid since those of the records are; the name is a text since it was one. Assumes nothing.
use Prim.Native.Nat.{ℕ, suc, ◌+◌, ◌-◌, ◌*◌, ◌/◌, ◌%◌, ◌^◌, ◌≤◌, ◌<◌}
use native.Mathlib.Decide.{dec_lt}
use native.Mathlib.Omega.{arith}
use mathlib.Core.Path.{◌≡◌, refl}
use mathlib.Core.Bool.{Bool, true, false, cond, ◌&&◌}
use mathlib.Core.List.Memᴰ.{head as top}
use mathlib.Core.List.Memᴰ.{not-nil as nil}
use mathlib.Core.List.Memᴰ.{tail as pop}
use mathlib.Core.List.{List, [], ◌∷◌, ◌++◌, Memᴰ as In}
use borrow.Author.Tests.{eq-eqb, lt-ltb, leb-true}
use lib.Dec.{eqb}
use lib.ListN.{length, get_or, take, drop, replicate, length-append, length-take, length-drop, get_or-append, get_or-eq_default}
use lib.Seq.{get_or-take, get_or-drop, get_or-append-add, length-take-le}
use Rattle.meter.specs.Integer.{Bytes, be_at}
use Rattle.meter.specs.Time.{last_milli, is_time, time_of, time_at, compared}
use Rattle.meter.specs.General.{moment_of, put_moment, put_x, run_of, lead, fits_general}
use Rattle.std.specs.declared.option.Option.TheVariants.{Some, None}
use Rattle.std.specs.declared.option.Option.{Option}
use Rattle.meter.specs.declared.general.Moment.{Moment}
use Rattle.meter.specs.declared.time.Time.{Time}
use Rattle.meter.specs.Instant as T
use Rattle.meter.proofs.IntegerLaws.{be_at_lt}
use Rattle.meter.proofs.GeneralRuns.{each_in, in_each}
use Rattle.meter.proofs.GeneralRuns.{In as Within}
use Rattle.meter.proofs.GeneralWrite.{moment_digits, moment_zed, general_length}
use Rattle.meter.proofs.GeneralTime.{moment_valid}
use Rattle.record.specs.Times.{is_after, timed_at}
use Rattle.record.proofs.FieldLaws.{both}
use Rattle.text.specs.Field.{is_text, is_value}
use Rattle.text.specs.Writing.{fits_text}
use Rattle.mphr.specs.Layout.{fields, widths, kinds, width_of, kind_of, line_start}
use Rattle.mphr.specs.Table.{valued}
use Rattle.mphr.specs.Lines.{text_fits, number_fits, time_fits, is_long}
use Rattle.demands.specs.Product.{size, Meets}
use Rattle.parts.specs.Parts.{bytes, bytes_of, count, Built, main_of, records_at}
use Rattle.parts.specs.Only.{only}
use Rattle.parts.specs.Cut.{Window, is_chosen, cut_parts}
use Rattle.parts.specs.Rewritten.{value_of, text, number, time, whole, spelling, fits_line, Rewritten, Anew, anew, count_lines, Holdable}
use Rattle.parts.specs.CutHeader.{sooner, later, first_from, last_from, first_start, last_stop, to_second, stamp, renamed, sensing_start, sensing_end, other_lines, cut_values}
use Rattle.parts.proofs.OnlyLaws.{only_in}
use Rattle.parts.proofs.Built.{built_meets, meets_built}
use Rattle.parts.proofs.CutLaws.{cut_tiles}
use Rattle.parts.proofs.HeaderLaws.{AllFit, values_fit, counts_are, rewritten_fits}

-- ---- the size and the totals
pub count_most : (c : ℕ) (rs : List (List ℕ)) → count c rs ≤ length rs
count_most c [] = omega arith
count_most c (r ∷ rs) = go (eqb (get_or r 0 0) c) (count_most c rs)
  where
    go : (b : Bool) → count c rs ≤ length rs → cond b 1 0 + count c rs ≤ suc (length rs)
    go true h = omega arith
    go false h = omega arith

-- the lines of numbers, computed
module _ (n : ℕ) where
  size_line : n ≤ 2147483647 → fits_line 28 (whole n) ≡ true
  unfolding kind_of kinds width_of widths fields number_fits
  size_line h = lt-ltb n 100000000000 (omega arith)

  module _ (h : n ≤ 999999) where
    line_55 : fits_line 55 (whole n) ≡ true
    unfolding kind_of kinds width_of widths fields number_fits
    line_55 = lt-ltb n 1000000 (omega arith)

    line_56 : fits_line 56 (whole n) ≡ true
    unfolding kind_of kinds width_of widths fields number_fits
    line_56 = lt-ltb n 1000000 (omega arith)

    line_57 : fits_line 57 (whole n) ≡ true
    unfolding kind_of kinds width_of widths fields number_fits
    line_57 = lt-ltb n 1000000 (omega arith)

    line_58 : fits_line 58 (whole n) ≡ true
    unfolding kind_of kinds width_of widths fields number_fits
    line_58 = lt-ltb n 1000000 (omega arith)

    line_59 : fits_line 59 (whole n) ≡ true
    unfolding kind_of kinds width_of widths fields number_fits
    line_59 = lt-ltb n 1000000 (omega arith)

    line_60 : fits_line 60 (whole n) ≡ true
    unfolding kind_of kinds width_of widths fields number_fits
    line_60 = lt-ltb n 1000000 (omega arith)

    line_61 : fits_line 61 (whole n) ≡ true
    unfolding kind_of kinds width_of widths fields number_fits
    line_61 = lt-ltb n 1000000 (omega arith)

    line_62 : fits_line 62 (whole n) ≡ true
    unfolding kind_of kinds width_of widths fields number_fits
    line_62 = lt-ltb n 1000000 (omega arith)

    line_63 : fits_line 63 (whole n) ≡ true
    unfolding kind_of kinds width_of widths fields number_fits
    line_63 = lt-ltb n 1000000 (omega arith)

pub counts_fit : (rs : List (List ℕ)) (l : List Anew) → Holdable rs → AllFit l → AllFit (count_lines rs l)
counts_fit rs l h f =
    let most : (c : ℕ) → count c rs ≤ 999999 = λ c. omega (arith, count_most c rs, h.all) in (
      size_line (3307 + bytes rs) h.size,
      (
        line_55 (suc (length rs)) h.all,
        (
          line_56 1 (omega arith),
          (
            line_57 (count 2 rs) (most 2),
            (
              line_58 (count 3 rs) (most 3),
              (
                line_59 (count 4 rs) (most 4),
                (
                  line_60 (count 5 rs) (most 5),
                  (
                    line_61 (count 6 rs) (most 6),
                    (
                      line_62 (count 7 rs) (most 7),
                      (line_63 (count 8 rs) (most 8), f),
                    ),
                  ),
                ),
              ),
            ),
          ),
        ),
      ),
    )

-- ---- times
abbrev pub Valid : Option Time → Type 0
Valid None = Unit
Valid (Some t) = (t.day < 65536) × (t.milli ≤ last_milli t.day)

valid_bits : (bits : ℕ) → bits < 256 ^ 6 → is_time (time_of bits) ≡ true → Valid (time_of bits)
valid_bits bits h e = go (eqb bits 0xffff_ffff_ffff) e
  where
    go : (b : Bool) → is_time (cond b None (T.At (bits / 0x1_0000_0000) (bits % 0x1_0000_0000))) ≡ true → Valid (cond b None (T.At (bits / 0x1_0000_0000) (bits % 0x1_0000_0000)))
    go true e = tt
    go false e = (omega arith, leb-true (bits % 0x1_0000_0000) (last_milli (bits / 0x1_0000_0000)) e)

picked : (b : Bool) (t u : Option Time) → Valid t → Valid u → Valid (cond b t u)
picked true t u v w = v
picked false t u v w = w

valid_sooner : (t u : Option Time) → Valid t → Valid u → Valid (sooner t u)
valid_sooner None u v w = w
valid_sooner (Some t) u v w = picked (is_after (compared (T.At t.day t.milli) u)) u (T.At t.day t.milli) w v

valid_later : (t u : Option Time) → Valid t → Valid u → Valid (later t u)
valid_later None u v w = w
valid_later (Some t) u v w = picked (is_after (compared u (T.At t.day t.milli))) u (T.At t.day t.milli) w v

pub own_times : (r : List ℕ) → timed_at r 0 ≡ true → (is_time (time_at r 8) ≡ true) × (is_time (time_at r 14) ≡ true)
unfolding timed_at
own_times r e = both (is_time (time_at r 8)) (is_time (time_at r 14)) (both (is_time (time_at r 8) && is_time (time_at r 14)) _ e).0

-- a time of six bytes
pub time_valid : (r : List ℕ) (at : ℕ) → Bytes r → is_time (time_at r at) ≡ true → Valid (time_at r at)
time_valid r at f = valid_bits (be_at r at 6) (be_at_lt r f at 6)

first_valid : (t : Option Time) (rs : List (List ℕ)) → Valid t → ((r : List ℕ) → In r rs → Valid (time_at r 8)) → Valid (first_from t rs)
first_valid t [] v f = v
first_valid t (r ∷ rs) v f = first_valid (sooner t (time_at r 8)) rs (valid_sooner t (time_at r 8) v (f r (top refl))) (λ x n. f x (pop n))

last_valid : (t : Option Time) (rs : List (List ℕ)) → Valid t → ((r : List ℕ) → In r rs → Valid (time_at r 14)) → Valid (last_from t rs)
last_valid t [] v f = v
last_valid t (r ∷ rs) v f = last_valid (later t (time_at r 14)) rs (valid_later t (time_at r 14) v (f r (top refl))) (λ x n. f x (pop n))

second_fits : (t : Option Time) → Valid t → fits_general false (to_second t) ≡ true
unfolding moment_of
second_fits None v = refl
second_fits (Some t) (h, l) =
    let e : t.milli / 1000 * 1000 % 1000 ≡ 0 = omega arith in
    rw (moment_valid t.day (t.milli / 1000 * 1000) h (omega arith), eq-eqb (t.milli / 1000 * 1000 % 1000) 0 e)

-- ---- texts
abbrev pub Print : List ℕ → Type 0
Print xs = (j : ℕ) → j < length xs → Within 32 126 (get_or xs j 0)

pub print_append : (xs ys : List ℕ) → Print xs → Print ys → Print (xs ++ ys)
print_append xs ys p q j h = go (dec_lt j (length xs))
  where
    go : Dec (j < length xs) → Within 32 126 (get_or (xs ++ ys) j 0)
    go (yes l) = rw (get_or-append xs ys 0 j l) (p j l)
    go (no l) =
        let e : length xs + (j - length xs) ≡ j = omega (arith, l) in
        let b : Within 32 126 (get_or (xs ++ ys) (length xs + (j - length xs)) 0) = rw (get_or-append-add xs ys (j - length xs) 0) (q (j - length xs) (omega (arith, l, length-append xs ys))) in
        rw e at b

pub print_take : (n : ℕ) (xs : List ℕ) → Print xs → Print (take n xs)
print_take n xs p j h =
    let l = length-take n xs in
    rw (get_or-take n xs j 0 (omega (arith, l))) (p j (omega (arith, l)))

pub print_drop : (n : ℕ) (xs : List ℕ) → Print xs → Print (drop n xs)
print_drop n xs p j h = rw (get_or-drop n xs j 0) (p (n + j) (omega (arith, length-drop n xs)))

none_text : Print (stamp None)
unfolding put_x run_of lead
none_text j h = let z : 0 + j ≡ j = omega arith in rw z at (each_in 32 126 (stamp None) 0 15 test j h)
  where
    test : is_text (stamp None) 0 15 ≡ true
    test = refl

pub stamp_long : (g : Option Moment) → length (stamp g) ≡ 15
stamp_long g = general_length 14 (replicate 15 0) g

stamp_text : (g : Option Moment) → Print (stamp g)
stamp_text None j h = none_text j h
stamp_text (Some t) j h = go (dec_lt j 14)
  where
    go : Dec (j < 14) → Within 32 126 (get_or (put_moment 14 (replicate 15 0) t) j 0)
    go (yes l) = let z : 0 + j ≡ j = omega arith in let d = rw z at (moment_digits 14 (replicate 15 0) t (omega arith) (omega arith) j l) in (omega arith, omega arith)
    go (no l) =
        let e : j ≡ 14 = omega (arith, l, stamp_long (Some t)) in
        rw (e, moment_zed 14 (replicate 15 0) t (omega arith) (omega arith)) (omega arith, omega arith)

module _ (n : List ℕ) (f l : Option Moment) (long : length n ≡ 67) (p : Print n) where
  renamed_long : length (renamed n f l) ≡ 67
  renamed_long =
      simp (length-append, length-take, length-drop, stamp_long)
      (omega arith)

  renamed_text : Print (renamed n f l)
  renamed_text =
      print_append (take 16 n) _ (print_take 16 n p)
      (print_append (stamp f) _ (stamp_text f)
      (print_append (take 1 (drop 31 n)) _ (print_take 1 (drop 31 n) (print_drop 31 n p))
      (print_append (stamp l) _ (stamp_text l) (print_drop 47 n p))))

  renamed_fits : fits_text 67 (renamed n f l) ≡ true
  renamed_fits = rw (eq-eqb (length (renamed n f l)) 67 renamed_long) (in_each 32 126 (renamed n f l) 0 67 (λ j h. let z : 0 + j ≡ j = omega arith in rw z (renamed_text j (omega (arith, renamed_long)))))

pub name_width : width_of 0 ≡ 67
unfolding width_of widths fields
name_width = refl

pub name_start : line_start 0 ≡ 20
unfolding line_start
name_start = refl

pub name_line : (t : List ℕ) → fits_text 67 t ≡ true → fits_line 0 (text t) ≡ true
unfolding kind_of kinds width_of widths fields text_fits
name_line t e = e

pub name_text : (m : List ℕ) → valued m 0 ≡ true → is_text m 52 67 ≡ true
unfolding valued is_value kind_of kinds width_of widths fields line_start
name_text m e = e

line_10 : (g : Option Moment) → fits_general false g ≡ true → fits_line 10 (time g) ≡ true
unfolding kind_of kinds fields time_fits
line_10 g e = e

-- a time of line 10 or 11 is spelled as its 15 bytes
pub stamp_10 : (m : List ℕ) (g : Option Moment) → spelling m 10 (time g) ≡ stamp g
unfolding kind_of kinds width_of widths fields is_long
stamp_10 m g = refl

pub stamp_11 : (m : List ℕ) (g : Option Moment) → spelling m 11 (time g) ≡ stamp g
unfolding kind_of kinds width_of widths fields is_long
stamp_11 m g = refl

line_11 : (g : Option Moment) → fits_general false g ≡ true → fits_line 11 (time g) ≡ true
unfolding kind_of kinds fields time_fits
line_11 g e = e

pub unset_lines : AllFit (anew 64 (number None) ∷ anew 65 (number None) ∷ anew 66 (number None) ∷ anew 67 (number None) ∷ anew 68 (number None) ∷ anew 69 (number None) ∷ anew 70 (number None) ∷ anew 71 (text (84 ∷ [])) ∷ [])
unfolding kind_of kinds width_of widths fields number_fits text_fits run_of lead
unset_lines = (refl, (refl, (refl, (refl, (refl, (refl, (refl, (refl, tt))))))))

module _ {m : List ℕ} {rs : List (List ℕ)} (b : Built m rs) where
  pub name_long : length (value_of m 0) ≡ 67
  name_long = rw (name_width, name_start) (length-take-le 67 (drop 52 m) (omega (arith, length-drop 52 m, b.fits.long)))

  pub name_prints : Print (value_of m 0)
  name_prints j h =
      let l : j < 67 = omega (arith, name_long) in
      rw (name_width, name_start, get_or-take 67 (drop 52 m) j 0 l, get_or-drop 52 m j 0) (each_in 32 126 m 52 67 (name_text m (b.fits.header.lines 0 (omega arith)).1) j l)

module _ {m : List ℕ} {rs : List (List ℕ)} (w : Window) (b : Built m rs) (byte : (r : List ℕ) → In r rs → Bytes r) where
  start_valid : (r : List ℕ) → In r (only (is_chosen w) rs) → Valid (time_at r 8)
  start_valid r n =
      let i = (only_in (is_chosen w) r rs n).0 in
      time_valid r 8 (byte r i) (own_times r (b.tiles.own r i).times).0

  stop_valid : (r : List ℕ) → In r (only (is_chosen w) rs) → Valid (time_at r 14)
  stop_valid r n =
      let i = (only_in (is_chosen w) r rs n).0 in
      time_valid r 14 (byte r i) (own_times r (b.tiles.own r i).times).1

  cut_lines_fit : AllFit (other_lines m w rs)
  cut_lines_fit =
      let f = second_fits (first_start (only (is_chosen w) rs)) (first_valid None (only (is_chosen w) rs) tt start_valid) in
      let l = second_fits (last_stop (only (is_chosen w) rs)) (last_valid None (only (is_chosen w) rs) tt stop_valid) in (
        name_line (renamed (value_of m 0) (sensing_start m w rs) (sensing_end m w rs)) (renamed_fits (value_of m 0) (sensing_start m w rs) (sensing_end m w rs) (name_long b) (name_prints b)),
        (line_10 (sensing_start m w rs) f, (line_11 (sensing_end m w rs) l, unset_lines)),
      )

  -- THE LAW: a header with the lines of the cut, before the records of the cut, is a product
  pub cut_is_built : {m' : List ℕ} → Holdable (cut_parts m w rs) → Rewritten m m' (cut_values m w rs) → Built m' (cut_parts m w rs)
  cut_is_built h r =
      let t = cut_tiles w b h.size in
      record {
        fits = rewritten_fits r (λ k _. values_fit (count_lines (cut_parts m w rs) (other_lines m w rs)) (counts_fit (cut_parts m w rs) (other_lines m w rs) h cut_lines_fit) k) b.fits.header t.order (counts_are (cut_parts m w rs) (other_lines m w rs)) h.size;
        tiles = t;
      }

-- ---- OF BYTES
take_byte : (n : ℕ) (x : List ℕ) → Bytes x → Bytes (take n x)
take_byte n x f k = go (dec_lt k n)
  where
    go : Dec (k < n) → get_or (take n x) k 0 < 256
    go (yes h) = rw (get_or-take n x k 0 h) (f k)
    go (no h) = rw (get_or-eq_default (take n x) 0 {n = k} (omega (arith, h, length-take n x))) (omega arith)

pub parts_byte : (a : List ℕ) → Bytes a → (l : List ℕ) (r : List ℕ) → In r (records_at a l) → Bytes r
parts_byte a f [] r n = absurd (nil n)
parts_byte a f (i ∷ l) r (top e) = rw e (take_byte (size a i) (drop i a) (λ k. rw (get_or-drop i a k 0) (f (i + k))))
parts_byte a f (i ∷ l) r (pop n) = parts_byte a f l r n

-- "The result is accepted"
pub cut_accepted : (a m' : List ℕ) (w : Window) → Bytes a → (t : Meets a) → Holdable (cut_parts (main_of a) w (records_at a t.list)) → Rewritten (main_of a) m' (cut_values (main_of a) w (records_at a t.list)) → Meets (bytes_of m' (cut_parts (main_of a) w (records_at a t.list)))
cut_accepted a m' w f t h r = built_meets m' (cut_parts (main_of a) w (records_at a t.list)) (cut_is_built w (meets_built a t) (parts_byte a f t.list) h r)
