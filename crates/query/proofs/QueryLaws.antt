-- The queries: the walk to record k, whose header stands where the judge waits; the fields of a main header that the judge let pass, which
-- read as numbers and times of their kinds. By the rows of the table that are not shown. Assumes nothing.
use Prim.Native.Nat.{ℕ, zero, suc, ◌+◌, ◌^◌, ◌≤◌, ◌<◌}
use native.Mathlib.Nat.{pow-le-pow_right}
use native.Mathlib.Decide.{dec_le, dec_lt}
use native.Mathlib.Omega.{arith}
use mathlib.Core.Path.{◌≡◌, refl, sym, ap, ◌∙◌}
use mathlib.Core.Bool.{Bool, true, false, cond, not, ◌&&◌, ◌||◌, true≢false}
use mathlib.Core.Logic.{◌⊎◌, inl, inr, ⊎_elim}
use mathlib.Core.List.{List}
use lib.Dec.{T, leb, leb→le, eqb, lit<}
use lib.IntN.{ℤ, pos, neg_ℤ, nat_abs}
use lib.Ieee.{binary64, div, of_int, of_bits, round, units, odd, size, climb, span}
use lib.ListN.{length, get_or, take}
use lib.Seq.{take_all, length-take-le, get_or-take}
use borrow.Author.Tests.{le-leb, lt-leb, eq-eqb, eqb-true}
use Rattle.calendar.specs.declared.Refusal.{Refusal}
use Rattle.calendar.specs.Said.{Said, answer, refusal, refused, said}
use Rattle.calendar.proofs.Range.{below, at}
use Rattle.meter.specs.Integer.{be_at}
use Rattle.meter.specs.Time.{is_time, time_at}
use Rattle.meter.specs.Scaled.{is_scale}
use Rattle.meter.proofs.ReadingLaws.{minus?, one_rounding}
use Rattle.meter.specs.General.{digits_of, number_of, is_general, general_read_at}
use Rattle.record.specs.Header.{is_class, is_group, is_lead, is_header, header_at, header_read_at}
use Rattle.record.specs.Times.{timed_at}
use Rattle.record.proofs.FieldLaws.{both}
use Rattle.record.proofs.HeaderLaws.{is_header_lem}
use Rattle.text.specs.Field.{is_x, spaces, is_number, integer_of, is_value, number_read_at}
use Rattle.text.specs.declared.Kind.{Kind}
use Rattle.text.specs.declared.Kind.TheVariants.{Text, Unsigned, Count, Signed, Time, LongTime}
use Rattle.std.specs.declared.option.Option.TheVariants.{Some, None}
use Rattle.std.specs.declared.result.Result.TheVariants.{Ok, Err}
use Rattle.std.specs.declared.option.Option.{Option}
use Rattle.std.specs.declared.result.Result.{Result}
use Rattle.meter.specs.declared.general.Moment.{Moment}
use Rattle.text.proofs.Exact.{is_small}
use Rattle.text.proofs.Meaning.{number_means, means_number}
use Rattle.tables.specs.Lawful.{Same}
use Rattle.tables.proofs.Passing.{passes}
use Rattle.text.proofs.Same.{value_same}
use Rattle.mphr.specs.Layout.{fields, widths, kinds, width_of, kind_of, line_start, field_of}
use Rattle.mphr.specs.Table.{headed, valued, bad_header, bad_times}
use Rattle.mphr.specs.declared.layout.Place.{Place}
use Rattle.mphr.proofs.LayoutLaws.{start_72, start_next, start_mono}
use Rattle.mphr.proofs.Export.{clean_fine, fine_valued}
use Rattle.judge.specs.Table as J
use Rattle.judge.specs.Table.{Site, site, first, class_at, size_at, Sound, Leads, here, on, next, one_more, unknown, bad_times as bad-times-at, main, Clean, Given, Open, Judged}
use Rattle.query.specs.Query.{refusal_of, StartOf, Reachable, main_part, sort_of, times_of, sort_number, FieldOf, Denied, faulty, short, not_a_field, Allowed, value_start, PartIs, number_in, NumberIs, time_in, TimeIs, latitude_field, thousand, degrees, Exact}
use Rattle.judge.specs.declared.arrival.Arrival.{Arrival}
use Rattle.judge.specs.declared.arrival.Arrival.TheVariants as A
use Rattle.query.specs.declared.Sort.{Sort}
use Rattle.query.specs.declared.Sort.TheVariants.{Numbers, Times, LongTimes, Texts}
use Rattle.judge.proofs.WayLaws.{leads_le, counts, snoc, linear}
use Rattle.judge.proofs.Covering.{clean_main}

-- ---- what an answer says
pub same_answer : {A : Type 0} {x y : A} → ◌≡◌ {A = Said A} (answer x) (answer y) → x ≡ y
same_answer e = cc

pub no_answer : {A : Type 0} {r : Refusal} {y : A} → ◌≡◌ {A = Said A} (refused r) (answer y) → ⊥
no_answer e = let z : ◌≡◌ {A = ℕ} 0 1 = cc in omega arith

-- the judge's refusal is handed on
pub handed : {b : List ℕ} {j : Arrival} {r x : Refusal} → j ≡ A.Refused x → r ≡ refusal_of j → Judged b j → Given b r.number r.place
handed {b} {j} {r} {x} e q g =
    let f : r ≡ x = q ∙ ap refusal_of e in
    rw f (rw e at g)

-- ---- a number tells one sort
abbrev sort_from : ℕ → Sort
sort_from zero = Numbers
sort_from (suc zero) = Times
sort_from (suc (suc zero)) = LongTimes
sort_from (suc (suc (suc n))) = Texts

from_number : (s : Sort) → sort_from (sort_number s) ≡ s
from_number Numbers = refl
from_number Times = refl
from_number LongTimes = refl
from_number Texts = refl

pub one_sort : {s t : Sort} → sort_number s ≡ sort_number t → s ≡ t
one_sort {s} {t} e = sym (from_number s) ∙ ap sort_from e ∙ from_number t

-- ---- the walk to record k
goes_count : {a : List ℕ} {x y : Site} → Leads a x y → x.count < y.count → Sound a x.at × Leads a (next a x) y
goes_count here h = absurd (omega arith)
goes_count (on s l) h = (s, l)

pub open_reach : {a : List ℕ} {c e k : ℕ} → Open a c e → k < c → Reachable a k
open_reach {c = c} {e = e} o h = ⊎_elim (λ z. absurd (omega (arith, z.1))) (λ w. record { count = c; end = e; whole = w.1; below = h }) o.whole

abbrev pub last_of : {a : List ℕ} {k : ℕ} → Reachable a k → Site
last_of r = site r.count r.end r.whole.prev r.whole.tally

-- n records are passed, and the next starts at byte i
pub record Walking (a : List ℕ) (k n i : ℕ) : Type 0 where
  pub asked : Reachable a k
  pub prev : ℕ
  pub tally : List ℕ
  pub way : Leads a first (site n i prev tally)
  pub rest : Leads a (site n i prev tally) (last_of asked)
  pub upto : n ≤ k

pub walking_first : {a : List ℕ} {k : ℕ} → Reachable a k → (k ≡ 0 → ⊥) → Walking a k 1 3307
walking_first r h = record { asked = r; prev = first.prev; tally = first.tally; way = here; rest = r.whole.way; upto = omega (arith, h) }

-- the record at hand is sound and has come
pub record Steady (a : List ℕ) (i : ℕ) : Type 0 where
  pub least : 20 ≤ size_at a i
  pub come : i + size_at a i ≤ length a

pub steady : {a : List ℕ} {k n i : ℕ} → Walking a k n i → n < k → Steady a i
steady w h =
    let e = goes_count w.rest (omega (arith, w.asked.below)) in
    record { least = e.0.least; come = omega (arith, leads_le e.1, w.asked.whole.come) }

pub walking_next : {a : List ℕ} {k n i z : ℕ} → Walking a k n i → n < k → z ≡ size_at a i → Walking a k (n + 1) (i + z)
walking_next {a} {k} {n} {i} w h e =
    let g = goes_count w.rest (omega (arith, w.asked.below)) in
    rw e (record { asked = w.asked; prev = class_at a i; tally = one_more w.tally (class_at a i); way = snoc w.way g.0; rest = g.1; upto = omega arith })

-- ---- the header of record k
lead_at : (a : List ℕ) (i : ℕ) → is_class (class_at a i) && is_group (get_or a (i + 1) 0) ≡ true → 20 ≤ size_at a i → is_lead (get_or a i 0) (get_or a (i + 1) 0) (be_at a (i + 4) 4) ≡ true
unfolding is_lead
lead_at a i k l =
    let b = both (is_class (get_or a i 0)) (is_group (get_or a (i + 1) 0)) k in
    rw (b.0, b.1, le-leb 20 (be_at a (i + 4) 4) l)

header_is : (a : List ℕ) (i : ℕ) → is_lead (get_or a i 0) (get_or a (i + 1) 0) (be_at a (i + 4) 4) ≡ true → timed_at a i ≡ true → is_header (header_at a i) ≡ true
unfolding header_at timed_at
header_is a i l t =
    let p = both _ _ t in
    let q = both (is_time (time_at a (i + 8))) (is_time (time_at a (i + 14))) p.0 in
    is_header_lem (header_at a i) l q.0 q.1

main_lead : (a : List ℕ) → headed a ≡ true → is_lead (get_or a 0 0) (get_or a 1 0) (be_at a 4 4) ≡ true
unfolding headed is_lead is_class is_group
main_lead a h =
    let p = both _ _ h in
    let q = both _ _ p.0 in
    let r = both _ _ q.1 in
    rw (eqb-true (get_or a 0 0) 1 q.0, eqb-true (get_or a 1 0) 0 r.0, eqb-true (be_at a 4 4) 3307 p.1)

pub record Headed (a : List ℕ) (i : ℕ) : Type 0 where
  pub come : i + 20 ≤ length a
  pub header : is_header (header_at a i) ≡ true

module _ {a : List ℕ} (clean : Clean a) where
  main_headed : 3307 ≤ length a → Headed a 0
  main_headed h = record {
    come = omega arith;
    header =
        header_is a 0
        (main_lead a (passes (headed a) (λ e. clean (main (bad_header e)) (omega arith))))
        (passes (timed_at a 0) (λ e. clean (main (bad_times e)) (omega arith)));
  }

  later_headed : {x : Site} → 3307 ≤ length a → Leads a first x → Sound a x.at → x.at + 20 ≤ length a → Headed a x.at
  later_headed {x} h w s l =
      let f = clean_fine h (clean_main clean) in
      record {
        come = l;
        header =
            header_is a x.at
            (lead_at a x.at (passes _ (λ e. clean (J.at f x w (unknown s.room e)) l)) s.least)
            (passes (timed_at a x.at) (λ e. clean (J.at f x w (bad-times-at s.room e)) l));
      }

  reach_come : {k : ℕ} → Reachable a k → 3307 ≤ length a
  reach_come r = omega (arith, leads_le r.whole.way, r.whole.come)

  -- a record of which the start is on the way is among the whole ones
  reached : {k : ℕ} {x : Site} → Reachable a k → Leads a first x → x.count ≡ k → Headed a x.at
  reached {k} {x} r w e = ⊎_elim go (λ l. absurd (omega (arith, counts l, r.below))) (linear w r.whole.way)
    where
      go : Leads a x (last_of r) → Headed a x.at
      go l =
          let g = goes_count l (omega (arith, r.below)) in
          later_headed (reach_come r) w g.0 (omega (arith, g.0.least, leads_le g.1, r.whole.come))

  pub start_headed : {k i : ℕ} → Reachable a k → StartOf a k i → Headed a i
  start_headed r (inl z) = rw z.1 (main_headed (reach_come r))
  start_headed r (inr s) = rw (← s.begins) (reached r s.way s.numbered)

pub header_read : {a : List ℕ} {i : ℕ} → Headed a i → header_read_at a i ≡ answer (header_at a i)
header_read {a} {i} h = rw (le-leb (i + 20) (length a) h.come, h.header)

-- ---- the main header's bytes
pub record Come (n len : ℕ) : Type 0 where
  pub within : n ≤ len
  pub most : n ≤ 3307
  pub all : n < 3307 → n ≡ len

pub part_main : (a : List ℕ) (n : ℕ) → Come n (length a) → take n a ≡ main_part a
part_main a n c = go (dec_lt n 3307)
  where
    go : Dec (n < 3307) → take n a ≡ take 3307 a
    go (yes l) = take_all n a (omega (arith, c.all l)) ∙ sym (take_all 3307 a (omega (arith, c.all l)))
    go (no l) = let e : n ≡ 3307 = omega (arith, c.most, l) in rw e

main_length : (a : List ℕ) → 3307 ≤ length a → 3307 ≤ length (main_part a)
main_length a h = omega (arith, length-take-le 3307 a h)

main_same : (a : List ℕ) → Same (main_part a) a 3307
main_same a = record { byte = λ j h. get_or-take 3307 a j 0 h }

-- ---- the place of a field
pub not_known : {k : ℕ} {r : Refusal} → refused r ≡ field_of k → k ≤ 71 → ⊥
not_known {k} {r} e h = let f : ◌≡◌ {A = Said Place} (refused r) (answer _) = rw (le-leb k 71 h) at e in no_answer f

pub record PlaceIs (k : ℕ) (p : Place) : Type 0 where
  pub known : k ≤ 71
  pub start_is : p.start ≡ line_start k
  pub width_is : p.width ≡ width_of k
  pub kind_is : p.kind ≡ kind_of k

pub placed : {k : ℕ} {p : Place} → answer p ≡ field_of k → PlaceIs k p
placed {k} {p} e = go (dec_le k 71)
  where
    go : Dec (k ≤ 71) → PlaceIs k p
    go (yes h) =
        let f : answer p ≡ answer (record { start = line_start k; width = width_of k; kind = kind_of k }) = rw (le-leb k 71 h) at e in
        let g = same_answer f in
        record { known = h; start_is = ap (λ (x : Place). x.start) g; width_is = ap (λ (x : Place). x.width) g; kind_is = ap (λ (x : Place). x.kind) g }
    go (no h) =
        let f : ◌≡◌ {A = Said Place} (answer p) (refusal 22 0) = rw (lt-leb k 71 (omega (arith, h))) at e in
        let z : ◌≡◌ {A = ℕ} 0 1 = cc in
        absurd (omega arith)

pub start_small : {k : ℕ} → k ≤ 71 → value_start k + width_of k + 1 ≤ 3307
start_small {k} h =
    let m : suc k ≤ 72 = omega arith in
    omega (arith, start_next k, start_mono m, start_72)

-- ---- the value of a field that may be read
module _ {a : List ℕ} {k : ℕ} {sort : Sort} (w : Allowed a k sort) where
  value_here : is_value (kind_of k) a (value_start k) (width_of k) ≡ true
  unfolding valued
  value_here =
      let f = clean_fine (main_length a w.come) (clean_main w.clean) in
      sym (value_same (main_same a) (kind_of k) (value_start k) (width_of k) (omega (arith, start_small w.field.known))) ∙ fine_valued f k (omega (arith, w.field.known))

  value_come : value_start k + width_of k ≤ length a
  value_come = omega (arith, start_small w.field.known, w.come)

-- a number's field is 11 bytes at most
is_narrow : ℕ → Bool
is_narrow k = not (eqb (sort_number (sort_of (kind_of k))) 0) || leb (width_of k) 11

narrow : T (below is_narrow 72)
unfolding is_narrow kind_of kinds width_of widths fields
narrow = tt

pub number_narrow : (k : ℕ) → FieldOf k Numbers → width_of k ≤ 11
unfolding is_narrow
number_narrow k f =
    let t : T (is_narrow k) = at is_narrow 72 narrow k (omega (arith, f.known)) in
    leb→le (width_of k) 11 (rw (eq-eqb (sort_number (sort_of (kind_of k))) 0 (ap sort_number f.sorted)) at t)

-- a number without a sign is one that may have a sign
unsigned_signed : (a : List ℕ) (i w : ℕ) → is_number false a i w ≡ true → is_number true a i w ≡ true
unsigned_signed a i w e =
    let g = number_means false a i w e in
    means_number true a i w (record {
      spaces = g.spaces;
      sign = g.sign;
      some = g.some;
      blank = g.blank;
      either = ⊎_elim inl (λ x. inr (x.0, refl, x.2)) g.either;
      digits = g.digits;
    })

or_true : (x y : Bool) → x || y ≡ true → (x ≡ true) ⊎ (y ≡ true)
or_true true y e = inl refl
or_true false y e = inr e

number_or_x : (d : Kind) (a : List ℕ) (i w : ℕ) → sort_of d ≡ Numbers → is_value d a i w ≡ true → (is_number true a i w ≡ true) ⊎ (is_x a i w ≡ true)
unfolding is_value
number_or_x Unsigned a i w s v = ⊎_elim (λ e. inl (unsigned_signed a i w e)) inr (or_true _ _ v)
number_or_x Count a i w s v = inl (unsigned_signed a i w v)
number_or_x Signed a i w s v = or_true _ _ v
number_or_x Text a i w s v = absurd (omega (arith, ap sort_number s))
number_or_x Time a i w s v = absurd (omega (arith, ap sort_number s))
number_or_x LongTime a i w s v = absurd (omega (arith, ap sort_number s))

x_or : (x y : Bool) → (y ≡ true) ⊎ (x ≡ true) → x || y ≡ true
x_or true y e = refl
x_or false y (inl e) = e
x_or false y (inr e) = absurd (true≢false (sym e))

number_read : {a : List ℕ} {k i w : ℕ} → PartIs a k Numbers i w → number_read_at true w a i ≡ answer (number_in a k)
number_read {a} {k} p =
    let al = p.allowed in
    let i = value_start k in
    let w = width_of k in
    rw (p.start_is, p.width_is)
    (rw (le-leb (i + w) (length a) (value_come al), le-leb w 17 (omega (arith, number_narrow k al.field)), x_or (is_x a i w) (is_number true a i w) (number_or_x (kind_of k) a i w al.field.sorted (value_here al))))

pub number_told : {a : List ℕ} {k i w : ℕ} (r : Result (Option ℤ) Refusal) → PartIs a k Numbers i w → said r ≡ number_read_at true w a i → NumberIs a k r
number_told (Ok x) p e = (p.allowed, same_answer (e ∙ number_read p))
number_told (Err r) p e = absurd (no_answer (e ∙ number_read p))

time_value : (d : Kind) (long : Bool) (a : List ℕ) (i w : ℕ) → sort_of d ≡ times_of long → is_value d a i w ≡ true → (w ≡ digits_of long + 1) × (is_general (digits_of long) a i ≡ true)
unfolding is_value
time_value Time false a i w s v = let p = both _ _ v in (eqb-true w 15 p.0, p.1)
time_value Time true a i w s v = absurd (omega (arith, ap sort_number s))
time_value LongTime true a i w s v = let p = both _ _ v in (eqb-true w 18 p.0, p.1)
time_value LongTime false a i w s v = absurd (omega (arith, ap sort_number s))
time_value Unsigned false a i w s v = absurd (omega (arith, ap sort_number s))
time_value Unsigned true a i w s v = absurd (omega (arith, ap sort_number s))
time_value Count false a i w s v = absurd (omega (arith, ap sort_number s))
time_value Count true a i w s v = absurd (omega (arith, ap sort_number s))
time_value Signed false a i w s v = absurd (omega (arith, ap sort_number s))
time_value Signed true a i w s v = absurd (omega (arith, ap sort_number s))
time_value Text false a i w s v = absurd (omega (arith, ap sort_number s))
time_value Text true a i w s v = absurd (omega (arith, ap sort_number s))

pub time_read : {a : List ℕ} {k i w : ℕ} (long : Bool) → PartIs a k (times_of long) i w → general_read_at long a i ≡ answer (time_in a k long)
time_read {a} {k} long p =
    let al = p.allowed in
    let v = time_value (kind_of k) long a (value_start k) (width_of k) al.field.sorted (value_here al) in
    rw p.start_is
    (rw (le-leb (value_start k + (digits_of long + 1)) (length a) (omega (arith, v.0, value_come al)), v.1))

pub time_told : {a : List ℕ} {k i w : ℕ} (long : Bool) (r : Result (Option Moment) Refusal) → PartIs a k (times_of long) i w → said r ≡ general_read_at long a i → TimeIs a k long r
time_told long (Ok x) p e = (p.allowed, same_answer (e ∙ time_read long p))
time_told long (Err r) p e = absurd (no_answer (e ∙ time_read long p))

-- ---- a number's field is exact in f64
minus_size : (n : ℕ) → nat_abs (neg_ℤ (pos n)) ≡ n
minus_size zero = refl
minus_size (suc n) = refl

sign_size : (b : Bool) (n : ℕ) → nat_abs (cond b (neg_ℤ (pos n)) (pos n)) ≡ n
sign_size true n = minus_size n
sign_size false n = refl

pub number_exact : {a : List ℕ} {k : ℕ} → Allowed a k Numbers → Exact (number_in a k)
number_exact {a} {k} al = go (is_x a i w) refl (number_or_x (kind_of k) a i w al.field.sorted (value_here al))
  where
    i : ℕ
    i = value_start k

    w : ℕ
    w = width_of k

    go : (b : Bool) → is_x a i w ≡ b → (is_number true a i w ≡ true) ⊎ (is_x a i w ≡ true) → Exact (cond b None (Some (integer_of a i w)))
    go true e v = tt
    go false e (inr x) = absurd (true≢false (sym x ∙ e))
    go false e (inl n) = omega (arith, sign_size (eqb (get_or a (i + spaces a i w) 0) 45) (number_of a i w), is_small true a i w n, pow-le-pow_right {n = 10} (lit< tt) {i = w} {j = 11} (number_narrow k al.field))

-- ---- the code's names
pub short_at : {a : List ℕ} {k n : ℕ} {sort : Sort} → n ≡ length a → Clean (main_part a) → n < 3307 → Denied a k sort 17 n
short_at e c h = let l = rw e at h in rw e (short c l)

-- ---- the ground point
-- ONE ROUNDING: the float that stands for a thousand is one thousand, so degrees are the exact fraction, rounded once
pub thousand_is : thousand ≡ of_int binary64 (pos 1000)
unfolding of_int of_bits round units odd size climb span
thousand_is = refl

pub degrees_rounded : (z : ℤ) → nat_abs z ≤ 2 ^ 53 → degrees z ≡ round binary64 (minus? z) (nat_abs z) 1000
unfolding is_scale
degrees_rounded z h = ap (div binary64 (of_int binary64 z)) thousand_is ∙ one_rounding z (pos 3) refl h

pub latitude_small : (end : Bool) → latitude_field end ≤ 51
latitude_small true = omega arith
latitude_small false = omega arith

pub number_is_exact : {a : List ℕ} {k : ℕ} {x : Option ℤ} → NumberIs a k (Ok x) → Exact x
number_is_exact n = rw n.1 (number_exact n.0)

there : (end : Bool) → FieldOf (latitude_field end + 1) Numbers
unfolding kind_of kinds fields
there true = record { known = omega arith; sorted = refl }
there false = record { known = omega arith; sorted = refl }

pub denied_both : {a : List ℕ} {n p : ℕ} (end : Bool) → Denied a (latitude_field end + 1) Numbers n p → Denied a (latitude_field end) Numbers n p
denied_both end (faulty g) = faulty g
denied_both end (short c h) = short c h
denied_both end (not_a_field c h d) = absurd (d (there end))
