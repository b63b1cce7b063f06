-- "EACH HEADER FIELD READS THE SAME" (02, request Eight): what is right to answer to the record query, for every k, and to each field query and both ground
-- points is right for the other product. The fields are of the main header's bytes, which are the same; a record's header by its start.
-- Assumes nothing.
use Prim.Native.Nat.{ℕ, ◌+◌, ◌≤◌, ◌<◌}
use native.Mathlib.Nat.{le_refl}
use native.Mathlib.Decide.{dec_le}
use native.Mathlib.Omega.{arith}
use mathlib.Core.Path.{◌≡◌, refl, sym, ap, subst, ◌∙◌}
use mathlib.Core.Bool.{Bool, true, false, not, ◌||◌}
use mathlib.Core.Logic.{inl, inr, ⊎_elim}
use mathlib.Core.List.Memᴰ.{head as top}
use mathlib.Core.List.{List, ◌∷◌, Memᴰ as In}
use lib.Dec.{T, eqb, leb, leb→le}
use lib.ListN.{length}
use lib.Seq.{ext_get_or, length-take-le, get_or-take}
use borrow.Author.Tests.{eq-eqb}
use Rattle.calendar.proofs.Range.{below, at}
use Rattle.meter.specs.General.{digits_of}
use Rattle.text.proofs.Alike.{x_alike, integer_alike, general_read_alike}
use Rattle.text.proofs.Same.{field_alike}
use Rattle.tables.specs.Lawful.{Same}
use Rattle.tables.proofs.Laws.{same_back, not_clean}
use Rattle.tables.proofs.Laws as G
use Rattle.mphr.specs.Layout.{fields, widths, kinds, width_of, kind_of}
use Rattle.judge.specs.Table.{Site, first, size_at, Sound, Leads, here, on, table, Clean, Given, Whole, Open, Judged}
use Rattle.judge.specs.declared.arrival.Arrival.{Arrival}
use Rattle.judge.specs.declared.arrival.Arrival.TheVariants.{Waiting, Refused}
use Rattle.judge.proofs.Local.{lawful, leads_on, sound_on, be_on, OpenAt}
use Rattle.judge.proofs.WayLaws.{counts, linear}
use Rattle.query.specs.Query as Q
use Rattle.query.specs.Query.{StartOf, RecordFound, NoRecord, not_yet, RecordIs, main_part, sort_of, times_of, sort_number, FieldOf, Denied, short, not_a_field, Allowed, value_start, PartIs, TextIs, number_in, NumberIs, time_in, TimeIs, latitude_field, point_of, PointIs}
use Rattle.std.specs.declared.option.Option.TheVariants.{Some, None}
use Rattle.std.specs.declared.result.Result.TheVariants.{Ok, Err}
use Rattle.std.specs.declared.option.Option.{Option}
use Rattle.std.specs.declared.result.Result.{Result}
use Rattle.calendar.specs.declared.Refusal.{Refusal}
use Rattle.std.specs.Prelude.{ℤ}
use Rattle.meter.specs.declared.general.Moment.{Moment}
use Rattle.query.specs.declared.GroundPoint.{GroundPoint}
use Rattle.query.specs.declared.Record.{Record}
use Rattle.query.specs.declared.Part.{Part}
use Rattle.query.specs.Found.{part_found}
use Rattle.query.specs.Found.{record_found}
use Rattle.query.proofs.QueryLaws.{same_answer, start_small, time_read, latitude_small}
use Rattle.query.proofs.QueryDetermined.{unique_record_at, unique_text_field, unique_number_field, unique_time_of, unique_ground_point}
use Rattle.payload.specs.Apart.{Apart}
use Rattle.payload.proofs.Twins.{Twins, twins, turned, same_header, same_main, complete, long_enough, alike, sound_over, leads_over, in_way}

-- ---- ARRIVALS: p is what has come of a, q what has come of b, as many bytes
pub record Come (p a : List ℕ) : Type 0 where
  pub same : Same p a (length p)
  pub within : length p ≤ length a

pub all_come : (a : List ℕ) → Come a a
all_come a = record { same = record { byte = λ j h. refl }; within = le_refl (length a) }

module _ {a b p q : List ℕ} (t : Twins a b) (f : Come p a) (g : Come q b) (e : length p ≡ length q) where
  pub clean_come : Clean p
  clean_come = G.clean_on table lawful f.same f.within (complete t).clean

  last_over : {c n : ℕ} {l : List ℕ} {i : ℕ} → 3307 ≤ length p → Leads b first (record { count = c; at = i; prev = n; tally = l }) → (Sound p i → length p < i + size_at p i) → Sound q i → length q < i + size_at q i
  last_over {i = i} h w k s = go (dec_le (i + 20) (length q))
    where
      h' : 3307 ≤ length q
      h' = omega arith

      go : Dec (i + 20 ≤ length q) → length q < i + size_at q i
      go (no d) = omega (arith, d, s.least)
      go (yes d) =
          let sb = sound_on g.same h' d s in
          let m = in_way (turned t) w sb.room in
          let sa = sound_over (turned t) i m sb in
          let sp = sound_on (same_back f.same) h (omega arith) sa in
          let z₁ : size_at q i ≡ size_at b i = be_on g.same (i + 4) 4 (omega arith) in
          let z₂ : size_at b i ≡ size_at a i = (alike (turned t) i m).size in
          let z₃ : size_at p i ≡ size_at a i = be_on f.same (i + 4) 4 (omega arith) in
          omega (arith, k sp, z₁, z₂, z₃, e)

  whole_over : {c i : ℕ} → 3307 ≤ length p → Whole p c i → Whole q c i
  whole_over h w =
      let wb = leads_over t (leads_on f.same h w.way w.come) in
      record {
        prev = w.prev;
        tally = w.tally;
        way = leads_on (same_back g.same) (omega arith) wb (omega (arith, w.come));
        come = omega (arith, w.come);
        last = last_over h wb w.last;
      }

module _ {a b p q : List ℕ} (t : Twins a b) (f : Come p a) (g : Come q b) (e : length p ≡ length q) where
  pub open_over : {c i : ℕ} → Open p c i → Open q c i
  open_over {c} {i} o = record { clean = clean_come (turned t) g f (sym e); whole = go o.whole }
    where
      go : OpenAt p c i → OpenAt q c i
      go (inl z) = inl (omega (arith, z))
      go (inr z) = inr (omega (arith, z.0), whole_over t f g e z.0 z.1)

  pub judged_over : (r : Arrival) → Judged p r → Judged q r
  judged_over (Waiting c i) o = open_over o
  judged_over (Refused r) z = absurd (not_clean z (clean_come t f g e))

-- ---- THE RECORD QUERY
sound_first : {a : List ℕ} {x y : Site} → Leads a x y → x.count < y.count → Sound a x.at
sound_first here h = absurd (omega arith)
sound_first (on s l) h = s

module _ {a b : List ℕ} (t : Twins a b) where
  whole_open : {c i : ℕ} → Open a c i → Whole a c i
  whole_open o = ⊎_elim (λ z. absurd (omega (arith, z.0, long_enough t))) (λ w. w.1) o.whole

  start_in : {c i k : ℕ} {y : Site} → Whole a c i → Leads a first y → y.count ≡ k → k < c → In y.at (0 ∷ t.one.list)
  start_in w l n h = ⊎_elim (λ m. in_way t l (sound_first m (omega arith)).room) (λ m. absurd (omega (arith, counts m))) (linear l w.way)

  start_over : {c e k i : ℕ} → Whole a c e → k < c → StartOf a k i → StartOf b k i × In i (0 ∷ t.one.list)
  start_over w h (inl z) = (inl z, top z.1)
  start_over w h (inr s) =
      (inr (record { spot = s.spot; way = leads_over t s.way; numbered = s.numbered; begins = s.begins }), subst (λ (j : ℕ). In j (0 ∷ t.one.list)) s.begins (start_in w s.way s.numbered h))

  opened : {c e : ℕ} → Open a c e → Open b c e
  opened = open_over t (all_come a) (all_come b) t.repaid.long

  no_record_over : {k n p : ℕ} → NoRecord a k n p → NoRecord b k n p
  no_record_over (Q.NoRecord.faulty g) = absurd (not_clean g (complete t).clean)
  no_record_over (not_yet o h) = not_yet (opened o) h

  record_over : (k : ℕ) (r : Result Record Refusal) → RecordIs a k r → RecordIs b k r
  record_over k (Ok u) f =
      let s = start_over (whole_open f.waiting) f.below f.start in
      record { count = f.count; end = f.end; waiting = opened f.waiting; below = f.below; start = s.0; header = f.header ∙ same_header t u.start s.1 }
  record_over k (Err r) f = no_record_over f

-- ---- THE FIELDS
-- a time's field is as wide as its digits and the last byte
is_wide : Bool → ℕ → Bool
is_wide long k = not (eqb (sort_number (sort_of (kind_of k))) (sort_number (times_of long))) || leb (digits_of long + 1) (width_of k)

wide_short : T (below (is_wide false) 72)
unfolding is_wide kind_of kinds width_of widths fields
wide_short = tt

wide_long : T (below (is_wide true) 72)
unfolding is_wide kind_of kinds width_of widths fields
wide_long = tt

is_wide_lem : (long : Bool) (k : ℕ) → k ≤ 71 → T (is_wide long k)
is_wide_lem true k h = at (is_wide true) 72 wide_long k (omega arith)
is_wide_lem false k h = at (is_wide false) 72 wide_short k (omega arith)

time_wide : (long : Bool) (k : ℕ) → FieldOf k (times_of long) → digits_of long + 1 ≤ width_of k
unfolding is_wide
time_wide long k f =
    leb→le (digits_of long + 1) (width_of k)
    (rw (eq-eqb (sort_number (sort_of (kind_of k))) (sort_number (times_of long)) (ap sort_number f.sorted)) at (is_wide_lem long k f.known))

module _ {a b : List ℕ} (t : Twins a b) where
  -- the first 3,307 bytes, so each text that a field query tells the place of
  pub main_over : main_part a ≡ main_part b
  main_over =
      let x = length-take-le 3307 a (long_enough t) in
      let y = length-take-le 3307 b (long_enough (turned t)) in
      ext_get_or 0 (main_part a) (main_part b) (x ∙ sym y)
      (λ j h. let u : j < 3307 = omega (arith, x) in get_or-take 3307 a j 0 u ∙ t.repaid.main j u ∙ sym (get_or-take 3307 b j 0 u))

  allowed_over : {k : ℕ} {s : _} → Allowed a k s → Allowed b k s
  allowed_over w = record { clean = subst Clean main_over w.clean; come = long_enough (turned t); field = w.field }

  denied_over : {k n p : ℕ} {s : _} → Denied a k s n p → Denied b k s n p
  denied_over {n = n} {p = p} (Q.Denied.faulty g) = Q.Denied.faulty (subst (λ (z : List ℕ). Given z n p) main_over g)
  denied_over (short c h) = absurd (omega (arith, long_enough t))
  denied_over (not_a_field c h d) = not_a_field (subst Clean main_over c) (long_enough (turned t)) d

  text_over : (k : ℕ) (r : Result Part Refusal) → TextIs a k r → TextIs b k r
  text_over k (Ok t) f = record { allowed = allowed_over f.allowed; start_is = f.start_is; width_is = f.width_is }
  text_over k (Err r) f = denied_over f

  number_same : (k : ℕ) → k ≤ 71 → number_in a k ≡ number_in b k
  number_same k h =
      let al = field_alike (same_main t) (value_start k) (width_of k) (omega (arith, start_small h)) in
      rw (x_alike al, integer_alike al)

  number_over : (k : ℕ) (r : Result (Option ℤ) Refusal) → NumberIs a k r → NumberIs b k r
  number_over k (Ok x) f = (allowed_over f.0, f.1 ∙ number_same k f.0.field.known)
  number_over k (Err r) f = denied_over f

  time_same : (k : ℕ) (long : Bool) → Allowed a k (times_of long) → time_in a k long ≡ time_in b k long
  time_same k long w =
      let n = digits_of long + 1 in
      let u = time_wide long k w.field in
      let v = start_small w.field.known in
      let al = field_alike (same_main t) (value_start k) n (omega arith) in
      let pa : PartIs a k (times_of long) (value_start k) (width_of k) = record { allowed = w; start_is = refl; width_is = refl } in
      let pb : PartIs b k (times_of long) (value_start k) (width_of k) = record { allowed = allowed_over w; start_is = refl; width_is = refl } in
      same_answer (sym (time_read long pa) ∙ general_read_alike al long (omega arith) (omega (arith, long_enough t)) (omega (arith, long_enough (turned t))) ∙ time_read long pb)

  time_over : (k : ℕ) (long : Bool) (r : Result (Option Moment) Refusal) → TimeIs a k long r → TimeIs b k long r
  time_over k long (Ok x) f = (allowed_over f.0, f.1 ∙ time_same k long f.0)
  time_over k long (Err r) f = denied_over f

  point_same : (end : Bool) → point_of (number_in a (latitude_field end)) (number_in a (latitude_field end + 1)) ≡ point_of (number_in b (latitude_field end)) (number_in b (latitude_field end + 1))
  point_same end =
      let h = latitude_small end in
      ap (λ (x : _). point_of x (number_in a (latitude_field end + 1))) (number_same (latitude_field end) (omega arith))
      ∙ ap (point_of (number_in b (latitude_field end))) (number_same (latitude_field end + 1) (omega arith))

  point_over : (end : Bool) (r : Result (Option GroundPoint) Refusal) → PointIs a end r → PointIs b end r
  point_over end (Ok (Some g)) f = record { allowed = allowed_over f.allowed; point = f.point ∙ point_same end }
  point_over end (Ok None) f = record { allowed = allowed_over f.allowed; point = f.point ∙ point_same end }
  point_over end (Err r) f = denied_over f

-- ---- THE LAWS
module _ {a b : List ℕ} (x : Apart a b) where
  -- the record query: the same start and header for every k, and where there is none the same 19
  pub apart_record : (k : ℕ) (r : Result Record Refusal) → RecordIs a k r → RecordIs b k r
  apart_record = record_over (twins x)

  pub same_record : (k : ℕ) (r s : Result Record Refusal) → RecordIs a k r → RecordIs b k s → r ≡ s
  same_record k r s f g = unique_record_at b k r s (apart_record k r f) g

  -- each of the 72 fields, by whichever query, and where it is refused alike; a text's bytes are those of the main header
  pub apart_main : main_part a ≡ main_part b
  apart_main = main_over (twins x)

  pub apart_text_field : (k : ℕ) (r : Result Part Refusal) → TextIs a k r → TextIs b k r
  apart_text_field = text_over (twins x)

  pub same_text_field : (k : ℕ) (r s : Result Part Refusal) → TextIs a k r → TextIs b k s → r ≡ s
  same_text_field k r s f g = unique_text_field b k r s (apart_text_field k r f) g

  pub apart_number : (k : ℕ) (r : Result (Option ℤ) Refusal) → NumberIs a k r → NumberIs b k r
  apart_number = number_over (twins x)

  pub same_number : (k : ℕ) (r s : Result (Option ℤ) Refusal) → NumberIs a k r → NumberIs b k s → r ≡ s
  same_number k r s f g = unique_number_field b k r s (apart_number k r f) g

  pub apart_time : (k : ℕ) (long : Bool) (r : Result (Option Moment) Refusal) → TimeIs a k long r → TimeIs b k long r
  apart_time = time_over (twins x)

  pub same_time : (k : ℕ) (long : Bool) (r s : Result (Option Moment) Refusal) → TimeIs a k long r → TimeIs b k long s → r ≡ s
  same_time k long r s f g = unique_time_of b k long r s (apart_time k long r f) g

  -- both ground points
  pub apart_point : (end : Bool) (r : Result (Option GroundPoint) Refusal) → PointIs a end r → PointIs b end r
  apart_point = point_over (twins x)

  pub same_point : (end : Bool) (r s : Result (Option GroundPoint) Refusal) → PointIs a end r → PointIs b end s → r ≡ s
  same_point end r s f g = unique_ground_point b end r s (apart_point end r f) g
