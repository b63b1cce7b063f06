-- DETERMINED: no second answer fits a promise of the queries. A refusal is the judge's, of which there is one, or its row's; a record's start is
-- one, since each record on the way has a number of its own; a value is an equation. Assumes nothing.
use Prim.Native.Nat.{ℕ}
use native.Mathlib.Omega.{arith}
use mathlib.Core.Path.{◌≡◌, refl, sym, ap, ◌∙◌}
use mathlib.Core.Bool.{Bool, true, false}
use mathlib.Core.Logic.{inl, inr, ⊎_elim}
use mathlib.Core.List.{List}
use Rattle.record.specs.Header.{header_at}
use Rattle.record.specs.declared.header.Header.{Header}
use Rattle.judge.specs.Table.{Site, Leads, here, on, Open}
use Rattle.judge.specs.declared.arrival.Arrival.TheVariants.{Waiting}
use Rattle.query.specs.Query as Q
use Rattle.query.specs.Query.{StartOf, RecordFound, NoRecord, not_yet, RecordIs, Denied, short, not_a_field, Allowed, FieldIs, TextIs, NumberIs, TimeIs, PointIs}
use Rattle.query.specs.declared.Sort.{Sort}
use Rattle.query.specs.declared.Sort.TheVariants.{Texts}
use Rattle.std.specs.declared.option.Option.TheVariants.{Some, None}
use Rattle.std.specs.declared.result.Result.TheVariants.{Ok, Err}
use Rattle.std.specs.declared.option.Option.{Option}
use Rattle.std.specs.declared.result.Result.{Result}
use Rattle.std.specs.Prelude.{ℤ}
use Rattle.meter.specs.declared.general.Moment.{Moment}
use Rattle.query.specs.declared.GroundPoint.{GroundPoint}
use Rattle.query.specs.declared.Record.{Record}
use Rattle.query.specs.declared.Part.{Part}
use Rattle.query.specs.Found.{part_found}
use Rattle.query.specs.Found.{record_found}
use Rattle.judge.proofs.WayLaws.{counts, linear}
use Rattle.calendar.specs.declared.Refusal.{Refusal}
use Rattle.tables.proofs.Laws.{not_clean}
use Rattle.mphr.proofs.Prefix.{same_refusal}
use Rattle.demands.proofs.Prefix.{unique_given, unique_arrival}

one_refusal : (r s : Refusal) → (r.number ≡ s.number) × (r.place ≡ s.place) → r ≡ s
one_refusal r s e = same_refusal r s e.0 e.1

-- ---- of the judge
pub one_count : (a : List ℕ) (c e d f : ℕ) → Open a c e → Open a d f → c ≡ d
one_count a c e d f o p = let z = unique_arrival a (Waiting c e) (Waiting d f) o p in cc

-- ---- the record query
same_place : {a : List ℕ} {x y : Site} → Leads a x y → x.count ≡ y.count → x.at ≡ y.at
same_place here e = refl
same_place (on s l) e = absurd (omega (arith, counts l))

pub one_start : {a : List ℕ} {k i j : ℕ} → StartOf a k i → StartOf a k j → i ≡ j
one_start (inl z) (inl w) = z.1 ∙ sym w.1
one_start (inl z) (inr t) = absurd (omega (arith, z.0, t.numbered, counts t.way))
one_start (inr s) (inl w) = absurd (omega (arith, w.0, s.numbered, counts s.way))
one_start (inr s) (inr t) =
    sym s.begins
    ∙ ⊎_elim (λ l. same_place l (s.numbered ∙ sym t.numbered)) (λ l. sym (same_place l (t.numbered ∙ sym s.numbered))) (linear s.way t.way)
    ∙ t.begins

one_no_record : {a : List ℕ} {k n p m q : ℕ} → NoRecord a k n p → NoRecord a k m q → (n ≡ m) × (p ≡ q)
one_no_record (Q.NoRecord.faulty f) (Q.NoRecord.faulty g) = unique_given f g
one_no_record (Q.NoRecord.faulty f) (not_yet o h) = absurd (not_clean f o.clean)
one_no_record (not_yet o h) (Q.NoRecord.faulty g) = absurd (not_clean g o.clean)
one_no_record (not_yet o h) (not_yet p l) = (refl, one_count _ _ _ _ _ o p)

no_and_found : {a : List ℕ} {k n p i : ℕ} {h : Header} → RecordFound a k i h → NoRecord a k n p → ⊥
no_and_found f (Q.NoRecord.faulty g) = not_clean g f.waiting.clean
no_and_found f (not_yet o l) = omega (arith, f.below, one_count _ _ _ _ _ f.waiting o)

pub unique_record_at : (a : List ℕ) (k : ℕ) (r s : Result Record Refusal) → RecordIs a k r → RecordIs a k s → r ≡ s
unique_record_at a k (Ok t) (Ok u) f e =
    let z = one_start f.start e.start in
    let w : t.header ≡ u.header = f.header ∙ ap (header_at a) z ∙ sym e.header in
    ap (λ (n : ℕ). record_found n t.header) z ∙ ap (record_found u.start) w
unique_record_at a k (Ok t) (Err s) f e = absurd (no_and_found f e)
unique_record_at a k (Err r) (Ok t) f e = absurd (no_and_found e f)
unique_record_at a k (Err r) (Err s) f e = ap Err (one_refusal r s (one_no_record f e))

-- ---- the field queries
one_denied : {a : List ℕ} {k n p m q : ℕ} {sort : Sort} → Denied a k sort n p → Denied a k sort m q → (n ≡ m) × (p ≡ q)
one_denied (Q.Denied.faulty f) (Q.Denied.faulty g) = unique_given f g
one_denied (Q.Denied.faulty f) (short c h) = absurd (not_clean f c)
one_denied (Q.Denied.faulty f) (not_a_field c h d) = absurd (not_clean f c)
one_denied (short c h) (Q.Denied.faulty g) = absurd (not_clean g c)
one_denied (short c h) (short b l) = (refl, refl)
one_denied (short c h) (not_a_field b l d) = absurd (omega arith)
one_denied (not_a_field c h d) (Q.Denied.faulty g) = absurd (not_clean g c)
one_denied (not_a_field c h d) (short b l) = absurd (omega arith)
one_denied (not_a_field c h d) (not_a_field b l e) = (refl, refl)

no_and_yes : {a : List ℕ} {k n p : ℕ} {sort : Sort} → Allowed a k sort → Denied a k sort n p → ⊥
no_and_yes w (Q.Denied.faulty g) = not_clean g w.clean
no_and_yes w (short c h) = omega (arith, w.come)
no_and_yes w (not_a_field c h d) = d w.field

pub unique_field_at : (a : List ℕ) (k : ℕ) (sort : Sort) (r s : Result Part Refusal) → FieldIs a k sort r → FieldIs a k sort s → r ≡ s
unique_field_at a k sort (Ok t) (Ok u) f e =
    ap (λ (n : ℕ). part_found n t.width) (f.start_is ∙ sym e.start_is) ∙ ap (part_found u.start) (f.width_is ∙ sym e.width_is)
unique_field_at a k sort (Ok t) (Err s) f e = absurd (no_and_yes f.allowed e)
unique_field_at a k sort (Err r) (Ok t) f e = absurd (no_and_yes e.allowed f)
unique_field_at a k sort (Err r) (Err s) f e = ap Err (one_refusal r s (one_denied f e))

pub unique_text_field : (a : List ℕ) (k : ℕ) (r s : Result Part Refusal) → TextIs a k r → TextIs a k s → r ≡ s
unique_text_field a k = unique_field_at a k Texts

pub unique_number_field : (a : List ℕ) (k : ℕ) (r s : Result (Option ℤ) Refusal) → NumberIs a k r → NumberIs a k s → r ≡ s
unique_number_field a k (Ok x) (Ok y) f e = ap Ok (f.1 ∙ sym e.1)
unique_number_field a k (Ok x) (Err s) f e = absurd (no_and_yes f.0 e)
unique_number_field a k (Err r) (Ok y) f e = absurd (no_and_yes e.0 f)
unique_number_field a k (Err r) (Err s) f e = ap Err (one_refusal r s (one_denied f e))

pub unique_time_of : (a : List ℕ) (k : ℕ) (long : Bool) (r s : Result (Option Moment) Refusal) → TimeIs a k long r → TimeIs a k long s → r ≡ s
unique_time_of a k long (Ok x) (Ok y) f e = ap Ok (f.1 ∙ sym e.1)
unique_time_of a k long (Ok x) (Err s) f e = absurd (no_and_yes f.0 e)
unique_time_of a k long (Err r) (Ok y) f e = absurd (no_and_yes e.0 f)
unique_time_of a k long (Err r) (Err s) f e = ap Err (one_refusal r s (one_denied f e))

pub unique_time_field : (a : List ℕ) (k : ℕ) (r s : Result (Option Moment) Refusal) → TimeIs a k false r → TimeIs a k false s → r ≡ s
unique_time_field a k = unique_time_of a k false

pub unique_long_time_field : (a : List ℕ) (k : ℕ) (r s : Result (Option Moment) Refusal) → TimeIs a k true r → TimeIs a k true s → r ≡ s
unique_long_time_field a k = unique_time_of a k true

-- ---- the ground point
pub unique_ground_point : (a : List ℕ) (end : Bool) (r s : Result (Option GroundPoint) Refusal) → PointIs a end r → PointIs a end s → r ≡ s
unique_ground_point a end (Ok (Some g)) (Ok (Some h)) f e = f.point ∙ sym e.point
unique_ground_point a end (Ok (Some g)) (Ok None) f e = f.point ∙ sym e.point
unique_ground_point a end (Ok (Some g)) (Err s) f e = absurd (no_and_yes f.allowed e)
unique_ground_point a end (Ok None) (Ok (Some h)) f e = f.point ∙ sym e.point
unique_ground_point a end (Ok None) (Ok None) f e = refl
unique_ground_point a end (Ok None) (Err s) f e = absurd (no_and_yes f.allowed e)
unique_ground_point a end (Err r) (Ok (Some h)) f e = absurd (no_and_yes e.allowed f)
unique_ground_point a end (Err r) (Ok None) f e = absurd (no_and_yes e.allowed f)
unique_ground_point a end (Err r) (Err s) f e = ap Err (one_refusal r s (one_denied f e))
