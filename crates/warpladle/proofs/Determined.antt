-- DETERMINED: no second array of numbers, and no second lent buffer, fits a promise: the lower function's answer is one, and the numbers are said
-- of it. Assumes nothing.
use Prim.Native.Nat.{ℕ}
use mathlib.Core.Path.{◌≡◌, sym, ap, ◌∙◌}
use mathlib.Core.Bool.{Bool, true, false}
use mathlib.Core.List.{List}
use lib.Ieee.{Float}
use Rattle.finish.specs.Finish.{FinishedIs}
use Rattle.level0.specs.Profile.{level0, Level0Is}
use Rattle.level0.proofs.ByLaws.{unique_by}
use Rattle.std.specs.declared.option.Option.{Option}
use Rattle.std.specs.declared.result.Result.{Result}
use Rattle.calendar.specs.declared.Refusal.{Refusal}
use Rattle.std.specs.Prelude.{ℤ}
use Rattle.meter.specs.declared.general.Moment.{Moment}
use Rattle.mphr.specs.declared.layout.Place.{Place}
use Rattle.query.specs.declared.GroundPoint.{GroundPoint}
use Rattle.calendar.specs.Said.{said}
use Rattle.query.specs.Query.{TimeIs, PointIs}
use Rattle.record.specs.Header.{WritesHeader}
use Rattle.record.specs.declared.header.Header.{Header}
use Rattle.listing.specs.Listing.{ListedIs}
use Rattle.mphr.specs.Layout.{field_of}
use Rattle.mphr.specs.Lines.{WritesTextLine, WritesNumberLine, WritesTimeLine, WritesName}
use Rattle.told.specs.Given.{is_set}
use Rattle.warpladle.specs.Judging.{ArrivalTold, ExtentTold, VerdictTold, FinishedTold, Level0Told, RecordTold, ListingTold}
use Rattle.warpladle.specs.Fields.{long_field, pair_of, NumberTold, TimeTold, TextTold, FieldTold, DescribedTold, PointTold}
use Rattle.warpladle.specs.Lines.{HeaderTold, WriteHeaderTold, TextLineTold, NumberLineTold, TimeLineTold}
use Rattle.record.proofs.Determined as H
use Rattle.mphr.proofs.Determined as D
use Rattle.demands.proofs.Prefix as J
use Rattle.demands.proofs.Accepted as F
use Rattle.query.proofs.QueryDetermined as Q
use Rattle.listing.proofs.Determined as L
use Rattle.told.proofs.Determined.{one_told, two_told}

-- ---- the judges and the queries
pub unique_wl_arrival : (a n m : List ℕ) → ArrivalTold a n → ArrivalTold a m → n ≡ m
unique_wl_arrival a n m = one_told (J.unique_arrival a)

pub unique_wl_extent : (a n m : List ℕ) → ExtentTold a n → ExtentTold a m → n ≡ m
unique_wl_extent a n m = one_told (F.unique_extent a)

pub unique_wl_verdict : (a n m : List ℕ) → VerdictTold a n → VerdictTold a m → n ≡ m
unique_wl_verdict a n m = one_told (F.unique_verdict a)

pub unique_wl_level0 : (a : List ℕ) (rows x y : List (List ℕ)) (n m : List ℕ) → Level0Told a rows x n → Level0Told a rows y m → (x ≡ y) × (n ≡ m)
unique_wl_level0 a rows x y n m = two_told (λ (z : List (List ℕ)) (r : Result ℕ Refusal). Level0Is a rows r z) x y (λ r s. unique_by level0 a rows r s x y)

pub unique_wl_rows : (a : List ℕ) (rows x y : List (List ℕ)) (n m : List ℕ) → FinishedTold a rows x n → FinishedTold a rows y m → (x ≡ y) × (n ≡ m)
unique_wl_rows a rows x y n m = two_told (λ (z : List (List ℕ)) (r : Result ℕ Refusal). FinishedIs a rows r z) x y (λ r s. F.unique_finished a rows r s x y)

pub unique_wl_record : (a : List ℕ) (k : ℕ) (n m : List ℕ) → RecordTold a k n → RecordTold a k m → n ≡ m
unique_wl_record a k n m = one_told (Q.unique_record_at a k)

pub unique_wl_listing : (a room x y n m : List ℕ) → ListingTold a room x n → ListingTold a room y m → (x ≡ y) × (n ≡ m)
unique_wl_listing a room x y n m = two_told (λ (e : List ℕ) (r : Result ℕ Refusal). ListedIs a room r e) x y (λ r s. L.unique_list a room r s x y)

pub unique_wl_number_field : (a : List ℕ) (k : ℕ) (n m : List ℕ) → NumberTold a k n → NumberTold a k m → n ≡ m
unique_wl_number_field a k n m = one_told (Q.unique_number_field a k)

one_time : (a : List ℕ) (k : ℕ) (long : Bool) (r s : Result (Option Moment) Refusal) → TimeIs a k long r → TimeIs a k long s → r ≡ s
one_time a k true = Q.unique_long_time_field a k
one_time a k false = Q.unique_time_field a k

pub unique_wl_time_field : (a : List ℕ) (k : ℕ) (n m : List ℕ) → TimeTold a k n → TimeTold a k m → n ≡ m
unique_wl_time_field a k n m = one_told (one_time a k (long_field k))

pub unique_wl_text_field : (a : List ℕ) (k : ℕ) (n m : List ℕ) → TextTold a k n → TextTold a k m → n ≡ m
unique_wl_text_field a k n m = one_told (Q.unique_text_field a k)

pub unique_wl_field_named : (name n m : List ℕ) → FieldTold name n → FieldTold name m → n ≡ m
unique_wl_field_named name n m = one_told (D.unique_field_named name)

one_described : (k : ℕ) (room x y : List ℕ) (r s : Result Place Refusal × Result ℕ Refusal) → (said r.0 ≡ field_of k) × WritesName room k r.1 x → (said s.0 ≡ field_of k) × WritesName room k s.1 y → (r ≡ s) × (x ≡ y)
one_described k room x y (p, v) (q, w) f g =
    let e = D.unique_field_place k p q f.0 g.0 in
    let n = D.unique_write_name room k v w x y f.1 g.1 in
    (ap (λ (z : Result Place Refusal). (z, v)) e ∙ ap (λ (z : Result ℕ Refusal). (q, z)) n.0, n.1)

pub unique_wl_field : (k : ℕ) (room x y n m : List ℕ) → DescribedTold k room x n → DescribedTold k room y m → (x ≡ y) × (n ≡ m)
unique_wl_field k room x y n m =
    two_told (λ (e : List ℕ) (r : Result Place Refusal × Result ℕ Refusal). (said r.0 ≡ field_of k) × WritesName room k r.1 e) x y (one_described k room x y)

pub unique_wl_ground_point : (a : List ℕ) (which : ℕ) (old p q : List Float) (n m : List ℕ) → PointTold a which old p n → PointTold a which old q m → (p ≡ q) × (n ≡ m)
unique_wl_ground_point a which old p q n m =
    two_told (λ (new : List Float) (r : Result (Option GroundPoint) Refusal). PointIs a (is_set which) r × (new ≡ pair_of old r)) p q
    (λ r s f g. let e = Q.unique_ground_point a (is_set which) r s f.0 g.0 in (e, f.1 ∙ ap (pair_of old) e ∙ sym g.1))

-- ---- headers
pub unique_wl_read_header : (a : List ℕ) (at : ℕ) (n m : List ℕ) → HeaderTold a at n → HeaderTold a at m → n ≡ m
unique_wl_read_header a at n m = one_told (H.unique_read_header a at)

-- ---- the writers
pub unique_wl_write_header : (room : List ℕ) (h : Header) (p q n m : List ℕ) → WriteHeaderTold room h p n → WriteHeaderTold room h q m → (p ≡ q) × (n ≡ m)
unique_wl_write_header room h p q n m = two_told (λ (e : List ℕ) (r : Result ℕ Refusal). WritesHeader room h r e) p q (λ r s. H.unique_write_header room h r s p q)

pub unique_wl_write_text_line : (room : List ℕ) (k : ℕ) (t p q n m : List ℕ) → TextLineTold room k t p n → TextLineTold room k t q m → (p ≡ q) × (n ≡ m)
unique_wl_write_text_line room k t p q n m = two_told (λ (e : List ℕ) (r : Result ℕ Refusal). WritesTextLine room k t r e) p q (λ r s. D.unique_write_text_line room k t r s p q)

pub unique_wl_write_number_line : (room : List ℕ) (k : ℕ) (x : Option ℤ) (p q n m : List ℕ) → NumberLineTold room k x p n → NumberLineTold room k x q m → (p ≡ q) × (n ≡ m)
unique_wl_write_number_line room k x p q n m =
    two_told (λ (e : List ℕ) (r : Result ℕ Refusal). WritesNumberLine room k x r e) p q (λ r s. D.unique_write_number_line room k x r s p q)

pub unique_wl_write_time_line : (room : List ℕ) (k : ℕ) (t : Option Moment) (p q n m : List ℕ) → TimeLineTold room k t p n → TimeLineTold room k t q m → (p ≡ q) × (n ≡ m)
unique_wl_write_time_line room k t p q n m = two_told (λ (e : List ℕ) (r : Result ℕ Refusal). WritesTimeLine room k t r e) p q (λ r s. D.unique_write_time_line room k t r s p q)
