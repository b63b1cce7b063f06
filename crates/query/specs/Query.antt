-- The queries (01, "Numbers we answer with": "A record query gives the arrival judge's refusal, 19, or that record's start and header (records
-- numbered from 0); a field query judges the first 3,307 bytes the same way (then 17 if fewer, then 22)"; "Unless the judge waits, a query hands
-- its refusal on unchanged"). Assumes nothing.
use Rattle.std.specs.Prelude.{ℕ, ◌+◌, ◌≤◌, ◌<◌, ◌≡◌, Bool, cond, ◌⊎◌, List, ℤ, nat_abs, Float, length, take}
use Rattle.std.specs.Float.{binary64}
use Rattle.std.specs.Float.Ieee.{div, of_int, of_bits}
use Rattle.calendar.specs.declared.Refusal.{Refusal}
use Rattle.calendar.specs.Said.{refusing}
use Rattle.meter.specs.General.{digits_of, general_at}
use Rattle.std.specs.declared.option.Option.TheVariants.{Some, None}
use Rattle.std.specs.declared.result.Result.TheVariants.{Ok, Err}
use Rattle.std.specs.declared.option.Option.{Option}
use Rattle.std.specs.declared.result.Result.{Result}
use Rattle.meter.specs.declared.general.Moment.{Moment}
use Rattle.query.specs.declared.GroundPoint.{GroundPoint}
use Rattle.query.specs.declared.Record.{Record}
use Rattle.query.specs.declared.Part.{Part}
use Rattle.record.specs.Header.{header_at}
use Rattle.record.specs.declared.header.Header.{Header}
use Rattle.text.specs.Field.{number_at}
use Rattle.text.specs.declared.Kind.{Kind}
use Rattle.text.specs.declared.Kind.TheVariants.{Text, Unsigned, Count, Signed, Time, LongTime}
use Rattle.mphr.specs.Layout.{width_of, kind_of, line_start}
use Rattle.judge.specs.Table.{Site, first, Leads, Clean, Given, Whole, Open}
use Rattle.judge.specs.declared.arrival.Arrival.{Arrival}
use Rattle.judge.specs.declared.arrival.Arrival.TheVariants as A
use Rattle.query.specs.declared.Sort.{Sort}
use Rattle.query.specs.declared.Sort.TheVariants.{Numbers, Times, LongTimes, Texts}

-- the refusal of an arrival that is refused; it is asked of no other
abbrev pub refusal_of : Arrival → Refusal
refusal_of (A.Refused r) = r
refusal_of (A.Waiting _ _) = refusing 0 0

-- ---- THE RECORD QUERY
-- record k, which is not the main header, starts at byte i
pub record LaterStart (a : List ℕ) (k i : ℕ) : Type 0 where
  pub spot : Site
  pub way : Leads a first spot
  pub numbered : spot.count ≡ k
  pub begins : spot.at ≡ i

-- record k starts at byte i; record 0 is the main header
abbrev pub StartOf : List ℕ → ℕ → ℕ → Type 0
StartOf a k i = ((k ≡ 0) × (i ≡ 0)) ⊎ LaterStart a k i

-- record k is whole, starts at byte i and has the header h
pub record RecordFound (a : List ℕ) (k i : ℕ) (h : Header) : Type 0 where
  pub count : ℕ
  pub end : ℕ
  pub waiting : Open a count end
  pub below : k < count
  pub start : StartOf a k i
  pub header : h ≡ header_at a i

-- the refusal (n, p) of a record query: the judge's; row 19, "no such record yet", whose place is "records counted"
pub data NoRecord (a : List ℕ) (k : ℕ) : ℕ → ℕ → Type 0 where
  faulty : {n p : ℕ} → Given a n p → NoRecord a k n p
  not_yet : {c e : ℕ} → Open a c e → c ≤ k → NoRecord a k 19 c

abbrev pub RecordIs : List ℕ → ℕ → Result Record Refusal → Type 0
RecordIs a k (Ok t) = RecordFound a k t.start t.header
RecordIs a k (Err r) = NoRecord a k r.number r.place

-- what the walk to record k asks
pub record Reachable (a : List ℕ) (k : ℕ) : Type 0 where
  pub count : ℕ
  pub end : ℕ
  pub whole : Whole a count end
  pub below : k < count

-- ---- THE FIELD QUERIES
-- "the first 3,307 bytes"
abbrev pub main_part : List ℕ → List ℕ
main_part a = take 3307 a

-- a field is a number, signed or not, a time, a long time or a text
abbrev pub sort_of : Kind → Sort
sort_of Unsigned = Numbers
sort_of Count = Numbers
sort_of Signed = Numbers
sort_of Time = Times
sort_of LongTime = LongTimes
sort_of Text = Texts

abbrev pub times_of : Bool → Sort
times_of long = cond long LongTimes Times

-- a number to each sort, by which proofs tell them apart
abbrev pub sort_number : Sort → ℕ
sort_number Numbers = 0
sort_number Times = 1
sort_number LongTimes = 2
sort_number Texts = 3

-- field k is there, and of the sort
pub record FieldOf (k : ℕ) (sort : Sort) : Type 0 where
  pub known : k ≤ 71
  pub sorted : sort_of (kind_of k) ≡ sort

-- the refusal (n, p) of a field query: the judge's of the first 3,307 bytes; row 17, with the length; row 22, "field number not 0..71, wrong kind"
pub data Denied (a : List ℕ) (k : ℕ) (sort : Sort) : ℕ → ℕ → Type 0 where
  faulty : {n p : ℕ} → Given (main_part a) n p → Denied a k sort n p
  short : Clean (main_part a) → length a < 3307 → Denied a k sort 17 (length a)
  not_a_field : Clean (main_part a) → 3307 ≤ length a → (FieldOf k sort → ⊥) → Denied a k sort 22 0

-- the numbers that it can have (proofs/FieldRefusals.antt): of the judge's those that 3,307 bytes can show, then 17 and 22
abbrev pub ShownByMain : ℕ → Type 0
ShownByMain n = ((1 ≤ n) × (n ≤ 6)) ⊎ ((n ≡ 10) ⊎ (n ≡ 15))

abbrev pub FieldRefusal : ℕ → Type 0
FieldRefusal n = ShownByMain n ⊎ ((n ≡ 17) ⊎ (n ≡ 22))

-- and where none is given
pub record Allowed (a : List ℕ) (k : ℕ) (sort : Sort) : Type 0 where
  pub clean : Clean (main_part a)
  pub come : 3307 ≤ length a
  pub field : FieldOf k sort

-- where the value of field k starts
abbrev pub value_start : ℕ → ℕ
value_start k = line_start k + 32

-- the value of field k, of the sort, is the w bytes from i on
pub record PartIs (a : List ℕ) (k : ℕ) (sort : Sort) (i w : ℕ) : Type 0 where
  pub allowed : Allowed a k sort
  pub start_is : i ≡ value_start k
  pub width_is : w ≡ width_of k

abbrev pub FieldIs : List ℕ → ℕ → Sort → Result Part Refusal → Type 0
FieldIs a k sort (Ok t) = PartIs a k sort t.start t.width
FieldIs a k sort (Err r) = Denied a k sort r.number r.place

-- where the text of field k stands
abbrev pub TextIs : List ℕ → ℕ → Result Part Refusal → Type 0
TextIs a k r = FieldIs a k Texts r

-- the number of field k
abbrev pub number_in : List ℕ → ℕ → Option ℤ
number_in a k = number_at a (value_start k) (width_of k)

abbrev pub NumberIs : List ℕ → ℕ → Result (Option ℤ) Refusal → Type 0
NumberIs a k (Ok x) = Allowed a k Numbers × (x ≡ number_in a k)
NumberIs a k (Err r) = Denied a k Numbers r.number r.place

-- the time of field k
abbrev pub time_in : List ℕ → ℕ → Bool → Option Moment
time_in a k long = general_at (digits_of long) a (value_start k)

abbrev pub TimeIs : List ℕ → ℕ → Bool → Result (Option Moment) Refusal → Type 0
TimeIs a k long (Ok x) = Allowed a k (times_of long) × (x ≡ time_in a k long)
TimeIs a k long (Err r) = Denied a k (times_of long) r.number r.place

-- ---- THE GROUND POINT, of the start or of the end (01, "MPHR": "SUBSAT latitudes and longitudes are thousandths of a degree. A ground point
-- carries both as f64, each one float division by 1000; if either field is undefined, the point is missing")
abbrev pub latitude_field : Bool → ℕ
latitude_field end = cond end 51 49

-- 1000, so that a degree is one rounding (proofs/QueryLaws.antt)
abbrev pub thousand : Float
thousand = of_bits binary64 0x408f_4000_0000_0000

abbrev pub degrees : ℤ → Float
degrees z = div binary64 (of_int binary64 z) thousand

abbrev pub point_of : Option ℤ → Option ℤ → Result (Option GroundPoint) Refusal
point_of None y = (Ok None)
point_of (Some x) None = (Ok None)
point_of (Some x) (Some y) = Ok (Some (record { latitude = degrees x; longitude = degrees y }))

pub record PointFound (a : List ℕ) (end : Bool) (r : Result (Option GroundPoint) Refusal) : Type 0 where
  pub allowed : Allowed a (latitude_field end) Numbers
  pub point : r ≡ point_of (number_in a (latitude_field end)) (number_in a (latitude_field end + 1))

abbrev pub PointIs : List ℕ → Bool → Result (Option GroundPoint) Refusal → Type 0
PointIs a end (Ok (Some g)) = PointFound a end (Ok (Some g))
PointIs a end (Ok None) = PointFound a end (Ok None)
PointIs a end (Err r) = Denied a (latitude_field end) Numbers r.number r.place

-- a number that f64 holds exactly
abbrev pub Exact : Option ℤ → Type 0
Exact None = Unit
Exact (Some z) = nat_abs z ≤ 0x20_0000_0000_0000
