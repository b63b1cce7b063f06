-- The field queries, the name lookup and the ground point for hosts that are not Rattle: the promises of `query` and `mphr`, told as numbers.
-- Assumes nothing.
use Rattle.std.specs.Prelude.{ℕ, ◌≡◌, Bool, true, false, List, [], ◌∷◌, Float}
use Rattle.calendar.specs.Said.{Said, answer, refusal}
use Rattle.text.specs.declared.Kind.{Kind}
use Rattle.text.specs.declared.Kind.TheVariants.{Text, Unsigned, Count, Signed, Time, LongTime}
use Rattle.std.specs.declared.option.Option.TheVariants.{Some, None}
use Rattle.std.specs.declared.result.Result.TheVariants.{Ok, Err}
use Rattle.std.specs.declared.option.Option.{Option}
use Rattle.std.specs.declared.result.Result.{Result}
use Rattle.calendar.specs.declared.Refusal.{Refusal}
use Rattle.std.specs.Prelude.{ℤ}
use Rattle.meter.specs.declared.general.Moment.{Moment}
use Rattle.query.specs.declared.GroundPoint.{GroundPoint}
use Rattle.query.specs.declared.Part.{Part}
use Rattle.query.specs.Found.{part_found}
use Rattle.calendar.specs.Said.{said}
use Rattle.mphr.specs.Layout.{field_of}
use Rattle.mphr.specs.Lines.{WritesName}
use Rattle.mphr.specs.declared.layout.Place.{Place}
use Rattle.mphr.specs.Lookup.{field_named}
use Rattle.query.specs.Query.{TextIs, NumberIs, TimeIs, PointIs}
use Rattle.told.specs.Told.{Told, refused, one4, general12}
use Rattle.told.specs.Given.{is_set}
use Rattle.warpladle.specs.Values.{number4}

-- the number, in two's complement
abbrev pub number_said : Result (Option ℤ) Refusal → List ℕ
number_said (Ok x) = number4 x
number_said (Err r) = refused 4 r

abbrev pub NumberTold : List ℕ → ℕ → List ℕ → Type 0
NumberTold a k numbers = Told (NumberIs a k) number_said numbers

-- whether field k is a long time; one that is no field is not
abbrev pub long_kind : Kind → Bool
long_kind Text = false
long_kind Unsigned = false
long_kind Count = false
long_kind Signed = false
long_kind Time = false
long_kind LongTime = true

abbrev pub long_place : Said Place → Bool
long_place (answer p) = long_kind p.kind
long_place (refusal n p) = false

abbrev pub long_field : ℕ → Bool
long_field k = long_place (field_of k)

-- the time, of either width
abbrev pub time_said : Result (Option Moment) Refusal → List ℕ
time_said (Ok x) = general12 x
time_said (Err r) = refused 12 r

abbrev pub TimeTold : List ℕ → ℕ → List ℕ → Type 0
TimeTold a k numbers = Told (TimeIs a k (long_field k)) time_said numbers

-- where the text starts, and its width
abbrev pub text_said : Result Part Refusal → List ℕ
text_said (Ok t) = 0 ∷ 0 ∷ t.start ∷ t.width ∷ []
text_said (Err r) = refused 4 r

abbrev pub TextTold : List ℕ → ℕ → List ℕ → Type 0
TextTold a k numbers = Told (TextIs a k) text_said numbers

-- the number of the field
abbrev pub field_said : Result ℕ Refusal → List ℕ
field_said (Ok k) = one4 k
field_said (Err r) = refused 4 r

abbrev pub FieldTold : List ℕ → List ℕ → Type 0
FieldTold name numbers = Told (λ (r : Result ℕ Refusal). said r ≡ field_named name) field_said numbers

-- a field by its number: where its line starts, the width and the kind of its value, and the bytes of its name
abbrev pub kind_number : Kind → ℕ
kind_number Text = 0
kind_number Unsigned = 1
kind_number Count = 2
kind_number Signed = 3
kind_number Time = 4
kind_number LongTime = 5

abbrev pub field6 : Place → ℕ → List ℕ
field6 p n = 0 ∷ 0 ∷ p.start ∷ p.width ∷ kind_number p.kind ∷ n ∷ []

abbrev pub described_said : Result Place Refusal × Result ℕ Refusal → List ℕ
described_said (Ok p, Ok n) = field6 p n
described_said (Ok p, Err r) = refused 6 r
described_said (Err r, w) = refused 6 r

-- the room has become exit, with the name at its start
abbrev pub DescribedTold : ℕ → List ℕ → List ℕ → List ℕ → Type 0
DescribedTold k room exit numbers =
    Told (λ (r : Result Place Refusal × Result ℕ Refusal). (said r.0 ≡ field_of k) × WritesName room k r.1 exit) described_said numbers

-- whether there is a point; it goes into the lent pair, latitude first, which is kept where there is none
abbrev pub point_said : Result (Option GroundPoint) Refusal → List ℕ
point_said (Ok (Some g)) = one4 1
point_said (Ok None) = one4 0
point_said (Err r) = refused 4 r

abbrev pub pair : Float → Float → List Float
pair x y = x ∷ y ∷ []

abbrev pub pair_of : List Float → Result (Option GroundPoint) Refusal → List Float
pair_of old (Ok (Some g)) = pair g.latitude g.longitude
pair_of old (Ok None) = old
pair_of old (Err r) = old

abbrev pub PointTold : List ℕ → ℕ → List Float → List Float → List ℕ → Type 0
PointTold a which old new numbers = Told (λ (r : Result (Option GroundPoint) Refusal). PointIs a (is_set which) r × (new ≡ pair_of old r)) point_said numbers
