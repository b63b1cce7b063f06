-- The layout of the main product header (01, "MPHR, 3,307 bytes with its header": "72 lines, each: name padded with spaces to 30, `= `, the
-- value, a line feed (value width plus 33)"; order, widths and kinds as 01 lists them there). Assumes nothing.
use Rattle.std.specs.Prelude.{ℕ, zero, suc, ◌+◌, ◌-◌, ◌≤◌, ◌<◌, ◌≡◌, List, [], ◌∷◌, ◌++◌, map, cond, eqb, leb, length, get_or, replicate}
use Prim.Native.Char.{code}
use Prim.Native.String as Str
use Prim.Native.String.{String}
use Rattle.calendar.specs.Said.{Said, answer, refusal, refused}
use Rattle.text.specs.declared.Kind.{Kind}
use Rattle.mphr.specs.declared.layout.Place.{Place}
use Rattle.std.specs.declared.result.Result.TheVariants.{Ok, Err}
use Rattle.std.specs.declared.result.Result.{Result}
use Rattle.calendar.specs.declared.Refusal.{Refusal}
use Rattle.text.specs.declared.Kind.TheVariants.{Text, Unsigned, Count, Signed, Time, LongTime}

-- a line's name, the width of its value, and the value's kind
pub record Field : Type 0 where
  pub name : String
  pub width : ℕ
  pub kind : Kind

abbrev pub field : String → ℕ → Kind → Field
field n w k = record { name = n; width = w; kind = k }

-- THE LAYOUT. Count is the kind of the size and the nine totals: unsigned, and never undefined
unfoldable pub fields : List Field
fields =
    field "PRODUCT_NAME" 67 Text
    ∷ field "PARENT_PRODUCT_NAME_1" 67 Text
    ∷ field "PARENT_PRODUCT_NAME_2" 67 Text
    ∷ field "PARENT_PRODUCT_NAME_3" 67 Text
    ∷ field "PARENT_PRODUCT_NAME_4" 67 Text
    ∷ field "INSTRUMENT_ID" 4 Text
    ∷ field "INSTRUMENT_MODEL" 3 Text
    ∷ field "PRODUCT_TYPE" 3 Text
    ∷ field "PROCESSING_LEVEL" 2 Text
    ∷ field "SPACECRAFT_ID" 3 Text
    ∷ field "SENSING_START" 15 Time
    ∷ field "SENSING_END" 15 Time
    ∷ field "SENSING_START_THEORETICAL" 15 Time
    ∷ field "SENSING_END_THEORETICAL" 15 Time
    ∷ field "PROCESSING_CENTRE" 4 Text
    ∷ field "PROCESSOR_MAJOR_VERSION" 5 Unsigned
    ∷ field "PROCESSOR_MINOR_VERSION" 5 Unsigned
    ∷ field "FORMAT_MAJOR_VERSION" 5 Unsigned
    ∷ field "FORMAT_MINOR_VERSION" 5 Unsigned
    ∷ field "PROCESSING_TIME_START" 15 Time
    ∷ field "PROCESSING_TIME_END" 15 Time
    ∷ field "PROCESSING_MODE" 1 Text
    ∷ field "DISPOSITION_MODE" 1 Text
    ∷ field "RECEIVING_GROUND_STATION" 3 Text
    ∷ field "RECEIVE_TIME_START" 15 Time
    ∷ field "RECEIVE_TIME_END" 15 Time
    ∷ field "ORBIT_START" 5 Unsigned
    ∷ field "ORBIT_END" 5 Unsigned
    ∷ field "ACTUAL_PRODUCT_SIZE" 11 Count
    ∷ field "STATE_VECTOR_TIME" 18 LongTime
    ∷ field "SEMI_MAJOR_AXIS" 11 Signed
    ∷ field "ECCENTRICITY" 11 Signed
    ∷ field "INCLINATION" 11 Signed
    ∷ field "PERIGEE_ARGUMENT" 11 Signed
    ∷ field "RIGHT_ASCENSION" 11 Signed
    ∷ field "MEAN_ANOMALY" 11 Signed
    ∷ field "X_POSITION" 11 Signed
    ∷ field "Y_POSITION" 11 Signed
    ∷ field "Z_POSITION" 11 Signed
    ∷ field "X_VELOCITY" 11 Signed
    ∷ field "Y_VELOCITY" 11 Signed
    ∷ field "Z_VELOCITY" 11 Signed
    ∷ field "EARTH_SUN_DISTANCE_RATIO" 11 Signed
    ∷ field "LOCATION_TOLERANCE_RADIAL" 11 Signed
    ∷ field "LOCATION_TOLERANCE_CROSSTRACK" 11 Signed
    ∷ field "LOCATION_TOLERANCE_ALONGTRACK" 11 Signed
    ∷ field "YAW_ERROR" 11 Signed
    ∷ field "ROLL_ERROR" 11 Signed
    ∷ field "PITCH_ERROR" 11 Signed
    ∷ field "SUBSAT_LATITUDE_START" 11 Signed
    ∷ field "SUBSAT_LONGITUDE_START" 11 Signed
    ∷ field "SUBSAT_LATITUDE_END" 11 Signed
    ∷ field "SUBSAT_LONGITUDE_END" 11 Signed
    ∷ field "LEAP_SECOND" 2 Signed
    ∷ field "LEAP_SECOND_UTC" 15 Time
    ∷ field "TOTAL_RECORDS" 6 Count
    ∷ field "TOTAL_MPHR" 6 Count
    ∷ field "TOTAL_SPHR" 6 Count
    ∷ field "TOTAL_IPR" 6 Count
    ∷ field "TOTAL_GEADR" 6 Count
    ∷ field "TOTAL_GIADR" 6 Count
    ∷ field "TOTAL_VEADR" 6 Count
    ∷ field "TOTAL_VIADR" 6 Count
    ∷ field "TOTAL_MDR" 6 Count
    ∷ field "COUNT_DEGRADED_INST_MDR" 6 Unsigned
    ∷ field "COUNT_DEGRADED_PROC_MDR" 6 Unsigned
    ∷ field "COUNT_DEGRADED_INST_MDR_BLOCKS" 6 Unsigned
    ∷ field "COUNT_DEGRADED_PROC_MDR_BLOCKS" 6 Unsigned
    ∷ field "DURATION_OF_PRODUCT" 8 Unsigned
    ∷ field "MILLISECONDS_OF_DATA_PRESENT" 8 Unsigned
    ∷ field "MILLISECONDS_OF_DATA_MISSING" 8 Unsigned
    ∷ field "SUBSETTED_PRODUCT" 1 Text
    ∷ []

unfoldable pub widths : List ℕ
widths = map (λ (f : Field). f.width) fields

unfoldable pub kinds : List Kind
kinds = map (λ (f : Field). f.kind) fields

-- the kinds as numbers
abbrev pub code_of : Kind → ℕ
code_of Text = 0
code_of Unsigned = 1
code_of Count = 2
code_of Signed = 3
code_of Time = 4
code_of LongTime = 5

abbrev pub kind_from : ℕ → Kind
kind_from n = cond (eqb n 0) Text (cond (eqb n 1) Unsigned (cond (eqb n 2) Count (cond (eqb n 3) Signed (cond (eqb n 4) Time LongTime))))

unfoldable pub codes : List ℕ
codes = map code_of kinds

-- the bytes of a text
abbrev pub bytes_of : String → List ℕ
bytes_of Str.[] = []
bytes_of (Str.◌∷◌ c s) = code c ∷ bytes_of s

-- a name with spaces to 30 bytes
abbrev pub pad : List ℕ → List ℕ
pad r = r ++ replicate (30 - length r) 32

-- the names, and each padded
unfoldable pub rows : List (List ℕ)
rows = map (λ (f : Field). bytes_of f.name) fields

abbrev pub name_of : ℕ → List ℕ
name_of i = get_or rows i []

abbrev pub flat : List (List ℕ) → List ℕ
flat [] = []
flat (r ∷ rs) = pad r ++ flat rs

unfoldable pub names : List ℕ
names = flat rows

unfoldable pub width_of : ℕ → ℕ
width_of k = get_or widths k 0

unfoldable pub kind_of : ℕ → Kind
kind_of k = get_or kinds k Text

-- where a line starts: a line is 30 bytes of name, "= ", the value and a line feed
unfoldable pub line_start : ℕ → ℕ
line_start zero = 20
line_start (suc k) = line_start k + width_of k + 33

-- r is where the first line starts after byte n, the header's end counted as one; its end where none does
pub record LineAfter (n r : ℕ) : Type 0 where
  pub start : (k : ℕ) × (k ≤ 72) × (r ≡ line_start k)
  pub first : (k : ℕ) → k ≤ 72 → n < line_start k → r ≤ line_start k
  pub after : n < 3307 → n < r
  pub none : 3307 ≤ n → r ≡ 3307

-- the starts of the lines of the given widths, from i on
abbrev pub starts_from : ℕ → List ℕ → List ℕ
starts_from i [] = []
starts_from i (w ∷ ws) = i ∷ starts_from (i + w + 33) ws

unfoldable pub starts : List ℕ
starts = starts_from 20 widths

-- THE FIELD by its number (01: 22, "field number not 0..71"): where its line starts, and the width and the kind of its value
abbrev pub field_of : ℕ → Said Place
field_of k = cond (leb k 71) (answer (record { start = line_start k; width = width_of k; kind = kind_of k })) (refusal 22 0)
