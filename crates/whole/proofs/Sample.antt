-- THE SAMPLE PRODUCT, computed: what samples/rich.eps says (each class of record, five pointers, a dummy, numbers and a time that are undefined, negative
-- numbers), and that its 4,356 bytes, as they stand in the file, are printed of that. By computing both ways. Assumes nothing.
use mathlib.Core.Path.{◌≡◌, refl, subst}
use mathlib.Core.Bool.{true}
use mathlib.Core.List.{List, [], ◌∷◌, ◌++◌}
use Prim.Native.Nat.{ℕ}
use Prim.Native.String.{String}
use lib.Dec.{ltb}
use lib.IntN.{pos, negsuc}
use lib.ListN.{replicate}
use Rattle.calendar.specs.Calendar.{date, leap_day, is_date}
use Rattle.meter.specs.Integer.{be_at, stored}
use Rattle.meter.specs.Time.{last_milli}
use Rattle.meter.specs.General.{lead, run_of, number_of, is_none, is_digits, moment_at, is_moment, last_second, put_digits, put_moment, put_x}
use Rattle.std.specs.declared.option.Option.TheVariants.{Some, None}
use Rattle.meter.specs.Instant as T
use Rattle.record.specs.Header.{is_class, is_group, header_at, put_header}
use Rattle.record.specs.Pointer.{pointer_at, put_pointer}
use Rattle.record.specs.Follow.{may_follow, first_after}
use Rattle.record.specs.Times.{timed_at}
use Rattle.record.specs.declared.header.Header.{Header}
use Rattle.text.specs.Field.{is_x, is_number, is_value}
use Rattle.text.specs.Writing.{put_rest}
use Rattle.mphr.specs.Layout.{fields, rows, names, widths, kinds, width_of, kind_of, line_start, bytes_of}
use Rattle.mphr.specs.NameTable.{all}
use Rattle.mphr.specs.Table.{headed, declared, total, sum}
use Rattle.mphr.specs.Lines.{is_long, put_name, put_frame}
use Rattle.demands.specs.Product.{Meets}
use Rattle.demands.specs.Demands.{start}
use Rattle.demands.proofs.Example.{product_meets}
use Rattle.whole.specs.Values.{Value, text, number, time, plain, pointer, Values, line_of, main_of, rec_of, print, Right}
use Rattle.whole.specs.Spelled.{Canonical}
use Rattle.whole.specs.Parse.{line_at, rec_at, parse}
use Rattle.whole.specs.Answers.{Answers}
use Rattle.whole.proofs.OfBytes.{all_small}
use Rattle.whole.proofs.Inverse.{inverse}

-- ---- WHAT IT SAYS
abbrev says : String → Value
says s = text (bytes_of s)

abbrev at : ℕ → ℕ → ℕ → ℕ → ℕ → ℕ → ℕ → Value
at y m d h n s ms = time (Some (record { date = date y m d; hour = h; minute = n; second = s; milli = ms }))

-- a record header of day 6000
abbrev head : ℕ → ℕ → ℕ → ℕ → ℕ → ℕ → ℕ → Header
head c g s v z from to = record { class = c; group = g; subclass = s; version = v; size = z; start = T.At 6000 from; stop = T.At 6000 to }

unfoldable pub sample : Values
sample = record {
  header = head 1 0 0 2 3307 0 1000;
  lines =
      says "MHSx_xxx_1B_M02_20160605000000Z_20160605000025Z_N_O_20160605003000Z"
      ∷ says "xxxxxxxxxxxxxxxxxxxxxxxxxxxxxxxxxxxxxxxxxxxxxxxxxxxxxxxxxxxxxxxxxxx"
      ∷ says "xxxxxxxxxxxxxxxxxxxxxxxxxxxxxxxxxxxxxxxxxxxxxxxxxxxxxxxxxxxxxxxxxxx"
      ∷ says "xxxxxxxxxxxxxxxxxxxxxxxxxxxxxxxxxxxxxxxxxxxxxxxxxxxxxxxxxxxxxxxxxxx"
      ∷ says "xxxxxxxxxxxxxxxxxxxxxxxxxxxxxxxxxxxxxxxxxxxxxxxxxxxxxxxxxxxxxxxxxxx"
      ∷ says "MHSx"
      ∷ says "  2"
      ∷ says "xxx"
      ∷ says "1B"
      ∷ says "M02"
      ∷ at 2016 6 5 0 0 0 0
      ∷ at 2016 6 5 0 0 25 0
      ∷ at 2016 6 5 0 0 0 0
      ∷ at 2016 6 5 0 0 24 0
      ∷ says "CGS1"
      ∷ number (Some (pos 7))
      ∷ number (Some (pos 12))
      ∷ number (Some (pos 10))
      ∷ number (Some (pos 0))
      ∷ at 2016 6 5 0 30 0 0
      ∷ at 2016 6 5 0 31 12 0
      ∷ says "N"
      ∷ says "O"
      ∷ says "SVL"
      ∷ at 2016 6 5 0 19 0 0
      ∷ at 2016 6 5 0 19 30 0
      ∷ number (Some (pos 50123))
      ∷ number (Some (pos 50124))
      ∷ number (Some (pos 4356))
      ∷ at 2016 6 4 23 50 12 345
      ∷ number (Some (pos 7204470012))
      ∷ number (Some (pos 1173))
      ∷ number (Some (pos 98702))
      ∷ number (Some (pos 69325))
      ∷ number (Some (pos 217054))
      ∷ number (Some (pos 290812))
      ∷ number (Some (negsuc 5923114337))
      ∷ number (Some (pos 4099862701))
      ∷ number (Some (negsuc 0))
      ∷ number (Some (pos 880223))
      ∷ number (Some (pos 1352418))
      ∷ number (Some (pos 7349600))
      ∷ number (Some (pos 1014629))
      ∷ number None
      ∷ number None
      ∷ number None
      ∷ number (Some (negsuc 20))
      ∷ number (Some (pos 4))
      ∷ number (Some (negsuc 0))
      ∷ number (Some (pos 47623))
      ∷ number (Some (negsuc 122400))
      ∷ number (Some (pos 46180))
      ∷ number (Some (negsuc 122986))
      ∷ number (Some (pos 0))
      ∷ time None
      ∷ number (Some (pos 15))
      ∷ number (Some (pos 1))
      ∷ number (Some (pos 1))
      ∷ number (Some (pos 5))
      ∷ number (Some (pos 1))
      ∷ number (Some (pos 1))
      ∷ number (Some (pos 1))
      ∷ number (Some (pos 1))
      ∷ number (Some (pos 4))
      ∷ number (Some (pos 1))
      ∷ number None
      ∷ number (Some (pos 1))
      ∷ number None
      ∷ number (Some (pos 25000))
      ∷ number (Some (pos 4000))
      ∷ number (Some (pos 21000))
      ∷ says "F"
      ∷ [];
  records =
      plain (head 2 9 0 1 61 0 1000) (83 ∷ 85 ∷ 66 ∷ 84 ∷ 73 ∷ 84 ∷ 76 ∷ 69 ∷ (replicate 22 32 ++ (61 ∷ 32 ∷ 72 ∷ 85 ∷ 77 ∷ 73 ∷ 68 ∷ 73 ∷ 84 ∷ 89 ∷ 10 ∷ [])))
      ∷ pointer (record { header = head 3 0 0 1 27 0 1000; class = 4; group = 0; subclass = 0; offset = 3503 })
      ∷ pointer (record { header = head 3 0 0 1 27 0 1000; class = 5; group = 9; subclass = 1; offset = 3535 })
      ∷ pointer (record { header = head 3 0 0 1 27 0 1000; class = 6; group = 0; subclass = 1; offset = 3595 })
      ∷ pointer (record { header = head 3 0 0 1 27 0 1000; class = 7; group = 9; subclass = 0; offset = 3622 })
      ∷ pointer (record { header = head 3 0 0 1 27 0 1000; class = 8; group = 9; subclass = 2; offset = 3675 })
      ∷ plain (head 4 0 0 1 32 0 1000) (replicate 12 0)
      ∷ plain (head 5 9 1 1 60 0 1000) (replicate 40 1)
      ∷ plain (head 6 0 1 1 27 0 1000) (0 ∷ 0 ∷ 0 ∷ 0 ∷ 0 ∷ 0 ∷ 0 ∷ [])
      ∷ plain (head 7 9 0 1 53 0 1000) (replicate 33 2)
      ∷ plain (head 8 9 2 1 220 0 1000) (0 ∷ 1 ∷ 2 ∷ 3 ∷ 4 ∷ 5 ∷ 6 ∷ 7 ∷ 8 ∷ 9 ∷ 10 ∷ 11 ∷ 12 ∷ 13 ∷ 14 ∷ 15 ∷ 16 ∷ 17 ∷ 18 ∷ 19 ∷ 20 ∷ 21 ∷ 22 ∷ 23 ∷ 24 ∷ 25 ∷ 26 ∷ 27 ∷ 28 ∷ 29 ∷ 30 ∷ 31 ∷ 32 ∷ 33 ∷ 34 ∷ 35 ∷ 36 ∷ 37 ∷ 38 ∷ 39 ∷ 40 ∷ 41 ∷ 42 ∷ 43 ∷ 44 ∷ 45 ∷ 46 ∷ 47 ∷ 48 ∷ 49 ∷ 50 ∷ 51 ∷ 52 ∷ 53 ∷ 54 ∷ 55 ∷ 56 ∷ 57 ∷ 58 ∷ 59 ∷ 60 ∷ 61 ∷ 62 ∷ 63 ∷ 64 ∷ 65 ∷ 66 ∷ 67 ∷ 68 ∷ 69 ∷ 70 ∷ 71 ∷ 72 ∷ 73 ∷ 74 ∷ 75 ∷ 76 ∷ 77 ∷ 78 ∷ 79 ∷ 80 ∷ 81 ∷ 82 ∷ 83 ∷ 84 ∷ 85 ∷ 86 ∷ 87 ∷ 88 ∷ 89 ∷ 90 ∷ 91 ∷ 92 ∷ 93 ∷ 94 ∷ 95 ∷ 96 ∷ 97 ∷ 98 ∷ 99 ∷ 100 ∷ 101 ∷ 102 ∷ 103 ∷ 104 ∷ 105 ∷ 106 ∷ 107 ∷ 108 ∷ 109 ∷ 110 ∷ 111 ∷ 112 ∷ 113 ∷ 114 ∷ 115 ∷ 116 ∷ 117 ∷ 118 ∷ 119 ∷ 120 ∷ 121 ∷ 122 ∷ 123 ∷ 124 ∷ 125 ∷ 126 ∷ 127 ∷ 128 ∷ 129 ∷ 130 ∷ 131 ∷ 132 ∷ 133 ∷ 134 ∷ 135 ∷ 136 ∷ 137 ∷ 138 ∷ 139 ∷ 140 ∷ 141 ∷ 142 ∷ 143 ∷ 144 ∷ 145 ∷ 146 ∷ 147 ∷ 148 ∷ 149 ∷ 150 ∷ 151 ∷ 152 ∷ 153 ∷ 154 ∷ 155 ∷ 156 ∷ 157 ∷ 158 ∷ 159 ∷ 160 ∷ 161 ∷ 162 ∷ 163 ∷ 164 ∷ 165 ∷ 166 ∷ 167 ∷ 168 ∷ 169 ∷ 170 ∷ 171 ∷ 172 ∷ 173 ∷ 174 ∷ 175 ∷ 176 ∷ 177 ∷ 178 ∷ 179 ∷ 180 ∷ 181 ∷ 182 ∷ 183 ∷ 184 ∷ 185 ∷ 186 ∷ 187 ∷ 188 ∷ 189 ∷ 190 ∷ 191 ∷ 192 ∷ 193 ∷ 194 ∷ 195 ∷ 196 ∷ 197 ∷ 198 ∷ 199 ∷ [])
      ∷ plain (head 8 9 2 1 120 8000 9000) (replicate 100 0)
      ∷ plain (head 8 13 1 1 21 16000 17000) (0 ∷ [])
      ∷ plain (head 8 9 2 1 320 24000 25000) (replicate 300 0)
      ∷ [];
}

-- ---- ITS BYTES, as they stand in the file: a line as its text, a record as its numbers
abbrev lines_of : List String → List ℕ → List ℕ
lines_of [] rest = rest
lines_of (s ∷ l) rest = bytes_of s ++ (10 ∷ lines_of l rest)

unfoldable pub bytes : List ℕ
bytes =
    (1 ∷ 0 ∷ 0 ∷ 2 ∷ 0 ∷ 0 ∷ 12 ∷ 235 ∷ 23 ∷ 112 ∷ 0 ∷ 0 ∷ 0 ∷ 0 ∷ 23 ∷ 112 ∷ 0 ∷ 0 ∷ 3 ∷ 232 ∷ [])
    ++ lines_of
    ("PRODUCT_NAME                  = MHSx_xxx_1B_M02_20160605000000Z_20160605000025Z_N_O_20160605003000Z"
    ∷ "PARENT_PRODUCT_NAME_1         = xxxxxxxxxxxxxxxxxxxxxxxxxxxxxxxxxxxxxxxxxxxxxxxxxxxxxxxxxxxxxxxxxxx"
    ∷ "PARENT_PRODUCT_NAME_2         = xxxxxxxxxxxxxxxxxxxxxxxxxxxxxxxxxxxxxxxxxxxxxxxxxxxxxxxxxxxxxxxxxxx"
    ∷ "PARENT_PRODUCT_NAME_3         = xxxxxxxxxxxxxxxxxxxxxxxxxxxxxxxxxxxxxxxxxxxxxxxxxxxxxxxxxxxxxxxxxxx"
    ∷ "PARENT_PRODUCT_NAME_4         = xxxxxxxxxxxxxxxxxxxxxxxxxxxxxxxxxxxxxxxxxxxxxxxxxxxxxxxxxxxxxxxxxxx"
    ∷ "INSTRUMENT_ID                 = MHSx"
    ∷ "INSTRUMENT_MODEL              =   2"
    ∷ "PRODUCT_TYPE                  = xxx"
    ∷ "PROCESSING_LEVEL              = 1B"
    ∷ "SPACECRAFT_ID                 = M02"
    ∷ "SENSING_START                 = 20160605000000Z"
    ∷ "SENSING_END                   = 20160605000025Z"
    ∷ "SENSING_START_THEORETICAL     = 20160605000000Z"
    ∷ "SENSING_END_THEORETICAL       = 20160605000024Z"
    ∷ "PROCESSING_CENTRE             = CGS1"
    ∷ "PROCESSOR_MAJOR_VERSION       =     7"
    ∷ "PROCESSOR_MINOR_VERSION       =    12"
    ∷ "FORMAT_MAJOR_VERSION          =    10"
    ∷ "FORMAT_MINOR_VERSION          =     0"
    ∷ "PROCESSING_TIME_START         = 20160605003000Z"
    ∷ "PROCESSING_TIME_END           = 20160605003112Z"
    ∷ "PROCESSING_MODE               = N"
    ∷ "DISPOSITION_MODE              = O"
    ∷ "RECEIVING_GROUND_STATION      = SVL"
    ∷ "RECEIVE_TIME_START            = 20160605001900Z"
    ∷ "RECEIVE_TIME_END              = 20160605001930Z"
    ∷ "ORBIT_START                   = 50123"
    ∷ "ORBIT_END                     = 50124"
    ∷ "ACTUAL_PRODUCT_SIZE           =        4356"
    ∷ "STATE_VECTOR_TIME             = 20160604235012345Z"
    ∷ "SEMI_MAJOR_AXIS               =  7204470012"
    ∷ "ECCENTRICITY                  =        1173"
    ∷ "INCLINATION                   =       98702"
    ∷ "PERIGEE_ARGUMENT              =       69325"
    ∷ "RIGHT_ASCENSION               =      217054"
    ∷ "MEAN_ANOMALY                  =      290812"
    ∷ "X_POSITION                    = -5923114338"
    ∷ "Y_POSITION                    =  4099862701"
    ∷ "Z_POSITION                    =          -1"
    ∷ "X_VELOCITY                    =      880223"
    ∷ "Y_VELOCITY                    =     1352418"
    ∷ "Z_VELOCITY                    =     7349600"
    ∷ "EARTH_SUN_DISTANCE_RATIO      =     1014629"
    ∷ "LOCATION_TOLERANCE_RADIAL     = xxxxxxxxxxx"
    ∷ "LOCATION_TOLERANCE_CROSSTRACK = xxxxxxxxxxx"
    ∷ "LOCATION_TOLERANCE_ALONGTRACK = xxxxxxxxxxx"
    ∷ "YAW_ERROR                     =         -21"
    ∷ "ROLL_ERROR                    =           4"
    ∷ "PITCH_ERROR                   =          -1"
    ∷ "SUBSAT_LATITUDE_START         =       47623"
    ∷ "SUBSAT_LONGITUDE_START        =     -122401"
    ∷ "SUBSAT_LATITUDE_END           =       46180"
    ∷ "SUBSAT_LONGITUDE_END          =     -122987"
    ∷ "LEAP_SECOND                   =  0"
    ∷ "LEAP_SECOND_UTC               = xxxxxxxxxxxxxxZ"
    ∷ "TOTAL_RECORDS                 =     15"
    ∷ "TOTAL_MPHR                    =      1"
    ∷ "TOTAL_SPHR                    =      1"
    ∷ "TOTAL_IPR                     =      5"
    ∷ "TOTAL_GEADR                   =      1"
    ∷ "TOTAL_GIADR                   =      1"
    ∷ "TOTAL_VEADR                   =      1"
    ∷ "TOTAL_VIADR                   =      1"
    ∷ "TOTAL_MDR                     =      4"
    ∷ "COUNT_DEGRADED_INST_MDR       =      1"
    ∷ "COUNT_DEGRADED_PROC_MDR       = xxxxxx"
    ∷ "COUNT_DEGRADED_INST_MDR_BLOCKS=      1"
    ∷ "COUNT_DEGRADED_PROC_MDR_BLOCKS= xxxxxx"
    ∷ "DURATION_OF_PRODUCT           =    25000"
    ∷ "MILLISECONDS_OF_DATA_PRESENT  =     4000"
    ∷ "MILLISECONDS_OF_DATA_MISSING  =    21000"
    ∷ "SUBSETTED_PRODUCT             = F"
    ∷ [])
    (
    (2 ∷ 9 ∷ 0 ∷ 1 ∷ 0 ∷ 0 ∷ 0 ∷ 61 ∷ 23 ∷ 112 ∷ 0 ∷ 0 ∷ 0 ∷ 0 ∷ 23 ∷ 112 ∷ 0 ∷ 0 ∷ 3 ∷ 232 ∷ 83 ∷ 85 ∷ 66 ∷ 84 ∷ 73 ∷ 84 ∷ 76 ∷ 69 ∷ (replicate 22 32 ++ (61 ∷ 32 ∷ 72 ∷ 85 ∷ 77 ∷ 73 ∷ 68 ∷ 73 ∷ 84 ∷ 89 ∷ 10 ∷ [])))
    ++ ((3 ∷ 0 ∷ 0 ∷ 1 ∷ 0 ∷ 0 ∷ 0 ∷ 27 ∷ 23 ∷ 112 ∷ 0 ∷ 0 ∷ 0 ∷ 0 ∷ 23 ∷ 112 ∷ 0 ∷ 0 ∷ 3 ∷ 232 ∷ 4 ∷ 0 ∷ 0 ∷ 0 ∷ 0 ∷ 13 ∷ 175 ∷ [])
    ++ ((3 ∷ 0 ∷ 0 ∷ 1 ∷ 0 ∷ 0 ∷ 0 ∷ 27 ∷ 23 ∷ 112 ∷ 0 ∷ 0 ∷ 0 ∷ 0 ∷ 23 ∷ 112 ∷ 0 ∷ 0 ∷ 3 ∷ 232 ∷ 5 ∷ 9 ∷ 1 ∷ 0 ∷ 0 ∷ 13 ∷ 207 ∷ [])
    ++ ((3 ∷ 0 ∷ 0 ∷ 1 ∷ 0 ∷ 0 ∷ 0 ∷ 27 ∷ 23 ∷ 112 ∷ 0 ∷ 0 ∷ 0 ∷ 0 ∷ 23 ∷ 112 ∷ 0 ∷ 0 ∷ 3 ∷ 232 ∷ 6 ∷ 0 ∷ 1 ∷ 0 ∷ 0 ∷ 14 ∷ 11 ∷ [])
    ++ ((3 ∷ 0 ∷ 0 ∷ 1 ∷ 0 ∷ 0 ∷ 0 ∷ 27 ∷ 23 ∷ 112 ∷ 0 ∷ 0 ∷ 0 ∷ 0 ∷ 23 ∷ 112 ∷ 0 ∷ 0 ∷ 3 ∷ 232 ∷ 7 ∷ 9 ∷ 0 ∷ 0 ∷ 0 ∷ 14 ∷ 38 ∷ [])
    ++ ((3 ∷ 0 ∷ 0 ∷ 1 ∷ 0 ∷ 0 ∷ 0 ∷ 27 ∷ 23 ∷ 112 ∷ 0 ∷ 0 ∷ 0 ∷ 0 ∷ 23 ∷ 112 ∷ 0 ∷ 0 ∷ 3 ∷ 232 ∷ 8 ∷ 9 ∷ 2 ∷ 0 ∷ 0 ∷ 14 ∷ 91 ∷ [])
    ++ ((4 ∷ 0 ∷ 0 ∷ 1 ∷ 0 ∷ 0 ∷ 0 ∷ 32 ∷ 23 ∷ 112 ∷ 0 ∷ 0 ∷ 0 ∷ 0 ∷ 23 ∷ 112 ∷ 0 ∷ 0 ∷ 3 ∷ 232 ∷ (replicate 12 0))
    ++ ((5 ∷ 9 ∷ 1 ∷ 1 ∷ 0 ∷ 0 ∷ 0 ∷ 60 ∷ 23 ∷ 112 ∷ 0 ∷ 0 ∷ 0 ∷ 0 ∷ 23 ∷ 112 ∷ 0 ∷ 0 ∷ 3 ∷ 232 ∷ (replicate 40 1))
    ++ ((6 ∷ 0 ∷ 1 ∷ 1 ∷ 0 ∷ 0 ∷ 0 ∷ 27 ∷ 23 ∷ 112 ∷ 0 ∷ 0 ∷ 0 ∷ 0 ∷ 23 ∷ 112 ∷ 0 ∷ 0 ∷ 3 ∷ 232 ∷ 0 ∷ 0 ∷ 0 ∷ 0 ∷ 0 ∷ 0 ∷ 0 ∷ [])
    ++ ((7 ∷ 9 ∷ 0 ∷ 1 ∷ 0 ∷ 0 ∷ 0 ∷ 53 ∷ 23 ∷ 112 ∷ 0 ∷ 0 ∷ 0 ∷ 0 ∷ 23 ∷ 112 ∷ 0 ∷ 0 ∷ 3 ∷ 232 ∷ (replicate 33 2))
    ++ ((8 ∷ 9 ∷ 2 ∷ 1 ∷ 0 ∷ 0 ∷ 0 ∷ 220 ∷ 23 ∷ 112 ∷ 0 ∷ 0 ∷ 0 ∷ 0 ∷ 23 ∷ 112 ∷ 0 ∷ 0 ∷ 3 ∷ 232 ∷ 0 ∷ 1 ∷ 2 ∷ 3 ∷ 4 ∷ 5 ∷ 6 ∷ 7 ∷ 8 ∷ 9 ∷ 10 ∷ 11 ∷ 12 ∷ 13 ∷ 14 ∷ 15 ∷ 16 ∷ 17 ∷ 18 ∷ 19 ∷ 20 ∷ 21 ∷ 22 ∷ 23 ∷ 24 ∷ 25 ∷ 26 ∷ 27 ∷ 28 ∷ 29 ∷ 30 ∷ 31 ∷ 32 ∷ 33 ∷ 34 ∷ 35 ∷ 36 ∷ 37 ∷ 38 ∷ 39 ∷ 40 ∷ 41 ∷ 42 ∷ 43 ∷ 44 ∷ 45 ∷ 46 ∷ 47 ∷ 48 ∷ 49 ∷ 50 ∷ 51 ∷ 52 ∷ 53 ∷ 54 ∷ 55 ∷ 56 ∷ 57 ∷ 58 ∷ 59 ∷ 60 ∷ 61 ∷ 62 ∷ 63 ∷ 64 ∷ 65 ∷ 66 ∷ 67 ∷ 68 ∷ 69 ∷ 70 ∷ 71 ∷ 72 ∷ 73 ∷ 74 ∷ 75 ∷ 76 ∷ 77 ∷ 78 ∷ 79 ∷ 80 ∷ 81 ∷ 82 ∷ 83 ∷ 84 ∷ 85 ∷ 86 ∷ 87 ∷ 88 ∷ 89 ∷ 90 ∷ 91 ∷ 92 ∷ 93 ∷ 94 ∷ 95 ∷ 96 ∷ 97 ∷ 98 ∷ 99 ∷ 100 ∷ 101 ∷ 102 ∷ 103 ∷ 104 ∷ 105 ∷ 106 ∷ 107 ∷ 108 ∷ 109 ∷ 110 ∷ 111 ∷ 112 ∷ 113 ∷ 114 ∷ 115 ∷ 116 ∷ 117 ∷ 118 ∷ 119 ∷ 120 ∷ 121 ∷ 122 ∷ 123 ∷ 124 ∷ 125 ∷ 126 ∷ 127 ∷ 128 ∷ 129 ∷ 130 ∷ 131 ∷ 132 ∷ 133 ∷ 134 ∷ 135 ∷ 136 ∷ 137 ∷ 138 ∷ 139 ∷ 140 ∷ 141 ∷ 142 ∷ 143 ∷ 144 ∷ 145 ∷ 146 ∷ 147 ∷ 148 ∷ 149 ∷ 150 ∷ 151 ∷ 152 ∷ 153 ∷ 154 ∷ 155 ∷ 156 ∷ 157 ∷ 158 ∷ 159 ∷ 160 ∷ 161 ∷ 162 ∷ 163 ∷ 164 ∷ 165 ∷ 166 ∷ 167 ∷ 168 ∷ 169 ∷ 170 ∷ 171 ∷ 172 ∷ 173 ∷ 174 ∷ 175 ∷ 176 ∷ 177 ∷ 178 ∷ 179 ∷ 180 ∷ 181 ∷ 182 ∷ 183 ∷ 184 ∷ 185 ∷ 186 ∷ 187 ∷ 188 ∷ 189 ∷ 190 ∷ 191 ∷ 192 ∷ 193 ∷ 194 ∷ 195 ∷ 196 ∷ 197 ∷ 198 ∷ 199 ∷ [])
    ++ ((8 ∷ 9 ∷ 2 ∷ 1 ∷ 0 ∷ 0 ∷ 0 ∷ 120 ∷ 23 ∷ 112 ∷ 0 ∷ 0 ∷ 31 ∷ 64 ∷ 23 ∷ 112 ∷ 0 ∷ 0 ∷ 35 ∷ 40 ∷ (replicate 100 0))
    ++ ((8 ∷ 13 ∷ 1 ∷ 1 ∷ 0 ∷ 0 ∷ 0 ∷ 21 ∷ 23 ∷ 112 ∷ 0 ∷ 0 ∷ 62 ∷ 128 ∷ 23 ∷ 112 ∷ 0 ∷ 0 ∷ 66 ∷ 104 ∷ 0 ∷ [])
    ++ ((8 ∷ 9 ∷ 2 ∷ 1 ∷ 0 ∷ 0 ∷ 1 ∷ 64 ∷ 23 ∷ 112 ∷ 0 ∷ 0 ∷ 93 ∷ 192 ∷ 23 ∷ 112 ∷ 0 ∷ 0 ∷ 97 ∷ 168 ∷ (replicate 300 0)))))))))))))))
    )

-- ---- THE BYTES ARE PRINTED of what it says
pub sample_printed : print sample ≡ bytes
unfolding sample bytes main_of line_of rec_of put_header put_pointer stored put_name put_frame put_rest put_moment put_digits put_x is_long names rows fields widths kinds width_of kind_of
sample_printed = refl

-- ---- AND THEY SAY IT
pub sample_said : parse bytes ≡ sample
unfolding sample bytes start total line_at rec_at header_at pointer_at be_at lead run_of number_of is_none moment_at is_x names rows fields widths kinds width_of kind_of line_start
sample_said = refl

-- ---- IT IS A PRODUCT, by the test of demands' examples
pub sample_meets : Meets bytes
unfolding bytes headed timed_at be_at last_milli leap_day declared total sum number_of names rows fields widths kinds width_of kind_of line_start lead is_value is_number is_x run_of is_none is_digits is_moment moment_at last_second is_date is_class is_group may_follow first_after
sample_meets = product_meets bytes (3307 ∷ 3368 ∷ 3395 ∷ 3422 ∷ 3449 ∷ 3476 ∷ 3503 ∷ 3535 ∷ 3595 ∷ 3622 ∷ 3675 ∷ 3895 ∷ 4015 ∷ 4036 ∷ []) refl

sample_small : all (λ (x : ℕ). ltb x 256) bytes ≡ true
unfolding bytes
sample_small = refl

-- ---- SO the values are right, the file is in the writers' spelling, and every query of it answers these values
pub sample_right : Right sample
sample_right = subst Right sample_said (inverse.right bytes (all_small bytes sample_small) sample_meets)

pub sample_canonical : Canonical bytes
sample_canonical = subst Canonical sample_printed (inverse.canonical sample sample_right)

pub sample_answers : Answers bytes sample
sample_answers = subst (λ (a : List ℕ). Answers a sample) sample_printed (inverse.answers sample sample_right)
