-- VECTORS OF AN INDEPENDENT READING, computed: of products of vectors/judge/products.bin, one for each fault of the table, cut where the fault is shown, what
-- `arrival_of` computes is what vectors/judge/expected.txt has; and so of the paper's example, whole. A product is the example's main header with some bytes
-- changed, and its records. So the definitions themselves, and not the compiled code, are held against that reading. Assumes nothing.
use mathlib.Core.Path.{◌≡◌, refl, ◌∙◌}
use mathlib.Core.List.{List, [], ◌∷◌, ◌++◌}
use Prim.Native.Nat.{ℕ, ◌+◌}
use lib.ListN.{length, take, drop}
use Rattle.calendar.specs.Said.{refusing}
use Rattle.calendar.specs.Calendar.{leap_day, is_date}
use Rattle.meter.specs.Integer.{be_at}
use Rattle.meter.specs.Time.{last_milli}
use Rattle.meter.specs.General.{lead, run_of, number_of, is_none, is_digits, moment_at, is_moment, last_second}
use Rattle.record.specs.Header.{is_class, is_group}
use Rattle.record.specs.Follow.{may_follow, first_after}
use Rattle.record.specs.Times.{timed_at}
use Rattle.text.specs.Field.{is_x, is_number, is_value}
use Rattle.mphr.specs.Layout.{fields, rows, names, widths, kinds, width_of, kind_of, line_start}
use Rattle.mphr.specs.Table.{headed, valued, declared, total, sum}
use Rattle.judge.specs.declared.arrival.Arrival.TheVariants.{Waiting, Refused}
use Rattle.judge.specs.declared.arrival.Arrival.{Arrival}
use Rattle.demands.proofs.Example as E
use Rattle.arrivals.specs.Computed.{is_sound, is_target, record_rows, arrival_of}
use Rattle.arrivals.proofs.Quick.{quickly, quick}

-- the bytes b in the place of those from i on
unfoldable pub put : ℕ → List ℕ → List ℕ → List ℕ
put i b l = take i l ++ (b ++ drop (i + length b) l)

-- the main header of the paper's example
unfoldable pub header : List ℕ
header = take 3307 E.example

-- the first 20 bytes of product 9: fault 1 is shown there
unfoldable pub product_9 : List ℕ
product_9 = put 7 (236 ∷ 1 ∷ 110 ∷ 0 ∷ 16 ∷ 125 ∷ 39 ∷ 128 ∷ 90 ∷ 0 ∷ 0 ∷ 0 ∷ 0 ∷ []) (take 20 header)

-- the first 520 bytes of product 15: fault 2 is shown there
unfoldable pub product_15 : List ℕ
product_15 = put 519 (13 ∷ []) (put 8 (0 ∷ 0 ∷ 3 ∷ 138 ∷ 35 ∷ 236 ∷ 46 ∷ 193 ∷ 4 ∷ 85 ∷ 198 ∷ 216 ∷ []) (put 3 (255 ∷ []) (take 520 header)))

-- the first 1497 bytes of product 196: fault 3 is shown there
unfoldable pub product_196 : List ℕ
product_196 = put 1494 (48 ∷ 120 ∷ []) (take 1497 header)

-- the first 1497 bytes of product 213: fault 4 is shown there
unfoldable pub product_213 : List ℕ
product_213 = put 1494 (48 ∷ 54 ∷ []) (take 1497 header)

-- the first 2994 bytes of product 48: fault 5 is shown there
unfoldable pub product_48 : List ℕ
product_48 = put 2992 (54 ∷ []) (put 2953 (50 ∷ []) (put 2914 (50 ∷ []) (put 2875 (51 ∷ []) (put 2836 (49 ∷ []) (put 2797 (52 ∷ []) (put 2758 (49 ∷ []) (put 2679 (49 ∷ 57 ∷ []) (put 2627 (120 ∷ 120 ∷ 120 ∷ 120 ∷ 120 ∷ 120 ∷ 120 ∷ 120 ∷ 120 ∷ 120 ∷ 120 ∷ 120 ∷ 120 ∷ 120 ∷ 120 ∷ []) (put 2465 (45 ∷ 52 ∷ 57 ∷ 48 ∷ 55 ∷ 56 ∷ []) (put 2418 (48 ∷ 48 ∷ 48 ∷ 48 ∷ 48 ∷ 48 ∷ 48 ∷ 48 ∷ []) (put 2284 (120 ∷ 120 ∷ 120 ∷ 120 ∷ 120 ∷ 120 ∷ 120 ∷ 120 ∷ 120 ∷ 120 ∷ 120 ∷ []) (put 2073 (45 ∷ []) (put 1632 (48 ∷ 48 ∷ []) (put 1585 (48 ∷ 48 ∷ 48 ∷ 48 ∷ 48 ∷ []) (put 1529 (48 ∷ 49 ∷ 48 ∷ 48 ∷ 48 ∷ 57 ∷ 51 ∷ 48 ∷ 48 ∷ 49 ∷ 53 ∷ 57 ∷ 49 ∷ 55 ∷ 49 ∷ 53 ∷ 57 ∷ []) (put 1493 (57 ∷ 57 ∷ []) (put 1409 (50 ∷ 56 ∷ 56 ∷ 55 ∷ []) (put 1313 (51 ∷ 56 ∷ 57 ∷ 55 ∷ 49 ∷ 49 ∷ 48 ∷ 57 ∷ 50 ∷ 51 ∷ 51 ∷ 52 ∷ []) (put 1209 (61 ∷ []) (put 999 (53 ∷ 55 ∷ 54 ∷ 48 ∷ 50 ∷ []) (put 961 (120 ∷ 120 ∷ 120 ∷ 120 ∷ 120 ∷ []) (put 876 (48 ∷ 48 ∷ 48 ∷ 48 ∷ 48 ∷ 54 ∷ 48 ∷ 49 ∷ 50 ∷ 51 ∷ 48 ∷ 48 ∷ 53 ∷ 57 ∷ []) (put 734 (49 ∷ 54 ∷ 49 ∷ 48 ∷ 49 ∷ 56 ∷ 48 ∷ 51 ∷ 48 ∷ 48 ∷ 53 ∷ 52 ∷ []) (put 8 (255 ∷ 255 ∷ 255 ∷ 255 ∷ 255 ∷ 255 ∷ 24 ∷ 65 ∷ 2 ∷ 96 ∷ 163 ∷ 220 ∷ []) (take 2994 header)))))))))))))))))))))))))

-- the first 3307 bytes of product 57: fault 6 is shown there
unfoldable pub product_57 : List ℕ
product_57 = put 2992 (48 ∷ []) (put 2680 (49 ∷ []) (put 1495 (54 ∷ []) header))

-- the first 3327 bytes of product 65: fault 7 is shown there
unfoldable pub product_65 : List ℕ
product_65 = (put 1495 (55 ∷ []) header) ++ (8 ∷ 14 ∷ 0 ∷ 1 ∷ 0 ∷ 0 ∷ 0 ∷ 20 ∷ 23 ∷ 112 ∷ 0 ∷ 0 ∷ 0 ∷ 0 ∷ 23 ∷ 112 ∷ 0 ∷ 0 ∷ 3 ∷ 232 ∷ [])

-- the first 3327 bytes of product 76: fault 8 is shown there
unfoldable pub product_76 : List ℕ
product_76 = (put 1494 (54 ∷ []) header) ++ (1 ∷ 0 ∷ 0 ∷ 1 ∷ 0 ∷ 0 ∷ 0 ∷ 41 ∷ 23 ∷ 112 ∷ 0 ∷ 0 ∷ 0 ∷ 0 ∷ 23 ∷ 112 ∷ 0 ∷ 0 ∷ 3 ∷ 232 ∷ [])

-- the first 3327 bytes of product 82: fault 9 is shown there
unfoldable pub product_82 : List ℕ
product_82 = header ++ (8 ∷ 0 ∷ 0 ∷ 1 ∷ 0 ∷ 0 ∷ 3 ∷ 253 ∷ 23 ∷ 112 ∷ 0 ∷ 0 ∷ 0 ∷ 0 ∷ 23 ∷ 112 ∷ 0 ∷ 0 ∷ 3 ∷ 232 ∷ [])

-- the first 20 bytes of product 200: fault 10 is shown there
unfoldable pub product_200 : List ℕ
product_200 = put 14 (0 ∷ 0 ∷ 0 ∷ 0 ∷ 0 ∷ 0 ∷ []) (take 20 header)

-- the first 3401 bytes of product 209: fault 11 is shown there
unfoldable pub product_209 : List ℕ
product_209 = (put 2992 (48 ∷ []) (put 2953 (49 ∷ []) (put 2797 (50 ∷ []) (put 2680 (52 ∷ []) (put 1493 (52 ∷ 54 ∷ 48 ∷ []) header))))) ++ (3 ∷ 0 ∷ 0 ∷ 1 ∷ 0 ∷ 0 ∷ 0 ∷ 27 ∷ 23 ∷ 112 ∷ 0 ∷ 0 ∷ 0 ∷ 0 ∷ 23 ∷ 112 ∷ 0 ∷ 0 ∷ 3 ∷ 232 ∷ 8 ∷ 0 ∷ 2 ∷ 0 ∷ 0 ∷ 13 ∷ 53 ∷ 3 ∷ 0 ∷ 0 ∷ 1 ∷ 0 ∷ 0 ∷ 0 ∷ 27 ∷ 23 ∷ 112 ∷ 0 ∷ 0 ∷ 0 ∷ 0 ∷ 23 ∷ 112 ∷ 0 ∷ 0 ∷ 3 ∷ 232 ∷ 8 ∷ 0 ∷ 1 ∷ 0 ∷ 0 ∷ 13 ∷ 55 ∷ 7 ∷ 0 ∷ 0 ∷ 1 ∷ 0 ∷ 0 ∷ 0 ∷ 20 ∷ 23 ∷ 112 ∷ 0 ∷ 0 ∷ 0 ∷ 0 ∷ 23 ∷ 112 ∷ 0 ∷ 0 ∷ 3 ∷ 232 ∷ 8 ∷ 0 ∷ 1 ∷ 1 ∷ 0 ∷ 0 ∷ 0 ∷ 29 ∷ 23 ∷ 112 ∷ 0 ∷ 0 ∷ 0 ∷ 0 ∷ 23 ∷ 112 ∷ 0 ∷ 0 ∷ 3 ∷ 232 ∷ [])

-- the first 3374 bytes of product 114: fault 12 is shown there
unfoldable pub product_114 : List ℕ
product_114 = (put 3223 (57 ∷ 57 ∷ 57 ∷ 57 ∷ 57 ∷ 57 ∷ 57 ∷ 57 ∷ []) (put 2992 (54 ∷ []) (put 2953 (52 ∷ []) (put 2870 (48 ∷ 48 ∷ 48 ∷ 48 ∷ 48 ∷ []) (put 2836 (52 ∷ []) (put 2797 (52 ∷ []) (put 2758 (49 ∷ []) (put 2679 (50 ∷ 48 ∷ []) (put 2627 (57 ∷ 53 ∷ 56 ∷ 52 ∷ 48 ∷ 55 ∷ 48 ∷ 49 ∷ 50 ∷ 51 ∷ 51 ∷ 51 ∷ []) (put 2554 (52 ∷ 57 ∷ 51 ∷ 48 ∷ 55 ∷ []) (put 2284 (120 ∷ 120 ∷ 120 ∷ 120 ∷ 120 ∷ 120 ∷ 120 ∷ 120 ∷ 120 ∷ 120 ∷ 120 ∷ []) (put 2152 (120 ∷ 120 ∷ 120 ∷ 120 ∷ 120 ∷ 120 ∷ 120 ∷ 120 ∷ 120 ∷ 120 ∷ 120 ∷ []) (put 2064 (49 ∷ 50 ∷ 53 ∷ 48 ∷ 55 ∷ 52 ∷ 56 ∷ 49 ∷ 53 ∷ 55 ∷ 55 ∷ []) (put 1844 (57 ∷ 57 ∷ 57 ∷ 57 ∷ 57 ∷ 57 ∷ 57 ∷ 57 ∷ 57 ∷ 57 ∷ 57 ∷ []) (put 1800 (120 ∷ 120 ∷ 120 ∷ 120 ∷ 120 ∷ 120 ∷ 120 ∷ 120 ∷ 120 ∷ 120 ∷ 120 ∷ []) (put 1529 (49 ∷ 57 ∷ 57 ∷ 54 ∷ 48 ∷ 55 ∷ 50 ∷ 57 ∷ 49 ∷ 50 ∷ 53 ∷ 56 ∷ 53 ∷ 57 ∷ 50 ∷ 52 ∷ 56 ∷ []) (put 1493 (56 ∷ 48 ∷ 54 ∷ []) (put 1412 (48 ∷ []) (put 1313 (48 ∷ 48 ∷ 48 ∷ 49 ∷ 49 ∷ 48 ∷ 51 ∷ 49 ∷ 49 ∷ 56 ∷ 51 ∷ 57 ∷ []) (put 626 (126 ∷ 47 ∷ []) (put 305 (32 ∷ 120 ∷ 126 ∷ 120 ∷ 32 ∷ 61 ∷ 32 ∷ 61 ∷ 61 ∷ 120 ∷ 61 ∷ 87 ∷ 39 ∷ 32 ∷ []) (put 253 (75 ∷ 32 ∷ 61 ∷ 120 ∷ 126 ∷ 32 ∷ 47 ∷ 61 ∷ 99 ∷ 61 ∷ 120 ∷ 126 ∷ 61 ∷ 126 ∷ 126 ∷ 32 ∷ 120 ∷ 120 ∷ 61 ∷ 32 ∷ 61 ∷ 120 ∷ 126 ∷ 120 ∷ 120 ∷ 61 ∷ 61 ∷ 120 ∷ 61 ∷ 120 ∷ 120 ∷ 32 ∷ 106 ∷ 120 ∷ 32 ∷ 120 ∷ 32 ∷ 120 ∷ 32 ∷ 120 ∷ 32 ∷ 61 ∷ 126 ∷ 126 ∷ 33 ∷ 120 ∷ 126 ∷ 61 ∷ 126 ∷ []) (put 8 (0 ∷ 59 ∷ 3 ∷ 25 ∷ 231 ∷ 189 ∷ 0 ∷ 59 ∷ 3 ∷ 25 ∷ 231 ∷ 189 ∷ []) header))))))))))))))))))))))) ++ (2 ∷ 0 ∷ 2 ∷ 3 ∷ 0 ∷ 0 ∷ 0 ∷ 40 ∷ 105 ∷ 248 ∷ 0 ∷ 0 ∷ 0 ∷ 0 ∷ 255 ∷ 255 ∷ 0 ∷ 238 ∷ 221 ∷ 4 ∷ 233 ∷ 189 ∷ 214 ∷ 208 ∷ 33 ∷ 212 ∷ 48 ∷ 58 ∷ 146 ∷ 97 ∷ 91 ∷ 71 ∷ 55 ∷ 220 ∷ 44 ∷ 109 ∷ 40 ∷ 81 ∷ 120 ∷ 175 ∷ 3 ∷ 0 ∷ 0 ∷ 1 ∷ 0 ∷ 0 ∷ 0 ∷ 27 ∷ 0 ∷ 0 ∷ 0 ∷ 0 ∷ 0 ∷ 0 ∷ 0 ∷ 59 ∷ 2 ∷ 57 ∷ 132 ∷ 75 ∷ 8 ∷ 15 ∷ 255 ∷ 0 ∷ 0 ∷ 13 ∷ 45 ∷ [])

-- the first 3469 bytes of product 125: fault 13 is shown there
unfoldable pub product_125 : List ℕ
product_125 = (put 3029 (52 ∷ 49 ∷ 57 ∷ []) (put 2992 (54 ∷ []) (put 2952 (48 ∷ 49 ∷ []) (put 2914 (51 ∷ []) (put 2875 (51 ∷ []) (put 2836 (49 ∷ []) (put 2797 (52 ∷ []) (put 2758 (49 ∷ []) (put 2679 (50 ∷ 48 ∷ []) (put 2548 (120 ∷ 120 ∷ 120 ∷ 120 ∷ 120 ∷ 120 ∷ 120 ∷ 120 ∷ 120 ∷ 120 ∷ 120 ∷ []) (put 2064 (43 ∷ 56 ∷ 54 ∷ 50 ∷ 51 ∷ 52 ∷ 50 ∷ 57 ∷ 49 ∷ 56 ∷ 53 ∷ []) (put 1941 (45 ∷ []) (put 1809 (45 ∷ []) (put 1668 (53 ∷ 57 ∷ 48 ∷ 52 ∷ 55 ∷ 55 ∷ 57 ∷ 57 ∷ 50 ∷ 57 ∷ 57 ∷ []) (put 1529 (120 ∷ 120 ∷ 120 ∷ 120 ∷ 120 ∷ 120 ∷ 120 ∷ 120 ∷ 120 ∷ 120 ∷ 120 ∷ 120 ∷ 120 ∷ 120 ∷ 120 ∷ 120 ∷ 120 ∷ 120 ∷ []) (put 1491 (48 ∷ 52 ∷ 48 ∷ 54 ∷ 57 ∷ []) (put 1313 (48 ∷ 48 ∷ 48 ∷ 49 ∷ 49 ∷ 49 ∷ 50 ∷ 55 ∷ 50 ∷ 51 ∷ 48 ∷ 48 ∷ []) (put 1209 (120 ∷ []) (put 886 (48 ∷ 48 ∷ 53 ∷ 57 ∷ []) (put 876 (48 ∷ 55 ∷ 53 ∷ 48 ∷ 49 ∷ []) (put 828 (49 ∷ 57 ∷ 57 ∷ 54 ∷ 48 ∷ 49 ∷ 51 ∷ 49 ∷ 48 ∷ 48 ∷ 48 ∷ 48 ∷ 53 ∷ 57 ∷ []) (put 732 (53 ∷ 52 ∷ 55 ∷ 54 ∷ 48 ∷ 51 ∷ 50 ∷ 54 ∷ 48 ∷ 48 ∷ 52 ∷ 55 ∷ 50 ∷ 57 ∷ []) (put 8 (255 ∷ 255 ∷ 1 ∷ 70 ∷ 231 ∷ 116 ∷ 255 ∷ 255 ∷ 255 ∷ 255 ∷ 255 ∷ 255 ∷ []) (put 3 (255 ∷ []) header)))))))))))))))))))))))) ++ (2 ∷ 1 ∷ 1 ∷ 0 ∷ 0 ∷ 0 ∷ 0 ∷ 115 ∷ 0 ∷ 0 ∷ 3 ∷ 143 ∷ 149 ∷ 108 ∷ 24 ∷ 65 ∷ 5 ∷ 38 ∷ 91 ∷ 255 ∷ 72 ∷ 2 ∷ 122 ∷ 247 ∷ 188 ∷ 35 ∷ 34 ∷ 212 ∷ 103 ∷ 82 ∷ 27 ∷ 72 ∷ 212 ∷ 58 ∷ 210 ∷ 191 ∷ 13 ∷ 166 ∷ 163 ∷ 94 ∷ 141 ∷ 164 ∷ 205 ∷ 50 ∷ 131 ∷ 87 ∷ 77 ∷ 252 ∷ 86 ∷ 123 ∷ 169 ∷ 83 ∷ 67 ∷ 51 ∷ 84 ∷ 144 ∷ 191 ∷ 191 ∷ 134 ∷ 161 ∷ 246 ∷ 230 ∷ 23 ∷ 64 ∷ 231 ∷ 46 ∷ 122 ∷ 201 ∷ 116 ∷ 104 ∷ 24 ∷ 181 ∷ 120 ∷ 190 ∷ 3 ∷ 7 ∷ 29 ∷ 231 ∷ 108 ∷ 159 ∷ 146 ∷ 179 ∷ 181 ∷ 183 ∷ 107 ∷ 221 ∷ 224 ∷ 86 ∷ 205 ∷ 63 ∷ 66 ∷ 152 ∷ 186 ∷ 115 ∷ 106 ∷ 173 ∷ 48 ∷ 169 ∷ 35 ∷ 154 ∷ 241 ∷ 159 ∷ 65 ∷ 15 ∷ 77 ∷ 153 ∷ 174 ∷ 216 ∷ 167 ∷ 220 ∷ 99 ∷ 118 ∷ 83 ∷ 56 ∷ 172 ∷ 3 ∷ 2 ∷ 0 ∷ 1 ∷ 0 ∷ 0 ∷ 0 ∷ 27 ∷ 1 ∷ 110 ∷ 5 ∷ 38 ∷ 91 ∷ 255 ∷ 41 ∷ 111 ∷ 5 ∷ 29 ∷ 83 ∷ 7 ∷ 8 ∷ 0 ∷ 0 ∷ 0 ∷ 0 ∷ 13 ∷ 147 ∷ 3 ∷ 0 ∷ 0 ∷ 1 ∷ 0 ∷ 0 ∷ 0 ∷ 27 ∷ 0 ∷ 0 ∷ 3 ∷ 117 ∷ 4 ∷ 160 ∷ 24 ∷ 65 ∷ 4 ∷ 157 ∷ 79 ∷ 94 ∷ [])

-- the first 3401 bytes of product 223: fault 14 is shown there
unfoldable pub product_223 : List ℕ
product_223 = (put 2992 (50 ∷ []) (put 2953 (49 ∷ []) (put 2797 (50 ∷ []) (put 2680 (54 ∷ []) (put 1493 (52 ∷ 54 ∷ 48 ∷ []) header))))) ++ (3 ∷ 0 ∷ 0 ∷ 1 ∷ 0 ∷ 0 ∷ 0 ∷ 27 ∷ 23 ∷ 112 ∷ 0 ∷ 0 ∷ 0 ∷ 0 ∷ 23 ∷ 112 ∷ 0 ∷ 0 ∷ 3 ∷ 232 ∷ 8 ∷ 0 ∷ 2 ∷ 0 ∷ 0 ∷ 13 ∷ 53 ∷ 3 ∷ 0 ∷ 0 ∷ 1 ∷ 0 ∷ 0 ∷ 0 ∷ 27 ∷ 23 ∷ 112 ∷ 0 ∷ 0 ∷ 0 ∷ 0 ∷ 23 ∷ 112 ∷ 0 ∷ 0 ∷ 3 ∷ 232 ∷ 8 ∷ 0 ∷ 2 ∷ 0 ∷ 0 ∷ 13 ∷ 53 ∷ 7 ∷ 0 ∷ 0 ∷ 1 ∷ 0 ∷ 0 ∷ 0 ∷ 20 ∷ 23 ∷ 112 ∷ 0 ∷ 0 ∷ 0 ∷ 0 ∷ 23 ∷ 112 ∷ 0 ∷ 0 ∷ 3 ∷ 232 ∷ 8 ∷ 0 ∷ 1 ∷ 1 ∷ 0 ∷ 0 ∷ 0 ∷ 29 ∷ 23 ∷ 112 ∷ 0 ∷ 0 ∷ 0 ∷ 0 ∷ 23 ∷ 112 ∷ 0 ∷ 0 ∷ 3 ∷ 232 ∷ [])

-- the first 3307 bytes of product 142: fault 15 is shown there
unfoldable pub product_142 : List ℕ
product_142 = put 1494 (48 ∷ 55 ∷ []) header

-- the first 3308 bytes of product 156: fault 16 is shown there
unfoldable pub product_156 : List ℕ
product_156 = (put 2992 (48 ∷ []) (put 2680 (49 ∷ []) (put 1494 (48 ∷ 55 ∷ []) header))) ++ (0 ∷ [])

-- ---- THE CLAIMS: arrivals, and what the reading answers of them
abbrev pub each : (List ℕ → Arrival) → List (List ℕ) → List Arrival
each f [] = []
each f (a ∷ l) = f a ∷ each f l

each_quick : (l : List (List ℕ)) → each arrival_of l ≡ each quickly l
each_quick [] = refl
each_quick (a ∷ l) = rw (quick a, each_quick l)

-- faults of the main header: 1, 2, 3, 4, 5, 10
quick_main_header : each quickly (product_9 ∷ product_15 ∷ product_196 ∷ product_213 ∷ product_48 ∷ product_200 ∷ []) ≡ (Refused (refusing 1 0) ∷ Refused (refusing 2 420) ∷ Refused (refusing 3 1485) ∷ Refused (refusing 4 1485) ∷ Refused (refusing 5 2675) ∷ Refused (refusing 10 0) ∷ [])
unfolding header product_9 product_15 product_196 product_213 product_48 product_200 E.example E.product E.text put quickly record_rows is_sound is_target headed valued timed_at be_at last_milli leap_day declared total sum number_of names rows fields widths kinds width_of kind_of line_start lead is_value is_number is_x run_of is_none is_digits is_moment moment_at last_second is_date is_class is_group may_follow first_after
quick_main_header = refl

pub answered_main_header : each arrival_of (product_9 ∷ product_15 ∷ product_196 ∷ product_213 ∷ product_48 ∷ product_200 ∷ []) ≡ (Refused (refusing 1 0) ∷ Refused (refusing 2 420) ∷ Refused (refusing 3 1485) ∷ Refused (refusing 4 1485) ∷ Refused (refusing 5 2675) ∷ Refused (refusing 10 0) ∷ [])
answered_main_header = each_quick (product_9 ∷ product_15 ∷ product_196 ∷ product_213 ∷ product_48 ∷ product_200 ∷ []) ∙ quick_main_header

-- faults of a record by itself: 6, 7, 8, 9
quick_records : each quickly (product_57 ∷ product_65 ∷ product_76 ∷ product_82 ∷ []) ≡ (Refused (refusing 6 3307) ∷ Refused (refusing 7 3307) ∷ Refused (refusing 8 3307) ∷ Refused (refusing 9 3307) ∷ [])
unfolding header product_57 product_65 product_76 product_82 E.example E.product E.text put quickly record_rows is_sound is_target headed valued timed_at be_at last_milli leap_day declared total sum number_of names rows fields widths kinds width_of kind_of line_start lead is_value is_number is_x run_of is_none is_digits is_moment moment_at last_second is_date is_class is_group may_follow first_after
quick_records = refl

pub answered_records : each arrival_of (product_57 ∷ product_65 ∷ product_76 ∷ product_82 ∷ []) ≡ (Refused (refusing 6 3307) ∷ Refused (refusing 7 3307) ∷ Refused (refusing 8 3307) ∷ Refused (refusing 9 3307) ∷ [])
answered_records = each_quick (product_57 ∷ product_65 ∷ product_76 ∷ product_82 ∷ []) ∙ quick_records

-- faults of totals and of the end: 11, 15, 16
quick_ends : each quickly (product_209 ∷ product_142 ∷ product_156 ∷ []) ≡ (Refused (refusing 11 3381) ∷ Refused (refusing 15 3307) ∷ Refused (refusing 16 3307) ∷ [])
unfolding header product_209 product_142 product_156 E.example E.product E.text put quickly record_rows is_sound is_target headed valued timed_at be_at last_milli leap_day declared total sum number_of names rows fields widths kinds width_of kind_of line_start lead is_value is_number is_x run_of is_none is_digits is_moment moment_at last_second is_date is_class is_group may_follow first_after
quick_ends = refl

pub answered_ends : each arrival_of (product_209 ∷ product_142 ∷ product_156 ∷ []) ≡ (Refused (refusing 11 3381) ∷ Refused (refusing 15 3307) ∷ Refused (refusing 16 3307) ∷ [])
answered_ends = each_quick (product_209 ∷ product_142 ∷ product_156 ∷ []) ∙ quick_ends

-- faults of pointers: 12, 13, 14
quick_pointers : each quickly (product_114 ∷ product_125 ∷ product_223 ∷ []) ≡ (Refused (refusing 12 3347) ∷ Refused (refusing 13 3422) ∷ Refused (refusing 14 3307) ∷ [])
unfolding header product_114 product_125 product_223 E.example E.product E.text put quickly record_rows is_sound is_target headed valued timed_at be_at last_milli leap_day declared total sum number_of names rows fields widths kinds width_of kind_of line_start lead is_value is_number is_x run_of is_none is_digits is_moment moment_at last_second is_date is_class is_group may_follow first_after
quick_pointers = refl

pub answered_pointers : each arrival_of (product_114 ∷ product_125 ∷ product_223 ∷ []) ≡ (Refused (refusing 12 3347) ∷ Refused (refusing 13 3422) ∷ Refused (refusing 14 3307) ∷ [])
answered_pointers = each_quick (product_114 ∷ product_125 ∷ product_223 ∷ []) ∙ quick_pointers

-- the paper's example, product 0, whole: its two records end at 3,328
quick_whole : each quickly (E.example ∷ []) ≡ (Waiting 2 3328 ∷ [])
unfolding E.example E.product E.text put quickly record_rows is_sound is_target headed valued timed_at be_at last_milli leap_day declared total sum number_of names rows fields widths kinds width_of kind_of line_start lead is_value is_number is_x run_of is_none is_digits is_moment moment_at last_second is_date is_class is_group may_follow first_after
quick_whole = refl

pub answered_whole : each arrival_of (E.example ∷ []) ≡ (Waiting 2 3328 ∷ [])
answered_whole = each_quick (E.example ∷ []) ∙ quick_whole
