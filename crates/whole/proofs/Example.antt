-- AN EXAMPLE, computed: what demands' richer product says (a secondary header, two pointers, what they point at, a dummy), and that its bytes are printed
-- of it. So there are right values, and products in the writers' spelling. Assumes nothing.
use mathlib.Core.Path.{◌≡◌, refl, sym, ap, ◌∙◌, subst}
use mathlib.Core.List.{List, [], ◌∷◌, ◌++◌}
use Prim.Native.Nat.{ℕ}
use Prim.Native.String.{String}
use mathlib.Core.Bool.{true}
use lib.Dec.{ltb}
use lib.ListN.{replicate, drop}
use Rattle.calendar.specs.Calendar.{date}
use Rattle.meter.specs.Integer.{be_at, stored}
use Rattle.meter.specs.General.{lead, run_of, number_of, is_none, moment_at, put_digits, put_moment, put_x}
use Rattle.std.specs.declared.option.Option.TheVariants.{Some}
use Rattle.meter.specs.Instant as T
use Rattle.record.specs.Header.{header_at, put_header}
use Rattle.record.specs.Pointer.{pointer_at, put_pointer}
use Rattle.record.specs.declared.header.Header.{Header}
use Rattle.text.specs.Field.{is_x}
use Rattle.text.specs.Writing.{put_rest}
use Rattle.mphr.specs.Layout.{fields, rows, names, widths, kinds, width_of, kind_of, line_start, bytes_of}
use Rattle.mphr.specs.NameTable.{all}
use Rattle.mphr.specs.Lines.{is_long, put_name, put_frame}
use Rattle.finish.specs.Rows.{rows_after, start_of}
use Rattle.demands.proofs.Example as E
use Rattle.whole.specs.Values.{Value, text, time, whole, plain, pointer, Values, line_of, main_of, rec_of, print, Right}
use Rattle.whole.specs.Spelled.{Canonical}
use Rattle.whole.specs.Parse.{line_at, rec_at, parse_at}
use Rattle.whole.proofs.Parsed.{parse_right}
use Rattle.whole.proofs.Canon.{print_canonical}
use Rattle.whole.proofs.OfBytes.{all_small}

-- ---- WHAT IT SAYS
abbrev says : String → Value
says s = text (bytes_of s)

abbrev at : ℕ → Value
at ms = time (Some (record { date = date 2005 1 1; hour = 10; minute = 15; second = 0; milli = ms }))

abbrev head : ℕ → ℕ → ℕ → ℕ → ℕ → Header
head c g s v z = record { class = c; group = g; subclass = s; version = v; size = z; start = T.At 6000 0; stop = T.At 6000 1000 }

abbrev none : Value
none = says "xxxxxxxxxxxxxxxxxxxxxxxxxxxxxxxxxxxxxxxxxxxxxxxxxxxxxxxxxxxxxxxxxxx"

unfoldable pub richer : Values
richer = record {
  header = head 1 0 0 2 3307;
  lines =
      says "AMSA_xxx_1A_M01_20050101101500Z_20050101115500Z_N_O_20050101121500Z"
      ∷ none
      ∷ none
      ∷ none
      ∷ none
      ∷ says "AMSA"
      ∷ says "  1"
      ∷ says "xxx"
      ∷ says "1A"
      ∷ says "M01"
      ∷ (replicate 4 (at 0)
      ++ (says "CGS1"
      ∷ (replicate 4 (whole 0)
      ++ (at 0
      ∷ at 0
      ∷ says "N"
      ∷ says "O"
      ∷ says "SVL"
      ∷ at 0
      ∷ at 0
      ∷ whole 0
      ∷ whole 0
      ∷ whole 3422
      ∷ at 123
      ∷ (replicate 24 (whole 0)
      ++ (at 0
      ∷ whole 6
      ∷ whole 1
      ∷ whole 1
      ∷ whole 2
      ∷ whole 0
      ∷ whole 1
      ∷ whole 0
      ∷ whole 0
      ∷ whole 1
      ∷ (replicate 7 (whole 0) ++ (says "F" ∷ []))))))));
  records =
      plain (head 2 9 0 1 20) []
      ∷ pointer (record { header = head 3 0 0 1 27; class = 5; group = 9; subclass = 1; offset = 3381 })
      ∷ pointer (record { header = head 3 0 0 1 27; class = 8; group = 13; subclass = 1; offset = 3401 })
      ∷ plain (head 5 9 1 1 20) []
      ∷ plain (head 8 13 1 1 21) (0 ∷ [])
      ∷ [];
}

-- ---- ITS BYTES
pub richer_printed : print richer ≡ E.richer
unfolding richer E.richer E.product E.text main_of line_of rec_of put_header put_pointer stored put_name put_frame put_rest put_moment put_digits put_x is_long names rows fields widths kinds width_of kind_of
richer_printed = refl

-- ---- AND BACK
pub richer_said : parse_at E.richer (3307 ∷ 3327 ∷ 3354 ∷ 3381 ∷ 3401 ∷ []) ≡ richer
unfolding richer E.richer E.product E.text line_at rec_at header_at pointer_at be_at lead run_of number_of is_none moment_at is_x names rows fields widths kinds width_of kind_of line_start
richer_said = refl

-- ---- SO THEY ARE RIGHT, and the product is in the writers' spelling
richer_small : all (λ (x : ℕ). ltb x 256) E.richer ≡ true
unfolding E.richer E.product E.text
richer_small = refl

-- its list, by its rows
abbrev firsts : List (List ℕ) → List ℕ
firsts [] = []
firsts (r ∷ l) = start_of r ∷ firsts l

firsts_are : (a before l : List ℕ) → firsts (rows_after a before l) ≡ l
firsts_are a before [] = refl
firsts_are a before (i ∷ l) = ap (λ (s : List ℕ). i ∷ s) (firsts_are a (i ∷ before) l)

richer_list : (E.richer_meets).list ≡ 3307 ∷ 3327 ∷ 3354 ∷ 3381 ∷ 3401 ∷ []
richer_list = ap (drop 1) (sym (firsts_are E.richer [] (0 ∷ (E.richer_meets).list)) ∙ ap firsts E.richer_rows)

pub richer_right : Right richer
richer_right = subst Right (ap (parse_at E.richer) richer_list ∙ richer_said) (parse_right E.richer (all_small E.richer richer_small) E.richer_meets)

pub richer_canonical : Canonical E.richer
richer_canonical = subst Canonical richer_printed (print_canonical richer richer_right)
