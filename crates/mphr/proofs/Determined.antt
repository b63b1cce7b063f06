-- DETERMINED: no second answer, and no second room at exit, fits a promise of this crate. The main header's fault is a theorem of Prefix
-- (`unique-header-fault`); the others are equations through what an answer says. Assumes nothing.
use mathlib.Core.Path.{◌≡◌, refl, ap, ◌∙◌}
use mathlib.Core.Bool.{Bool}
use mathlib.Core.Logic.{⊎_elim}
use mathlib.Core.List.{List, ◌++◌}
use Prim.Native.Nat.{ℕ, ◌+◌, ◌≤◌, ◌<◌}
use native.Mathlib.Decide.{dec_lt}
use native.Mathlib.Omega.{arith}
use lib.Dec.{leb}
use lib.ListN.{length, drop}
use Rattle.calendar.specs.Said.{Said, answer, refusal, refusing}
use Rattle.calendar.proofs.Determined.{fixes, only}
use Rattle.tables.proofs.Laws.{not_clean, unique_given}
use Rattle.meter.specs.Lent.{wrote}
use Rattle.std.specs.declared.result.Result.TheVariants.{Ok, Err}
use Rattle.std.specs.declared.option.Option.{Option}
use Rattle.std.specs.declared.result.Result.{Result}
use Rattle.calendar.specs.declared.Refusal.{Refusal}
use Rattle.std.specs.Prelude.{ℤ}
use Rattle.meter.specs.declared.general.Moment.{Moment}
use Rattle.mphr.specs.declared.faults.Line.{Line}
use Rattle.mphr.specs.LineEnd.{line_end}
use Rattle.calendar.specs.Said.{said}
use Rattle.meter.proofs.Determined.{unsaid_written, written_unsaid}
use Rattle.meter.specs.General.{digits_of, put_general}
use Rattle.text.specs.Writing.{put_number, put_text}
use Rattle.mphr.specs.Layout.{name_of, width_of, kind_of, field_of, LineAfter}
use Rattle.mphr.specs.Table.{table}
use Rattle.mphr.specs.Resumed.{UnderWay, ReachedIs}
use Rattle.mphr.specs.Lookup.{field_named}
use Rattle.mphr.specs.Lines.{is_long, text_on, number_on, time_on, put_line, writes_line, WritesLine, WritesTextLine, WritesNumberLine, WritesTimeLine, WritesName}
use Rattle.mphr.specs.declared.layout.Place.{Place}
use Rattle.mphr.proofs.Prefix.{lawful, same_refusal}

abbrev unsaid_place : Said Place → Result Place Refusal
unsaid_place (answer x) = Ok x
unsaid_place (refusal n p) = Err (refusing n p)

place_unsaid : (r : Result Place Refusal) → unsaid_place (said r) ≡ r
place_unsaid (Ok x) = refl
place_unsaid (Err r) = refl

abbrev unsaid_field : Said ℕ → Result ℕ Refusal
unsaid_field (answer x) = Ok x
unsaid_field (refusal n p) = Err (refusing n p)

field_unsaid : (r : Result ℕ Refusal) → unsaid_field (said r) ≡ r
field_unsaid (Ok x) = refl
field_unsaid (Err r) = refl

pub unique_field_place : (k : ℕ) (r s : Result Place Refusal) → said r ≡ field_of k → said s ≡ field_of k → r ≡ s
unique_field_place k = fixes said unsaid_place place_unsaid (field_of k)

pub unique_field_named : (name : List ℕ) (r s : Result ℕ Refusal) → said r ≡ field_named name → said s ≡ field_named name → r ≡ s
unique_field_named name = fixes said unsaid_field field_unsaid (field_named name)

one_line : (room : List ℕ) (k : ℕ) (right : Bool) (put : List ℕ → List ℕ) (r s : Result ℕ Refusal) (p q : List ℕ) → WritesLine room k right put r p → WritesLine room k right put s q → (r ≡ s) × (p ≡ q)
one_line room k right put r s p q x y =
    (fixes said unsaid_written written_unsaid (writes_line room (width_of k + 33) right) r s x.0 y.0, only (wrote room (width_of k + 33) right (put_line k put room)) p q x.1 y.1)

pub unique_write_text_line : (room : List ℕ) (k : ℕ) (t : List ℕ) (r s : Result ℕ Refusal) (p q : List ℕ) → WritesTextLine room k t r p → WritesTextLine room k t s q → (r ≡ s) × (p ≡ q)
unique_write_text_line room k t = one_line room k (text_on k t) (λ (a : List ℕ). put_text a t)

pub unique_write_number_line : (room : List ℕ) (k : ℕ) (x : Option ℤ) (r s : Result ℕ Refusal) (p q : List ℕ) → WritesNumberLine room k x r p → WritesNumberLine room k x s q → (r ≡ s) × (p ≡ q)
unique_write_number_line room k x = one_line room k (number_on k x) (λ (a : List ℕ). put_number (width_of k) a x)

pub unique_write_time_line : (room : List ℕ) (k : ℕ) (t : Option Moment) (r s : Result ℕ Refusal) (p q : List ℕ) → WritesTimeLine room k t r p → WritesTimeLine room k t s q → (r ≡ s) × (p ≡ q)
unique_write_time_line room k t = one_line room k (time_on k t) (λ (a : List ℕ). put_general (digits_of (is_long (kind_of k))) a t)

pub unique_write_name : (room : List ℕ) (k : ℕ) (r s : Result ℕ Refusal) (p q : List ℕ) → WritesName room k r p → WritesName room k s q → (r ≡ s) × (p ≡ q)
unique_write_name room k r s p q x y = (
  fixes said unsaid_written written_unsaid (writes_line room (length (name_of k)) (leb k 71)) r s x.0 y.0,
  only (wrote room (length (name_of k)) (leb k 71) (name_of k ++ drop (length (name_of k)) room)) p q x.1 y.1,
)

-- a line start that is the first after n, and no other
unique_line_after : (n r s : ℕ) → LineAfter n r → LineAfter n s → r ≡ s
unique_line_after n r s x y = go (dec_lt n 3307)
  where
    go : Dec (n < 3307) → r ≡ s
    go (yes l) =
        let f = x.first y.start.0 y.start.1 (omega (arith, y.after l, y.start.2)) in
        let g = y.first x.start.0 x.start.1 (omega (arith, x.after l, x.start.2)) in
        omega (arith, f, g, x.start.2, y.start.2)
    go (no d) = omega (arith, x.none (omega (arith, d)), y.none (omega (arith, d)))

-- the line under way, and what is answered with it, where it is promised
unique_under_way : (n k j d e : ℕ) → UnderWay n k d → UnderWay n j e → (k ≡ j) × (d ≡ e)
unique_under_way n k j d e x y = (omega (arith, below x y, below y x), unique_line_after n d e x.end y.end)
  where
    below : {k j d e : ℕ} → UnderWay n k d → UnderWay n j e → k ≤ j
    below {k} {j} x y = ⊎_elim (λ z. omega arith) (λ l. y.last k x.most l) x.come

pub unique_lines_from : (a : List ℕ) (r s : Result Line Refusal) → ReachedIs a r → ReachedIs a s → r ≡ s
unique_lines_from a (Err x) (Err y) h k = let u = unique_given table lawful h k in ap Err (same_refusal x y u.0 u.1)
unique_lines_from a (Err x) (Ok t) h k = absurd (not_clean h k.0)
unique_lines_from a (Ok t) (Err y) h k = absurd (not_clean k h.0)
unique_lines_from a (Ok t) (Ok v) h k = let u = unique_under_way (length a) t.line v.line t.end v.end h.1 k.1 in let p = u.0 in let q = u.1 in ap (λ (i : ℕ). line_end i t.end) p ∙ ap (line_end v.line) q
