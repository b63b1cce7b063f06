-- `meter::general::time_text` meets its contract: 21, then what write_general does with the moment (GeneralTime), which reads back (WriterLaws). Assumes
-- nothing.
use Rattle.meter.proofs.GeneralTime.{text_written}
use Rattle.calendar.specs.Said.{said}
use Rattle.meter.proofs.TimeLaws.{in_days}
use Rattle.meter.proofs.WriterLaws.{text_written_back}
use Prim.Native.Nat.{ℕ}
use native.Mathlib.Omega.{arith}
use Rattle.meter.specs.Time.{is_time}
use borrow.Author.Tests.{not-true, not-false}
use mathlib.Core.Bool.{true, false}
use mathlib.Core.Path.{◌≡◌, sym, ◌∙◌}
use Rattle.meter.proofs.general.time_text.Goals as goal

pub returns-then-not-is_time : goal.returns-then-not-is_time
returns-then-not-is_time c =
    let e : is_time c.args.time ≡ false = sym c.is_time.ensures ∙ not-true c.is_time.result c.if-not-is_time.true-raw in
    record { writes_time_text = (simp e, simp e); reads_back = λ z. let q : ◌≡◌ {A = ℕ} 0 1 = cc in absurd (omega arith) }

pub general_of-requires : goal.general_of-requires
general_of-requires c = sym c.is_time.ensures ∙ not-false c.is_time.result c.if-not-is_time.false-raw

pub returns : goal.returns
returns c =
    let a = c.args in
    let e : is_time a.time ≡ true = sym c.is_time.ensures ∙ not-false c.is_time.result c.if-not-is_time.false-raw in
    let g = c.general_of in
    let w = c.write_general in
    let p = text_written a.room.now a.time g.result (said w.result) w.new.room e g.ensures.0 g.ensures.1 w.ensures in
    record { writes_time_text = p; reads_back = text_written_back a.room.now w.new.room w.result a.time (in_days a.time _ c.well_formed.1.0) p }
