-- The header's reader and writer and the writers of the main header's lines for hosts that are not Rattle: the promises of `record` and `mphr`, told as
-- numbers. Assumes nothing.
use Rattle.std.specs.Prelude.{ℕ, ◌≡◌, List}
use Rattle.std.specs.declared.result.Result.TheVariants.{Ok, Err}
use Rattle.std.specs.declared.option.Option.{Option}
use Rattle.std.specs.declared.result.Result.{Result}
use Rattle.calendar.specs.declared.Refusal.{Refusal}
use Rattle.std.specs.Prelude.{ℤ}
use Rattle.meter.specs.declared.general.Moment.{Moment}
use Rattle.calendar.specs.Said.{said}
use Rattle.record.specs.Header.{header_read_at, WritesHeader}
use Rattle.record.specs.declared.header.Header.{Header}
use Rattle.mphr.specs.Lines.{WritesTextLine, WritesNumberLine, WritesTimeLine}
use Rattle.told.specs.Told.{Told, refused, written_said}
use Rattle.warpladle.specs.Values.{header16}

-- ---- headers
abbrev pub header_said : ℕ → Result Header Refusal → List ℕ
header_said at (Ok h) = header16 at h
header_said at (Err r) = refused 16 r

abbrev pub HeaderTold : List ℕ → ℕ → List ℕ → Type 0
HeaderTold a at numbers = Told (λ (r : Result Header Refusal). said r ≡ header_read_at a at) (header_said at) numbers

abbrev pub WriteHeaderTold : List ℕ → Header → List ℕ → List ℕ → Type 0
WriteHeaderTold room h exit numbers = Told (λ (r : Result ℕ Refusal). WritesHeader room h r exit) written_said numbers

-- ---- lines of the main header
abbrev pub TextLineTold : List ℕ → ℕ → List ℕ → List ℕ → List ℕ → Type 0
TextLineTold room k t exit numbers = Told (λ (r : Result ℕ Refusal). WritesTextLine room k t r exit) written_said numbers

abbrev pub NumberLineTold : List ℕ → ℕ → Option ℤ → List ℕ → List ℕ → Type 0
NumberLineTold room k x exit numbers = Told (λ (r : Result ℕ Refusal). WritesNumberLine room k x r exit) written_said numbers

abbrev pub TimeLineTold : List ℕ → ℕ → Option Moment → List ℕ → List ℕ → Type 0
TimeLineTold room k t exit numbers = Told (λ (r : Result ℕ Refusal). WritesTimeLine room k t r exit) written_said numbers
