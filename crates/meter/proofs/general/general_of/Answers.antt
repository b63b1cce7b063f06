-- `meter::general::general_of` meets its contract: a day and a millisecond of it are a moment that can be written (GeneralTime). Assumes nothing.
use Rattle.std.proofs.Common.{◌≡◌, ◌<◌, true, sym, ap, ◌∙◌, rules}
use Rattle.meter.specs.declared.general.Moment.{Moment}
use Rattle.std.specs.declared.option.Option.TheVariants.{Some}
use Rattle.meter.specs.General.{general_of, fits_general}
use Rattle.meter.specs.Time.{is_time, is_milli}
use Rattle.meter.proofs.GeneralTime.{moment_fits}
use Rattle.meter.proofs.general.general_of.Goals as goal

pub returns-in-Some : goal.returns-in-Some
returns-in-Some c =
    let t = c.in-Some.t in
    let l : t.day < 65536 = search rules in
    let m : is_milli t.day t.milli ≡ true = sym (ap is_time c.in-Some.is) ∙ c.requires in
    (ap Some c.moment_of.ensures ∙ sym (ap general_of c.in-Some.is), ap (λ (x : Moment). fits_general true (Some x)) c.moment_of.ensures ∙ moment_fits t.day t.milli l m)
