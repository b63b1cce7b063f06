-- `meter::scaled::reading_of` meets its contract: the reading, and with it the exact case (ReadingLaws). Assumes nothing.
use Rattle.std.proofs.Common.{◌≡◌, rules}
use Rattle.calendar.specs.Said.{said}
use Rattle.meter.specs.Reading.{reading_of}
use Rattle.meter.proofs.ReadingLaws.{exact_of}
use Rattle.meter.proofs.scaled.reading_of.Goals as goal

pub returns-in-Some-clause-exact : goal.returns-in-Some-clause-exact
returns-in-Some-clause-exact c = let h : said c.show_number.result ≡ reading_of c.args.number = search rules in exact_of _ _ h
