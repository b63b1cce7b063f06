-- `meter::time::write_time` meets its contract: the 48 bits of the time read back (WriterLaws). Assumes nothing.
use Rattle.std.proofs.Common.{rules}
use Rattle.meter.specs.Time.{WritesTime}
use Rattle.meter.proofs.TimeLaws.{in_days}
use Rattle.meter.proofs.WriterLaws.{time_written_back}
use Rattle.meter.proofs.time.write_time.Goals as goal

pub returns-clause-reads_back : goal.returns-clause-reads_back
returns-clause-reads_back c =
    let w : WritesTime c.args.room.now c.args.time c.write_word.result c.write_word.new.room = search rules in
    time_written_back _ _ _ _ (in_days _ _ c.well_formed.1.0) w
