-- What a function between two steps asks and promises: the extra second of one day, and one stop and the next start. Assumes nothing.
use Rattle.std.specs.Prelude.{ℕ, ◌≡◌, cond, ltb}
use Rattle.std.specs.declared.option.Option.{Option}
use Rattle.meter.specs.declared.time.Time.{Time}
use Rattle.moment.specs.Moment.{gap_between, overlap_between, undefined_between}
use Rattle.moment.specs.declared.Between.{Between}

-- what the extra second of day k adds before day d begins
unfoldable pub extra_of : ℕ → ℕ → ℕ
extra_of k d = cond (ltb k d) 1000 0

-- one stop and the next start
pub record BetweenIs (t u : Option Time) (r : Between) : Type 0 where
  pub gap : r.gap ≡ gap_between t u
  pub overlap : r.overlap ≡ overlap_between t u
  pub undefined : r.undefined ≡ undefined_between t u
