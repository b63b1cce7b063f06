-- `judge::profile::met_on` meets its contract: the records that were asked follow those that meet the profile. Assumes nothing.
use Rattle.std.proofs.Common.{ℕ, subst}
use Rattle.judge.specs.Profile.{Meeting}
use Rattle.judge.proofs.ProfileLaws.{meeting_joined}
use Rattle.judge.proofs.profile.met_on.Goals as goal

pub pass_met-requires : goal.pass_met-requires
pass_met-requires c = c.requires.1

pub returns : goal.returns
returns c =
    meeting_joined (subst (λ (i : ℕ). Meeting c.args.profile.now c.args.s.now 3307 i) c.if-met-at.false c.requires.0) c.pass_met.ensures.meets
