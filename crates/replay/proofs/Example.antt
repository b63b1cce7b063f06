-- WORKED EXAMPLES: a record whose lengths sum to the product's length modulo 2^32 alone is refused with 39; one of no parts and a product of no bytes
-- give none. Computed. Assumes nothing.
use Prim.Native.Nat.{ℕ}
use native.Mathlib.Omega.{arith}
use mathlib.Core.Path.{◌≡◌, refl}
use mathlib.Core.List.{List, [], ◌∷◌}
use lib.ListN.{length}
use Rattle.meter.specs.Integer.{be_at}
use Rattle.replay.specs.Layout.{sums}
use Rattle.replay.specs.Replay.{refused_at, ReplayIs, unsummed, none}
use Rattle.std.specs.declared.option.Option.TheVariants.{None}
use Rattle.std.specs.declared.result.Result.TheVariants.{Ok}

-- two parts, of 2^32 - 1 bytes and of 2, and two answers: waiting with 0 and 0
abbrev pub wrapped : List ℕ
wrapped = 0 ∷ 0 ∷ 0 ∷ 2 ∷ 255 ∷ 255 ∷ 255 ∷ 255 ∷ 0 ∷ 0 ∷ 0 ∷ 2 ∷ 0 ∷ 0 ∷ 0 ∷ 2 ∷ 0 ∷ 0 ∷ 0 ∷ 0 ∷ 0 ∷ 0 ∷ 0 ∷ 0 ∷ 0 ∷ 0 ∷ 0 ∷ 0 ∷ 0 ∷ 0 ∷ 0 ∷ 0 ∷ 0 ∷ 0 ∷ 0 ∷ 0 ∷ 0 ∷ 0 ∷ 0 ∷ 0 ∷ []

pub never_wrapped : (b : List ℕ) → length b ≡ 1 → ReplayIs wrapped b (refused_at 39 0)
unfolding be_at sums
never_wrapped b h = unsummed refl refl (λ e. omega (arith, h, e))

-- no parts: two counts of 0
pub no_parts : ReplayIs (0 ∷ 0 ∷ 0 ∷ 0 ∷ 0 ∷ 0 ∷ 0 ∷ 0 ∷ []) [] (Ok None)
unfolding be_at sums
no_parts = none (record { sized = refl; even = refl; summed = refl }) (λ k h. absurd (omega (arith, h)))
