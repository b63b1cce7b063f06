-- DETERMINED: no second answer, and no second room at exit, fits a promise of this crate. An answer is made again from what it says; a room is an
-- equation. Assumes nothing.
use mathlib.Core.Path.{◌≡◌, refl, sym, ◌∙◌}
use mathlib.Core.List.{List}
use Prim.Native.Nat.{ℕ}
use lib.Ieee.{Float}
use Rattle.calendar.specs.Said.{Said, answer, refusal, refusing}
use Rattle.calendar.proofs.Determined.{fixes, only}
use Rattle.uth.specs.Judge.{judge_of}
use Rattle.uth.specs.Value.{value_of}
use Rattle.uth.specs.Blocks.{read_of, ReadsUth, block_read_of}
use Rattle.std.specs.declared.result.Result.TheVariants.{Ok, Err}
use Rattle.std.specs.declared.option.Option.{Option}
use Rattle.std.specs.declared.result.Result.{Result}
use Rattle.calendar.specs.declared.Refusal.{Refusal}
use Rattle.calendar.specs.Said.{said}
use Rattle.uth.specs.declared.blocks.Block.{Block}

abbrev unsaid_count : Said ℕ → Result ℕ Refusal
unsaid_count (answer n) = Ok n
unsaid_count (refusal n p) = Err (refusing n p)

count_unsaid : (r : Result ℕ Refusal) → unsaid_count (said r) ≡ r
count_unsaid (Ok n) = refl
count_unsaid (Err r) = refl

abbrev unsaid_block : Said Block → Result Block Refusal
unsaid_block (answer b) = Ok b
unsaid_block (refusal n p) = Err (refusing n p)

block_unsaid : (r : Result Block Refusal) → unsaid_block (said r) ≡ r
block_unsaid (Ok b) = refl
block_unsaid (Err r) = refl

pub unique_value_of : (n : ℕ) (r s : Option Float) → r ≡ value_of n → s ≡ value_of n → r ≡ s
unique_value_of n = only (value_of n)

pub unique_judge : (a : List ℕ) (r s : Result ℕ Refusal) → said r ≡ judge_of a → said s ≡ judge_of a → r ≡ s
unique_judge a = fixes said unsaid_count count_unsaid (judge_of a)

pub unique_block_at : (a : List ℕ) (k : ℕ) (r s : Result Block Refusal) → said r ≡ block_read_of a k → said s ≡ block_read_of a k → r ≡ s
unique_block_at a k = fixes said unsaid_block block_unsaid (block_read_of a k)

pub unique_read_uth : (a : List ℕ) (rows : List (List ℕ)) (pairs : List (List Float)) (r s : Result ℕ Refusal) (p q : List (List ℕ)) (u v : List (List Float)) → ReadsUth a rows pairs r p u → ReadsUth a rows pairs s q v → (r ≡ s) × (p ≡ q) × (u ≡ v)
unique_read_uth a rows pairs r s p q u v x y = (fixes said unsaid_count count_unsaid (read_of a _ _) r s x.says y.says, x.rowed ∙ sym y.rowed, x.paired ∙ sym y.paired)
