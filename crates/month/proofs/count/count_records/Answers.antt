-- `month::count::count_records` meets its contract: what the sums have come to, with the records that are left, is what the product adds. Assumes nothing.
use Prim.Native.Nat.{ℕ, ◌-◌, ◌+◌, ◌<◌}
use native.Mathlib.Omega.{arith}
use mathlib.Core.Path.{◌≡◌, refl, ◌∙◌}
use mathlib.Core.List.{◌∷◌}
use lib.ListN.{get_or}
use Rattle.demands.specs.Product.{size, Meets}
use Rattle.month.proofs.CountLaws.{Here, first, here_of, raised_most, ask_pair, next, counted, few_records, few_bytes, product_small}
use Rattle.month.proofs.JoinLaws.{counts_at}
use Rattle.month.proofs.count.count_records.Goals as goal
use Rattle.month.proofs.count.count_records.Goals.{After-size_in-size, In-loop-at}

-- the place where the size of the record at hand is read, and the one after the record
abbrev T : (c : After-size_in-size) → Meets c.args.s.now
T c = c.loop-at.invariant.0

here : (c : In-loop-at) → Here c.args.s.now (0 ∷ c.loop-at.invariant.0.list) c.loop-at.records c.loop-at.bytes c.loop-at.pairs c.loop-at.at
here c = let v = c.loop-at.invariant.1 in here_of v.0 v.1 c.loop-at-test.true

byte : (c : After-size_in-size) (k : ℕ) → get_or c.args.s.now k 0 < 256
byte c k = (c.shared_slice_known-1.given k).fits

sized : (c : After-size_in-size) → c.size_in-size.result ≡ size c.args.s.now c.loop-at.at
sized c = c.size_in-size.ensures

less : {n i z : ℕ} → i < n → 0 < z → n - (i + z) < n - i
less h k = omega arith

pub loop-at-init : goal.loop-at-init
loop-at-init c = let t = c.requires in (t, (_, first t))

pub size_in-size-requires : goal.size_in-size-requires
size_in-size-requires c = let h = here c in omega (arith, h.here.least, h.here.most)

pub raise-requires : goal.raise-requires
raise-requires c =
    let h = here (goal.at.raise-requires c).In-loop-at in
    (omega (arith, h.here.eight, c.from-class.ensures), omega (arith, few_records (T (goal.at.raise-requires c).After-size_in-size) c.from-class.result, raised_most _ (λ (i : ℕ). 1) h.sofar.counts c.from-class.ensures refl))

pub raise-requires-in-loop-at : goal.raise-requires-in-loop-at
raise-requires-in-loop-at c =
    let h = here (goal.at.raise-requires-in-loop-at c).In-loop-at in
    (omega (arith, h.here.eight, c.from-class.ensures), omega (arith, few_bytes (T (goal.at.raise-requires-in-loop-at c).After-size_in-size) c.from-class.result, raised_most _ (size _) h.sofar.sizes c.from-class.ensures (sized (goal.at.raise-requires-in-loop-at c).After-size_in-size)))

pub paired-pairs-requires : goal.paired-pairs-requires
paired-pairs-requires c =
    ask_pair (T (goal.at.paired-pairs-requires c).After-size_in-size) (here (goal.at.paired-pairs-requires c).In-loop-at) (byte (goal.at.paired-pairs-requires c).After-size_in-size) _ c.from-class.ensures

pub overflow_add-at : goal.overflow_add-at
overflow_add-at c =
    let h = here (goal.at.overflow_add-at c).In-loop-at in
    record { fits = omega (arith, sized (goal.at.overflow_add-at c).After-size_in-size, h.here.most, product_small (T (goal.at.overflow_add-at c).After-size_in-size)) }

pub loop-at-smaller : goal.loop-at-smaller
loop-at-smaller c =
    let h = here (goal.at.loop-at-smaller c).In-loop-at in
    less c.loop-at-test.true (omega (arith, sized (goal.at.loop-at-smaller c).After-size_in-size, h.here.least))

pub loop-at-preserved : goal.loop-at-preserved
loop-at-preserved c =
    let h = here (goal.at.loop-at-preserved c).In-loop-at in
    (T (goal.at.loop-at-preserved c).After-size_in-size, (h.rest, next (T (goal.at.loop-at-preserved c).After-size_in-size) h c.from-class.ensures (sized (goal.at.loop-at-preserved c).After-size_in-size) (sized (goal.at.loop-at-preserved c).After-size_in-size) c.raise.ensures c.raise-in-loop-at.ensures c.paired-pairs.ensures))

pub returns : goal.returns
returns c =
    let v = c.loop-at.invariant in
    counts_at v.0 (c.totals_of.ensures ∙ counted v.1.0 v.1.1 c.loop-at-test.false)
