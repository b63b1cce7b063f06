-- `rewrite::join::gather_both` meets its contract: the four stretches, one after the other (JoinPlanLaws), and the SPHR. Assumes nothing.
use Prim.Native.Nat.{◌+◌, ◌≤◌}
use native.Mathlib.Omega.{arith}
use mathlib.Core.Path.{◌≡◌, refl, sym, ◌∙◌}
use lib.Dec.{eqb}
use lib.ListN.{length, length-set}
use Rattle.meter.specs.Integer.{Bytes}
use Rattle.rewrite.proofs.StretchLaws.{sections_come}
use Rattle.rewrite.proofs.JoinPlanLaws.{gather_1, gather_2, gather_3, gather_4, few, all_gathered, nine_4, one_most}
use Rattle.rewrite.proofs.join.gather_both.Goals as goal
use Rattle.rewrite.proofs.join.gather_both.Goals.{Start, After-gather-others, After-one_in-front}

come-1 : (s : Start) → 3307 + s.args.f.sphr + s.args.f.ipr + s.args.f.global + s.args.f.variable ≤ length s.args.first.now
come-1 s = let p = s.requires.found in omega (arith, sections_come p.two.first p.first)

come-2 : (s : Start) → 3307 + s.args.g.sphr + s.args.g.ipr + s.args.g.global + s.args.g.variable ≤ length s.args.second.now
come-2 s = let p = s.requires.found in omega (arith, sections_come p.two.second p.second)

low-1 : (s : Start) → length s.args.first.now ≤ 2147483647
low-1 s = let t = s.requires.found.two.first in omega (arith, t.come, t.header.most)

low-2 : (s : Start) → length s.args.second.now ≤ 2147483647
low-2 s = let t = s.requires.found.two.second in omega (arith, t.come, t.header.most)

pub overflow_add-global : goal.overflow_add-global
overflow_add-global c = omega (arith, come-1 (goal.at.overflow_add-global c).Start, low-1 (goal.at.overflow_add-global c).Start)

pub overflow_add-global-2 : goal.overflow_add-global-2
overflow_add-global-2 c = omega (arith, come-1 (goal.at.overflow_add-global-2 c).Start, low-1 (goal.at.overflow_add-global-2 c).Start)

pub overflow_add-mdr : goal.overflow_add-mdr
overflow_add-mdr c = omega (arith, come-1 (goal.at.overflow_add-mdr c).Start, low-1 (goal.at.overflow_add-mdr c).Start)

pub overflow_add-mdr-2 : goal.overflow_add-mdr-2
overflow_add-mdr-2 c = omega (arith, come-1 (goal.at.overflow_add-mdr-2 c).Start, low-1 (goal.at.overflow_add-mdr-2 c).Start)

pub overflow_add-variable : goal.overflow_add-variable
overflow_add-variable c = omega (arith, come-2 (goal.at.overflow_add-variable c).Start, low-2 (goal.at.overflow_add-variable c).Start)

pub overflow_add-variable-2 : goal.overflow_add-variable-2
overflow_add-variable-2 c = omega (arith, come-2 (goal.at.overflow_add-variable-2 c).Start, low-2 (goal.at.overflow_add-variable-2 c).Start)

pub overflow_add-variable-3 : goal.overflow_add-variable-3
overflow_add-variable-3 c = omega (arith, come-2 (goal.at.overflow_add-variable-3 c).Start, low-2 (goal.at.overflow_add-variable-3 c).Start)

pub overflow_add-other : goal.overflow_add-other
overflow_add-other c = omega (arith, come-2 (goal.at.overflow_add-other c).Start, low-2 (goal.at.overflow_add-other c).Start)

pub gather-aux-requires : goal.gather-aux-requires
gather-aux-requires c = gather_1 c.requires _ _ _ _ refl refl refl refl

pub gather-more-requires : goal.gather-more-requires
gather-more-requires c = gather_2 c.requires _ _ _ _ refl refl refl refl c.gather-aux.ensures _ refl

pub overflow_add-before : goal.overflow_add-before
overflow_add-before c = omega (arith, come-1 (goal.at.overflow_add-before c).Start, low-1 (goal.at.overflow_add-before c).Start, come-2 (goal.at.overflow_add-before c).Start, low-2 (goal.at.overflow_add-before c).Start)

pub gather-mdrs-requires : goal.gather-mdrs-requires
gather-mdrs-requires c =
    gather_3 c.requires _ _ _ _ refl refl refl refl c.gather-aux.ensures _ refl c.gather-more.ensures _ refl

pub overflow_sub-first : goal.overflow_sub-first
overflow_sub-first c = omega (arith, come-1 (goal.at.overflow_sub-first c).Start)

pub overflow_add-before-2 : goal.overflow_add-before-2
overflow_add-before-2 c = omega (arith, come-1 (goal.at.overflow_add-before-2 c).Start, low-1 (goal.at.overflow_add-before-2 c).Start, come-2 (goal.at.overflow_add-before-2 c).Start, low-2 (goal.at.overflow_add-before-2 c).Start)

pub gather-others-requires : goal.gather-others-requires
gather-others-requires c =
    gather_4 c.requires _ _ _ _ refl refl refl refl c.gather-aux.ensures _ refl c.gather-more.ensures _ refl c.gather-mdrs.ensures _ refl

nine : (c : After-gather-others) → length c.gather-others.new.tally ≡ 9
nine c =
    nine_4 c.requires _ _ _ _ refl refl refl refl c.gather-aux.ensures _ refl c.gather-more.ensures _ refl c.gather-mdrs.ensures _ refl c.gather-others.ensures

counts : (c : After-gather-others) → (c.gather-aux.result ≤ 2147483647) × (c.gather-more.result ≤ 2147483647) × (c.gather-mdrs.result ≤ 2147483647) × (c.gather-others.result ≤ 2147483647)
counts c =
    few c.requires _ _ _ _ refl refl refl refl c.gather-aux.ensures _ refl c.gather-more.ensures _ refl c.gather-mdrs.ensures _ refl c.gather-others.ensures

pub bounds-tally-2 : goal.bounds-tally-2
bounds-tally-2 c = omega (arith, nine (goal.at.bounds-tally-2 c).After-gather-others)

one : (c : After-one_in-front) → c.one_in-front.result ≤ 1
one c = one_most (eqb c.args.f.sphr 0) c.one_in-front.ensures

pub overflow_add-result : goal.overflow_add-result
overflow_add-result c = let k = counts (goal.at.overflow_add-result c).After-gather-others in omega (arith, one c, k.0)

pub overflow_add-result-2 : goal.overflow_add-result-2
overflow_add-result-2 c = let k = counts (goal.at.overflow_add-result-2 c).After-gather-others in omega (arith, one c, k.0, k.1)

pub overflow_add-result-3 : goal.overflow_add-result-3
overflow_add-result-3 c = let k = counts (goal.at.overflow_add-result-3 c).After-gather-others in omega (arith, one c, k.0, k.1, k.2)

pub overflow_add-result-4 : goal.overflow_add-result-4
overflow_add-result-4 c = let k = counts (goal.at.overflow_add-result-4 c).After-gather-others in omega (arith, one c, k.0, k.1, k.2, k.3)

pub shape_of-tally : goal.shape_of-tally
shape_of-tally c = simp length-set (nine (goal.at.shape_of-tally c).After-gather-others ∙ sym c.requires.nine)

bytes-1 : (c : After-one_in-front) → Bytes c.args.first.now
bytes-1 c k = (c.shared_slice_known-1.given k).fits

bytes_2 : (c : After-one_in-front) → Bytes c.args.second.now
bytes_2 c k = (c.shared_slice_known-2-1.given k).fits

pub returns : goal.returns
returns c =
    all_gathered c.requires _ _ _ _ refl refl refl refl c.gather-aux.ensures _ refl c.gather-more.ensures _ refl c.gather-mdrs.ensures _ refl c.gather-others.ensures (bytes-1 c) (bytes_2 c) c.one_in-front.result _ c.one_in-front.ensures refl refl
