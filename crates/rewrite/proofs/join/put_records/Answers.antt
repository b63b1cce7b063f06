-- `rewrite::join::put_records` meets its contract: the four stretches, one after the other (JoinPlanLaws). Assumes nothing.
use Prim.Native.Nat.{ℕ, ◌+◌, ◌≤◌}
use native.Mathlib.Omega.{arith}
use mathlib.Core.Path.{◌≡◌, refl, ap, ◌∙◌}
use lib.ListN.{length}
use lib.Seq.{length-sets}
use Rattle.parts.specs.Parts.{bytes}
use Rattle.parts.specs.Only.{only, is_mdr}
use Rattle.rewrite.specs.Joining.{rs_of, ss_of}
use Rattle.rewrite.proofs.StretchLaws.{sections_come}
use Rattle.rewrite.proofs.JoinPlanLaws.{together_bytes, puts_records}
use Rattle.rewrite.proofs.join.put_records.Goals as goal
use Rattle.rewrite.proofs.join.put_records.Goals.{Start, After-copy, After-copy-2, After-copy-3}

-- the bytes of the MDRs of each
D : Start → ℕ
D s = bytes (only is_mdr (rs_of s.args.first.now s.args.second.now s.requires.found.two))

E : Start → ℕ
E s = bytes (only is_mdr (ss_of s.args.first.now s.args.second.now s.requires.found.two))

come-1 : (s : Start) → 3307 + s.args.f.sphr + s.args.f.ipr + s.args.f.global + s.args.f.variable + D s ≡ length s.args.first.now
unfolding D
come-1 s = let p = s.requires.found in sections_come p.two.first p.first

come-2 : (s : Start) → 3307 + s.args.g.sphr + s.args.g.ipr + s.args.g.global + s.args.g.variable + E s ≡ length s.args.second.now
unfolding E
come-2 s = let p = s.requires.found in sections_come p.two.second p.second

fits : (s : Start) → s.args.at + (s.args.f.global + s.args.f.variable + s.args.g.variable + D s + E s) ≤ length s.args.room.now
unfolding D E
fits s = omega (arith, s.requires.fits, together_bytes s.requires.found)

low-1 : (s : Start) → length s.args.first.now ≤ 2147483647
low-1 s = let t = s.requires.found.two.first in omega (arith, t.come, t.header.most)

low-2 : (s : Start) → length s.args.second.now ≤ 2147483647
low-2 s = let t = s.requires.found.two.second in omega (arith, t.come, t.header.most)

pub overflow_add-global : goal.overflow_add-global
overflow_add-global c = omega (arith, come-1 (goal.at.overflow_add-global c).Start, low-1 (goal.at.overflow_add-global c).Start)

pub overflow_add-global-2 : goal.overflow_add-global-2
overflow_add-global-2 c = omega (arith, come-1 (goal.at.overflow_add-global-2 c).Start, low-1 (goal.at.overflow_add-global-2 c).Start)

pub overflow_add-mdr : goal.overflow_add-mdr
overflow_add-mdr c = omega (arith, come-1 (goal.at.overflow_add-mdr c).Start, low-1 (goal.at.overflow_add-mdr c).Start)

pub overflow_add-mdr-2 : goal.overflow_add-mdr-2
overflow_add-mdr-2 c = omega (arith, come-1 (goal.at.overflow_add-mdr-2 c).Start, low-1 (goal.at.overflow_add-mdr-2 c).Start)

pub overflow_add-variable : goal.overflow_add-variable
overflow_add-variable c = omega (arith, come-2 (goal.at.overflow_add-variable c).Start, low-2 (goal.at.overflow_add-variable c).Start)

pub overflow_add-variable-2 : goal.overflow_add-variable-2
overflow_add-variable-2 c = omega (arith, come-2 (goal.at.overflow_add-variable-2 c).Start, low-2 (goal.at.overflow_add-variable-2 c).Start)

pub overflow_add-variable-3 : goal.overflow_add-variable-3
overflow_add-variable-3 c = omega (arith, come-2 (goal.at.overflow_add-variable-3 c).Start, low-2 (goal.at.overflow_add-variable-3 c).Start)

pub overflow_add-other : goal.overflow_add-other
overflow_add-other c = omega (arith, come-2 (goal.at.overflow_add-other c).Start, low-2 (goal.at.overflow_add-other c).Start)

long-1 : (c : After-copy) → length c.copy.new.room ≡ length c.args.room.now
long-1 c = ap length c.copy.ensures ∙ simp length-sets

long-2 : (c : After-copy-2) → length c.copy-2.new.room ≡ length c.args.room.now
long-2 c = ap length c.copy-2.ensures ∙ simp length-sets (long-1 (goal.at.After-copy-2 c).After-copy)

long-3 : (c : After-copy-3) → length c.copy-3.new.room ≡ length c.args.room.now
long-3 c = ap length c.copy-3.ensures ∙ simp length-sets (long-2 (goal.at.After-copy-3 c).After-copy-2)

pub copy-requires : goal.copy-requires
copy-requires c = (omega (arith, come-1 (goal.at.copy-requires c).Start), omega (arith, fits (goal.at.copy-requires c).Start))

pub overflow_add-at : goal.overflow_add-at
overflow_add-at c = omega (arith, c.requires.low, come-1 (goal.at.overflow_add-at c).Start, low-1 (goal.at.overflow_add-at c).Start)

pub copy-requires-2 : goal.copy-requires-2
copy-requires-2 c = (omega (arith, come-2 (goal.at.copy-requires-2 c).Start), omega (arith, fits (goal.at.copy-requires-2 c).Start, long-1 (goal.at.copy-requires-2 c).After-copy))

pub overflow_add-to : goal.overflow_add-to
overflow_add-to c = omega (arith, c.requires.low, come-1 (goal.at.overflow_add-to c).Start, low-1 (goal.at.overflow_add-to c).Start)

pub overflow_add-to-2 : goal.overflow_add-to-2
overflow_add-to-2 c = omega (arith, c.requires.low, come-1 (goal.at.overflow_add-to-2 c).Start, low-1 (goal.at.overflow_add-to-2 c).Start, come-2 (goal.at.overflow_add-to-2 c).Start, low-2 (goal.at.overflow_add-to-2 c).Start)

pub overflow_sub-first : goal.overflow_sub-first
overflow_sub-first c = omega (arith, come-1 (goal.at.overflow_sub-first c).Start)

pub copy-requires-3 : goal.copy-requires-3
copy-requires-3 c = (omega (arith, come-1 (goal.at.copy-requires-3 c).Start), omega (arith, fits (goal.at.copy-requires-3 c).Start, come-1 (goal.at.copy-requires-3 c).Start, long-2 (goal.at.copy-requires-3 c).After-copy-2))

pub overflow_sub-second : goal.overflow_sub-second
overflow_sub-second c = omega (arith, come-2 (goal.at.overflow_sub-second c).Start)

pub overflow_sub-first-2 : goal.overflow_sub-first-2
overflow_sub-first-2 c = omega (arith, come-1 (goal.at.overflow_sub-first-2 c).Start)

pub overflow_add-to-3 : goal.overflow_add-to-3
overflow_add-to-3 c = omega (arith, c.requires.low, come-1 (goal.at.overflow_add-to-3 c).Start, low-1 (goal.at.overflow_add-to-3 c).Start, come-2 (goal.at.overflow_add-to-3 c).Start, low-2 (goal.at.overflow_add-to-3 c).Start)

pub copy-requires-4 : goal.copy-requires-4
copy-requires-4 c = (omega (arith, come-2 (goal.at.copy-requires-4 c).Start), omega (arith, fits (goal.at.copy-requires-4 c).Start, come-1 (goal.at.copy-requires-4 c).Start, come-2 (goal.at.copy-requires-4 c).Start, long-3 (goal.at.copy-requires-4 c).After-copy-3))

pub returns : goal.returns
returns c =
    puts_records c.requires.found _ _ _ _ refl refl refl refl c.args.at c.args.room.now _ _ _ _ c.copy.ensures c.copy-2.ensures c.copy-3.ensures c.copy-4.ensures
