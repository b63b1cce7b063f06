-- `rewrite::sections::section_one` meets its contract: each way out is one of the turns of SectionLaws. Assumes nothing.
use native.Mathlib.Omega.{arith}
use mathlib.Core.Path.{refl}
use Prim.Native.Nat.{◌+◌, ◌≤◌}
use Rattle.rewrite.proofs.SectionLaws.{turn_most, turn_sphr, turn_ipr, turn_global, turn_variable}
use Rattle.rewrite.proofs.sections.section_one.Goals as goal
use Rattle.rewrite.proofs.sections.section_one.Goals.{Start}

-- a section's bytes with the record's
low : (c : Start) → c.args.found.sphr + c.args.found.ipr + c.args.found.global + c.args.found.variable + c.args.size ≤ 2147483647
low c = let p = c.requires in omega (arith, p.sectioning.below, p.sectioning.small, turn_most p.sectioning p.inside p.sized)

pub overflow_add-next : goal.overflow_add-next
overflow_add-next c = omega (arith, low (goal.at.overflow_add-next c).Start)

pub overflow_add-next-in-0-to-2 : goal.overflow_add-next-in-0-to-2
overflow_add-next-in-0-to-2 c = omega (arith, low (goal.at.overflow_add-next-in-0-to-2 c).Start)

pub overflow_add-next-in-4 : goal.overflow_add-next-in-4
overflow_add-next-in-4 c = omega (arith, low (goal.at.overflow_add-next-in-4 c).Start)

pub overflow_add-next-in_default : goal.overflow_add-next-in_default
overflow_add-next-in_default c = omega (arith, low (goal.at.overflow_add-next-in_default c).Start)

pub returns-in-0-to-2 : goal.returns-in-0-to-2
returns-in-0-to-2 c = let p = c.requires in turn_sphr p.sectioning p.inside p.sized _ (omega arith) record { sphr = refl; ipr = refl; global = refl; variable = refl; start = refl; stop = refl }

pub returns-in-3 : goal.returns-in-3
returns-in-3 c = let p = c.requires in turn_ipr p.sectioning p.inside p.sized _ (omega arith) (omega arith) record { sphr = refl; ipr = refl; global = refl; variable = refl; start = refl; stop = refl }

pub returns-in-4 : goal.returns-in-4
returns-in-4 c = let p = c.requires in turn_global p.sectioning p.inside p.sized _ (omega arith) (omega arith) record { sphr = refl; ipr = refl; global = refl; variable = refl; start = refl; stop = refl }

pub returns-in_default : goal.returns-in_default
returns-in_default c = let p = c.requires in turn_variable p.sectioning p.inside p.sized _ (omega arith) p.other record { sphr = refl; ipr = refl; global = refl; variable = refl; start = refl; stop = refl }
