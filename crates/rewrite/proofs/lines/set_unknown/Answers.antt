-- `rewrite::lines::set_unknown` meets its contract: one line after the other. Assumes nothing.
use Prim.Native.Nat.{ℕ}
use native.Mathlib.Omega.{arith}
use mathlib.Core.Path.{◌≡◌, refl, sym}
use mathlib.Core.List.{[], ◌∷◌}
use Rattle.std.specs.declared.option.Option.TheVariants.{None}
use Rattle.mphr.specs.Layout.{fields, widths, width_of}
use Rattle.parts.specs.Rewritten.{text, number, Anew, anew}
use Rattle.rewrite.proofs.LineLaws.{adds_value, unknown_for}
use borrow.Author.Rules.{rules}
use Rattle.rewrite.proofs.lines.set_unknown.Goals as goal

abbrev unknown : ℕ → Anew
unknown k = anew k (number None)

mark-width : width_of 71 ≡ 1
unfolding width_of widths fields
mark-width = refl

pub set_value-requires : goal.set_value-requires
set_value-requires c = (omega arith, search rules, sym mark-width)

pub set_number-requires : goal.set_number-requires
set_number-requires c = (search rules, unknown_for 6 (omega arith))

pub set_number-requires-2 : goal.set_number-requires-2
set_number-requires-2 c = (search rules, unknown_for 5 (omega arith))

pub set_number-requires-3 : goal.set_number-requires-3
set_number-requires-3 c = (search rules, unknown_for 4 (omega arith))

pub set_number-requires-4 : goal.set_number-requires-4
set_number-requires-4 c = (search rules, unknown_for 3 (omega arith))

pub set_number-requires-5 : goal.set_number-requires-5
set_number-requires-5 c = (search rules, unknown_for 2 (omega arith))

pub set_number-requires-6 : goal.set_number-requires-6
set_number-requires-6 c = (search rules, unknown_for 1 (omega arith))

pub set_number-requires-7 : goal.set_number-requires-7
set_number-requires-7 c = (search rules, unknown_for 0 (omega arith))

pub returns : goal.returns
returns c =
    let t = adds_value c.args.header.now c.set_value.new.header (84 ∷ []) 71 (text (84 ∷ [])) (omega arith) (sym mark-width) (λ m. refl) c.set_value.ensures in
    λ m l r.
    let l71 = anew 71 (text (84 ∷ [])) ∷ l in
    let l70 = unknown 70 ∷ l71 in
    let l69 = unknown 69 ∷ l70 in
    let l68 = unknown 68 ∷ l69 in
    let l67 = unknown 67 ∷ l68 in
    let l66 = unknown 66 ∷ l67 in
    let l65 = unknown 65 ∷ l66 in
    c.set_number-7.ensures m l65
    (c.set_number-6.ensures m l66
    (c.set_number-5.ensures m l67
    (c.set_number-4.ensures m l68 (c.set_number-3.ensures m l69 (c.set_number-2.ensures m l70 (c.set_number.ensures m l71 (t m l r)))))))
