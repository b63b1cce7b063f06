-- `rewrite::kinds::put_place` meets its contract: an empty place has no text, another the pointer of its kind. Assumes nothing.
use Prim.Native.Nat.{ℕ, ◌+◌, ◌-◌}
use native.Mathlib.Omega.{arith}
use mathlib.Core.List.{List}
use mathlib.Core.Path.{◌≡◌, refl, sym, ap, ◌∙◌}
use lib.ListN.{length, get_or, take, drop}
use lib.Seq.{sets}
use borrow.Author.Tests.{eq-eqb}
use Rattle.parts.specs.Kinds.{kind_at, ipr_to}
use Rattle.rewrite.specs.Emitting.{place_text}
use Rattle.rewrite.proofs.EmitLaws.{ipr_long, ipr_whole, place_some}
use Rattle.rewrite.proofs.kinds.put_place.Goals as goal
use Rattle.rewrite.proofs.kinds.put_place.Goals.{Else-at-eq0}

-- what the pointer's place holds
held : (c : Else-at-eq0) → place_text c.args.s.now c.args.base c.args.table.now c.args.j ≡ ipr_to c.args.s.now (kind_at c.args.j) (c.args.base + (c.wide_word-at.result - 1))
held c =
    let a = c.args in
    place_some a.s.now a.base a.table.now a.j (λ z. c.if-at-eq0.false (c.wide_word-at.ensures.0 ∙ z))
    ∙ ap (λ (n : ℕ). ipr_to a.s.now (kind_at a.j) (a.base + (n - 1))) (sym c.wide_word-at.ensures.0)

pub returns-then-at-eq0 : goal.returns-then-at-eq0
returns-then-at-eq0 c =
    let a = c.args in
    let z : get_or a.table.now a.j 0 ≡ 0 = sym c.wide_word-at.ensures.0 ∙ c.if-at-eq0.true in
    rw (eq-eqb (get_or a.table.now a.j 0) 0 z) record { next = omega arith; put = refl }

pub overflow_add-base : goal.overflow_add-base
overflow_add-base c = omega (arith, c.wide_word-at.ensures.1, c.requires.low)

pub copy-requires : goal.copy-requires
copy-requires c =
    let a = c.args in
    let k = kind_at a.j in
    let t = a.base + (c.wide_word-at.result - 1) in
    (omega (arith, ap length c.pointer_to-pointer.ensures, ipr_long a.s.now k t), omega (arith, c.requires.fits, ap length (held (goal.at.copy-requires c).Else-at-eq0), ipr_long a.s.now k t))

pub returns : goal.returns
returns c =
    let a = c.args in
    let k = kind_at a.j in
    let t = a.base + (c.wide_word-at.result - 1) in
    record {
      next = omega (arith, ap length (held (goal.at.returns c).Else-at-eq0), ipr_long a.s.now k t);
      put =
          c.copy.ensures
          ∙ ap (λ (l : List ℕ). sets a.room.now a.p (take 27 (drop 0 l))) c.pointer_to-pointer.ensures
          ∙ ap (sets a.room.now a.p) (ipr_whole a.s.now k t ∙ sym (held (goal.at.returns c).Else-at-eq0));
    }
