-- `judge::header::is_part` meets its contract: the two tests. Assumes nothing.
use Rattle.std.proofs.Common.{◌≡◌, ℕ, ◌+◌, ◌-◌, ◌<◌, Bool, true, false, ◌&&◌, ltb, sym, refl, ap, ◌∙◌, arith, ltb-false, ltb-true, le-ltb, lt-ltb}
use Rattle.judge.proofs.header.is_part.Goals as goal

left-of : (at d : ℕ) → at < d → (b : Bool) → ltb (d - at) 20 ≡ b → b ≡ ltb d (at + 20)
left-of at d h true e = sym (lt-ltb d (at + 20) (let g = ltb-true (d - at) 20 e in omega arith))
left-of at d h false e = sym (le-ltb d (at + 20) (let g = ltb-false (d - at) 20 e in omega arith))

pub returns-then-d-at : goal.returns-then-d-at
returns-then-d-at c = sym (ap (λ (b : Bool). b && ltb c.args.d (c.args.at + 20)) (le-ltb c.args.at c.args.d (omega arith)))

pub returns : goal.returns
returns c =
    let at = c.args.at in
    let d = c.args.d in
    left-of at d (omega arith) _ refl ∙ sym (ap (λ (b : Bool). b && ltb d (at + 20)) (lt-ltb at d (omega arith)))
