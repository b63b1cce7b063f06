-- `rewrite::cut::cut` meets its contract: the window, the verdict, and the cut of what it accepts. Assumes nothing.
use mathlib.Core.Path.{◌≡◌, sym, ◌∙◌}
use mathlib.Core.Bool.{true, false}
use Rattle.std.specs.Prelude.{Err}
use Rattle.std.proofs.Common.{rules}
use Rattle.demands.proofs.Accepted.{accepted_product}
use Rattle.parts.specs.Cut.{window, is_window}
use Rattle.rewrite.specs.Cut.{no_window, unfit}
use Rattle.rewrite.proofs.cut.cut.Goals as goal
use Rattle.rewrite.proofs.cut.cut.Goals.{Else-not-is_up_to}

windowed : (c : Else-not-is_up_to) → is_window (window c.args.first c.args.last) ≡ true
windowed c = let t : c.is_up_to.result ≡ true = search rules in sym c.is_up_to.ensures ∙ t

pub returns-then-not-is_up_to : goal.returns-then-not-is_up_to
returns-then-not-is_up_to c = let t : c.is_up_to.result ≡ false = search rules in no_window (sym c.is_up_to.ensures ∙ t)

pub returns-in_err-verdict : goal.returns-in_err-verdict
returns-in_err-verdict c =
    let e : c.from_residual.result ≡ Err c.in_err-verdict.field-0.0 = search rules in
    rw e (unfit _ (windowed (goal.at.returns-in_err-verdict c).Else-not-is_up_to) c.in_err-verdict.ensures)

pub cut_product-requires : goal.cut_product-requires
cut_product-requires c = record { product = accepted_product c.in_ok-verdict.ensures; windowed = windowed (goal.at.cut_product-requires c).Else-not-is_up_to }
