-- THE THEOREMS of specs/Inverse.antt. Assumes nothing.
use mathlib.Core.Path.{◌≡◌, sym, ap, ◌∙◌, subst}
use Rattle.whole.specs.Values.{Values, print, Right}
use Rattle.whole.specs.Parse.{parse}
use Rattle.whole.specs.Answers.{Answers}
use Rattle.whole.specs.Inverse.{Inverse}
use Rattle.whole.proofs.Printed.{print_meets}
use Rattle.whole.proofs.Parsed.{parse_right}
use Rattle.whole.proofs.Again.{print_parse}
use Rattle.whole.proofs.Back.{parse_print}
use Rattle.whole.proofs.Canon.{print_canonical}
use Rattle.whole.proofs.OfBytes.{print_bytes}
use Rattle.whole.proofs.Answers.{answers, print_answers}
use Rattle.whole.proofs.Starts.{parse_is}
use Rattle.whole.proofs.Assembled.{assembled_print}

print_says : (v : Values) → Right v → parse (print v) ≡ v
print_says v r = parse_is (print v) (print_bytes v r) (print_meets v r) ∙ parse_print v r (print_meets v r)

pub inverse : Inverse
inverse = record {
  bytes = print_bytes;
  product = print_meets;
  canonical = print_canonical;
  says = print_says;
  answers = print_answers;
  written = assembled_print;
  right = λ a bs m. subst Right (sym (parse_is a bs m)) (parse_right a bs m);
  answer = λ a bs m. subst (Answers a) (sym (parse_is a bs m)) (answers a bs m);
  again = λ a bs m c. ap print (parse_is a bs m) ∙ print_parse a bs m c;
  once = λ v w r s e. sym (print_says v r) ∙ ap parse e ∙ print_says w s;
}
