-- PRINT AND PARSE OF A WHOLE PRODUCT ARE INVERSE: the theorems (proofs/Inverse.antt). Between right values (specs/Values.antt) and the accepted products in
-- the writers' spelling (`Meets`, demand 2; specs/Spelled.antt), `print` and `parse` (specs/Parse.antt) go both ways. Assumes nothing.
use Rattle.std.specs.Prelude.{ℕ, ◌≡◌, List}
use Rattle.demands.specs.Product.{Meets}
use Rattle.meter.specs.Integer.{Bytes}
use Rattle.whole.specs.Values.{Values, print, Right}
use Rattle.whole.specs.Spelled.{Canonical}
use Rattle.whole.specs.Parse.{parse}
use Rattle.whole.specs.Answers.{Answers}
use Rattle.whole.specs.Assembled.{Assembled}

pub record Inverse : Type 0 where
  -- 1. what is printed of right values is bytes, a product, in the writers' spelling; it says these values, and so every query answers
  pub bytes : (v : Values) → Right v → Bytes (print v)
  pub product : (v : Values) → Right v → Meets (print v)
  pub canonical : (v : Values) → Right v → Canonical (print v)
  pub says : (v : Values) → Right v → parse (print v) ≡ v
  pub answers : (v : Values) → Right v → Answers (print v) v
  -- and bytes that are put together of what the writers wrote of them are those
  pub written : (b : List ℕ) (v : Values) → Right v → Assembled b v → b ≡ print v
  -- 2. what a product says is right, however it is spelled, and every query answers it; in the writers' spelling the product's bytes are printed of it,
  -- and of no other right values
  pub right : (a : List ℕ) → Bytes a → Meets a → Right (parse a)
  pub answer : (a : List ℕ) → Bytes a → Meets a → Answers a (parse a)
  pub again : (a : List ℕ) → Bytes a → Meets a → Canonical a → print (parse a) ≡ a
  pub once : (v w : Values) → Right v → Right w → print v ≡ print w → v ≡ w
