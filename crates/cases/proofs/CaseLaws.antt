-- Parts of a case by their lengths, and what a reader's answer says of its number.
-- Assumes nothing.
use Rattle.std.proofs.Common.{◌≡◌, ℕ, zero, suc, ◌+◌, ◌-◌, ◌*◌, ◌<◌, ◌≤◌, Bool, true, false, cond, List, [], ◌∷◌, ◌++◌, length, take, drop, sym, refl, ap, ◌∙◌, mul-le-mul, arith, length-append, length-drop, drop_of_length-le, length-take-le}
use Rattle.cases.specs.Case.{IsPrefixLen}
use Rattle.calendar.specs.Said.{Said, answer, refusal}
use Rattle.calendar.specs.declared.Refusal.{Refusal}
use Rattle.meter.specs.Integer.{be_at, is_width, unsigned_at}
use Rattle.std.specs.declared.result.Result.TheVariants.{Ok, Err}
use Rattle.std.specs.declared.result.Result.{Result}
use Rattle.calendar.specs.Said.{said}
use Rattle.meter.specs.Lent.{inside}
use Rattle.cases.specs.Case.{number_at}

-- a test that came out both ways
pub clash : {P : Type 0} → false ≡ true → P
clash e = let z : ◌≡◌ {A = ℕ} 0 1 = cc in absurd (omega arith)

pub counts : (n : ℕ) (l : List ℕ) → n ≤ length l → IsPrefixLen n l
counts n l h = (h, sym (length-take-le n l h))

take_nil : (n : ℕ) → take {A = ℕ} n [] ≡ []
take_nil zero = refl
take_nil (suc n) = refl

-- a list has no more bytes than it has
take_all : (n : ℕ) (l : List ℕ) → length l ≤ n → take n l ≡ l
take_all zero [] h = refl
take_all zero (x ∷ l) h = absurd (omega arith)
take_all (suc n) [] h = refl
take_all (suc n) (x ∷ l) h = ap (λ (r : List ℕ). x ∷ r) (take_all n l (omega arith))

pub part_none : (l : List ℕ) (i n : ℕ) → length l < i → take 0 l ≡ take n (drop i l)
part_none l i n h = sym (ap (take n) (drop_of_length-le l {i = i} (omega arith)) ∙ take_nil n)

pub part_short : (l : List ℕ) (i n m : ℕ) → length l - i < n → m ≡ length l - i → take m (drop i l) ≡ take n (drop i l)
part_short l i n m h e = take_all m (drop i l) (omega (arith, length-drop i l)) ∙ sym (take_all n (drop i l) (omega (arith, length-drop i l)))

-- a count of what came to a part of a room counts in all of it
pub counts_part : (n : ℕ) (l r : List ℕ) → IsPrefixLen n l → IsPrefixLen n (l ++ r)
counts_part n l r c = counts n (l ++ r) (omega (arith, c.0, length-append l r))

-- the number that a reader answers with, 0 where it refuses
abbrev value_of : Said ℕ → ℕ
value_of (answer v) = v
value_of (refusal n p) = 0

value_cond : (b d : Bool) (v n p m q : ℕ) → value_of (cond b (cond d (answer v) (refusal n p)) (refusal m q)) ≡ cond b (cond d v 0) 0
value_cond true true v n p m q = refl
value_cond true false v n p m q = refl
value_cond false d v n p m q = refl

number_of : (a : List ℕ) (at n : ℕ) → value_of (unsigned_at a at n) ≡ number_at a at n
number_of a at n = value_cond (inside a at n) (is_width n) (be_at a at n) 21 0 20 (length a)

pub read_value : (r : Result ℕ Refusal) (v : ℕ) (a : List ℕ) (at n : ℕ) → r ≡ Ok v → said r ≡ unsigned_at a at n → v ≡ number_at a at n
read_value r v a at n e h = sym (ap (λ (x : Result ℕ Refusal). value_of (said x)) e) ∙ ap value_of h ∙ number_of a at n

pub read_none : (r : Result ℕ Refusal) (q : Refusal) (a : List ℕ) (at n : ℕ) → r ≡ Err q → said r ≡ unsigned_at a at n → 0 ≡ number_at a at n
read_none r q a at n e h = sym (ap (λ (x : Result ℕ Refusal). value_of (said x)) e) ∙ ap value_of h ∙ number_of a at n

-- the product of two bytes
pub small_product : (k w : ℕ) → k < 256 → w < 256 → k * w ≤ 65025
small_product k w h g = mul-le-mul {n₁ = k} {m₁ = w} {n₂ = 255} {m₂ = 255} (omega arith) (omega arith)
