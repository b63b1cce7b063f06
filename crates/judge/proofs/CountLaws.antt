-- The size and the totals of a main header that has come and shows no fault: their fields are numbers, and small. By mphr's export.
-- Assumes nothing.
use Rattle.std.proofs.Common.{◌≡◌, ℕ, ◌+◌, ◌*◌, ◌<◌, ◌≤◌, true, false, List, length, get_or, sym, ◌∙◌, arith}
use Rattle.text.specs.Field.{is_number, count_at}
use Rattle.text.proofs.Exact.{is_small, count_is}
use Rattle.mphr.specs.Table.{declared, total, Fine}
use Rattle.mphr.proofs.LineLaws.{size_number, declared_is, total_number, total_is}
use Rattle.mphr.proofs.Export.{clean_fine, fine_valued, sized}
use Rattle.judge.specs.Turning.{Begun, TotalsRead, Totals}

pub begun_fine : {a : List ℕ} → Begun a → Fine a
begun_fine b = clean_fine b.come b.clean

pub size_within : {a : List ℕ} → Begun a → (3307 ≤ declared a) × (declared a ≤ 2147483647)
size_within b = sized (begun_fine b)

-- the fields of the totals are numbers
total_counts : {a : List ℕ} → Begun a → (j : ℕ) → j < 9 → is_number false a (2675 + 39 * j) 6 ≡ true
total_counts {a} b j h = total_number a j h (fine_valued (begun_fine b) (55 + j) (omega arith))

pub total_small : {a : List ℕ} → Begun a → (j : ℕ) → j < 9 → total a j < 1000000
total_small {a} b j h = rw (total_is a j h) (is_small false a (2675 + 39 * j) 6 (total_counts b j h))

-- what is read there is D, and the totals
pub size_said : {a : List ℕ} {n : ℕ} → Begun a → n ≡ count_at a 1485 11 → (n ≡ declared a) × (3307 ≤ n) × (n ≤ 2147483647)
size_said {a} b e =
    let z = size_within b in
    let c = size_number a (fine_valued (begun_fine b) 28 (omega arith)) in
    let q = e ∙ count_is a 1485 11 c (omega arith) (omega (arith, b.come)) ∙ sym (declared_is a) in
    (q, omega (arith, z.0, q), omega (arith, z.1, q))

total_said : {a : List ℕ} (j : ℕ) → Begun a → j < 9 → count_at a (2675 + 39 * j) 6 ≡ total a j
total_said {a} j b h = count_is a (2675 + 39 * j) 6 (total_counts b j h) (omega arith) (omega (arith, b.come)) ∙ sym (total_is a j h)

pub totals_said : {a t : List ℕ} → TotalsRead a t → Begun a → Totals a t
totals_said r b = record { nine = r.nine; same = λ c l. r.read c l ∙ total_said c b (omega arith); small = λ c l. total_small b c (omega arith) }

-- the first j are in
pub record Placed (a t : List ℕ) (j : ℕ) : Type 0 where
  pub within : j ≤ 9
  pub nine : length t ≡ 9
  pub same : (c : ℕ) → c < j → get_or t c 0 ≡ count_at a (2675 + 39 * c) 6
