-- What the judge above takes from the main header: 3,307 bytes show all of its faults; a header with none of 1 to 5 has values of their
-- kinds, a size and totals, which text's number reader gives; its only fault can be that of its times. Assumes nothing.
use mathlib.Core.Path.{◌≡◌, refl}
use mathlib.Core.Bool.{true, false}
use mathlib.Core.Logic.{inl, inr}
use mathlib.Core.List.{List}
use Prim.Native.Nat.{ℕ, ◌+◌, ◌*◌, ◌≤◌, ◌<◌}
use native.Mathlib.Omega.{arith}
use native.Mathlib.Decide.{ℕ_discrete, dec_le}
use lib.ListN.{length}
use Rattle.mphr.specs.Table.{framed, valued, declared, total, sum, Sums, bad_frame, bad_value, Fault, bad_header, bad_line, bad_size, bad_totals, bad_times, number, shown, Clean, Fine}
use Rattle.calendar.specs.Said.{answer}
use lib.IntN.{pos}
use Rattle.tables.proofs.Passing.{holds, passes}
use Rattle.text.specs.Field.{is_value, number_read_at}
use Rattle.std.specs.declared.option.Option.TheVariants.{Some}
use Rattle.text.proofs.Exact.{count_read}
use Rattle.mphr.proofs.LineLaws.{size_number, declared_is, total_number, total_is}
use Rattle.mphr.proofs.TurnLaws.{shown_most}

-- the whole header shows each of its faults
pub clean_whole : {a : List ℕ} → 3307 ≤ length a → Clean a → (g : Fault a) → ⊥
clean_whole l c g = c g (omega (arith, shown_most g))

pub clean_fine : {a : List ℕ} → 3307 ≤ length a → Clean a → Fine a
clean_fine l c g _ = clean_whole l c g

-- a fault's number
pub numbers : {a : List ℕ} (g : Fault a) → (1 ≤ number g) × (number g ≤ 10)
numbers (bad_header _) = omega arith
numbers (bad_line k _ (bad_frame _)) = omega arith
numbers (bad_line k _ (bad_value _)) = omega arith
numbers (bad_size _ _) = omega arith
numbers (bad_totals _ _) = omega arith
numbers (bad_times _) = omega arith

-- each line of a fine header has its name and a value of its kind
pub fine_framed : {a : List ℕ} → Fine a → (k : ℕ) → k < 72 → framed a k ≡ true
fine_framed {a} f k h = passes (framed a k) (λ e. f (bad_line k h (bad_frame e)) (omega arith))

pub fine_valued : {a : List ℕ} → Fine a → (k : ℕ) → k < 72 → valued a k ≡ true
fine_valued {a} f k h = passes (valued a k) (λ e. f (bad_line k h (bad_value e)) (omega arith))

totals_valued : {a : List ℕ} → Fine a → (j : ℕ) → j < 9 → valued a (55 + j) ≡ true
totals_valued f j h = fine_valued f (55 + j) (omega arith)

-- a fine header declares a size
pub sized : {a : List ℕ} → Fine a → (3307 ≤ declared a) × (declared a ≤ 2147483647)
sized {a} f =
    let v = fine_valued f 28 (omega arith) in (
      holds (dec_le 3307 (declared a)) (λ n. f (bad_size v (inl (omega (arith, n)))) (omega arith)),
      holds (dec_le (declared a) 2147483647) (λ n. f (bad_size v (inr (omega (arith, n)))) (omega arith)),
    )

-- and its totals add up
pub summed : {a : List ℕ} → Fine a → Sums a
summed {a} f = record {
  main = holds (ℕ_discrete (total a 1) 1) (λ n. bad (λ s. n s.main));
  second = holds (dec_le (total a 2) 1) (λ n. bad (λ s. n s.second));
  all = holds (ℕ_discrete (total a 0) (sum a 8)) (λ n. bad (λ s. n s.all));
}
  where
    bad : (Sums a → ⊥) → ⊥
    bad d = f (bad_totals (totals_valued f) d) (omega arith)

-- a fault of a fine header is that of its times, shown before any record
pub fine_early : {a : List ℕ} → Fine a → (g : Fault a) → shown g ≡ 20
fine_early f (bad_header e) = refl
fine_early f (bad_line k h (bad_frame e)) = absurd (f (bad_line k h (bad_frame e)) (omega arith))
fine_early f (bad_line k h (bad_value e)) = absurd (f (bad_line k h (bad_value e)) (omega arith))
fine_early f (bad_size v d) = absurd (f (bad_size v d) (omega arith))
fine_early f (bad_totals v d) = absurd (f (bad_totals v d) (omega arith))
fine_early f (bad_times e) = refl

-- THE SIZE AND THE TOTALS are what text's number reader answers of their fields
pub size_read : {a : List ℕ} → Fine a → 1497 ≤ length a → number_read_at false 11 a 1485 ≡ answer (Some (pos (declared a)))
unfolding is_value
size_read {a} f h = rw (declared_is a) (count_read a 1485 11 (size_number a (fine_valued f 28 (omega arith))) (omega arith) (omega arith))

pub total_read : {a : List ℕ} → Fine a → 2994 ≤ length a → (j : ℕ) → j < 9 → number_read_at false 6 a (2675 + 39 * j) ≡ answer (Some (pos (total a j)))
unfolding is_value
total_read {a} f h j l = rw (total_is a j l) (count_read a (2675 + 39 * j) 6 (total_number a j l (fine_valued f (55 + j) (omega arith))) (omega arith) (omega arith))
