-- THE ROWS ARE THE TABLE'S: each row of the list is that of a fault, and each fault that is shown has its row in the list. Row by row: the test of a row is
-- its condition in the table. Assumes nothing.
use Prim.Native.Nat.{ℕ, zero, suc, ◌+◌, ◌<◌}
use native.Mathlib.Decide.{ℕ_discrete, dec_lt}
use native.Mathlib.Omega.{arith}
use mathlib.Core.Path.{◌≡◌, refl, sym, ap, ◌∙◌, subst}
use mathlib.Core.Bool.{Bool, true, false, not, ◌&&◌, ◌||◌}
use mathlib.Core.Logic.{◌⊎◌, inl, inr}
use mathlib.Core.List.Memᴰ.{append_cases as parted}
use mathlib.Core.List.Memᴰ.{append_left as left}
use mathlib.Core.List.Memᴰ.{append_right as right}
use mathlib.Core.List.Memᴰ.{head as top}
use mathlib.Core.List.Memᴰ.{not-nil as nil}
use mathlib.Core.List.Memᴰ.{tail as pop}
use mathlib.Core.List.{List, [], ◌∷◌, ◌++◌, Memᴰ as In}
use borrow.Author.Tests.{leb-true, le-leb, ltb-true, lt-ltb, eqb-true, eq-eqb}
use lib.Dec.{eqb, leb, ltb}
use Rattle.tables.specs.Table.{Row, fault}
use Rattle.mphr.specs.Layout.{line_start}
use Rattle.mphr.specs.Table.{headed, timed, framed, valued, declared, total, Sums, Fine}
use Rattle.mphr.specs.Table as M
use Rattle.arrivals.specs.Computed.{when, line_rows, counted, sums_up, main_rows, all_over5}
use Rattle.arrivals.proofs.Lists.{both, together, not_so, so_not, one_of, either, false_if, in_when, when_in}

-- ---- THE MAIN HEADER
-- its lines
abbrev frames : List ℕ → ℕ → List Row
frames a k = when (not (framed a k)) (fault 2 (line_start k) (line_start (suc k)))

abbrev values : List ℕ → ℕ → List Row
values a k = when (not (valued a k)) (fault 3 (line_start k + 32) (line_start (suc k)))

in_lines : (a : List ℕ) (n k : ℕ) → k < n → (w : M.WrongLine a k) → In (M.row_line w) (line_rows a n)
in_lines a zero k h w = absurd (omega arith)
in_lines a (suc n) k h w = go (ℕ_discrete k n) (λ l. in_lines a n k l w) w
  where
    here : (w : M.WrongLine a n) → In (M.row_line w) (line_rows a (suc n))
    here (M.bad_frame e) = left (values a n ++ line_rows a n) (in_when (so_not (framed a n) e))
    here (M.bad_value e) = right (frames a n) (left (line_rows a n) (in_when (so_not (valued a n) e)))

    go : Dec (k ≡ n) → (k < n → In (M.row_line w) (line_rows a n)) → (v : M.WrongLine a k) → In (M.row_line w) (line_rows a (suc n))
    go (yes e) f v = moved e w
      where
        moved : {j : ℕ} → j ≡ n → (w : M.WrongLine a j) → In (M.row_line w) (line_rows a (suc n))
        moved e = subst (λ (j : ℕ). (w : M.WrongLine a j) → In (M.row_line w) (line_rows a (suc n))) (sym e) here
    go (no d) f v = right (frames a n) (right (values a n) (f (omega (arith, d))))

pub record LineOf (a : List ℕ) (n : ℕ) (r : Row) : Type 0 where
  pub line : ℕ
  pub below : line < n
  pub wrong : M.WrongLine a line
  pub is : M.row_line wrong ≡ r

lines_in : (a : List ℕ) (n : ℕ) (r : Row) → In r (line_rows a n) → LineOf a n r
lines_in a zero r m = absurd (nil m)
lines_in a (suc n) r m = go (parted (frames a n) m) (lines_in a n r)
  where
    rest : In r (values a n) ⊎ In r (line_rows a n) → (In r (line_rows a n) → LineOf a n r) → LineOf a (suc n) r
    rest (inl m) f = let p = when_in (not (valued a n)) (fault 3 (line_start n + 32) (line_start (suc n))) r m in record { line = n; below = omega arith; wrong = M.bad_value (not_so (valued a n) p.0); is = sym p.1 }
    rest (inr m) f = let x = f m in record { line = x.line; below = omega (arith, x.below); wrong = x.wrong; is = x.is }

    go : In r (frames a n) ⊎ In r (values a n ++ line_rows a n) → (In r (line_rows a n) → LineOf a n r) → LineOf a (suc n) r
    go (inl m) f = let p = when_in (not (framed a n)) (fault 2 (line_start n) (line_start (suc n))) r m in record { line = n; below = omega arith; wrong = M.bad_frame (not_so (framed a n) p.0); is = sym p.1 }
    go (inr m) f = rest (parted (values a n) m) f

-- its totals
counted_is : (a : List ℕ) (n : ℕ) → counted a n ≡ true → (j : ℕ) → j < n → valued a (55 + j) ≡ true
counted_is a zero e j h = absurd (omega arith)
counted_is a (suc n) e j h = let p = both (valued a (55 + n)) (counted a n) e in go (ℕ_discrete j n) p.0 (counted_is a n p.1 j)
  where
    go : Dec (j ≡ n) → valued a (55 + n) ≡ true → (j < n → valued a (55 + j) ≡ true) → valued a (55 + j) ≡ true
    go (yes q) v f = rw q v
    go (no d) v f = f (omega (arith, d))

counted_test : (a : List ℕ) (n : ℕ) → ((j : ℕ) → j < n → valued a (55 + j) ≡ true) → counted a n ≡ true
counted_test a zero f = refl
counted_test a (suc n) f = together (f n (omega arith)) (counted_test a n (λ j h. f j (omega arith)))

sums_is : (a : List ℕ) → sums_up a ≡ true → Sums a
sums_is a e =
    let p = both (eqb (total a 1) 1) _ e in
    let q = both (leb (total a 2) 1) _ p.1 in
    record { main = eqb-true _ _ p.0; second = leb-true _ _ q.0; all = eqb-true _ _ q.1 }

sums_test : (a : List ℕ) → Sums a → sums_up a ≡ true
sums_test a s = together (eq-eqb _ _ s.main) (together (le-leb _ _ s.second) (eq-eqb _ _ s.all))

clash : {P : Type 0} {b : Bool} → b ≡ true → b ≡ false → P
clash p q = let e : true ≡ false = sym p ∙ q in let z : ◌≡◌ {A = ℕ} 0 1 = cc in absurd (omega arith)

-- D outside its limits
abbrev outside : List ℕ → Bool
outside a = ltb (declared a) 3307 || ltb 2147483647 (declared a)

outside_is : (a : List ℕ) → outside a ≡ true → (declared a < 3307) ⊎ (2147483647 < declared a)
outside_is a e = go (one_of (ltb (declared a) 3307) _ e)
  where
    go : (ltb (declared a) 3307 ≡ true) ⊎ (ltb 2147483647 (declared a) ≡ true) → (declared a < 3307) ⊎ (2147483647 < declared a)
    go (inl l) = inl (ltb-true _ _ l)
    go (inr l) = inr (ltb-true _ _ l)

outside_test : (a : List ℕ) → (declared a < 3307) ⊎ (2147483647 < declared a) → outside a ≡ true
outside_test a (inl l) = either (ltb (declared a) 3307) _ (inl (lt-ltb _ _ l))
outside_test a (inr l) = either (ltb (declared a) 3307) _ (inr (lt-ltb _ _ l))

abbrev heads : List ℕ → List Row
heads a = when (not (headed a)) (fault 1 0 20)

abbrev sizes : List ℕ → List Row
sizes a = when (valued a 28 && outside a) (fault 4 1485 1497)

abbrev totals : List ℕ → List Row
totals a = when (counted a 9 && not (sums_up a)) (fault 5 2675 2994)

abbrev times : List ℕ → List Row
times a = when (not (timed a)) (fault 10 0 20)

pub in_main : (a : List ℕ) (g : M.Fault a) → In (M.row g) (main_rows a)
unfolding main_rows
in_main a (M.bad_header e) = left (line_rows a 72 ++ (sizes a ++ (totals a ++ times a))) (in_when (so_not (headed a) e))
in_main a (M.bad_line k h w) = right (heads a) (left (sizes a ++ (totals a ++ times a)) (in_lines a 72 k h w))
in_main a (M.bad_size v o) = right (heads a) (right (line_rows a 72) (left (totals a ++ times a) (in_when (together v (outside_test a o)))))
in_main a (M.bad_totals v n) = right (heads a) (right (line_rows a 72) (right (sizes a) (left (times a) (in_when (together (counted_test a 9 v) (so_not (sums_up a) (false_if (sums_up a) (λ e. n (sums_is a e)))))))))
in_main a (M.bad_times e) = right (heads a) (right (line_rows a 72) (right (sizes a) (right (totals a) (in_when (so_not (timed a) e)))))

pub record MainOf (a : List ℕ) (r : Row) : Type 0 where
  pub wrong : M.Fault a
  pub is : M.row wrong ≡ r

pub main_in : (a : List ℕ) (r : Row) → In r (main_rows a) → MainOf a r
unfolding main_rows
main_in a r m = go (parted (heads a) m)
  where
    last : In r (totals a) ⊎ In r (times a) → MainOf a r
    last (inl m) =
        let p = when_in (counted a 9 && not (sums_up a)) (fault 5 2675 2994) r m in
        let q = both (counted a 9) _ p.0 in
        record { wrong = M.bad_totals (counted_is a 9 q.0) (λ s. clash (sums_test a s) (not_so (sums_up a) q.1)); is = sym p.1 }
    last (inr m) = let p = when_in (not (timed a)) (fault 10 0 20) r m in record { wrong = M.bad_times (not_so (timed a) p.0); is = sym p.1 }

    third : In r (sizes a) ⊎ In r (totals a ++ times a) → MainOf a r
    third (inl m) =
        let p = when_in (valued a 28 && outside a) (fault 4 1485 1497) r m in
        let q = both (valued a 28) _ p.0 in
        record { wrong = M.bad_size q.0 (outside_is a q.1); is = sym p.1 }
    third (inr m) = last (parted (totals a) m)

    second : In r (line_rows a 72) ⊎ In r (sizes a ++ (totals a ++ times a)) → MainOf a r
    second (inl m) = let x = lines_in a 72 r m in record { wrong = M.bad_line x.line x.below x.wrong; is = x.is }
    second (inr m) = third (parted (sizes a) m)

    go : In r (heads a) ⊎ In r (line_rows a 72 ++ (sizes a ++ (totals a ++ times a))) → MainOf a r
    go (inl m) = let p = when_in (not (headed a)) (fault 1 0 20) r m in record { wrong = M.bad_header (not_so (headed a) p.0); is = sym p.1 }
    go (inr m) = second (parted (line_rows a 72) m)

-- none of 1 to 5
over_is : (l : List Row) → all_over5 l ≡ true → (r : Row) → In r l → 5 < r.number
over_is [] e r m = absurd (nil m)
over_is (s ∷ l) e r (top q) = let p = both (ltb 5 s.number) _ e in rw q (ltb-true 5 s.number p.0)
over_is (s ∷ l) e r (pop m) = let p = both (ltb 5 s.number) _ e in over_is l p.1 r m

over_test : (l : List Row) → ((r : Row) → In r l → 5 < r.number) → all_over5 l ≡ true
over_test [] f = refl
over_test (s ∷ l) f = together (lt-ltb 5 s.number (f s (top refl))) (over_test l (λ r m. f r (pop m)))

pub fine_is : (a : List ℕ) → all_over5 (main_rows a) ≡ true → Fine a
fine_is a e g h = omega (arith, over_is (main_rows a) e (M.row g) (in_main a g))

pub fine_test : (a : List ℕ) → Fine a → all_over5 (main_rows a) ≡ true
fine_test a f = over_test (main_rows a) (λ r m. over r (main_in a r m))
  where
    over : (r : Row) → MainOf a r → 5 < r.number
    over r x = go (dec_lt 5 r.number)
      where
        go : Dec (5 < r.number) → 5 < r.number
        go (yes h) = h
        go (no n) = absurd (f x.wrong (omega (arith, n, ap (λ (s : Row). s.number) x.is)))
