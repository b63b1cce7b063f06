-- THE LINES OF A JOIN (02, request Seven): a name ended as another, twice; a sum that is written reads back, and what `x` absorbs; tables of the same lines, line
-- by line. Assumes nothing.
use Prim.Native.Nat.{ℕ, zero, suc, ◌+◌, ◌-◌, ◌≤◌, ◌<◌}
use native.Mathlib.Decide.{ℕ_discrete}
use native.Mathlib.Omega.{arith}
use mathlib.Core.Path.{◌≡◌, refl, sym, ap, subst, ◌∙◌}
use mathlib.Core.Bool.{Bool, true, false, true≢false, cond, ◌||◌}
use mathlib.Core.List.{List, [], ◌∷◌, ◌++◌}
use borrow.Author.Tests.{eq-eqb, ne_eqb}
use lib.IntN.{ℤ, pos}
use lib.ListN.{length, get_or, take, drop, replicate, length-replicate, length-drop}
use lib.Seq.{take-append-le, drop-append-add, length-take-le, take-take, take_at, drop_at}
use Rattle.meter.specs.General.{number_of}
use Rattle.meter.proofs.ReadsBack.{reads_answer}
use Rattle.text.specs.Field.{is_x, integer_of, is_numeric, number_at}
use Rattle.text.specs.Writing.{put_number, fits_number}
use Rattle.std.specs.declared.option.Option.TheVariants.{Some, None}
use Rattle.std.specs.declared.option.Option.{Option}
use Rattle.text.proofs.Alike.{x_alike, number_alike}
use Rattle.text.proofs.Back.{number_back}
use Rattle.mphr.specs.Layout.{width_of, kind_of, line_start}
use Rattle.mphr.proofs.WritingLaws.{number_fits_lem}
use Rattle.parts.specs.Pointers.{part}
use Rattle.parts.specs.Rewritten.{value_of, kept, spelling, Rewritten, Anew, values_of, count_lines}
use Rattle.parts.specs.JoinHeader.{added, ended_as, join_values, SumsFit, Sum}
use Rattle.parts.proofs.HeaderLaws.{value_like, number_is, seven}

-- ---- names
module _ (a b c : List ℕ) (la : length a ≡ 67) (lb : length b ≡ 67) (lc : length c ≡ 67) where
  front_of : (y : List ℕ) → take 32 (ended_as a y) ≡ take 32 a
  front_of y = take-append-le 32 (take 32 a) (take 15 (drop 32 y) ++ drop 47 a) (omega (arith, length-take-le 32 a (omega arith))) ∙ take-take 32 32 a (omega arith)

  back_of : length b ≡ 67 → drop 47 (ended_as a b) ≡ drop 47 a
  back_of _ =
      let x = take 32 a in
      let y = take 15 (drop 32 b) in
      let m : length x ≡ 32 = length-take-le 32 a (omega arith) in
      let n : length y ≡ 15 = length-take-le 15 (drop 32 b) (omega (arith, length-drop 32 b)) in
      let e : 47 ≡ length x + (length y + 0) = omega (arith, m, n) in
      ap (λ (k : ℕ). drop k (ended_as a b)) e ∙ drop-append-add x (y ++ drop 47 a) (length y + 0) ∙ drop-append-add y (drop 47 a) 0 ∙ none (drop 47 a)
    where
      none : (l : List ℕ) → drop 0 l ≡ l
      none [] = refl
      none (x ∷ l) = refl

  pub ended_twice : ended_as (ended_as a b) c ≡ ended_as a c
  ended_twice = rw (front_of b, back_of lb)

  middle : take 15 (drop 32 (ended_as b c)) ≡ take 15 (drop 32 c)
  middle =
      let y = take 15 (drop 32 c) in
      let n : length y ≡ 15 = length-take-le 15 (drop 32 c) (omega (arith, length-drop 32 c)) in
      ap (take 15) (drop_at (take 32 b) (y ++ drop 47 b) 32 (length-take-le 32 b (omega arith))) ∙ take_at y (drop 47 b) 15 n

  pub ended_last : ended_as a (ended_as b c) ≡ ended_as a c
  ended_last = rw middle

-- ---- sums
-- the number that is written reads back
read_back : (w : ℕ) (z : Option ℤ) → fits_number true w z ≡ true → number_at (put_number w (replicate w 0) z) 0 w ≡ z
read_back w z f =
    let b = put_number w (replicate w 0) z in
    (reads_answer b 0 w (is_numeric true b 0 w) (number_at b 0 w) z (number_back true w (replicate w 0) z f (omega (arith, length-replicate {A = ℕ} w 0)))).2

x_of : (b : Bool) (z : ℤ) → cond b None (Some z) ≡ None → b ≡ true
x_of true z e = refl
x_of false z e = let q : ◌≡◌ {A = ℕ} 0 1 = cc in absurd (omega arith)

not_x_of : (b : Bool) (z y : ℤ) → cond b None (Some z) ≡ Some y → b ≡ false
not_x_of true z y e = let q : ◌≡◌ {A = ℕ} 0 1 = cc in absurd (omega arith)
not_x_of false z y e = refl

-- a line with an undefined number is of `x`
pub x_line : (m : List ℕ) (k : ℕ) → fits_number true (width_of k) None ≡ true → value_of m k ≡ put_number (width_of k) (replicate (width_of k) 0) None → is_x m (line_start k + 32) (width_of k) ≡ true
x_line m k f e =
    let w = width_of k in
    let y = put_number w (replicate w 0) None in
    x_alike (value_like m k) ∙ ap (λ (v : List ℕ). is_x v 0 w) e ∙ x_of (is_x y 0 w) (integer_of y 0 w) (read_back w None f)

-- the sum that is written reads back
sum_of : (x m n : List ℕ) (k : ℕ) → fits_number true (width_of k) (added m n k) ≡ true → value_of x k ≡ put_number (width_of k) (replicate (width_of k) 0) (added m n k) → Sum x m n k
sum_of x m n k f e = go (is_x m p w || is_x n p w) refl
  where
    p : ℕ
    p = line_start k + 32

    w : ℕ
    w = width_of k

    s : ℕ
    s = number_of m p w + number_of n p w

    z : Bool → Option ℤ
    z b = cond b None (Some (pos s))

    told : (b : Bool) → is_x m p w || is_x n p w ≡ b → (fits_number true w (z b) ≡ true) × (value_of x k ≡ put_number w (replicate w 0) (z b))
    told b u = (ap (λ (c : Bool). fits_number true w (z c)) (sym u) ∙ f, e ∙ ap (λ (c : Bool). put_number w (replicate w 0) (z c)) u)

    x-here : is_x x p w ≡ is_x (value_of x k) 0 w
    x-here = x_alike (value_like x k)

    go : (b : Bool) → is_x m p w || is_x n p w ≡ b → Sum x m n k
    go true u =
        let t = told true u in
        let y = put_number w (replicate w 0) None in
        record {
          undefined = x-here ∙ ap (λ (v : List ℕ). is_x v 0 w) t.1 ∙ x_of (is_x y 0 w) (integer_of y 0 w) (read_back w None t.0) ∙ sym u;
          whole = λ c. absurd (true≢false (sym u ∙ c));
        }
    go false u =
        let t = told false u in
        let y = put_number w (replicate w 0) (Some (pos s)) in
        record {
          undefined = x-here ∙ ap (λ (v : List ℕ). is_x v 0 w) t.1 ∙ not_x_of (is_x y 0 w) (integer_of y 0 w) (pos s) (read_back w (Some (pos s)) t.0) ∙ sym u;
          whole = λ c. number_alike (value_like x k) w (omega arith) ∙ ap (λ (v : List ℕ). number_of v 0 w) t.1 ∙ number_is w s t.0;
        }

-- what holds of the seven lines of counts and durations
pub in_seven : (P : ℕ → Type 0) → P 64 → P 65 → P 66 → P 67 → P 68 → P 69 → P 70 → (k : ℕ) → 64 ≤ k → k ≤ 70 → P k
in_seven P a b c d e f g k lo hi = let z : 62 + (k - 62) ≡ k = omega arith in subst P z (seven (λ (i : ℕ). P (62 + i)) a b c d e f g (k - 62) (omega arith) (omega arith))

-- each of them is the sum, in the main header x of a join
pub join_sums : {m n x : List ℕ} (rs ss : List (List ℕ)) → Rewritten m x (join_values m n rs ss) → SumsFit m n → (k : ℕ) → 64 ≤ k → k ≤ 70 → Sum x m n k
join_sums {m} {n} {x} rs ss r fits =
    in_seven (Sum x m n)
    (at 64 (omega arith) (omega arith) (r.values 64 (omega arith)))
    (at 65 (omega arith) (omega arith) (r.values 65 (omega arith)))
    (at 66 (omega arith) (omega arith) (r.values 66 (omega arith)))
    (at 67 (omega arith) (omega arith) (r.values 67 (omega arith)))
    (at 68 (omega arith) (omega arith) (r.values 68 (omega arith)))
    (at 69 (omega arith) (omega arith) (r.values 69 (omega arith)))
    (at 70 (omega arith) (omega arith) (r.values 70 (omega arith)))
  where
    at : (k : ℕ) → 64 ≤ k → k ≤ 70 → value_of x k ≡ put_number (width_of k) (replicate (width_of k) 0) (added m n k) → Sum x m n k
    at k lo hi e = sum_of x m n k (number_fits_lem (kind_of k) (width_of k) (added m n k) (fits k lo hi)) e

-- ---- a table of lines
-- none of the lines is line k, which is kept then
abbrev pub Apart : ℕ → List Anew → Type 0
Apart k [] = Unit
Apart k (b ∷ bs) = (k ≡ b.line → ⊥) × Apart k bs

pub apart_kept : (k : ℕ) (bs : List Anew) → Apart k bs → values_of bs k ≡ kept
apart_kept k [] g = refl
apart_kept k (b ∷ bs) (d, g) = rw (ne_eqb k b.line d) (apart_kept k bs g)

-- two tables of the same lines say the same of the headers x and m
abbrev pub Match : List ℕ → List ℕ → List Anew → List Anew → Type 0
Match x m [] [] = Unit
Match x m [] (c ∷ cs) = ⊥
Match x m (b ∷ bs) [] = ⊥
Match x m (b ∷ bs) (c ∷ cs) = (c.line ≡ b.line) × (spelling x b.line b.value ≡ spelling m b.line c.value) × Match x m bs cs

pub match_spelled : (x m : List ℕ) (k : ℕ) (bs cs : List Anew) → Match x m bs cs → (Apart k bs → value_of x k ≡ value_of m k) → spelling x k (values_of bs k) ≡ spelling m k (values_of cs k)
match_spelled x m k [] [] g e = e tt
match_spelled x m k [] (c ∷ cs) g e = absurd g
match_spelled x m k (b ∷ bs) [] g e = absurd g
match_spelled x m k (b ∷ bs) (c ∷ cs) (u, s, g) e = go (ℕ_discrete k b.line) (match_spelled x m k bs cs g)
  where
    go : Dec (k ≡ b.line) → ((Apart k bs → value_of x k ≡ value_of m k) → spelling x k (values_of bs k) ≡ spelling m k (values_of cs k)) → spelling x k (values_of (b ∷ bs) k) ≡ spelling m k (values_of (c ∷ cs) k)
    go (yes d) r = rw (u, d, eq-eqb b.line b.line refl) s
    go (no d) r = rw (u, ne_eqb k b.line d) (r (λ a. e (d, a)))

pub count_match : (x m : List ℕ) (ps : List (List ℕ)) (bs cs : List Anew) → Match x m bs cs → Match x m (count_lines ps bs) (count_lines ps cs)
count_match x m ps bs cs g = (refl, refl, (refl, refl, (refl, refl, (refl, refl, (refl, refl, (refl, refl, (refl, refl, (refl, refl, (refl, refl, (refl, refl, g))))))))))

pub part_same : (a b : List ℕ) (i n : ℕ) → ((j : ℕ) → j < n → get_or a (i + j) 0 ≡ get_or b (i + j) 0) → part a i n ≡ part b i n
part_same a b i zero f = refl
part_same a b i (suc n) f =
    let z : i + 0 ≡ i = omega arith in
    let h : get_or a i 0 ≡ get_or b i 0 = rw z at (f 0 (omega arith)) in
    ap (λ (y : ℕ). y ∷ part a (i + 1) n) h
    ∙ ap (λ (l : List ℕ). get_or b i 0 ∷ l) (part_same a b (i + 1) n (λ j l. let e : i + 1 + j ≡ i + (suc j) = omega arith in rw e (f (suc j) (omega arith))))
