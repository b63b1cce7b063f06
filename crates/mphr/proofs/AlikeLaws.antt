-- Ten bytes compared as two numbers, and a name by three tens. Assumes nothing.
use Prim.Native.Nat.{ℕ, ◌+◌, ◌-◌, ◌*◌, ◌<◌}
use native.Mathlib.Decide.{dec_lt, ℕ_discrete}
use native.Mathlib.Omega.{arith}
use mathlib.Core.Path.{◌≡◌, refl, sym, ap, ◌∙◌}
use mathlib.Core.Bool.{Bool, true, false}
use mathlib.Core.List.{List}
use borrow.Author.Tests.{eq-eqb, ne_eqb}
use lib.Dec.{eqb, eqb→eq}
use lib.ListN.{get_or}
use Rattle.meter.specs.Integer.{be_at}
use Rattle.meter.specs.General.{lead}
use Rattle.meter.proofs.IntegerLaws.{be_at_same, be_at_lt, bytes_same}
use Rattle.meter.proofs.GeneralRuns.{lead_below}
use Rattle.mphr.specs.Table.{named}
use Rattle.mphr.specs.Layout.{names, line_start}
use Rattle.mphr.specs.Turning.{Alike, AlikeIs}

pub clash : {P : Type 0} → true ≡ false → P
clash e = let z : ◌≡◌ {A = ℕ} 0 1 = cc in absurd (omega arith)

pub of_four : (a : List ℕ) (i : ℕ) {x y z w : ℕ} → x ≡ get_or a i 0 → y ≡ get_or a (i + 1) 0 → z ≡ get_or a (i + 2) 0 → w ≡ get_or a (i + 3) 0 → ((x * 256 + y) * 256 + z) * 256 + w ≡ be_at a i 4
unfolding be_at
of_four a i e f g h = let z : i + 0 ≡ i = omega arith in let k = ap (λ (k : ℕ). get_or a k 0) z in omega (arith, e, f, g, h, k)

abbrev pub eight : List ℕ → ℕ → ℕ
eight a i = be_at a i 4 * 4294967296 + be_at a (i + 4) 4

abbrev pub two : List ℕ → ℕ → ℕ
two a i = get_or a i 0 * 256 + get_or a (i + 1) 0

ninth : (a : List ℕ) (i : ℕ) → get_or a (i + 8 + 1) 0 ≡ get_or a (i + 9) 0
ninth a i = ap (λ (k : ℕ). get_or a k 0) (omega arith)

module _ (a t : List ℕ) (i j : ℕ) (b : (k : ℕ) → get_or a k 0 < 256) (c : (k : ℕ) → get_or t k 0 < 256) where
  -- the second half, from where the first begins
  later : (s : List ℕ) (k m : ℕ) → get_or s (k + 4 + m) 0 ≡ get_or s (k + (4 + m)) 0
  later s k m = ap (λ (n : ℕ). get_or s n 0) (omega arith)

  eight_of : Alike a t i j 10 → eight a i ≡ eight t j
  eight_of f =
      ap (λ (n : ℕ). n * 4294967296 + be_at a (i + 4) 4) (be_at_same a t i j 4 (λ m h. f m (omega arith)))
      ∙ ap (λ (n : ℕ). be_at t j 4 * 4294967296 + n) (be_at_same a t (i + 4) (j + 4) 4 (λ m h. later a i m ∙ f (4 + m) (omega arith) ∙ sym (later t j m)))

  -- a test that came out no
  pub eight_no : (eight a i ≡ eight t j → ⊥) → AlikeIs a t i j false
  eight_no d = record { good = λ e. clash (sym e); bad = λ _ f. d (eight_of f) }

  module _ (e : eight a i ≡ eight t j) where
    first : be_at a i 4 ≡ be_at t j 4
    first = omega (arith, be_at_lt a b (i + 4) 4, be_at_lt t c (j + 4) 4)

    second : be_at a (i + 4) 4 ≡ be_at t (j + 4) 4
    second = omega (arith, first)

    pub eight_alike : Alike a t i j 8
    eight_alike m h = go (dec_lt m 4)
      where
        go : Dec (m < 4) → get_or a (i + m) 0 ≡ get_or t (j + m) 0
        go (yes l) = bytes_same a t i j 4 (λ k _. b (i + k)) (λ k _. c (j + k)) first m l
        go (no l) =
            let n = m - 4 in
            let q : 4 + n ≡ m = omega arith in
            ap (λ (k : ℕ). get_or a (i + k) 0) (sym q) ∙ sym (later a i n) ∙ bytes_same a t (i + 4) (j + 4) 4 (λ k _. b (i + 4 + k)) (λ k _. c (j + 4 + k)) second n (omega arith) ∙ later t j n ∙ ap (λ (k : ℕ). get_or t (j + k) 0) q

    all : get_or a (i + 8) 0 ≡ get_or t (j + 8) 0 → get_or a (i + 9) 0 ≡ get_or t (j + 9) 0 → Alike a t i j 10
    all f g m h = go (dec_lt m 8) (ℕ_discrete m 8)
      where
        go : Dec (m < 8) → Dec (m ≡ 8) → get_or a (i + m) 0 ≡ get_or t (j + m) 0
        go (yes u) v = eight_alike m u
        go (no u) (yes v) = rw v f
        go (no u) (no v) = let w : m ≡ 9 = omega (arith, v) in rw w g

    pub last : AlikeIs a t i j (eqb (two a (i + 8)) (two t (j + 8)))
    last = go (ℕ_discrete (two a (i + 8)) (two t (j + 8)))
      where
        go : Dec (two a (i + 8) ≡ two t (j + 8)) → AlikeIs a t i j (eqb (two a (i + 8)) (two t (j + 8)))
        go (yes g) =
            let x : get_or a (i + 8) 0 ≡ get_or t (j + 8) 0 = omega (arith, g, b (i + 9), c (j + 9), ninth a i, ninth t j) in
            record { good = λ _. all x (omega (arith, g, x, ninth a i, ninth t j)); bad = λ e _. clash (sym (eq-eqb (two a (i + 8)) (two t (j + 8)) g) ∙ e) }
        go (no g) =
            record { good = λ e. clash (sym e ∙ ne_eqb (two a (i + 8)) (two t (j + 8)) g); bad = λ _ h. g (omega (arith, h 8 (omega arith), h 9 (omega arith), ninth a i, ninth t j)) }

-- ---- a name
module _ (a t : List ℕ) (k p i : ℕ) (e : p ≡ line_start k) (f : t ≡ names) where
  -- ten more
  pub ten_more : Alike a names p (30 * k) (10 * i) → Alike a t (p + 10 * i) (30 * k + 10 * i) 10 → Alike a names p (30 * k) (10 * (i + 1))
  ten_more g h m l = go (dec_lt m (10 * i))
    where
      go : Dec (m < 10 * i) → get_or a (p + m) 0 ≡ get_or names (30 * k + m) 0
      go (yes u) = g m u
      go (no u) =
          let n = m - 10 * i in
          let x : p + 10 * i + n ≡ p + m = omega arith in
          let y : 30 * k + 10 * i + n ≡ 30 * k + m = omega arith in
          ap (λ (q : ℕ). get_or a q 0) (sym x) ∙ h n (omega arith) ∙ ap (λ (q : ℕ). get_or t q 0) y ∙ ap (λ (s : List ℕ). get_or s (30 * k + m) 0) f

  -- a ten that is not alike
  pub not_named : i < 3 → (Alike a t (p + 10 * i) (30 * k + 10 * i) 10 → ⊥) → false ≡ named a k
  unfolding named
  not_named h d = go (named a k) refl
    where
      go : (b : Bool) → named a k ≡ b → false ≡ named a k
      go false q = sym q
      go true q =
          let l = eqb→eq (lead (λ (j : ℕ). eqb (get_or a (line_start k + j) 0) (get_or names (30 * k + j) 0)) 30) 30 (rw q tt) in
          absurd (d (λ m u.
          let x : p + 10 * i + m ≡ p + (10 * i + m) = omega arith in
          let y : 30 * k + 10 * i + m ≡ 30 * k + (10 * i + m) = omega arith in
          let z : eqb (get_or a (line_start k + (10 * i + m)) 0) (get_or names (30 * k + (10 * i + m)) 0) ≡ true = lead_below (λ (j : ℕ). eqb (get_or a (line_start k + j) 0) (get_or names (30 * k + j) 0)) 30 (10 * i + m) (omega arith) in
          ap (λ (q : ℕ). get_or a q 0) x ∙ ap (λ (q : ℕ). get_or a (q + (10 * i + m)) 0) e ∙ eqb→eq _ _ (rw z tt) ∙ ap (λ (s : List ℕ). get_or s (30 * k + (10 * i + m)) 0) (sym f) ∙ ap (λ (q : ℕ). get_or t q 0) (sym y)))
