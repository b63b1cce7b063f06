-- A profile, line by line and record by record: what is asked of the lines that are left is what is asked of all; and records of one size, one after the
-- other, as far as they meet it. Assumes nothing.
use Rattle.std.proofs.Common.{◌≡◌, ℕ, zero, suc, ◌+◌, ◌<◌, ◌≤◌, Bool, true, false, not, ◌||◌, List, [], ◌∷◌, length, get_or, sym, refl, subst, arith}
use Rattle.judge.specs.Table.{size_at}
use Rattle.judge.specs.Stretch.{Even}
use Rattle.judge.specs.Stretch as S
use Rattle.judge.specs.Profile.{is_let, lets, speaks, allows, is_allowed, Meeting, over, further, OneSize, Passed}

-- a line of the profile lets through what the profile does
or_true : (b : Bool) → b || true ≡ true
or_true true = refl
or_true false = refl

line_lets : (p : List (List ℕ)) (i : ℕ) → i < length p → (c g s v : ℕ) → is_let (get_or p i []) c g s v ≡ true → lets p c g s v ≡ true
line_lets [] i h c g s v e = absurd (omega arith)
line_lets (l ∷ p) zero h c g s v e = rw e refl
line_lets (l ∷ p) (suc i) h c g s v e = rw (line_lets p i (omega arith) c g s v e) (or_true (is_let l c g s v))

-- ---- what the profile allows, by a line or by what it does not speak of
module _ (p : List (List ℕ)) (c g s v : ℕ) where
  pub by_line : (i : ℕ) → i < length p → is_let (get_or p i []) c g s v ≡ true → allows p c g s v ≡ true
  by_line i h e = rw (line_lets p i h c g s v e) refl

  pub by_silence : speaks p c ≡ false → allows p c g s v ≡ true
  by_silence e = rw e (or_true (lets p c g s v))

  pub by_no_line : lets p c g s v ≡ false → not (speaks p c) ≡ allows p c g s v
  by_no_line e = rw e refl

-- ---- records of one size
even_le : {a : List ℕ} {z i j : ℕ} → Even a z i j → i ≤ j
even_le S.over = omega arith
even_le (S.further e n) = omega (arith, even_le n)

even_step : {a : List ℕ} {z i j : ℕ} → Even a z i j → i < j → (size_at a i ≡ z) × Even a z (i + z) j
even_step S.over h = absurd (omega arith)
even_step (S.further e n) h = (e, n)

module _ {a : List ℕ} {z i e : ℕ} (o : OneSize a z i e) (h : i < e) where
  pub one_next : OneSize a z (i + z) e
  one_next = record { even = (even_step o.even h).1; least = o.least; come = o.come }

  pub one_room : i + z ≤ length a
  one_room = omega (arith, even_le one_next.even, o.come)

  pub one_size : size_at a i ≡ z
  one_size = (even_step o.even h).0

-- ---- as far as they meet the profile
pub meeting_le : {p : List (List ℕ)} {a : List ℕ} {i j : ℕ} → Meeting p a i j → i ≤ j
meeting_le over = omega arith
meeting_le (further e n) = omega (arith, meeting_le n)

pub meeting_joined : {p : List (List ℕ)} {a : List ℕ} {i j k : ℕ} → Meeting p a i j → Meeting p a j k → Meeting p a i k
meeting_joined over n = n
meeting_joined (further e m) n = further e (meeting_joined m n)

pub passed_none : {p : List (List ℕ)} {a : List ℕ} {z i e : ℕ} → OneSize a z i e → Passed p a z i i e
passed_none o = record { meets = over; left = o }

module _ {p : List (List ℕ)} {a : List ℕ} {z i j e : ℕ} where
  pub passed_joined : {k : ℕ} → Passed p a z i j e → Passed p a z j k e → Passed p a z i k e
  passed_joined x y = record { meets = meeting_joined x.meets y.meets; left = y.left }

pub passed_one : {p : List (List ℕ)} {a : List ℕ} {z i e : ℕ} → OneSize a z i e → i < e → is_allowed p a i ≡ true → Passed p a z i (i + z) e
passed_one {p} {a} {z} {i} {e} o h k = record { meets = further k (subst (λ (y : ℕ). Meeting p a (i + y) (i + z)) (sym (one_size o h)) over); left = one_next o h }
