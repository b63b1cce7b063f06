-- LISTS OF ROWS, AND THE BEST OF THEM: a row is in a list of tests where its test holds, and there alone; the best of a list goes before each that is shown.
-- By induction on the list. Assumes nothing.
use Prim.Native.Nat.{ℕ, ◌≤◌, ◌<◌}
use native.Mathlib.Omega.{arith}
use mathlib.Core.Path.{◌≡◌, refl, sym}
use mathlib.Core.Bool.{Bool, true, false, cond, not, ◌&&◌, ◌||◌, true≢false}
use mathlib.Core.Logic.{◌⊎◌, inl, inr}
use mathlib.Core.List.Memᴰ.{append_cases as parted}
use mathlib.Core.List.Memᴰ.{append_left as left}
use mathlib.Core.List.Memᴰ.{append_right as right}
use mathlib.Core.List.Memᴰ.{head as top}
use mathlib.Core.List.Memᴰ.{not-nil as nil}
use mathlib.Core.List.Memᴰ.{tail as pop}
use mathlib.Core.List.{List, [], ◌∷◌, Memᴰ as In}
use mathlib.Core.Option.{Option, none, some}
use borrow.Author.Tests.{leb-true, leb-false, ltb-true, ltb-false, eqb-true, eqb-false}
use lib.Dec.{eqb, leb, ltb}
use Rattle.tables.specs.Table.{Row, Before}
use Rattle.arrivals.specs.Computed.{when, each, is_before, better, best}

-- ---- tests
pub both : (x y : Bool) → x && y ≡ true → (x ≡ true) × (y ≡ true)
both true y e = (refl, e)
both false y e = absurd (true≢false (sym e))

pub together : {x y : Bool} → x ≡ true → y ≡ true → x && y ≡ true
together p q = rw (p, q)

pub not_so : (x : Bool) → not x ≡ true → x ≡ false
not_so true e = absurd (true≢false (sym e))
not_so false e = refl

pub so_not : (x : Bool) → x ≡ false → not x ≡ true
so_not x e = rw e

pub one_of : (x y : Bool) → x || y ≡ true → (x ≡ true) ⊎ (y ≡ true)
one_of true y e = inl refl
one_of false y e = inr e

pub either : (x y : Bool) → (x ≡ true) ⊎ (y ≡ true) → x || y ≡ true
either x y (inl e) = rw e
either true y (inr e) = refl
either false y (inr e) = e

pub false_if : (x : Bool) → (x ≡ true → ⊥) → x ≡ false
false_if true n = absurd (n refl)
false_if false n = refl

-- ---- a row where a test holds
pub in_when : {b : Bool} {r : Row} → b ≡ true → In r (when b r)
in_when {b} {r} e = rw e (top refl)

pub when_in : (b : Bool) (r s : Row) → In s (when b r) → (b ≡ true) × (s ≡ r)
when_in true r s (top e) = (refl, e)
when_in true r s (pop m) = absurd (nil m)
when_in false r s m = absurd (nil m)

-- ---- the rows of each
pub in_each : {A : Type 0} (f : A → List Row) (l : List A) {x : A} {r : Row} → In x l → In r (f x) → In r (each f l)
in_each f [] m n = absurd (nil m)
in_each f (y ∷ l) {x} {r} (top e) n = left (each f l) (rw e at n)
in_each f (y ∷ l) (pop m) n = right (f y) (in_each f l m n)

pub record From {A : Type 0} (f : A → List Row) (l : List A) (r : Row) : Type 0 where
  pub one : A
  pub there : In one l
  pub row : In r (f one)

pub each_in : {A : Type 0} (f : A → List Row) (l : List A) (r : Row) → In r (each f l) → From f l r
each_in f [] r m = absurd (nil m)
each_in f (x ∷ l) r m = go (parted (f x) m) (each_in f l r)
  where
    go : In r (f x) ⊎ In r (each f l) → (In r (each f l) → From f l r) → From f (x ∷ l) r
    go (inl n) g = record { one = x; there = top refl; row = n }
    go (inr n) g = let y = g n in record { one = y.one; there = pop y.there; row = y.row }

-- ---- THE ORDER
is_before_lem : (r s : Row) → is_before r s ≡ true → Before r s
is_before_lem r s e = go (one_of (ltb r.shown s.shown) _ e)
  where
    last : (r.shown ≡ s.shown) → (ltb r.number s.number ≡ true) ⊎ (eqb r.number s.number && leb r.place s.place ≡ true) → Before r s
    last d (inl l) = let h = ltb-true r.number s.number l in record { sooner = omega arith; lower = λ e. omega arith; nearer = λ e q. absurd (omega (arith, q)) }
    last d (inr l) =
        let p = both (eqb r.number s.number) _ l in
        let q = eqb-true r.number s.number p.0 in
        record { sooner = omega arith; lower = λ e. omega arith; nearer = λ e f. leb-true r.place s.place p.1 }

    go : (ltb r.shown s.shown ≡ true) ⊎ (eqb r.shown s.shown && (ltb r.number s.number || (eqb r.number s.number && leb r.place s.place)) ≡ true) → Before r s
    go (inl l) = let h = ltb-true r.shown s.shown l in record { sooner = omega arith; lower = λ q. absurd (omega (arith, q)); nearer = λ q _. absurd (omega (arith, q)) }
    go (inr l) = let p = both (eqb r.shown s.shown) _ l in last (eqb-true r.shown s.shown p.0) (one_of (ltb r.number s.number) _ p.1)

not_before : (r s : Row) → is_before r s ≡ false → Before s r
not_before r s e = go (ltb r.shown s.shown) refl (eqb r.shown s.shown) refl (ltb r.number s.number) refl (eqb r.number s.number) refl (leb r.place s.place) refl e
  where
    go : (a : Bool) → ltb r.shown s.shown ≡ a → (b : Bool) → eqb r.shown s.shown ≡ b → (c : Bool) → ltb r.number s.number ≡ c → (d : Bool) → eqb r.number s.number ≡ d → (f : Bool) → leb r.place s.place ≡ f → a || (b && (c || (d && f))) ≡ false → Before s r
    go true p b q c t d u f v e = absurd (true≢false e)
    go false p false q c t d u f v e = let h = ltb-false r.shown s.shown p in let n = eqb-false r.shown s.shown q in record { sooner = h; lower = λ z. absurd (n (sym z)); nearer = λ z _. absurd (n (sym z)) }
    go false p true q true t d u f v e = absurd (true≢false e)
    go false p true q false t false u f v e =
        let h = ltb-false r.number s.number t in
        let n = eqb-false r.number s.number u in
        record { sooner = ltb-false r.shown s.shown p; lower = λ _. h; nearer = λ _ z. absurd (n (sym z)) }
    go false p true q false t true u true v e = absurd (true≢false e)
    go false p true q false t true u false v e =
        record { sooner = ltb-false r.shown s.shown p; lower = λ _. ltb-false r.number s.number t; nearer = λ _ _. omega (arith, leb-false r.place s.place v) }

before_self : (r : Row) → Before r r
before_self r = record { sooner = omega arith; lower = λ _. omega arith; nearer = λ _ _. omega arith }

before_on : {r s t : Row} → Before r s → Before s t → Before r t
before_on {r} {s} {t} p q = record {
  sooner = omega (arith, p.sooner, q.sooner);
  lower = λ e. let x : r.shown ≡ s.shown = omega (arith, p.sooner, q.sooner, e) in let y : s.shown ≡ t.shown = omega (arith, p.sooner, q.sooner, e) in omega (arith, p.lower x, q.lower y);
  nearer = λ e f. nearest e f;
}
  where
    nearest : r.shown ≡ t.shown → r.number ≡ t.number → r.place ≤ t.place
    nearest e f =
        let x : r.shown ≡ s.shown = omega (arith, p.sooner, q.sooner) in
        let y : s.shown ≡ t.shown = omega (arith, p.sooner, q.sooner) in
        let u : r.number ≡ s.number = omega (arith, p.lower x, q.lower y) in
        let v : s.number ≡ t.number = omega (arith, p.lower x, q.lower y) in
        omega (arith, p.nearer x u, q.nearer y v)

-- ---- THE BEST
-- none is shown; or r is shown, is in the list, and goes before each that is shown
abbrev pub BestIs : ℕ → List Row → Option Row → Type 0
BestIs n l none = (s : Row) → In s l → s.shown ≤ n → ⊥
BestIs n l (some r) = In r l × (r.shown ≤ n) × ((s : Row) → In s l → s.shown ≤ n → Before r s)

skipped : (n : ℕ) (r : Row) (l : List Row) (o : Option Row) → n < r.shown → BestIs n l o → BestIs n (r ∷ l) o
skipped n r l none h f = gone
  where
    gone : (s : Row) → In s (r ∷ l) → s.shown ≤ n → ⊥
    gone s (top e) k = omega (arith, rw e at k)
    gone s (pop m) k = f s m k
skipped n r l (some b) h (m, k, f) = (pop m, k, first)
  where
    first : (s : Row) → In s (r ∷ l) → s.shown ≤ n → Before b s
    first s (top e) k = absurd (omega (arith, rw e at k))
    first s (pop m) k = f s m k

added : (n : ℕ) (r : Row) (l : List Row) (o : Option Row) → r.shown ≤ n → BestIs n l o → BestIs n (r ∷ l) (better r o)
added n r l none h f = (top refl, h, first)
  where
    first : (s : Row) → In s (r ∷ l) → s.shown ≤ n → Before r s
    first s (top e) k = rw e (before_self r)
    first s (pop m) k = absurd (f s m k)
added n r l (some b) h (m, k, f) = go (is_before r b) refl
  where
    ours : Before r b → (s : Row) → In s (r ∷ l) → s.shown ≤ n → Before r s
    ours p s (top e) k = rw e (before_self r)
    ours p s (pop m) k = before_on p (f s m k)

    theirs : Before b r → (s : Row) → In s (r ∷ l) → s.shown ≤ n → Before b s
    theirs p s (top e) k = rw e p
    theirs p s (pop m) k = f s m k

    go : (x : Bool) → is_before r b ≡ x → BestIs n (r ∷ l) (cond x (some r) (some b))
    go true e = (top refl, h, ours (is_before_lem r b e))
    go false e = (pop m, k, theirs (not_before r b e))

pub best_is : (n : ℕ) (l : List Row) → BestIs n l (best n l)
best_is n [] = λ s m k. nil m
best_is n (r ∷ l) = go (leb r.shown n) refl (best_is n l)
  where
    go : (x : Bool) → leb r.shown n ≡ x → BestIs n l (best n l) → BestIs n (r ∷ l) (cond x (better r (best n l)) (best n l))
    go true e f = added n r l (best n l) (leb-true r.shown n e) f
    go false e f = skipped n r l (best n l) (leb-false r.shown n e) f
