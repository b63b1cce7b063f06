-- WHAT HOLDS OF EVERY TABLE whose faults depend on no byte after those that show them: a refusal stays, nothing is shown earlier, it is given at
-- once, and one at most is given. Two arrivals that begin alike have the same faults there, so what is first of the one is first of the other.
-- Assumes nothing but that the table is lawful, which each shows of its own.
use Prim.Native.Nat.{ℕ, ◌≤◌, ◌<◌}
use native.Mathlib.Nat.{le_refl}
use native.Mathlib.Decide.{dec_le}
use native.Mathlib.Omega.{arith}
use mathlib.Core.Path.{◌≡◌, sym, ◌∙◌, ap}
use mathlib.Core.List.{List, ◌++◌}
use lib.ListN.{length, length-append, get_or-append}
use Rattle.tables.specs.Table.{Row, fault, Table, Before, Clean, Gives, Given}
use Rattle.tables.specs.Lawful.{Same, Lawful}

pub same_back : {a b : List ℕ} {k : ℕ} → Same a b k → Same b a k
same_back s = record { byte = λ j h. sym (s.byte j h) }

-- an arrival and a longer one
pub begins : (a t : List ℕ) → Same a (a ++ t) (length a)
begins a t = record { byte = λ j h. sym (get_or-append a t 0 j h) }

pub longer : (a t : List ℕ) → length a ≤ length (a ++ t)
longer a t = omega (arith, length-append a t)

-- the parts of equal rows
pub number_is : {f g : Row} → f ≡ g → f.number ≡ g.number
number_is e = ap (λ (r : Row). r.number) e

pub place_is : {f g : Row} → f ≡ g → f.place ≡ g.place
place_is e = ap (λ (r : Row). r.place) e

pub shown_is : {f g : Row} → f ≡ g → f.shown ≡ g.shown
shown_is e = ap (λ (r : Row). r.shown) e

pub same_row : {f g : Row} → f.number ≡ g.number → f.place ≡ g.place → f.shown ≡ g.shown → f ≡ g
same_row {f} {g} n p k = ap (λ (m : ℕ). fault m f.place f.shown) n ∙ ap (λ (q : ℕ). fault g.number q f.shown) p ∙ ap (fault g.number g.place) k

pub given : {T : Table} {a : List ℕ} {n p k : ℕ} → Gives T a (fault n p k) → Given T a n p
given {k = k} g = record { shown = k; gives = g }

pub given_at : {T : Table} {a : List ℕ} {n p q : ℕ} → p ≡ q → Given T a n p → Given T a n q
given_at e g = rw e at g

-- what is refused shows a fault
pub not_clean : {T : Table} {a : List ℕ} {n p : ℕ} → Given T a n p → Clean T a → ⊥
not_clean g c = let f = g.gives in c f.fault (omega (arith, shown_is f.is, f.seen))

module _ (T : Table) (lawful : Lawful T) where
  -- of two arrivals with the same first k bytes, which have all come, what these show and the one gives is given of the other
  pub given_on : {a b : List ℕ} {k : ℕ} {r : Row} → Same a b k → k ≤ length a → k ≤ length b → Gives T a r → r.shown ≤ k → Gives T b r
  given_on {a} {b} {k} {r} same la lb g h =
      let f = lawful.alike same g.fault (omega (arith, shown_is g.is)) in
      record { fault = f.0; is = sym f.1 ∙ g.is; seen = omega arith; best = λ u _. best u (dec_le (T.row u).shown k) }
    where
      best : (u : T.Fault b) → Dec ((T.row u).shown ≤ k) → Before (T.order r) (T.order (T.row u))
      best u (no l) = omega (arith, l, lawful.kept r, lawful.kept (T.row u))
      best u (yes l) =
          let v = lawful.alike (same_back same) u l in
          rw v.1 (g.best v.0 (omega (arith, shown_is v.1)))

  -- and what is clean shows none of the faults that the same bytes would show of the other
  pub clean_on : {a b : List ℕ} {k : ℕ} → Same a b k → k ≤ length b → Clean T b → (f : T.Fault a) → (T.row f).shown ≤ k → ⊥
  clean_on same l c f h = let g = lawful.alike same f h in c g.0 (omega (arith, shown_is g.1))

  module _ (a t : List ℕ) where
    -- a refusal of an arrival is the refusal of every longer one, shown where it was
    pub stays : {r : Row} → Gives T a r → Gives T (a ++ t) r
    stays g = given_on (begins a t) (le_refl (length a)) (longer a t) g g.seen

    pub stays_refused : {n p : ℕ} → Given T a n p → Given T (a ++ t) n p
    stays_refused g = record { shown = g.shown; gives = stays g.gives }

    -- an arrival of which a longer one shows no fault shows none
    pub stays_clean : Clean T (a ++ t) → Clean T a
    stays_clean c = clean_on (begins a t) (longer a t) c

    -- NOTHING EARLIER: an arrival that is shorter than where the given fault is shown shows no fault at all
    pub nothing_earlier : {r : Row} → Gives T (a ++ t) r → length a < r.shown → Clean T a
    nothing_earlier {r} g h f l =
        let u = lawful.alike (begins a t) f l in
        omega (arith, (g.best u.0 (omega (arith, shown_is u.1, longer a t))).sooner, lawful.kept r, lawful.kept (T.row u.0), shown_is u.1)

    -- NEVER LATER: as soon as it is shown it is given
    pub never_later : {r : Row} → Gives T (a ++ t) r → r.shown ≤ length a → Gives T a r
    never_later g h = given_on (same_back (begins a t)) (longer a t) (le_refl (length a)) g h

  -- ONE ROW AT MOST IS GIVEN
  ahead : {a : List ℕ} {r s : Row} → Gives T a r → Gives T a s → Before (T.order r) (T.order s)
  ahead g h = rw h.is at (g.best h.fault (omega (arith, shown_is h.is, h.seen)))

  pub unique : {a : List ℕ} {r s : Row} → Gives T a r → Gives T a s → r ≡ s
  unique {r = r} {s = s} g h =
      let u = ahead g h in
      let v = ahead h g in
      let e : (T.order r).shown ≡ (T.order s).shown = omega (arith, u.sooner, v.sooner) in
      let f : (T.order r).number ≡ (T.order s).number = omega (arith, u.lower e, v.lower (sym e)) in
      lawful.one r s (same_row f (omega (arith, u.nearer e f, v.nearer (sym e) (sym f))) e)

  pub unique_given : {a : List ℕ} {n p n' p' : ℕ} → Given T a n p → Given T a n' p' → (n ≡ n') × (p ≡ p')
  unique_given g h = let e = unique g.gives h.gives in (number_is e, place_is e)
