-- IT IS RIGHT: of every list of numbers, what `arrival_of` computes is right to say of it, and nothing else is. By the rows of the list, which are the table's,
-- the best of them, and the walk where none is shown. Assumes nothing.
use Prim.Native.Nat.{ℕ, ◌+◌, ◌≤◌}
use native.Mathlib.Omega.{arith}
use mathlib.Core.Path.{◌≡◌, refl, sym}
use mathlib.Core.Bool.{Bool, true, false, cond}
use mathlib.Core.Logic.{◌⊎◌, inl, inr}
use mathlib.Core.List.Memᴰ.{append_cases as parted}
use mathlib.Core.List.Memᴰ.{append_left as left}
use mathlib.Core.List.Memᴰ.{append_right as right}
use mathlib.Core.List.Memᴰ.{head as top}
use mathlib.Core.List.Memᴰ.{not-nil as nil}
use mathlib.Core.List.Memᴰ.{tail as pop}
use mathlib.Core.List.{List, [], ◌∷◌, Memᴰ as In}
use mathlib.Core.Option.{Option, none, some}
use borrow.Author.Tests.{ltb-true, ltb-false}
use lib.Dec.{ltb}
use lib.ListN.{length}
use Rattle.tables.specs.Table.{Row, fault, Before}
use Rattle.mphr.specs.Table.{declared}
use Rattle.judge.specs.Table.{Site, first, Leads, here, Fault, main, at, too_long, row, shown, Judged}
use Rattle.judge.specs.declared.arrival.Arrival.{Arrival}
use Rattle.judge.specs.declared.arrival.Arrival.TheVariants as A
use Rattle.judge.proofs.WayLaws.{facts}
use Rattle.demands.proofs.Prefix.{unique_arrival}
use Rattle.arrivals.specs.Computed.{each, main_rows, all_over5, record_rows, sites_of, rows_of, best, last_site, said, waiting_at, arrival_of}
use Rattle.arrivals.proofs.Lists.{in_each, each_in, BestIs, best_is}
use Rattle.arrivals.proofs.Walks.{in_sites, sites_in, ended}
use Rattle.arrivals.proofs.Rows.{in_main, main_in, fine_is, fine_test}
use Rattle.arrivals.proofs.Records.{in_record, record_in}

-- the rows after the main header's
abbrev after : List ℕ → List Row
after a = fault 16 (declared a) (declared a + 1) ∷ each (record_rows a (sites_of a)) (sites_of a)

-- ---- EACH FAULT THAT IS SHOWN IS IN THE LIST
pub in_rows : (a : List ℕ) (f : Fault a) → shown f ≤ length a → In (row f) (rows_of a)
unfolding rows_of
in_rows a (main g) h = left (cond (all_over5 (main_rows a)) (after a) []) (in_main a g)
in_rows a (at fine x w v) h =
    let q = fine_test a fine in
    let k = (facts v).from in
    let there : In x (sites_of a) = in_sites (length a) w (omega arith) in
    let m : In (row (at fine x w v)) (cond (all_over5 (main_rows a)) (after a) []) = rw q (pop (in_each (record_rows a (sites_of a)) (sites_of a) there (in_record a (sites_of a) x (λ y z l. in_sites (length a) z (omega arith)) v))) in
    right (main_rows a) m
in_rows a (too_long fine) h =
    let q = fine_test a fine in
    let m : In (row (too_long fine)) (cond (all_over5 (main_rows a)) (after a) []) = rw q (top refl) in
    right (main_rows a) m

-- ---- EACH ROW OF THE LIST IS A FAULT'S
pub record FaultOf (a : List ℕ) (r : Row) : Type 0 where
  pub wrong : Fault a
  pub is : row wrong ≡ r

pub rows_in : (a : List ℕ) (r : Row) → In r (rows_of a) → FaultOf a r
unfolding rows_of
rows_in a r m = go (parted (main_rows a) m)
  where
    first-at : (q : Site) → In q (sites_of a) → Leads a first q
    first-at q n = sites_in (length a) n

    record_of : (b : Bool) → all_over5 (main_rows a) ≡ b → In r (cond b (after a) []) → FaultOf a r
    record_of true e (top q) = record { wrong = too_long (fine_is a e); is = sym q }
    record_of true e (pop n) =
        let y = each_in (record_rows a (sites_of a)) (sites_of a) r n in
        let w = record_in a (sites_of a) y.one first-at r y.row in
        record { wrong = at (fine_is a e) y.one (first-at y.one y.there) w.wrong; is = w.is }
    record_of false e n = absurd (nil n)

    go : In r (main_rows a) ⊎ In r (cond (all_over5 (main_rows a)) (after a) []) → FaultOf a r
    go (inl n) = let x = main_in a r n in record { wrong = main x.wrong; is = x.is }
    go (inr n) = record_of (all_over5 (main_rows a)) refl n

-- ---- IT IS RIGHT
waits : (a : List ℕ) → ((s : Row) → In s (rows_of a) → s.shown ≤ length a → ⊥) → Judged a (said a none)
waits a f = go (ltb (length a) 3307) refl
  where
    clean : (g : Fault a) → shown g ≤ length a → ⊥
    clean g h = f (row g) (in_rows a g h) h

    go : (b : Bool) → ltb (length a) 3307 ≡ b → Judged a (cond b (A.Waiting 0 0) (waiting_at (last_site (length a) a first)))
    go true e = record { clean = clean; whole = inl (ltb-true _ _ e, refl, refl) }
    go false e = let h = ltb-false (length a) 3307 e in record { clean = clean; whole = inr (h, ended (length a) a first here h (omega arith)) }

refuses : (a : List ℕ) (r : Row) → In r (rows_of a) → r.shown ≤ length a → ((s : Row) → In s (rows_of a) → s.shown ≤ length a → Before r s) → Judged a (said a (some r))
refuses a r m h f =
    let x = rows_in a r m in
    record { shown = r.shown; gives = record { fault = x.wrong; is = x.is; seen = h; best = λ g k. f (row g) (in_rows a g k) k } }

pub right_arrival : (a : List ℕ) → Judged a (arrival_of a)
unfolding arrival_of
right_arrival a = go (best (length a) (rows_of a)) (best_is (length a) (rows_of a))
  where
    go : (o : Option Row) → BestIs (length a) (rows_of a) o → Judged a (said a o)
    go none f = waits a f
    go (some r) (m, h, f) = refuses a r m h f

-- NOTHING ELSE IS: so an answer that is right is what is computed
pub computed : (a : List ℕ) (r : Arrival) → Judged a r → r ≡ arrival_of a
computed a r j = unique_arrival a r (arrival_of a) j (right_arrival a)
