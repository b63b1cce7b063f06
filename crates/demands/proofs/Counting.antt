-- The records of an arrival by number: those that the judge counts are those of `start`, and a longer arrival has them where they were. By induction
-- along the walk, each of whose sites is the start of the record of its count. Assumes nothing.
use Prim.Native.Nat.{ℕ, zero, suc, ◌+◌, ◌≤◌, ◌<◌}
use native.Mathlib.Decide.{ℕ_discrete}
use native.Mathlib.Numerals.{add-one}
use native.Mathlib.Omega.{arith}
use mathlib.Core.Path.{◌≡◌, refl, sym, ap, ◌∙◌}
use mathlib.Core.Bool.{◌&&◌, true}
use mathlib.Core.Logic.{inl, inr, ⊎_elim}
use mathlib.Core.List.{List, [], ◌∷◌, ◌++◌}
use borrow.Author.Tests.{eqb-true}
use lib.Dec.{eqb}
use lib.ListN.{length, get_or}
use Rattle.meter.specs.Integer.{be_at}
use Rattle.meter.proofs.GeneralRuns.{and_true}
use Rattle.tables.proofs.Laws.{begins, longer}
use Rattle.tables.proofs.Passing.{passes}
use Rattle.mphr.specs.Table.{headed}
use Rattle.mphr.specs.Table as M
use Rattle.judge.specs.Table.{Site, site, first, next, Leads, here, on, main, Clean, Open}
use Rattle.judge.specs.Extent.{Complete, Covered}
use Rattle.finish.specs.Rows.{start_of}
use Rattle.finish.specs.Finish.{starts, Filled}
use Rattle.finish.proofs.Filling.{starts_count}
use Rattle.finish.proofs.Places.{row_there}
use Rattle.finish.proofs.Starts.{start_of_row}
use Rattle.judge.proofs.WayLaws.{leads_le}
use Rattle.judge.proofs.Local.{be_on, OpenAt, no_fewer}
use Rattle.judge.proofs.Covering.{whole_come}
use Rattle.demands.specs.Product.{size}
use Rattle.demands.specs.Demands.{start, Counted, Stays, Grows}

-- ---- the main header
pub main_size : (a : List ℕ) → headed a ≡ true → size a 0 ≡ 3307
unfolding headed
main_size a e = eqb-true (be_at a 4 4) 3307 (and_true ((eqb (get_or a 0 0) 1) && (eqb (get_or a 1 0) 0 && eqb (get_or a 2 0) 0)) (eqb (be_at a 4 4) 3307) e).1

clean_size : {a : List ℕ} → Clean a → 3307 ≤ length a → size a 0 ≡ 3307
clean_size {a} c h = main_size a (passes (headed a) (λ e. c (main (M.bad_header e)) (omega arith)))

start_first : (a : List ℕ) → size a 0 ≡ 3307 → start a first.count ≡ first.at
unfolding start
start_first a e = omega (arith, e)

-- ---- along the walk
start_next : (a : List ℕ) (n i : ℕ) → start a n ≡ i → start a (n + 1) ≡ i + size a i
unfolding start
start_next a n i e = rw (add-one n, e) refl

start_at : {a : List ℕ} {x y : Site} → Leads a x y → start a x.count ≡ x.at → start a y.count ≡ y.at
start_at here e = e
start_at {a} {x} (on s l) e = start_at l (start_next a x.count x.at e)

-- record k is on the way, has its header, and ends no later than the way
pub record Nth (a : List ℕ) (x y : Site) (k : ℕ) : Type 0 where
  pub spot : Site
  pub way : Leads a x spot
  pub numbered : spot.count ≡ k
  pub begins : spot.at ≡ start a k
  pub least : 20 ≤ size a (start a k)
  pub within : start a k + size a (start a k) ≤ y.at

nth : {a : List ℕ} {x y : Site} → Leads a x y → start a x.count ≡ x.at → (k : ℕ) → x.count ≤ k → k < y.count → Nth a x y k
nth here e k l u = absurd (omega arith)
nth {a} {x} {y} (on s m) e k l u = go (ℕ_discrete x.count k) (λ h. nth m (start_next a x.count x.at e) k h u)
  where
    go : Dec (x.count ≡ k) → (x.count + 1 ≤ k → Nth a (next a x) y k) → Nth a x y k
    go (yes d) f = let b : start a k ≡ x.at = ap (start a) (sym d) ∙ e in record { spot = x; way = here; numbered = d; begins = sym b; least = rw b s.least; within = rw b (leads_le m) }
    go (no d) f = let n = f (omega (arith, d)) in record { spot = n.spot; way = on s n.way; numbered = n.numbered; begins = n.begins; least = n.least; within = n.within }

starts_at : {a : List ℕ} {x y : Site} (l : Leads a x y) → start a x.count ≡ x.at → (j : ℕ) → j < length (starts l) → get_or (starts l) j 0 ≡ start a (x.count + j)
starts_at here e j h = absurd (omega arith)
starts_at {a} {x} (on s l) e zero h = sym e ∙ ap (start a) (omega arith)
starts_at {a} {x} (on s l) e (suc j) h = starts_at l (start_next a x.count x.at e) j (omega arith) ∙ ap (start a) (omega arith)

-- ---- WHAT IS COUNTED
-- a record after the main header
pub later : {a : List ℕ} {c e : ℕ} → Open a c e → (k : ℕ) → 1 ≤ k → k < c → (y : Site) × Nth a first y k × (y.at ≡ e)
later {a} {c} {e} o k l u = go o.whole
  where
    go : OpenAt a c e → (y : Site) × Nth a first y k × (y.at ≡ e)
    go (inl z) = absurd (omega arith)
    go (inr (h, w)) = (site c e w.prev w.tally, nth w.way (start_first a (clean_size o.clean h)) k l u, refl)

module _ {a : List ℕ} {c e : ℕ} (o : Open a c e) where
  whole : (k : ℕ) → k < c → (20 ≤ size a (start a k)) × (start a k + size a (start a k) ≤ e)
  unfolding start
  whole zero h = ⊎_elim (λ z. absurd (omega arith)) (λ w. omega (arith, clean_size o.clean w.0, leads_le w.1.way)) o.whole
  whole (suc k) h = let n = later o (suc k) (omega arith) h in omega (arith, n.1.least, n.1.within, n.2)

  pub counts_are : Counted a c e
  unfolding start
  counts_are = go o.whole
    where
      go : OpenAt a c e → Counted a c e
      go (inl z) = record { main = λ h. absurd (omega arith); within = λ k h. (whole k h).1; end = rw z.1 (sym z.2); come = omega arith }
      go (inr (h, w)) = let z = clean_size o.clean h in record { main = λ _. z; within = λ k h. (whole k h).1; end = start_at w.way (start_first a z); come = w.come }

  module _ (t : List ℕ) where
    same_size : (k : ℕ) → k < c → size (a ++ t) (start a k) ≡ size a (start a k)
    same_size k h = sym (be_on (begins a t) (start a k + 4) 4 (omega (arith, whole k h, counts_are.come)))

    same_start : (k : ℕ) → k ≤ c → start (a ++ t) k ≡ start a k
    unfolding start
    same_start zero h = refl
    same_start (suc k) h = rw (same_start k (omega arith), same_size k (omega arith)) refl

    -- it stays
    pub stays : (k : ℕ) → k < c → Stays a (a ++ t) k
    stays k h = let e = same_start k (omega arith) in record { place = e; sized = rw e (same_size k h) }

    pub grows : {n d : ℕ} → Open (a ++ t) n d → Grows a c e (a ++ t) n d
    grows q = let g = no_fewer (begins a t) (longer a t) o q in record { count = g.0; end = g.1; each = stays }

-- ---- WHAT IS ACCEPTED, as an arrival: its last record ends at its last byte
pub ends_whole : {a : List ℕ} {c : ℕ} → Complete a → (v : Covered a c) → Open a c v.last.at
ends_whole {a} {c} k v = record {
  clean = k.clean;
  whole = inr (
    k.header,
    record {
      prev = v.last.prev;
      tally = v.last.tally;
      way = rw v.counted at v.way;
      come = omega (arith, v.ends, whole_come k);
      last = λ s. absurd (omega (arith, s.room, v.ends));
    },
  );
}

-- and its rows have the starts of its records
pub indexed : {a : List ℕ} {rows rows' : List (List ℕ)} {c : ℕ} → Complete a → Filled a rows c rows' → (k : ℕ) → k < c → start_of (get_or rows' k []) ≡ start a k
unfolding start
indexed {a} {c = c} q f k h = ap start_of (row_there f k h) ∙ start_of_row a (0 ∷ l) k (omega (arith, long)) ∙ go k refl
  where
    l : List ℕ
    l = starts f.covered.way

    long : 1 + length l ≡ c
    long = starts_count f.covered.way ∙ f.covered.counted

    go : (j : ℕ) → k ≡ j → get_or (0 ∷ l) k 0 ≡ start a k
    go zero e = rw e refl
    go (suc j) e =
        let d : 1 + j ≡ suc j = omega arith in
        rw e (starts_at f.covered.way (start_first a (clean_size q.clean q.header)) j (omega (arith, long)) ∙ ap (start a) d)
