-- THE WATCH DOES NOT SEE PAYLOAD (02, request Eight: "Prove it for .. the watch of request One where it applies"): of two products that differ in payload,
-- with at most 64 pointers, it says the same after as many bytes, and so does the arrival judge, whatever the pointers. What has come of a product shows
-- no fault, and the walk over it is the same. Assumes nothing.
use Prim.Native.Nat.{ℕ, ◌≤◌}
use native.Mathlib.Omega.{arith}
use mathlib.Core.Path.{◌≡◌, refl, sym, subst}
use mathlib.Core.Bool.{cond}
use mathlib.Core.List.{List, [], ◌++◌}
use lib.Dec.{eqb}
use lib.ListN.{length}
use Rattle.tables.proofs.Laws.{begins, longer}
use Rattle.mphr.specs.Table.{total}
use Rattle.judge.specs.Table.{Judged}
use Rattle.judge.specs.declared.arrival.Arrival.{Arrival}
use Rattle.demands.specs.Product.{class, of_class}
use Rattle.demands.proofs.Accepted.{first_class}
use Rattle.demands.proofs.Prefix.{unique_arrival}
use Rattle.watch.specs.Watched.{Watched, Few}
use Rattle.watch.specs.Stands.{FedIs, Fresh, Feeds, joined}
use Rattle.watch.specs.declared.Watch.{Watch}
use Rattle.watch.proofs.TableLaws.{agrees, agrees_back}
use Rattle.watch.proofs.Laws.{unique_watched, stands_for_all, few_come}
use Rattle.payload.specs.Apart.{Apart}
use Rattle.payload.proofs.Twins.{Twins, turned, twins, twins_of, complete, same_total}
use Rattle.payload.proofs.Fields.{Come, judged_over}

-- what has come is the beginning
pub come_first : (p t : List ℕ) → Come p (p ++ t)
come_first p t = record { same = begins p t; within = longer p t }

-- a product of at most 64 pointers has no 65th, nor has what has come of it
few_of : {a b p : List ℕ} → Twins a b → total a 3 ≤ 64 → Come p a → Few p
few_of t h f = few_come (complete t) h f.same f.within

pointers : {a b : List ℕ} (t : Twins a b) → of_class a 3 t.one.list ≤ 64 → total a 3 ≤ 64
pointers {a} t h =
    let e = first_class a t.one.header.header in
    let k : ◌≡◌ {A = ℕ} (cond (eqb (class a 0) 3) 1 0) 0 = rw e refl in
    omega (arith, k, t.one.totals 3 (omega arith) (omega arith))

watched_over : {a b p q : List ℕ} (t : Twins a b) → of_class a 3 t.one.list ≤ 64 → Come p a → Come q b → length p ≡ length q → (r : Arrival) → Watched p r → Watched q r
watched_over {p = p} {q = q} t h f g e r w =
    let m = pointers t h in
    let fp = few_of t m f in
    let fq = few_of (turned t) (omega (arith, same_total t 3 (omega arith))) g in
    agrees q r fq (judged_over t f g e r (agrees_back p r fp w))

-- ---- THE LAWS, of the first bytes p of a and q of b, as many
module _ (p s q u : List ℕ) (x : Apart (p ++ s) (q ++ u)) (e : length p ≡ length q) where
  -- the arrival judge: the same answer at each length
  pub apart_arrival : (r : Arrival) → Judged p r → Judged q r
  apart_arrival = judged_over (twins x) (come_first p s) (come_first q u) e

  pub same_arrival : (r z : Arrival) → Judged p r → Judged q z → r ≡ z
  same_arrival r z f g = unique_arrival q r z (apart_arrival r f) g

  -- the watch's table, where the product has at most 64 pointers
  pub apart_watched : of_class (p ++ s) 3 x.product.list ≤ 64 → (r : Arrival) → Watched p r → Watched q r
  apart_watched h =
      let t = twins_of x in
      watched_over t.0 (subst (λ (l : List ℕ). of_class (p ++ s) 3 l ≤ 64) (sym t.1) h) (come_first p s) (come_first q u) e

-- THE WATCH, fed the one product's parts up to p and the other's up to q, as many bytes in all, says the same
pub apart_watch :
    {a b : List ℕ} (x : Apart a b) → of_class a 3 x.product.list ≤ 64
    → {w v w' : Watch} {ps : List (List ℕ)} {p : List ℕ} {r : Arrival} → Fresh w → Feeds w ps v → FedIs v p w' r → (s : List ℕ) → (joined ps ++ p) ++ s ≡ a
    → {w₂ v₂ w₂' : Watch} {qs : List (List ℕ)} {q : List ℕ} {z : Arrival} → Fresh w₂ → Feeds w₂ qs v₂ → FedIs v₂ q w₂' z → (u : List ℕ) → (joined qs ++ q) ++ u ≡ b
    → length (joined ps ++ p) ≡ length (joined qs ++ q) → r ≡ z
apart_watch {a} {b} x h {ps = ps} {p = p} {r = r} n k f s ea {qs = qs} {q = q} {z = z} n₂ k₂ f₂ u eb e =
    let t = twins_of x in
    let h' = subst (λ (l : List ℕ). of_class a 3 l ≤ 64) (sym t.1) h in
    let ca : Come (joined ps ++ p) a = subst (Come (joined ps ++ p)) ea (come_first (joined ps ++ p) s) in
    let cb : Come (joined qs ++ q) b = subst (Come (joined qs ++ q)) eb (come_first (joined qs ++ q) u) in
    unique_watched (joined qs ++ q) r z (watched_over t.0 h' ca cb e r (f.says (joined ps) (stands_for_all k [] n))) (f₂.says (joined qs) (stands_for_all k₂ [] n₂))
