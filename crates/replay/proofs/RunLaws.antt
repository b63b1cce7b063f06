-- Parts fed one after the other: a watch that stands for the parts before part k, fed part k, stands for one more and says what is right of them; and the
-- loop of the replay by that. Assumes nothing.
use Prim.Native.Nat.{ℕ, suc, ◌+◌, ◌-◌, ◌*◌, ◌≤◌, ◌<◌}
use native.Mathlib.Decide.{ℕ_discrete}
use native.Mathlib.Numerals.{add-one}
use native.Mathlib.Omega.{arith}
use mathlib.Core.Path.{◌≡◌, refl, sym, ap, ◌∙◌, subst}
use mathlib.Core.Bool.{Bool, true, false, true≢false}
use mathlib.Core.List.{List, ◌++◌}
use borrow.Author.Tests.{eq-eqb, ne_eqb}
use lib.Dec.{eqb}
use lib.ListN.{length, take, drop}
use lib.Seq.{take-add}
use Rattle.judge.specs.declared.arrival.Arrival.{Arrival}
use Rattle.watch.specs.Watched.{Watched}
use Rattle.watch.specs.Stands.{StandsFor, FedIs, Fresh}
use Rattle.watch.specs.declared.Watch.{Watch}
use Rattle.replay.specs.Layout.{parts, length_at, Three, three_at, answer_at, three_of, sums}
use Rattle.replay.specs.Replay.{Answered, Agrees, Replayable, ReplayIs, none, first}
use Rattle.replay.specs.Steps.{Decides, Fits}
use Rattle.std.specs.declared.option.Option.TheVariants.{Some, None}
use Rattle.std.specs.declared.result.Result.TheVariants.{Ok}
use Rattle.replay.proofs.SumLaws.{sums_none, sums_suc, sums_le}
use Rattle.replay.proofs.FitLaws.{fits}

-- ---- a part fed
module _ {w w' : Watch} {p : List ℕ} {s : Arrival} (b : List ℕ) (at to : ℕ) (up : at ≤ to) (part : p ≡ take (to - at) (drop at b)) (stands : StandsFor w (take at b)) (fed : FedIs w p w' s) where
  joined : take at b ++ p ≡ take to b
  joined = let e : at + (to - at) ≡ to = omega arith in ap (λ (x : List ℕ). take at b ++ x) part ∙ sym (take-add at (to - at) b) ∙ ap (λ (n : ℕ). take n b) e

  pub stands_on : StandsFor w' (take to b)
  stands_on = subst (λ (x : List ℕ). StandsFor w' x) joined (fed.stands (take at b) stands)

  pub right_on : Watched (take to b) s
  right_on = subst (λ (x : List ℕ). Watched x s) joined (fed.says (take at b) stands)

-- the parts of lengths f before part k are fed
pub record Before (b : List ℕ) (f : ℕ → ℕ) (w : Watch) (at k : ℕ) : Type 0 where
  pub come : at ≡ sums f k
  pub stands : StandsFor w (take at b)

pub none_before : (b : List ℕ) (f : ℕ → ℕ) (w : Watch) → Fresh w → Before b f w 0 0
none_before b f w n = record { come = sym (sums_none f); stands = n }

module _ {b : List ℕ} {f : ℕ → ℕ} {w : Watch} {at k : ℕ} (h : Before b f w at k) where
  pub part_within : {n : ℕ} → k < n → sums f n ≡ length b → at + f k ≤ length b
  part_within {n} l e = omega (arith, h.come, sums_suc f k, sums_le f (suc k) n l)

  module _ {w' : Watch} {p : List ℕ} {s : Arrival} (to : ℕ) (far : to ≡ at + f k) (part : p ≡ take (to - at) (drop at b)) (fed : FedIs w p w' s) where
    ends : to ≡ sums f (suc k)
    ends = far ∙ ap (λ (n : ℕ). n + f k) h.come ∙ sym (sums_suc f k)

    pub one_before : Before b f w' to (k + 1)
    one_before = record { come = ends ∙ ap (sums f) (sym (add-one k)); stands = stands_on b at to (omega arith) part h.stands fed }

    pub answered : Answered b f k (three_of s)
    answered = record { arrival = s; right = subst (λ (n : ℕ). Watched (take n b) s) ends (right_on b at to (omega arith) part h.stands fed); says = refl }

    pub fits_it : Fits s
    fits_it = fits (take to b) s (right_on b at to (omega arith) part h.stands fed)

-- ---- the replay
-- the parts before part k are fed, and each answer is the record's
pub record Running (r b : List ℕ) (w : Watch) (at k : ℕ) : Type 0 where
  pub most : k ≤ parts r
  pub before : Before b (length_at r) w at k
  pub agreed : (j : ℕ) → j < k → Agrees r b j

pub starts : (r b : List ℕ) (w : Watch) → Fresh w → Running r b w 0 0
starts r b w n = record { most = omega arith; before = none_before b (length_at r) w n; agreed = λ j h. absurd (omega arith) }

-- what holds below k and at k holds below k + 1
pub below_next : {P : ℕ → Type 0} {k : ℕ} → ((j : ℕ) → j < k → P j) → P k → (j : ℕ) → j < k + 1 → P j
below_next {P} {k} f p j h = go (ℕ_discrete j k)
  where
    go : Dec (j ≡ k) → P j
    go (yes e) = subst P (sym e) p
    go (no d) = f j (omega (arith, d))

pub said_as : {b : List ℕ} {f : ℕ → ℕ} {k : ℕ} {s t : Three} → t ≡ s → Answered b f k s → Answered b f k t
said_as e a = record { arrival = a.arrival; right = a.right; says = e ∙ a.says }

module _ {r b : List ℕ} (fit : Replayable r b) {w : Watch} {at k n : ℕ} (counted : n ≡ parts r) (h : Running r b w at k) where
  pub answer_place : three_at r (2 + n + 3 * k) ≡ answer_at r k
  answer_place = ap (λ (m : ℕ). three_at r (2 + m + 3 * k)) counted

  pub ends_none : n ≤ k → ReplayIs r b (Ok None)
  ends_none l = none fit (λ j m. h.agreed j (omega arith))

  module _ {w' : Watch} {p : List ℕ} {s : Arrival} {is : Bool} (l : k < n) (to : ℕ) (far : to ≡ at + length_at r k) (part : p ≡ take (to - at) (drop at b)) (fed : FedIs w p w' s) (d : Decides (three_at r (2 + n + 3 * k)) (three_of s) is) where
    pub goes_on : is ≡ true → Running r b w' to (k + 1)
    goes_on e = record {
      most = omega arith;
      before = one_before h.before to far part fed;
      agreed = below_next {P = Agrees r b} h.agreed (said_as (sym answer_place ∙ d.right e) (answered h.before to far part fed));
    }

    pub ends_first : is ≡ false → ReplayIs r b (Ok (Some k))
    ends_first e = first fit k (omega arith) h.agreed (record { own = three_of s; answered = answered h.before to far part fed; other = λ q. d.wrong e (answer_place ∙ q) })

-- ---- the tests before it
pub eqb_yes : {m n : ℕ} → eqb m n ≡ true → m ≡ n
eqb_yes {m} {n} e = go (ℕ_discrete m n)
  where
    go : Dec (m ≡ n) → m ≡ n
    go (yes d) = d
    go (no d) = absurd (true≢false (sym e ∙ ne_eqb m n d))

pub eqb_no : {m n : ℕ} → eqb m n ≡ false → m ≡ n → ⊥
eqb_no {m} {n} e d = true≢false (sym (eq-eqb m n d) ∙ e)
