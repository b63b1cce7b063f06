-- Stretches of records of one size: two that meet are one, and a run is one. By induction. Assumes nothing.
use Rattle.std.proofs.Common.{◌≡◌, ℕ, ◌+◌, List, sym, subst}
use Rattle.judge.specs.Table.{size_at, Judged}
use Rattle.judge.specs.Run.{Alike}
use Rattle.judge.specs.Stretch.{Even, over, further, no_stretch}
use Rattle.judge.specs.Profile as P
use Rattle.judge.specs.Turning.{WalkedIs}
use Rattle.judge.specs.declared.arrival.Arrival.{Arrival}
use Rattle.judge.specs.declared.arrival.Walked.{Walked}
use Rattle.judge.proofs.RunLaws.{fold}

pub joined : {a : List ℕ} {z i j k : ℕ} → Even a z i j → Even a z j k → Even a z i k
joined over n = n
joined (further e m) n = further e (joined m n)

pub run_even : {a : List ℕ} {c z due d most i n j : ℕ} → Alike a c z due d most i n j → Even a z i j
run_even {a} {c} {z} {due} {d} {most} {i} r = fold {P = λ (m k : ℕ). Even a z i k} over (λ m k l h u g q e. joined e (further (sym q.size_is) over)) r

-- a record, and the run of those like it
pub turn_even : {a : List ℕ} {z i to j : ℕ} → z ≡ size_at a i → to ≡ i + z → Even a z to j → Even a z i j
turn_even {a} {z} {i} {to} {j} e t r = further (sym e) (subst (λ (k : ℕ). Even a z k j) t r)

-- an answer that no walk gave
pub told_at_once :
    {p : List (List ℕ)} {a : List ℕ} {r : Arrival} {w : Walked} → (w.answer ≡ r) × (w.stretch ≡ no_stretch 0) × (w.met ≡ 3307) → Judged a r → WalkedIs p a w
told_at_once (e, f, m) j = record { said = rw e j; even = rw f over; meets = rw m P.over }
