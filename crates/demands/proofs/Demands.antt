-- THE MISSION'S THREE DEMANDS hold (specs/Demands.antt has them beside its sentences). Demand 1 by the numbers of the table's rows; demand 2 is that of
-- Accepted and Verdict; demand 3 by the laws of every table (crate `tables`) at the judge's, and by the records' numbers (Counting). Assumes nothing. The
-- other entries' refusals and lent rooms are fixed by their own promises (docs/PROMISES.md).
use Prim.Native.Nat.{ℕ, ◌≤◌, ◌<◌}
use native.Mathlib.Omega.{arith}
use mathlib.Core.Path.{◌≡◌, refl, sym, ◌∙◌}
use mathlib.Core.List.{List, [], ◌++◌}
use lib.ListN.{length, get_or}
use Rattle.calendar.specs.declared.Refusal.{Refusal}
use Rattle.tables.specs.Table.{Table, fault}
use Rattle.tables.specs.Table as T
use Rattle.tables.specs.Lawful.{Lawful}
use Rattle.tables.proofs.Laws.{given, not_clean, number_is, nothing_earlier, never_later}
use Rattle.judge.specs.Table.{table, Clean, Given, Judged}
use Rattle.judge.specs.declared.arrival.Arrival.{Arrival}
use Rattle.judge.specs.declared.arrival.Arrival.TheVariants.{Waiting, Refused}
use Rattle.finish.specs.Rows.{start_of}
use Rattle.finish.specs.Finish.{Refuses, Unfit, faulty, short, no_room, VerdictIs, FinishedIs}
use Rattle.std.specs.declared.result.Result.TheVariants.{Ok}
use Rattle.judge.proofs.WayLaws.{numbers}
use Rattle.judge.proofs.Local.{lawful}
use Rattle.judge.proofs.Covering.{whole_come}
use Rattle.demands.specs.Demands.{start, Grows, Comes, Demand1, Demand2, Demand3}
use Rattle.demands.proofs.Prefix.{unique_arrival, refusal_kept, refusal_final}
use Rattle.demands.proofs.Accepted.{accepted_meets, meets_accepted}
use Rattle.demands.proofs.Verdict.{verdict_product, product_verdict, final_verdict, final_extent}
use Rattle.demands.proofs.Counting.{counts_are, grows, ends_whole, indexed}

-- ---- DEMAND 1
given_number : {a : List ℕ} {n p : ℕ} → Given a n p → (1 ≤ n) × (n ≤ 16)
given_number g = let f = g.gives in omega (arith, number_is f.is, numbers f.fault)

refused_number : {a : List ℕ} {room n p : ℕ} → Refuses a room n p → (1 ≤ n) × (n ≤ 18)
refused_number (faulty g) = omega (arith, given_number g)
refused_number (short _ _) = omega arith
refused_number (no_room _ _ _) = omega arith

unfit_number : {a : List ℕ} {n p : ℕ} → Unfit a n p → (1 ≤ n) × (n ≤ 17)
unfit_number (faulty g) = omega (arith, given_number g)
unfit_number (short _ _) = omega arith

pub demand_1 : Demand1
demand_1 = record {
  arrival = λ a r g. given_number g;
  extent = λ a r g. given_number g;
  verdict = λ a r g. unfit_number g;
  finished = λ a rows rows' r f. let n = refused_number f.0 in (n.0, n.1, f.1);
}

-- ---- DEMAND 2
pub demand_2 : Demand2
demand_2 = record { verdict_only = verdict_product; verdict_every = product_verdict; only = λ a rows rows' c f. accepted_meets f; every = meets_accepted }

-- ---- DEMAND 3
-- an arrival that shows no fault is not refused
waits : {a : List ℕ} → Clean a → (s : Arrival) → Judged a s → (c : ℕ) × (e : ℕ) × (s ≡ Waiting c e)
waits c (Waiting n e) j = (n, e, refl)
waits c (Refused r) j = absurd (not_clean j c)

-- of every table whose judge says of an arrival that shows no fault that it waits, and of another the row that is given
pub comes :
    (X : Table) → Lawful X → (Says : List ℕ → Arrival → Type 0) → ((a : List ℕ) → T.Clean X a → (s : Arrival) → Says a s → (c : ℕ) × (e : ℕ) × (s ≡ Waiting c e))
    → ((a : List ℕ) (r : Refusal) → T.Given X a r.number r.place → (s : Arrival) → Says a s → s ≡ Refused r)
    → (a : List ℕ) (r : Refusal) → T.Given X a r.number r.place → Comes Says (T.Gives X) a r
comes X law Says clean one a r g = record {
  shown = g.shown;
  gives = g.gives;
  waits = λ b t e h. clean b (nothing_earlier X law b t (at-prefix e) h);
  refused = λ b t e h. one b r (given (never_later X law b t (at-prefix e) h));
}
  where
    at-prefix : {d : List ℕ} → d ≡ a → T.Gives X d (fault r.number r.place g.shown)
    at-prefix e = rw e g.gives

accepted_verdict : (a t : List ℕ) (c e n : ℕ) → Judged a (Waiting c e) → VerdictIs (a ++ t) (Ok n) → Grows a c e (a ++ t) n (length (a ++ t))
accepted_verdict a t c e n o (k, v) = rw (v.ends ∙ sym (whole_come k)) at (grows o t (ends_whole k v))

accepted :
    (a t : List ℕ) (rows rows' : List (List ℕ)) (c e n : ℕ) → Judged a (Waiting c e) → FinishedIs (a ++ t) rows (Ok n) rows'
    → Grows a c e (a ++ t) n (length (a ++ t)) × ((k : ℕ) → k < n → start_of (get_or rows' k []) ≡ start (a ++ t) k)
accepted a t rows rows' c e n o f = (accepted_verdict a t c e n o (f.complete, f.filled.covered), indexed f.complete f.filled)

pub demand_3 : Demand3
demand_3 = record {
  final = λ a t r g. refusal_kept a t g;
  final_verdict = λ a t r _ g. final_verdict a t r g;
  final_extent = λ a t r _ g. final_extent a t r g;
  final_finished = λ a t r _ g rows rows' s f. (refusal_final a t g rows s rows' f).0;
  counted = λ a c e o. counts_are o;
  waiting = λ a t c e n d o q. grows o t q;
  accepted_verdict = accepted_verdict;
  accepted = accepted;
  soonest = comes table lawful Judged (λ a c. waits {a = a} c) (λ a r g s j. unique_arrival a s (Refused r) j g);
}
