-- A run of records like the last one, in a part: it is one of all that was fed, and the walk stands after it as after each of its turns. By the
-- judge's laws of a run. Assumes nothing.
use Prim.Native.Nat.{ℕ, ◌+◌, ◌≤◌, ◌<◌}
use native.Mathlib.Omega.{arith}
use mathlib.Core.Path.{◌≡◌, sym, ◌∙◌}
use mathlib.Core.List.{List}
use lib.ListN.{length, get_or}
use lib.Seq.{get_or-set_same, get_or-set_other}
use Rattle.judge.specs.Table.{site, kind_at}
use Rattle.judge.specs.Step.{Facing}
use Rattle.judge.specs.Run.{LikeIs, Alike, none, more, some_more}
use Rattle.judge.proofs.RankLaws.{class_alike, group_alike, size_alike, timed_alike, class_most}
use Rattle.judge.proofs.RunLaws.{fold, none_more, one_further, like_sound, like_turn}
use Rattle.watch.specs.Stands.{On}
use Rattle.watch.specs.Turning.{Part}
use Rattle.watch.proofs.Leaves.{clear_soon}
use Rattle.watch.proofs.PendingLaws.{quiet, listed_pass}

-- ---- the part's run is one of what was fed
module _ {b p : List ℕ} {base : ℕ} (f : Part b p base) where
  facing : {i n : ℕ} → i + n ≤ length p → Facing p i b (base + i) n
  facing {i} l = record { byte = λ k h. let e : base + (i + k) ≡ base + i + k = omega arith in rw e at (f.fed (i + k) (omega arith)) }

  like_fed : {c z i : ℕ} → LikeIs p c z i → LikeIs b c z (base + i)
  like_fed {i = i} l =
      let y : Facing p i b (base + i) 20 = facing l.come in
      record {
        liking = l.liking;
        come = omega (arith, l.come, f.len);
        size_is = l.size_is ∙ size_alike y (omega arith);
        class_is = sym (class_alike y (omega arith)) ∙ l.class_is;
        follows = rw (class_alike y (omega arith)) at l.follows;
        group = rw (group_alike y (omega arith)) at l.group;
        timed = l.timed ∙ timed_alike y (omega arith);
      }

  pub run_fed : {c z due d most i n j : ℕ} → Alike p c z due d most i n j → Alike b c z (base + due) (base + d) most (base + i) n (base + j)
  run_fed none = none
  run_fed {z = z} (more {j = j} r l h u g k) =
      let e : base + j + z ≡ base + (j + z) = omega arith in
      rw (← e) (more (run_fed r) l (omega arith) (omega arith) (omega (arith, f.len)) (like_fed k))

-- ---- the walk stands after it
-- what the walk knows after m records of class c
abbrev pub After : List ℕ → ℕ → ℕ → List ℕ → ℕ → ℕ → List ℕ → List ℕ → List ℕ → List ℕ → ℕ → ℕ → Type 0
After b n c t d due ts ss gs ks m j = On b (site (n + m) j c (some_more t c m)) d due ts ss gs ks

pub on_run : {b : List ℕ} {n i c d due z most : ℕ} {t ts ss gs ks : List ℕ} → On b (site n i c t) d due ts ss gs ks → get_or t c 0 + most ≤ get_or ts c 0 → {m j : ℕ} → Alike b c z due d most i m j → After b n c t d due ts ss gs ks m j
on_run {b} {n} {i} {c} {d} {due} {z} {most} {t} {ts} {ss} {gs} {ks} o few = fold {P = After b n c t d due ts ss gs ks} (rw (none_more t c, same) o) step
  where
    inside : c < length t
    inside = omega (arith, o.turn.nine, (class_most c o.turn.known).1)

    three : (c ≡ 3 → ⊥) → (m : ℕ) → get_or (some_more t c m) 3 0 ≡ get_or t 3 0
    three o m = get_or-set_other t c 3 (get_or t c 0 + m) 0 (λ e. o (sym e))

    same : n + 0 ≡ n
    same = omega arith

    step : (m j : ℕ) → m < most → j + z ≤ due → j + z + 20 ≤ d → j + z ≤ length b → LikeIs b c z j → After b n c t d due ts ss gs ks m j → After b n c t d due ts ss gs ks (m + 1) (j + z)
    step m j l h u g k x =
        let less : get_or (some_more t c m) c 0 < get_or ts c 0 = omega (arith, few, get_or-set_same t c (get_or t c 0 + m) 0 inside) in
        let e = three k.liking.other m ∙ sym (three k.liking.other (m + 1)) in
        let y = clear_soon {ss = ss} {gs = gs} {ks = ks} {n = get_or (some_more t c m) 3 0} {due = due} {i = j} {to = j + z} {k = kind_at b j} (omega (arith, k.liking.least)) h in
        let i : n + (m + 1) ≡ n + m + 1 = omega arith in
        let s = like_sound x.turn x.d_is x.totals k less g u in
        record {
          turn = rw (i, ← one_further t c m inside) (like_turn x.turn x.d_is x.totals k less g u (quiet x.listed (y.inside x.soonest)) (quiet x.listed (y.other x.soonest)));
          d_is = x.d_is;
          totals = x.totals;
          few = omega (arith, e, x.few);
          listed = rw (← e, k.size_is) (listed_pass x.turn.way s x.listed (λ q. k.liking.other (sym k.class_is ∙ q)));
          soonest = rw (← e) (y.onward x.soonest);
        }
