-- READ EXACTLY WHERE THE BLOCKS TILE THE FILE, both ways: a file is answered with n blocks just where n blocks tile it, each segment in the grid with
-- one block at least. By induction on the segments. Assumes nothing.
use mathlib.Core.Path.{◌≡◌, refl, ap, ◌∙◌, subst}
use mathlib.Core.List.{List}
use Prim.Native.Nat.{ℕ, zero, suc, ◌+◌, ◌-◌, ◌≤◌}
use native.Mathlib.Omega.{arith}
use lib.IntN.{nat_abs}
use lib.ListN.{length}
use Rattle.calendar.specs.Said.{answer}
use Rattle.uth.specs.Layout.{segments, first_at, end_at}
use Rattle.uth.specs.Judge.{segment_at, judge_from, judge_of}
use Rattle.uth.specs.Tiles.{Segment, Run, none, more, Tiles}
use Rattle.uth.proofs.JudgeLaws.{answered, more_of, last_of, opened, whole, ends, steps, walks}

-- what is left of a walk that is answered
pub record Reaches (a : List ℕ) (m p n c : ℕ) : Type 0 where
  pub k : ℕ
  pub run : Run a m p k (length a)
  pub adds : n + k ≡ c

reaches : (a : List ℕ) (m p n c : ℕ) → p ≤ length a → judge_from a m p n ≡ answer c → Reaches a m p n c
reaches a zero p n c h e =
    let x = last_of a p n c e in
    let q : p ≡ length a = omega (arith, x.0) in
    record { k = 0; run = subst (λ (z : ℕ). Run a 0 p 0 z) q none; adds = omega (arith, x.1) }
reaches a (suc m) p n c h e =
    let x = more_of a m p n c e in
    let s = answered a p x.k x.first in
    let r = reaches a m (end_at p x.k) (n + x.k) c s.within x.rest in
    record { k = x.k + r.k; run = more s.segment r.run; adds = omega (arith, r.adds) }

pub read_tiles : (a : List ℕ) (n : ℕ) → judge_of a ≡ answer n → Tiles a n
read_tiles a n e =
    let o = opened a n e in
    let r = reaches a (nat_abs (segments a)) first_at 0 n o.headed o.walked in
    let q : r.k ≡ n = omega (arith, r.adds) in
    record { headed = o.headed; natural = o.natural; run = subst (λ (k : ℕ). Run a (nat_abs (segments a)) first_at k (length a)) q r.run }

-- a run goes up
rises : {a : List ℕ} {m p n e : ℕ} → Run a m p n e → p ≤ e
rises {p = p} none = omega arith
rises {p = p} (more {k = k} s r) = omega (arith, rises r)

segment_answered : (a : List ℕ) (p k : ℕ) → Segment a p k → end_at p k ≤ length a → segment_at a p ≡ answer k
segment_answered a p k s h =
    let c = s.counted in
    whole a p (omega arith) s.lined (omega arith) s.columned (omega arith) s.some (omega (arith, c)) ∙ ap answer c

walked : {a : List ℕ} {m p k e : ℕ} → Run a m p k e → e ≡ length a → (n : ℕ) → judge_from a m p n ≡ answer (n + k)
walked {a} {m} {p} none q n = let z : n ≡ n + 0 = omega arith in ends a 0 p n refl (omega arith) ∙ ap answer z
walked {a} {m} {p} {k} {e} (more {m = m'} {k = j} {n = i} s r) q n =
    let w : end_at p j ≤ length a = omega (arith, rises r) in
    let z : n + j + i ≡ n + (j + i) = omega arith in
    let y : suc m' - 1 ≡ m' = omega arith in
    steps a (suc m') p n (omega arith) j (segment_answered a p j s w) ∙ rw y (walked r q (n + j)) ∙ ap answer z

pub tiles_read : (a : List ℕ) (n : ℕ) → Tiles a n → judge_of a ≡ answer n
tiles_read a n t = let z : 0 + n ≡ n = omega arith in walks a t.headed t.natural ∙ walked t.run refl 0 ∙ ap answer z
