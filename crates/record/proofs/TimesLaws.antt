-- The times of a header by what meter's readers answer of them, and that they depend on its 20 bytes alone. By taking each answer apart: what
-- was answered is what stands there. Assumes nothing.
use mathlib.Core.Path.{◌≡◌, refl, sym, ap, ◌∙◌}
use mathlib.Core.Bool.{Bool, true, false, cond, not, ◌&&◌}
use mathlib.Core.List.{List}
use Prim.Native.Nat.{ℕ, ◌+◌, ◌≤◌, ◌<◌}
use native.Mathlib.Omega.{arith}
use borrow.Author.Tests.{le-leb, leb-true}
use lib.ListN.{length, get_or}
use Rattle.calendar.specs.Said.{Said, answer, refusal, refused, said}
use Rattle.calendar.specs.declared.Refusal.{Refusal}
use Rattle.meter.specs.Lent.{inside}
use Rattle.meter.specs.Time.{is_time, time_of, time_at, time_read_at, compared}
use Rattle.std.specs.declared.option.Option.{Option}
use Rattle.std.specs.declared.result.Result.TheVariants.{Ok, Err}
use Rattle.std.specs.declared.result.Result.{Result}
use Rattle.std.specs.declared.cmp.Ordering.{Ordering}
use Rattle.meter.specs.declared.time.Time.{Time}
use Rattle.meter.proofs.TimeLaws.{time_read}
use Rattle.meter.proofs.IntegerLaws.{be_at_same}
use Rattle.record.specs.Times.{is_after, timed_at, times_stand}

got : (b : Bool) (t u : Option Time) → answer u ≡ cond b (answer t) (refusal 21 0) → (b ≡ true) × (t ≡ u)
got true t u e = (refl, cc)
got false t u e = let z : ◌≡◌ {A = ℕ} 0 1 = cc in absurd (omega arith)

lost : (b : Bool) (t : Option Time) (r : Refusal) → refused r ≡ cond b (answer t) (refusal 21 0) → b ≡ false
lost true t r e = let z : ◌≡◌ {A = ℕ} 0 1 = cc in absurd (omega arith)
lost false t r e = refl

module _ (a : List ℕ) (at : ℕ) (h : at + 6 ≤ length a) where
  read_is : time_read_at a at ≡ cond (is_time (time_at a at)) (answer (time_at a at)) (refusal 21 0)
  read_is = time_read a at (time_at a at) (le-leb (at + 6) (length a) h) refl

  pub time_got : (u : Option Time) → answer u ≡ time_read_at a at → (is_time (time_at a at) ≡ true) × (time_at a at ≡ u)
  time_got u e = got (is_time (time_at a at)) (time_at a at) u (e ∙ read_is)

  pub time_lost : (r : Refusal) → refused r ≡ time_read_at a at → is_time (time_at a at) ≡ false
  time_lost r e = lost (is_time (time_at a at)) (time_at a at) r (e ∙ read_is)

module _ (a : List ℕ) (at : ℕ) (i : inside a at 20 ≡ true) where
  pub start_lost : is_time (time_at a (at + 8)) ≡ false → false ≡ times_stand a at
  unfolding timed_at
  start_lost e = rw (i, e)

  pub stop_lost : is_time (time_at a (at + 8)) ≡ true → is_time (time_at a (at + 14)) ≡ false → false ≡ times_stand a at
  unfolding timed_at
  stop_lost e f = rw (i, e, f)

  pub in_order : (t u : Option Time) (x : Said Ordering) → (is_time (time_at a (at + 8)) ≡ true) × (time_at a (at + 8) ≡ t) → (is_time (time_at a (at + 14)) ≡ true) × (time_at a (at + 14) ≡ u) → x ≡ compared t u → not (is_after x) ≡ times_stand a at
  unfolding timed_at
  in_order t u x p q e =
      ap (λ (y : Said Ordering). not (is_after y)) (e ∙ ap (compared t) (sym q.1) ∙ ap (λ (y : Option Time). compared y (time_at a (at + 14))) (sym p.1))
      ∙ sym (
      ap (λ (b : Bool). b && timed_at a at) i
      ∙ ap (λ (b : Bool). (b && is_time (time_at a (at + 14))) && not (is_after (compared (time_at a (at + 8)) (time_at a (at + 14))))) p.0
      ∙ ap (λ (b : Bool). b && not (is_after (compared (time_at a (at + 8)) (time_at a (at + 14))))) q.0
      )

-- the times lie in the header
start_in : (a : List ℕ) (at : ℕ) → inside a at 20 ≡ true → at + 8 + 6 ≤ length a
start_in a at i = omega (arith, leb-true (at + 20) (length a) i)

stop_in : (a : List ℕ) (at : ℕ) → inside a at 20 ≡ true → at + 14 + 6 ≤ length a
stop_in a at i = omega (arith, leb-true (at + 20) (length a) i)

-- the test by what the readers answer
abbrev pub stands_by : Result (Option Time) Refusal → Result (Option Time) Refusal → Bool
stands_by (Ok t) (Ok u) = not (is_after (compared t u))
stands_by (Ok t) (Err r) = false
stands_by (Err r) s = false

pub by_answers : (a : List ℕ) (at : ℕ) → inside a at 20 ≡ true → (r s : Result (Option Time) Refusal) → said r ≡ time_read_at a (at + 8) → said s ≡ time_read_at a (at + 14) → stands_by r s ≡ times_stand a at
by_answers a at i (Ok t) (Ok u) e f = in_order a at i t u _ (time_got a (at + 8) (start_in a at i) t e) (time_got a (at + 14) (stop_in a at i) u f) refl
by_answers a at i (Ok t) (Err r) e f = stop_lost a at i (time_got a (at + 8) (start_in a at i) t e).0 (time_lost a (at + 14) (stop_in a at i) r f)
by_answers a at i (Err r) s e f = start_lost a at i (time_lost a (at + 8) (start_in a at i) r e)

-- where the header's bytes are there, the test is of its times alone
pub stands : (a : List ℕ) (at : ℕ) (b : Bool) → at + 20 ≤ length a → b ≡ times_stand a at → b ≡ timed_at a at
stands a at b h e = e ∙ ap (λ (w : Bool). w && timed_at a at) (le-leb (at + 20) (length a) h)

-- ---- locality
time_same : (a b : List ℕ) (i : ℕ) → ((j : ℕ) → j < 6 → get_or a (i + j) 0 ≡ get_or b (i + j) 0) → time_at a i ≡ time_at b i
time_same a b i same = ap time_of (be_at_same a b i i 6 same)

pub timed_same : (a b : List ℕ) (at : ℕ) → ((j : ℕ) → j < at + 20 → get_or a j 0 ≡ get_or b j 0) → timed_at a at ≡ timed_at b at
unfolding timed_at
timed_same a b at same =
    ap (λ (t : Option Time). (is_time t && is_time (time_at a (at + 14))) && not (is_after (compared t (time_at a (at + 14))))) (time_same a b (at + 8) (λ j h. same (at + 8 + j) (omega arith)))
    ∙ ap (λ (t : Option Time). (is_time (time_at b (at + 8)) && is_time t) && not (is_after (compared (time_at b (at + 8)) t))) (time_same a b (at + 14) (λ j h. same (at + 14 + j) (omega arith)))
