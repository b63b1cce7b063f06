-- The laws of short CDS times: what 48 bits stand for, and that a time that is written reads back. By the division of the bits into
-- 16 and 32. Assumes nothing.
use Rattle.calendar.specs.Calendar.{leap_day}
use mathlib.Core.Path.{◌≡◌, refl, ap, ◌∙◌}
use mathlib.Core.Bool.{Bool, true, false, cond}
use mathlib.Core.List.{List}
use Prim.Native.Nat.{ℕ, ◌+◌, ◌*◌, ◌/◌, ◌%◌, ◌^◌, ◌≤◌, ◌<◌}
use native.Mathlib.Nat.{mod-eq_of_lt}
use native.Mathlib.Omega.{arith}
use borrow.Author.Tests.{eq-eqb, ne_eqb, leb-true, le-leb}
use lib.ListN.{length}
use mir.Val.{Val}
use denote.Laws.{Is}
use Rattle.calendar.specs.Said.{answer, refusal}
use Rattle.meter.specs.Lent.{inside}
use Rattle.meter.specs.Integer.{stored}
use Rattle.meter.specs.Time.{last_milli, is_milli, is_time, InDays, bits_of, time_of, time_at, time_read_at}
use Rattle.std.specs.declared.option.Option.TheVariants.{Some, None}
use Rattle.std.specs.declared.option.Option.{Option}
use Rattle.meter.specs.declared.time.Time.{Time}
use Rattle.meter.specs.Instant as T
use Rattle.meter.proofs.IntegerLaws.{back, stored_length}
use Rattle.meter.specs.contracts.time.Time as Typed
use Rattle.std.specs.contracts.option.Option as Opt

pub bits_none : (bits : ℕ) → bits ≡ 0xffff_ffff_ffff → time_of bits ≡ None
bits_none bits e = simp (eq-eqb bits 0xffff_ffff_ffff e)

pub bits_some : (bits : ℕ) → (bits ≡ 0xffff_ffff_ffff → ⊥) → time_of bits ≡ T.At (bits / 0x1_0000_0000) (bits % 0x1_0000_0000)
bits_some bits d = simp (ne_eqb bits 0xffff_ffff_ffff d)

-- what the reader says where the six bytes are there and stand for t
pub time_read : (a : List ℕ) (at : ℕ) (t : Option Time) → inside a at 6 ≡ true → time_at a at ≡ t → time_read_at a at ≡ cond (is_time t) (answer t) (refusal 21 0)
time_read a at t i e =
    ap (λ (b : Bool). cond b (cond (is_time (time_at a at)) (answer (time_at a at)) (refusal 21 0)) (refusal 20 (length a))) i
    ∙ ap (λ (u : Option Time). cond (is_time u) (answer u) (refusal 21 0)) e

-- the greatest millisecond is below the 32 bits that are all one, so a time that is defined never looks undefined
pub last_most : (day : ℕ) → last_milli day ≤ 86400999
unfolding last_milli
last_most day = go (leap_day day)
  where
    go : (b : Bool) → cond b 86400999 86399999 ≤ 86400999
    go true = omega arith
    go false = omega arith

-- each day goes on to 86,399,999 at least
pub every_day : (day : ℕ) → 86399999 ≤ last_milli day
unfolding last_milli
every_day day = go (leap_day day)
  where
    go : (b : Bool) → 86399999 ≤ cond b 86400999 86399999
    go true = omega arith
    go false = omega arith

-- "A day outside the five keeps its limit"
pub other_day : (day : ℕ) → leap_day day ≡ false → last_milli day ≡ 86399999
unfolding last_milli
other_day day e = rw e

pub milli_small : (day ms : ℕ) → is_milli day ms ≡ true → ms < 0xffff_ffff
milli_small day ms e = omega (arith, leb-true ms (last_milli day) e, last_most day)

-- each value of the machine's type has such a day

pub in_days : (t : Option Time) (vs : List Val) → Is (Opt.the_row Typed.the_row) t vs → InDays t
in_days None vs g = tt
in_days (Some t) vs g = omega (arith, g)

pub bits_back : (t : Option Time) → InDays t → is_time t ≡ true → (bits_of t < 256 ^ 6) × (time_of (bits_of t) ≡ t)
bits_back None d m = (omega arith, refl)
bits_back (Some t) d m =
    let s : t.milli < 0xffff_ffff = milli_small t.day t.milli m in
    let b = t.day * 0x1_0000_0000 + t.milli in
    let q : b / 0x1_0000_0000 ≡ t.day = omega arith in
    let r : b % 0x1_0000_0000 ≡ t.milli = omega arith in
    let n : b ≡ 0xffff_ffff_ffff → ⊥ = λ e. omega arith in
    (omega arith, bits_some b n ∙ ap (λ (k : ℕ). T.At k (b % 0x1_0000_0000)) q ∙ ap (T.At t.day) r)

-- READS BACK
pub time_back : (a : List ℕ) (t : Option Time) → InDays t → is_time t ≡ true → 6 ≤ length a → time_read_at (stored a 0 6 (bits_of t)) 0 ≡ answer t
time_back a t d m h =
    let b = bits_back t d m in
    let e : time_at (stored a 0 6 (bits_of t)) 0 ≡ t = ap time_of (back a 0 6 (bits_of t) h ∙ mod-eq_of_lt b.0) ∙ b.1 in
    let i : inside (stored a 0 6 (bits_of t)) 0 6 ≡ true = le-leb 6 (length (stored a 0 6 (bits_of t))) (omega (arith, stored_length a 0 6 (bits_of t))) in
    time_read (stored a 0 6 (bits_of t)) 0 t i e ∙ rw m
