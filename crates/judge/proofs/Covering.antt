-- A finished product: where no fault is shown and the last byte has come, the records cover it. By what each row of the table would be.
-- Assumes nothing.
use Rattle.std.proofs.Common.{◌≡◌, ℕ, ◌+◌, ◌<◌, ◌≤◌, List, length, refl, ⊎_elim, arith}
use native.Mathlib.Decide.{dec_le}
use Rattle.mphr.specs.Table.{declared, Fine}
use Rattle.mphr.specs.Table as M
use Rattle.mphr.proofs.Export.{clean_fine}
use Rattle.judge.specs.Table.{Site, site, first, Sound, Leads, part_left, bad_size, main, at, too_long, Clean, Whole, Open}
use Rattle.judge.specs.Turning.{Begun}
use Rattle.judge.specs.Extent.{Complete, Covered}
use Rattle.judge.proofs.WayLaws.{counts, holds, sound?}

-- an arrival that shows no fault shows none of the main header
pub clean_main : {a : List ℕ} → Clean a → M.Clean a
clean_main c g h = c (main g) h

pub clean_begun : {a : List ℕ} → Clean a → 3307 ≤ length a → Begun a
clean_begun c h = record { clean = clean_main c; come = h }

module _ {a : List ℕ} (k : Complete a) where
  pub complete_fine : Fine a
  complete_fine = clean_fine k.header (clean_main k.clean)

  pub whole_come : length a ≡ declared a
  whole_come = omega (arith, k.come, holds (dec_le (length a) (declared a)) (λ n. k.clean (too_long complete_fine) (omega (arith, n))))

  -- at each site but the last there is a sound record
  pub head_here : {x : Site} → Leads a first x → x.at < declared a → x.at + 20 ≤ declared a
  head_here {x} w h = holds (dec_le (x.at + 20) (declared a)) (λ n. k.clean (at complete_fine x w (part_left h (omega (arith, n)))) (omega (arith, whole_come)))

  pub sound_here : {x : Site} → Leads a first x → x.at < declared a → Sound a x.at
  sound_here {x} w h = holds (sound? a x.at) (λ n. k.clean (at complete_fine x w (bad_size (head_here w h) n)) (omega (arith, whole_come, head_here w h)))

pub covered : {a : List ℕ} {c e : ℕ} → Open a c e → Complete a → Covered a c
covered {a} {c} {e} o k = ⊎_elim (λ z. absurd (omega (arith, k.header, z.0))) (λ w. go w.1) o.whole
  where
    go : Whole a c e → Covered a c
    go w = record {
      last = site c e w.prev w.tally;
      way = w.way;
      ends = omega (arith, w.come, whole_come k, holds (dec_le (declared a) e) (λ n. let s = sound_here k w.way (omega (arith, n)) in omega (arith, w.last s, s.most, whole_come k)));
      counted = refl;
    }

-- no record is whole just where the main header has not all come
pub none_yet : {a : List ℕ} {c e : ℕ} → Open a c e → c ≡ 0 → length a < 3307
none_yet o z = ⊎_elim (λ s. s.0) (λ w. absurd (omega (arith, z, counts w.1.way))) o.whole

pub some_come : {a : List ℕ} {c e : ℕ} → Open a c e → (c ≡ 0 → ⊥) → 3307 ≤ length a
some_come o n = ⊎_elim (λ s. absurd (n s.1)) (λ w. w.0) o.whole
