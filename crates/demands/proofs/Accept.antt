-- A finished product of which no fault is shown and the last byte has come: its records cover it. By the walk itself, which goes on at each sound
-- record; what is not refused holds. Assumes nothing.
use Prim.Native.Nat.{ℕ, zero, suc, ◌+◌, ◌≤◌, ◌<◌}
use native.Mathlib.Decide.{dec_lt}
use native.Mathlib.Omega.{arith}
use mathlib.Core.Path.{◌≡◌, refl}
use mathlib.Core.List.{List}
use lib.ListN.{length}
use Rattle.mphr.specs.Table.{declared}
use Rattle.mphr.specs.Table as M
use Rattle.mphr.proofs.Export.{clean_whole, sized}
use Rattle.judge.specs.Table.{Site, first, Sound, Leads, here, Wrong, row_at, at}
use Rattle.judge.specs.Extent.{Complete, Covered}
use Rattle.judge.proofs.WayLaws.{snoc}
use Rattle.judge.proofs.Covering.{clean_main, complete_fine, sound_here}

module _ {a : List ℕ} (k : Complete a) where
  pub no_main : (g : M.Fault a) → ⊥
  no_main g = clean_whole k.header (clean_main k.clean) g

  -- nothing that would be shown is wrong anywhere
  pub not_wrong : {x : Site} → Leads a first x → (v : Wrong a x) → (row_at v).shown ≤ length a → ⊥
  not_wrong {x} w v h = k.clean (at (complete_fine k) x w v) h

-- the last site
abbrev Last : List ℕ → Type 0
Last a = (y : Site) × Leads a first y × (y.at ≡ declared a)

walk : {a : List ℕ} → Complete a → (n : ℕ) {x : Site} → Leads a first x → x.at ≤ declared a → declared a < x.at + n → Last a
walk k zero w h u = absurd (omega arith)
walk {a} k (suc n) {x} w h u = go (dec_lt x.at (declared a)) (λ s. walk k n (snoc w s) s.most (omega (arith, s.least)))
  where
    go : Dec (x.at < declared a) → (Sound a x.at → Last a) → Last a
    go (yes l) f = f (sound_here k w l)
    go (no l) f = (x, w, omega arith)

-- and some do, whoever counts them
pub complete_covered : {a : List ℕ} → Complete a → (c : ℕ) × Covered a c
complete_covered {a} k =
    let y = walk k (suc (declared a)) here (sized (complete_fine k)).0 (omega arith) in
    (y.0.count, record { last = y.0; way = y.1; ends = y.2; counted = refl })
