-- WINDOWS THAT PART A WINDOW (02, request Three: "only the MDRs whose start lies in a window (both ends included ..)"): each begins a millisecond after the one
-- before it ends. Assumes nothing.
use Rattle.std.specs.Prelude.{ℕ, suc, ◌+◌, ◌<◌, ◌≡◌, true, cond, List, [], ◌∷◌, length}
use Rattle.meter.specs.Time.{last_milli}
use Rattle.std.specs.declared.option.Option.TheVariants.{Some}
use Rattle.std.specs.declared.option.Option.{Option}
use Rattle.meter.specs.declared.time.Time.{Time}
use Rattle.meter.specs.Instant as T
use Rattle.parts.specs.Only.{only}
use Rattle.parts.specs.Cut.{Window, window, is_window, within, is_chosen}

-- the second of two times is a millisecond after the first
pub data Next : Option Time → Option Time → Type 0 where
  in_day : {d m : ℕ} → m < last_milli d → Next (T.At d m) (T.At d (suc m))
  next_day : {d m : ℕ} → m ≡ last_milli d → Next (T.At d m) (T.At (suc d) 0)

-- the windows part the window from t to x: the first begins at t, each other a millisecond after the one before it ends, and the last ends at x
pub data Parted : Option Time → Option Time → List Window → Type 0 where
  last : {t x : Option Time} → is_window (window t x) ≡ true → Parted t x (window t x ∷ [])
  more : {t u v x : Option Time} {ws : List Window} → is_window (window t u) ≡ true → Next u v → Parted v x ws → Parted t x (window t u ∷ ws)

-- in how many of the windows a time lies, and how many of them choose an MDR
abbrev pub holding : List Window → Option Time → ℕ
holding [] t = 0
holding (w ∷ ws) t = cond (within w t) 1 0 + holding ws t

abbrev pub choosing : List Window → List ℕ → ℕ
choosing [] r = 0
choosing (w ∷ ws) r = cond (is_chosen w r) 1 0 + choosing ws r

-- how many MDRs the windows choose in all, of the records rs
abbrev pub chosen_in : List Window → List (List ℕ) → ℕ
chosen_in [] rs = 0
chosen_in (w ∷ ws) rs = length (only (is_chosen w) rs) + chosen_in ws rs

-- the first and the last time that six bytes can have
abbrev pub line_start : Option Time
line_start = T.At 0 0

abbrev pub line_end : Option Time
line_end = T.At 65535 (last_milli 65535)
