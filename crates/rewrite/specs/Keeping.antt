-- The records that a cut keeps, by the bytes of the product: those of the classes 4 to 7, and the MDRs whose start lies in the window; and their
-- bytes, copied into a room. What a function between two steps asks and promises. Assumes nothing.
use Rattle.std.specs.Prelude.{ℕ, ◌+◌, ◌≤◌, ◌≡◌, Bool, true, cond, ◌&&◌, ◌||◌, List, [], eqb, leb, length, get_or, take, drop}
use Rattle.std.proofs.lemmas.List.Edits.{sets}
use Rattle.meter.specs.Time.{is_time, time_at}
use Rattle.parts.specs.Parts.{joined}
use Rattle.parts.specs.Only.{only}
use Rattle.parts.specs.Cut.{Window, within, is_kept}
use Rattle.parts.specs.Walk.{Walk}

-- the 20 bytes of a header stand from byte i on, and its times are right
pub record Lead (a : List ℕ) (i : ℕ) : Type 0 where
  pub come : i + 20 ≤ length a
  pub start : is_time (time_at a (i + 8)) ≡ true
  pub stop : is_time (time_at a (i + 14)) ≡ true

-- the record at byte i is kept (`is_kept`)
unfoldable pub kept_at : Window → List ℕ → ℕ → Bool
kept_at w a i = (leb 4 (get_or a i 0) && leb (get_or a i 0) 7) || (eqb (get_or a i 0) 8 && within w (time_at a (i + 8)))

-- the bytes that are taken of the record of `size` bytes at byte i: all, or none
abbrev pub text_at : Window → List ℕ → ℕ → ℕ → List ℕ
text_at w a i size = cond (kept_at w a i) (take size (drop i a)) []

-- and a room for them from byte p on
abbrev pub RoomFor : Window → List ℕ → ℕ → ℕ → List ℕ → ℕ → Type 0
RoomFor w a i size room p = Lead a i × (i + size ≤ length a) × (p + length (text_at w a i size) ≤ length room)

pub record PutsOne (w : Window) (a : List ℕ) (i size : ℕ) (room : List ℕ) (p r : ℕ) (exit : List ℕ) : Type 0 where
  pub next : r ≡ p + length (text_at w a i size)
  pub put : exit ≡ sets room p (text_at w a i size)

-- the bytes of the records that are kept, one after the other
abbrev pub kept_text : Window → List (List ℕ) → List ℕ
kept_text w rs = joined (only (is_kept w) rs)

-- a product, and a room for them from byte p on
pub record Roomy (w : Window) (a room : List ℕ) (p : ℕ) : Type 0 where
  pub records : List (List ℕ)
  pub walk : Walk a 3307 records
  pub fits : p + length (kept_text w records) ≤ length room

-- they stand in the room from byte p on, and r is the byte after them; the others are kept
pub record PutsKept (w : Window) (a room : List ℕ) (p r : ℕ) (exit : List ℕ) : Type 0 where
  pub next : (rs : List (List ℕ)) → Walk a 3307 rs → r ≡ p + length (kept_text w rs)
  pub put : (rs : List (List ℕ)) → Walk a 3307 rs → exit ≡ sets room p (kept_text w rs)
