-- Records of one size, one after the other. No answer depends on where they are: by them the finished judge knows starts without reading sizes
-- again. Assumes nothing.
use Rattle.std.specs.Prelude.{◌≡◌, ℕ, ◌+◌, ◌≤◌, List}
use Rattle.judge.specs.Table.{size_at}
use Rattle.judge.specs.declared.stretch.Stretch.{Stretch}
use Rattle.judge.specs.declared.stretch.Notes.{Notes}

-- from byte i up to byte j the sizes are z, one after the other
pub data Even (a : List ℕ) (z : ℕ) : ℕ → ℕ → Type 0 where
  over : {i : ℕ} → Even a z i i
  further : {i j : ℕ} → size_at a i ≡ z → Even a z (i + z) j → Even a z i j

abbrev pub StretchIs : List ℕ → Stretch → Type 0
StretchIs a r = Even a r.size r.from r.end

abbrev pub no_stretch : ℕ → Stretch
no_stretch i = record { from = i; size = 0; end = i; count = 0 }

-- the stretch `last` with those of size z from byte i up to byte j; or these alone
pub record GrownIs (last : Stretch) (i z j n : ℕ) (r : Stretch) : Type 0 where
  pub even : (a : List ℕ) → StretchIs a last → Even a z i j → StretchIs a r
  pub counted : r.count ≤ last.count + n

-- two stretches, noted
pub record NotesAre (a : List ℕ) (n : Notes) : Type 0 where
  pub last : StretchIs a n.last
  pub longest : StretchIs a n.longest

abbrev pub no_notes : ℕ → Notes
no_notes i = record { last = no_stretch i; longest = no_stretch i }

-- and with those of size z from byte i up to byte j
pub record NotedIs (notes : Notes) (i z j n : ℕ) (r : Notes) : Type 0 where
  pub even : (a : List ℕ) → NotesAre a notes → Even a z i j → NotesAre a r
  pub counted : r.last.count ≤ notes.last.count + n
