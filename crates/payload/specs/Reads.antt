-- WHICH BYTES THE TABLE OF FAULTS READS (request Eight, said once, of any arrival): those of the main header, the first 20 of each record that the walk comes
-- to, and the 27 of a pointer record. Payload is none of these. Assumes nothing.
use Rattle.std.specs.Prelude.{ℕ, ◌+◌, ◌≤◌, ◌<◌, ◌≡◌, List, get_or}
use Rattle.mphr.specs.Table.{declared}
use Rattle.judge.specs.Table.{Site, first, class_at, Sound, Leads}

-- what the table reads of a is the same in b
pub record ReadsAlike (a b : List ℕ) : Type 0 where
  pub main : (j : ℕ) → j < 3307 → get_or a j 0 ≡ get_or b j 0
  pub header : (x : Site) → Leads a first x → x.at + 20 ≤ declared a → (j : ℕ) → j < 20 → get_or a (x.at + j) 0 ≡ get_or b (x.at + j) 0
  pub ipr : (x : Site) → Leads a first x → Sound a x.at → class_at a x.at ≡ 3 → (j : ℕ) → j < 27 → get_or a (x.at + j) 0 ≡ get_or b (x.at + j) 0
