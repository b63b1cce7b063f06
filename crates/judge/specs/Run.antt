-- Records like the last one, one after the other. No promise of a judge names these: they say what turns of the walk would have found.
-- Assumes nothing.
use Rattle.std.specs.Prelude.{◌≡◌, ℕ, ◌+◌, ◌<◌, ◌≤◌, true, List, length, slice_index, slice_set}
use Rattle.record.specs.Header.{is_class, is_group}
use Rattle.record.specs.Follow.{may_follow}
use Rattle.record.specs.Times.{timed_at}
use Rattle.judge.specs.declared.run.Run.{Run}
use Rattle.judge.specs.Table.{class_at, size_at}

-- what records of class c and of z bytes are looked for: no pointer records, and of a header at least
pub record Liking (c z : ℕ) : Type 0 where
  pub known : is_class c ≡ true
  pub other : c ≡ 3 → ⊥
  pub least : 20 ≤ z

-- the record at byte i is like one of class c and of z bytes
pub record LikeIs (a : List ℕ) (c z i : ℕ) : Type 0 where
  pub liking : Liking c z
  pub come : i + 20 ≤ length a
  pub size_is : z ≡ size_at a i
  pub class_is : class_at a i ≡ c
  pub follows : may_follow c (class_at a i) ≡ true
  pub group : is_group (slice_index a (i + 1)) ≡ true
  pub timed : true ≡ timed_at a i

-- from byte i up to byte j are n such records, at most `most` of them: all have come, no pointer is due before the end of each, and 20 bytes of d
-- are left there
pub data Alike (a : List ℕ) (c z due d most i : ℕ) : ℕ → ℕ → Type 0 where
  none : Alike a c z due d most i 0 i
  more :
      {n j : ℕ} → Alike a c z due d most i n j → n < most → j + z ≤ due → j + z + 20 ≤ d → j + z ≤ length a → LikeIs a c z j
      → Alike a c z due d most i (n + 1) (j + z)

abbrev pub RunIs : List ℕ → ℕ → ℕ → ℕ → ℕ → ℕ → ℕ → Run → Type 0
RunIs a c z due d most i r = Alike a c z due d most i r.count r.end

-- the tally with n more of class c
abbrev pub some_more : List ℕ → ℕ → ℕ → List ℕ
some_more t c n = slice_set t c (slice_index t c + n)
