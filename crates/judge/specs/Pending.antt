-- Pointers whose targets are still to come, held in a lent room: its length is a parameter of all that is said here. No promise names these.
-- Assumes nothing.
use Rattle.std.specs.Prelude.{◌≡◌, ℕ, ◌+◌, ◌*◌, ◌<◌, ◌≤◌, List, length, ◌≢◌, slice_index}
use Rattle.judge.specs.declared.pending.Hold.{Hold}
use Rattle.judge.specs.Table.{Site, size_at, aim_at, offset_at}
use Rattle.judge.specs.Step.{any, Points, Calm}

-- the first n of h never descend
pub record Sorted (h : List ℕ) (n : ℕ) : Type 0 where
  pub rise : (i j : ℕ) → i ≤ j → j < n → slice_index h i ≤ slice_index h j

-- ---- what is held
-- a pointer at byte t, of kind k, as one number
abbrev pub key_of : ℕ → ℕ → ℕ
key_of t k = t * any + k

-- e is of the pointer at byte q: its target and its kind
pub record EntryIs (a : List ℕ) (q e : ℕ) : Type 0 where
  pub value : e ≡ key_of (offset_at a q) (aim_at a q)
  pub small : aim_at a q < any

-- the pointer at byte q is held, from place j up to n
pub record Held (a h : List ℕ) (j n q : ℕ) : Type 0 where
  pub at : ℕ
  pub after : j ≤ at
  pub within : at < n
  pub entry : EntryIs a q (slice_index h at)

-- each pointer before byte e with a target from lo up to hi is held, from place j up to n: WHAT IS IN THE BUFFER
abbrev pub Holds : List ℕ → List ℕ → ℕ → ℕ → ℕ → ℕ → ℕ → Type 0
Holds a h j n e lo hi = (p : Site) → Points a e lo hi any p → Held a h j n p.at

-- the same, without those that are x
abbrev pub HoldsBut : List ℕ → List ℕ → ℕ → ℕ → ℕ → ℕ → ℕ → ℕ → Type 0
HoldsBut a h j n e lo hi x = (p : Site) → Points a e lo hi any p → (key_of (offset_at a p.at) (aim_at a p.at) ≢ x) → Held a h j n p.at

-- ---- the buffer is filled
-- v is put at place n of h₀, unless it is x: there are then r, or more than there is room for
pub record PutIs (h₀ h : List ℕ) (n v x r : ℕ) : Type 0 where
  pub same : length h ≡ length h₀
  pub more : n ≤ r
  pub old : (j : ℕ) → j < n → slice_index h j ≡ slice_index h₀ j
  pub new : (v ≢ x) → r ≤ length h₀ → (r ≡ n + 1) × (slice_index h n ≡ v)

-- r of them, or more than there is room for
pub record GatheredIs (a h : List ℕ) (room e lo hi x r : ℕ) : Type 0 where
  pub same : length h ≡ room
  pub all : r ≤ room → HoldsBut a h 0 r e lo hi x

abbrev pub nothing_held : ℕ → ℕ → Hold
nothing_held i e = record { next = 0; count = 0; edge = i; end = e; due = i }

abbrev pub no_hold : Hold
no_hold = nothing_held 0 0

-- before the record at byte i, with the pointers before byte e: those from there up to the edge are held, in order, without those that are x
pub record ReadyIs (a h : List ℕ) (room e i x : ℕ) (r : Hold) : Type 0 where
  pub same : length h ≡ room
  pub begun : r.next ≤ r.count
  pub few : r.count ≤ room
  pub end_is : r.end ≡ e
  pub sorted : Sorted h r.count
  pub all : HoldsBut a h r.next r.count e i r.edge x

-- ---- those that name a record go
-- from place j up to r, which is n at most, all are x
pub record SkippedIs (h : List ℕ) (j n x r : ℕ) : Type 0 where
  pub low : j ≤ r
  pub high : r ≤ n
  pub alike : (i : ℕ) → j ≤ i → i < r → slice_index h i ≡ x

-- ---- the buffer in the walk
-- THE BUFFER'S INVARIANT at byte i: of the pointers that were looked at, all that point from i up to the edge are held, in order
pub record HoldIs (a : List ℕ) (i : ℕ) (h : List ℕ) (k : Hold) : Type 0 where
  pub begun : k.next ≤ k.count
  pub few : k.count ≤ length h
  pub sorted : Sorted h k.count
  pub all : Holds a h k.next k.count k.end i k.edge

-- before the record at byte i, with the pointers before byte e: what is due, and the buffer is ready for the next record
pub record EasedIs (a : List ℕ) (room e i : ℕ) (h : List ℕ) (r : Hold) : Type 0 where
  pub same : length h ≡ room
  pub hold : HoldIs a (i + size_at a i) h r
  pub calm : Calm a e i r.due
