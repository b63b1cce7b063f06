-- What the walk's helpers find: of a header, of the pointers before it.
-- Assumes nothing.
use Rattle.std.specs.Prelude.{◌≡◌, ℕ, ◌+◌, ◌<◌, ◌≤◌, Bool, true, false, List, length, ◌≢◌, slice_index, slice_index_or}
use Rattle.record.specs.Header.{is_class}
use Rattle.record.specs.Times.{timed_at}
use Rattle.mphr.specs.Table.{declared, total, Fine}
use Rattle.judge.specs.declared.pointers.Pointers.{Pointers}
use Rattle.judge.specs.declared.pointers.Look.{Look}
use Rattle.judge.specs.declared.pointers.Look.TheVariants as K
use Rattle.judge.specs.declared.pointers.Settled.{Settled}
use Rattle.judge.specs.declared.pointers.Settled.TheVariants.{Inside, Other, Clear}
use Rattle.judge.specs.declared.pointers.Body.{Body}
use Rattle.judge.specs.declared.pointers.Body.TheVariants as B
use Rattle.judge.specs.Table.{Site, site, first, class_at, kind_at, size_at, aim_at, offset_at, Sound, Leads, Target, Unknown, Misplaced, Surplus}

-- the record at byte i is of 20 bytes, and 1 to 19 bytes of D are left after it
pub record Six (a : List ℕ) (i : ℕ) : Type 0 where
  pub short : size_at a i ≡ 20
  pub other : class_at a i ≡ 3 → ⊥
  pub more : i + 20 < declared a
  pub part : declared a < i + 40

-- the n bytes from byte o of h on are those from byte i of a on
pub record Facing (h : List ℕ) (o : ℕ) (a : List ℕ) (i n : ℕ) : Type 0 where
  pub byte : (k : ℕ) → k < n → slice_index h (o + k) ≡ slice_index a (i + k)

-- of a condition with the number n: where it holds r is at most n, and where r is n it holds
pub record Bears (P : Type 0) (n r : ℕ) : Type 0 where
  pub least : P → r ≤ n
  pub is : r ≡ n → P

-- r is the lowest of 6 to 11 whose condition holds, or 12
pub record Lowest (P6 P7 P8 P9 P10 P11 : Type 0) (r : ℕ) : Type 0 where
  pub low : 6 ≤ r
  pub high : r ≤ 12
  pub six : Bears P6 6 r
  pub seven : Bears P7 7 r
  pub eight : Bears P8 8 r
  pub nine : Bears P9 9 r
  pub ten : Bears P10 10 r
  pub eleven : Bears P11 11 r

-- the header at byte i, after a record of class p and with the tally t, is ranked r: the lowest number of the faults that it shows by itself, 6
-- where 1 to 19 bytes are left after its 20, or 12
abbrev pub Ranked : List ℕ → ℕ → ℕ → List ℕ → ℕ → Type 0
Ranked a p i t r = Lowest (Six a i) (Unknown a i) (Misplaced a p i) (Sound a i → ⊥) (timed_at a i ≡ false) (Surplus a t i) r

-- a size of 20 or more, not past what is left, and 27 for a pointer record
pub record Sized (c z left : ℕ) : Type 0 where
  pub least : 20 ≤ z
  pub most : z ≤ left
  pub ipr : c ≡ 3 → z ≡ 27

pub record SizedIs (c z left : ℕ) (r : Bool) : Type 0 where
  pub good : r ≡ true → Sized c z left
  pub bad : r ≡ false → Sized c z left → ⊥

-- a record of 20 bytes, and 1 to 19 are left after it
pub record SixLeft (c z left : ℕ) : Type 0 where
  pub short : z ≡ 20
  pub other : c ≡ 3 → ⊥
  pub more : 20 < left
  pub part : left < 40

pub record SixIn (c z left : ℕ) (r : Bool) : Type 0 where
  pub good : r ≡ true → SixLeft c z left
  pub bad : r ≡ false → SixLeft c z left → ⊥

-- class c is known, and its total is reached
pub record Excess (ts t : List ℕ) (c : ℕ) : Type 0 where
  pub known : is_class c ≡ true
  pub over : slice_index_or ts c 0 ≤ slice_index t c

-- the same rank by the header's own bytes, which stand at byte o of h, and by numbers: how many bytes of D are left from its start on, the
-- class before, the totals and the tally
abbrev pub RankIs : List ℕ → ℕ → ℕ → ℕ → List ℕ → List ℕ → ℕ → Type 0
RankIs h o left p ts t r =
    Lowest (SixLeft (class_at h o) (size_at h o) left) (Unknown h o) (Misplaced h p o) (Sized (class_at h o) (size_at h o) left → ⊥) (timed_at h o ≡ false) (Excess ts t (class_at h o)) r

-- what it asks
pub record Rankable (h ts tally : List ℕ) (o p : ℕ) : Type 0 where
  pub come : o + 20 ≤ length h
  pub known : is_class p ≡ true
  pub nine : length ts ≡ 9
  pub nine' : length tally ≡ 9

-- what the ranking asks: the header has come and is in the product, the record before it is of a known class
pub record Ranking (a ts tally : List ℕ) (d i p : ℕ) : Type 0 where
  pub d_is : d ≡ declared a
  pub room : i + 20 ≤ d
  pub come : i + 20 ≤ length a
  pub known : is_class p ≡ true
  pub totals : (c : ℕ) → c ≤ 8 → slice_index ts c ≡ total a c
  pub nine : length ts ≡ 9
  pub nine' : length tally ≡ 9

-- byte i of a is the start of a record, and has come
pub record Started (a : List ℕ) (i : ℕ) : Type 0 where
  pub count : ℕ
  pub prev : ℕ
  pub tally : List ℕ
  pub way : Leads a first (site count i prev tally)
  pub come : i ≤ length a

-- more than each number of three bytes
abbrev pub any : ℕ
any = 16777216

-- the record q is a pointer that starts before byte e and points at one of the bytes from lo up to hi, at another kind than k
pub record Points (a : List ℕ) (e lo hi k : ℕ) (q : Site) : Type 0 where
  pub way : Leads a first q
  pub sound : Sound a q.at
  pub ipr : class_at a q.at ≡ 3
  pub before : q.at < e
  pub above : lo ≤ offset_at a q.at
  pub below : offset_at a q.at < hi
  pub unlike : k < any → aim_at a q.at ≢ k

-- r is the place of the first such pointer, or 0 where there is none
pub record FirstPointer (a : List ℕ) (e lo hi k r : ℕ) : Type 0 where
  pub none : r ≡ 0 → (q : Site) → Points a e lo hi k q → ⊥
  pub some : (r ≢ 0) → (q : Site) × (q.at ≡ r) × Points a e lo hi k q
  pub lowest : (q : Site) → Points a e lo hi k q → r ≤ q.at

-- there is none
abbrev pub Quiet : List ℕ → ℕ → ℕ → ℕ → ℕ → Type 0
Quiet a e lo hi k = (q : Site) → Points a e lo hi k q → ⊥

-- no pointer before byte e tells against the record at byte i, or points past it, but before hi: those before hi are at i, and of its kind
pub record Calm (a : List ℕ) (e i hi : ℕ) : Type 0 where
  pub inside : Quiet a e (i + 1) hi any
  pub other : i < hi → Quiet a e i (i + 1) (kind_at a i)

-- the scan stands at q: the pointers that are looked for are from there on
pub record Scan (a : List ℕ) (e lo hi k q : ℕ) : Type 0 where
  pub count : ℕ
  pub prev : ℕ
  pub tally : List ℕ
  pub way : Leads a first (site count q prev tally)
  pub goal : Started a e
  pub ahead : Leads a (site count q prev tally) (site goal.count e goal.prev goal.tally)
  pub rest : (p : Site) → Points a e lo hi k p → Leads a (site count q prev tally) p

-- the record at byte q is one that is looked for
pub record Met (a : List ℕ) (q lo hi k : ℕ) : Type 0 where
  pub ipr : class_at a q ≡ 3
  pub above : lo ≤ offset_at a q
  pub below : offset_at a q < hi
  pub unlike : k < any → aim_at a q ≢ k

-- a pointer past hi ends a search where the targets never descend
pub record Beyond (a : List ℕ) (q hi : ℕ) (rising : Bool) : Type 0 where
  pub rises : rising ≡ true
  pub ipr : class_at a q ≡ 3
  pub over : hi ≤ offset_at a q

-- the record at byte q is a pointer that is not looked for
pub record Missed (a : List ℕ) (q lo hi k : ℕ) : Type 0 where
  pub ipr : class_at a q ≡ 3
  pub not_met : Met a q lo hi k → ⊥

abbrev pub LookIs : List ℕ → ℕ → ℕ → ℕ → ℕ → Bool → Look → Type 0
LookIs a q lo hi k rising K.Pass = Met a q lo hi k → ⊥
LookIs a q lo hi k rising K.Miss = Missed a q lo hi k
LookIs a q lo hi k rising K.Found = Met a q lo hi k
LookIs a q lo hi k rising K.Stop = Beyond a q hi rising

-- the record at byte q has come as far as it is looked at
pub record Looking (a : List ℕ) (q : ℕ) : Type 0 where
  pub come : q < length a
  pub ipr : class_at a q ≡ 3 → q + 27 ≤ length a

-- the targets of the pointers before byte e never descend
pub record Rising (a : List ℕ) (e : ℕ) : Type 0 where
  pub rise : {lo hi lo' hi' : ℕ} (p q : Site) → Points a e lo hi any p → Points a e lo' hi' any q → p.at ≤ q.at → offset_at a p.at ≤ offset_at a q.at

-- and none is past `last`
pub record Order (a : List ℕ) (e last : ℕ) : Type 0 where
  pub rising : Rising a e
  pub top : {lo hi : ℕ} (q : Site) → Points a e lo hi any q → offset_at a q.at ≤ last

-- what is known, where a record starts at byte i, of the pointers before it: all of them start before `end`; of those that point at i or further
-- on, but before `due`, none tells against the record at i or points past it; those that point at i or further on are from `from` on; and where
-- `rising` is true their targets never descend, and none is past `last`
pub record Kept (a : List ℕ) (i : ℕ) (w : Pointers) : Type 0 where
  pub within : w.end ≤ i
  pub ends : {lo hi k : ℕ} (q : Site) → Points a i lo hi k q → q.at < w.end
  pub cursor : Scan a w.end i (declared a) any w.from
  pub calm : Calm a w.end i w.due
  pub order : w.rising ≡ true → Order a w.end w.last

-- what a search asks: it is for targets from lo on, none of which is past D
pub record Search (a : List ℕ) (from end : ℕ) (rising : Bool) (lo hi : ℕ) : Type 0 where
  pub cursor : Scan a end lo hi any from
  pub order : rising ≡ true → Rising a end

-- what is asked of a record from byte i up to `to`
pub record Settling (a : List ℕ) (w : Pointers) (i to d : ℕ) : Type 0 where
  pub fine : Fine a
  pub kept : Kept a i w
  pub least : i + 20 ≤ to
  pub most : to ≤ d
  pub come : i + 20 ≤ length a
  pub d_is : d ≡ declared a

-- the record at byte q is a pointer at the record at byte i, and of its kind
pub record Names (a : List ℕ) (q i : ℕ) : Type 0 where
  pub ipr : class_at a q ≡ 3
  pub target : offset_at a q ≡ i
  pub kind : aim_at a q ≡ kind_at a i

-- the targets never descend, the pointer at the cursor names the record at byte i, and the record right after that pointer, at byte r, is a
-- pointer at `to` or further on
pub record NextIs (a : List ℕ) (w : Pointers) (i to r : ℕ) : Type 0 where
  pub rises : w.rising ≡ true
  pub names : Names a w.from i
  pub small : kind_at a i < any
  pub place : r ≡ w.from + 27
  pub before : r < w.end
  pub ipr : class_at a r ≡ 3
  pub over : to ≤ offset_at a r

-- the pointers, once those that point before `to` are done with
pub record Follows (a : List ℕ) (w : Pointers) (to : ℕ) (v : Pointers) : Type 0 where
  pub quiet : Quiet a w.end to v.due any
  pub cursor : Scan a w.end to (declared a) any v.from
  pub end_is : v.end ≡ w.end
  pub last_is : v.last ≡ w.last
  pub rising_is : v.rising ≡ w.rising

-- what the pointers before `end` say of a record from byte i up to `to`
pub record InsideIs (a : List ℕ) (w : Pointers) (i to u : ℕ) : Type 0 where
  pub some : u ≡ 0 → ⊥
  pub found : FirstPointer a w.end (i + 1) to any u

pub record OtherIs (a : List ℕ) (w : Pointers) (i to u : ℕ) : Type 0 where
  pub some : u ≡ 0 → ⊥
  pub small : kind_at a i < any
  pub none : Quiet a w.end (i + 1) to any
  pub found : FirstPointer a w.end i (i + 1) (kind_at a i) u

pub record ClearIs (a : List ℕ) (w : Pointers) (i to : ℕ) (v : Pointers) : Type 0 where
  pub inside : Quiet a w.end (i + 1) to any
  pub other : Quiet a w.end i (i + 1) (kind_at a i)
  pub follows : Follows a w to v

abbrev pub SettledIs : List ℕ → Pointers → ℕ → ℕ → Settled → Type 0
SettledIs a w i to (Inside u) = InsideIs a w i to u
SettledIs a w i to (Other u) = OtherIs a w i to u
SettledIs a w i to (Clear v) = ClearIs a w i to v

-- a record that ends at `to` has come, and not 1 to 19 bytes of D are left after it
pub record Ended (a : List ℕ) (to : ℕ) : Type 0 where
  pub come : to ≤ length a
  pub not_part : to < declared a → to + 20 ≤ declared a

-- what is known before the first pointer
abbrev pub no_pointers : ℕ → Pointers
no_pointers d = record { end = 3307; due = d; from = 3307; last = 0; rising = true }

-- v with one more pointer, which ends at `to`
pub record JoinedIs (v : Pointers) (to target : ℕ) (u : Pointers) : Type 0 where
  pub end_is : u.end ≡ to
  pub from_is : u.from ≡ v.from
  pub sooner : u.due ≤ v.due
  pub soon : u.due ≤ target
  pub last_is : u.last ≡ target
  pub still : u.rising ≡ true → (v.rising ≡ true) × (v.last ≤ target)

-- what the body of the record from byte i up to `to` comes to
pub record SixIs (a : List ℕ) (to : ℕ) : Type 0 where
  pub come : to ≤ length a
  pub more : to < declared a
  pub part : declared a < to + 20

pub record BadTargetIs (a : List ℕ) (i to : ℕ) : Type 0 where
  pub ended : Ended a to
  pub ipr : class_at a i ≡ 3
  pub bad : Target a i → ⊥

pub record EntireIs (a : List ℕ) (i to : ℕ) (v u : Pointers) : Type 0 where
  pub ended : Ended a to
  pub target : class_at a i ≡ 3 → Target a i
  pub pointer : class_at a i ≡ 3 → JoinedIs v to (offset_at a i) u
  pub other : (class_at a i ≢ 3) → u ≡ v

abbrev pub BodyIs : List ℕ → ℕ → ℕ → Pointers → Body → Type 0
BodyIs a i to v B.Part = length a < to
BodyIs a i to v B.Six = SixIs a to
BodyIs a i to v B.BadTarget = BadTargetIs a i to
BodyIs a i to v (B.Entire u) = EntireIs a i to v u

-- what the body asks
pub record Bodied (a : List ℕ) (i to d : ℕ) : Type 0 where
  pub d_is : d ≡ declared a
  pub small : d ≤ 2147483647
  pub come : i + 20 ≤ length a
  pub ipr : class_at a i ≡ 3 → to ≡ i + 27
  pub most : to ≤ d

pub record TargetIs (a : List ℕ) (i : ℕ) (r : Bool) : Type 0 where
  pub good : r ≡ true → Target a i
  pub bad : r ≡ false → Target a i → ⊥
