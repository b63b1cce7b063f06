-- FROM THE WRITERS: bytes that were put together of what the writers wrote, each part by its writer's promise, into whatever room. They are the product that
-- is printed (proofs/Assembled.antt), so `print` is what the code writes. Assumes nothing.
use Rattle.std.specs.Prelude.{ℕ, ◌+◌, ◌<◌, ◌≡◌, List, [], ◌∷◌, length, get_or}
use Rattle.std.specs.declared.result.Result.TheVariants.{Ok}
use Rattle.record.specs.Header.{WritesHeader}
use Rattle.record.specs.Pointer.{WritesPointer}
use Rattle.record.specs.declared.header.Header.{Header}
use Rattle.record.specs.declared.pointer.Pointer.{Pointer}
use Rattle.mphr.specs.Layout.{line_start}
use Rattle.mphr.specs.Lines.{WritesTextLine, WritesNumberLine, WritesTimeLine}
use Rattle.whole.specs.Values.{Value, text, number, time, Rec, plain, pointer, Values, head_of, line_in}

-- the writer of line k was lent `room`, answered n bytes, and left it as `exit`
abbrev pub WroteLine : ℕ → Value → List ℕ → ℕ → List ℕ → Type 0
WroteLine k (text t) room n exit = WritesTextLine room k t (Ok n) exit
WroteLine k (number x) room n exit = WritesNumberLine room k x (Ok n) exit
WroteLine k (time g) room n exit = WritesTimeLine room k g (Ok n) exit

-- from byte i on b has the first n bytes of a room
abbrev pub Has : List ℕ → ℕ → ℕ → List ℕ → Type 0
Has b i n exit = (j : ℕ) → j < n → get_or b (i + j) 0 ≡ get_or exit j 0

-- a line, a header, a pointer record of b, as its writer wrote it
pub record LineIn (b : List ℕ) (k : ℕ) (x : Value) : Type 0 where
  pub room : List ℕ
  pub exit : List ℕ
  pub count : ℕ
  pub wrote : WroteLine k x room count exit
  pub has : Has b (line_start k) count exit

pub record HeaderIn (b : List ℕ) (i : ℕ) (h : Header) : Type 0 where
  pub room : List ℕ
  pub exit : List ℕ
  pub count : ℕ
  pub wrote : WritesHeader room h (Ok count) exit
  pub has : Has b i count exit

pub record PointerIn (b : List ℕ) (i : ℕ) (p : Pointer) : Type 0 where
  pub room : List ℕ
  pub exit : List ℕ
  pub count : ℕ
  pub wrote : WritesPointer room p (Ok count) exit
  pub has : Has b i count exit

-- a record at byte i of b: a header and its payload, or a pointer record
abbrev pub RecIn : List ℕ → ℕ → Rec → Type 0
RecIn b i (plain h d) = HeaderIn b i h × Has b (i + 20) (length d) d
RecIn b i (pointer p) = PointerIn b i p

-- the records from byte i to the end of b
abbrev pub RecsIn : List ℕ → ℕ → List Rec → Type 0
RecsIn b i [] = length b ≡ i
RecsIn b i (r ∷ l) = RecIn b i r × RecsIn b (i + (head_of r).size) l

-- b IS PUT TOGETHER of the values v
pub record Assembled (b : List ℕ) (v : Values) : Type 0 where
  pub header : HeaderIn b 0 v.header
  pub lines : (k : ℕ) → k < 72 → LineIn b k (line_in v k)
  pub records : RecsIn b 3307 v.records
