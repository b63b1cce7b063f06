-- A TREE OF JOINS (02, request Seven: "Join granules into a pass"; "Where both ways of joining three products are accepted, the bytes are the same"): products
-- joined two by two until one is left, in whatever order of joins. Assumes nothing.
use Rattle.std.specs.Prelude.{ℕ, Bool, List, [], ◌∷◌, ◌++◌, take}
use Rattle.std.specs.declared.result.Result.TheVariants.{Ok}
use Rattle.rewrite.specs.Join.{JoinIs}

-- which are joined with which
pub data Tree : Type 0 where
  granule : List ℕ → Tree
  join : Tree → Tree → Tree

-- the granules, from the first to the last
abbrev pub granules : Tree → List (List ℕ)
granules (granule a) = a ∷ []
granules (join s t) = granules s ++ granules t

-- THE BYTES THAT A TREE WRITES, none of its joins refused: a granule's are its own; a join's are the first k of its room, where the two below it were joined
-- and the answer was k bytes. Each join may have a room of its own, and be request Seven's or that of a pass
pub data Writes : Tree → List ℕ → Type 0 where
  alone : {a : List ℕ} → Writes (granule a) a
  joined : {i : Bool} {s t : Tree} {a b room exit : List ℕ} {k : ℕ} → Writes s a → Writes t b → JoinIs i a b room (Ok k) exit → Writes (join s t) (take k exit)
