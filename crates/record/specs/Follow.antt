-- Which class of record may follow which (01, "Record header, 20 bytes": "after 1: 2..8; after 2 or 3: 3..8; after 4 or 5: 4..8; after 6 or 7:
-- 6..8; after 8: 8"). Assumes nothing.
use Rattle.std.specs.Prelude.{ℕ, ◌-◌, ◌≤◌, ◌≡◌, Bool, false, cond, ◌&&◌, ◌||◌, List, [], eqb, leb, get_or}

-- the first class that may follow, and 9, which is no class, after what is no class
unfoldable pub first_after : ℕ → ℕ
first_after c =
    cond (eqb c 1) 2 (cond (eqb c 2 || eqb c 3) 3 (cond (eqb c 4 || eqb c 5) 4 (cond (eqb c 6 || eqb c 7) 6 (cond (eqb c 8) 8 9))))

-- from that one up to 8
unfoldable pub may_follow : ℕ → ℕ → Bool
may_follow last next = leb (first_after last) next && leb next 8

-- a table of yes and no, a row for the class last seen and a column for the next, has the rule at each of its places
pub record Ruled (t : List (List Bool)) : Type 0 where
  pub rule : (last next : ℕ) → 1 ≤ last → last ≤ 8 → 1 ≤ next → next ≤ 8 → get_or (get_or t (last - 1) []) (next - 1) false ≡ may_follow last next
