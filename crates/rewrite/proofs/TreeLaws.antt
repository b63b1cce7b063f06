-- ANY TWO TREES OF JOINS over one list of granules, neither refused anywhere, write the same bytes (02, request Seven: "Where both ways of joining three products
-- are accepted, the bytes are the same", of any number, and whichever of the two joins each is). By induction on the tree: what it writes is the pass of its
-- granules. Assumes nothing.
use Prim.Native.Nat.{ℕ, ◌≤◌}
use native.Mathlib.Omega.{arith}
use mathlib.Core.Path.{◌≡◌, refl, sym, ap, subst, ◌∙◌}
use mathlib.Core.Bool.{Bool}
use mathlib.Core.List.{List, [], ◌∷◌, ◌++◌}
use lib.ListN.{length, get_or, take, length-append}
use Rattle.std.specs.declared.result.Result.TheVariants.{Ok}
use Rattle.demands.specs.Product.{Meets}
use Rattle.demands.proofs.Accepted.{one_list}
use Rattle.parts.specs.Parts.{main_of, records_at}
use Rattle.parts.specs.Join.{join_parts}
use Rattle.parts.specs.PassOf.{Granule, IsPass}
use Rattle.parts.specs.PassOf as P
use Rattle.parts.proofs.Built.{meets_built}
use Rattle.parts.proofs.PassLaws.{pass_main, pass_records}
use Rattle.parts.proofs.PassOfLaws.{one_pass, Tells, tells_one, join_pass, join_tells}
use Rattle.rewrite.specs.Join.{JoinIs}
use Rattle.rewrite.specs.Tree.{Tree, granule, join, granules, Writes, alone, joined}
use Rattle.rewrite.specs.Join.{JoinResult}
use Rattle.rewrite.proofs.JoinLaws.{join_written, join_left}

-- ---- the parts of each granule, where it is a product
data Each : List (List ℕ) → List Granule → Type 0 where
  none : Each [] []
  more : {a : List ℕ} {ls : List (List ℕ)} {gs : List Granule} (t : Meets a) → Each ls gs → Each (a ∷ ls) (P.granule (main_of a) (records_at a t.list) ∷ gs)

each_append : {ls ks : List (List ℕ)} {gs hs : List Granule} → Each ls gs → Each ks hs → Each (ls ++ ks) (gs ++ hs)
each_append none y = y
each_append (more t x) y = more t (each_append x y)

one_each : {ls : List (List ℕ)} {gs hs : List Granule} → Each ls gs → Each ls hs → gs ≡ hs
one_each none none = refl
one_each (more {a = a} {gs = gs} t x) (more {gs = hs} u y) = ap (λ (l : List ℕ). P.granule (main_of a) (records_at a l) ∷ gs) (one_list t u) ∙ ap (λ (l : List Granule). P.granule (main_of a) (records_at a u.list) ∷ l) (one_each x y)

-- ---- a tree has a granule
some : (t : Tree) → 1 ≤ length (granules t)
some (granule a) = omega arith
some (join s t) = omega (arith, some s, length-append (granules s) (granules t))

two : (s t : Tree) → 2 ≤ length (granules (join s t))
two s t = omega (arith, some s, some t, length-append (granules s) (granules t))

-- ---- what a product c that a tree wrote tells of the granules
record Told (ls : List (List ℕ)) (c : List ℕ) (u : Meets c) : Type 0 where
  first : Granule
  rest : List Granule
  each : Each ls (first ∷ rest)
  tells : Tells first rest (main_of c) (records_at c u.list)

told : {t : Tree} {c : List ℕ} → Writes t c → (u : Meets c) → Told (granules t) c u
told (alone {a = a}) u = record { first = P.granule (main_of a) (records_at a u.list); rest = []; each = more u none; tells = tells_one (meets_built a u) }
told (joined {a = a} {b = b} {k = k} x y j) u = both (join_written k (Ok k) refl j) (λ v. told x v) (λ v. told y v) u
  where
    both : {i : Bool} {ls ks : List (List ℕ)} {a b room exit : List ℕ} {k : ℕ} (w : JoinResult i a b room k exit) → ((u : Meets a) → Told ls a u) → ((u : Meets b) → Told ks b u) → (u : Meets (take k exit)) → Told (ls ++ ks) (take k exit) u
    both {ls = ls} {ks = ks} {a = a} {b = b} w f g = subst (λ (c : List ℕ). (u : Meets c) → Told (ls ++ ks) c u) (sym (join_left w)) (λ u.
        let x = f w.first in
        let y = g w.second in
        let A = meets_built a w.first in
        let B = meets_built b w.second in
        let rs = join_parts (main_of a) (records_at a w.first.list) (records_at b w.second.list) in
        record {
          first = x.first;
          rest = x.rest ++ (y.first ∷ y.rest);
          each = each_append x.each y.each;
          tells = subst (Tells x.first (x.rest ++ (y.first ∷ y.rest)) (main_of w.text)) (sym (pass_records A B w.joinable w.join u)) (subst (λ (m : List ℕ). Tells x.first (x.rest ++ (y.first ∷ y.rest)) m rs) (sym (pass_main A B w.joinable w.join)) (join_tells x.tells y.tells w.join w.joinable.sums));
        })

-- what two trees joined write is the pass of their granules
record Passed (ls : List (List ℕ)) (c : List ℕ) : Type 0 where
  list : List Granule
  each : Each ls list
  pass : IsPass list c

passed : {i : Bool} {s t : Tree} {a b room exit : List ℕ} {k : ℕ} → Writes s a → Writes t b → JoinIs i a b room (Ok k) exit → Passed (granules s ++ granules t) (take k exit)
passed {k = k} x y j =
    let w = join_written k (Ok k) refl j in
    let f = told x w.first in
    let g = told y w.second in
    record { list = f.first ∷ (f.rest ++ (g.first ∷ g.rest)); each = each_append f.each g.each; pass = subst (IsPass _) (sym (join_left w)) (join_pass f.tells g.tells w.join) }

one_passed : {ls ks : List (List ℕ)} {c d : List ℕ} → ls ≡ ks → Passed ls c → Passed ks d → c ≡ d
one_passed {ls} {ks} {c} {d} e x y =
    let z : x.list ≡ y.list = one_each (subst (λ (l : List (List ℕ)). Each l x.list) e x.each) y.each in
    one_pass (subst (λ (l : List Granule). IsPass l c) z x.pass) y.pass

-- ---- THE LAW
pub trees_same : {s t : Tree} {c d : List ℕ} → Writes s c → Writes t d → granules s ≡ granules t → c ≡ d
trees_same (alone {a = a}) (alone {a = b}) e = ap (λ (l : List (List ℕ)). get_or l 0 []) e
trees_same (alone {a = a}) (joined {s = s} {t = t} x y j) e = absurd (omega (arith, two s t, ap length e))
trees_same (joined {s = s} {t = t} x y j) (alone {a = a}) e = absurd (omega (arith, two s t, ap length e))
trees_same (joined x y j) (joined x' y' j') e = one_passed e (passed x y j) (passed x' y' j')
