-- ONE PRODUCT AND ONE MERGE: no second answer and no second report fits; merging is commutative and associative, with a new report as its unit; a refused
-- product adds one to its tally and to the products, and nothing else; the totals are those of the rows. By cases on the answers, and by the laws of
-- sums. Assumes nothing.
use Prim.Native.Nat.{ℕ, ◌+◌, ◌≤◌}
use native.Mathlib.Omega.{arith}
use mathlib.Core.Path.{◌≡◌, refl, sym, ap, subst, ◌∙◌}
use mathlib.Core.List.{List, [], ◌∷◌}
use lib.ListN.{length, get_or, set, replicate}
use lib.Seq.{get_or-set_same, get_or-set_other}
use Rattle.calendar.specs.Said.{refusing}
use Rattle.calendar.specs.declared.Refusal.{Refusal}
use Rattle.finish.specs.Rows.{row, ordinal, rows_after, rows_of}
use Rattle.demands.specs.Product.{size}
use Rattle.demands.proofs.Accepted.{one_list, meets_fit, one_refused}
use Rattle.demands.proofs.Demands.{demand_1}
use Rattle.month.specs.Report.{sum_of, records_in, bytes_in, mdrs, contribution, tallied, Contributes, accepted, unfit, plus, empty, Within, Added, JoinIs, joined, past, AddIs, MergeIs, merged, over, OnlyTally, size_in, over_rows, mdr_rows}
use Rattle.std.specs.declared.option.Option.TheVariants.{Some}
use Rattle.std.specs.declared.option.Option.{Option}
use Rattle.std.specs.declared.result.Result.TheVariants.{Ok, Err}
use Rattle.std.specs.declared.result.Result.{Result}
use Rattle.month.proofs.PlusLaws.{none_at, plus_at, plus_comm, plus_assoc, plus_empty, empty_plus, within_left, within_right}

-- ---- NO SECOND ANSWER FITS
-- what a product adds, and what is answered of it
pub unique_contribution : {a v w : List ℕ} {r s : Option Refusal} → Contributes a r v → Contributes a s w → (r ≡ s) × (v ≡ w)
unique_contribution {a} (accepted t) (accepted u) = (refl, ap (λ (l : List ℕ). contribution a (0 ∷ l)) (one_list t u))
unique_contribution (accepted t) (unfit r g) = absurd (meets_fit t r g)
unique_contribution (unfit r g) (accepted t) = absurd (meets_fit t r g)
unique_contribution (unfit r g) (unfit s h) = let e = one_refused r s g h in (ap (λ (q : Refusal). Some q) e, ap (λ (q : Refusal). tallied q.number) e)

unique_join : {x v y z : List ℕ} {said : Option Refusal} {r s : Added} → JoinIs x v said r y → JoinIs x v said s z → (r ≡ s) × (y ≡ z)
unique_join (joined w) (joined u) = (refl, refl)
unique_join (joined w) (past d) = absurd (d w)
unique_join (past d) (joined w) = absurd (d w)
unique_join (past d) (past e) = (refl, refl)

pub unique_add : (a x : List ℕ) (r s : Added) (y z : List ℕ) → AddIs a x r y → AddIs a x s z → (r ≡ s) × (y ≡ z)
unique_add a x r s y z p q =
    let u = unique_contribution q.contributes p.contributes in
    unique_join p.joins
    (subst (λ (v : List ℕ). JoinIs x v p.said s z) u.1
    (subst (λ (k : Option Refusal). JoinIs x q.share k s z) u.0 q.joins))

pub unique_merge : (x y : List ℕ) (r s : Result Unit Refusal) (z w : List ℕ) → MergeIs x y r z → MergeIs x y s w → (r ≡ s) × (z ≡ w)
unique_merge x y r s z w (merged u) (merged v) = (refl, refl)
unique_merge x y r s z w (merged u) (over d) = absurd (d u)
unique_merge x y r s z w (over d) (merged u) = absurd (d u)
unique_merge x y r s z w (over d) (over e) = (refl, refl)

-- ---- MERGING
pub merge_done : {x y z : List ℕ} (r : Result Unit Refusal) → r ≡ Ok tt → MergeIs x y r z → Within (plus x y) × (z ≡ plus x y)
merge_done r e (merged w) = (w, refl)
merge_done r e (over d) = absurd (let z : ◌≡◌ {A = ℕ} 0 1 = cc in omega arith)

within_at : {x y : List ℕ} → x ≡ y → Within x → Within y
within_at e w = subst Within e w

-- what is within the limits is merged
merge_within : {x y z : List ℕ} {r : Result Unit Refusal} → Within (plus x y) → MergeIs x y r z → (r ≡ Ok tt) × (z ≡ plus x y)
merge_within w (merged u) = (refl, refl)
merge_within w (over d) = absurd (d w)

-- commutative: the same answer, and where it is no refusal the same report
pub merge_commutes : {x y z w : List ℕ} {r s : Result Unit Refusal} → MergeIs x y r z → MergeIs y x s w → (r ≡ s) × (r ≡ Ok tt → z ≡ w)
merge_commutes {x} {y} (merged u) (merged v) = (refl, λ e. plus_comm x y)
merge_commutes {x} {y} (merged u) (over d) = absurd (d (within_at (plus_comm x y) u))
merge_commutes {x} {y} (over d) (merged v) = absurd (d (within_at (plus_comm y x) v))
merge_commutes (over d) (over e) = (refl, λ q. absurd (let z : ◌≡◌ {A = ℕ} 0 1 = cc in omega arith))

-- associative, "where nothing is refused": and where nothing is refused one way, nothing is the other way
pub merge_associates :
    {x y z xy yz u v : List ℕ} {r s : Result Unit Refusal} → MergeIs x y (Ok tt) xy → MergeIs xy z (Ok tt) u → MergeIs y z r yz → MergeIs x yz s v
    → (r ≡ Ok tt) × (s ≡ Ok tt) × (u ≡ v)
merge_associates {x} {y} {z} {xy} {yz} {u} {v} {r} {s} a b c d =
    let p = merge_done (Ok tt) refl a in
    let q = merge_done (Ok tt) refl b in
    let e : plus xy z ≡ plus x (plus y z) = ap (λ (l : List ℕ). plus l z) p.1 ∙ plus_assoc x y z in
    let all : Within (plus x (plus y z)) = within_at e q.0 in
    let k = merge_within (within_right x (plus y z) all) c in
    let m = merge_within (within_at (ap (plus x) (sym k.1)) all) d in
    (k.0, m.0, q.1 ∙ e ∙ ap (plus x) (sym k.1) ∙ sym m.1)

-- and from the right
pub merge_associates_back :
    {x y z xy yz u v : List ℕ} {r s : Result Unit Refusal} → MergeIs y z (Ok tt) yz → MergeIs x yz (Ok tt) v → MergeIs x y r xy → MergeIs xy z s u
    → (r ≡ Ok tt) × (s ≡ Ok tt) × (u ≡ v)
merge_associates_back {x} {y} {z} {xy} {yz} {u} {v} {r} {s} a b c d =
    let p = merge_done (Ok tt) refl a in
    let q = merge_done (Ok tt) refl b in
    let e : plus x yz ≡ plus (plus x y) z = ap (plus x) p.1 ∙ sym (plus_assoc x y z) in
    let all : Within (plus (plus x y) z) = within_at e q.0 in
    let k = merge_within (within_left (plus x y) z all) c in
    let m = merge_within (within_at (ap (λ (l : List ℕ). plus l z) (sym k.1)) all) d in
    (k.0, m.0, m.1 ∙ ap (λ (l : List ℕ). plus l z) k.1 ∙ sym e ∙ sym q.1)

-- a new report is the unit, on either side
pub merge_empty : {x z : List ℕ} {r : Result Unit Refusal} → length x ≡ 38 → Within x → MergeIs x empty r z → (r ≡ Ok tt) × (z ≡ x)
merge_empty {x} e w m = let q = merge_within (within_at (sym (plus_empty x e)) w) m in (q.0, q.1 ∙ plus_empty x e)

pub empty_merge : {x z : List ℕ} {r : Result Unit Refusal} → length x ≡ 38 → Within x → MergeIs empty x r z → (r ≡ Ok tt) × (z ≡ x)
empty_merge {x} e w m = let q = merge_within (within_at (sym (empty_plus x e)) w) m in (q.0, q.1 ∙ empty_plus x e)

-- ---- "a refused product adds nothing but one to its refusal's tally": and one to the products, "refused ones counted"
tallied_adds : (x : List ℕ) (n : ℕ) → 1 ≤ n → n ≤ 17 → OnlyTally x (plus x (tallied n)) n
tallied_adds x n l h =
    let none : List ℕ = replicate 38 0 in
    let one : List ℕ = set none 0 1 in
    let far : get_or (tallied n) 0 0 ≡ get_or one 0 0 = get_or-set_other one (20 + n) 0 1 0 (λ e. omega arith) in
    let here : get_or (tallied n) (20 + n) 0 ≡ 1 = get_or-set_same one (20 + n) 1 0 (omega arith) in
    record {
      low = l;
      high = h;
      products = omega (arith, plus_at x (tallied n) 0, far);
      tally = omega (arith, plus_at x (tallied n) (20 + n), here);
      others = λ k f g. omega (arith, plus_at x (tallied n) k, get_or-set_other one (20 + n) k 1 0 g, get_or-set_other none 0 k 1 0 f, none_at 38 k);
    }

tallied_by : {a x v : List ℕ} {s : Option Refusal} (r : Refusal) → s ≡ Some r → Contributes a s v → OnlyTally x (plus x v) r.number
tallied_by r e (accepted t) = absurd (let z : ◌≡◌ {A = ℕ} 0 1 = cc in omega arith)
tallied_by {a} {x} r e (unfit q g) =
    let d : q ≡ r = cc in
    let n = demand_1.verdict a q g in
    subst (λ (k : Refusal). OnlyTally x (plus x (tallied q.number)) k.number) d (tallied_adds x q.number n.0 (omega (arith, n.1)))

pub refused_adds : {a x y : List ℕ} (r : Refusal) → AddIs a x (Ok (Some r)) y → OnlyTally x y r.number
refused_adds {a} {x} r p = go (Ok (Some r)) refl p.joins
  where
    go : {y : List ℕ} (s : Added) → s ≡ Ok (Some r) → JoinIs x p.share p.said s y → OnlyTally x y r.number
    go s e (joined w) = let q : p.said ≡ Some r = cc in tallied_by r q p.contributes
    go s e (past d) = absurd (let z : ◌≡◌ {A = ℕ} 0 1 = cc in omega arith)

-- "36 .. the report unchanged"
pub past_keeps : {a x y : List ℕ} (r : Refusal) → AddIs a x (Err r) y → (y ≡ x) × (r ≡ refusing 36 0)
past_keeps {a} {x} r p = go (Err r) refl p.joins
  where
    go : {y : List ℕ} (s : Added) → s ≡ Err r → JoinIs x p.share p.said s y → (y ≡ x) × (r ≡ refusing 36 0)
    go s e (joined w) = absurd (let z : ◌≡◌ {A = ℕ} 0 1 = cc in omega arith)
    go s e (past d) = (refl, cc)

-- ---- "Totals are those of a definition over the accepted products' rows"
rows_sum : (a : List ℕ) (w : ℕ → ℕ) (v : List ℕ → ℕ) → ((i n : ℕ) → v (row a i n) ≡ w i) → (c : ℕ) (before l : List ℕ) → over_rows v c (rows_after a before l) ≡ sum_of a w c l
rows_sum a w v h c before [] = refl
rows_sum a w v h c before (i ∷ l) = rw (h i (ordinal a before i), rows_sum a w v h c (i ∷ before) l) refl

pub records_by_rows : (a l : List ℕ) (c : ℕ) → over_rows (λ (r : List ℕ). 1) c (rows_of a l) ≡ records_in a l c
records_by_rows a l c = rows_sum a (λ (i : ℕ). 1) (λ (r : List ℕ). 1) (λ i n. refl) c [] l

pub bytes_by_rows : (a l : List ℕ) (c : ℕ) → over_rows size_in c (rows_of a l) ≡ bytes_in a l c
bytes_by_rows a l c = rows_sum a (size a) size_in (λ i n. refl) c [] l

rows_mdrs : (a before l : List ℕ) → mdr_rows (rows_after a before l) ≡ mdrs a l
rows_mdrs a before [] = refl
rows_mdrs a before (i ∷ l) = rw (rows_mdrs a (i ∷ before) l) refl

pub mdrs_by_rows : (a l : List ℕ) → mdr_rows (rows_of a l) ≡ mdrs a l
mdrs_by_rows a l = rows_mdrs a [] l
