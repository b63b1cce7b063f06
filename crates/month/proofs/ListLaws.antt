-- LISTS OF PRODUCTS: what `add` leaves, product after product, is the report of the list; 36 is met where that report leaves its limits, and there alone; in
-- every order the report is the same; and the report of two lists, one after the other, is the merge of their reports. By induction on the list. Assumes
-- nothing.
use Prim.Native.Nat.{ℕ, ◌+◌, ◌<◌}
use native.Mathlib.Omega.{arith}
use mathlib.Core.Path.{◌≡◌, refl, sym, ap, subst, ◌∙◌}
use mathlib.Core.List.{List, ◌∷◌, ◌++◌, Permᴰ}
use lib.ListN.{length, get_or, set, replicate, length-set}
use lib.Seq.{get_or-set_other}
use Rattle.month.specs.Report.{Contributes, accepted, unfit, plus, empty, Reports, none, more, Within, Added, JoinIs, joined, past, MergeIs, merged, over, Lent, done, next, IsIn, AllIn}
use Rattle.std.specs.declared.option.Option.{Option}
use Rattle.std.specs.declared.result.Result.TheVariants.{Ok}
use Rattle.std.specs.declared.result.Result.{Result}
use Rattle.calendar.specs.declared.Refusal.{Refusal}
use Rattle.month.proofs.PlusLaws.{none_at, plus_at, plus_assoc, plus_swap, plus_length, plus_empty, empty_plus, within_left}
use Rattle.month.proofs.ReportLaws.{unique_contribution}

-- ---- the report of a list is one, and has 38 numbers
pub unique_report : {ps : List (List ℕ)} {v w : List ℕ} → Reports ps v → Reports ps w → v ≡ w
unique_report none none = refl
unique_report (more {v = v} {x = x} s c r) (more {v = w} {x = y} t d q) =
    ap (λ (l : List ℕ). plus l x) (unique_contribution c d).1 ∙ ap (plus w) (unique_report r q)

share_length : {a v : List ℕ} {s : Option Refusal} → Contributes a s v → length v ≡ 38
share_length (accepted t) = refl
share_length (unfit r g) = length-set (set (replicate 38 0) 0 1) (20 + r.number) 1

pub report_length : {ps : List (List ℕ)} {v : List ℕ} → Reports ps v → length v ≡ 38
report_length none = refl
report_length (more {v = v} {x = x} s c r) = plus_length v x (share_length c ∙ sym (report_length r)) ∙ share_length c

-- ---- ADD, STEP BY STEP
-- whatever was answered, the list has a report
pub has_report : {x y : List ℕ} {ps : List (List ℕ)} {rs : List Added} → Lent x ps rs y → (v : List ℕ) × Reports ps v
has_report done = (empty, none)
has_report (next p l) = let r = has_report l in (plus p.share r.0, more p.said p.contributes r.1)

-- a product that was no 36 is in, and all is within the limits
in_joins : {x v y : List ℕ} {k : Option Refusal} {r : Added} → IsIn r → JoinIs x v k r y → (y ≡ plus x v) × Within y
in_joins i (joined w) = (refl, w)
in_joins i (past d) = absurd i

-- THE REPORT IS THE DEFINITION'S: where no product met 36, it is what it was before with the report of the list
pub lent_adds : {x y v : List ℕ} {ps : List (List ℕ)} {rs : List Added} → length x ≡ 38 → Lent x ps rs y → AllIn rs → Reports ps v → y ≡ plus x v
lent_adds {x} e done i none = sym (plus_empty x e)
lent_adds {x} e (next p l) i (more {v = v} {x = w} s c r) =
    let j = in_joins i.0 p.joins in
    let u = (unique_contribution p.contributes c).1 in
    let k : _ ≡ plus x v = j.0 ∙ ap (plus x) u in
    let m = plus_length x v (e ∙ sym (share_length c)) in
    lent_adds (ap length k ∙ m ∙ e) l i.1 r ∙ ap (λ (z : List ℕ). plus z w) k ∙ plus_assoc x v w

pub lent_within : {x y : List ℕ} {ps : List (List ℕ)} {rs : List Added} → Within x → Lent x ps rs y → AllIn rs → Within y
lent_within w done i = w
lent_within w (next p l) i = lent_within (in_joins i.0 p.joins).1 l i.1

-- from a new report on
pub empty_within : Within empty
empty_within = record { products = omega arith; each = λ k h. omega (arith, none_at 38 k) }

pub lent_report : {y v : List ℕ} {ps : List (List ℕ)} {rs : List Added} → Lent empty ps rs y → AllIn rs → Reports ps v → y ≡ v
lent_report l i r = lent_adds refl l i r ∙ empty_plus _ (report_length r)

-- 36 IS WHERE IT LEAVES ITS LIMITS: within them no product meets it
within_joins : {x v y : List ℕ} {k : Option Refusal} {r : Added} → Within (plus x v) → JoinIs x v k r y → IsIn r × (y ≡ plus x v)
within_joins w (joined u) = (tt, refl)
within_joins w (past d) = absurd (d w)

pub never_36 : {x y v : List ℕ} {ps : List (List ℕ)} {rs : List Added} → Reports ps v → Within (plus x v) → Lent x ps rs y → AllIn rs
never_36 none w done = tt
never_36 {x} (more {v = v} {x = u} s c r) w (next {y = y'} p l) =
    let e = (unique_contribution c p.contributes).1 in
    let all : Within (plus (plus x p.share) u) = subst Within (ap (λ (z : List ℕ). plus x (plus z u)) e ∙ sym (plus_assoc x p.share u)) w in
    let j = within_joins (within_left (plus x p.share) u all) p.joins in
    (j.0, never_36 {x = y'} r (subst (λ (z : List ℕ). Within (plus z u)) (sym j.1) all) l)

-- "a 4,097th product (refused ones counted)": each adds one to the products, so that a longer list leaves the limits
adds_one : {a v : List ℕ} {s : Option Refusal} → Contributes a s v → get_or v 0 0 ≡ 1
adds_one (accepted t) = refl
adds_one (unfit r g) =
    let one : List ℕ = set (replicate 38 0) 0 1 in
    get_or-set_other one (20 + r.number) 0 1 0 (λ e. omega arith)

pub counts_products : {ps : List (List ℕ)} {v : List ℕ} → Reports ps v → get_or v 0 0 ≡ length ps
counts_products none = refl
counts_products (more {v = v} {x = x} s c r) = omega (arith, plus_at v x 0, adds_one c, counts_products r)

pub too_many : {x y : List ℕ} {ps : List (List ℕ)} {rs : List Added} → length x ≡ 38 → Within x → Lent x ps rs y → 4096 < get_or x 0 0 + length ps → AllIn rs → ⊥
too_many {x} e w l h i =
    let r = has_report l in
    omega (arith, counts_products r.1, plus_at x r.0 0, ap (λ (z : List ℕ). get_or z 0 0) (lent_adds e l i r.1), (lent_within w l i).products)

-- ---- "If a list in two orders never meets 36, both give the same report"
report_perm : {ps qs : List (List ℕ)} {v : List ℕ} → Permᴰ ps qs → Reports ps v → Reports qs v
report_perm Permᴰ.nil r = r
report_perm (Permᴰ.cons {b = b} e d) (more {v = v} s c r) = more s (subst (λ (a : List ℕ). Contributes a s v) e c) (report_perm d r)
report_perm (Permᴰ.swap {a' = a'} {b' = b'} e f) (more {v = v} s c (more {v = w} {x = x} t d r)) =
    subst (Reports _) (plus_swap w v x) (more t (subst (λ (a : List ℕ). Contributes a t w) f d) (more s (subst (λ (a : List ℕ). Contributes a s v) e c) r))
report_perm (Permᴰ.trans d e) r = report_perm e (report_perm d r)

-- from whatever report x, new or not
module _ {x : List ℕ} (e : length x ≡ 38) where
  pub two_orders : {ps qs : List (List ℕ)} {rs ss : List Added} {y z : List ℕ} → Permᴰ ps qs → Lent x ps rs y → AllIn rs → Lent x qs ss z → AllIn ss → y ≡ z
  two_orders d l i m j = let r = (has_report l).1 in lent_adds e l i r ∙ sym (lent_adds e m j (report_perm d r))

  -- and a list that does not meet it in one order meets it in none
  pub any_order : {ps qs : List (List ℕ)} {rs ss : List Added} {y z : List ℕ} → Within x → Permᴰ ps qs → Lent x ps rs y → AllIn rs → Lent x qs ss z → AllIn ss × (y ≡ z)
  any_order w d l i m =
      let r = (has_report l).1 in
      let j = never_36 (report_perm d r) (subst Within (lent_adds e l i r) (lent_within w l i)) m in
      (j, two_orders d l i m j)

-- ---- TWO LISTS, one after the other: the report is the sum of their reports
pub report_append : {ps qs : List (List ℕ)} {v w : List ℕ} → Reports ps v → Reports qs w → Reports (ps ++ qs) (plus v w)
report_append {qs = qs} {w = w} none r = subst (Reports qs) (sym (empty_plus w (report_length r))) r
report_append {ps = a ∷ ps} {qs = qs} {w = w} (more {v = v} {x = x} s c q) r = subst (Reports (a ∷ (ps ++ qs))) (sym (plus_assoc v x w)) (more s c (report_append q r))

-- so the merge of the reports of two lists is the report of the list, and is refused where a product of the list is
merge_whole :
    {ls : List (List ℕ)} {ts : List Added} {o v x y z w : List ℕ} {m : Result Unit Refusal} → length o ≡ 38 → Within o → Reports ls v → plus o v ≡ plus x y → Lent o ls ts z → MergeIs x y m w
    → (AllIn ts → (m ≡ Ok tt) × (w ≡ z)) × (m ≡ Ok tt → AllIn ts × (w ≡ z))
merge_whole e wo r q n (merged u) =
    let i = never_36 r (subst Within (sym q) u) n in
    let d = sym q ∙ sym (lent_adds e n i r) in
    ((λ _. (refl, d)), (λ _. (i, d)))
merge_whole e wo r q n (over d) =
    ((λ i. absurd (d (subst Within (lent_adds e n i r ∙ q) (lent_within wo n i)))), (λ q. absurd (let z : ◌≡◌ {A = ℕ} 0 1 = cc in omega arith)))

-- the first list from whatever report o, the second from a new one, and the whole from o
pub merge_lists :
    {ps qs : List (List ℕ)} {rs ss ts : List Added} {o x y z w : List ℕ} {m : Result Unit Refusal} → length o ≡ 38 → Within o
    → Lent o ps rs x → AllIn rs → Lent empty qs ss y → AllIn ss → Lent o (ps ++ qs) ts z → MergeIs x y m w
    → (AllIn ts → (m ≡ Ok tt) × (w ≡ z)) × (m ≡ Ok tt → AllIn ts × (w ≡ z))
merge_lists {o = o} {x = x} e wo l i k j n q =
    let r = has_report l in
    let s = has_report k in
    let a = lent_adds e l i r.1 in
    let d = lent_report k j s.1 in
    merge_whole e wo (report_append r.1 s.1) (sym (plus_assoc o r.0 s.0) ∙ ap (λ (v : List ℕ). plus v s.0) (sym a) ∙ ap (plus x) (sym d)) n q
