-- THE JOIN'S ANSWERS: no second answer and no second room fit; a refusal leaves the room as it came; what is written is the join, which the
-- verdict accepts, and then what the room held; and whichever two of three products are joined first, what is written is the same. By cases on the answers. Assumes nothing.
use Prim.Native.Nat.{ℕ, suc}
use native.Mathlib.Omega.{arith}
use mathlib.Core.Path.{◌≡◌, refl, sym, ap, subst, ◌∙◌}
use mathlib.Core.Bool.{Bool}
use mathlib.Core.List.{List, ◌++◌}
use lib.ListN.{length, take, drop, length-append}
use lib.Seq.{take_at}
use Rattle.calendar.specs.declared.Refusal.{Refusal}
use Rattle.std.specs.declared.result.Result.TheVariants.{Ok, Err}
use Rattle.std.specs.declared.result.Result.{Result}
use Rattle.finish.specs.Finish.{VerdictIs}
use Rattle.demands.specs.Product.{Meets}
use Rattle.demands.proofs.Accepted.{one_list, meets_fit, one_refused}
use Rattle.demands.proofs.Verdict.{product_verdict}
use Rattle.parts.specs.Parts.{joined, main_of, records_at}
use Rattle.parts.specs.Only.{only, is_sphr, is_global, is_variable, is_mdr}
use Rattle.parts.specs.Join.{join_parts, identical, granules}
use Rattle.parts.specs.Pass.{Joinable, join_size, IsJoin}
use Rattle.parts.proofs.Built.{bytes_joined, meets_built}
use Rattle.parts.proofs.PassLaws.{one_join, pass_product, pass_mdrs, pass_variables, pass_globals, pass_sphr, pass_three}
use Rattle.parts.proofs.GranuleLaws.{alike_granules, in_time_granules}
use Rattle.rewrite.specs.Join.{PartsJoin, unlike, out_of_time, too_much, no_room, written, JoinIs, first_unfit, second_unfit, both, JoinResult}

-- ---- NO SECOND ANSWER FITS, of two products
one_parts : {i : Bool} {m n : List ℕ} {rs ss : List (List ℕ)} {room : List ℕ} {r s : Result ℕ Refusal} {x y : List ℕ} → PartsJoin i m n rs ss room r x → PartsJoin i m n rs ss room s y → (r ≡ s) × (x ≡ y)
one_parts (unlike d) (unlike e) = (refl, refl)
one_parts (unlike d) (out_of_time a t) = absurd (d a)
one_parts (unlike d) (too_much a t h) = absurd (d a)
one_parts (unlike d) (no_room a t h l) = absurd (d a)
one_parts (unlike d) (written c a t h l j) = absurd (d a)
one_parts (out_of_time a t) (unlike d) = absurd (d a)
one_parts (out_of_time a t) (out_of_time b u) = (refl, refl)
one_parts (out_of_time a t) (too_much b u h) = absurd (t u)
one_parts (out_of_time a t) (no_room b u h l) = absurd (t u)
one_parts (out_of_time a t) (written c b u h l j) = absurd (t u)
one_parts (too_much a t h) (unlike d) = absurd (d a)
one_parts (too_much a t h) (out_of_time b u) = absurd (u t)
one_parts (too_much a t h) (too_much b u g) = (refl, refl)
one_parts (too_much a t h) (no_room b u g l) = absurd (h g)
one_parts (too_much a t h) (written c b u g l j) = absurd (h g)
one_parts (no_room a t h k) (unlike d) = absurd (d a)
one_parts (no_room a t h k) (out_of_time b u) = absurd (u t)
one_parts (no_room a t h k) (too_much b u g) = absurd (g h)
one_parts (no_room a t h k) (no_room b u g l) = (refl, refl)
one_parts (no_room a t h k) (written c b u g l j) = absurd (omega arith)
one_parts (written d a t h k i) (unlike e) = absurd (e a)
one_parts (written d a t h k i) (out_of_time b u) = absurd (u t)
one_parts (written d a t h k i) (too_much b u g) = absurd (g h)
one_parts (written d a t h k i) (no_room b u g l) = absurd (omega arith)
one_parts {m = m} {rs = rs} {ss = ss} {room = room} (written d a t h k i) (written c b u g l j) = (refl, ap (λ (z : List ℕ). z ++ drop (join_size m rs ss) room) (one_join i j))

-- another proof that the two are products has the same parts
moved : {i : Bool} {a b room : List ℕ} {r : Result ℕ Refusal} {x : List ℕ} (t t' : Meets a) (u u' : Meets b) → PartsJoin i (main_of a) (main_of b) (records_at a t.list) (records_at b u.list) room r x → PartsJoin i (main_of a) (main_of b) (records_at a t'.list) (records_at b u'.list) room r x
moved {i} {a} {b} {room} {r} {x} t t' u u' p =
    subst (λ (l : List ℕ). PartsJoin i (main_of a) (main_of b) (records_at a t'.list) (records_at b l) room r x) (one_list u u')
    (subst (λ (l : List ℕ). PartsJoin i (main_of a) (main_of b) (records_at a l) (records_at b u.list) room r x) (one_list t t') p)

-- ---- NO SECOND ANSWER FITS
pub unique_join : {i : Bool} (a b room : List ℕ) (r s : Result ℕ Refusal) (x y : List ℕ) → JoinIs i a b room r x → JoinIs i a b room s y → (r ≡ s) × (x ≡ y)
unique_join a b room r s x y (first_unfit q g) (first_unfit p h) = (ap Err (one_refused q p g h), refl)
unique_join a b room r s x y (first_unfit q g) (second_unfit p t h) = absurd (meets_fit t q g)
unique_join a b room r s x y (first_unfit q g) (both t u p) = absurd (meets_fit t q g)
unique_join a b room r s x y (second_unfit q t g) (first_unfit p h) = absurd (meets_fit t p h)
unique_join a b room r s x y (second_unfit q t g) (second_unfit p u h) = (ap Err (one_refused q p g h), refl)
unique_join a b room r s x y (second_unfit q t g) (both u v p) = absurd (meets_fit v q g)
unique_join a b room r s x y (both t u p) (first_unfit q h) = absurd (meets_fit t q h)
unique_join a b room r s x y (both t u p) (second_unfit q v h) = absurd (meets_fit u q h)
unique_join a b room r s x y (both t u p) (both v w q) = one_parts (moved t v u w p) q

-- ---- A REFUSAL LEAVES THE ROOM AS IT CAME
pub join_refusal_keeps : {i : Bool} {a b room exit : List ℕ} (r : Refusal) (s : Result ℕ Refusal) → s ≡ Err r → JoinIs i a b room s exit → exit ≡ room
join_refusal_keeps r s e (first_unfit q _) = refl
join_refusal_keeps r s e (second_unfit q _ _) = refl
join_refusal_keeps r s e (both t u p) = go e p
  where
    go : {i : Bool} {m n : List ℕ} {rs ss : List (List ℕ)} {room exit : List ℕ} {s : Result ℕ Refusal} → s ≡ Err r → PartsJoin i m n rs ss room s exit → exit ≡ room
    go e (unlike _) = refl
    go e (out_of_time _ _) = refl
    go e (too_much _ _ _) = refl
    go e (no_room _ _ _ _) = refl
    go e (written c _ _ _ _ _) = absurd (let z : ◌≡◌ {A = ℕ} 0 1 = cc in omega arith)

-- ---- WHAT IS WRITTEN
pub join_written : {i : Bool} {a b room exit : List ℕ} (k : ℕ) (s : Result ℕ Refusal) → s ≡ Ok k → JoinIs i a b room s exit → JoinResult i a b room k exit
join_written k s e (first_unfit q _) = absurd (let z : ◌≡◌ {A = ℕ} 0 1 = cc in omega arith)
join_written k s e (second_unfit q _ _) = absurd (let z : ◌≡◌ {A = ℕ} 0 1 = cc in omega arith)
join_written {i} {a} {b} {room} {exit} k s e (both t u p) = go e p
  where
    bytes_of : {i j : ℕ} → ◌≡◌ {A = Result ℕ Refusal} (Ok i) (Ok j) → i ≡ j
    bytes_of e = cc

    go : {s : Result ℕ Refusal} {exit : List ℕ} → s ≡ Ok k → PartsJoin i (main_of a) (main_of b) (records_at a t.list) (records_at b u.list) room s exit → JoinResult i a b room k exit
    go e (unlike _) = absurd (let z : ◌≡◌ {A = ℕ} 0 1 = cc in omega arith)
    go e (out_of_time _ _) = absurd (let z : ◌≡◌ {A = ℕ} 0 1 = cc in omega arith)
    go e (too_much _ _ _) = absurd (let z : ◌≡◌ {A = ℕ} 0 1 = cc in omega arith)
    go e (no_room _ _ _ _) = absurd (let z : ◌≡◌ {A = ℕ} 0 1 = cc in omega arith)
    go e (written c al ti h l j) =
        let z : join_size (main_of a) (records_at a t.list) (records_at b u.list) ≡ k = bytes_of e in
        record { text = c; first = t; second = u; alike = al; in_time = ti; joinable = h; join = j; long = sym z; stands = ap (λ (i : ℕ). c ++ drop i room) z }

-- a join has as many bytes as its size says
join_length : {m n c : List ℕ} {rs ss : List (List ℕ)} → IsJoin m n rs ss c → length c ≡ join_size m rs ss
join_length {m} {rs = rs} {ss = ss} j = ap length j.whole ∙ length-append j.header (joined (join_parts m rs ss)) ∙ omega (arith, j.lines.long, bytes_joined (join_parts m rs ss))

pub join_sized : {i : Bool} {a b room exit : List ℕ} {k : ℕ} (w : JoinResult i a b room k exit) → k ≡ length w.text
join_sized w = w.long ∙ sym (join_length w.join)

-- it meets the format, so that the judges accept it
pub join_product : {i : Bool} {a b room exit : List ℕ} {k : ℕ} (w : JoinResult i a b room k exit) → Meets w.text
join_product {a = a} {b = b} w = pass_product (meets_built a w.first) (meets_built b w.second) w.joinable w.join

-- ---- "The result is accepted", of what the join left in the room: whatever the verdict answers of those bytes, it accepts them
pub join_left : {i : Bool} {a b room exit : List ℕ} {k : ℕ} (w : JoinResult i a b room k exit) → take k exit ≡ w.text
join_left {room = room} {k = k} w = ap (take k) w.stands ∙ take_at w.text (drop k room) k (sym (join_sized w))

pub join_accepted : {i : Bool} {a b room exit : List ℕ} {k : ℕ} → JoinIs i a b room (Ok k) exit → (r : Result ℕ Refusal) → VerdictIs (take k exit) r → (c : ℕ) × (r ≡ Ok c)
join_accepted {k = k} j r v =
    let w = join_written k (Ok k) refl j in
    let t = join_product w in
    (suc (length t.list), product_verdict w.text t r (subst (λ (c : List ℕ). VerdictIs c r) (join_left w) v))

-- its records: every MDR of the two once, in order, and so are the variable records; the SPHR and the global records are the first's as they stand
module _ {i : Bool} {a b room exit : List ℕ} {k : ℕ} (w : JoinResult i a b room k exit) (t : Meets w.text) where
  pub join_result_mdrs : only is_mdr (records_at w.text t.list) ≡ only is_mdr (records_at a w.first.list) ++ only is_mdr (records_at b w.second.list)
  join_result_mdrs = pass_mdrs (meets_built a w.first) (meets_built b w.second) w.joinable w.join t

  pub join_result_variables : only is_variable (records_at w.text t.list) ≡ only is_variable (records_at a w.first.list) ++ only is_variable (records_at b w.second.list)
  join_result_variables = pass_variables (meets_built a w.first) (meets_built b w.second) w.joinable w.join t

  pub join_result_globals : only is_global (records_at w.text t.list) ≡ only is_global (records_at a w.first.list)
  join_result_globals = pass_globals (meets_built a w.first) (meets_built b w.second) w.joinable w.join t

  pub join_result_sphr : only is_sphr (records_at w.text t.list) ≡ only is_sphr (records_at a w.first.list)
  join_result_sphr = pass_sphr (meets_built a w.first) (meets_built b w.second) w.joinable w.join t

-- ---- WHEREVER REQUEST SEVEN'S JOIN WRITES, THAT OF A PASS WRITES THE SAME BYTES
pub join_is_pass : {a b room exit : List ℕ} (k : ℕ) (s : Result ℕ Refusal) → s ≡ Ok k → JoinIs identical a b room s exit → JoinIs granules a b room s exit
join_is_pass k s e (first_unfit q _) = absurd (let z : ◌≡◌ {A = ℕ} 0 1 = cc in omega arith)
join_is_pass k s e (second_unfit q _ _) = absurd (let z : ◌≡◌ {A = ℕ} 0 1 = cc in omega arith)
join_is_pass {a} {b} {room} k s e (both t u p) = both t u (go e p)
  where
    go : {s : Result ℕ Refusal} {exit : List ℕ} → s ≡ Ok k → PartsJoin identical (main_of a) (main_of b) (records_at a t.list) (records_at b u.list) room s exit → PartsJoin granules (main_of a) (main_of b) (records_at a t.list) (records_at b u.list) room s exit
    go e (unlike _) = absurd (let z : ◌≡◌ {A = ℕ} 0 1 = cc in omega arith)
    go e (out_of_time _ _) = absurd (let z : ◌≡◌ {A = ℕ} 0 1 = cc in omega arith)
    go e (too_much _ _ _) = absurd (let z : ◌≡◌ {A = ℕ} 0 1 = cc in omega arith)
    go e (no_room _ _ _ _) = absurd (let z : ◌≡◌ {A = ℕ} 0 1 = cc in omega arith)
    go e (written c al ti h l j) = written c (alike_granules al) (in_time_granules (meets_built a t) (meets_built b u) ti) h l j

pub join_pass_same : {a b room x y : List ℕ} {s : Result ℕ Refusal} (k : ℕ) → JoinIs identical a b room (Ok k) x → JoinIs granules a b room s y → (Ok k ≡ s) × (x ≡ y)
join_pass_same {a} {b} {room} {x} {y} {s} k p q = unique_join a b room (Ok k) s x y (join_is_pass k (Ok k) refl p) q

-- ---- "Where both ways of joining three products are accepted, the bytes are the same": a with b, and b with c, were written; then that with c, and a with
-- this. What a way is refused for, the other may not be: the law is of the bytes where neither is. Whichever of the two joins each of the four is
pub join_three_same :
    {f g u v : Bool} {a b c e₁ e₂ e₃ e₄ x₁ x₂ x₃ x₄ : List ℕ} {i j k l : ℕ} (ab : JoinResult f a b e₁ i x₁) (bc : JoinResult g b c e₂ j x₂) (left : JoinResult u ab.text c e₃ k x₃) (right : JoinResult v a bc.text e₄ l x₄)
    → (left.text ≡ right.text) × (k ≡ l)
join_three_same {a = a} {b = b} {c = c} ab bc left right =
    let A = ab.first in
    let B = ab.second in
    let bc-at : IsJoin (main_of b) (main_of c) (records_at b B.list) (records_at c left.second.list) bc.text = subst (λ (z : List ℕ). IsJoin (main_of b) (main_of c) (records_at b B.list) (records_at c z) bc.text) (one_list bc.second left.second) (subst (λ (z : List ℕ). IsJoin (main_of b) (main_of c) (records_at b z) (records_at c bc.second.list) bc.text) (one_list bc.first B) bc.join) in
    let bc-can : Joinable (main_of b) (main_of c) (records_at b B.list) (records_at c left.second.list) = subst (λ (z : List ℕ). Joinable (main_of b) (main_of c) (records_at b B.list) (records_at c z)) (one_list bc.second left.second) (subst (λ (z : List ℕ). Joinable (main_of b) (main_of c) (records_at b z) (records_at c bc.second.list)) (one_list bc.first B) bc.joinable) in
    let r-at : IsJoin (main_of a) (main_of bc.text) (records_at a A.list) (records_at bc.text right.second.list) right.text = subst (λ (z : List ℕ). IsJoin (main_of a) (main_of bc.text) (records_at a z) (records_at bc.text right.second.list) right.text) (one_list right.first A) right.join in
    let same = pass_three A B left.second left.first right.second ab.joinable ab.join bc-can bc-at left.join r-at in
    (same, join_sized left ∙ ap length same ∙ sym (join_sized right))
