-- The pointers of a table, place after place: the bytes of a place's kind, and that the places that are left give the rest. Assumes nothing.
use Prim.Native.Nat.{ℕ, suc, ◌+◌, ◌-◌, ◌*◌, ◌/◌, ◌%◌, ◌≤◌, ◌<◌}
use native.Mathlib.Decide.{dec_lt, ℕ_discrete}
use native.Mathlib.Omega.{arith}
use mathlib.Core.Path.{◌≡◌, refl, sym, ap, ◌∙◌}
use mathlib.Core.Bool.{Bool, true, false, cond}
use mathlib.Core.List.{List, [], ◌∷◌, ◌++◌, Memᴰ as In}
use borrow.Author.Tests.{lt-ltb, le-ltb, ne_eqb}
use lib.Dec.{eqb}
use lib.ListN.{length, get_or, take, drop, length-append}
use Rattle.parts.specs.Pointers.{part, firsts, pointers}
use Rattle.parts.proofs.KindLaws.{pointers_emitted}
use Rattle.rewrite.specs.Table.{Holds}
use lib.Seq.{sets, length-sets}
use Rattle.parts.specs.Parts.{joined}
use Rattle.parts.specs.Kinds.{group_at, kind_at, ipr_to, emitted, Kinded}
use Rattle.rewrite.specs.Emitting.{table_of, place_text, pointers_from, Place, PutsText, Table}
use Rattle.rewrite.proofs.CopyLaws.{sets_append}

-- ---- the group of a column
pub group_low : (x : ℕ) → x < 14 → group_at x ≡ x
unfolding group_at
group_low x h = rw (lt-ltb x 14 h)

pub group_15 : (x : ℕ) → x ≡ 14 → group_at x ≡ 15
unfolding group_at
group_15 x e = rw e

pub group_99 : (x : ℕ) → 14 ≤ x → (x ≡ 14 → ⊥) → group_at x ≡ 99
unfolding group_at
group_99 x h d = rw (le-ltb x 14 h, ne_eqb x 14 d)

group_most : (x : ℕ) → group_at x ≤ 99
group_most x = go (dec_lt x 14) (ℕ_discrete x 14)
  where
    go : Dec (x < 14) → Dec (x ≡ 14) → group_at x ≤ 99
    go (yes h) _ = omega (arith, group_low x h)
    go (no h) (yes e) = omega (arith, group_15 x e)
    go (no h) (no d) = omega (arith, group_99 x (omega (arith, h)) d)

three_bytes : (c g s : ℕ) → g < 256 → s < 256 → (((c * 256 + g) * 256 + s) / 256 / 256 ≡ c) × (((c * 256 + g) * 256 + s) / 256 % 256 ≡ g) × (((c * 256 + g) * 256 + s) % 256 ≡ s)
three_bytes c g s h l =
    let q : ((c * 256 + g) * 256 + s) / 256 ≡ c * 256 + g = omega arith in
    let r : (c * 256 + g) / 256 ≡ c = omega arith in
    let w : (c * 256 + g) % 256 ≡ g = omega arith in
    (rw q r, rw q w, omega arith)

-- ---- the bytes of a place's kind
module _ (j : ℕ) (h : j < 20480) where
  kind_value : kind_at j ≡ ((4 + j / 4096) * 256 + group_at (j / 256 % 16)) * 256 + j % 256
  unfolding kind_at
  kind_value = refl

  kind_bytes : (kind_at j / 256 / 256 ≡ 4 + j / 4096) × (kind_at j / 256 % 256 ≡ group_at (j / 256 % 16)) × (kind_at j % 256 ≡ j % 256)
  kind_bytes = rw kind_value (three_bytes (4 + j / 4096) (group_at (j / 256 % 16)) (j % 256) (omega (arith, group_most (j / 256 % 16))) (omega arith))

  pub kind_class : (4 + j / 4096) % 256 ≡ kind_at j / 256 / 256
  kind_class = let e : (4 + j / 4096) % 256 ≡ 4 + j / 4096 = omega arith in e ∙ sym kind_bytes.0

  pub kind_group : group_at (j / 256 % 16) ≡ kind_at j / 256 % 256
  kind_group = sym kind_bytes.1

  pub kind_subclass : j % 256 ≡ kind_at j % 256
  kind_subclass = sym kind_bytes.2

-- ---- one pointer
pub pointer_list : (m : List ℕ) (k t c g s a b d e : ℕ) → c ≡ k / 256 / 256 → g ≡ k / 256 % 256 → s ≡ k % 256 → a ≡ t / 256 / 256 / 256 % 256 → b ≡ t / 256 / 256 % 256 → d ≡ t / 256 % 256 → e ≡ t % 256
    → 3 ∷ 0 ∷ 0 ∷ 1 ∷ 0 ∷ 0 ∷ 0 ∷ 27 ∷ (part m 8 12 ++ (c ∷ g ∷ s ∷ a ∷ b ∷ d ∷ e ∷ [])) ≡ ipr_to m k t
pointer_list m k t c g s a b d e p q r u v w x = rw (p, q, r, u, v, w, x)

pub ipr_long : (m : List ℕ) (k t : ℕ) → length (ipr_to m k t) ≡ 27
ipr_long m k t = refl

pub ipr_whole : (m : List ℕ) (k t : ℕ) → take 27 (drop 0 (ipr_to m k t)) ≡ ipr_to m k t
ipr_whole m k t = refl

pub place_some : (m : List ℕ) (b : ℕ) (t : List ℕ) (j : ℕ) → (get_or t j 0 ≡ 0 → ⊥) → place_text m b t j ≡ ipr_to m (kind_at j) (b + (get_or t j 0 - 1))
place_some m b t j d = rw (ne_eqb (get_or t j 0) 0 d)

-- ---- place after place
emit_step : (m : List ℕ) (b : ℕ) (t : List ℕ) (j n : ℕ) → joined (emitted m b (table_of t) j (suc n)) ≡ place_text m b t j ++ joined (emitted m b (table_of t) (suc j) n)
emit_step m b t j n = go (eqb (get_or t j 0) 0)
  where
    go : (x : Bool) → joined (cond x (emitted m b (table_of t) (suc j) n) (ipr_to m (kind_at j) (b + (get_or t j 0 - 1)) ∷ emitted m b (table_of t) (suc j) n)) ≡ cond x [] (ipr_to m (kind_at j) (b + (get_or t j 0 - 1))) ++ joined (emitted m b (table_of t) (suc j) n)
    go true = refl
    go false = refl

pub from_step : (m : List ℕ) (b : ℕ) (t : List ℕ) (j : ℕ) → j < 20480 → pointers_from m b t j ≡ place_text m b t j ++ pointers_from m b t (j + 1)
unfolding pointers_from
from_step m b t j h =
    let e : 20480 - j ≡ suc (20480 - (j + 1)) = omega arith in
    let d : suc j ≡ j + 1 = omega arith in
    ap (λ (n : ℕ). joined (emitted m b (table_of t) j n)) e ∙ emit_step m b t j (20480 - (j + 1)) ∙ ap (λ (k : ℕ). place_text m b t j ++ joined (emitted m b (table_of t) k (20480 - (j + 1)))) d

pub from_last : (m : List ℕ) (b : ℕ) (t : List ℕ) (j : ℕ) → 20480 ≤ j → pointers_from m b t j ≡ []
unfolding pointers_from
from_last m b t j h = let e : 20480 - j ≡ 0 = omega arith in ap (λ (n : ℕ). joined (emitted m b (table_of t) j n)) e

pub record Emitting (m : List ℕ) (b : ℕ) (t room₀ : List ℕ) (p : ℕ) (room : List ℕ) (to j : ℕ) : Type 0 where
  pub asked : Table m b t room₀ p
  pub within : j ≤ 20480
  pub long : length room ≡ length room₀
  pub next : to + length (pointers_from m b t j) ≡ p + length (pointers_from m b t 0)
  pub same : sets room to (pointers_from m b t j) ≡ sets room₀ p (pointers_from m b t 0)

pub emit_first : {m t room : List ℕ} {b p : ℕ} → Table m b t room p → Emitting m b t room p room p 0
emit_first a = record { asked = a; within = omega arith; long = refl; next = refl; same = refl }

pub emit_place : {m t room₀ room : List ℕ} {b p to j : ℕ} → Emitting m b t room₀ p room to j → j < 20480 → Place m b t j room to
emit_place {m} {t} {room₀} {room} {b} {p} {to} {j} e h =
    let l = ap length (from_step m b t j h) ∙ length-append (place_text m b t j) (pointers_from m b t (j + 1)) in
    record { head = e.asked.head; low = e.asked.low; inside = h; long = e.asked.long; fits = omega (arith, e.asked.fits, e.next, e.long, l) }

pub emit_next : {m t room₀ room exit : List ℕ} {b p to q j : ℕ} → Emitting m b t room₀ p room to j → j < 20480 → PutsText (place_text m b t j) room to q exit → Emitting m b t room₀ p exit q (j + 1)
emit_next {m} {t} {room₀} {room} {exit} {b} {p} {to} {q} {j} e h o =
    let x = place_text m b t j in
    let y = pointers_from m b t (j + 1) in
    let l = ap length (from_step m b t j h) ∙ length-append x y in
    record {
      asked = e.asked;
      within = omega arith;
      long = ap length o.put ∙ length-sets room to x ∙ e.long;
      next = omega (arith, e.next, l, o.next);
      same =
          ap (λ (r : List ℕ). sets r q y) o.put ∙ ap (λ (k : ℕ). sets (sets room to x) k y) o.next ∙ sym (sets_append room to x y) ∙ ap (sets room to) (sym (from_step m b t j h)) ∙ e.same;
    }

pub emit_last : {m t room₀ room : List ℕ} {b p to j : ℕ} → Emitting m b t room₀ p room to j → 20480 ≤ j → PutsText (pointers_from m b t 0) room₀ p to room
emit_last {m} {t} {room₀} {room} {b} {p} {to} {j} e h =
    let z = from_last m b t j h in
    record {
      next = omega (arith, e.next, ap length z);
      put = ap (sets room to) (sym z) ∙ e.same;
    }

-- ---- WHAT IS PUT is the pointers of the records that the table was marked with
pub pointers_put : (m : List ℕ) (b : ℕ) (ks : List (List ℕ)) (t : List ℕ) (n : ℕ) → ((r : List ℕ) → In r ks → Kinded r) → Holds ks t n → pointers_from m b t 0 ≡ joined (pointers m b (firsts 0 ks))
unfolding pointers_from
pointers_put m b ks t n k h = ap joined (sym (pointers_emitted m b ks k (table_of t) h.place))
