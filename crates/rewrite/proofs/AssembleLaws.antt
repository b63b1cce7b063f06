-- A NEW PRODUCT FROM WHAT WAS GATHERED: the kinds that the table holds are those of the records, so the size, the totals and the pointers are those of the
-- assembled list, part by part; whatever the front and the records are. Assumes nothing.
use Prim.Native.Nat.{ℕ, zero, suc, ◌+◌, ◌-◌, ◌*◌, ◌≤◌, ◌<◌}
use native.Mathlib.Decide.{dec_le, ℕ_discrete}
use native.Mathlib.Omega.{arith}
use mathlib.Core.Path.{◌≡◌, refl, sym, ap, subst, ◌∙◌}
use mathlib.Core.Bool.{Bool, true, false, cond}
use mathlib.Core.List.Memᴰ.{head as top}
use mathlib.Core.List.Memᴰ.{tail as pop}
use mathlib.Core.List.{List, [], ◌∷◌, ◌++◌, append_assoc, Memᴰ as In}
use borrow.Author.Tests.{eq-eqb, ne_eqb}
use lib.Dec.{eqb}
use lib.ListN.{length, get_or, set, take, length-append, length-set}
use lib.Seq.{sets, get_or-take, get_or-set_same, get_or-set_other}
use Rattle.demands.specs.Product.{class}
use Rattle.parts.specs.Parts.{joined, count, main_of}
use Rattle.parts.specs.Pointers.{Entry, part, word, ipr, firsts, pointers, base, assembled}
use Rattle.parts.specs.Rewritten.{Holdable}
use Rattle.parts.specs.Kinds.{kind_at, ipr_to, emitted, Kinded}
use Rattle.parts.proofs.Built.{bytes_joined}
use Rattle.parts.proofs.Assembled.{pointers_class, pointers_bytes, assembled_bytes}
use Rattle.parts.proofs.CutHeaderLaws.{count_most}
use Rattle.parts.proofs.KindLaws.{pointers_emitted}
use Rattle.rewrite.specs.Table.{Holds, filled_to}
use Rattle.rewrite.specs.Emitting.{table_of, pointers_from}
use Rattle.rewrite.specs.Lining.{Totals}
use Rattle.rewrite.specs.Assembling.{TotalsOf, with_pointers, Collected, size_of, Unplanned, big, long, Planned}
use Rattle.rewrite.proofs.CopyLaws.{sets_append}
use Rattle.rewrite.proofs.EmitLaws.{pointers_put}

-- ---- lists
pub joined_append : (xs ys : List (List ℕ)) → joined (xs ++ ys) ≡ joined xs ++ joined ys
joined_append [] ys = refl
joined_append (x ∷ xs) ys = ap (λ (l : List ℕ). x ++ l) (joined_append xs ys) ∙ sym (append_assoc x (joined xs) (joined ys))

pub count_append : (c : ℕ) (xs ys : List (List ℕ)) → count c (xs ++ ys) ≡ count c xs + count c ys
count_append c [] ys = omega arith
count_append c (x ∷ xs) ys = omega (arith, count_append c xs ys)

pub count_none : (c : ℕ) (xs : List (List ℕ)) → ((r : List ℕ) → In r xs → class r 0 ≡ c → ⊥) → count c xs ≡ 0
count_none c [] f = refl
count_none c (x ∷ xs) f = rw (ne_eqb (class x 0) c (f x (top refl))) (omega (arith, count_none c xs (λ r n. f r (pop n))))

pub count_all : (c : ℕ) (xs : List (List ℕ)) → ((r : List ℕ) → In r xs → class r 0 ≡ c) → count c xs ≡ length xs
count_all c [] f = refl
count_all c (x ∷ xs) f = rw (eq-eqb (class x 0) c (f x (top refl))) (omega (arith, count_all c xs (λ r n. f r (pop n))))

pointers_length : (m : List ℕ) (b : ℕ) (es : List Entry) → length (pointers m b es) ≡ length es
pointers_length m b [] = refl
pointers_length m b (e ∷ es) = ap suc (pointers_length m b es)

-- ---- how many kinds there are
filled_from : (t m : List ℕ) (b n j : ℕ) → filled_to t (j + n) ≡ filled_to t j + length (emitted m b (table_of t) j n)
unfolding filled_to
filled_from t m b zero j = let e : j + 0 ≡ j = omega arith in rw e (omega arith)
filled_from t m b (suc n) j =
    let e : j + suc n ≡ suc j + n = omega arith in
    ap (filled_to t) e ∙ filled_from t m b n (suc j) ∙ go (eqb (get_or t j 0) 0)
  where
    go : (x : Bool) → filled_to t j + cond x 0 1 + length (emitted m b (table_of t) (suc j) n) ≡ filled_to t j + length (cond x (emitted m b (table_of t) (suc j) n) (ipr_to m (kind_at j) (b + (get_or t j 0 - 1)) ∷ emitted m b (table_of t) (suc j) n))
    go true = omega arith
    go false = omega arith

filled_all : (t m : List ℕ) (b n : ℕ) (x : List (List ℕ)) → x ≡ emitted m b (table_of t) 0 n → filled_to t n ≡ length x
unfolding filled_to
filled_all t m b n x e =
    let z : 0 + n ≡ n = omega arith in
    let q : filled_to t 0 + length (emitted m b (table_of t) 0 n) ≡ length (emitted m b (table_of t) 0 n) = omega arith in
    ap (filled_to t) (sym z) ∙ filled_from t m b n 0 ∙ q ∙ ap length (sym e)

pub filled_most : (t : List ℕ) (n : ℕ) → filled_to t n ≤ n
unfolding filled_to
filled_most t zero = omega arith
filled_most t (suc n) = go (eqb (get_or t n 0) 0) (filled_most t n)
  where
    go : (x : Bool) → filled_to t n ≤ n → filled_to t n + cond x 0 1 ≤ suc n
    go true h = omega arith
    go false h = omega arith

-- ---- the pointers rest on 12 bytes of the main header
part_take : (a : List ℕ) (k i n : ℕ) → i + n ≤ k → part (take k a) i n ≡ part a i n
part_take a k i zero h = refl
part_take a k i (suc n) h = ap (λ (x : ℕ). x ∷ part (take k a) (i + 1) n) (get_or-take k a i 0 (omega arith)) ∙ ap (λ (l : List ℕ). get_or a i 0 ∷ l) (part_take a k (i + 1) n (omega arith))

pointers_main : (a : List ℕ) (b : ℕ) (es : List Entry) → pointers a b es ≡ pointers (main_of a) b es
pointers_main a b [] = refl
pointers_main a b (e ∷ es) =
    ap (λ (x : List ℕ). (3 ∷ 0 ∷ 0 ∷ 1 ∷ 0 ∷ 0 ∷ 0 ∷ 27 ∷ (x ++ (part e.first 0 3 ++ word (b + e.at)))) ∷ pointers a b es) (sym (part_take a 3307 8 12 (omega arith)))
    ∙ ap (λ (l : List (List ℕ)). ipr (main_of a) e.first (b + e.at) ∷ l) (pointers_main a b es)

-- ---- the tally with the pointers
module _ (t : List ℕ) (n k : ℕ) (nine : length t ≡ 9) where
  with_long : length (with_pointers t n k) ≡ 9
  with_long = simp length-set nine

  with_0 : get_or (with_pointers t n k) 0 0 ≡ 1 + n + k
  with_0 =
      get_or-set_other (set (set t 0 (1 + n + k)) 1 1) 3 0 k 0 (λ e. omega arith)
      ∙ get_or-set_other (set t 0 (1 + n + k)) 1 0 1 0 (λ e. omega arith)
      ∙ get_or-set_same t 0 (1 + n + k) 0 (omega arith)

  with_1 : get_or (with_pointers t n k) 1 0 ≡ 1
  with_1 =
      get_or-set_other (set (set t 0 (1 + n + k)) 1 1) 3 1 k 0 (λ e. omega arith)
      ∙ get_or-set_same (set t 0 (1 + n + k)) 1 1 0 (simp length-set (omega arith))

  with_3 : get_or (with_pointers t n k) 3 0 ≡ k
  with_3 = get_or-set_same (set (set t 0 (1 + n + k)) 1 1) 3 k 0 (simp length-set (omega arith))

  with_other : (c : ℕ) → 2 ≤ c → (c ≡ 3 → ⊥) → get_or (with_pointers t n k) c 0 ≡ get_or t c 0
  with_other c h d =
      get_or-set_other (set (set t 0 (1 + n + k)) 1 1) 3 c k 0 d
      ∙ get_or-set_other (set t 0 (1 + n + k)) 1 c 1 0 (λ e. omega arith)
      ∙ get_or-set_other t 0 c (1 + n + k) 0 (λ e. omega arith)

-- ---- OF A FRONT AND THE RECORDS THAT ARE POINTED TO
module _ (m : List ℕ) (fs ks : List (List ℕ)) where
  records_are : length (assembled m fs ks) ≡ length fs + (length (firsts 0 ks) + length ks)
  records_are =
      let p = pointers m (base fs ks) (firsts 0 ks) in
      length-append fs (p ++ ks) ∙ omega (arith, length-append p ks, pointers_length m (base fs ks) (firsts 0 ks))

  classes_are : (c : ℕ) → count c (assembled m fs ks) ≡ count c fs + count c ks + count c (pointers m (base fs ks) (firsts 0 ks))
  classes_are c = let p = pointers m (base fs ks) (firsts 0 ks) in count_append c fs (p ++ ks) ∙ omega (arith, count_append c p ks)

  -- its text
  pub assembled_text : (b : ℕ) → b ≡ base fs ks → joined (assembled m fs ks) ≡ joined fs ++ (joined (pointers m b (firsts 0 ks)) ++ joined ks)
  assembled_text b e =
      joined_append fs (pointers m (base fs ks) (firsts 0 ks) ++ ks)
      ∙ ap (λ (l : List ℕ). joined fs ++ l) (joined_append (pointers m (base fs ks) (firsts 0 ks)) ks)
      ∙ ap (λ (b : ℕ). joined fs ++ (joined (pointers m b (firsts 0 ks)) ++ joined ks)) (sym e)

-- what the table gives is the pointers
pub pointers_text :
    {ks : List (List ℕ)} {table : List ℕ} {n : ℕ} (a : List ℕ) → Holds ks table n → ((r : List ℕ) → In r ks → Kinded r) → (b : ℕ)
    → pointers_from a b table 0 ≡ joined (pointers (main_of a) b (firsts 0 ks))
pointers_text {ks} {table} {n} a h k b = pointers_put a b ks table n k h ∙ ap joined (pointers_main a b (firsts 0 ks))

pub pointers_long :
    {ks : List (List ℕ)} {table : List ℕ} {n : ℕ} (a : List ℕ) → Holds ks table n → ((r : List ℕ) → In r ks → Kinded r) → (b : ℕ)
    → length (pointers_from a b table 0) ≡ 27 * length (firsts 0 ks)
pointers_long {ks} a h k b =
    ap length (pointers_text a h k b) ∙ bytes_joined (pointers (main_of a) b (firsts 0 ks)) ∙ pointers_bytes (main_of a) b (firsts 0 ks)

module _ {fs ks : List (List ℕ)} {table tally : List ℕ} {front kept records : ℕ} (g : Collected fs ks table tally front kept records) (m : List ℕ) (n : ℕ) (e : n ≡ filled_to table 20480) where
  kinds_are : n ≡ length (firsts 0 ks)
  kinds_are =
      e ∙ filled_all table [] 0 20480 (pointers [] 0 (firsts 0 ks)) (pointers_emitted [] 0 ks g.kinded (table_of table) g.holds.place) ∙ pointers_length [] 0 (firsts 0 ks)

  base_are : 3307 + front + 27 * n ≡ base fs ks
  base_are = omega (arith, kinds_are, g.front_is)

  size_are : 3307 + front + 27 * n + kept ≡ size_of m fs ks
  size_are = omega (arith, base_are, g.holds.count, assembled_bytes m fs ks)

  totals_are : TotalsOf (assembled m fs ks) (with_pointers tally records n)
  totals_are = record {
    nine = with_long tally records n g.nine;
    all = with_0 tally records n g.nine ∙ omega (arith, records_are m fs ks, g.records_are, kinds_are);
    main = with_1 tally records n g.nine;
    each = λ c h l. go c h l (ℕ_discrete c 3);
  }
    where
      ps : List (List ℕ)
      ps = pointers m (base fs ks) (firsts 0 ks)

      go : (c : ℕ) → 2 ≤ c → c ≤ 8 → Dec (c ≡ 3) → get_or (with_pointers tally records n) c 0 ≡ count c (assembled m fs ks)
      go c h l (yes d) =
          let x = count_none 3 fs (λ r i z. omega (arith, g.two r i)) in
          let y = count_none 3 ks (λ r i z. omega (arith, (g.kinded r i).four)) in
          let z = count_all 3 (pointers m (base fs ks) (firsts 0 ks)) (pointers_class m (base fs ks) (firsts 0 ks)) ∙ pointers_length m (base fs ks) (firsts 0 ks) in
          rw d (with_3 tally records n g.nine ∙ omega (arith, classes_are m fs ks 3, x, y, z, kinds_are))
      go c h l (no d) =
          let z = count_none c (pointers m (base fs ks) (firsts 0 ks)) (λ r i w. d (sym w ∙ pointers_class m (base fs ks) (firsts 0 ks) r i)) in
          with_other tally records n g.nine c h d ∙ omega (arith, g.each c (omega arith), classes_are m fs ks c, z)

  -- ---- THE PLAN
  pub plan_big : (size room : ℕ) (t : List ℕ) → size ≡ 3307 + front + 27 * n + kept → 2147483647 < size → Unplanned m fs ks room 28 0
  plan_big size room t d h = big (λ k. omega (arith, size_are, k.size))

  pub plan_many : (t : List ℕ) (room : ℕ) → t ≡ with_pointers tally records n → 999999 < get_or t 0 0 → Unplanned m fs ks room 28 0
  plan_many t room d h = big (λ k. omega (arith, ap (λ (l : List ℕ). get_or l 0 0) d, totals_are.all, k.all))

  holdable : (size : ℕ) (t : List ℕ) → size ≡ 3307 + front + 27 * n + kept → t ≡ with_pointers tally records n → size ≤ 2147483647 → get_or t 0 0 ≤ 999999 → Holdable (assembled m fs ks)
  holdable size t d c h l = record { size = omega (arith, size_are); all = omega (arith, ap (λ (l : List ℕ). get_or l 0 0) c, totals_are.all) }

  pub plan_long :
      (size room : ℕ) (t : List ℕ) → size ≡ 3307 + front + 27 * n + kept → t ≡ with_pointers tally records n → size ≤ 2147483647 → get_or t 0 0 ≤ 999999 → room < size
      → Unplanned m fs ks room 18 size
  plan_long size room t d c h l r = subst (λ (k : ℕ). Unplanned m fs ks room 18 k) (sym (d ∙ size_are)) (long (holdable size t d c h l) (omega (arith, size_are)))

  pub plan_fits :
      (at size room : ℕ) (t : List ℕ) → at ≡ 3307 + front + 27 * n → size ≡ at + kept → t ≡ with_pointers tally records n → size ≤ 2147483647 → get_or t 0 0 ≤ 999999 → size ≤ room
      → Planned m fs ks room at size t
  plan_fits at size room t b d c h l r =
      let z : size ≡ 3307 + front + 27 * n + kept = omega (arith, b, d) in
      record {
        base_is = b ∙ base_are;
        size_is = z ∙ size_are;
        holdable = holdable size t z c h l;
        fits = r;
        totals_of = subst (TotalsOf (assembled m fs ks)) (sym c) totals_are;
      }

-- the totals fit their lines
pub totals_fit : {ps : List (List ℕ)} {totals : List ℕ} → TotalsOf ps totals → Holdable ps → Totals totals
totals_fit {ps} {totals} n h = record { nine = n.nine; most = λ j l. go j l (dec_le 2 j) (ℕ_discrete j 0) }
  where
    go : (j : ℕ) → j < 9 → Dec (2 ≤ j) → Dec (j ≡ 0) → get_or totals j 0 ≤ 999999
    go j l (yes k) _ = omega (arith, n.each j k (omega arith), count_most j ps, h.all)
    go j l (no k) (yes z) = rw z (omega (arith, n.all, h.all))
    go j l (no k) (no d) = let z : j ≡ 1 = omega (arith, k, d) in rw z (omega (arith, n.main))

-- ---- the four texts, one after the other
pub put_together :
    (room m f p k x₁ x₂ x₃ x₄ : List ℕ) → length m ≡ 3307 → x₁ ≡ sets room 0 m → x₂ ≡ sets x₁ 3307 f → x₃ ≡ sets x₂ (3307 + length f) p → x₄ ≡ sets x₃ (3307 + length f + length p) k
    → x₄ ≡ sets room 0 (m ++ (f ++ (p ++ k)))
put_together room m f p k x₁ x₂ x₃ x₄ l e₁ e₂ e₃ e₄ =
    let z : 0 + length m ≡ 3307 = omega (arith, l) in
    let one : sets room 0 (m ++ (f ++ (p ++ k))) ≡ sets x₁ 3307 (f ++ (p ++ k)) = sets_append room 0 m (f ++ (p ++ k)) ∙ ap (λ (n : ℕ). sets (sets room 0 m) n (f ++ (p ++ k))) z ∙ ap (λ (x : List ℕ). sets x 3307 (f ++ (p ++ k))) (sym e₁) in
    let two : sets x₁ 3307 (f ++ (p ++ k)) ≡ sets x₂ (3307 + length f) (p ++ k) = sets_append x₁ 3307 f (p ++ k) ∙ ap (λ (x : List ℕ). sets x (3307 + length f) (p ++ k)) (sym e₂) in
    let three : sets x₂ (3307 + length f) (p ++ k) ≡ sets x₃ (3307 + length f + length p) k = sets_append x₂ (3307 + length f) p k ∙ ap (λ (x : List ℕ). sets x (3307 + length f + length p) k) (sym e₃) in
    sym (one ∙ two ∙ three ∙ sym e₄)
