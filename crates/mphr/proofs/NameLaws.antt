-- The laws of the name table: by one test that antt computes over its 2,160 bytes each entry is letters and then spaces and no two are equal; the
-- entries are the layout's names, padded; so a name is found, and has one place. By induction on the entries. Assumes nothing.
use mathlib.Core.Path.{◌≡◌, refl, sym, ap, ◌∙◌}
use mathlib.Core.Bool.{Bool, true, false, not, cond, ◌&&◌, true≢false}
use mathlib.Core.List.{List, [], ◌∷◌, map}
use Prim.Native.Nat.{ℕ, zero, suc, ◌+◌, ◌-◌, ◌*◌, ◌≤◌, ◌<◌}
use native.Mathlib.Nat.{not-suc-le-zero, le_of_suc-le-suc, zero-add, mul-suc, add-zero, suc-add, add-suc}
use native.Mathlib.Omega.{arith}
use borrow.Author.Tests.{eq-eqb, eqb-true}
use lib.Dec.{T, eqb, eqb→eq, leb, leb→le}
use lib.ListN.{length, get_or, drop, replicate, length-append, length-replicate, get_or-append, get_or-map}
use lib.Seq.{get_or-take, get_or-drop, take_at, drop_at}
use lib.Ieee.Fits.{and_l, and_r}
use Rattle.mphr.specs.Layout.{fields, rows, names, name_of, pad, flat}
use Rattle.mphr.specs.Lookup.{same, look_from, field_named}
use Rattle.mphr.specs.NameTable.{all, letter, is_entry, absent, distinct, entries, is_name_table}
use Rattle.calendar.specs.Said.{Said, answer, refusal}

-- THE TEST of the 2,160 bytes, computed
pub name_table : is_name_table names ≡ true
unfolding fields rows names entries is_name_table
name_table = refl

-- of the layout's own names: 72, of 30 letters at most
abbrev plain : List ℕ → Bool
plain r = leb (length r) 30 && all letter r

test : T (eqb (length rows) 72 && all plain rows)
unfolding fields rows
test = tt

pub count : length rows ≡ 72
count = eqb→eq (length rows) 72 (and_l (eqb (length rows) 72) (all plain rows) test)

all_plain : T (all plain rows)
all_plain = and_r (eqb (length rows) 72) (all plain rows) test

-- ---- the rule at each entry
all_at : {A : Type 0} (p : A → Bool) (l : List A) → T (all p l) → (i : ℕ) (d : A) → i < length l → T (p (get_or l i d))
all_at p [] t i d h = absurd (not-suc-le-zero h)
all_at p (x ∷ xs) t zero d h = and_l (p x) (all p xs) t
all_at p (x ∷ xs) t (suc i) d h = all_at p xs (and_r (p x) (all p xs) t) i d (le_of_suc-le-suc h)

module _ (i : ℕ) (h : i < 72) where
  rule : T (plain (name_of i))
  rule = all_at plain rows all_plain i [] (omega (arith, count))

  pub most : length (name_of i) ≤ 30
  most = leb→le (length (name_of i)) 30 (and_l (leb (length (name_of i)) 30) (all letter (name_of i)) rule)

-- ---- the entries are the names, padded; the byte at 30 * i + j of the table
length_pad : (r : List ℕ) → length r ≤ 30 → length (pad r) ≡ 30
length_pad r h = length-append r (replicate (30 - length r) 32) ∙ omega (arith, length-replicate {A = ℕ} (30 - length r) 32)

entries_flat : (rs : List (List ℕ)) → T (all plain rs) → entries (length rs) (flat rs) ≡ map pad rs
unfolding entries
entries_flat [] t = refl
entries_flat (r ∷ rs) t =
    let l = length_pad r (leb→le (length r) 30 (and_l (leb (length r) 30) (all letter r) (and_l (plain r) (all plain rs) t))) in
    rw (take_at (pad r) (flat rs) 30 l, drop_at (pad r) (flat rs) 30 l, entries_flat rs (and_r (plain r) (all plain rs) t))

abbrev pub entry : ℕ → List ℕ
entry i = get_or (entries 72 names) i (pad [])

pub entry_is : (i : ℕ) → entry i ≡ pad (name_of i)
unfolding names
entry_is i = ap (λ (l : List (List ℕ)). get_or l i (pad [])) (rw count at (entries_flat rows all_plain)) ∙ get_or-map pad rows i []

entry_byte : (n : ℕ) (t : List ℕ) (i j : ℕ) → i < n → j < 30 → get_or (get_or (entries n t) i (pad [])) j 0 ≡ get_or t (30 * i + j) 0
unfolding entries
entry_byte zero t i j h k = absurd (not-suc-le-zero h)
entry_byte (suc n) t zero j h k = get_or-take 30 t j 0 k ∙ ap (λ (m : ℕ). get_or t m 0) (omega arith)
entry_byte (suc n) t (suc i) j h k =
    entry_byte n (drop 30 t) i j (le_of_suc-le-suc h) k ∙ get_or-drop 30 t (30 * i + j) 0 ∙ ap (λ (m : ℕ). get_or t m 0) (omega (arith, mul-suc 30 i))

pub at_table : (i j : ℕ) → i < 72 → j < 30 → get_or names (30 * i + j) 0 ≡ get_or (pad (name_of i)) j 0
at_table i j h k = sym (entry_byte 72 names i j h k) ∙ ap (λ (r : List ℕ). get_or r j 0) (entry_is i)

pub pad_in : (r : List ℕ) (j : ℕ) → j < length r → get_or (pad r) j 0 ≡ get_or r j 0
pad_in r j h = get_or-append r (replicate (30 - length r) 32) 0 j h

-- ---- two lists that are the same are equal
pub same_refl : (xs : List ℕ) → same xs xs ≡ true
same_refl [] = refl
same_refl (x ∷ xs) = rw (eq-eqb x x refl) (same_refl xs)

step : (b : Bool) (x y : ℕ) (xs ys : List ℕ) → (b ≡ true → x ≡ y) → (same xs ys ≡ true → xs ≡ ys) → cond b (same xs ys) false ≡ true → x ∷ xs ≡ y ∷ ys
step true x y xs ys f g e = let p : x ≡ y = f refl in let q : xs ≡ ys = g e in cc
step false x y xs ys f g e = absurd (true≢false (sym e))

pub same_eq : (xs ys : List ℕ) → same xs ys ≡ true → xs ≡ ys
same_eq [] [] e = refl
same_eq [] (y ∷ ys) e = absurd (true≢false (sym e))
same_eq (x ∷ xs) [] e = absurd (true≢false (sym e))
same_eq (x ∷ xs) (y ∷ ys) e = step (eqb x y) x y xs ys (eqb-true x y) (same_eq xs ys) e

-- ---- NO TWO ENTRIES ARE EQUAL, so no two names
not_same : (x r : List ℕ) → T (not (same x r)) → x ≡ r → ⊥
not_same x r t e = go (same x r) (ap (same x) (sym e) ∙ same_refl x) t
  where
    go : (b : Bool) → b ≡ true → T (not b) → ⊥
    go true e t = t
    go false e t = true≢false (sym e)

distinct_at : (rs : List (List ℕ)) (d : List ℕ) → T (distinct rs) → (i j : ℕ) → i < length rs → j < length rs → get_or rs i d ≡ get_or rs j d → i ≡ j
distinct_at [] d t i j h k e = absurd (not-suc-le-zero h)
distinct_at (r ∷ rs) d t zero zero h k e = refl
distinct_at (r ∷ rs) d t zero (suc j) h k e =
    absurd (not_same r (get_or rs j d) (all_at (λ (s : List ℕ). not (same r s)) rs (and_l (absent r rs) (distinct rs) t) j d (le_of_suc-le-suc k)) e)
distinct_at (r ∷ rs) d t (suc i) zero h k e =
    absurd (not_same r (get_or rs i d) (all_at (λ (s : List ℕ). not (same r s)) rs (and_l (absent r rs) (distinct rs) t) i d (le_of_suc-le-suc h)) (sym e))
distinct_at (r ∷ rs) d t (suc i) (suc j) h k e =
    ap suc (distinct_at rs d (and_r (absent r rs) (distinct rs) t) i j (le_of_suc-le-suc h) (le_of_suc-le-suc k) e)

entries_length : (n : ℕ) (t : List ℕ) → length (entries n t) ≡ n
unfolding entries
entries_length zero t = refl
entries_length (suc n) t = ap suc (entries_length n (drop 30 t))

table_parts : T (all is_entry (entries 72 names) && distinct (entries 72 names))
unfolding is_name_table
table_parts = and_r (eqb (length names) 2160) (all is_entry (entries 72 names) && distinct (entries 72 names)) (rw name_table tt)

pub entry_rule : (i : ℕ) → i < 72 → T (is_entry (entry i))
entry_rule i h = all_at is_entry (entries 72 names) (and_l (all is_entry (entries 72 names)) (distinct (entries 72 names)) table_parts) i (pad []) (omega (arith, entries_length 72 names))

pub entry_only : (i j : ℕ) → i < 72 → j < 72 → entry i ≡ entry j → i ≡ j
entry_only i j h k e =
    distinct_at (entries 72 names) (pad []) (and_r (all is_entry (entries 72 names)) (distinct (entries 72 names)) table_parts) i j
    (omega (arith, entries_length 72 names)) (omega (arith, entries_length 72 names)) e

pub unique : (i j : ℕ) → i < 72 → j < 72 → name_of i ≡ name_of j → i ≡ j
unique i j h k e = entry_only i j h k (entry_is i ∙ ap pad e ∙ sym (entry_is j))

-- THE SEARCH FINDS IT: the place of a name is what the search gives
pass : (b : Bool) (x y z : Said ℕ) → (b ≡ true → ⊥) → y ≡ z → cond b x y ≡ z
pass true x y z f e = absurd (f refl)
pass false x y z f e = e

find : (rs : List (List ℕ)) (i k : ℕ) → i < length rs → ((m : ℕ) → m < i → get_or rs i [] ≡ get_or rs m [] → ⊥) → look_from rs k (get_or rs i []) ≡ answer (k + i)
find [] i k h d = absurd (not-suc-le-zero h)
find (r ∷ rs) zero k h d = rw (same_refl r) (ap answer (sym (add-zero k)))
find (r ∷ rs) (suc i) k h d =
    pass (same (get_or rs i []) r) (answer k) (look_from rs (suc k) (get_or rs i [])) (answer (k + suc i)) (λ e. d 0 (omega arith) (same_eq (get_or rs i []) r e))
    (find rs i (suc k) (le_of_suc-le-suc h) (λ m l e. d (suc m) (omega arith) e) ∙ ap answer (suc-add k i ∙ sym (add-suc k i)))

pub found : (i : ℕ) → i < 72 → field_named (name_of i) ≡ answer i
found i h = find rows i 0 (omega (arith, count)) (λ m l e. omega (arith, unique i m h (omega arith) e)) ∙ ap answer (zero-add i)

-- and it refuses what is no name
no_row : (rs : List (List ℕ)) (k : ℕ) (xs : List ℕ) → ((i : ℕ) → i < length rs → xs ≡ get_or rs i [] → ⊥) → look_from rs k xs ≡ (refusal 22 0)
no_row [] k xs d = refl
no_row (r ∷ rs) k xs d =
    pass (same xs r) (answer k) (look_from rs (suc k) xs) (refusal 22 0) (λ e. d 0 (omega arith) (same_eq xs r e))
    (no_row rs (suc k) xs (λ i l e. d (suc i) (omega arith) e))

pub no_name : (xs : List ℕ) → ((i : ℕ) → i < 72 → xs ≡ name_of i → ⊥) → field_named xs ≡ (refusal 22 0)
no_name xs d = no_row rows 0 xs (λ i l e. d i (omega (arith, count)) e)

-- a byte of the table, where the name goes so far
pub byte_in : (i j : ℕ) → i < 72 → j < 30 → j < length (name_of i) → get_or names (30 * i + j) 0 ≡ get_or (name_of i) j 0
byte_in i j h k l = at_table i j h k ∙ pad_in (name_of i) j l
