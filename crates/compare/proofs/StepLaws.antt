-- The walk beside the original, record by record: what is skipped, what is matched and what is left says the same as the whole. By the step of a walk and
-- the definition of `against`. Assumes nothing.
use Prim.Native.Nat.{ℕ, ◌+◌, ◌≤◌, ◌<◌}
use native.Mathlib.Omega.{arith}
use mathlib.Core.Path.{◌≡◌, refl, sym, ap, subst, ◌∙◌}
use mathlib.Core.Bool.{Bool, true, false, cond}
use mathlib.Core.List.{List, [], ◌∷◌}
use borrow.Author.Tests.{eq-eqb, ne_eqb}
use lib.ListN.{length, get_or, take, drop}
use Rattle.demands.specs.Product.{class, size}
use Rattle.parts.specs.Parts.{record_at}
use Rattle.parts.specs.Only.{only, is_mdr}
use Rattle.parts.specs.Against.{same, Found, before, earliest, unlike, is_fixed, on_match, on_next, against}
use Rattle.parts.specs.Walk.{Walk}
use Rattle.parts.proofs.WalkLaws.{Next, next, walk_next, walk_none, ahead_size, ahead_class, one_walk}
use Rattle.parts.proofs.AgainstLaws.{same_is, same_refl}
use Rattle.std.specs.declared.option.Option.TheVariants.{Some, None}
use Rattle.compare.specs.declared.walk.Places.{Places}
use Rattle.compare.specs.Comparing.{Standing}
use Rattle.compare.specs.Walking.{fixed_class, Fixing, NextIs, Seeking, FixedIs, EarliestIs, Left, left_verdict, Turning, GoesOn, TurnedIs, Both, RecordsIs, Comparing}
use Rattle.bytewise.proofs.CompareLaws.{part_long}

-- ---- the record at a byte that is left
pub record Here (a : List ℕ) (i : ℕ) (rs : List (List ℕ)) : Type 0 where
  pub one : List ℕ
  pub after : List (List ℕ)
  pub split : rs ≡ one ∷ after
  pub stands : Standing a i
  pub least : 20 ≤ size a i
  pub long : size a i ≡ length one
  pub class : get_or a i 0 ≡ class one 0
  pub part : record_at a i ≡ one
  pub walk : Walk a (i + size a i) after

pub here : {a : List ℕ} {i : ℕ} {rs : List (List ℕ)} → Walk a i rs → i < length a → Here a i rs
here {a} {i} w h = go (walk_next w h)
  where
    go : {rs : List (List ℕ)} → Next a i rs → Here a i rs
    go (next {r} {rs} k v) =
        let e = ahead_size k in
        record {
          one = r;
          after = rs;
          split = refl;
          stands = record { header = omega (arith, k.own.least, k.most); most = omega (arith, e, k.most) };
          least = omega (arith, e, k.own.least);
          long = e;
          class = ahead_class k;
          part = ap (λ (n : ℕ). take n (drop i a)) e ∙ k.part;
          walk = subst (λ (n : ℕ). Walk a (i + n) rs) (sym e) v;
        }

-- ---- two records
same_not : (x y : List ℕ) → (x ≡ y → ⊥) → same x y ≡ false
same_not x y d = go (same x y) refl
  where
    go : (b : Bool) → same x y ≡ b → b ≡ false
    go true e = absurd (d (same_is x y e))
    go false e = refl

same_yes : (x y : List ℕ) → x ≡ y → same x y ≡ true
same_yes x y e = ap (same x) (sym e) ∙ same_refl x

-- ---- WHAT IS SKIPPED on the way to the next SPHR or auxiliary record
pub record Skipping (a : List ℕ) (f i : ℕ) : Type 0 where
  pub small : length a ≤ 2147483647
  pub rest : List (List ℕ)
  pub walk : Walk a i rest
  pub same : (rs : List (List ℕ)) → Walk a f rs → only is_fixed rs ≡ only is_fixed rest

pub skip_first : {a : List ℕ} {i : ℕ} → Fixing a i → Skipping a i i
skip_first s = record { small = s.small; rest = s.records; walk = s.walk; same = λ rs w. ap (only is_fixed) (one_walk rs s.records w s.walk) }

fixed_there : {a : List ℕ} {i : ℕ} {rs : List (List ℕ)} (h : Here a i rs) → fixed_class (get_or a i 0) ≡ is_fixed h.one
fixed_there h = ap fixed_class h.class

pub skip_on : {a : List ℕ} {f i : ℕ} → Skipping a f i → i < length a → fixed_class (get_or a i 0) ≡ false → Skipping a f (i + size a i)
skip_on s l e =
    let h = here s.walk l in
    let n : is_fixed h.one ≡ false = sym (fixed_there h) ∙ e in
    record {
      small = s.small;
      rest = h.after;
      walk = h.walk;
      same = λ rs w. s.same rs w ∙ ap (only is_fixed) h.split ∙ ap (λ (b : Bool). cond b (h.one ∷ only is_fixed h.after) (only is_fixed h.after)) n;
    }

-- none is left; or the next is the first of those that are left
next_none : {a : List ℕ} {f j : ℕ} (n : NextIs a f j) → length a ≤ j → (rs : List (List ℕ)) → Walk a f rs → only is_fixed rs ≡ []
next_none n l rs w = n.same rs w ∙ ap (only is_fixed) (walk_none n.walk l)

next_one : {a : List ℕ} {f j : ℕ} (n : NextIs a f j) (l : j < length a) (rs : List (List ℕ)) → Walk a f rs → only is_fixed rs ≡ (here n.walk l).one ∷ only is_fixed (here n.walk l).after
next_one n l rs w =
    let h = here n.walk l in
    n.same rs w ∙ ap (only is_fixed) h.split ∙ ap (λ (b : Bool). cond b (h.one ∷ only is_fixed h.after) (only is_fixed h.after)) (sym (fixed_there h) ∙ n.first l)

-- ---- AN SPHR OR AUXILIARY RECORD of the cut
module _ {a : List ℕ} {i : ℕ} {b : List ℕ} {j n : ℕ} (s : Seeking a i b j n) {r : ℕ} (x : NextIs a i r) where
  pub fixed_none : length a ≤ r → FixedIs a i b j n None
  fixed_none l rs w k p = ap (λ (fs : List (List ℕ)). on_next (take n (drop j b)) fs k p) (next_none x l rs w)

  pub fixed_stands : r < length a → Standing a r
  fixed_stands l = (here x.walk l).stands

  pub fixed_other : r < length a → (take n (drop j b) ≡ record_at a r → ⊥) → FixedIs a i b j n None
  fixed_other l d rs w k p =
      let h = here x.walk l in
      ap (λ (fs : List (List ℕ)). on_next (take n (drop j b)) fs k p) (next_one x l rs w)
      ∙ ap (λ (t : Bool). cond t (k (only is_fixed h.after)) (unlike p)) (same_not (take n (drop j b)) h.one (λ e. d (e ∙ sym h.part)))

  fixed_long : (l : r < length a) → take n (drop j b) ≡ record_at a r → n ≡ size a r
  fixed_long l e = let h = here x.walk l in sym (part_long b j n s.come) ∙ ap length (e ∙ h.part) ∙ sym h.long

  pub fixed_same : r < length a → take n (drop j b) ≡ record_at a r → FixedIs a i b j n (Some (r + n))
  fixed_same l e rs w =
      let h = here x.walk l in
      record {
        rest = h.after;
        walk = subst (λ (m : ℕ). Walk a (r + m) h.after) (sym (fixed_long l e)) h.walk;
        goes = λ k p.
            ap (λ (fs : List (List ℕ)). on_next (take n (drop j b)) fs k p) (next_one x l rs w)
            ∙ ap (λ (t : Bool). cond t (k (only is_fixed h.after)) (unlike p)) (same_yes (take n (drop j b)) h.one (e ∙ h.part));
      }

-- ---- AN MDR of the cut
pub record Searching (a : List ℕ) (f : ℕ) (b : List ℕ) (j n i : ℕ) : Type 0 where
  pub seeking : Seeking a f b j n
  pub rest : List (List ℕ)
  pub walk : Walk a i rest
  pub same :
      (rs : List (List ℕ)) → Walk a f rs → is_mdr (take n (drop j b)) ≡ true
      → earliest (take n (drop j b)) (only is_mdr rs) ≡ earliest (take n (drop j b)) (only is_mdr rest)

pub search_first : {a : List ℕ} {f : ℕ} {b : List ℕ} {j n : ℕ} → Seeking a f b j n → Searching a f b j n f
search_first {b = b} {j = j} {n = n} s =
    record {
      seeking = s;
      rest = s.fixing.records;
      walk = s.fixing.walk;
      same = λ rs w _. ap (λ (ms : List (List ℕ)). earliest (take n (drop j b)) (only is_mdr ms)) (one_walk rs s.fixing.records w s.fixing.walk);
    }

passed : (c y : List ℕ) (ys : List (List ℕ)) → (c ≡ y → ⊥) → earliest c (only is_mdr (y ∷ ys)) ≡ earliest c (only is_mdr ys)
passed c y ys d = go (is_mdr y)
  where
    go : (b : Bool) → earliest c (cond b (y ∷ only is_mdr ys) (only is_mdr ys)) ≡ earliest c (only is_mdr ys)
    go true = rw (same_not c y d) refl
    go false = refl

met : (c y : List ℕ) (ys : List (List ℕ)) → is_mdr c ≡ true → c ≡ y → earliest c (only is_mdr (y ∷ ys)) ≡ before (only is_mdr ys)
met c y ys m e =
    let n : is_mdr y ≡ true = ap is_mdr (sym e) ∙ m in
    ap (λ (b : Bool). earliest c (cond b (y ∷ only is_mdr ys) (only is_mdr ys))) n
    ∙ ap (λ (b : Bool). cond b (before (only is_mdr ys)) (earliest c (only is_mdr ys))) (same_yes c y e)

module _ {a : List ℕ} {f : ℕ} {b : List ℕ} {j n i : ℕ} (s : Searching a f b j n i) where
  pub search_stands : i < length a → Standing a i
  search_stands l = (here s.walk l).stands

  pub search_least : i < length a → 20 ≤ size a i
  search_least l = (here s.walk l).least

  pub search_on : i < length a → (take n (drop j b) ≡ record_at a i → ⊥) → Searching a f b j n (i + size a i)
  search_on l d =
      let h = here s.walk l in
      record {
        seeking = s.seeking;
        rest = h.after;
        walk = h.walk;
        same = λ rs w m.
            s.same rs w m
            ∙ ap (λ (ms : List (List ℕ)). earliest (take n (drop j b)) (only is_mdr ms)) h.split
            ∙ passed (take n (drop j b)) h.one h.after (λ e. d (e ∙ sym h.part));
      }

  search_long : (l : i < length a) → take n (drop j b) ≡ record_at a i → n ≡ size a i
  search_long l e = let h = here s.walk l in sym (part_long b j n s.seeking.come) ∙ ap length (e ∙ h.part) ∙ sym h.long

  pub search_found : i < length a → take n (drop j b) ≡ record_at a i → EarliestIs a f b j n (Some (i + n))
  search_found l e rs w m =
      let h = here s.walk l in
      record {
        rest = h.after;
        walk = subst (λ (k : ℕ). Walk a (i + k) h.after) (sym (search_long l e)) h.walk;
        goes = λ k p.
            ap (λ (x : Found). on_match x k p)
            (s.same rs w m
            ∙ ap (λ (ms : List (List ℕ)). earliest (take n (drop j b)) (only is_mdr ms)) h.split
            ∙ met (take n (drop j b)) h.one h.after m (e ∙ h.part));
      }

  pub search_end : length a ≤ i → EarliestIs a f b j n None
  search_end l rs w m k p =
      ap (λ (x : Found). on_match x k p) (s.same rs w m ∙ ap (λ (ms : List (List ℕ)). earliest (take n (drop j b)) (only is_mdr ms)) (walk_none s.walk l))

-- ---- WHAT IS LEFT is one
left_one : {a : List ℕ} {f m : ℕ} {b : List ℕ} {i : ℕ} (l k : Left a f m b i) → left_verdict l ≡ left_verdict k
left_one {i = i} l k =
    ap (λ (x : List (List ℕ)). against i x (only is_fixed l.fs) (only is_mdr l.ms)) (one_walk l.cs k.cs l.cut k.cut)
    ∙ ap (λ (x : List (List ℕ)). against i k.cs (only is_fixed x) (only is_mdr l.ms)) (one_walk l.fs k.fs l.fixed k.fixed)
    ∙ ap (λ (x : List (List ℕ)). against i k.cs (only is_fixed k.fs) (only is_mdr x)) (one_walk l.ms k.ms l.mdrs k.mdrs)

-- ---- A TURN, by what the record is
against_pointer : (i : ℕ) (c : List ℕ) (cs fs ms : List (List ℕ)) → class c 0 ≡ 3 → against i (c ∷ cs) fs ms ≡ against (i + length c) cs fs ms
against_pointer i c cs fs ms e = rw (eq-eqb (class c 0) 3 e) refl

against_mdr :
    (i : ℕ) (c : List ℕ) (cs fs ms : List (List ℕ)) → class c 0 ≡ 8
    → against i (c ∷ cs) fs ms ≡ on_match (earliest c ms) (λ (xs : List (List ℕ)). against (i + length c) cs fs xs) i
against_mdr i c cs fs ms e = rw (ne_eqb (class c 0) 3 (λ d. omega (arith, e)), eq-eqb (class c 0) 8 e) refl

against_fixed :
    (i : ℕ) (c : List ℕ) (cs fs ms : List (List ℕ)) → (class c 0 ≡ 3 → ⊥) → (class c 0 ≡ 8 → ⊥)
    → against i (c ∷ cs) fs ms ≡ on_next c fs (λ (xs : List (List ℕ)). against (i + length c) cs xs ms) i
against_fixed i c cs fs ms d e = rw (ne_eqb (class c 0) 3 d, ne_eqb (class c 0) 8 e) refl

module _ {a : List ℕ} {z : Places} {b : List ℕ} {i n : ℕ} (t : Turning a z b i n) where
  at : Here b i t.left.cs
  at = here t.left.cut t.inside

  pub turn_come : i + n ≤ length b
  turn_come = omega (arith, t.sized, at.stands.most)

  part : take n (drop i b) ≡ at.one
  part = ap (λ (k : ℕ). take k (drop i b)) t.sized ∙ at.part

  long : i + length at.one ≡ i + n
  long = omega (arith, at.long, t.sized)

  walks : Walk b (i + n) at.after
  walks = subst (λ (k : ℕ). Walk b (i + k) at.after) (sym t.sized) at.walk

  pub turn_mdr : Seeking a z.mdr b i n
  turn_mdr = record { fixing = record { small = t.small; records = t.left.ms; walk = t.left.mdrs }; come = turn_come }

  pub turn_fixed : Seeking a z.fixed b i n
  turn_fixed = record { fixing = record { small = t.small; records = t.left.fs; walk = t.left.fixed }; come = turn_come }

  whole : (l : Left a z.fixed z.mdr b i) → left_verdict l ≡ against i (at.one ∷ at.after) (only is_fixed t.left.fs) (only is_mdr t.left.ms)
  whole l = left_one l t.left ∙ ap (λ (x : List (List ℕ)). against i x (only is_fixed t.left.fs) (only is_mdr t.left.ms)) at.split

  pub on_pointer : get_or b i 0 ≡ 3 → GoesOn a z b i n z
  on_pointer e = record {
    left = record { cs = at.after; fs = t.left.fs; ms = t.left.ms; cut = walks; fixed = t.left.fixed; mdrs = t.left.mdrs };
    same = λ l.
        whole l
        ∙ against_pointer i at.one at.after (only is_fixed t.left.fs) (only is_mdr t.left.ms) (sym at.class ∙ e)
        ∙ ap (λ (k : ℕ). against k at.after (only is_fixed t.left.fs) (only is_mdr t.left.ms)) long;
  }

  module _ (e : get_or b i 0 ≡ 8) where
    is_mdr_lem : is_mdr (take n (drop i b)) ≡ true
    is_mdr_lem = ap is_mdr part ∙ eq-eqb (class at.one 0) 8 (sym at.class ∙ e)

    mdr_step : (l : Left a z.fixed z.mdr b i) → left_verdict l ≡ on_match (earliest (take n (drop i b)) (only is_mdr t.left.ms)) (λ (xs : List (List ℕ)). against (i + n) at.after (only is_fixed t.left.fs) xs) i
    mdr_step l =
        whole l
        ∙ against_mdr i at.one at.after (only is_fixed t.left.fs) (only is_mdr t.left.ms) (sym at.class ∙ e)
        ∙ ap (λ (k : ℕ). on_match (earliest at.one (only is_mdr t.left.ms)) (λ (xs : List (List ℕ)). against k at.after (only is_fixed t.left.fs) xs) i) long
        ∙ ap (λ (c : List ℕ). on_match (earliest c (only is_mdr t.left.ms)) (λ (xs : List (List ℕ)). against (i + n) at.after (only is_fixed t.left.fs) xs) i) (sym part)

    pub mdr_nowhere : EarliestIs a z.mdr b i n None → TurnedIs a z b i n None
    mdr_nowhere x l = mdr_step l ∙ x t.left.ms t.left.mdrs is_mdr_lem (λ (xs : List (List ℕ)). against (i + n) at.after (only is_fixed t.left.fs) xs) i

    pub mdr_after : (j : ℕ) → EarliestIs a z.mdr b i n (Some j) → TurnedIs a z b i n (Some (record { fixed = z.fixed; mdr = j }))
    mdr_after j x =
        let g = x t.left.ms t.left.mdrs is_mdr_lem in
        record {
          left = record { cs = at.after; fs = t.left.fs; ms = g.rest; cut = walks; fixed = t.left.fixed; mdrs = g.walk };
          same = λ l. mdr_step l ∙ g.goes (λ (xs : List (List ℕ)). against (i + n) at.after (only is_fixed t.left.fs) xs) i;
        }

  module _ (d : get_or b i 0 ≡ 3 → ⊥) (e : get_or b i 0 ≡ 8 → ⊥) where
    fixed_step : (l : Left a z.fixed z.mdr b i) → left_verdict l ≡ on_next (take n (drop i b)) (only is_fixed t.left.fs) (λ (xs : List (List ℕ)). against (i + n) at.after xs (only is_mdr t.left.ms)) i
    fixed_step l =
        whole l
        ∙ against_fixed i at.one at.after (only is_fixed t.left.fs) (only is_mdr t.left.ms) (λ x. d (at.class ∙ x)) (λ x. e (at.class ∙ x))
        ∙ ap (λ (k : ℕ). on_next at.one (only is_fixed t.left.fs) (λ (xs : List (List ℕ)). against k at.after xs (only is_mdr t.left.ms)) i) long
        ∙ ap (λ (c : List ℕ). on_next c (only is_fixed t.left.fs) (λ (xs : List (List ℕ)). against (i + n) at.after xs (only is_mdr t.left.ms)) i) (sym part)

    pub fixed_nowhere : FixedIs a z.fixed b i n None → TurnedIs a z b i n None
    fixed_nowhere x l = fixed_step l ∙ x t.left.fs t.left.fixed (λ (xs : List (List ℕ)). against (i + n) at.after xs (only is_mdr t.left.ms)) i

    pub fixed_after : (j : ℕ) → FixedIs a z.fixed b i n (Some j) → TurnedIs a z b i n (Some (record { fixed = j; mdr = z.mdr }))
    fixed_after j x =
        let g = x t.left.fs t.left.fixed in
        record {
          left = record { cs = at.after; fs = g.rest; ms = t.left.ms; cut = walks; fixed = g.walk; mdrs = t.left.mdrs };
          same = λ l. fixed_step l ∙ g.goes (λ (xs : List (List ℕ)). against (i + n) at.after xs (only is_mdr t.left.ms)) i;
        }

-- ---- ALL OF THEM
pub compare_first : {a b : List ℕ} → Both a b → Comparing a (record { fixed = 3307; mdr = 3307 }) b 3307
compare_first z = record {
  left = z.left;
  same = λ rs cs w v. left_one (record { cs = cs; fs = rs; ms = rs; cut = v; fixed = w; mdrs = w }) z.left;
}

module _ {a : List ℕ} {p : Places} {b : List ℕ} {i : ℕ} (z : Comparing a p b i) where
  pub compare_stands : i < length b → Standing b i
  compare_stands l = (here z.left.cut l).stands

  pub compare_least : i < length b → 20 ≤ size b i
  compare_least l = (here z.left.cut l).least

  pub compare_on : (n : ℕ) (q : Places) → TurnedIs a p b i n (Some q) → Comparing a q b (i + n)
  compare_on n q g = record { left = g.left; same = λ rs cs w v. z.same rs cs w v ∙ g.same z.left }

  ends : length b ≤ i → left_verdict z.left ≡ against i [] (only is_fixed z.left.fs) (only is_mdr z.left.ms)
  ends l = ap (λ (x : List (List ℕ)). against i x (only is_fixed z.left.fs) (only is_mdr z.left.ms)) (walk_none z.left.cut l)

  pub compare_missing : length b ≤ i → (r : ℕ) → NextIs a p.fixed r → r < length a → RecordsIs a b (Some i)
  compare_missing l r x h rs cs w v =
      z.same rs cs w v ∙ ends l ∙ ap (λ (fs : List (List ℕ)). against i [] fs (only is_mdr z.left.ms)) (next_one x h z.left.fs z.left.fixed)

  pub compare_alike : length b ≤ i → (r : ℕ) → NextIs a p.fixed r → length a ≤ r → RecordsIs a b None
  compare_alike l r x h rs cs w v =
      z.same rs cs w v ∙ ends l ∙ ap (λ (fs : List (List ℕ)). against i [] fs (only is_mdr z.left.ms)) (next_none x h z.left.fs z.left.fixed)
