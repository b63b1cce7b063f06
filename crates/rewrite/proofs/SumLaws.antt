-- The lines of a join: sums of two headers, of which a number is one without a sign or all x, and never both; the end time and the name, copied. The lines
-- set anew one after the other are those of the join. Assumes nothing.
use Prim.Native.Nat.{ℕ, suc, ◌+◌, ◌-◌, ◌≤◌, ◌<◌}
use native.Mathlib.Nat.{pow-le-pow_right}
use native.Mathlib.Omega.{arith}
use mathlib.Core.Path.{◌≡◌, refl, sym, ap, subst, ◌∙◌}
use mathlib.Core.Bool.{Bool, true, false, ◌&&◌, ◌||◌}
use mathlib.Core.List.{List, [], ◌∷◌, ◌++◌}
use borrow.Author.Tests.{le-leb, leb-true, ltb-true}
use lib.Dec.{T, leb, ltb}
use lib.IntN.{pos}
use lib.ListN.{length, get_or, take, drop, replicate, take-append-drop}
use lib.Seq.{sets, ext_get_or, length-take-le}
use Rattle.calendar.proofs.Range.{below, at}
use Rattle.meter.specs.Lent.{inside}
use Rattle.meter.specs.General.{each, number_of}
use Rattle.meter.proofs.GeneralRuns.{each_in}
use Rattle.record.proofs.FieldLaws.{both}
use Rattle.text.specs.Field.{is_x, spaces, before, is_number, is_value, count_at}
use Rattle.text.specs.Writing.{fits_number}
use Rattle.text.specs.declared.Kind.{Kind}
use Rattle.text.specs.declared.Kind.TheVariants as K
use Rattle.std.specs.declared.option.Option.TheVariants.{Some, None}
use Rattle.std.specs.declared.option.Option.{Option}
use Rattle.std.specs.Prelude.{ℤ}
use Rattle.text.proofs.Exact.{count_is, count_small}
use Rattle.mphr.specs.Layout.{fields, widths, kinds, width_of, kind_of, line_start}
use Rattle.mphr.specs.Lines.{number_fits}
use Rattle.mphr.specs.Table.{valued}
use Rattle.demands.specs.Product.{MainHeader}
use Rattle.parts.specs.JoinHeader.{added, ended_as, SumsFit}
use Rattle.parts.specs.Rewritten.{value_of, text, number, copied, fits_line, Rewritten, anew, values_of}
use Rattle.parts.proofs.CutHeaderLaws.{name_width, name_start}
use Rattle.parts.proofs.Relined.{rewritten_none}
use Rattle.rewrite.specs.Lining.{Adds, NumberFor, whole_number, number_line, total_lines}
use Rattle.bytewise.specs.Comparing.{SameIs}
use Rattle.rewrite.specs.Joining.{Headers, sum_lines, end_lines, JoinHeaderIs}
use Rattle.rewrite.proofs.CopyLaws.{part_long}
use Rattle.bytewise.proofs.CompareLaws.{part_at}
use Rattle.rewrite.proofs.LineLaws.{adds_value, line_room, whole_text, sets_whole, sets_mid, parted, width_11}

-- ---- a value, by where it stands
pub agreed_at : {b : Bool} (m n : List ℕ) (k w p : ℕ) → p ≡ line_start k → w ≡ width_of k → SameIs (take w (drop (p + 32) m)) (take w (drop (p + 32) n)) b → SameIs (value_of m k) (value_of n k) b
agreed_at m n k w p e d s = rw (← e, ← d) s

-- ---- a number without a sign is not all x
x_no : (a : List ℕ) (i w : ℕ) → is_x a i w ≡ true → is_number false a i w ≡ true → ⊥
unfolding is_x is_number
x_no a i w e d =
    let s = spaces a i w in
    let b = before false a i w in
    let x = both (ltb 0 w) (each 120 120 a i w) e in
    let n = both (ltb s w) (ltb b w && each 48 57 a (i + b) (w - b)) d in
    let q = both (ltb b w) (each 48 57 a (i + b) (w - b)) n.1 in
    let l : b < w = ltb-true b w q.0 in
    let u = each_in 120 120 a i w x.1 b l in
    let v = each_in 48 57 a (i + b) (w - b) q.1 0 (omega arith) in
    let z : i + b + 0 ≡ i + b = omega arith in
    let y : get_or a (i + b + 0) 0 ≡ get_or a (i + b) 0 = ap (λ (j : ℕ). get_or a j 0) z in
    omega (arith, u.0, v.1, y)

-- ---- lines 64 to 70, computed
is_unsigned : Kind → Bool
is_unsigned K.Text = false
is_unsigned K.Unsigned = true
is_unsigned K.Count = false
is_unsigned K.Signed = false
is_unsigned K.Time = false
is_unsigned K.LongTime = false

is_unsigned_lem : (d : Kind) → T (is_unsigned d) → d ≡ K.Unsigned
unfolding is_unsigned
is_unsigned_lem K.Text t = absurd t
is_unsigned_lem K.Unsigned t = refl
is_unsigned_lem K.Count t = absurd t
is_unsigned_lem K.Signed t = absurd t
is_unsigned_lem K.Time t = absurd t
is_unsigned_lem K.LongTime t = absurd t

sum_kinds : T (below (λ (j : ℕ). is_unsigned (kind_of (64 + j))) 7)
unfolding is_unsigned kind_of kinds fields
sum_kinds = tt

sum_widths : T (below (λ (j : ℕ). leb (width_of (64 + j)) 8) 7)
unfolding width_of widths fields
sum_widths = tt

is_true : (b : Bool) → T b → b ≡ true
is_true true t = refl
is_true false t = absurd t

module _ (k : ℕ) (h : 64 ≤ k) (l : k ≤ 70) where
  from_64 : 64 + (k - 64) ≡ k
  from_64 = omega arith

  pub sum_kind : kind_of k ≡ K.Unsigned
  sum_kind = is_unsigned_lem (kind_of k) (subst (λ (j : ℕ). T (is_unsigned (kind_of j))) from_64 (at (λ (j : ℕ). is_unsigned (kind_of (64 + j))) 7 sum_kinds (k - 64) (omega arith)))

  pub sum_width : width_of k ≤ 8
  sum_width = subst (λ (j : ℕ). width_of j ≤ 8) from_64 (leb-true (width_of (64 + (k - 64))) 8 (is_true (leb (width_of (64 + (k - 64))) 8) (at (λ (j : ℕ). leb (width_of (64 + j)) 8) 7 sum_widths (k - 64) (omega arith))))

  pub sum_fitting : (w : ℕ) (x : Option ℤ) → w ≡ width_of k → fits_number false w x ≡ fits_line k (number x)
  unfolding number_fits
  sum_fitting w x e = rw (e, sum_kind) refl

  -- ---- one header's line
  module _ {m : List ℕ} (long : length m ≡ 3307) (head : MainHeader m) (p w : ℕ) (e : p ≡ line_start k) (d : w ≡ width_of k) where
    valued_here : is_number false m (p + 32) w || is_x m (p + 32) w ≡ true
    unfolding valued is_value
    valued_here = rw (e, d) (ap (λ (c : Kind). is_value c m (line_start k + 32) (width_of k)) (sym sum_kind) ∙ (head.lines k (omega arith)).1)

    here : leb (p + 32 + w) (length m) ≡ true
    here = le-leb (p + 32 + w) (length m) (omega (arith, e, d, long, line_room k (omega arith)))

    number_here : (b : Bool) → b ≡ inside m (p + 32) w && is_value K.Count m (p + 32) w → is_number false m (p + 32) w ≡ b
    unfolding is_value
    number_here b q = sym (q ∙ rw here refl)

    pub undefined_here : (b : Bool) → b ≡ inside m (p + 32) w && is_value K.Count m (p + 32) w → b ≡ false → is_x m (line_start k + 32) (width_of k) ≡ true
    undefined_here b q f =
        let n : is_number false m (p + 32) w ≡ false = number_here b q ∙ f in
        rw (← e, ← d) (ap (λ (c : Bool). c || is_x m (p + 32) w) (sym n) ∙ valued_here)

    module _ (b : Bool) (q : b ≡ inside m (p + 32) w && is_value K.Count m (p + 32) w) (t : b ≡ true) where
      is_number_lem : is_number false m (p + 32) w ≡ true
      is_number_lem = number_here b q ∙ t

      pub defined_here : is_x m (line_start k + 32) (width_of k) ≡ false
      defined_here = rw (← e, ← d) (go (is_x m (p + 32) w) refl)
        where
          go : (c : Bool) → is_x m (p + 32) w ≡ c → c ≡ false
          go true u = absurd (x_no m (p + 32) w u is_number_lem)
          go false u = refl

      pub count_here : count_at m (p + 32) w ≡ number_of m (line_start k + 32) (width_of k)
      count_here = count_is m (p + 32) w is_number_lem (omega (arith, d, sum_width)) (omega (arith, e, d, long, line_room k (omega arith))) ∙ rw (e, d) refl

      pub small_here : count_at m (p + 32) w < 100000000
      unfolding is_value
      small_here =
          let s = count_small m (p + 32) w is_number_lem in
          let u = pow-le-pow_right (lt10) {i = w} {j = 8} (omega (arith, d, sum_width)) in
          omega (arith, count_is m (p + 32) w is_number_lem (omega (arith, d, sum_width)) (omega (arith, e, d, long, line_room k (omega arith))), s, u)
        where
          lt10 : 0 < 10
          lt10 = omega arith

-- ---- the sum
module _ (m n : List ℕ) (k : ℕ) where
  pub sum_x_first : is_x m (line_start k + 32) (width_of k) ≡ true → None ≡ added m n k
  sum_x_first e = rw e refl

  pub sum_x_second : is_x n (line_start k + 32) (width_of k) ≡ true → None ≡ added m n k
  sum_x_second e = go (is_x m (line_start k + 32) (width_of k)) refl
    where
      go : (b : Bool) → is_x m (line_start k + 32) (width_of k) ≡ b → None ≡ added m n k
      go true u = rw u refl
      go false u = rw (u, e) refl

  pub sum_whole :
      (x y : ℕ) → is_x m (line_start k + 32) (width_of k) ≡ false → is_x n (line_start k + 32) (width_of k) ≡ false → x ≡ number_of m (line_start k + 32) (width_of k)
      → y ≡ number_of n (line_start k + 32) (width_of k) → Some (pos (x + y)) ≡ added m n k
  sum_whole x y e d u v = rw (e, d, u, v) refl

-- ---- a sum that fits
pub sum_for : (m n : List ℕ) (k : ℕ) → 64 ≤ k → k ≤ 70 → SumsFit m n → NumberFor k (added m n k)
sum_for m n k h l f = record { line = omega arith; narrow = omega (arith, sum_width k h l); fits = sum_fitting k h l (width_of k) (added m n k) refl ∙ f k h l }

-- ---- the sums, from the last to the first: those from k on are set
pub record Summing (m n h₀ h : List ℕ) (k : ℕ) : Type 0 where
  pub headers : Headers m n
  pub sums : SumsFit m n
  pub long : length h ≡ 3307
  pub same : length h₀ ≡ 3307
  pub least : 64 ≤ k
  pub within : k ≤ 71
  pub adds : Adds h₀ h (sum_lines m n k (71 - k))

pub summing_first : {m n h : List ℕ} → length h ≡ 3307 → Headers m n → SumsFit m n → Summing m n h h 71
summing_first e p f = record { headers = p; sums = f; long = e; same = e; least = omega arith; within = omega arith; adds = λ m l r. r }

pub summing_next : {m n h₀ h h' : List ℕ} {k j : ℕ} → Summing m n h₀ h k → suc j ≡ k → 64 ≤ j → length h' ≡ 3307 → Adds h h' (anew j (number (added m n j)) ∷ []) → Summing m n h₀ h' j
summing_next {m} {n} {h₀} {h} {h'} {k} {j} a e s o f = record {
  headers = a.headers;
  sums = a.sums;
  long = o;
  same = a.same;
  least = s;
  within = omega (arith, a.within);
  adds =
      let d : 71 - j ≡ suc (71 - suc j) = omega (arith, a.within) in
      let b : Adds h₀ h (sum_lines m n (suc j) (71 - suc j)) = rw e a.adds in
      rw d (λ x l r. f x (sum_lines m n (suc j) (71 - suc j) ++ l) (b x l r));
}

pub summing_last : {m n h₀ h : List ℕ} {k : ℕ} → Summing m n h₀ h k → k ≡ 64 → Adds h₀ h (sum_lines m n 64 7)
summing_last a e = rw e at a.adds

-- ---- the end time and the name
end_start : line_start 11 ≡ 748
unfolding line_start width_of widths fields
end_start = refl

pub end_is : (n x : List ℕ) → x ≡ sets (replicate 15 0) 0 (take 15 (drop 780 n)) → length n ≡ 3307 → x ≡ value_of n 11
end_is n x e l = e ∙ sets_whole (replicate 15 0) (take 15 (drop 780 n)) (sym (part_long n 780 15 (omega arith))) ∙ rw (end_start, width_11) refl

pub ended_is :
    (m n x y : List ℕ) → length m ≡ 3307 → length n ≡ 3307 → x ≡ sets (replicate 67 0) 0 (take 67 (drop 52 m)) → y ≡ sets x 32 (take 15 (drop 84 n))
    → y ≡ ended_as (value_of m 0) (value_of n 0)
ended_is m n x y l k e d =
    let v = take 67 (drop 52 m) in
    let z = take 67 (drop 52 n) in
    let u = take 15 (drop 84 n) in
    let lv : length v ≡ 67 = part_long m 52 67 (omega arith) in
    let lz : length z ≡ 67 = part_long n 52 67 (omega arith) in
    let lu : length u ≡ 15 = part_long n 84 15 (omega arith) in
    let a = take 32 v in
    let b = take 15 (drop 32 v) in
    let la : length a ≡ 32 = length-take-le 32 v (omega (arith, lv)) in
    let lb : length b ≡ 15 = part_long v 32 15 (omega (arith, lv)) in
    let whole : v ≡ a ++ (b ++ drop 47 v) = sym (take-append-drop 32 v) ∙ ap (λ (w : List ℕ). a ++ w) (parted v 32 15) in
    let same : u ≡ take 15 (drop 32 z) =
    ext_get_or 0 u (take 15 (drop 32 z)) (lu ∙ sym (part_long z 32 15 (omega (arith, lz))))
    (λ j h.
    let j15 : j < 15 = omega (arith, lu) in
    let c : 84 + j ≡ 52 + (32 + j) = omega arith in
    part_at n 84 15 j j15 ∙ ap (λ (i : ℕ). get_or n i 0) c ∙ sym (part_at z 32 15 j j15 ∙ part_at n 52 67 (32 + j) (omega arith))) in
    d
    ∙ ap (λ (w : List ℕ). sets w 32 u) (e ∙ sets_whole (replicate 67 0) v (sym lv) ∙ whole)
    ∙ sets_mid a b (drop 47 v) u 32 la (lu ∙ sym lb)
    ∙ ap (λ (w : List ℕ). a ++ (w ++ drop 47 v)) same
    ∙ rw (name_width, name_start) refl

pub end_adds : (h h₁ h₂ m n x y : List ℕ) → length m ≡ 3307 → length n ≡ 3307 → x ≡ value_of n 11 → y ≡ ended_as (value_of m 0) (value_of n 0) → length y ≡ 67 → h₁ ≡ sets h (line_start 11 + 32) x → h₂ ≡ sets h₁ (line_start 0 + 32) y → Adds h h₂ (end_lines m n)
end_adds h h₁ h₂ m n x y l k e d w p q z l' r =
    let a = adds_value h h₁ x 11 (copied (value_of n 11)) (omega arith) (ap length e ∙ value-long n 11 (omega arith) k) (λ _. sym e) p in
    let b = adds_value h₁ h₂ y 0 (text (ended_as (value_of m 0) (value_of n 0))) (omega arith) (w ∙ sym name_width) (λ _. sym d) q in
    b z (anew 11 (copied (value_of n 11)) ∷ l') (a z l' r)
  where
    value-long : (n : List ℕ) (k : ℕ) → k < 72 → length n ≡ 3307 → length (value_of n k) ≡ width_of k
    value-long n k h e = part_long n (line_start k + 32) (width_of k) (omega (arith, line_room k h))

-- ---- the whole header
pub join_header_done :
    (m n h h₀ h₁ h₂ h₃ h₄ : List ℕ) (totals : List ℕ) (size : ℕ) → length m ≡ 3307 → MainHeader m → length h ≡ 3307 → h₀ ≡ sets h 0 (take 3307 (drop 0 m))
    → Adds h₀ h₁ (sum_lines m n 64 7) → Adds h₁ h₂ (end_lines m n) → Adds h₂ h₃ (total_lines totals 0 9) → Adds h₃ h₄ (number_line 28 (whole_number size))
    → JoinHeaderIs m n totals size h₄
join_header_done m n h h₀ h₁ h₂ h₃ h₄ totals size l head e c f g k o =
    let t : take 3307 (drop 0 m) ≡ m = ap (λ (i : ℕ). take i (drop 0 m)) (sym l) ∙ whole_text m in
    let w : h₀ ≡ m = c ∙ ap (sets h 0) t ∙ sets_whole h m (e ∙ sym l) in
    let r : Rewritten m h₀ (values_of []) = subst (λ (x : List ℕ). Rewritten m x (values_of [])) (sym w) (rewritten_none l head) in
    o m (total_lines totals 0 9 ++ (end_lines m n ++ sum_lines m n 64 7)) (k m (end_lines m n ++ sum_lines m n 64 7) (g m (sum_lines m n 64 7) (rw-nil (f m [] r))))
  where
    rw-nil : {h : List ℕ} → Rewritten m h (values_of (sum_lines m n 64 7 ++ [])) → Rewritten m h (values_of (sum_lines m n 64 7))
    rw-nil x = x
