-- A CUT OF A CUT (request Three): by a window that lies inside the first one, it is the cut of the original by that window. The records, since what the
-- narrower window chooses the wider one had kept; the main header line by line, since both cuts set the same lines. Assumes nothing.
use Prim.Native.Nat.{ℕ, ◌+◌, ◌≤◌}
use native.Mathlib.Omega.{arith}
use mathlib.Core.Path.{◌≡◌, refl, sym, ap, subst, ◌∙◌}
use mathlib.Core.Bool.{Bool, true, false, ◌&&◌, ◌||◌}
use mathlib.Core.List.{List, ◌++◌, append_assoc, Memᴰ as In}
use borrow.Author.Tests.{ne_eqb}
use lib.ListN.{length, take, drop, length-append, length-drop}
use lib.Seq.{take_at, drop_at, length-take-le}
use Rattle.meter.specs.Time.{time_at}
use Rattle.std.specs.declared.option.Option.{Option}
use Rattle.meter.specs.declared.general.Moment.{Moment}
use Rattle.demands.specs.Product.{class, Meets}
use Rattle.demands.proofs.Accepted.{one_list}
use Rattle.parts.specs.Parts.{bytes_of, Built, main_of, records_at}
use Rattle.parts.specs.Only.{only, is_sphr, is_aux, is_mdr}
use Rattle.parts.specs.Pointers.{assembled}
use Rattle.parts.specs.Cut.{Window, within, Inside, is_chosen, is_kept, cut_parts}
use Rattle.parts.specs.Rewritten.{value_of, time, spelling, Rewritten, values_of, count_lines, Holdable}
use Rattle.parts.specs.CutHeader.{first_start, last_stop, to_second, stamp, renamed, sensing_start, sensing_end, other_lines, cut_values}
use Rattle.parts.specs.TownCut.{cut_records, IsCut}
use Rattle.parts.proofs.Built.{meets_built}
use Rattle.parts.proofs.OnlyLaws.{only_in, only_only, only_same}
use Rattle.parts.proofs.CutLaws.{of_class, assembled_only, low_in, cut_sphr}
use Rattle.meter.specs.Integer.{Bytes}
use Rattle.parts.proofs.CutHeaderLaws.{parts_byte, stamp_long, name_long, cut_is_built}
use Rattle.parts.proofs.JoinLaws.{assembled_same}
use Rattle.parts.proofs.JoinLines.{apart_kept, Match, match_spelled, count_match, part_same}
use Rattle.parts.proofs.Unique.{main_back, parts_back, one_rewritten}
use Rattle.parts.proofs.TimeOrder.{within_inside}

-- ---- the records
pub low_chosen : (w : Window) (r : List ℕ) → class r 0 ≤ 3 → is_chosen w r ≡ false
unfolding is_chosen
low_chosen w r h = rw (ne_eqb (class r 0) 8 (λ e. omega arith))

pub low_kept : (w : Window) (r : List ℕ) → class r 0 ≤ 3 → is_kept w r ≡ false
low_kept w r h = rw (low_in 4 7 r (omega arith) h, low_chosen w r h)

absorbs : (x y : Bool) → (y ≡ true → x ≡ true) → x && y ≡ y
absorbs true y f = refl
absorbs false true f = f refl
absorbs false false f = refl

module _ {w v : Window} (i : Inside w v) (r : List ℕ) where
  pub chosen_wider : is_chosen w r ≡ true → is_chosen v r ≡ true
  unfolding is_chosen
  chosen_wider e = go (is_mdr r) e
    where
      go : (b : Bool) → b && within w (time_at r 8) ≡ true → b && within v (time_at r 8) ≡ true
      go true e = within_inside w v (time_at r 8) i e
      go false e = e

  kept_wider : is_kept w r ≡ true → is_kept v r ≡ true
  kept_wider e = go (is_aux r) e
    where
      go : (b : Bool) → b || is_chosen w r ≡ true → b || is_chosen v r ≡ true
      go true e = refl
      go false e = chosen_wider e

  chosen_kept : is_chosen w r ≡ true → is_kept v r ≡ true
  chosen_kept e = go (is_aux r)
    where
      go : (b : Bool) → b || is_chosen v r ≡ true
      go true = refl
      go false = chosen_wider e

module _ {w v : Window} (i : Inside w v) (m : List ℕ) (rs : List (List ℕ)) where
  two_in : (r : List ℕ) → In r (only is_sphr rs) → class r 0 ≡ 2
  two_in r n = of_class {c = 2} r (only_in is_sphr r rs n).1

  kept_again : only (is_kept w) (cut_parts m v rs) ≡ only (is_kept w) rs
  kept_again =
      assembled_only m (only is_sphr rs) (only (is_kept v) rs) two_in (is_kept w) (low_kept w)
      ∙ only_only (is_kept w) (is_kept v) rs
      ∙ only_same (λ (r : List ℕ). is_kept v r && is_kept w r) (is_kept w) rs (λ r. absorbs (is_kept v r) (is_kept w r) (kept_wider i r))

  chosen_again : only (is_chosen w) (cut_parts m v rs) ≡ only (is_chosen w) rs
  chosen_again =
      assembled_only m (only is_sphr rs) (only (is_kept v) rs) two_in (is_chosen w) (low_chosen w)
      ∙ only_only (is_chosen w) (is_kept v) rs
      ∙ only_same (λ (r : List ℕ). is_kept v r && is_chosen w r) (is_chosen w) rs (λ r. absorbs (is_kept v r) (is_chosen w r) (chosen_kept i r))

-- ---- the name
module _ (n : List ℕ) (f l : Option Moment) (long : length n ≡ 67) where
  a : List ℕ
  a = take 16 n

  c : List ℕ
  c = take 1 (drop 31 n)

  rest : List ℕ
  rest = drop 47 n

  name_front : take 16 (renamed n f l) ≡ take 16 n
  name_front = take_at (take 16 n) (stamp f ++ (take 1 (drop 31 n) ++ (stamp l ++ drop 47 n))) 16 (length-take-le 16 n (omega arith))

  name_middle : drop 31 (renamed n f l) ≡ take 1 (drop 31 n) ++ (stamp l ++ drop 47 n)
  name_middle =
      let x = take 16 n in
      let y = take 1 (drop 31 n) ++ (stamp l ++ drop 47 n) in
      ap (drop 31) (sym (append_assoc x (stamp f) y))
      ∙ drop_at (x ++ stamp f) y 31 (length-append x (stamp f) ∙ omega (arith, length-take-le 16 n (omega arith), stamp_long f))

  name_mark : take 1 (drop 31 (renamed n f l)) ≡ take 1 (drop 31 n)
  name_mark =
      ap (take 1) name_middle
      ∙ take_at (take 1 (drop 31 n)) (stamp l ++ drop 47 n) 1 (length-take-le 1 (drop 31 n) (omega (arith, length-drop 31 n)))

  name_back : drop 47 (renamed n f l) ≡ drop 47 n
  name_back =
      let x = take 16 n in
      let y = take 1 (drop 31 n) in
      let z = drop 47 n in
      let k = length-take-le 1 (drop 31 n) (omega (arith, length-drop 31 n)) in
      ap (drop 47) group
      ∙ drop_at (((x ++ stamp f) ++ y) ++ stamp l) z 47
      (length-append ((x ++ stamp f) ++ y) (stamp l) ∙ omega (arith, length-append (x ++ stamp f) y, length-append x (stamp f), length-take-le 16 n (omega arith), stamp_long f, stamp_long l, k))
    where
      group : renamed n f l ≡ (((take 16 n ++ stamp f) ++ take 1 (drop 31 n)) ++ stamp l) ++ drop 47 n
      group = simp append_assoc

  pub renamed_twice : (g h : Option Moment) → renamed (renamed n f l) g h ≡ renamed n g h
  renamed_twice g h = rw (name_front, name_mark, name_back)

module _ {m m' : List ℕ} {w v : Window} (rs : List (List ℕ)) (i : Inside w v) (x : Rewritten m m' (cut_values m v rs)) where
  narrower_records : cut_parts m' w (cut_parts m v rs) ≡ cut_parts m w rs
  narrower_records =
      sym (assembled_same m m' (only is_sphr (cut_parts m v rs)) (only (is_kept w) (cut_parts m v rs)) (part_same m m' 8 12 (λ j h. x.start (8 + j) (omega arith))))
      ∙ ap (λ (f : List (List ℕ)). assembled m f (only (is_kept w) (cut_parts m v rs))) (cut_sphr m v rs)
      ∙ ap (assembled m (only is_sphr rs)) (kept_again i m rs)

-- ---- THE LAW, on parts
module _ {m m' m'' : List ℕ} {rs : List (List ℕ)} {w v : Window} (b : Built m rs) (i : Inside w v)
    (x : Rewritten m m' (cut_values m v rs)) (y : Rewritten m' m'' (cut_values m' w (cut_parts m v rs))) where
  same_start : sensing_start m' w (cut_parts m v rs) ≡ sensing_start m w rs
  same_start = ap (λ (l : List (List ℕ)). to_second (first_start l)) (chosen_again i m rs)

  same_end : sensing_end m' w (cut_parts m v rs) ≡ sensing_end m w rs
  same_end = ap (λ (l : List (List ℕ)). to_second (last_stop l)) (chosen_again i m rs)

  same_name : renamed (value_of m' 0) (sensing_start m' w (cut_parts m v rs)) (sensing_end m' w (cut_parts m v rs)) ≡ renamed (value_of m 0) (sensing_start m w rs) (sensing_end m w rs)
  same_name =
      let n : value_of m' 0 ≡ renamed (value_of m 0) (sensing_start m v rs) (sensing_end m v rs) = x.values 0 (omega arith) in
      ap (λ (s : Option Moment). renamed (value_of m' 0) s (sensing_end m' w (cut_parts m v rs))) same_start
      ∙ ap (renamed (value_of m' 0) (sensing_start m w rs)) same_end
      ∙ ap (λ (z : List ℕ). renamed z (sensing_start m w rs) (sensing_end m w rs)) n
      ∙ renamed_twice (value_of m 0) (sensing_start m v rs) (sensing_end m v rs) (name_long b) (sensing_start m w rs) (sensing_end m w rs)

  lines_match : Match m' m (other_lines m' w (cut_parts m v rs)) (other_lines m w rs)
  lines_match = (
    refl,
    same_name,
    (
      refl,
      ap (λ (g : Option Moment). spelling m' 10 (time g)) same_start,
      (refl, ap (λ (g : Option Moment). spelling m' 11 (time g)) same_end, (refl, refl, (refl, refl, (refl, refl, (refl, refl, (refl, refl, (refl, refl, (refl, refl, (refl, refl, tt))))))))),
    ),
  )

  narrower_lines : Rewritten m m'' (cut_values m w rs)
  narrower_lines =
      let q = cut_parts m w rs in
      let z : Rewritten m' m'' (values_of (count_lines q (other_lines m' w (cut_parts m v rs)))) =
      subst (λ (l : List (List ℕ)). Rewritten m' m'' (values_of (count_lines l (other_lines m' w (cut_parts m v rs))))) (narrower_records rs i x) y in
      let g = count_match m' m q (other_lines m' w (cut_parts m v rs)) (other_lines m w rs) lines_match in
      record {
        long = z.long;
        start = λ j h. x.start j h ∙ z.start j h;
        frames = z.frames;
        values = λ k h. z.values k h ∙ match_spelled m' m k (count_lines q (other_lines m' w (cut_parts m v rs))) (count_lines q (other_lines m w rs)) g (λ a. x.values k h ∙ ap (spelling m k) (apart_kept k (count_lines (cut_parts m v rs) (other_lines m v rs)) a));
      }

records_back : {b h : List ℕ} {ps : List (List ℕ)} → b ≡ bytes_of h ps → Built h ps → (t : Meets b) → records_at b t.list ≡ ps
records_back {b} {h} {ps} e u = subst (λ (z : List ℕ). (t : Meets z) → records_at z t.list ≡ ps) (sym e) (parts_back h ps u)

-- ---- THE LAW, on bytes: b is the cut by v of a
module _ {a b : List ℕ} {v : Window} (byte : Bytes a) (x : IsCut a v b) (k : Holdable (cut_records a v x.product)) where
  whole : Built x.header (cut_records a v x.product)
  whole = cut_is_built v (meets_built a x.product) (λ r n. parts_byte a byte x.product.list r n) k x.lines

  main_is : main_of b ≡ x.header
  main_is = ap main_of x.whole ∙ main_back x.header (cut_records a v x.product) whole

  records_are : (t : Meets b) → records_at b t.list ≡ cut_records a v x.product
  records_are t = records_back x.whole whole t

  module _ {w : Window} (i : Inside w v) where
    -- the records of its cut by w are those of the cut of a
    pub cut_of_cut_records : (t : Meets b) → cut_records b w t ≡ cut_records a w x.product
    cut_of_cut_records t =
        ap (cut_parts (main_of b) w) (records_are t) ∙ ap (λ (z : List ℕ). cut_parts z w (cut_records a v x.product)) main_is ∙ narrower_records (records_at a x.product.list) i x.lines

    -- and so is the whole
    pub cut_of_cut : {c : List ℕ} → IsCut b w c → IsCut a w c
    cut_of_cut y =
        let ps = cut_records a v x.product in
        let l : Rewritten x.header y.header (cut_values x.header w ps) =
        subst (λ (z : List ℕ). Rewritten z y.header (cut_values z w ps)) main_is
        (subst (λ (z : List (List ℕ)). Rewritten (main_of b) y.header (cut_values (main_of b) w z)) (records_are y.product) y.lines) in
        record {
          product = x.product;
          header = y.header;
          lines = narrower_lines (meets_built a x.product) i x.lines l;
          whole = y.whole ∙ ap (bytes_of y.header) (cut_of_cut_records y.product);
        }

-- AT MOST ONE is the cut
pub one_cut : {a b c : List ℕ} {w : Window} → IsCut a w b → IsCut a w c → b ≡ c
one_cut {a} {b} {c} {w} x y =
    let l = one_list y.product x.product in
    let r : Rewritten (main_of a) y.header (cut_values (main_of a) w (records_at a x.product.list)) =
    subst (λ (z : List ℕ). Rewritten (main_of a) y.header (cut_values (main_of a) w (records_at a z))) l y.lines in
    x.whole
    ∙ ap (λ (z : List ℕ). bytes_of z (cut_records a w x.product)) (one_rewritten x.lines r)
    ∙ ap (λ (z : List ℕ). bytes_of y.header (cut_parts (main_of a) w (records_at a z))) (sym l)
    ∙ sym y.whole
