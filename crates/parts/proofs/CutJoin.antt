-- A CUT OF A JOIN IS THE JOIN OF THE CUTS, on records, pointers and all (02, requests Three and Seven): so from byte 3,307 on the bytes are the same, and of the main
-- header all lines but PRODUCT_NAME, SENSING_START and SENSING_END. Of these nothing is said: the end of the one may be that of an MDR of the first product, and
-- of the other `x`. Assumes nothing.
use Prim.Native.Nat.{ℕ, suc, ◌+◌, ◌-◌, ◌≤◌, ◌<◌}
use native.Mathlib.Decide.{dec_lt, ℕ_discrete}
use native.Mathlib.Omega.{arith}
use mathlib.Core.Path.{◌≡◌, refl, sym, ap, subst, ◌∙◌}
use mathlib.Core.Bool.{Bool, true, false, cond, ◌&&◌, ◌||◌, and-false}
use mathlib.Core.List.{List, ◌++◌, Memᴰ as In}
use borrow.Author.Tests.{le-leb}
use lib.IntN.{pos}
use lib.ListN.{length, drop, replicate}
use lib.Seq.{take_at, drop_at}
use Rattle.meter.specs.General.{number_of}
use Rattle.meter.specs.Time.{time_at}
use Rattle.text.specs.Field.{is_x}
use Rattle.text.specs.Writing.{put_number}
use Rattle.std.specs.declared.option.Option.TheVariants.{Some, None}
use Rattle.mphr.specs.Layout.{width_of, kind_of, line_start}
use Rattle.mphr.proofs.WritingLaws.{number_fits_lem}
use Rattle.demands.specs.Product.{class, Meets}
use Rattle.demands.proofs.Accepted.{one_list}
use Rattle.parts.specs.Parts.{joined, bytes, count, main_of, records_at}
use Rattle.parts.specs.Only.{only, is_in, is_sphr, is_aux, is_global, is_variable, is_mdr}
use Rattle.parts.specs.Pointers.{part, assembled}
use Rattle.parts.specs.Cut.{Window, within, is_chosen, is_kept, cut_parts}
use Rattle.parts.specs.Join.{together, join_parts}
use Rattle.parts.specs.Rewritten.{value_of, number, whole, spelling, fits_line, Counts, count_lines}
use Rattle.parts.specs.CutHeader.{other_lines, cut_values}
use Rattle.parts.specs.JoinHeader.{added, join_lines, join_values, Carried}
use Rattle.parts.specs.Pass.{Joinable, IsJoin}
use Rattle.parts.specs.TownCut.{cut_records, IsCut, Unnamed}
use Rattle.parts.proofs.Built.{meets_built}
use Rattle.parts.proofs.OnlyLaws.{only_in, only_append, only_all, only_only, only_same}
use Rattle.parts.proofs.CutLaws.{of_class, in_classes, assembled_only, low_in, cut_mdrs, cut_sphr}
use Rattle.parts.proofs.JoinLaws.{join_sphr, assembled_same}
use Rattle.parts.proofs.HeaderLaws.{counts_are}
use Rattle.parts.proofs.CutHeaderLaws.{unset_lines}
use Rattle.parts.proofs.JoinLines.{x_line, in_seven, apart_kept, part_same}
use Rattle.parts.proofs.Narrower.{low_kept}
use Rattle.parts.proofs.TownLaws.{keeps, town_main, town_records, town_keeps, town_head}
use Rattle.parts.proofs.PassLaws.{carried, pass_records, pass_keeps, pass_head}

-- an auxiliary record is kept
aux_in : (c d : ℕ) (r : List ℕ) → 4 ≤ c → d ≤ 7 → is_in c d r ≡ true → is_aux r ≡ true
aux_in c d r g h e = let k = in_classes c d r e in rw (le-leb 4 (class r 0) (omega (arith, k.0)), le-leb (class r 0) 7 (omega (arith, k.1))) refl

kept_in : (w : Window) (c d : ℕ) (r : List ℕ) → 4 ≤ c → d ≤ 7 → is_in c d r ≡ true → is_kept w r ≡ true
kept_in w c d r g h e = go (is_aux r) (aux_in c d r g h e)
  where
    go : (b : Bool) → b ≡ true → (b || is_chosen w r) ≡ true
    go true _ = refl
    go false e = absurd (let z : ◌≡◌ {A = ℕ} 0 1 = cc in omega arith)

kept_both : (w : Window) (c d : ℕ) (r : List ℕ) → 4 ≤ c → d ≤ 7 → (is_kept w r && is_in c d r) ≡ is_in c d r
kept_both w c d r g h = go (is_in c d r) refl
  where
    go : (b : Bool) → is_in c d r ≡ b → (is_kept w r && b) ≡ b
    go true e = rw (kept_in w c d r g h e) refl
    go false e = and-false (is_kept w r)

mdr_kept : (w : Window) (r : List ℕ) → (is_mdr r && is_kept w r) ≡ is_chosen w r
unfolding is_chosen
mdr_kept w r = go (is_mdr r) refl
  where
    go : (b : Bool) → is_mdr r ≡ b → (b && (is_aux r || (b && within w (time_at r 8)))) ≡ (b && within w (time_at r 8))
    go true e = let c = of_class {c = 8} r e in rw c refl
    go false e = refl

two_of : (rs : List (List ℕ)) (r : List ℕ) → In r (only is_sphr rs) → class r 0 ≡ 2
two_of rs r n = of_class {c = 2} r (only_in is_sphr r rs n).1

kept_all : (w : Window) (c d : ℕ) (rs : List (List ℕ)) → 4 ≤ c → d ≤ 7 → only (is_kept w) (only (is_in c d) rs) ≡ only (is_in c d) rs
kept_all w c d rs g h = only_all (is_kept w) (only (is_in c d) rs) (λ r n. kept_in w c d r g h (only_in (is_in c d) r rs n).1)

kept_mdrs : (w : Window) (rs : List (List ℕ)) → only (is_kept w) (only is_mdr rs) ≡ only (is_chosen w) rs
kept_mdrs w rs = only_only (is_kept w) is_mdr rs ∙ only_same (λ (r : List ℕ). is_mdr r && is_kept w r) (is_chosen w) rs (mdr_kept w)

cut_in : (m : List ℕ) (w : Window) (c d : ℕ) (rs : List (List ℕ)) → 4 ≤ c → d ≤ 7 → only (is_in c d) (cut_parts m w rs) ≡ only (is_in c d) rs
cut_in m w c d rs g h =
    assembled_only m (only is_sphr rs) (only (is_kept w) rs) (two_of rs) (is_in c d) (λ r l. low_in c d r g l)
    ∙ only_only (is_in c d) (is_kept w) rs
    ∙ only_same (λ (r : List ℕ). is_kept w r && is_in c d r) (is_in c d) rs (λ r. kept_both w c d r g h)

-- what a cut keeps of a join is what the join of the two cuts has
pub cut_join_kept : (m m₁ m₂ : List ℕ) (w : Window) (rs ss : List (List ℕ)) → only (is_kept w) (join_parts m rs ss) ≡ together (cut_parts m₁ w rs) (cut_parts m₂ w ss)
cut_join_kept m m₁ m₂ w rs ss =
    assembled_only m (only is_sphr rs) (together rs ss) (two_of rs) (is_kept w) (low_kept w)
    ∙ split
    ∙ rw (
      kept_all w 4 5 rs (omega arith) (omega arith),
      kept_all w 6 7 rs (omega arith) (omega arith),
      kept_all w 6 7 ss (omega arith) (omega arith),
      kept_mdrs w rs,
      kept_mdrs w ss,
      cut_in m₁ w 4 5 rs (omega arith) (omega arith),
      cut_in m₁ w 6 7 rs (omega arith) (omega arith),
      cut_in m₂ w 6 7 ss (omega arith) (omega arith),
      cut_mdrs m₁ w rs,
      cut_mdrs m₂ w ss,
    ) refl
  where
    split : only (is_kept w) (together rs ss) ≡ only (is_kept w) (only is_global rs) ++ (only (is_kept w) (only is_variable rs) ++ (only (is_kept w) (only is_variable ss) ++ (only (is_kept w) (only is_mdr rs) ++ only (is_kept w) (only is_mdr ss))))
    split = simp (only_append (is_kept w)) refl

-- THE LAW: the records of the cut of a join are those of the join of the cuts; h and k are the main headers of the join and of the first cut
pub cut_join : (h k m m₁ m₂ : List ℕ) (w : Window) (rs ss : List (List ℕ)) → part h 8 12 ≡ part k 8 12 → cut_parts h w (join_parts m rs ss) ≡ join_parts k (cut_parts m₁ w rs) (cut_parts m₂ w ss)
cut_join h k m m₁ m₂ w rs ss e =
    ap (λ (l : List (List ℕ)). assembled h l (only (is_kept w) (join_parts m rs ss))) (join_sphr m rs ss ∙ sym (cut_sphr m₁ w rs))
    ∙ ap (assembled h (only is_sphr (cut_parts m₁ w rs))) (cut_join_kept m m₁ m₂ w rs ss)
    ∙ assembled_same h k (only is_sphr (cut_parts m₁ w rs)) (together (cut_parts m₁ w rs) (cut_parts m₂ w ss)) e

-- ---- OF BYTES: c is the join of a and b, and d the cut of c; x and y are the cuts of a and b by the same window, and z their join
module _ {a b c d x y z : List ℕ} {w : Window} (t : Meets a) (u : Meets b) (h : Joinable (main_of a) (main_of b) (records_at a t.list) (records_at b u.list))
    (j : IsJoin (main_of a) (main_of b) (records_at a t.list) (records_at b u.list) c) (k : IsCut c w d)
    (p : IsCut a w x) (q : IsCut b w y) (f : Meets x) (g : Meets y) (i : IsJoin (main_of x) (main_of y) (records_at x f.list) (records_at y g.list) z) where
  cut_join_records : cut_records c w k.product ≡ join_parts (main_of x) (records_at x f.list) (records_at y g.list)
  cut_join_records =
      let rs = records_at a p.product.list in
      let ss = records_at b q.product.list in
      let A = meets_built a t in
      let B = meets_built b u in
      let e : records_at c k.product.list ≡ join_parts (main_of a) rs ss =
      pass_records A B h j k.product ∙ ap (λ (l : List ℕ). join_parts (main_of a) (records_at a l) (records_at b u.list)) (one_list t p.product) ∙ ap (λ (l : List ℕ). join_parts (main_of a) rs (records_at b l)) (one_list u q.product) in
      let s : part (main_of c) 8 12 ≡ part (main_of x) 8 12 = part_same (main_of c) (main_of x) 8 12 (λ n l. pass_head A B h j (8 + n) (omega arith) ∙ sym (town_head p f (8 + n) (omega arith))) in
      ap (cut_parts (main_of c) w) e
      ∙ cut_join (main_of c) (main_of x) (main_of a) (main_of a) (main_of b) w rs ss s
      ∙ ap (λ (l : List (List ℕ)). join_parts (main_of x) l (cut_parts (main_of b) w ss)) (sym (town_records p f))
      ∙ ap (join_parts (main_of x) (records_at x f.list)) (sym (town_records q g))

  -- from byte 3,307 on they are the same
  pub cut_join_bytes : drop 3307 d ≡ drop 3307 z
  cut_join_bytes =
      ap (drop 3307) k.whole
      ∙ drop_at k.header (joined (cut_records c w k.product)) 3307 k.lines.long
      ∙ ap joined cut_join_records
      ∙ sym (drop_at i.header (joined (join_parts (main_of x) (records_at x f.list) (records_at y g.list))) 3307 i.lines.long)
      ∙ ap (drop 3307) (sym i.whole)

  -- and of the main header the lines but PRODUCT_NAME, SENSING_START and SENSING_END
  of_d : main_of d ≡ k.header
  of_d = ap main_of k.whole ∙ take_at k.header (joined (cut_records c w k.product)) 3307 k.lines.long

  of_z : main_of z ≡ i.header
  of_z = ap main_of i.whole ∙ take_at i.header (joined (join_parts (main_of x) (records_at x f.list) (records_at y g.list))) 3307 i.lines.long

  abbrev Same : ℕ → Type 0
  Same n = value_of k.header n ≡ value_of i.header n

  kept_lines : (n : ℕ) → Unnamed n → Same n
  kept_lines n v =
      let r : Carried n = record { within = omega (arith, v.low); name = v.name; end = v.end; size = v.size; counts = λ l _. omega (arith, v.low) } in
      k.lines.values n (omega (arith, v.low))
      ∙ ap (spelling (main_of c) n) (keeps (main_of c) w (records_at c k.product.list) n v)
      ∙ pass_keeps (meets_built a t) (meets_built b u) h j n r
      ∙ sym (town_keeps p f n v)
      ∙ sym (i.lines.values n (omega (arith, v.low)) ∙ ap (spelling (main_of x) n) (apart_kept n (count_lines (join_parts (main_of x) (records_at x f.list) (records_at y g.list)) (join_lines (main_of x) (main_of y))) (carried n r)))

  -- the size and the totals are of the same list
  whole_lines : (n : ℕ) (m : List (List ℕ) → ℕ) → n < 72 → cut_values (main_of c) w (records_at c k.product.list) n ≡ whole (m (cut_records c w k.product)) → join_values (main_of x) (main_of y) (records_at x f.list) (records_at y g.list) n ≡ whole (m (join_parts (main_of x) (records_at x f.list) (records_at y g.list))) → Same n
  whole_lines n m l e o =
      k.lines.values n l
      ∙ ap (spelling (main_of c) n) e
      ∙ ap (λ (ps : List (List ℕ)). spelling (main_of x) n (whole (m ps))) cut_join_records
      ∙ sym (i.lines.values n l ∙ ap (spelling (main_of x) n) o)

  counted : (n : ℕ) → 55 ≤ n → n ≤ 63 → Same n
  counted n lo hi = go (ℕ_discrete n 55) (ℕ_discrete n 56)
    where
      one : Counts (cut_records c w k.product) (cut_values (main_of c) w (records_at c k.product.list))
      one = counts_are (cut_records c w k.product) (other_lines (main_of c) w (records_at c k.product.list))

      two : Counts (join_parts (main_of x) (records_at x f.list) (records_at y g.list)) (join_values (main_of x) (main_of y) (records_at x f.list) (records_at y g.list))
      two = counts_are (join_parts (main_of x) (records_at x f.list) (records_at y g.list)) (join_lines (main_of x) (main_of y))

      go : Dec (n ≡ 55) → Dec (n ≡ 56) → Same n
      go (yes e) _ = subst Same (sym e) (whole_lines 55 (λ (ps : List (List ℕ)). suc (length ps)) (omega arith) one.all two.all)
      go (no e) (yes o) = subst Same (sym o) (whole_lines 56 (λ (ps : List (List ℕ)). 1) (omega arith) one.main two.main)
      go (no e) (no o) =
          let m = n - 55 in
          let s : 55 + m ≡ n = omega arith in
          subst Same s (whole_lines (55 + m) (count m) (omega arith) (one.each m (omega (arith, e, o)) (omega arith)) (two.each m (omega (arith, e, o)) (omega arith)))

  -- counts and durations are `x` in both
  x_fits : (n : ℕ) → 64 ≤ n → n ≤ 70 → fits_line n (number None) ≡ true
  x_fits =
      let r = unset_lines in
      in_seven (λ (n : ℕ). fits_line n (number None) ≡ true) r.0 r.1.0 r.1.1.0 r.1.1.1.0 r.1.1.1.1.0 r.1.1.1.1.1.0 r.1.1.1.1.1.1.0

  x_lines : (n : ℕ) → 64 ≤ n → n ≤ 70 → value_of k.header n ≡ put_number (width_of n) (replicate (width_of n) 0) None → value_of (main_of x) n ≡ put_number (width_of n) (replicate (width_of n) 0) None → value_of i.header n ≡ put_number (width_of n) (replicate (width_of n) 0) (added (main_of x) (main_of y) n) → Same n
  x_lines n lo hi e o s =
      let v = x_line (main_of x) n (number_fits_lem (kind_of n) (width_of n) None (x_fits n lo hi)) o in
      e ∙ sym (s ∙ ap (λ (r : Bool). put_number (width_of n) (replicate (width_of n) 0) (cond (r || is_x (main_of y) (line_start n + 32) (width_of n)) None (Some (pos (number_of (main_of x) (line_start n + 32) (width_of n) + number_of (main_of y) (line_start n + 32) (width_of n)))))) v)

  of_x : (n : ℕ) → value_of (main_of x) n ≡ value_of p.header n
  of_x n = ap (λ (m : List ℕ). value_of m n) (town_main p f)

  summed : (n : ℕ) → 64 ≤ n → n ≤ 70 → Same n
  summed =
      in_seven Same
      (x_lines 64 (omega arith) (omega arith) (k.lines.values 64 (omega arith)) (of_x 64 ∙ p.lines.values 64 (omega arith)) (i.lines.values 64 (omega arith)))
      (x_lines 65 (omega arith) (omega arith) (k.lines.values 65 (omega arith)) (of_x 65 ∙ p.lines.values 65 (omega arith)) (i.lines.values 65 (omega arith)))
      (x_lines 66 (omega arith) (omega arith) (k.lines.values 66 (omega arith)) (of_x 66 ∙ p.lines.values 66 (omega arith)) (i.lines.values 66 (omega arith)))
      (x_lines 67 (omega arith) (omega arith) (k.lines.values 67 (omega arith)) (of_x 67 ∙ p.lines.values 67 (omega arith)) (i.lines.values 67 (omega arith)))
      (x_lines 68 (omega arith) (omega arith) (k.lines.values 68 (omega arith)) (of_x 68 ∙ p.lines.values 68 (omega arith)) (i.lines.values 68 (omega arith)))
      (x_lines 69 (omega arith) (omega arith) (k.lines.values 69 (omega arith)) (of_x 69 ∙ p.lines.values 69 (omega arith)) (i.lines.values 69 (omega arith)))
      (x_lines 70 (omega arith) (omega arith) (k.lines.values 70 (omega arith)) (of_x 70 ∙ p.lines.values 70 (omega arith)) (i.lines.values 70 (omega arith)))

  pub cut_join_lines : (n : ℕ) → n < 72 → (n ≡ 0 → ⊥) → (n ≡ 10 → ⊥) → (n ≡ 11 → ⊥) → value_of (main_of d) n ≡ value_of (main_of z) n
  cut_join_lines n l r s v = ap (λ (m : List ℕ). value_of m n) of_d ∙ go (ℕ_discrete n 28) (dec_lt n 55) (dec_lt n 64) (dec_lt n 71) ∙ sym (ap (λ (m : List ℕ). value_of m n) of_z)
    where
      go : Dec (n ≡ 28) → Dec (n < 55) → Dec (n < 64) → Dec (n < 71) → Same n
      go (yes e) _ _ _ = subst Same (sym e) (whole_lines 28 (λ (ps : List (List ℕ)). 3307 + bytes ps) (omega arith) refl refl)
      go (no e) (yes o) _ _ = kept_lines n record { low = o; name = r; start = s; end = v; size = e }
      go (no e) (no o) (yes m) _ = counted n (omega (arith, o)) (omega arith)
      go (no e) (no o) (no m) (yes c) = summed n (omega (arith, m)) (omega arith)
      go (no e) (no o) (no m) (no c) =
          let q : 71 ≡ n = omega (arith, c) in
          subst Same q (k.lines.values 71 (omega arith) ∙ sym (of_x 71 ∙ p.lines.values 71 (omega arith)) ∙ sym (i.lines.values 71 (omega arith)))
