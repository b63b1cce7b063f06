-- THE LAWS OF A JOIN (02, request Seven), of the bytes a and b and of c, the join of the two: it is a product; its MDRs, variable records, global records
-- and SPHR are those of the two, once each, in their order; whichever two of three are joined first, the bytes are the same. From the laws of parts.
-- Assumes nothing.
use Prim.Native.Nat.{ℕ, ◌≤◌, ◌<◌}
use native.Mathlib.Omega.{arith}
use mathlib.Core.Path.{◌≡◌, refl, sym, ap, subst, ◌∙◌}
use mathlib.Core.Bool.{Bool, true, false, ◌&&◌}
use mathlib.Core.List.{List, [], ◌++◌, append-nil, Memᴰ as In}
use lib.ListN.{get_or}
use Rattle.demands.specs.Product.{Meets}
use Rattle.parts.specs.Parts.{bytes_of, Fits, Built, main_of, records_at}
use Rattle.parts.specs.Only.{only, is_of, is_sphr, is_global, is_variable, is_mdr}
use Rattle.parts.specs.Pointers.{firsts, pointers, base, AreFirsts}
use Rattle.meter.specs.Time.{time_at}
use Rattle.parts.specs.Cut.{Window, within, is_chosen, cut_parts}
use Rattle.parts.specs.Join.{together, join_parts}
use Rattle.parts.specs.JoinHeader.{ended_as, join_lines, Sum, Carried}
use Rattle.parts.specs.Pass.{Joinable, IsJoin}
use Rattle.parts.specs.Rewritten.{value_of, spelling, count_lines}
use Rattle.parts.proofs.Built.{built_meets, meets_built}
use Rattle.parts.proofs.OnlyLaws.{only_append, only_all, only_none, only_only}
use Rattle.parts.proofs.Sections.{only_same_in}
use Rattle.parts.proofs.FirstsLaws.{firsts_are}
use Rattle.parts.proofs.CutLaws.{cut_mdrs}
use Rattle.parts.proofs.JoinLaws.{join_mdrs, join_variables, join_globals, join_sphr, join_pointers}
use Rattle.parts.proofs.JoinHeaderLaws.{join_is_built}
use Rattle.parts.proofs.JoinLines.{join_sums, Apart, apart_kept}
use Rattle.parts.proofs.PassOfLaws.{one_pass, tells_one, join_pass, join_tells}
use Rattle.parts.proofs.Unique.{one_rewritten, main_back, parts_back}

-- ---- ONE JOIN
pub one_join : {m n c d : List ℕ} {rs ss : List (List ℕ)} → IsJoin m n rs ss c → IsJoin m n rs ss d → c ≡ d
one_join {m} {rs = rs} {ss = ss} x y = x.whole ∙ ap (λ (h : List ℕ). bytes_of h (join_parts m rs ss)) (one_rewritten x.lines y.lines) ∙ sym y.whole

-- the chosen MDRs are MDRs
chosen_mdrs : (w : Window) (rs : List (List ℕ)) → only (is_chosen w) rs ≡ only (is_chosen w) (only is_mdr rs)
unfolding is_chosen
chosen_mdrs w rs = sym (only_only (is_chosen w) is_mdr rs ∙ only_same (λ (r : List ℕ). is_mdr r && is_chosen w r) (is_chosen w) rs (λ r. twice (is_mdr r) (within w (time_at r 8))))
  where
    twice : (x y : Bool) → x && (x && y) ≡ x && y
    twice true y = refl
    twice false y = refl

    only_same : (f g : List ℕ → Bool) (rs : List (List ℕ)) → ((r : List ℕ) → f r ≡ g r) → only f rs ≡ only g rs
    only_same f g rs h = only_same_in f g rs (λ r _. h r)

-- a line that a join does not name is none of its table's
pub carried : (k : ℕ) → Carried k → Apart k (count_lines [] (join_lines [] []))
carried k u =
    let f : (n : ℕ) → 55 ≤ n → n ≤ 70 → k ≡ n → ⊥ = λ n l h e. u.counts (omega arith) (omega arith) in (
      u.size,
      (
        f 55 (omega arith) (omega arith),
        (
          f 56 (omega arith) (omega arith),
          (
            f 57 (omega arith) (omega arith),
            (
              f 58 (omega arith) (omega arith),
              (
                f 59 (omega arith) (omega arith),
                (
                  f 60 (omega arith) (omega arith),
                  (
                    f 61 (omega arith) (omega arith),
                    (
                      f 62 (omega arith) (omega arith),
                      (
                        f 63 (omega arith) (omega arith),
                        (u.name, (u.end, (f 64 (omega arith) (omega arith), (f 65 (omega arith) (omega arith), (f 66 (omega arith) (omega arith), (f 67 (omega arith) (omega arith), (f 68 (omega arith) (omega arith), (f 69 (omega arith) (omega arith), (f 70 (omega arith) (omega arith), tt))))))))),
                      ),
                    ),
                  ),
                ),
              ),
            ),
          ),
        ),
      ),
    )

-- ---- OF TWO PRODUCTS, by their parts
module _ {m n c : List ℕ} {rs ss : List (List ℕ)} (b : Built m rs) (d : Built n ss) (h : Joinable m n rs ss) (j : IsJoin m n rs ss c) where
  pub pass_built : Built j.header (join_parts m rs ss)
  pass_built = join_is_built b d h.sums h.holdable j.lines

  -- the result meets the format
  pub pass_product : Meets c
  pass_product = subst Meets (sym j.whole) (built_meets j.header (join_parts m rs ss) pass_built)

  pub pass_main : main_of c ≡ j.header
  pass_main = ap main_of j.whole ∙ main_back j.header (join_parts m rs ss) pass_built

  pub pass_records : (t : Meets c) → records_at c t.list ≡ join_parts m rs ss
  pass_records = subst (λ (z : List ℕ). (t : Meets z) → records_at z t.list ≡ join_parts m rs ss) (sym j.whole) (parts_back j.header (join_parts m rs ss) pass_built)

  module _ (t : Meets c) where
    -- "Every MDR of the inputs is in the result once", the first's then the second's, in their order
    pub pass_mdrs : only is_mdr (records_at c t.list) ≡ only is_mdr rs ++ only is_mdr ss
    pass_mdrs = ap (only is_mdr) (pass_records t) ∙ join_mdrs m rs ss

    -- "variable records of the first then the second", "VEADR and VIADR keep their order"
    pub pass_variables : only is_variable (records_at c t.list) ≡ only is_variable rs ++ only is_variable ss
    pass_variables = ap (only is_variable) (pass_records t) ∙ join_variables m rs ss

    pub pass_globals : only is_global (records_at c t.list) ≡ only is_global rs
    pass_globals = ap (only is_global) (pass_records t) ∙ join_globals m rs ss

    pub pass_sphr : only is_sphr (records_at c t.list) ≡ only is_sphr rs
    pass_sphr = ap (only is_sphr) (pass_records t) ∙ join_sphr m rs ss

    -- A JOIN CUT AGAIN: its MDRs in a window are the first's and then the second's in that window; where all of the first's and none of the second's start in
    -- it, they are the first's
    pub pass_chosen : (w : Window) → only (is_chosen w) (records_at c t.list) ≡ only (is_chosen w) (only is_mdr rs) ++ only (is_chosen w) (only is_mdr ss)
    pass_chosen w = chosen_mdrs w (records_at c t.list) ∙ ap (only (is_chosen w)) pass_mdrs ∙ only_append (is_chosen w) (only is_mdr rs) (only is_mdr ss)

    pub pass_cut_first :
        (w : Window) → ((r : List ℕ) → In r (only is_mdr rs) → is_chosen w r ≡ true) → ((r : List ℕ) → In r (only is_mdr ss) → is_chosen w r ≡ false)
        → only is_mdr (cut_parts (main_of c) w (records_at c t.list)) ≡ only is_mdr rs
    pass_cut_first w f g =
        cut_mdrs (main_of c) w (records_at c t.list)
        ∙ pass_chosen w
        ∙ ap (λ (l : List (List ℕ)). l ++ only (is_chosen w) (only is_mdr ss)) (only_all (is_chosen w) (only is_mdr rs) f)
        ∙ ap (λ (l : List (List ℕ)). only is_mdr rs ++ l) (only_none (is_chosen w) (only is_mdr ss) g)
        ∙ append-nil (only is_mdr rs)

    -- "IPRs as in request Three": the pointers are those of the firsts of the records that are pointed to, and these are what `AreFirsts` says
    pub pass_pointers : only (is_of 3) (records_at c t.list) ≡ pointers m (base (only is_sphr rs) (together rs ss)) (firsts 0 (together rs ss))
    pass_pointers = ap (only (is_of 3)) (pass_records t) ∙ join_pointers m rs ss

  pub pass_firsts : AreFirsts 0 (together rs ss) (firsts 0 (together rs ss))
  pass_firsts = firsts_are 0 (together rs ss)

  -- "size and totals are recomputed": the main header has those of the records that are written
  pub pass_fits : Fits (main_of c) (join_parts m rs ss)
  pass_fits = subst (λ (z : List ℕ). Fits z (join_parts m rs ss)) (sym pass_main) pass_built.fits

  -- "the end time and the name's end time come from the second"
  pub pass_end : value_of (main_of c) 11 ≡ value_of n 11
  pass_end = ap (λ (z : List ℕ). value_of z 11) pass_main ∙ j.lines.values 11 (omega arith)

  pub pass_name : value_of (main_of c) 0 ≡ ended_as (value_of m 0) (value_of n 0)
  pass_name = ap (λ (z : List ℕ). value_of z 0) pass_main ∙ j.lines.values 0 (omega arith)

  -- "Counts and durations add, `x` absorbing"
  pub pass_counts : (k : ℕ) → 64 ≤ k → k ≤ 70 → Sum (main_of c) m n k
  pass_counts k lo hi = subst (λ (z : List ℕ). Sum z m n k) (sym pass_main) (join_sums rs ss j.lines h.sums k lo hi)

  -- "all else from the first": each line that is not named keeps its bytes, and so do the 20 bytes of the main header's own header
  pub pass_keeps : (k : ℕ) → Carried k → value_of (main_of c) k ≡ value_of m k
  pass_keeps k u = ap (λ (z : List ℕ). value_of z k) pass_main ∙ j.lines.values k u.within ∙ ap (spelling m k) (apart_kept k (count_lines (join_parts m rs ss) (join_lines m n)) (carried k u))

  pub pass_head : (i : ℕ) → i < 20 → get_or (main_of c) i 0 ≡ get_or m i 0
  pass_head i l = ap (λ (z : List ℕ). get_or z i 0) pass_main ∙ sym (j.lines.start i l)

-- ---- THREE PRODUCTS: "Where both ways of joining three products are accepted, the bytes are the same"
pub pass_three :
    {a b c ab bc l r : List ℕ} (t : Meets a) (u : Meets b) (v : Meets c) (x : Meets ab) (y : Meets bc)
    → Joinable (main_of a) (main_of b) (records_at a t.list) (records_at b u.list) → IsJoin (main_of a) (main_of b) (records_at a t.list) (records_at b u.list) ab
    → Joinable (main_of b) (main_of c) (records_at b u.list) (records_at c v.list) → IsJoin (main_of b) (main_of c) (records_at b u.list) (records_at c v.list) bc
    → IsJoin (main_of ab) (main_of c) (records_at ab x.list) (records_at c v.list) l → IsJoin (main_of a) (main_of bc) (records_at a t.list) (records_at bc y.list) r
    → l ≡ r
pass_three {a} {b} {c} {ab} {bc} {l} {r} t u v x y h j k i p q =
    let m = main_of a in
    let n = main_of b in
    let o = main_of c in
    let rs = records_at a t.list in
    let ss = records_at b u.list in
    let us = records_at c v.list in
    let A = meets_built a t in
    let B = meets_built b u in
    let C = meets_built c v in
    let ma = pass_main A B h j in
    let mb = pass_main B C k i in
    let ra = pass_records A B h j x in
    let rb = pass_records B C k i y in
    let pl : IsJoin j.header o (join_parts m rs ss) us l = subst (λ (z : List (List ℕ)). IsJoin j.header o z us l) ra (subst (λ (z : List ℕ). IsJoin z o (records_at ab x.list) us l) ma p) in
    let pr : IsJoin m i.header rs (join_parts n ss us) r = subst (λ (z : List (List ℕ)). IsJoin m i.header rs z r) rb (subst (λ (z : List ℕ). IsJoin m z rs (records_at bc y.list) r) mb q) in
    let tl = join_tells (tells_one A) (tells_one B) j h.sums in
    let tr = join_tells (tells_one B) (tells_one C) i k.sums in
    one_pass (join_pass tl (tells_one C) pl) (join_pass (tells_one A) tr pr)
