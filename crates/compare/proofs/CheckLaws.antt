-- THE CHECK'S ANSWERS, of the bytes: no second answer fits; yes is answered exactly where the bytes are those of a cut; every product is a cut of itself, a
-- cut of a cut is a cut, whatever request Three writes gets a yes, and where a no stands. By cases on the answers. Assumes nothing.
use Prim.Native.Nat.{ℕ, ◌+◌, ◌≤◌, ◌<◌}
use native.Mathlib.Omega.{arith}
use mathlib.Core.Path.{◌≡◌, refl, sym, ap, subst, ◌∙◌}
use mathlib.Core.List.{List, Memᴰ as In}
use lib.ListN.{length, take}
use Rattle.demands.specs.Product.{Meets}
use Rattle.demands.proofs.Accepted.{one_list, meets_fit, one_refused}
use Rattle.parts.specs.Parts.{bytes, starts_from, main_of, records_at, Follows}
use Rattle.parts.specs.Only.{only, is_sphr, is_aux, is_mdr}
use Rattle.parts.specs.Against.{CutOf, Verdict, alike, unlike, is_fixed, verdict, NoAt}
use Rattle.parts.specs.Against as P
use Rattle.parts.specs.Pass.{FourAgree}
use Rattle.parts.specs.Cut.{Window, Inside, is_chosen}
use Rattle.parts.specs.TownCut.{IsCut, Unnamed}
use Rattle.parts.proofs.Built.{meets_built}
use Rattle.parts.proofs.Unique.{starts_are, starts_in}
use Rattle.parts.proofs.WalkLaws.{walk_first, walk_length}
use Rattle.parts.proofs.AgainstLaws.{narrower, cut_of, no_stands, stands_no}
use Rattle.parts.proofs.Narrower.{chosen_wider}
use Rattle.parts.proofs.TownLaws.{town_records, town_mdrs, town_sphr, town_aux, town_keeps}
use Rattle.std.specs.declared.option.Option.TheVariants.{Some, None}
use Rattle.std.specs.declared.result.Result.TheVariants.{Ok, Err}
use Rattle.std.specs.declared.option.Option.{Option}
use Rattle.std.specs.declared.result.Result.{Result}
use Rattle.calendar.specs.declared.Refusal.{Refusal}
use Rattle.compare.specs.Walking.{Both, Products, RecordsIs, compared_as}
use Rattle.compare.specs.Check.{Cut, IsCutOf, PartsCheck, is, other_field, unmatched, CheckIs, original_unfit, cut_unfit, both, NotAt, field, at_record, at_end, No}
use Rattle.compare.proofs.CutOfLaws.{verdict_cut, cut_verdict, cut_itself, cut_on}

-- ---- of a product
module _ {a : List ℕ} (t : Meets a) where
  pub product_long : length (take 3307 a) ≡ 3307
  product_long = (meets_built a t).fits.long

  order : Follows 1 (records_at a t.list)
  order = (meets_built a t).tiles.order

  low : length a ≤ 2147483647
  low = omega (arith, t.come, t.header.most)

-- ---- from the code's answers
module _ {a b : List ℕ} (p : Products a b) where
  pub both_records : Both a b
  both_records =
      let v = walk_first a p.original in
      record {
        small = low p.original;
        short = low p.cut;
        left = record {
          cs = records_at b p.cut.list;
          fs = records_at a p.original.list;
          ms = records_at a p.original.list;
          cut = walk_first b p.cut;
          fixed = v;
          mdrs = v;
        };
      }

  says : (r : Option ℕ) → RecordsIs a b r → verdict (records_at b p.cut.list) (records_at a p.original.list) ≡ compared_as r
  says r h = h (records_at a p.original.list) (records_at b p.cut.list) (walk_first a p.original) (walk_first b p.cut)

  pub says_field : (FourAgree (main_of a) (main_of b) → ⊥) → CheckIs a b (Ok (Some 0))
  says_field d = both p.original p.cut (other_field d)

  pub says_records : FourAgree (main_of a) (main_of b) → (r : Option ℕ) → RecordsIs a b r → CheckIs a b (Ok r)
  says_records f None h = both p.original p.cut (is (record { fields = f; records = verdict_cut (records_at b p.cut.list) (records_at a p.original.list) (says None h) }))
  says_records f (Some n) h = both p.original p.cut (unmatched n f (says (Some n) h))

-- ---- NO SECOND ANSWER FITS
never : (n : ℕ) → unlike n ≡ alike → ⊥
never n e = let z : ◌≡◌ {A = ℕ} 0 1 = cc in omega arith

one_place : (n k : ℕ) → unlike n ≡ unlike k → ◌≡◌ {A = Result (Option ℕ) Refusal} (Ok (Some n)) (Ok (Some k))
one_place n k e = cc

one_parts : {m n : List ℕ} {rs cs : List (List ℕ)} {r s : Result (Option ℕ) Refusal} → Follows 1 rs → Follows 1 cs → PartsCheck m n rs cs r → PartsCheck m n rs cs s → r ≡ s
one_parts f g (is x) (is y) = refl
one_parts f g (is x) (other_field d) = absurd (d x.fields)
one_parts {rs = rs} {cs = cs} f g (is x) (unmatched p d e) = absurd (never p (sym e ∙ cut_verdict cs rs g f x.records))
one_parts f g (other_field d) (is x) = absurd (d x.fields)
one_parts f g (other_field d) (other_field e) = refl
one_parts f g (other_field d) (unmatched p x e) = absurd (d x)
one_parts {rs = rs} {cs = cs} f g (unmatched p d e) (is x) = absurd (never p (sym e ∙ cut_verdict cs rs g f x.records))
one_parts f g (unmatched p x e) (other_field d) = absurd (d x)
one_parts f g (unmatched p x e) (unmatched q y d) = one_place p q (sym e ∙ d)

-- another proof that the two are products has the same parts
moved : {a b : List ℕ} {r : Result (Option ℕ) Refusal} (t t' : Meets a) (u u' : Meets b) → PartsCheck (main_of a) (main_of b) (records_at a t.list) (records_at b u.list) r → PartsCheck (main_of a) (main_of b) (records_at a t'.list) (records_at b u'.list) r
moved {a} {b} {r} t t' u u' p =
    subst (λ (l : List ℕ). PartsCheck (main_of a) (main_of b) (records_at a t'.list) (records_at b l) r) (one_list u u')
    (subst (λ (l : List ℕ). PartsCheck (main_of a) (main_of b) (records_at a l) (records_at b u.list) r) (one_list t t') p)

pub unique_check : (a b : List ℕ) (r s : Result (Option ℕ) Refusal) → CheckIs a b r → CheckIs a b s → r ≡ s
unique_check a b r s (original_unfit q g) (original_unfit p h) = ap Err (one_refused q p g h)
unique_check a b r s (original_unfit q g) (cut_unfit p t h) = absurd (meets_fit t q g)
unique_check a b r s (original_unfit q g) (both t u p) = absurd (meets_fit t q g)
unique_check a b r s (cut_unfit q t g) (original_unfit p h) = absurd (meets_fit t p h)
unique_check a b r s (cut_unfit q t g) (cut_unfit p u h) = ap Err (one_refused q p g h)
unique_check a b r s (cut_unfit q t g) (both u v p) = absurd (meets_fit v q g)
unique_check a b r s (both t u p) (original_unfit q h) = absurd (meets_fit t q h)
unique_check a b r s (both t u p) (cut_unfit q v h) = absurd (meets_fit u q h)
unique_check a b r s (both t u p) (both v w q) = one_parts (order v) (order w) (moved t v u w p) q

-- ---- YES EXACTLY WHERE the second product is a cut of the first
pub cut_is : {a b : List ℕ} → Cut a b → CheckIs a b (Ok None)
cut_is c = both c.original c.cut (is c.parts)

pub is_cut : {a b : List ℕ} (r : Result (Option ℕ) Refusal) → r ≡ Ok None → CheckIs a b r → Cut a b
is_cut r e (original_unfit q g) = absurd (let z : ◌≡◌ {A = ℕ} 0 1 = cc in omega arith)
is_cut r e (cut_unfit q t g) = absurd (let z : ◌≡◌ {A = ℕ} 0 1 = cc in omega arith)
is_cut {a} {b} r e (both t u p) = go e p
  where
    go : {r : Result (Option ℕ) Refusal} → r ≡ Ok None → PartsCheck (main_of a) (main_of b) (records_at a t.list) (records_at b u.list) r → Cut a b
    go e (is x) = record { original = t; cut = u; parts = x }
    go e (other_field d) = absurd (let z : ◌≡◌ {A = ℕ} 0 1 = cc in omega arith)
    go e (unmatched p f v) = absurd (let z : ◌≡◌ {A = ℕ} 0 1 = cc in omega arith)

-- ---- WHERE A NO STANDS: "a plain no has place 0 for a field, else the start of the first cut record that can't be matched .., else the cut's length"
placed : {m n : List ℕ} {rs cs : List (List ℕ)} {starts : List ℕ} {long p : ℕ} → FourAgree m n → starts ≡ starts_from 3307 cs → 3307 + bytes cs ≡ long → NoAt (only is_fixed rs) (only is_mdr rs) 3307 cs p → NotAt m n rs cs starts long p
placed {starts = starts} {p = p} f s l (P.unmatched xs y ys e q k n) =
    let i : In (3307 + bytes xs) starts = subst (In (3307 + bytes xs)) (sym (s ∙ ap (starts_from 3307) e)) (starts_in 3307 xs y ys) in
    at_record p xs y ys f (subst (λ (z : ℕ). In z starts) (sym q) i) q e k n
placed {m} {n} {rs} {cs} {starts} {long} f s l (P.missing k d q) = subst (NotAt m n rs cs starts long) (sym (q ∙ l)) (at_end f k d)

pub no_at : {a b : List ℕ} (p : ℕ) (r : Result (Option ℕ) Refusal) → r ≡ Ok (Some p) → CheckIs a b r → No a b p
no_at p r e (original_unfit q g) = absurd (let z : ◌≡◌ {A = ℕ} 0 1 = cc in omega arith)
no_at p r e (cut_unfit q t g) = absurd (let z : ◌≡◌ {A = ℕ} 0 1 = cc in omega arith)
no_at {a} {b} p r e (both t u k) = record { original = t; cut = u; stands = go e k }
  where
    not-of : {i j : ℕ} → ◌≡◌ {A = Result (Option ℕ) Refusal} (Ok (Some i)) (Ok (Some j)) → i ≡ j
    not-of e = cc

    go : {r : Result (Option ℕ) Refusal} → r ≡ Ok (Some p) → PartsCheck (main_of a) (main_of b) (records_at a t.list) (records_at b u.list) r → NotAt (main_of a) (main_of b) (records_at a t.list) (records_at b u.list) u.list (length b) p
    go e (is x) = absurd (let z : ◌≡◌ {A = ℕ} 0 1 = cc in omega arith)
    go e (other_field d) = subst (NotAt (main_of a) (main_of b) (records_at a t.list) (records_at b u.list) u.list (length b)) (not-of e) (field d)
    go e (unmatched q f v) =
        subst (NotAt (main_of a) (main_of b) (records_at a t.list) (records_at b u.list) u.list (length b)) (not-of e)
        (placed f (starts_are b u) (walk_length (walk_first b u)) (no_stands 3307 (records_at b u.list) (only is_fixed (records_at a t.list)) (only is_mdr (records_at a t.list)) q v))

-- and where it stands so, that is the answer
pub at_no : {a b : List ℕ} {p : ℕ} → No a b p → CheckIs a b (Ok (Some p))
at_no {a} {b} n = both n.original n.cut (go n.stands)
  where
    said : {p : ℕ} → NoAt (only is_fixed (records_at a n.original.list)) (only is_mdr (records_at a n.original.list)) 3307 (records_at b n.cut.list) p → verdict (records_at b n.cut.list) (records_at a n.original.list) ≡ unlike p
    said {p} k = stands_no 3307 (records_at b n.cut.list) (only is_fixed (records_at a n.original.list)) (only is_mdr (records_at a n.original.list)) p k

    go : {p : ℕ} → NotAt (main_of a) (main_of b) (records_at a n.original.list) (records_at b n.cut.list) n.cut.list (length b) p → PartsCheck (main_of a) (main_of b) (records_at a n.original.list) (records_at b n.cut.list) (Ok (Some p))
    go (field d) = other_field d
    go (at_record p xs y ys f i q e k m) = unmatched p f (said (P.unmatched xs y ys e q k m))
    go (at_end f k d) = unmatched (length b) f (said (P.missing k d (sym (walk_length (walk_first b n.cut)))))

-- ---- every product is a cut of itself
pub itself : {a : List ℕ} → Meets a → CheckIs a a (Ok None)
itself {a} t = both t t (is (cut_itself (main_of a) (records_at a t.list)))

-- ---- a cut of a cut is a cut
pub cut_of_cut : {a b c : List ℕ} → CheckIs a b (Ok None) → CheckIs b c (Ok None) → CheckIs a c (Ok None)
cut_of_cut {a} {b} {c} x y =
    let p = is_cut (Ok None) refl x in
    let q = is_cut (Ok None) refl y in
    let k : IsCutOf (main_of b) (main_of c) (records_at b p.cut.list) (records_at c q.cut.list) = subst (λ (l : List ℕ). IsCutOf (main_of b) (main_of c) (records_at b l) (records_at c q.cut.list)) (one_list q.original p.cut) q.parts in
    both p.original q.cut (is (cut_on p.parts k))

-- ---- "Whatever request Three writes must get a yes"
four_kept : {a b : List ℕ} {w : Window} (c : IsCut a w b) → Meets b → FourAgree (main_of a) (main_of b)
four_kept c u =
    let named : (k : ℕ) → 1 ≤ k → k < 10 → Unnamed k = λ k l m. record { low = omega arith; name = λ e. omega arith; start = λ e. omega arith; end = λ e. omega arith; size = λ e. omega arith } in
    record {
      instrument = sym (town_keeps c u 5 (named 5 (omega arith) (omega arith)));
      type = sym (town_keeps c u 7 (named 7 (omega arith) (omega arith)));
      level = sym (town_keeps c u 8 (named 8 (omega arith) (omega arith)));
      spacecraft = sym (town_keeps c u 9 (named 9 (omega arith) (omega arith)));
    }

pub three_is : {a b : List ℕ} {w : Window} (c : IsCut a w b) → Meets b → CheckIs a b (Ok None)
three_is {a} {b} {w} c u =
    let rs = records_at a c.product.list in
    both c.product u (is (record { fields = four_kept c u; records = subst (λ (cs : List (List ℕ)). CutOf cs rs) (sym (town_records c u)) (cut_of (main_of a) w rs) }))

-- ---- THE CUT BY A NARROWER WINDOW IS A CUT of the cut by a wider one, both of the same product
pub narrower_is : {a b d : List ℕ} {w v : Window} (x : IsCut a v b) → Meets b → (z : IsCut a w d) → Meets d → Inside w v → CheckIs b d (Ok None)
narrower_is {a} {b} {d} {w} {v} x t z u i =
    let f = four_kept x t in
    let g = four_kept z u in
    let rs = records_at a x.product.list in
    let e : records_at a z.product.list ≡ rs = ap (records_at a) (one_list z.product x.product) in
    let m : only is_mdr (records_at d u.list) ≡ only (is_chosen w) rs = town_mdrs z u ∙ ap (only (is_chosen w)) e in
    let n : only is_mdr (records_at b t.list) ≡ only (is_chosen v) rs = town_mdrs x t in
    both t u (is (record {
      fields = record {
        instrument = sym f.instrument ∙ g.instrument;
        type = sym f.type ∙ g.type;
        level = sym f.level ∙ g.level;
        spacecraft = sym f.spacecraft ∙ g.spacecraft;
      };
      records = record {
        mdrs = rw (m, n) (narrower (is_chosen w) (is_chosen v) rs (λ r. chosen_wider i r));
        sphr = town_sphr z u ∙ ap (only is_sphr) e ∙ sym (town_sphr x t);
        aux = town_aux z u ∙ ap (only is_aux) e ∙ sym (town_aux x t);
      };
    }))
