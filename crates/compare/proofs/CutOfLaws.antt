-- YES EXACTLY WHERE IT IS A CUT: the walk's verdict is the relation's, since the earliest match leaves the most (parts, `alike_agrees`, `agrees_alike`) and
-- in a list in order the SPHR comes first; every product is a cut of itself, and a cut of a cut is a cut. Assumes nothing.
use Prim.Native.Nat.{ℕ}
use native.Mathlib.Decide.{ℕ_discrete}
use mathlib.Core.Path.{◌≡◌, refl, sym, ap, ◌∙◌}
use mathlib.Core.Bool.{Bool, true, false, ◌&&◌}
use mathlib.Core.List.{List, [], ◌∷◌, ◌++◌}
use borrow.Author.Tests.{ne_eqb}
use lib.Dec.{eqb, leb}
use Rattle.demands.specs.Product.{class}
use Rattle.parts.specs.Parts.{Follows}
use Rattle.parts.specs.Only.{only, is_sphr, is_aux, is_mdr}
use Rattle.parts.specs.Against.{RunThrough, done, skip, take, CutOf, alike, is_fixed, verdict}
use Rattle.parts.proofs.OnlyLaws.{only_only, only_same}
use Rattle.parts.proofs.AgainstLaws.{alike_agrees, agrees_alike, fixed_split}
use Rattle.compare.specs.Walking.{fixed_class}
use Rattle.compare.specs.Check.{IsCutOf}

-- ---- SPHR and auxiliary records are among those that are neither pointers nor MDRs
and_no : (b : Bool) → (b && false) ≡ false
and_no true = refl
and_no false = refl

sphr_test : (c : ℕ) → (fixed_class c && eqb c 2) ≡ eqb c 2
sphr_test c = go (ℕ_discrete c 2)
  where
    go : Dec (c ≡ 2) → (fixed_class c && eqb c 2) ≡ eqb c 2
    go (yes e) = rw e
    go (no d) = rw (ne_eqb c 2 d) (and_no (fixed_class c))

aux_test : (c : ℕ) → (fixed_class c && (leb 4 c && leb c 7)) ≡ (leb 4 c && leb c 7)
aux_test c = go (ℕ_discrete c 3) (ℕ_discrete c 8)
  where
    go : Dec (c ≡ 3) → Dec (c ≡ 8) → (fixed_class c && (leb 4 c && leb c 7)) ≡ (leb 4 c && leb c 7)
    go (yes e) _ = rw e
    go (no d) (yes e) = rw e
    go (no d) (no e) = rw (ne_eqb c 3 d, ne_eqb c 8 e) refl

fixed_only : (f : List ℕ → Bool) (rs : List (List ℕ)) → ((r : List ℕ) → (is_fixed r && f r) ≡ f r) → only f (only is_fixed rs) ≡ only f rs
fixed_only f rs h = only_only f is_fixed rs ∙ only_same (λ (r : List ℕ). is_fixed r && f r) f rs h

-- ---- THE VERDICT AND THE RELATION
pub verdict_cut : (cs rs : List (List ℕ)) → verdict cs rs ≡ alike → CutOf cs rs
verdict_cut cs rs e =
    let g = alike_agrees 3307 cs (only is_fixed rs) (only is_mdr rs) e in
    record {
      mdrs = g.mdrs;
      sphr = sym (fixed_only is_sphr cs (λ r. sphr_test (class r 0))) ∙ ap (only is_sphr) g.fixed ∙ fixed_only is_sphr rs (λ r. sphr_test (class r 0));
      aux = sym (fixed_only is_aux cs (λ r. aux_test (class r 0))) ∙ ap (only is_aux) g.fixed ∙ fixed_only is_aux rs (λ r. aux_test (class r 0));
    }

pub cut_verdict : (cs rs : List (List ℕ)) → Follows 1 cs → Follows 1 rs → CutOf cs rs → verdict cs rs ≡ alike
cut_verdict cs rs f g c =
    agrees_alike 3307 cs (only is_fixed rs) (only is_mdr rs) record {
      mdrs = c.mdrs;
      fixed =
          fixed_split 1 cs f
          ∙ ap (λ (l : List (List ℕ)). l ++ only is_aux cs) c.sphr
          ∙ ap (λ (l : List (List ℕ)). only is_sphr rs ++ l) c.aux
          ∙ sym (fixed_split 1 rs g);
    }

-- ---- every list is a cut of itself
run_itself : (xs : List (List ℕ)) → RunThrough xs xs
run_itself [] = done
run_itself (x ∷ xs) = take refl (run_itself xs)

pub cut_itself : (m : List ℕ) (rs : List (List ℕ)) → IsCutOf m m rs rs
cut_itself m rs = record {
  fields = record { instrument = refl; type = refl; level = refl; spacecraft = refl };
  records = record { mdrs = run_itself (only is_mdr rs); sphr = refl; aux = refl };
}

-- ---- a cut of a cut is a cut
run_on : {xs ys zs : List (List ℕ)} → RunThrough xs ys → RunThrough ys zs → RunThrough xs zs
run_on r (skip s) = skip (run_on r s)
run_on done done = done
run_on done (take e s) = done
run_on (skip r) (take e s) = skip (run_on r s)
run_on (take d r) (take e s) = take (d ∙ e) (run_on r s)

pub cut_on : {m n p : List ℕ} {rs ss us : List (List ℕ)} → IsCutOf m n rs ss → IsCutOf n p ss us → IsCutOf m p rs us
cut_on x y = record {
  fields = record {
    instrument = x.fields.instrument ∙ y.fields.instrument;
    type = x.fields.type ∙ y.fields.type;
    level = x.fields.level ∙ y.fields.level;
    spacecraft = x.fields.spacecraft ∙ y.fields.spacecraft;
  };
  records = record { mdrs = run_on y.records.mdrs x.records.mdrs; sphr = y.records.sphr ∙ x.records.sphr; aux = y.records.aux ∙ x.records.aux };
}
