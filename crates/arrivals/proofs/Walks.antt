-- THE WALK AS A LIST: the test of a sound record and of a target, and the sites that a walk comes to, are what the table's relations say; the site after the
-- last record that has come is the end of what is whole. By the tests, and by induction on how far a site can be. Assumes nothing.
use Prim.Native.Nat.{ℕ, zero, suc, ◌+◌, ◌≤◌, ◌<◌}
use native.Mathlib.Decide.{ℕ_discrete}
use native.Mathlib.Omega.{arith}
use mathlib.Core.Path.{◌≡◌, refl, sym, subst, ◌∙◌}
use mathlib.Core.Bool.{Bool, true, false, cond, not, ◌&&◌, ◌||◌}
use mathlib.Core.Logic.{◌⊎◌, inl, inr}
use mathlib.Core.List.Memᴰ.{head as top}
use mathlib.Core.List.Memᴰ.{not-nil as nil}
use mathlib.Core.List.Memᴰ.{tail as pop}
use mathlib.Core.List.{List, [], Memᴰ as In}
use borrow.Author.Tests.{leb-true, leb-false, le-leb, eqb-true, eq-eqb, ne_eqb}
use lib.Dec.{eqb, leb}
use lib.ListN.{length}
use Rattle.mphr.specs.Table.{declared}
use Rattle.judge.specs.Table.{Site, first, next, class_at, size_at, aim_class, offset_at, Sound, Leads, here, on, Target, Whole}
use Rattle.judge.proofs.WayLaws.{leads_le, snoc}
use Rattle.arrivals.specs.Computed.{is_sound, is_target, sites, last_site}
use Rattle.arrivals.proofs.Lists.{both, together, not_so, so_not, one_of, either, false_if}

-- ---- a sound record
ipr_is : (c z : ℕ) → not (eqb c 3) || eqb z 27 ≡ true → c ≡ 3 → z ≡ 27
ipr_is c z e d = go (one_of (not (eqb c 3)) (eqb z 27) e)
  where
    go : (not (eqb c 3) ≡ true) ⊎ (eqb z 27 ≡ true) → z ≡ 27
    go (inl n) = absurd (let q : false ≡ true = sym (not_so (eqb c 3) n) ∙ eq-eqb c 3 d in let z : ◌≡◌ {A = ℕ} 0 1 = cc in omega arith)
    go (inr n) = eqb-true z 27 n

ipr_test : (c z : ℕ) → (c ≡ 3 → z ≡ 27) → not (eqb c 3) || eqb z 27 ≡ true
ipr_test c z f = go (ℕ_discrete c 3)
  where
    go : Dec (c ≡ 3) → not (eqb c 3) || eqb z 27 ≡ true
    go (yes e) = either (not (eqb c 3)) (eqb z 27) (inr (eq-eqb z 27 (f e)))
    go (no n) = either (not (eqb c 3)) (eqb z 27) (inl (so_not (eqb c 3) (ne_eqb c 3 n)))

pub sound_is : (a : List ℕ) (i : ℕ) → is_sound a i ≡ true → Sound a i
unfolding is_sound
sound_is a i e =
    let p = both (leb (i + 20) (declared a) && leb 20 (size_at a i)) _ e in
    let q = both (leb (i + 20) (declared a)) _ p.0 in
    let r = both (leb (i + size_at a i) (declared a)) _ p.1 in
    record { room = leb-true _ _ q.0; least = leb-true _ _ q.1; most = leb-true _ _ r.0; ipr = ipr_is (class_at a i) (size_at a i) r.1 }

pub sound_test : (a : List ℕ) (i : ℕ) → Sound a i → is_sound a i ≡ true
unfolding is_sound
sound_test a i s = together (together (le-leb _ _ s.room) (le-leb _ _ s.least)) (together (le-leb _ _ s.most) (ipr_test (class_at a i) (size_at a i) s.ipr))

pub unsound_test : (a : List ℕ) (i : ℕ) → (Sound a i → ⊥) → is_sound a i ≡ false
unsound_test a i n = false_if (is_sound a i) (λ e. n (sound_is a i e))

pub unsound_is : (a : List ℕ) (i : ℕ) → is_sound a i ≡ false → Sound a i → ⊥
unsound_is a i e s = let q : true ≡ false = sym (sound_test a i s) ∙ e in let z : ◌≡◌ {A = ℕ} 0 1 = cc in omega arith

-- ---- a target
pub target_is : (a : List ℕ) (i : ℕ) → is_target a i ≡ true → Target a i
unfolding is_target
target_is a i e =
    let p = both (leb 4 (aim_class a i) && leb (aim_class a i) 8) _ e in
    let q = both (leb 4 (aim_class a i)) _ p.0 in
    let r = both (leb (i + 27) (offset_at a i)) _ p.1 in
    record { four = leb-true _ _ q.0; eight = leb-true _ _ q.1; past = leb-true _ _ r.0; within = leb-true _ _ r.1 }

pub target_test : (a : List ℕ) (i : ℕ) → Target a i → is_target a i ≡ true
unfolding is_target
target_test a i t = together (together (le-leb _ _ t.four) (le-leb _ _ t.eight)) (together (le-leb _ _ t.past) (le-leb _ _ t.within))

pub untarget_test : (a : List ℕ) (i : ℕ) → (Target a i → ⊥) → is_target a i ≡ false
untarget_test a i n = false_if (is_target a i) (λ e. n (target_is a i e))

pub untarget_is : (a : List ℕ) (i : ℕ) → is_target a i ≡ false → Target a i → ⊥
untarget_is a i e s = let q : true ≡ false = sym (target_test a i s) ∙ e in let z : ◌≡◌ {A = ℕ} 0 1 = cc in omega arith

-- ---- THE SITES: those to which x leads, up to n bytes further on
pub in_sites : (n : ℕ) {a : List ℕ} {x y : Site} → Leads a x y → y.at < x.at + n → In y (sites n a x)
in_sites zero w h = absurd (omega (arith, leads_le w))
in_sites (suc n) here h = top refl
in_sites (suc n) {a} {x} {y} (on s w) h =
    let q = sound_test a x.at s in
    let m : In y (cond (is_sound a x.at) (sites n a (next a x)) []) = rw q (in_sites n w (omega (arith, s.least))) in
    pop m

pub sites_in : (n : ℕ) {a : List ℕ} {x y : Site} → In y (sites n a x) → Leads a x y
sites_in zero m = absurd (nil m)
sites_in (suc n) {a} {x} {y} (top e) = subst (Leads a x) (sym e) here
sites_in (suc n) {a} {x} {y} (pop m) = go (is_sound a x.at) refl m (sites_in n {a = a} {x = next a x} {y = y})
  where
    go : (b : Bool) → is_sound a x.at ≡ b → In y (cond b (sites n a (next a x)) []) → (In y (sites n a (next a x)) → Leads a (next a x) y) → Leads a x y
    go true e m f = on (sound_is a x.at e) (f m)
    go false e m f = absurd (nil m)

-- ---- WHAT IS WHOLE
pub ended : (n : ℕ) (a : List ℕ) (x : Site) → Leads a first x → x.at ≤ length a → length a < x.at + n → Whole a (last_site n a x).count (last_site n a x).at
ended zero a x w c h = absurd (omega arith)
ended (suc n) a x w c h = go (is_sound a x.at) refl (leb (x.at + size_at a x.at) (length a)) refl (ended n a (next a x))
  where
    go :
        (b : Bool) → is_sound a x.at ≡ b → (d : Bool) → leb (x.at + size_at a x.at) (length a) ≡ d
        → (Leads a first (next a x) → (next a x).at ≤ length a → length a < (next a x).at + n → Whole a (last_site n a (next a x)).count (last_site n a (next a x)).at)
        → Whole a (cond (b && d) (last_site n a (next a x)) x).count (cond (b && d) (last_site n a (next a x)) x).at
    go true e true f g = let s = sound_is a x.at e in g (snoc w s) (leb-true _ _ f) (omega (arith, s.least))
    go true e false f g = record { prev = x.prev; tally = x.tally; way = w; come = c; last = λ s. leb-false _ _ f }
    go false e d f g = record { prev = x.prev; tally = x.tally; way = w; come = c; last = λ s. absurd (unsound_is a x.at e s) }
