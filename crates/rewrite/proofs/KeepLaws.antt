-- The records that are kept: the test on the product's bytes is that on the record's own; and copying them, where the records that are left, put into
-- the room as it is, give the whole. Assumes nothing.
use Prim.Native.Nat.{ℕ, ◌+◌, ◌≤◌, ◌<◌}
use native.Mathlib.Omega.{arith}
use mathlib.Core.Path.{◌≡◌, refl, sym, ap, ◌∙◌}
use mathlib.Core.Bool.{Bool, true, false, cond, ◌&&◌}
use mathlib.Core.List.{List, [], ◌∷◌, ◌++◌}
use borrow.Author.Tests.{ne_eqb, le-leb, lt-leb}
use lib.ListN.{length, get_or, take, drop, length-append}
use lib.Seq.{sets, length-sets}
use Rattle.meter.specs.Time.{is_time, time_of, time_at}
use Rattle.record.specs.Times.{timed_at}
use Rattle.record.proofs.FieldLaws.{both}
use Rattle.demands.specs.Product.{size}
use Rattle.parts.specs.Parts.{joined}
use Rattle.parts.specs.Only.{only}
use Rattle.parts.specs.Cut.{Window, within, is_chosen, is_kept}
use Rattle.parts.specs.Walk.{Walk}
use Rattle.parts.proofs.Local.{be_at_lem}
use Rattle.parts.proofs.WalkLaws.{Ahead, Next, next, walk_next, walk_none, ahead_size, ahead_class, one_walk}
use Rattle.rewrite.specs.Keeping.{Lead, kept_at, text_at, kept_text, PutsOne, Roomy, PutsKept}
use Rattle.rewrite.proofs.CopyLaws.{sets_append}

-- ---- the test, by the class
pub kept_low : (w : Window) (a : List ℕ) (i : ℕ) → get_or a i 0 < 4 → kept_at w a i ≡ false
unfolding kept_at
kept_low w a i h = rw (lt-leb 4 (get_or a i 0) h, ne_eqb (get_or a i 0) 8 (λ e. omega arith))

pub kept_aux : (w : Window) (a : List ℕ) (i : ℕ) → 4 ≤ get_or a i 0 → get_or a i 0 < 8 → kept_at w a i ≡ true
unfolding kept_at
kept_aux w a i h l = rw (le-leb 4 (get_or a i 0) h, le-leb (get_or a i 0) 7 (omega arith))

pub kept_high : (w : Window) (a : List ℕ) (i : ℕ) → 8 ≤ get_or a i 0 → (get_or a i 0 ≡ 8 → ⊥) → kept_at w a i ≡ false
unfolding kept_at
kept_high w a i h d = rw (le-leb 4 (get_or a i 0) (omega arith), lt-leb (get_or a i 0) 7 (omega arith), ne_eqb (get_or a i 0) 8 d)

pub kept_mdr : (w : Window) (a : List ℕ) (i : ℕ) → get_or a i 0 ≡ 8 → kept_at w a i ≡ within w (time_at a (i + 8))
unfolding kept_at
kept_mdr w a i e = rw e

-- ---- a record that stands at byte i
pub own_times : (r : List ℕ) → timed_at r 0 ≡ true → (is_time (time_at r 8) ≡ true) × (is_time (time_at r 14) ≡ true)
unfolding timed_at
own_times r e = both (is_time (time_at r 8)) (is_time (time_at r 14)) (both (is_time (time_at r 8) && is_time (time_at r 14)) _ e).0

module _ {a : List ℕ} {i : ℕ} {r : List ℕ} (k : Ahead a i r) where
  pub start_there : time_at a (i + 8) ≡ time_at r 8
  start_there = ap time_of (be_at_lem k.stands 8 6 (omega (arith, k.own.least)))

  pub stop_there : time_at a (i + 14) ≡ time_at r 14
  stop_there = ap time_of (be_at_lem k.stands 14 6 (omega (arith, k.own.least)))

  pub lead_there : Lead a i
  lead_there =
      let t = own_times r k.own.times in
      record { come = omega (arith, k.own.least, k.most); start = rw start_there t.0; stop = rw stop_there t.1 }

  pub kept_there : (w : Window) → kept_at w a i ≡ is_kept w r
  unfolding kept_at is_chosen
  kept_there w = rw (ahead_class k, start_there)

  text_there : (w : Window) → text_at w a i (length r) ≡ cond (is_kept w r) r []
  text_there w = rw (kept_there w, k.part)

joined_only : (f : List ℕ → Bool) (r : List ℕ) (rs : List (List ℕ)) → joined (only f (r ∷ rs)) ≡ cond (f r) r [] ++ joined (only f rs)
joined_only f r rs = go (f r)
  where
    go : (b : Bool) → joined (cond b (r ∷ only f rs) (only f rs)) ≡ cond b r [] ++ joined (only f rs)
    go true = refl
    go false = refl

-- ---- putting
pub record Putting (w : Window) (a room₀ : List ℕ) (p₀ : ℕ) (room : List ℕ) (p i : ℕ) : Type 0 where
  pub all : List (List ℕ)
  pub start : Walk a 3307 all
  pub rest : List (List ℕ)
  pub walk : Walk a i rest
  pub long : length room ≡ length room₀
  pub fits : p + length (kept_text w rest) ≤ length room
  pub next : p + length (kept_text w rest) ≡ p₀ + length (kept_text w all)
  pub same : sets room p (kept_text w rest) ≡ sets room₀ p₀ (kept_text w all)

-- what is known in a turn
pub record Turn (w : Window) (a : List ℕ) (i : ℕ) (rest : List (List ℕ)) : Type 0 where
  pub lead : Lead a i
  pub least : 20 ≤ size a i
  pub most : i + size a i ≤ length a
  pub after : List (List ℕ)
  pub walk : Walk a (i + size a i) after
  pub text : kept_text w rest ≡ text_at w a i (size a i) ++ kept_text w after

pub turn : {a : List ℕ} {i : ℕ} {rest : List (List ℕ)} (w : Window) → Walk a i rest → i < length a → Turn w a i rest
turn {a} {i} w v h = go (walk_next v h)
  where
    go : {rest : List (List ℕ)} → Next a i rest → Turn w a i rest
    go (next {r = r} {rs = rs} k u) =
        let e = ahead_size k in
        record {
          lead = lead_there k;
          least = omega (arith, k.own.least);
          most = omega (arith, k.most);
          after = rs;
          walk = rw e u;
          text = joined_only (is_kept w) r rs ∙ ap (λ (x : List ℕ). x ++ kept_text w rs) (sym (text_there k w) ∙ ap (text_at w a i) (sym e));
        }

pub putting_first : {w : Window} {a room : List ℕ} {p : ℕ} → Roomy w a room p → Putting w a room p room p 3307
putting_first r = record { all = r.records; start = r.walk; rest = r.records; walk = r.walk; long = refl; fits = r.fits; next = refl; same = refl }

pub putting_next : {w : Window} {a room₀ room exit : List ℕ} {p₀ p q i : ℕ} → Putting w a room₀ p₀ room p i → i < length a → PutsOne w a i (size a i) room p q exit → Putting w a room₀ p₀ exit q (i + size a i)
putting_next {w} {a} {room₀} {room} {exit} {p₀} {p} {q} {i} m h o =
    let t = turn w m.walk h in
    let x = text_at w a i (size a i) in
    let y = kept_text w t.after in
    let l = ap length t.text ∙ length-append x y in
    let z : length exit ≡ length room = ap length o.put ∙ length-sets room p x in
    record {
      all = m.all;
      start = m.start;
      rest = t.after;
      walk = t.walk;
      long = z ∙ m.long;
      fits = omega (arith, m.fits, l, z, o.next);
      next = omega (arith, m.next, l, o.next);
      same =
          ap (λ (r : List ℕ). sets r q y) o.put ∙ ap (λ (k : ℕ). sets (sets room p x) k y) o.next ∙ sym (sets_append room p x y) ∙ ap (sets room p) (sym t.text) ∙ m.same;
    }

pub putting_last : {w : Window} {a room₀ room : List ℕ} {p₀ p i : ℕ} → Putting w a room₀ p₀ room p i → length a ≤ i → PutsKept w a room₀ p₀ p room
putting_last {w} {a} {room₀} {room} {p₀} {p} m h =
    let e = walk_none m.walk h in
    let n : p + 0 ≡ p₀ + length (kept_text w m.all) = ap (λ (l : List (List ℕ)). p + length (kept_text w l)) (sym e) ∙ m.next in
    let s : room ≡ sets room₀ p₀ (kept_text w m.all) = ap (λ (l : List (List ℕ)). sets room p (kept_text w l)) (sym e) ∙ m.same in
    record {
      next = λ rs v. let d = one_walk rs m.all v m.start in omega (arith, n, ap (λ (l : List (List ℕ)). length (kept_text w l)) d);
      put = λ rs v. s ∙ ap (λ (l : List (List ℕ)). sets room₀ p₀ (kept_text w l)) (sym (one_walk rs m.all v m.start));
    }

-- ---- one record
pub text_none : (w : Window) (a : List ℕ) (i size : ℕ) → kept_at w a i ≡ false → text_at w a i size ≡ []
text_none w a i size e = rw e

pub text_all : (w : Window) (a : List ℕ) (i size : ℕ) → kept_at w a i ≡ true → text_at w a i size ≡ take size (drop i a)
text_all w a i size e = rw e
