-- THE EARLIEST START AND THE LATEST STOP (02, request Three: "the earliest start and latest defined stop of the chosen MDRs"): what the two walks over the records
-- find is undefined exactly where no record has such a time, and else it is one of these, with none before it or after it. One law for both walks.
-- Assumes nothing.
use Prim.Native.Nat.{ℕ}
use native.Mathlib.Omega.{arith}
use mathlib.Core.Path.{◌≡◌, refl, sym, subst, ◌∙◌}
use mathlib.Core.Bool.{Bool, true, false, true≢false, cond}
use mathlib.Core.Logic.{◌⊎◌, inl, inr, ⊎_elim}
use mathlib.Core.List.Memᴰ.{head as top}
use mathlib.Core.List.Memᴰ.{not-nil as nil}
use mathlib.Core.List.Memᴰ.{tail as pop}
use mathlib.Core.List.{List, [], ◌∷◌, Memᴰ as In}
use Rattle.meter.specs.Time.{is_time, time_at, compared}
use Rattle.std.specs.declared.option.Option.TheVariants.{Some, None}
use Rattle.std.specs.declared.option.Option.{Option}
use Rattle.meter.specs.declared.time.Time.{Time}
use Rattle.meter.specs.Instant as T
use Rattle.record.specs.Times.{is_after}
use Rattle.parts.specs.Cut.{is_up_to}
use Rattle.parts.specs.CutHeader.{sooner, later, first_from, last_from, first_start, last_stop, Outmost, none, one, EarliestStart, LatestStop}
use Rattle.parts.proofs.TimeOrder.{up_to_on, up_to_self, up_to_not, up_to_after}

-- ---- ONE WALK
through : (Option Time → Option Time → Option Time) → (List ℕ → Option Time) → Option Time → List (List ℕ) → Option Time
through pick of t [] = t
through pick of t (r ∷ rs) = through pick of (pick t (of r)) rs

-- x comes first beside y, or y is undefined
abbrev Beside : (Option Time → Option Time → Bool) → Option Time → Option Time → Type 0
Beside first x y = (y ≡ None) ⊎ (first x y ≡ true)

-- what is asked of an order and of how one of two times is picked
record Picks (first : Option Time → Option Time → Bool) (pick : Option Time → Option Time → Option Time) : Type 0 where
  nothing : (y : Option Time) → first None y ≡ true → ⊥
  on : (x y z : Option Time) → first x y ≡ true → first y z ≡ true → first x z ≡ true
  either : (t u : Option Time) → (pick t u ≡ t) ⊎ (pick t u ≡ u)
  left : (t u : Option Time) → is_time t ≡ true → is_time u ≡ true → Beside first (pick t u) t
  right : (t u : Option Time) → is_time t ≡ true → is_time u ≡ true → Beside first (pick t u) u
  self : (t : Option Time) → is_time t ≡ true → Beside first t t

module _ (first : Option Time → Option Time → Bool) (pick : Option Time → Option Time → Option Time) (k : Picks first pick) (of : List ℕ → Option Time) where
  onward : (x y z : Option Time) → Beside first x y → Beside first y z → Beside first x z
  onward x y z p (inl e) = inl e
  onward x y z (inl d) (inr q) = absurd (k.nothing z (subst (λ (t : Option Time). first t z ≡ true) d q))
  onward x y z (inr p) (inr q) = inr (k.on x y z p q)

  record Least (t : Option Time) (rs : List (List ℕ)) (x : Option Time) : Type 0 where
    among : (x ≡ t) ⊎ ((r : List ℕ) × In r rs × (of r ≡ x))
    own : Beside first x t
    each : (s : List ℕ) → In s rs → Beside first x (of s)

  least : (t : Option Time) (rs : List (List ℕ)) → is_time t ≡ true → ((r : List ℕ) → In r rs → is_time (of r) ≡ true) → Least t rs (through pick of t rs)
  unfolding through
  least t [] v f = record { among = inl refl; own = k.self t v; each = λ s n. absurd (nil n) }
  least t (r ∷ rs) v f =
      let w = f r (top refl) in
      let g : (t ≡ pick t (of r)) ⊎ (of r ≡ pick t (of r)) = ⊎_elim (λ e. inl (sym e)) (λ e. inr (sym e)) (k.either t (of r)) in
      let u : is_time (pick t (of r)) ≡ true = ⊎_elim (λ e. subst (λ (z : Option Time). is_time z ≡ true) e v) (λ e. subst (λ (z : Option Time). is_time z ≡ true) e w) g in
      next r (k.left t (of r) v w) (k.right t (of r) v w) (k.either t (of r)) (least (pick t (of r)) rs u (λ x n. f x (pop n)))
    where
      next : (r : List ℕ) {rs : List (List ℕ)} {x y : Option Time} → Beside first y t → Beside first y (of r) → (y ≡ t) ⊎ (y ≡ of r) → Least y rs x → Least t (r ∷ rs) x
      next r {rs} {x} {y} l m e i = record {
        among = ⊎_elim (λ d. ⊎_elim (λ c. inl (d ∙ c)) (λ c. inr (r, top refl, sym c ∙ sym d)) e) (λ z. inr (z.0, pop z.1, z.2)) i.among;
        own = onward x y t i.own l;
        each = each;
      }
        where
          each : (s : List ℕ) → In s (r ∷ rs) → Beside first x (of s)
          each s (top d) = subst (λ (z : List ℕ). Beside first x (of z)) (sym d) (onward x y (of r) i.own m)
          each s (pop n) = i.each s n

  outmost : (rs : List (List ℕ)) (x : Option Time) → Least None rs x → Outmost first of rs x
  outmost rs None l = none (λ r n. ⊎_elim (λ e. e) (λ e. absurd (k.nothing (of r) e)) (l.each r n))
  outmost rs (Some t) l = ⊎_elim (λ e. absurd (never e)) (λ z. one z.0 z.1 z.2 l.each) l.among
    where
      never : {u : Time} → Some u ≡ None → ⊥
      never e = let z : ◌≡◌ {A = ℕ} 0 1 = cc in omega arith

  found : (rs : List (List ℕ)) → ((r : List ℕ) → In r rs → is_time (of r) ≡ true) → Outmost first of rs (through pick of None rs)
  found rs f = outmost rs (through pick of None rs) (least None rs refl f)

-- ---- THE TWO ORDERS
self_up : (t : Option Time) → is_time t ≡ true → (t ≡ None) ⊎ (is_up_to (compared t t) ≡ true)
self_up None v = inl refl
self_up (Some t) v = inr (up_to_self t.day t.milli v)

chosen : (b : Bool) (t u : Option Time) → (cond b u t ≡ t) ⊎ (cond b u t ≡ u)
chosen true t u = inr refl
chosen false t u = inl refl

sooner_either : (t u : Option Time) → (sooner t u ≡ t) ⊎ (sooner t u ≡ u)
sooner_either None u = inr refl
sooner_either (Some t) u = chosen (is_after (compared (T.At t.day t.milli) u)) (T.At t.day t.milli) u

later_either : (t u : Option Time) → (later t u ≡ t) ⊎ (later t u ≡ u)
later_either None u = inr refl
later_either (Some t) u = chosen (is_after (compared u (T.At t.day t.milli))) (T.At t.day t.milli) u

-- the picked of two defined times, by how the test went
record Both (first : Option Time → Option Time → Bool) (t u x : Option Time) : Type 0 where
  left : first x t ≡ true
  right : first x u ≡ true

sooner_both : (d m e n : ℕ) → is_time (T.At d m) ≡ true → is_time (T.At e n) ≡ true → Both (λ (x y : Option Time). is_up_to (compared x y)) (T.At d m) (T.At e n) (sooner (T.At d m) (T.At e n))
sooner_both d m e n v w = go (is_after (compared (T.At d m) (T.At e n))) refl
  where
    go : (b : Bool) → is_after (compared (T.At d m) (T.At e n)) ≡ b → Both (λ (x y : Option Time). is_up_to (compared x y)) (T.At d m) (T.At e n) (cond b (T.At e n) (T.At d m))
    go true a = record { left = up_to_after d m e n v w a; right = up_to_self e n w }
    go false a = record { left = up_to_self d m v; right = up_to_not d m e n v w a }

later_both : (d m e n : ℕ) → is_time (T.At d m) ≡ true → is_time (T.At e n) ≡ true → Both (λ (x y : Option Time). is_up_to (compared y x)) (T.At d m) (T.At e n) (later (T.At d m) (T.At e n))
later_both d m e n v w = go (is_after (compared (T.At e n) (T.At d m))) refl
  where
    go : (b : Bool) → is_after (compared (T.At e n) (T.At d m)) ≡ b → Both (λ (x y : Option Time). is_up_to (compared y x)) (T.At d m) (T.At e n) (cond b (T.At e n) (T.At d m))
    go true a = record { left = up_to_after e n d m w v a; right = up_to_self e n w }
    go false a = record { left = up_to_self d m v; right = up_to_not e n d m w v a }

no_undefined : (y : Option Time) → is_up_to (compared y None) ≡ true → ⊥
no_undefined None e = true≢false (sym e)
no_undefined (Some t) e = true≢false (sym e)

sooner_picks : Picks (λ (x y : Option Time). is_up_to (compared x y)) sooner
sooner_picks = record {
  nothing = λ y e. true≢false (sym e);
  on = up_to_on;
  either = sooner_either;
  left = left;
  right = right;
  self = self_up;
}
  where
    left : (t u : Option Time) → is_time t ≡ true → is_time u ≡ true → Beside (λ (x y : Option Time). is_up_to (compared x y)) (sooner t u) t
    left None u v w = inl refl
    left (Some t) None v w = inr (up_to_self t.day t.milli v)
    left (Some t) (Some u) v w = inr (sooner_both t.day t.milli u.day u.milli v w).left

    right : (t u : Option Time) → is_time t ≡ true → is_time u ≡ true → Beside (λ (x y : Option Time). is_up_to (compared x y)) (sooner t u) u
    right None u v w = self_up u w
    right (Some t) None v w = inl refl
    right (Some t) (Some u) v w = inr (sooner_both t.day t.milli u.day u.milli v w).right

later_picks : Picks (λ (x y : Option Time). is_up_to (compared y x)) later
later_picks = record {
  nothing = no_undefined;
  on = λ x y z p q. up_to_on z y x q p;
  either = later_either;
  left = left;
  right = right;
  self = self_up;
}
  where
    left : (t u : Option Time) → is_time t ≡ true → is_time u ≡ true → Beside (λ (x y : Option Time). is_up_to (compared y x)) (later t u) t
    left None u v w = inl refl
    left (Some t) None v w = inr (up_to_self t.day t.milli v)
    left (Some t) (Some u) v w = inr (later_both t.day t.milli u.day u.milli v w).left

    right : (t u : Option Time) → is_time t ≡ true → is_time u ≡ true → Beside (λ (x y : Option Time). is_up_to (compared y x)) (later t u) u
    right None u v w = self_up u w
    right (Some t) None v w = inl refl
    right (Some t) (Some u) v w = inr (later_both t.day t.milli u.day u.milli v w).right

-- ---- THE LAWS, of records whose times stand
first_through : (t : Option Time) (rs : List (List ℕ)) → through sooner (λ (r : List ℕ). time_at r 8) t rs ≡ first_from t rs
unfolding through
first_through t [] = refl
first_through t (r ∷ rs) = first_through (sooner t (time_at r 8)) rs

last_through : (t : Option Time) (rs : List (List ℕ)) → through later (λ (r : List ℕ). time_at r 14) t rs ≡ last_from t rs
unfolding through
last_through t [] = refl
last_through t (r ∷ rs) = last_through (later t (time_at r 14)) rs

pub starts_earliest : (rs : List (List ℕ)) → ((r : List ℕ) → In r rs → is_time (time_at r 8) ≡ true) → EarliestStart rs (first_start rs)
starts_earliest rs f = subst (EarliestStart rs) (first_through None rs) (found (λ (x y : Option Time). is_up_to (compared x y)) sooner sooner_picks (λ (r : List ℕ). time_at r 8) rs f)

pub stops_latest : (rs : List (List ℕ)) → ((r : List ℕ) → In r rs → is_time (time_at r 14) ≡ true) → LatestStop rs (last_stop rs)
stops_latest rs f = subst (LatestStop rs) (last_through None rs) (found (λ (x y : Option Time). is_up_to (compared y x)) later later_picks (λ (r : List ℕ). time_at r 14) rs f)
