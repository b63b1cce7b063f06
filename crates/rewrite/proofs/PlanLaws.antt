-- THE PLAN OF A CUT: what the survey found is what a new product is assembled from (AssembleLaws); its times; and the four texts that are put one after the
-- other are the result. Assumes nothing.
use Prim.Native.Nat.{ℕ, zero, suc, ◌+◌, ◌≤◌}
use native.Mathlib.Omega.{arith}
use mathlib.Core.Path.{◌≡◌, refl, sym, ap, subst, ◌∙◌}
use mathlib.Core.Bool.{Bool, true, false, cond}
use mathlib.Core.List.Memᴰ.{head as top}
use mathlib.Core.List.Memᴰ.{tail as pop}
use mathlib.Core.List.{List, [], ◌∷◌, ◌++◌, Memᴰ as In}
use lib.ListN.{length, get_or, take, drop, replicate, length-append}
use lib.Seq.{sets, sets-eq, take_at, take_all}
use Rattle.meter.specs.Time.{is_time, time_at, compared}
use Rattle.std.specs.declared.option.Option.TheVariants.{Some, None}
use Rattle.std.specs.declared.result.Result.TheVariants.{Ok}
use Rattle.std.specs.declared.option.Option.{Option}
use Rattle.std.specs.declared.result.Result.{Result}
use Rattle.calendar.specs.declared.Refusal.{Refusal}
use Rattle.meter.specs.declared.time.Time.{Time}
use Rattle.meter.specs.Instant as T
use Rattle.record.specs.Times.{is_after}
use Rattle.demands.specs.Product.{Meets}
use Rattle.demands.proofs.Accepted.{one_list}
use Rattle.parts.specs.Parts.{joined, bytes, bytes_of, Built, main_of, records_at}
use Rattle.parts.specs.Only.{only, is_sphr, is_in, is_global, is_variable}
use Rattle.parts.specs.Pointers.{firsts, pointers}
use Rattle.parts.specs.Cut.{Window, is_window, is_chosen, is_kept, cut_parts}
use Rattle.parts.specs.CutHeader.{sooner, later, first_from, last_from, first_start, last_stop, other_lines}
use Rattle.parts.specs.Rewritten.{Rewritten, Anew, values_of, count_lines, Holdable}
use Rattle.parts.specs.Kinds.{Kinded}
use Rattle.parts.specs.TownCut.{cut_records, IsCut}
use Rattle.parts.proofs.Built.{bytes_joined, meets_built}
use Rattle.parts.proofs.OnlyLaws.{only_in}
use Rattle.parts.proofs.CutLaws.{of_class, kept_range}
use Rattle.parts.proofs.Assembled.{assembled_bytes}
use Rattle.meter.specs.Integer.{Bytes}
use Rattle.parts.proofs.CutHeaderLaws.{parts_byte}
use Rattle.parts.proofs.Sections.{sections}
use Rattle.parts.proofs.WalkLaws.{walk_length, walk_first}
use Rattle.parts.proofs.TownLaws.{town_product}
use Rattle.rewrite.specs.declared.survey.Sums.{Sums}
use Rattle.rewrite.specs.Emitting.{pointers_from, PutsText}
use Rattle.rewrite.specs.Keeping.{kept_text, PutsKept}
use Rattle.rewrite.specs.Surveying.{Found}
use Rattle.rewrite.specs.Lining.{HeaderFor, lines_by}
use Rattle.rewrite.specs.Assembling.{TotalsOf, Collected, Unplanned, big, long}
use Rattle.rewrite.specs.Planning.{CutPlanned, PutsCut}
use Rattle.rewrite.specs.Cut.{refused_at, cut_size, CutIs, too_much, no_room, written}
use Rattle.rewrite.proofs.AssembleLaws.{joined_append, assembled_text, pointers_text, pointers_long, totals_fit, put_together}
use Rattle.rewrite.proofs.KeepLaws.{own_times}

-- ---- times that are right
picked : (b : Bool) (t u : Option Time) → is_time t ≡ true → is_time u ≡ true → is_time (cond b t u) ≡ true
picked true t u e d = e
picked false t u e d = d

right_sooner : (t u : Option Time) → is_time t ≡ true → is_time u ≡ true → is_time (sooner t u) ≡ true
right_sooner None u e d = d
right_sooner (Some t) u e d = picked (is_after (compared (T.At t.day t.milli) u)) u (T.At t.day t.milli) d e

right_later : (t u : Option Time) → is_time t ≡ true → is_time u ≡ true → is_time (later t u) ≡ true
right_later None u e d = d
right_later (Some t) u e d = picked (is_after (compared u (T.At t.day t.milli))) u (T.At t.day t.milli) d e

right_first : (t : Option Time) (rs : List (List ℕ)) → is_time t ≡ true → ((r : List ℕ) → In r rs → is_time (time_at r 8) ≡ true) → is_time (first_from t rs) ≡ true
right_first t [] e f = e
right_first t (r ∷ rs) e f = right_first (sooner t (time_at r 8)) rs (right_sooner t (time_at r 8) e (f r (top refl))) (λ x n. f x (pop n))

right_last : (t : Option Time) (rs : List (List ℕ)) → is_time t ≡ true → ((r : List ℕ) → In r rs → is_time (time_at r 14) ≡ true) → is_time (last_from t rs) ≡ true
right_last t [] e f = e
right_last t (r ∷ rs) e f = right_last (later t (time_at r 14)) rs (right_later t (time_at r 14) e (f r (top refl))) (λ x n. f x (pop n))

-- ---- OF A PRODUCT
module _ (a : List ℕ) (w : Window) (t : Meets a) where
  built : Built (main_of a) (records_at a t.list)
  built = meets_built a t

  kinded : Bytes a → (r : List ℕ) → In r (only (is_kept w) (records_at a t.list)) → Kinded r
  kinded byte r n =
      let o = only_in (is_kept w) r (records_at a t.list) n in
      let c = kept_range w r o.1 in
      let b = parts_byte a byte t.list r o.0 in
      record { four = c.0; eight = c.1; group = (built.tiles.own r o.0).grouped; low = b 1; subclass = b 2 }

  pub collected : {table tally : List ℕ} {v : Sums} → Bytes a → Found w (records_at a t.list) table tally v → Collected (only is_sphr (records_at a t.list)) (only (is_kept w) (records_at a t.list)) table tally v.front v.kept v.records
  collected byte f = record {
    holds = f.holds;
    front_is = f.front;
    records_are = f.records;
    nine = f.nine;
    each = f.each;
    two = λ r n. of_class {c = 2} r (only_in is_sphr r (records_at a t.list) n).1;
    kinded = kinded byte;
  }

  -- the times
  pub first_right : is_time (first_start (only (is_chosen w) (records_at a t.list))) ≡ true
  first_right = right_first None (only (is_chosen w) (records_at a t.list)) refl (λ r n. (own_times r (built.tiles.own r (only_in (is_chosen w) r (records_at a t.list) n).0).times).0)

  pub last_right : is_time (last_stop (only (is_chosen w) (records_at a t.list))) ≡ true
  last_right = right_last None (only (is_chosen w) (records_at a t.list)) refl (λ r n. (own_times r (built.tiles.own r (only_in (is_chosen w) r (records_at a t.list) n).0).times).1)

  -- the lines
  pub lines_same :
      (u v : Option Time) (totals : List ℕ) (size : ℕ) → u ≡ first_start (only (is_chosen w) (records_at a t.list)) → v ≡ last_stop (only (is_chosen w) (records_at a t.list))
      → TotalsOf (cut_records a w t) totals → size ≡ cut_size a w t
      → lines_by (main_of a) u v totals size ≡ count_lines (cut_records a w t) (other_lines (main_of a) w (records_at a t.list))
  lines_same u v totals size eu ev n es =
      let each = n.each in
      rw (
        eu,
        ev,
        es,
        n.all,
        n.main,
        each 2 (omega arith) (omega arith),
        each 3 (omega arith) (omega arith),
        each 4 (omega arith) (omega arith),
        each 5 (omega arith) (omega arith),
        each 6 (omega arith) (omega arith),
        each 7 (omega arith) (omega arith),
        each 8 (omega arith) (omega arith),
      ) refl

  -- the SPHR is what follows the main header
  pub front_text : take (bytes (only is_sphr (records_at a t.list))) (drop 3307 a) ≡ joined (only is_sphr (records_at a t.list))
  front_text =
      let f = only is_sphr (records_at a t.list) in
      let rest = only (is_in 3 3) (records_at a t.list) ++ (only is_global (records_at a t.list) ++ (only is_variable (records_at a t.list) ++ only (is_in 8 8) (records_at a t.list))) in
      ap (take (bytes f)) ((walk_first a t).left ∙ ap joined (sections (records_at a t.list) built.tiles.order) ∙ joined_append f rest)
      ∙ take_at (joined f) (joined rest) (bytes f) (bytes_joined f)

only_bytes : (f : List ℕ → Bool) (xs : List (List ℕ)) → bytes (only f xs) ≤ bytes xs
only_bytes f [] = omega arith
only_bytes f (x ∷ xs) = go (f x) (only_bytes f xs)
  where
    go : (b : Bool) → bytes (only f xs) ≤ bytes xs → bytes (cond b (x ∷ only f xs) (only f xs)) ≤ length x + bytes xs
    go true h = omega arith
    go false h = omega arith

drop_none : (v : List ℕ) → drop 0 v ≡ v
drop_none [] = refl
drop_none (x ∷ v) = refl

-- ---- WHAT A PLAN GIVES
module _ {a : List ℕ} {w : Window} {table totals : List ℕ} {at size : ℕ} {v : Sums} {room : List ℕ} (p : CutPlanned a w table totals at size v room) where
  pub planned_come : 3307 + v.front ≤ length a
  planned_come = omega (arith, p.front, only_bytes is_sphr (records_at a p.product.list), walk_length (walk_first a p.product))

  pub planned_bytes : at + v.kept ≡ size
  planned_bytes = omega (arith, p.planned.base_is, p.planned.size_is, p.holds.count, assembled_bytes (main_of a) (only is_sphr (records_at a p.product.list)) (only (is_kept w) (records_at a p.product.list)))

  pub planned_small : size ≤ 2147483647
  planned_small = omega (arith, p.planned.size_is, p.planned.holdable.size)

  pub planned_header : (h : List ℕ) → length h ≡ 3307 → HeaderFor a v.start v.stop totals size h
  planned_header h e = record {
    come = omega (arith, planned_come);
    header = (meets_built a p.product).fits.header;
    start = rw p.first (first_right a w p.product);
    stop = rw p.last (last_right a w p.product);
    counts = totals_fit p.planned.totals_of p.planned.holdable;
    small = planned_small;
    long = e;
  }

  pub planned_pointers : 3307 + v.front + length (pointers_from a at table 0) ≡ at
  planned_pointers = omega (arith, pointers_long a p.holds p.kinded at, p.planned.base_is, p.front)

  pub planned_kept : length (kept_text w (records_at a p.product.list)) ≡ v.kept
  planned_kept = bytes_joined (only (is_kept w) (records_at a p.product.list)) ∙ sym p.holds.count

  pub puts_cut :
      (header x₁ x₂ x₃ x₄ : List ℕ) (to r : ℕ) → Rewritten (main_of a) header (values_of (lines_by (main_of a) v.start v.stop totals size))
      → x₁ ≡ sets room 0 (take 3307 (drop 0 header)) → x₂ ≡ sets x₁ 3307 (take v.front (drop 3307 a)) → PutsText (pointers_from a at table 0) x₂ (3307 + v.front) to x₃
      → PutsKept w a x₃ to r x₄ → PutsCut a w room x₄
  puts_cut header x₁ x₂ x₃ x₄ to r lines e₁ e₂ q k =
      let t = p.product in
      let rs = records_at a t.list in
      let m = main_of a in
      let f = only is_sphr rs in
      let ks = only (is_kept w) rs in
      let o = pointers m at (firsts 0 ks) in
      let h₁ : x₁ ≡ sets room 0 header = e₁ ∙ ap (sets room 0) (ap (take 3307) (drop_none header) ∙ take_all 3307 header (omega (arith, lines.long))) in
      let lf : length (joined f) ≡ v.front = bytes_joined f ∙ sym p.front in
      let h₂ : x₂ ≡ sets x₁ 3307 (joined f) = e₂ ∙ ap (λ (n : ℕ). sets x₁ 3307 (take n (drop 3307 a))) p.front ∙ ap (sets x₁ 3307) (front_text a w t) in
      let ot = pointers_text a p.holds p.kinded at in
      let n₃ : 3307 + v.front ≡ 3307 + length (joined f) = omega (arith, lf) in
      let h₃ : x₃ ≡ sets x₂ (3307 + length (joined f)) (joined o) = q.put ∙ ap (sets x₂ (3307 + v.front)) ot ∙ ap (λ (n : ℕ). sets x₂ n (joined o)) n₃ in
      let n₄ : to ≡ 3307 + length (joined f) + length (joined o) = omega (arith, q.next, lf, ap length ot) in
      let h₄ : x₄ ≡ sets x₃ (3307 + length (joined f) + length (joined o)) (kept_text w rs) = k.put rs (walk_first a t) ∙ ap (λ (n : ℕ). sets x₃ n (kept_text w rs)) n₄ in
      record {
        product = t;
        header = header;
        lines = subst (λ (l : List Anew). Rewritten m header (values_of l)) (lines_same a w t v.start v.stop totals size p.first p.last p.planned.totals_of p.planned.size_is) lines;
        put = put_together room header (joined f) (joined o) (kept_text w rs) x₁ x₂ x₃ x₄ lines.long h₁ h₂ h₃ h₄ ∙ ap (λ (l : List ℕ). sets room 0 (header ++ l)) (sym (assembled_text m f ks at p.planned.base_is));
      }

-- ---- THE ANSWERS
pub same_records : {a : List ℕ} (w : Window) (t u : Meets a) → cut_records a w t ≡ cut_records a w u
same_records {a} w t u = ap (λ (l : List ℕ). cut_parts (main_of a) w (records_at a l)) (one_list t u)

module _ {a : List ℕ} {w : Window} {room : List ℕ} (t : Meets a) (windowed : is_window w ≡ true) where
  pub says_unplanned :
      (n p : ℕ) → Unplanned (main_of a) (only is_sphr (records_at a t.list)) (only (is_kept w) (records_at a t.list)) (length room) n p → CutIs a w room (refused_at n p) room
  says_unplanned n p (big h) = too_much t windowed h
  says_unplanned n p (long h l) = no_room t windowed h l

  pub says_written : Bytes a → (n : ℕ) (exit : List ℕ) → n ≡ cut_size a w t → Holdable (cut_records a w t) → n ≤ length room → PutsCut a w room exit → CutIs a w room (Ok n) exit
  says_written byte n exit e k h p =
      let b = bytes_of p.header (cut_records a w t) in
      let s = same_records w p.product t in
      let l : length b ≡ cut_size a w t = length-append p.header (joined (cut_records a w t)) ∙ omega (arith, p.lines.long, bytes_joined (cut_records a w t)) in
      let z : 0 + length b ≡ cut_size a w t = omega (arith, l) in
      let x : exit ≡ b ++ drop (cut_size a w t) room =
      p.put
      ∙ ap (λ (ps : List (List ℕ)). sets room 0 (bytes_of p.header ps)) s
      ∙ sets-eq b room 0 (omega (arith, l))
      ∙ ap (λ (y : List ℕ). y ++ b ++ drop (0 + length b) room) (take-zero room)
      ∙ ap (λ (i : ℕ). b ++ drop i room) z in
      let c : IsCut a w b = record { product = p.product; header = p.header; lines = p.lines; whole = ap (bytes_of p.header) (sym s) } in
      subst (λ (y : List ℕ). CutIs a w room (Ok n) y) (sym x) (subst (λ (i : ℕ). CutIs a w room (Ok i) (b ++ drop (cut_size a w t) room)) (sym e) (written t b windowed k (omega arith) c (town_product byte c (subst Holdable (sym s) k))))
    where
      take-zero : (v : List ℕ) → take 0 v ≡ []
      take-zero [] = refl
      take-zero (y ∷ v) = refl

-- an empty array
pub zeros_empty : (n j : ℕ) → get_or (replicate {A = ℕ} n 0) j 0 ≡ 0
zeros_empty zero j = refl
zeros_empty (suc n) zero = refl
zeros_empty (suc n) (suc j) = zeros_empty n j
