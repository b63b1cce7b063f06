-- THE LAWS OF A TOWN CUT (02, request Three), of the bytes a and of b, the cut of a by the window w: it is a product; its records are the chosen MDRs,
-- the SPHR and auxiliary records as they stood, and a pointer to the first of each kind; every line that is not named keeps its bytes. From the laws of
-- parts. Assumes nothing.
use Prim.Native.Nat.{ℕ, suc, ◌+◌, ◌*◌, ◌≤◌, ◌<◌}
use native.Mathlib.Omega.{arith}
use mathlib.Core.Path.{◌≡◌, refl, sym, ap, subst, ◌∙◌}
use mathlib.Core.Bool.{Bool, true, false, true≢false, cond}
use mathlib.Core.List.{List, [], ◌∷◌, Memᴰ as In}
use borrow.Author.Tests.{ne_eqb}
use lib.ListN.{length, get_or, length-append}
use Rattle.meter.specs.Time.{is_time, time_at}
use Rattle.std.specs.declared.result.Result.TheVariants.{Ok}
use Rattle.std.specs.declared.option.Option.{Option}
use Rattle.std.specs.declared.result.Result.{Result}
use Rattle.calendar.specs.declared.Refusal.{Refusal}
use Rattle.meter.specs.declared.general.Moment.{Moment}
use Rattle.demands.specs.Product.{Meets}
use Rattle.finish.specs.Rows.{rows_of}
use Rattle.finish.specs.Finish.{put, FinishedIs}
use Rattle.demands.proofs.Accepted.{meets_accepted}
use Rattle.parts.specs.Parts.{joined, bytes, Built, main_of, records_at}
use Rattle.parts.specs.Only.{only, is_of, is_sphr, is_aux, is_mdr}
use Rattle.parts.specs.Pointers.{firsts, pointers, base, AreFirsts}
use Rattle.parts.specs.Cut.{Window, Inside, is_chosen, is_kept}
use Rattle.parts.specs.Rewritten.{value_of, kept, spelling, Holdable}
use Rattle.parts.specs.CutHeader.{first_start, last_stop, to_second, stamp, renamed, sensing_start, sensing_end, cut_values}
use Rattle.parts.specs.TownCut.{cut_records, IsCut, Unnamed, Sensed}
use Rattle.parts.proofs.Built.{bytes_joined, built_meets, meets_built}
use Rattle.parts.proofs.WalkLaws.{walk_length, walk_first, built_back}
use Rattle.parts.proofs.Assembled.{assembled_bytes}
use Rattle.parts.proofs.FirstsLaws.{firsts_are, firsts_most}
use Rattle.parts.proofs.CutLaws.{of_class, cut_tiles, cut_mdrs, cut_aux, cut_sphr, cut_pointers}
use Rattle.meter.specs.Integer.{Bytes}
use Rattle.parts.proofs.CutHeaderLaws.{own_times, stamp_10, stamp_11, parts_byte, cut_is_built}
use Rattle.parts.proofs.OnlyLaws.{only_in}
use Rattle.parts.proofs.Outmost.{starts_earliest, stops_latest}
use Rattle.parts.proofs.Unique.{main_back, parts_back}
use Rattle.parts.proofs.Narrower.{low_kept, cut_of_cut, one_cut}

pub keeps : (m : List ℕ) (w : Window) (rs : List (List ℕ)) (k : ℕ) → Unnamed k → cut_values m w rs k ≡ kept
keeps m w rs k u =
    let far : (n : ℕ) → 55 ≤ n → k ≡ n → ⊥ = λ n h e. omega (arith, u.low) in
    rw (
      ne_eqb k 28 u.size,
      ne_eqb k 55 (far 55 (omega arith)),
      ne_eqb k 56 (far 56 (omega arith)),
      ne_eqb k 57 (far 57 (omega arith)),
      ne_eqb k 58 (far 58 (omega arith)),
      ne_eqb k 59 (far 59 (omega arith)),
      ne_eqb k 60 (far 60 (omega arith)),
      ne_eqb k 61 (far 61 (omega arith)),
      ne_eqb k 62 (far 62 (omega arith)),
      ne_eqb k 63 (far 63 (omega arith)),
      ne_eqb k 0 u.name,
      ne_eqb k 10 u.start,
      ne_eqb k 11 u.end,
      ne_eqb k 64 (far 64 (omega arith)),
      ne_eqb k 65 (far 65 (omega arith)),
      ne_eqb k 66 (far 66 (omega arith)),
      ne_eqb k 67 (far 67 (omega arith)),
      ne_eqb k 68 (far 68 (omega arith)),
      ne_eqb k 69 (far 69 (omega arith)),
      ne_eqb k 70 (far 70 (omega arith)),
      ne_eqb k 71 (far 71 (omega arith)),
    )

-- "The result is accepted": it meets the format, where a is of bytes and the size and totals can be held; and so the finished judge accepts it, whatever list has
-- room for its rows
pub town_product : {a b : List ℕ} {w : Window} → Bytes a → (c : IsCut a w b) → Holdable (cut_records a w c.product) → Meets b
town_product {a} {b} {w} byte c h =
    subst Meets (sym c.whole) (built_meets c.header (cut_records a w c.product) (cut_is_built w (meets_built a c.product) (λ r n. parts_byte a byte c.product.list r n) h c.lines))

pub town_accepted :
    {b : List ℕ} (rows rows' : List (List ℕ)) (t : Meets b) → suc (length t.list) ≤ length rows → (r : Result ℕ Refusal) → FinishedIs b rows r rows'
    → (r ≡ Ok (suc (length t.list))) × (rows' ≡ put 0 (rows_of b (0 ∷ t.list)) rows)
town_accepted {b} rows rows' t n r f = meets_accepted b rows rows' t n r f

-- HOW MUCH ROOM IT TAKES, at most: the bytes of the product, and 27 for each of its records
two_tests : (f g : List ℕ → Bool) → ((r : List ℕ) → f r ≡ true → g r ≡ false) → (rs : List (List ℕ)) → bytes (only f rs) + bytes (only g rs) ≤ bytes rs
two_tests f g h [] = omega arith
two_tests f g h (r ∷ rs) = go (f r) (g r) refl refl (two_tests f g h rs)
  where
    go : (x y : Bool) → f r ≡ x → g r ≡ y → bytes (only f rs) + bytes (only g rs) ≤ bytes rs → bytes (cond x (r ∷ only f rs) (only f rs)) + bytes (cond y (r ∷ only g rs) (only g rs)) ≤ length r + bytes rs
    go true true p q l = absurd (true≢false (sym q ∙ h r p))
    go true false p q l = omega arith
    go false true p q l = omega arith
    go false false p q l = omega arith

fewer : (f : List ℕ → Bool) (rs : List (List ℕ)) → length (only f rs) ≤ length rs
fewer f [] = omega arith
fewer f (r ∷ rs) = go (f r) (fewer f rs)
  where
    go : (x : Bool) → length (only f rs) ≤ length rs → length (cond x (r ∷ only f rs) (only f rs)) ≤ suc (length rs)
    go true l = omega arith
    go false l = omega arith

as_many : (a l : List ℕ) → length (records_at a l) ≡ length l
as_many a [] = refl
as_many a (i ∷ l) = ap suc (as_many a l)

pub town_most : {a : List ℕ} (w : Window) (t : Meets a) → 3307 + bytes (cut_records a w t) ≤ length a + 27 * length t.list
town_most {a} w t =
    let rs = records_at a t.list in
    let apart : (r : List ℕ) → is_sphr r ≡ true → is_kept w r ≡ false = λ r e. low_kept w r (omega (arith, of_class {c = 2} r e)) in
    omega (arith, assembled_bytes (main_of a) (only is_sphr rs) (only (is_kept w) rs), two_tests is_sphr (is_kept w) apart rs, firsts_most 0 (only (is_kept w) rs), fewer (is_kept w) rs, as_many a t.list, walk_length (walk_first a t))

-- WHAT IS IN IT, whatever says that it meets the format
module _ {a b : List ℕ} {w : Window} (c : IsCut a w b) (t : Meets b) where
  whole_long : length b ≡ 3307 + bytes (cut_records a w c.product)
  whole_long = ap length c.whole ∙ length-append c.header (joined (cut_records a w c.product)) ∙ omega (arith, c.lines.long, bytes_joined (cut_records a w c.product))

  pub town_built : Built c.header (cut_records a w c.product)
  town_built =
      built_back c.header (cut_records a w c.product) c.lines.long
      (cut_tiles w (meets_built a c.product) (omega (arith, whole_long, t.come, t.header.most)))
      (subst Meets c.whole t)

  -- the main header, and the records after it
  pub town_main : main_of b ≡ c.header
  town_main = ap main_of c.whole ∙ main_back c.header (cut_records a w c.product) town_built

  pub town_records : records_at b t.list ≡ cut_records a w c.product
  town_records =
      subst (λ (z : List ℕ). (t : Meets z) → records_at z t.list ≡ cut_records a w c.product) (sym c.whole) (parts_back c.header (cut_records a w c.product) town_built) t

  -- "and its MDRs are exactly the chosen ones", in their order, byte for byte
  pub town_mdrs : only is_mdr (records_at b t.list) ≡ only (is_chosen w) (records_at a c.product.list)
  town_mdrs = ap (only is_mdr) town_records ∙ cut_mdrs (main_of a) w (records_at a c.product.list)

  -- "the SPHR, auxiliary records .. byte for byte in their order"
  pub town_sphr : only is_sphr (records_at b t.list) ≡ only is_sphr (records_at a c.product.list)
  town_sphr = ap (only is_sphr) town_records ∙ cut_sphr (main_of a) w (records_at a c.product.list)

  pub town_aux : only is_aux (records_at b t.list) ≡ only is_aux (records_at a c.product.list)
  town_aux = ap (only is_aux) town_records ∙ cut_aux (main_of a) w (records_at a c.product.list)

  -- "one IPR for each class, group and subclass present in classes 4..8, in ascending order, pointing to its first record": the pointers are those of
  -- the firsts of the records that are kept, and these are what `AreFirsts` says
  pub town_pointers :
      only (is_of 3) (records_at b t.list)
      ≡ pointers (main_of a) (base (only is_sphr (records_at a c.product.list)) (only (is_kept w) (records_at a c.product.list))) (firsts 0 (only (is_kept w) (records_at a c.product.list)))
  town_pointers = ap (only (is_of 3)) town_records ∙ cut_pointers (main_of a) w (records_at a c.product.list)

  pub town_firsts : AreFirsts 0 (only (is_kept w) (records_at a c.product.list)) (firsts 0 (only (is_kept w) (records_at a c.product.list)))
  town_firsts = firsts_are 0 (only (is_kept w) (records_at a c.product.list))

  -- every line that is not named keeps its bytes, and so do the 20 bytes of the main header's own header
  pub town_keeps : (k : ℕ) → Unnamed k → value_of (main_of b) k ≡ value_of (main_of a) k
  town_keeps k u =
      ap (λ (z : List ℕ). value_of z k) town_main
      ∙ c.lines.values k (omega (arith, u.low))
      ∙ ap (spelling (main_of a) k) (keeps (main_of a) w (records_at a c.product.list) k u)

  pub town_head : (j : ℕ) → j < 20 → get_or (main_of b) j 0 ≡ get_or (main_of a) j 0
  town_head j l = ap (λ (z : List ℕ). get_or z j 0) town_main ∙ sym (c.lines.start j l)

  -- "The two sensing times, and bytes 16..30 and 32..46 of PRODUCT_NAME, are the earliest start and latest defined stop of the chosen MDRs, cut to whole
  -- seconds, or `x` where there is none"
  times_stand : (r : List ℕ) → In r (only is_mdr (records_at b t.list)) → (is_time (time_at r 8) ≡ true) × (is_time (time_at r 14) ≡ true)
  times_stand r n = own_times r ((meets_built b t).tiles.own r (only_in is_mdr r (records_at b t.list) n).0).times

  pub town_sensed : Sensed a b (only is_mdr (records_at b t.list))
  town_sensed =
      let ms = only is_mdr (records_at b t.list) in
      let e = sym town_mdrs in
      let rs = records_at a c.product.list in
      let f : sensing_start (main_of a) w rs ≡ to_second (first_start ms) = ap (λ (l : List (List ℕ)). to_second (first_start l)) e in
      let l : sensing_end (main_of a) w rs ≡ to_second (last_stop ms) = ap (λ (l : List (List ℕ)). to_second (last_stop l)) e in
      record {
        start = first_start ms;
        stop = last_stop ms;
        earliest = starts_earliest ms (λ r n. (times_stand r n).0);
        latest = stops_latest ms (λ r n. (times_stand r n).1);
        sensing_start = ap (λ (z : List ℕ). value_of z 10) town_main ∙ c.lines.values 10 (omega arith) ∙ stamp_10 (main_of a) (sensing_start (main_of a) w rs) ∙ ap stamp f;
        sensing_end = ap (λ (z : List ℕ). value_of z 11) town_main ∙ c.lines.values 11 (omega arith) ∙ stamp_11 (main_of a) (sensing_end (main_of a) w rs) ∙ ap stamp l;
        name = ap (λ (z : List ℕ). value_of z 0) town_main ∙ c.lines.values 0 (omega arith) ∙ ap (λ (g : Option Moment). renamed (value_of (main_of a) 0) g (sensing_end (main_of a) w rs)) f ∙ ap (renamed (value_of (main_of a) 0) (to_second (first_start ms))) l;
      }

-- "a cut by a narrower window of a cut is the narrower cut of the original"
pub town_narrower :
    {a b c d : List ℕ} {w v : Window} → Bytes a → (x : IsCut a v b) → Holdable (cut_records a v x.product) → Inside w v → IsCut b w c → IsCut a w d → c ≡ d
town_narrower byte x h i y z = one_cut (cut_of_cut byte x h i y) z
