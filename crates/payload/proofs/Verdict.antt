-- THE VERDICT DOES NOT CHANGE (02, request Eight: "It is accepted still, with the same rows"): what is right to say of the one finished product, with the same
-- list of rows, and to list of it, in the same room, is right for the other. A row and a line are made of the header alone. Assumes nothing.
use Prim.Native.Nat.{ℕ, suc}
use native.Mathlib.Omega.{arith}
use mathlib.Core.Path.{◌≡◌, refl, sym, ap, subst, ◌∙◌}
use mathlib.Core.Logic.{⊎_elim}
use mathlib.Core.List.Memᴰ.{head as top}
use mathlib.Core.List.Memᴰ.{not-nil as nil}
use mathlib.Core.List.Memᴰ.{tail as pop}
use mathlib.Core.List.{List, [], ◌∷◌, ◌++◌, Memᴰ as In}
use lib.ListN.{length}
use Rattle.tables.proofs.Laws.{not_clean}
use Rattle.mphr.specs.Layout.{bytes_of}
use Rattle.judge.specs.Table.{class_at}
use Rattle.judge.specs.Extent.{Short, Covered, ExtentIs}
use Rattle.std.specs.declared.option.Option.TheVariants.{Some, None}
use Rattle.std.specs.declared.result.Result.TheVariants.{Ok, Err}
use Rattle.std.specs.declared.option.Option.{Option}
use Rattle.std.specs.declared.result.Result.{Result}
use Rattle.calendar.specs.declared.Refusal.{Refusal}
use Rattle.finish.specs.Rows.{group_at, subclass_at, how_many, ordinal, row, rows_after, rows_of}
use Rattle.judge.specs.Profile.{is_allowed}
use Rattle.finish.specs.Profile.{first_against}
use Rattle.finish.specs.Finish.{starts, put, Refuses, VerdictIs, FinishedIs, RefusesBy, against, RowsBy}
use Rattle.finish.specs.Finish as E
use Rattle.demands.proofs.Accept.{complete_covered}
use Rattle.demands.proofs.Accepted.{covers, unique_finished, unique_verdict, meets_fit}
use Rattle.level0.specs.Profile.{level0, Level0Is}
use Rattle.level0.proofs.ByLaws.{unique_by}
use Rattle.listing.specs.Decimal.{column}
use Rattle.listing.specs.Listing as S
use Rattle.listing.specs.Listing.{line, lines, listing, Wrote, Lists, NoList, too_large, ListedIs}
use Rattle.listing.proofs.Determined.{unique_list}
use Rattle.payload.specs.Apart.{Apart}
use Rattle.payload.proofs.Twins.{Twins, twins, turned, alike, complete}

-- ---- ROWS AND LINES
module _ {a b : List ℕ} (t : Twins a b) where
  abbrev all : List ℕ
  all = 0 ∷ t.one.list

  abbrev Among : List ℕ → Type 0
  Among l = (j : ℕ) → In j l → In j all

  same_many : (c g s : ℕ) (l : List ℕ) → Among l → how_many a c g s l ≡ how_many b c g s l
  same_many c g s [] sub = refl
  same_many c g s (i ∷ l) sub =
      let k = alike t i (sub i (top refl)) in
      rw (k.class, k.group, k.subclass, same_many c g s l (λ j n. sub j (pop n)))

  same_row : (i n : ℕ) → In i all → row a i n ≡ row b i n
  same_row i n m = let k = alike t i m in rw (k.class, k.group, k.subclass, k.version, k.size)

  same_ordinal : (i : ℕ) (before : List ℕ) → In i all → Among before → ordinal a before i ≡ ordinal b before i
  same_ordinal i before m sub = let k = alike t i m in rw (k.class, k.group, k.subclass) (same_many (class_at b i) (group_at b i) (subclass_at b i) before sub)

  both_among : (i : ℕ) (before : List ℕ) → In i all → Among before → Among (i ∷ before)
  both_among i before m sub j (top e) = subst (λ (z : ℕ). In z all) (sym e) m
  both_among i before m sub j (pop n) = sub j n

  rows_after_lem : (before l : List ℕ) → Among before → Among l → rows_after a before l ≡ rows_after b before l
  rows_after_lem before [] u v = refl
  rows_after_lem before (i ∷ l) u v =
      let m = v i (top refl) in
      ap (λ (r : List ℕ). r ∷ rows_after a (i ∷ before) l) (ap (row a i) (same_ordinal i before m u) ∙ same_row i (ordinal b before i) m)
      ∙ ap (λ (l : List (List ℕ)). row b i (ordinal b before i) ∷ l) (rows_after_lem (i ∷ before) l (both_among i before m u) (λ j n. v j (pop n)))

  pub same_rows : rows_of a all ≡ rows_of b all
  same_rows = rows_after_lem [] all (λ j n. absurd (nil n)) (λ j n. n)

  same_line : (i : ℕ) → In i all → line a i ≡ line b i
  unfolding line
  same_line i m = let k = alike t i m in rw (k.class, k.group, k.subclass, k.version, k.size)

  lines_of : (l : List ℕ) → Among l → lines a l ≡ lines b l
  unfolding lines
  lines_of [] v = refl
  lines_of (i ∷ l) v = rw (same_line i (v i (top refl)), lines_of l (λ j n. v j (pop n)))

  pub same_lines : lines a all ≡ lines b all
  same_lines = lines_of all (λ j n. n)

  -- as many records cover the other
  covered_over : {c : ℕ} → Covered a c → Covered b c
  covered_over {c} v =
      let w = complete_covered (complete (turned t)) in
      let e : w.0 ≡ c = (covers t.two w.1).0 ∙ ap (λ (l : List ℕ). suc (length l)) t.list ∙ sym (covers t.one v).0 in
      subst (Covered b) e w.1

  starts_over : {c : ℕ} (v : Covered a c) (w : Covered b c) → (0 ∷ starts v.way ≡ all) × (0 ∷ starts w.way ≡ all)
  starts_over v w =
      (ap (λ (l : List ℕ). 0 ∷ l) (covers t.one v).1, ap (λ (l : List ℕ). 0 ∷ l) ((covers t.two (w)).1 ∙ t.list))

  rows_over : {c : ℕ} (v : Covered a c) (w : Covered b c) → rows_of a (0 ∷ starts v.way) ≡ rows_of b (0 ∷ starts w.way)
  rows_over v w = let e = starts_over v w in ap (rows_of a) e.0 ∙ same_rows ∙ sym (ap (rows_of b) e.1)

  pub listing_over : {c : ℕ} (v : Covered a c) (w : Covered b c) → listing v ≡ listing w
  listing_over {c} v w =
      let e = starts_over v w in
      ap (λ (l : List ℕ). (bytes_of "records " ++ column c 10) ++ l) (ap (lines a) e.0 ∙ same_lines ∙ sym (ap (lines b) e.1))

  not_short : Short a → ⊥
  not_short s = let k = complete t in ⊎_elim (λ z. omega (arith, k.header)) (λ z. omega (arith, k.come)) s

  refuses_over : {room n p : ℕ} → Refuses a room n p → Refuses b room n p
  refuses_over (E.Refuses.faulty g) = absurd (not_clean g (complete t).clean)
  refuses_over (E.Refuses.short c s) = absurd (not_short s)
  refuses_over (E.Refuses.no_room k v l) = E.Refuses.no_room (complete (turned t)) (covered_over v) l

  finished_over : (rows : List (List ℕ)) (r : Result ℕ Refusal) (rows' : List (List ℕ)) → FinishedIs a rows r rows' → FinishedIs b rows r rows'
  finished_over rows (Ok c) rows' f =
      let v = f.filled.covered in
      let w = covered_over v in
      record {
        complete = complete (turned t);
        filled = record { covered = w; fits = f.filled.fits; index = f.filled.index ∙ ap (λ (l : List (List ℕ)). put 0 l rows) (rows_over v w) };
      }
  finished_over rows (Err r) rows' (f, e) = (refuses_over f, e)

  extent_over : (r : Result (Option ℕ) Refusal) → ExtentIs a r → ExtentIs b r
  extent_over (Ok None) (c, s) = absurd (not_short s)
  extent_over (Ok (Some c)) (k, v) = (complete (turned t), covered_over v)
  extent_over (Err r) g = absurd (not_clean g (complete t).clean)

  verdict_over : (r : Result ℕ Refusal) → VerdictIs a r → VerdictIs b r
  verdict_over (Ok c) (k, v) = (complete (turned t), covered_over v)
  verdict_over (Err r) g = absurd (meets_fit t.one r g)

  -- a profile reads the class, group, subclass and version
  same_allowed : (p : List (List ℕ)) (i : ℕ) → In i all → is_allowed p a i ≡ is_allowed p b i
  same_allowed p i m = let k = alike t i m in rw (k.class, k.group, k.subclass, k.version)

  same_against : (p : List (List ℕ)) (l : List ℕ) → Among l → first_against p a l ≡ first_against p b l
  same_against p [] v = refl
  same_against p (i ∷ l) v = rw (same_allowed p i (v i (top refl)), same_against p l (λ j n. v j (pop n)))

  against_over : (p : List (List ℕ)) {c : ℕ} (v : Covered a c) (w : Covered b c) → first_against p a (0 ∷ starts v.way) ≡ first_against p b (0 ∷ starts w.way)
  against_over p v w = let e = starts_over v w in ap (first_against p a) e.0 ∙ same_against p all (λ j n. n) ∙ sym (ap (first_against p b) e.1)

  refuses_by_over : {p : List (List ℕ)} {room n q : ℕ} → RefusesBy p a room n q → RefusesBy p b room n q
  refuses_by_over (E.RefusesBy.faulty g) = absurd (not_clean g (complete t).clean)
  refuses_by_over (E.RefusesBy.short c s) = absurd (not_short s)
  refuses_by_over {p} (against k v e) = let w = covered_over v in against (complete (turned t)) w (sym (against_over p v w) ∙ e)
  refuses_by_over {p} (E.RefusesBy.no_room k v e l) = let w = covered_over v in E.RefusesBy.no_room (complete (turned t)) w (sym (against_over p v w) ∙ e) l

  by_over : (p rows : List (List ℕ)) (r : Result ℕ Refusal) (rows' : List (List ℕ)) → RowsBy p a rows r rows' → RowsBy p b rows r rows'
  by_over p rows (Ok c) rows' f =
      let v = f.accepts.filled.covered in
      let w = covered_over v in
      record {
        accepts = record {
          complete = complete (turned t);
          filled = record { covered = w; fits = f.accepts.filled.fits; index = f.accepts.filled.index ∙ ap (λ (l : List (List ℕ)). put 0 l rows) (rows_over v w) };
        };
        allowed = sym (against_over p v w) ∙ f.allowed;
      }
  by_over p rows (Err r) rows' (f, e) = (refuses_by_over f, e)

  no_list_over : {room : List ℕ} {n p : ℕ} → NoList a room n p → NoList b room n p
  no_list_over (too_large h) = too_large (omega (arith, t.repaid.long))
  no_list_over (S.NoList.faulty h g) = absurd (not_clean g (complete t).clean)
  no_list_over (S.NoList.short h c s) = absurd (not_short s)
  no_list_over {room} (S.NoList.no_room h k v l) =
      let w = covered_over v in
      let e = listing_over v w in
      let z : NoList b room 18 (length (listing w)) = S.NoList.no_room (omega (arith, t.repaid.long)) (complete (turned t)) w (omega (arith, ap length e)) in
      subst (λ (y : List ℕ). NoList b room 18 (length y)) (sym e) z

  listed_over : (room : List ℕ) (r : Result ℕ Refusal) (exit : List ℕ) → ListedIs a room r exit → ListedIs b room r exit
  listed_over room (Ok n) exit f =
      let w = covered_over f.covered in
      record {
        small = omega (arith, f.small, t.repaid.long);
        complete = complete (turned t);
        count = f.count;
        covered = w;
        wrote = subst (λ (x : List ℕ). Wrote room x n exit) (listing_over f.covered w) f.wrote;
      }
  listed_over room (Err r) exit (f, e) = (no_list_over f, e)

-- ---- THE LAWS
module _ {a b : List ℕ} (x : Apart a b) where
  -- "It is accepted still, with the same rows": whatever the room, what is right to answer and to write is the same, both ways
  pub apart_finished : (rows : List (List ℕ)) (r : Result ℕ Refusal) (rows' : List (List ℕ)) → FinishedIs a rows r rows' → FinishedIs b rows r rows'
  apart_finished = finished_over (twins x)

  pub apart_finished_back : (rows : List (List ℕ)) (r : Result ℕ Refusal) (rows' : List (List ℕ)) → FinishedIs b rows r rows' → FinishedIs a rows r rows'
  apart_finished_back = finished_over (turned (twins x))

  -- so two runs end alike
  pub same_finished :
      (rows : List (List ℕ)) (r s : Result ℕ Refusal) (y z : List (List ℕ)) → FinishedIs a rows r y → FinishedIs b rows s z → (r ≡ s) × (y ≡ z)
  same_finished rows r s y z f g = unique_finished b rows r s y z (apart_finished rows r y f) g

  -- the verdict without rows, which is the finished judge since request Fourteen: the same answer
  pub apart_verdict : (r : Result ℕ Refusal) → VerdictIs a r → VerdictIs b r
  apart_verdict = verdict_over (twins x)

  pub same_verdict : (r s : Result ℕ Refusal) → VerdictIs a r → VerdictIs b s → r ≡ s
  same_verdict r s f g = unique_verdict b r s (apart_verdict r f) g

  -- and by a profile, whichever it is: Level 0 is one (request Nine)
  pub apart_by : (p rows : List (List ℕ)) (r : Result ℕ Refusal) (rows' : List (List ℕ)) → RowsBy p a rows r rows' → RowsBy p b rows r rows'
  apart_by = by_over (twins x)

  pub same_level0 : (rows : List (List ℕ)) (r s : Result ℕ Refusal) (y z : List (List ℕ)) → Level0Is a rows r y → Level0Is b rows s z → (r ≡ s) × (y ≡ z)
  same_level0 rows r s y z f g = unique_by level0 b rows r s y z (apart_by level0 rows r y f) g

  pub apart_extent : (r : Result (Option ℕ) Refusal) → ExtentIs a r → ExtentIs b r
  apart_extent = extent_over (twins x)

  -- the listing: the same text, in the same room, or the same refusal
  pub apart_listing : (room : List ℕ) (r : Result ℕ Refusal) (exit : List ℕ) → ListedIs a room r exit → ListedIs b room r exit
  apart_listing = listed_over (twins x)

  pub apart_text : {c : ℕ} (v : Covered a c) (w : Covered b c) → listing v ≡ listing w
  apart_text = listing_over (twins x)

  pub same_listing : (room : List ℕ) (r s : Result ℕ Refusal) (y z : List ℕ) → ListedIs a room r y → ListedIs b room s z → (r ≡ s) × (y ≡ z)
  same_listing room r s y z f g = unique_list b room r s y z (apart_listing room r y f) g
