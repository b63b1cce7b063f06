-- THE LAWS OF A REPLAY (02, request Thirteen), over the two definitions and not over the code: what the watch answers is one (One's `unique_watched`), so
-- an answer of the replay is one, and a record that replays without a difference is, byte for byte, what the watch records. Assumes nothing.
use Prim.Native.Nat.{ℕ, suc, ◌+◌, ◌-◌, ◌*◌, ◌/◌, ◌%◌, ◌≤◌, ◌<◌}
use native.Mathlib.Decide.{dec_lt, ℕ_discrete}
use native.Mathlib.Nat.{div-add-mod', mod-lt}
use native.Mathlib.Omega.{arith}
use mathlib.Core.Path.{◌≡◌, refl, sym, ap, ◌∙◌, subst}
use mathlib.Core.List.{List, [], ◌++◌}
use lib.ListN.{length, get_or, take, drop}
use lib.Seq.{ext_get_or, take_at}
use Rattle.std.specs.declared.option.Option.TheVariants.{Some, None}
use Rattle.std.specs.declared.result.Result.TheVariants.{Ok}
use Rattle.std.specs.declared.option.Option.{Option}
use Rattle.std.specs.declared.result.Result.{Result}
use Rattle.calendar.specs.declared.Refusal.{Refusal}
use Rattle.meter.proofs.IntegerLaws.{bytes_same}
use Rattle.watch.specs.Watched.{Watched}
use Rattle.watch.specs.Stands.{joined}
use Rattle.watch.proofs.Laws.{unique_watched, stands_for_all}
use Rattle.replay.specs.Layout.{number_at, parts, length_at, answers, Three, three_at, answer_at, size_of, three_of, sums, length_in}
use Rattle.replay.specs.Replay.{refused_at, Answered, Agrees, Differs, Replayable, ReplayIs, missized, uneven, unsummed, none, first}
use Rattle.meter.specs.Integer.{Bytes}
use Rattle.replay.specs.Record.{Recordable, record_size, Records, RecordIs, unfit, no_room, written, Fed}
use Rattle.replay.proofs.SumLaws.{sums_same}

-- ---- one answer of the watch after each part
pub unique_answered : {b : List ℕ} {f : ℕ → ℕ} {k : ℕ} {s t : Three} → Answered b f k s → Answered b f k t → s ≡ t
unique_answered {b} {f} {k} p q = p.says ∙ ap three_of (unique_watched (take (sums f (suc k)) b) p.arrival q.arrival p.right q.right) ∙ sym q.says

-- of the same lengths
pub answered_along : {b : List ℕ} {f g : ℕ → ℕ} {k : ℕ} {t : Three} → ((j : ℕ) → j < suc k → f j ≡ g j) → Answered b f k t → Answered b g k t
answered_along {b} {f} {g} {k} e a = record { arrival = a.arrival; right = rw (← sums_same f g (suc k) e) a.right; says = a.says }

-- a part whose answer differs does not agree
pub not_both : {r b : List ℕ} {k : ℕ} → Differs r b k → Agrees r b k → ⊥
not_both d a = d.other (unique_answered a d.answered)

-- ---- NO SECOND ANSWER FITS
unfit_37 : {r b : List ℕ} {x : Result (Option ℕ) Refusal} → (length r ≡ size_of r → ⊥) → ReplayIs r b x → refused_at 37 0 ≡ x
unfit_37 n (missized _) = refl
unfit_37 n (uneven s _) = absurd (n s)
unfit_37 n (unsummed s _ _) = absurd (n s)
unfit_37 n (none f _) = absurd (n f.sized)
unfit_37 n (first f _ _ _ _) = absurd (n f.sized)

unfit_38 : {r b : List ℕ} {x : Result (Option ℕ) Refusal} → length r ≡ size_of r → (answers r ≡ parts r → ⊥) → ReplayIs r b x → refused_at 38 0 ≡ x
unfit_38 s n (missized m) = absurd (m s)
unfit_38 s n (uneven _ _) = refl
unfit_38 s n (unsummed _ e _) = absurd (n e)
unfit_38 s n (none f _) = absurd (n f.even)
unfit_38 s n (first f _ _ _ _) = absurd (n f.even)

unfit_39 : {r b : List ℕ} {x : Result (Option ℕ) Refusal} → length r ≡ size_of r → answers r ≡ parts r → (sums (length_at r) (parts r) ≡ length b → ⊥) → ReplayIs r b x → refused_at 39 0 ≡ x
unfit_39 s e n (missized m) = absurd (m s)
unfit_39 s e n (uneven _ m) = absurd (m e)
unfit_39 s e n (unsummed _ _ _) = refl
unfit_39 s e n (none f _) = absurd (n f.summed)
unfit_39 s e n (first f _ _ _ _) = absurd (n f.summed)

-- the first part that differs
one_first : {r b : List ℕ} (k j : ℕ) → ((i : ℕ) → i < k → Agrees r b i) → Differs r b k → ((i : ℕ) → i < j → Agrees r b i) → Differs r b j → k ≡ j
one_first k j f d g e = go (dec_lt k j) (dec_lt j k)
  where
    go : Dec (k < j) → Dec (j < k) → k ≡ j
    go (yes h) m = absurd (not_both d (g k h))
    go (no h) (yes m) = absurd (not_both e (f j m))
    go (no h) (no m) = omega (arith, h, m)

fit_none : {r b : List ℕ} {x : Result (Option ℕ) Refusal} → Replayable r b → ((k : ℕ) → k < parts r → Agrees r b k) → ReplayIs r b x → (Ok None) ≡ x
fit_none f a (missized n) = absurd (n f.sized)
fit_none f a (uneven _ n) = absurd (n f.even)
fit_none f a (unsummed _ _ n) = absurd (n f.summed)
fit_none f a (none _ _) = refl
fit_none f a (first _ k h _ d) = absurd (not_both d (a k h))

fit_first : {r b : List ℕ} {x : Result (Option ℕ) Refusal} (k : ℕ) → Replayable r b → k < parts r → ((j : ℕ) → j < k → Agrees r b j) → Differs r b k → ReplayIs r b x → Ok (Some k) ≡ x
fit_first k f h a d (missized n) = absurd (n f.sized)
fit_first k f h a d (uneven _ n) = absurd (n f.even)
fit_first k f h a d (unsummed _ _ n) = absurd (n f.summed)
fit_first k f h a d (none _ g) = absurd (not_both d (g k h))
fit_first k f h a d (first _ j _ g e) = ap (λ n. Ok (Some n)) (one_first k j a d g e)

pub unique_replay : (r b : List ℕ) (x y : Result (Option ℕ) Refusal) → ReplayIs r b x → ReplayIs r b y → x ≡ y
unique_replay r b x y (missized n) h = unfit_37 n h
unique_replay r b x y (uneven s n) h = unfit_38 s n h
unique_replay r b x y (unsummed s e n) h = unfit_39 s e n h
unique_replay r b x y (none f a) h = fit_none f a h
unique_replay r b x y (first f k l a d) h = fit_first k f l a d h

-- ---- "record short": one that cannot hold its two counts is refused, whatever a cut count is taken for
pub too_short : (r b : List ℕ) → length r < 8 → ReplayIs r b (refused_at 37 0)
too_short r b h = missized (λ e. omega arith)

-- ---- "name the first part whose answer differs"
pub names_first : {r b : List ℕ} {k : ℕ} → ReplayIs r b (Ok (Some k)) → (k < parts r) × ((j : ℕ) → j < k → Agrees r b j) × (Agrees r b k → ⊥)
names_first (first f k h a d) = (h, a, not_both d)

-- ---- "or none": a replay that says none vouches for every answer
pub vouches : {r b : List ℕ} → ReplayIs r b (Ok None) → Replayable r b × ((k : ℕ) → k < parts r → Agrees r b k)
vouches (none f a) = (f, a)

-- ---- WHAT WAS RECORDED READS BACK
pub reads_back : {ls b room room' : List ℕ} {n : ℕ} → RecordIs ls b room (Ok n) room' → Recordable ls b × Records ls b (take n room')
reads_back {ls} {b} (written f _ r k) = (f, subst (Records ls b) (sym (take_at r _ (record_size ls) k.long)) k)

-- the record's own lengths are those that were given
along : {ls b r : List ℕ} (k : Records ls b r) (n : ℕ) → n ≤ length ls → (j : ℕ) → j < n → length_in ls j ≡ length_at r j
along k n h j l = sym (k.lengths j (omega arith))

-- ---- "Replaying what the watch recorded always gives none"
pub records_replay : {ls b r : List ℕ} → Recordable ls b → Records ls b r → ReplayIs r b (Ok None)
records_replay {ls} {b} {r} f k = none
    (record {
      sized = omega (arith, k.long, k.parts, k.answers);
      even = k.answers ∙ sym k.parts;
      summed = ap (sums (length_at r)) k.parts ∙ sym (sums_same (length_in ls) (length_at r) (length ls) (along k (length ls) (omega arith))) ∙ f.summed;
    })
    (λ i h. answered_along {f = length_in ls} {g = length_at r} (along k (suc i) (omega (arith, k.parts))) (k.answered i (omega (arith, k.parts))))

pub recorded_gives_none : {ls b room room' : List ℕ} {n : ℕ} → RecordIs ls b room (Ok n) room' → (x : Result (Option ℕ) Refusal) → ReplayIs (take n room') b x → x ≡ Ok None
recorded_gives_none {b = b} {room' = room'} {n = n} w x h =
    let k = reads_back w in
    unique_replay (take n room') b x (Ok None) h (records_replay k.0 k.1)

-- ---- THE ONLY RECORD THAT GIVES NONE
-- bytes are fixed by their numbers
by_numbers : (r q : List ℕ) (m : ℕ) → Bytes r → Bytes q → length r ≡ 4 * m → length q ≡ 4 * m → ((j : ℕ) → j < m → number_at r j ≡ number_at q j) → r ≡ q
by_numbers r q m x y l n f = ext_get_or 0 r q (l ∙ sym n) (λ i h. go i (omega arith))
  where
    go : (i : ℕ) → i < 4 * m → get_or r i 0 ≡ get_or q i 0
    go i h =
        let d = div-add-mod' i 4 in
        let t = mod-lt i {m = 4} (omega arith) in
        let e : 4 * (i / 4) + i % 4 ≡ i = omega arith in
        subst (λ (p : ℕ). get_or r p 0 ≡ get_or q p 0) e
        (bytes_same r q (4 * (i / 4)) (4 * (i / 4)) 4 (λ k u. x (4 * (i / 4) + k)) (λ k u. y (4 * (i / 4) + k)) (f (i / 4) (omega arith)) (i % 4) t)

of_three : (r q : List ℕ) (i j : ℕ) → three_at r i ≡ three_at q i → i ≤ j → j < i + 3 → number_at r j ≡ number_at q j
of_three r q i j e l h = go (ℕ_discrete j i) (ℕ_discrete j (i + 1))
  where
    go : Dec (j ≡ i) → Dec (j ≡ i + 1) → number_at r j ≡ number_at q j
    go (yes d) n = rw d (ap (λ (t : Three). t.number) e)
    go (no c) (yes d) = rw d (ap (λ (t : Three). t.place) e)
    go (no c) (no d) = let z : j ≡ i + 2 = omega (arith, c, d) in rw z (ap (λ (t : Three). t.count) e)

record Alike (n : ℕ) (r q : List ℕ) : Type 0 where
  long : length r ≡ 8 + 16 * n
  long' : length q ≡ 8 + 16 * n
  parts_r : parts r ≡ n
  parts_q : parts q ≡ n
  lengths : (k : ℕ) → k < n → length_at r k ≡ length_at q k
  answers_r : answers r ≡ n
  answers_q : answers q ≡ n
  answered : (k : ℕ) → k < n → answer_at r k ≡ answer_at q k

alike_same : (n : ℕ) (r q : List ℕ) → Bytes r → Bytes q → Alike n r q → r ≡ q
alike_same n r q x y a = by_numbers r q (2 + 4 * n) x y (a.long ∙ omega arith) (a.long' ∙ omega arith) (λ j h. go j h (ℕ_discrete j 0) (dec_lt j (1 + n)) (ℕ_discrete j (1 + n)))
  where
    at-answers : (t : List ℕ) → parts t ≡ n → answers t ≡ n → number_at t (1 + n) ≡ n
    at-answers t e f = ap (λ (m : ℕ). number_at t (1 + m)) (sym e) ∙ f

    at-answer : (k : ℕ) → k < n → three_at r (2 + n + 3 * k) ≡ three_at q (2 + n + 3 * k)
    at-answer k h = ap (λ (m : ℕ). three_at r (2 + m + 3 * k)) (sym a.parts_r) ∙ a.answered k h ∙ ap (λ (m : ℕ). three_at q (2 + m + 3 * k)) a.parts_q

    go : (j : ℕ) → j < 2 + 4 * n → Dec (j ≡ 0) → Dec (j < 1 + n) → Dec (j ≡ 1 + n) → number_at r j ≡ number_at q j
    go j h (yes e) l m = rw e (a.parts_r ∙ sym a.parts_q)
    go j h (no d) (yes l) m = let e : 1 + (j - 1) ≡ j = omega (arith, d) in subst (λ (i : ℕ). number_at r i ≡ number_at q i) e (a.lengths (j - 1) (omega (arith, d)))
    go j h (no d) (no l) (yes e) = rw e (at-answers r a.parts_r a.answers_r ∙ sym (at-answers q a.parts_q a.answers_q))
    go j h (no d) (no l) (no e) =
        let k = (j - (2 + n)) / 3 in
        let t = div-add-mod' (j - (2 + n)) 3 in
        let u = mod-lt (j - (2 + n)) {m = 3} (omega arith) in
        of_three r q (2 + n + 3 * k) j (at-answer k (omega (arith, l, e))) (omega (arith, l, e)) (omega (arith, l, e))

pub unique_records : {ls b r q : List ℕ} → Records ls b r → Records ls b q → r ≡ q
unique_records {ls} {b} {r} {q} x y = alike_same (length ls) r q x.bytes y.bytes
    (record {
      long = x.long;
      long' = y.long;
      parts_r = x.parts;
      parts_q = y.parts;
      lengths = λ k h. x.lengths k h ∙ sym (y.lengths k h);
      answers_r = x.answers;
      answers_q = y.answers;
      answered = λ k h. unique_answered (x.answered k h) (y.answered k h);
    })

-- a record that replays without a difference is what the watch records of its lengths
pub is_recorded : {r b : List ℕ} (ls : List ℕ) → Bytes r → ReplayIs r b (Ok None) → parts r ≡ length ls → ((k : ℕ) → k < length ls → length_at r k ≡ get_or ls k 0) → Records ls b r
is_recorded {r} {b} ls x h e l = let v = vouches h in record {
  bytes = x;
  long = omega (arith, v.0.sized, v.0.even, e);
  parts = e;
  lengths = l;
  answers = v.0.even ∙ e;
  answered = λ k u. answered_along {f = length_at r} {g = length_in ls} (λ j w. l j (omega arith)) (v.1 k (omega (arith, e)));
}

-- so two records of one product that both give none and have the same lengths are the same bytes
pub only_record : {r q b : List ℕ} → Bytes r → Bytes q → ReplayIs r b (Ok None) → ReplayIs q b (Ok None) → parts r ≡ parts q → ((k : ℕ) → k < parts r → length_at r k ≡ length_at q k) → r ≡ q
only_record {r} {q} {b} x y h m e l =
    let v = vouches h in
    let w = vouches m in
    alike_same (parts r) r q x y
    (record {
      long = omega (arith, v.0.sized, v.0.even);
      long' = omega (arith, w.0.sized, w.0.even, e);
      parts_r = refl;
      parts_q = sym e;
      lengths = l;
      answers_r = v.0.even;
      answers_q = w.0.even ∙ sym e;
      answered = λ k u. unique_answered (answered_along {f = length_at r} {g = length_at q} (λ j t. l j (omega arith)) (v.1 k u)) (w.1 k (omega (arith, e)));
    })

-- and writing it again gives it again
pub written_again : {r b room room' : List ℕ} {n : ℕ} (ls : List ℕ) → Bytes r → ReplayIs r b (Ok None) → parts r ≡ length ls → ((k : ℕ) → k < length ls → length_at r k ≡ get_or ls k 0) → RecordIs ls b room (Ok n) room' → take n room' ≡ r
written_again ls x h e l w = unique_records (reads_back w).1 (is_recorded ls x h e l)

-- ---- NO SECOND ANSWER AND NO SECOND ROOM FITS THE WRITER'S PROMISE
pub unique_record : (ls b room : List ℕ) (x y : Result ℕ Refusal) (p q : List ℕ) → RecordIs ls b room x p → RecordIs ls b room y q → (x ≡ y) × (p ≡ q)
unique_record ls b room x y p q (unfit n) (unfit _) = (refl, refl)
unique_record ls b room x y p q (unfit n) (no_room f _) = absurd (n f)
unique_record ls b room x y p q (unfit n) (written f _ _ _) = absurd (n f)
unique_record ls b room x y p q (no_room f _) (unfit n) = absurd (n f)
unique_record ls b room x y p q (no_room _ _) (no_room _ _) = (refl, refl)
unique_record ls b room x y p q (no_room _ l) (written _ h _ _) = absurd (omega arith)
unique_record ls b room x y p q (written f _ _ _) (unfit n) = absurd (n f)
unique_record ls b room x y p q (written _ h _ _) (no_room _ l) = absurd (omega arith)
unique_record ls b room x y p q (written _ _ r k) (written _ _ s m) = (refl, ap (λ (t : List ℕ). t ++ drop (record_size ls) room) (unique_records k m))

-- ---- THE WATCH'S OWN ANSWERS: what a watch of request One answers after the first k + 1 parts is what is right of them
pub fed_answered : {b : List ℕ} {f : ℕ → ℕ} {k : ℕ} {t : Three} → Fed b f k t → Answered b f k t
fed_answered x = record {
  arrival = x.answer;
  right = subst (λ (a : List ℕ). Watched a x.answer) x.bytes (x.fed.says (joined x.earlier) (stands_for_all x.feeds [] x.fresh));
  says = x.says;
}

-- so a record that anyone made by feeding a watch, of the parts that it names, gives none; and one that gives none has that watch's answers
pub fed_gives_none : {r b : List ℕ} → Replayable r b → ((k : ℕ) → k < parts r → Fed b (length_at r) k (answer_at r k)) → (x : Result (Option ℕ) Refusal) → ReplayIs r b x → x ≡ Ok None
fed_gives_none {r} {b} f h x y = unique_replay r b x (Ok None) y (none f (λ k l. fed_answered (h k l)))

pub none_is_fed : {r b : List ℕ} → ReplayIs r b (Ok None) → (k : ℕ) → k < parts r → (t : Three) → Fed b (length_at r) k t → answer_at r k ≡ t
none_is_fed h k l t x = unique_answered ((vouches h).1 k l) (fed_answered x)
