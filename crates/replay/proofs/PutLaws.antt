-- Numbers put into a room: each stands where it was put, and what was put elsewhere, or was there before, is kept. Assumes nothing.
use Prim.Native.Nat.{ℕ, ◌+◌, ◌*◌, ◌≤◌, ◌<◌}
use native.Mathlib.Nat.{mod-eq_of_lt}
use native.Mathlib.Omega.{arith}
use mathlib.Core.Path.{◌≡◌, refl, sym, ap, ◌∙◌, subst}
use mathlib.Core.Logic.{◌⊎◌, inl, inr, ⊎_elim}
use mathlib.Core.List.{List}
use lib.ListN.{length, get_or}
use Rattle.meter.specs.Integer.{stored}
use Rattle.meter.proofs.IntegerLaws.{stored_length, stored_before, stored_after, back, be_at_same}
use Rattle.replay.specs.Layout.{number_at, length_at, Three, three, three_at, length_in}
use Rattle.replay.specs.Replay.{Answered}
use Rattle.replay.specs.Record.{record_size}
use Rattle.replay.specs.Steps.{Kept, Puts, PutsLengths, Recording, PutsAnswers, PutsRecord}
use Rattle.replay.proofs.RunLaws.{below_next, said_as}

-- ---- what is kept
pub kept_none : (a : List ℕ) (p q : ℕ) → Kept a p q a
kept_none a p q = record { long = refl; before = λ i h. refl; after = λ i h. refl }

pub kept_on : {a b c : List ℕ} {p q p' q' : ℕ} (lo hi : ℕ) → lo ≤ p → q ≤ hi → lo ≤ p' → q' ≤ hi → Kept a p q b → Kept b p' q' c → Kept a lo hi c
kept_on lo hi l h l' h' k m = record {
  long = m.long ∙ k.long;
  before = λ i u. m.before i (omega arith) ∙ k.before i (omega arith);
  after = λ i u. m.after i (omega arith) ∙ k.after i (omega arith);
}

pub kept_number : {a b : List ℕ} {p q : ℕ} → Kept a p q b → (j : ℕ) → (4 * j + 4 ≤ p) ⊎ (q ≤ 4 * j) → number_at b j ≡ number_at a j
kept_number {a} {b} {p} {q} k j w = be_at_same b a (4 * j) (4 * j) 4 (λ i h. ⊎_elim (λ l. k.before (4 * j + i) (omega arith)) (λ l. k.after (4 * j + i) (omega arith)) w)

pub kept_three : {a b : List ℕ} {p q : ℕ} → Kept a p q b → (j : ℕ) → (4 * j + 12 ≤ p) ⊎ (q ≤ 4 * j) → three_at b j ≡ three_at a j
kept_three {a} {b} {p} {q} k j w =
    let x = kept_number k j (side j (omega arith) (omega arith) w) in
    let y = kept_number k (j + 1) (side (j + 1) (omega arith) (omega arith) w) in
    let z = kept_number k (j + 2) (side (j + 2) (omega arith) (omega arith) w) in
    cc
  where
    side : (i : ℕ) → j ≤ i → i ≤ j + 2 → (4 * j + 12 ≤ p) ⊎ (q ≤ 4 * j) → (4 * i + 4 ≤ p) ⊎ (q ≤ 4 * i)
    side i g h (inl l) = inl (omega arith)
    side i g h (inr l) = inr (omega arith)

-- ---- one number
module _ (a : List ℕ) (j n : ℕ) where
  pub put_kept : Kept a (4 * j) (4 * j + 4) (stored a (4 * j) 4 n)
  put_kept = record { long = stored_length a (4 * j) 4 n; before = λ i h. stored_before a (4 * j) 4 n i h; after = λ i h. stored_after a (4 * j) 4 n i h }

  pub put_stands : 4 * j + 4 ≤ length a → n < 4294967296 → number_at (stored a (4 * j) 4 n) j ≡ n
  put_stands h l = back a (4 * j) 4 n h ∙ mod-eq_of_lt l

-- ---- three
module _ (a : List ℕ) (j n p c : ℕ) (h : 4 * j + 12 ≤ length a) (ln : n < 4294967296) (lp : p < 4294967296) (lc : c < 4294967296) where
  abbrev one : List ℕ
  one = stored a (4 * j) 4 n

  abbrev two : List ℕ
  two = stored one (4 * (j + 1)) 4 p

  abbrev all : List ℕ
  all = stored two (4 * (j + 2)) 4 c

  pub put_three : Puts a j (three n p c) all
  put_three =
      let k = put_kept a j n in
      let l = put_kept one (j + 1) p in
      let m = put_kept two (j + 2) c in
      let x = kept_number m j (inl (omega arith)) ∙ kept_number l j (inl (omega arith)) ∙ put_stands a j n (omega arith) ln in
      let y = kept_number m (j + 1) (inl (omega arith)) ∙ put_stands one (j + 1) p (omega (arith, k.long)) lp in
      let z = put_stands two (j + 2) c (omega (arith, k.long, l.long)) lc in
      record {
        kept = kept_on (4 * j) (4 * j + 12) (omega arith) (omega arith) (omega arith) (omega arith) (kept_on (4 * j) (4 * j + 12) (omega arith) (omega arith) (omega arith) (omega arith) k l) m;
        stand = cc;
      }

-- the same rooms, as the code names them
pub puts_as : {a x y z : List ℕ} {j n p c : ℕ} → x ≡ stored a (4 * j) 4 n → y ≡ stored x (4 * (j + 1)) 4 p → z ≡ stored y (4 * (j + 2)) 4 c → Puts a j (three n p c) (stored (stored (stored a (4 * j) 4 n) (4 * (j + 1)) 4 p) (4 * (j + 2)) 4 c) → Puts a j (three n p c) z
puts_as {a} {x} {y} {z} {j} {n} {p} {c} e f g h = rw (g, f, e) h

-- ---- the lengths
pub no_lengths : (ls room : List ℕ) → PutsLengths ls 0 room room
no_lengths ls room = record { kept = kept_none room 4 (4 + 4 * 0); stand = λ k h. absurd (omega arith) }

pub length_put : {ls room now next : List ℕ} {k n : ℕ} → PutsLengths ls k room now → next ≡ stored now (4 * (1 + k)) 4 n → n ≡ get_or ls k 0 → n < 4294967296 → 8 + 4 * k ≤ length room → PutsLengths ls (k + 1) room next
length_put {ls} {room} {now} {next} {k} {n} h e is l w =
    subst (λ (x : List ℕ). PutsLengths ls (k + 1) room x) (sym e)
    (record {
      kept = kept_on 4 (4 + 4 * (k + 1)) (omega arith) (omega arith) (omega arith) (omega arith) h.kept one;
      stand = below_next {P = λ (j : ℕ). length_at (stored now (4 * (1 + k)) 4 n) j ≡ get_or ls j 0} (λ j u. kept_number one (1 + j) (inl (omega arith)) ∙ h.stand j u) (put_stands now (1 + k) n (omega (arith, h.kept.long)) l ∙ is);
    })
  where
    one : Kept now (4 * (1 + k)) (4 * (1 + k) + 4) (stored now (4 * (1 + k)) 4 n)
    one = put_kept now (1 + k) n

-- ---- the answers
pub no_answers : (ls b room : List ℕ) → PutsAnswers ls b 0 room room
no_answers ls b room = record { kept = kept_none room (8 + 4 * length ls) (8 + 4 * length ls + 12 * 0); stand = λ k h. absurd (omega arith) }

pub answer_put : {ls b room now next : List ℕ} {k : ℕ} {t : Three} → PutsAnswers ls b k room now → Puts now (2 + length ls + 3 * k) t next → Answered b (length_in ls) k t → PutsAnswers ls b (k + 1) room next
answer_put {ls} {b} {room} {now} {next} {k} {t} h p a = record {
  kept = kept_on (8 + 4 * length ls) (8 + 4 * length ls + 12 * (k + 1)) (omega arith) (omega arith) (omega arith) (omega arith) h.kept p.kept;
  stand = below_next {P = λ (j : ℕ). Answered b (length_in ls) j (three_at next (2 + length ls + 3 * j))} (λ j u. said_as (kept_three p.kept (2 + length ls + 3 * j) (inl (omega arith))) (h.stand j u)) (said_as p.stand a);
}

-- ---- the record: its first count and lengths, its second count, its answers
pub puts_record : {ls b a₀ a₁ a₂ a₃ a₄ : List ℕ} → Recording ls b (length a₀) → a₁ ≡ stored a₀ (4 * 0) 4 (length ls) → PutsLengths ls (length ls) a₁ a₂ → a₃ ≡ stored a₂ (4 * (1 + length ls)) 4 (length ls) → PutsAnswers ls b (length ls) a₃ a₄ → PutsRecord ls b a₀ a₄
puts_record {ls} {b} {a₀} {a₁} {a₂} {a₃} {a₄} w e l f s = record {
  kept =
      kept_on 0 (record_size ls) (omega arith) (omega arith) (omega arith) (omega arith)
      (kept_on 0 (record_size ls) (omega arith) (omega arith) (omega arith) (omega arith) (kept_on 0 (record_size ls) (omega arith) (omega arith) (omega arith) (omega arith) one l.kept) two) s.kept;
  counted = kept_number s.kept 0 (inl (omega arith)) ∙ kept_number two 0 (inl (omega arith)) ∙ kept_number l.kept 0 (inl (omega arith)) ∙ ap (λ (x : List ℕ). number_at x 0) e ∙ put_stands a₀ 0 (length ls) (omega (arith, w.enough)) w.fit.few;
  lengths = λ k h. kept_number s.kept (1 + k) (inl (omega arith)) ∙ kept_number two (1 + k) (inl (omega arith)) ∙ l.stand k h;
  again = kept_number s.kept (1 + length ls) (inl (omega arith)) ∙ ap (λ (x : List ℕ). number_at x (1 + length ls)) f ∙ put_stands a₂ (1 + length ls) (length ls) (omega (arith, w.enough, l.kept.long, one.long)) w.fit.few;
  answered = s.stand;
}
  where
    one : Kept a₀ 0 4 a₁
    one = subst (λ (x : List ℕ). Kept a₀ 0 4 x) (sym e) (put_kept a₀ 0 (length ls))

    two : Kept a₂ (4 * (1 + length ls)) (4 * (1 + length ls) + 4) a₃
    two = subst (λ (x : List ℕ). Kept a₂ (4 * (1 + length ls)) (4 * (1 + length ls) + 4) x) (sym f) (put_kept a₂ (1 + length ls) (length ls))
