-- The scan gathers the pointers that it meets; those of the held that are alike are passed. Assumes nothing.
use Rattle.std.proofs.Common.{◌≡◌, ℕ, ◌+◌, ◌<◌, ◌≤◌, ◌⊎◌, List, length, get_or, set, sym, refl, ap, ◌∙◌, inl, inr, ⊎_elim, zero-le, arith, length-set, get_or-set_other, get_or-set_same}
use Rattle.judge.specs.Table.{Site, class_at, size_at, aim_at, offset_at}
use Rattle.judge.specs.Step.{any, Points, Scan, Met}
use Rattle.judge.specs.Pending.{key_of, EntryIs, Held, HoldsBut, PutIs}
use Rattle.judge.proofs.WayLaws.{leads_le}
use Rattle.judge.proofs.ScanLaws.{scan_sound, scan_pass, before_or_at}

-- those before byte q are held, without those that are x
abbrev pub Got : List ℕ → List ℕ → ℕ → ℕ → ℕ → ℕ → ℕ → ℕ → Type 0
Got a h n e lo hi x q = (p : Site) → Points a e lo hi any p → (key_of (offset_at a p.at) (aim_at a p.at) ≡ x → ⊥) → p.at < q → Held a h 0 n p.at

-- the scan stands at q, whatever it has met
abbrev pub Walk : List ℕ → ℕ → ℕ → Type 0
Walk a e q = Scan a e 0 0 any q

pub walk_from : {a : List ℕ} {e lo hi q : ℕ} → Scan a e lo hi any q → Walk a e q
walk_from {a} {e} {lo} {hi} {q} s = record { count = s.count; prev = s.prev; tally = s.tally; way = s.way; goal = s.goal; ahead = s.ahead; rest = λ p w. absurd (omega (arith, w.below)) }

pub walk_on : {a : List ℕ} {e q : ℕ} → Walk a e q → q < e → (z : ℕ) → z ≡ size_at a q → Walk a e (q + z)
walk_on s h z f = scan_pass s h (λ m. omega (arith, m.below)) z f

pub got_none : {a h : List ℕ} {e lo hi x q : ℕ} → Scan a e lo hi any q → Got a h 0 e lo hi x q
got_none s p w u l = absurd (omega (arith, leads_le (s.rest p w)))

pub got_all : {a h : List ℕ} {n e lo hi x q : ℕ} → Got a h n e lo hi x q → e ≤ q → HoldsBut a h 0 n e lo hi x
got_all g l p w u = g p w u (omega (arith, w.before))

module _ {a : List ℕ} {e lo hi x q : ℕ} (s : Walk a e q) (r : q < e) {h : List ℕ} {n : ℕ} (g : Got a h n e lo hi x q) (z : ℕ) (f : z ≡ size_at a q) where
  -- a pointer before the next record is before this, or is this
  place : (p : Site) → Points a e lo hi any p → p.at < q + z → (p.at < q) ⊎ (p.at ≡ q)
  place p w l = ⊎_map (before_or_at s.way (scan_sound s r) (record { way = w.way; sound = w.sound; ipr = w.ipr; before = omega (arith, f); above = w.above; below = w.below; unlike = w.unlike }))
    where
      ⊎_map : Points a q lo hi any p ⊎ (p.at ≡ q) → (p.at < q) ⊎ (p.at ≡ q)
      ⊎_map (inl b) = inl b.before
      ⊎_map (inr e) = inr e

  met_at : (p : Site) → Points a e lo hi any p → p.at ≡ q → Met a q lo hi any
  met_at p w c = record { ipr = sym (ap (class_at a) c) ∙ w.ipr; above = omega (arith, w.above, ap (offset_at a) c); below = omega (arith, w.below, ap (offset_at a) c); unlike = λ u. absurd (omega arith) }

  pub got_pass : (Met a q lo hi any → ⊥) → Got a h n e lo hi x (q + z)
  got_pass nay p w u l = ⊎_elim (λ b. g p w u b) (λ c. absurd (nay (met_at p w c))) (place p w l)

  pub got_put : {h' : List ℕ} {v m : ℕ} → EntryIs a q v → PutIs h h' n v x m → m ≤ length h → Got a h' m e lo hi x (q + z)
  got_put {h'} {v} {m} k t room p w u l = ⊎_elim (λ b. old (g p w u b)) (λ c. new c) (place p w l)
    where
      old : Held a h 0 n p.at → Held a h' 0 m p.at
      old b = record { at = b.at; after = zero-le; within = omega (arith, b.within, t.more); entry = rw (t.old b.at b.within) b.entry }

      new : p.at ≡ q → Held a h' 0 m p.at
      new c = rw c (record { at = n; after = zero-le; within = omega (arith, it.0); entry = rw it.1 k })
        where
          unlike : v ≡ x → ⊥
          unlike b = u (ap (λ (y : ℕ). key_of (offset_at a y) (aim_at a y)) c ∙ sym k.value ∙ b)

          it : (m ≡ n + 1) × (get_or h' n 0 ≡ v)
          it = t.new unlike room

pub put_one : (h : List ℕ) (n v : ℕ) {x : ℕ} → n < length h → PutIs h (set h n v) n v x (n + 1)
put_one h n v l = record { same = length-set h n v; more = omega arith; old = λ j u. get_or-set_other h n j v 0 (λ e. omega arith); new = λ u w. (refl, get_or-set_same h n v 0 l) }
