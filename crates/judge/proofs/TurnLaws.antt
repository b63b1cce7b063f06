-- The laws of `JudgeLaws` at the code's own names for the numbers, once a header is read: each way out of a turn is one of them. Assumes nothing.
use Rattle.std.proofs.Common.{◌≡◌, ℕ, ◌+◌, ◌<◌, ◌≤◌, true, List, length, get_or, sym, refl, ap, subst, inl, le_refl, arith}
use native.Mathlib.Decide.{dec_lt, ℕ_discrete}
use Rattle.tables.specs.Table.{Row, Before}
use Rattle.tables.proofs.Laws.{given, given_at, shown_is}
use Rattle.mphr.specs.Table.{declared, total}
use Rattle.mphr.specs.Table as M
use Rattle.mphr.proofs.Export.{fine_early, sized}
use Rattle.record.specs.Header.{is_class}
use Rattle.judge.specs.Table.{Site, site, first, here, class_at, size_at, one_more, Sound, Fault, main, at, too_long, row, shown, Clean, Gives, Given, Open, Judged}
use Rattle.judge.specs.Step.{Ranked, Ranking, Points, Quiet, Kept, Settling, InsideIs, OtherIs, ClearIs, SixIs, BadTargetIs, EntireIs, Bodied, no_pointers}
use Rattle.judge.specs.Turning.{Totals, Turn, Ready, Gone, refused_at, Over, Fewer}
use Rattle.judge.specs.declared.pointers.Pointers.{Pointers}
use Rattle.judge.specs.declared.arrival.Arrival.{Arrival}
use Rattle.judge.proofs.WayLaws.{leads_le, facts, holds}
use Rattle.judge.proofs.RankLaws.{class_most}
use Rattle.judge.proofs.ScanLaws.{first_widened, ended, first_none, kept_other, kept_pointer, quiet_calm}
use Rattle.judge.proofs.JudgeLaws.{Plain, wait_head, sounds, refuse_6_head, refuse_head, refuse_13, refuse_14, plain, wait_body, refuse_6, refuse_12, turn_next, Few, refuse_15, refuse_16, wait_end}

-- a refusal that is given, as the answer
pub said : (a : List ℕ) {r : Arrival} {n p : ℕ} → r ≡ refused_at n p → Given a n p → Judged a r
said a e g = subst (Judged a) (sym e) g

module _ {a ts : List ℕ} {d n i p : ℕ} {tl : List ℕ} {w : Pointers} (y : Ready a d (site n i p tl) ts w) where
  pub room : i + 20 ≤ declared a
  room = y.turn.not_part (omega (arith, y.room, y.d_is))

  pub say_short : length a < i + 20 → Open a n i
  say_short l = wait_head y.turn room l

  pub ranking : i + 20 ≤ length a → Ranking a ts tl d i p
  ranking l = record { d_is = y.d_is; room = omega (arith, room, y.d_is); come = l; known = y.turn.known; totals = y.totals.same; nine = y.totals.nine; nine' = y.turn.nine }

  module _ {h : ℕ} (come : i + 20 ≤ length a) (ranked : Ranked a p i tl h) where
    pub say_6_head : h ≡ 6 → Given a 6 (i + 20)
    say_6_head e = given (refuse_6_head y.turn room ranked e come)

    pub say_head : (h ≡ 6 → ⊥) → h < 12 → Given a h i
    say_head e l = given (refuse_head y.turn room ranked (omega (arith, ranked.low)) l come)

    module _ (high : 12 ≤ h) {z : ℕ} (z-is : z ≡ size_at a i) where
      pub sound : Sound a i
      sound = sounds y.turn room ranked (omega arith)

      to_is : i + z ≡ i + size_at a i
      to_is = omega (arith, z-is)

      pub settling : Settling a w i (i + z) d
      settling = record { fine = y.turn.fine; kept = y.kept; least = omega (arith, sound.least, z-is); most = omega (arith, sound.most, z-is, y.d_is); come = come; d_is = y.d_is }

      pub say_13 : {q : ℕ} → InsideIs a w i (i + z) q → Given a 13 q
      say_13 k = given (refuse_13 y.turn room ranked (omega arith) (first_widened y.kept (rw z-is at k.found)) k.some come)

      widen : {lo hi j : ℕ} → Quiet a w.end lo hi j → Quiet a i lo hi j
      widen h q b = h q (ended y.kept b)

      pub say_14 : {q : ℕ} → OtherIs a w i (i + z) q → Given a 14 q
      say_14 k = given (refuse_14 y.turn room ranked (omega arith) (first_none (widen (rw z-is at k.none))) refl (first_widened y.kept k.found) k.some k.small come)

      pub bodied : Bodied a i (i + z) d
      bodied = record { d_is = y.d_is; small = y.small; come = come; ipr = λ o. omega (arith, z-is, sound.ipr o); most = omega (arith, sound.most, z-is, y.d_is) }

      module _ {v : Pointers} (c : ClearIs a w i (i + z) v) where
        f : Plain a (site n i p tl)
        f = plain y.turn room ranked (omega arith) (widen (rw z-is at c.inside)) (widen c.other)

        pub say_part : length a < i + z → Open a n i
        say_part l = wait_body y.turn room f (omega (arith, z-is))

        pub say_6 : SixIs a (i + z) → Given a 6 (i + z)
        say_6 s = given_at (sym to_is) (given (refuse_6 y.turn room f (omega (arith, z-is, s.more)) (omega (arith, z-is, s.part)) (omega (arith, z-is, s.come))))

        pub say_12 : BadTargetIs a i (i + z) → Given a 12 i
        say_12 b = given (refuse_12 y.turn room f (λ h. omega (arith, z-is, b.ended.not_part (omega (arith, z-is)))) b.ipr b.bad (omega (arith, b.ended.come, z-is, sound.ipr b.ipr)))

        module _ {u : Pointers} (e : EntireIs a i (i + z) v u) where
          on_it : Turn a (site (n + 1) (i + size_at a i) (class_at a i) (one_more tl (class_at a i)))
          on_it = turn_next y.turn room f (λ h. omega (arith, z-is, e.ended.not_part (omega (arith, z-is)))) (omega (arith, z-is, e.ended.come)) e.target

          known : is_class (class_at a i) ≡ true
          known = on_it.known

          kept_on : Dec (class_at a i ≡ 3) → Kept a (i + size_at a i) u
          kept_on (yes o) = kept_pointer y.turn.way sound y.kept (rw z-is at c.follows) (omega (arith, z-is, e.ended.come)) o (rw z-is at (e.pointer o))
          kept_on (no o) = rw (e.other o) (kept_other y.turn.way sound y.kept (rw z-is at c.follows) (omega (arith, z-is, e.ended.come)) o)

          pub go_on : Gone a (site n i p tl) (i + z) (class_at a i) u
          go_on = record {
            further = omega (arith, z-is, sound.least);
            eight = (class_most (class_at a i) known).1;
            fewer = holds (dec_lt (get_or tl (class_at a i) 0) (total a (class_at a i))) (λ m. f.fewer (record { known = known; over = omega arith }));
            to_is = ap (λ (k : ℕ). i + k) z-is;
            turn = rw z-is on_it;
            kept = rw z-is (kept_on (ℕ_discrete (class_at a i) 3));
          }

-- ---- the walk's two ends
-- there is no pointer before the first record
pub kept_first : {a : List ℕ} {d : ℕ} → 3307 ≤ length a → Kept a 3307 (no_pointers d)
kept_first {a} {d} l = record {
  within = le_refl _;
  ends = λ q b. b.before;
  cursor = record { count = 1; prev = 1; tally = first.tally; way = here; goal = record { count = 1; prev = 1; tally = first.tally; way = here; come = l }; ahead = here; rest = λ q b. b.way };
  calm = quiet_calm (λ q b. none b);
  order = λ _. record { rising = record { rise = λ p q b c h. absurd (none b) }; top = λ q b. absurd (none b) };
}
  where
    none : {lo hi k : ℕ} {q : Site} → Points a 3307 lo hi k q → ⊥
    none b = omega (arith, leads_le b.way, b.before)

pub few_of : {a ts tl : List ℕ} → Totals a ts → Fewer ts tl → Few a tl
few_of t f = record { class = f.class; one = f.one; eight = f.eight; less = omega (arith, f.less, t.same f.class f.eight) }

pub not_few : {a ts tl : List ℕ} → Totals a ts → (Fewer ts tl → ⊥) → Few a tl → ⊥
not_few t n f = n (record { class = f.class; one = f.one; eight = f.eight; less = omega (arith, f.less, t.same f.class f.eight) })

pub over_at : {a ts tl : List ℕ} {d n i p : ℕ} → d ≡ declared a → i ≡ d → Totals a ts → Turn a (site n i p tl) → Over a d (site n d p tl) ts
over_at e f s t = record { d_is = e; at_end = refl; totals = s; turn = rw f at t }

module _ {a ts tl : List ℕ} {d n p : ℕ} (o : Over a d (site n d p tl) ts) where
  pub say_15 : Fewer ts tl → Given a 15 d
  say_15 f = given (refuse_15 o.turn o.d_is (few_of o.totals f))

  pub say_16 : (Fewer ts tl → ⊥) → d < length a → Given a 16 d
  say_16 f l = given_at (sym o.d_is) (given (refuse_16 o.turn o.d_is (not_few o.totals f) (omega (arith, o.d_is))))

  pub say_whole : (Fewer ts tl → ⊥) → length a ≤ d → Open a n d
  say_whole f l = wait_end o.turn o.d_is (not_few o.totals f) (omega (arith, o.d_is))

-- ---- the main header's answer, handed on
-- a refusal of the main header is the product's: a fault of a fine header is shown before any record
hand_best : {a : List ℕ} {r : Row} → M.Gives a r → (h : Fault a) → shown h ≤ length a → Before r (row h)
hand_best g (main h) s = g.best h s
hand_best g (at f y l w) s = omega (arith, fine_early f g.fault, shown_is g.is, leads_le l, (facts w).from)
hand_best g (too_long f) s = omega (arith, fine_early f g.fault, shown_is g.is, sized f)

pub hands_on : {a : List ℕ} {r : Row} → M.Gives a r → Gives a r
hands_on g = record { fault = main g.fault; is = g.is; seen = g.seen; best = hand_best g }

pub hand_on : {a : List ℕ} {n p : ℕ} → M.Given a n p → Given a n p
hand_on g = given (hands_on g.gives)

pub open_early : {a : List ℕ} → M.Clean a → length a < 3307 → Open a 0 0
open_early {a} c l = record { clean = clean; whole = inl (l, refl, refl) }
  where
    clean : Clean a
    clean (main g) h = c g h
    clean (at f y w v) h = omega (arith, leads_le w, (facts v).from)
    clean (too_long f) h = omega (arith, sized f)
