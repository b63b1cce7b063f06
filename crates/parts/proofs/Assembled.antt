-- THE ASSEMBLED LIST: a front of SPHRs in order, pointers, and records of the classes 4 to 8 in order are a product's list, where all of it is shorter
-- than 4,294,967,296 bytes. The pointer's bytes by computing; its target by where its entry stands. Assumes nothing.
use Prim.Native.Nat.{ℕ, ◌+◌, ◌*◌, ◌≤◌, ◌<◌}
use native.Mathlib.Omega.{arith}
use mathlib.Core.Path.{◌≡◌, refl, sym, ap, ◌∙◌}
use mathlib.Core.Bool.{true}
use mathlib.Core.Logic.{⊎_elim}
use mathlib.Core.List.Memᴰ.{append_cases as in-append}
use mathlib.Core.List.Memᴰ.{head as top}
use mathlib.Core.List.Memᴰ.{not-nil as nil}
use mathlib.Core.List.Memᴰ.{tail as pop}
use mathlib.Core.List.{List, [], ◌∷◌, ◌++◌, Memᴰ as In}
use lib.ListN.{length}
use Rattle.meter.specs.Integer.{be_at}
use Rattle.record.specs.Header.{is_class, is_group}
use Rattle.record.specs.Follow.{first_after}
use Rattle.record.specs.Times.{timed_at}
use Rattle.demands.specs.Product.{class, kind, size, target_kind, offset}
use Rattle.parts.specs.Parts.{bytes, Own, Follows, Begins, here, there, Pointed, Tiles}
use Rattle.parts.specs.Pointers.{Entry, kind_of, Stands, this, later, firsts, ipr, pointers, base, assembled}
use Rattle.parts.proofs.Local.{timed_alike}
use Rattle.parts.proofs.FollowLaws.{follow_parts, lowered, section}
use Rattle.parts.proofs.FirstsLaws.{firsts_stand, stands_in}

-- ---- the pointer record, by its bytes
three_known : is_class 3 ≡ true
unfolding is_class
three_known = refl

zero_grouped : is_group 0 ≡ true
unfolding is_group
zero_grouped = refl

module _ (m r : List ℕ) (t : ℕ) where
  ipr_size : size (ipr m r t) 0 ≡ 27
  unfolding be_at
  ipr_size = refl

  ipr_start : be_at (ipr m r t) 8 6 ≡ be_at m 8 6
  unfolding be_at
  ipr_start = refl

  ipr_stop : be_at (ipr m r t) 14 6 ≡ be_at m 14 6
  unfolding be_at
  ipr_stop = refl

  ipr_kind : target_kind (ipr m r t) 0 ≡ kind r 0
  unfolding be_at
  ipr_kind = refl

  ipr_offset : t < 4294967296 → offset (ipr m r t) 0 ≡ t
  unfolding be_at
  ipr_offset h = omega arith

  pub ipr_own : timed_at m 0 ≡ true → Own (ipr m r t)
  ipr_own e = record {
    known = three_known;
    grouped = zero_grouped;
    least = omega arith;
    sized = ipr_size;
    ipr = λ c. refl;
    times = timed_alike (ipr m r t) m 0 0 ipr_start ipr_stop ∙ e;
  }

-- ---- where records begin
begins_stand : {i : ℕ} {ks : List (List ℕ)} {e : Entry} (b : ℕ) → Stands i ks e → Begins (b + i) ks (b + e.at) (kind_of e)
begins_stand {e = e} b (this {i = i} d) = let c : b + e.at ≡ b + i = omega (arith, ap (λ (e : Entry). e.at) d) in here c (ap kind_of (sym d))
begins_stand {i} b (later {r = r} s) = there (let c : b + (i + length r) ≡ b + i + length r = omega arith in rw c at (begins_stand b s))

begins_skip : {i t k : ℕ} (xs : List (List ℕ)) {ys : List (List ℕ)} → Begins (i + bytes xs) ys t k → Begins i (xs ++ ys) t k
begins_skip {i} [] b = let c : i + 0 ≡ i = omega arith in rw c at b
begins_skip {i} (x ∷ xs) b = there (begins_skip {i = i + length x} xs (let c : i + (length x + bytes xs) ≡ i + length x + bytes xs = omega arith in rw c at b))

begins_to : {i t k : ℕ} {ks : List (List ℕ)} → Begins i ks t k → t ≤ i + bytes ks
begins_to (here e d) = omega arith
begins_to (there b) = omega (arith, begins_to b)

pub pointed_none : (i : ℕ) (ks : List (List ℕ)) → ((r : List ℕ) → In r ks → class r 0 ≡ 3 → ⊥) → Pointed i ks
pointed_none i [] h = tt
pointed_none i (r ∷ ks) h = (λ c. absurd (h r (top refl) c), pointed_none (i + length r) ks (λ x n. h x (pop n)))

pointed_on : (i : ℕ) (xs ys : List (List ℕ)) → ((r : List ℕ) → In r xs → class r 0 ≡ 3 → ⊥) → Pointed (i + bytes xs) ys → Pointed i (xs ++ ys)
pointed_on i [] ys h p = let c : i + 0 ≡ i = omega arith in rw c at p
pointed_on i (x ∷ xs) ys h p =
    (λ c. absurd (h x (top refl) c), pointed_on (i + length x) xs ys (λ r n. h r (pop n)) (let c : i + (length x + bytes xs) ≡ i + length x + bytes xs = omega arith in rw c at p))

pub after_three : first_after 3 ≡ 3
unfolding first_after
after_three = refl

after_two : first_after 2 ≡ 3
unfolding first_after
after_two = refl

after_one : first_after 1 ≡ 2
unfolding first_after
after_one = refl

front_follows : (p : ℕ) (xs ys : List (List ℕ)) → first_after p ≤ 3 → ((r : List ℕ) → In r xs → class r 0 ≡ 2) → Follows p xs → ((q : ℕ) → first_after q ≤ 3 → Follows q ys) → Follows p (xs ++ ys)
front_follows p [] ys h k f g = g p h
front_follows p (x ∷ xs) ys h k (e, f) g = (e, front_follows (class x 0) xs ys (omega (arith, ap first_after (k x (top refl)), after_two)) (λ r n. k r (pop n)) f g)

module _ (m : List ℕ) (b : ℕ) where
  pub pointers_bytes : (es : List Entry) → bytes (pointers m b es) ≡ 27 * length es
  pointers_bytes [] = refl
  pointers_bytes (e ∷ es) = omega (arith, pointers_bytes es)

  pub pointers_class : (es : List Entry) (r : List ℕ) → In r (pointers m b es) → class r 0 ≡ 3
  pointers_class [] r n = absurd (nil n)
  pointers_class (e ∷ es) r (top d) = ap (λ (x : List ℕ). class x 0) d
  pointers_class (e ∷ es) r (pop n) = pointers_class es r n

  pointers_own : timed_at m 0 ≡ true → (es : List Entry) (r : List ℕ) → In r (pointers m b es) → Own r
  pointers_own e [] r n = absurd (nil n)
  pointers_own e (x ∷ es) r (top d) = rw d (ipr_own m x.first (b + x.at) e)
  pointers_own e (x ∷ es) r (pop n) = pointers_own e es r n

-- what the entries point to, among the records ks, which start at byte b
record Good (b : ℕ) (ks : List (List ℕ)) (e : Entry) : Type 0 where
  four : 4 ≤ class e.first 0
  eight : class e.first 0 ≤ 8
  begins : Begins b ks (b + e.at) (kind_of e)

pointed_all : (m : List ℕ) (b i : ℕ) (es : List Entry) (ks : List (List ℕ)) → i + 27 * length es ≡ b → b + bytes ks < 4294967296 → ((e : Entry) → In e es → Good b ks e) → Pointed b ks → Pointed i (pointers m b es ++ ks)
pointed_all m b i [] ks d h g p = let c : i ≡ b = omega arith in rw c p
pointed_all m b i (e ∷ es) ks d h g p = (
  λ _. record {
    four = k.four;
    eight = k.eight;
    begins = rw (ipr_offset m e.first (b + e.at) low, ipr_kind m e.first (b + e.at)) (begins_skip (pointers m b es) (rw c k.begins));
  },
  pointed_all m b (i + 27) es ks (omega arith) h (λ x n. g x (pop n)) p,
)
  where
    k : Good b ks e
    k = g e (top refl)

    low : b + e.at < 4294967296
    low = omega (arith, begins_to k.begins)

    c : i + 27 + bytes (pointers m b es) ≡ b
    c = omega (arith, pointers_bytes m b es)

-- ---- THE LAW
pub record Ready (front ks : List (List ℕ)) : Type 0 where
  pub front_own : (r : List ℕ) → In r front → Own r
  pub front_two : (r : List ℕ) → In r front → class r 0 ≡ 2
  pub front_order : Follows 1 front
  pub own : (r : List ℕ) → In r ks → Own r
  pub four : (r : List ℕ) → In r ks → 4 ≤ class r 0
  pub order : Follows 3 ks

follows_most : (p : ℕ) (ks : List (List ℕ)) → Follows p ks → (r : List ℕ) → In r ks → class r 0 ≤ 8
follows_most p [] f r n = absurd (nil n)
follows_most p (x ∷ ks) (e, f) r (top d) = rw d (follow_parts p (class x 0) e).1
follows_most p (x ∷ ks) (e, f) r (pop n) = follows_most (class x 0) ks f r n

module _ (m : List ℕ) (front ks : List (List ℕ)) (s : Ready front ks) (timed : timed_at m 0 ≡ true) (small : base front ks + bytes ks < 4294967296) where
  b : ℕ
  b = base front ks

  assembled_own : (r : List ℕ) → In r (assembled m front ks) → Own r
  assembled_own r n =
      ⊎_elim (λ f. s.front_own r f) (λ g. ⊎_elim (λ p. pointers_own m (base front ks) timed (firsts 0 ks) r p) (λ k. s.own r k) (in-append (pointers m (base front ks) (firsts 0 ks)) g)) (in-append front n)

  rest_follows : (q : ℕ) → first_after q ≤ 3 → Follows q (pointers m (base front ks) (firsts 0 ks) ++ ks)
  rest_follows q h =
      section 3 q (pointers m (base front ks) (firsts 0 ks)) ks h
      (λ r n. let c = pointers_class m (base front ks) (firsts 0 ks) r n in record { least = omega arith; most = omega arith; after = omega (arith, ap first_after c, after_three) })
      (λ p g. lowered 3 p ks (omega (arith, after_three)) s.order)

  good : (e : Entry) → In e (firsts 0 ks) → Good (base front ks) ks e
  good e n =
      let t = firsts_stand 0 ks e n in
      let i = stands_in t in
      let c : base front ks + 0 ≡ base front ks = omega arith in
      record { four = s.four e.first i; eight = follows_most 3 ks s.order e.first i; begins = rw c at (begins_stand (base front ks) t) }

  pub assembled_tiles : Tiles (assembled m front ks)
  assembled_tiles = record {
    own = assembled_own;
    order = front_follows 1 front (pointers m (base front ks) (firsts 0 ks) ++ ks) (omega (arith, after_one)) s.front_two s.front_order rest_follows;
    pointed =
        pointed_on 3307 front (pointers m (base front ks) (firsts 0 ks) ++ ks) (λ r n c. omega (arith, s.front_two r n))
        (pointed_all m (base front ks) (3307 + bytes front) (firsts 0 ks) ks refl small good (pointed_none (base front ks) ks (λ r n c. omega (arith, s.four r n))));
  }

-- how many bytes that is
pub assembled_bytes : (m : List ℕ) (front ks : List (List ℕ)) → 3307 + bytes (assembled m front ks) ≡ base front ks + bytes ks
assembled_bytes m front ks = omega (arith, bytes-append front (pointers m (base front ks) (firsts 0 ks) ++ ks), bytes-append (pointers m (base front ks) (firsts 0 ks)) ks, pointers_bytes m (base front ks) (firsts 0 ks))
  where
    bytes-append : (xs ys : List (List ℕ)) → bytes (xs ++ ys) ≡ bytes xs + bytes ys
    bytes-append [] ys = omega arith
    bytes-append (x ∷ xs) ys = omega (arith, bytes-append xs ys)
