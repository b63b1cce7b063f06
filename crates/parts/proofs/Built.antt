-- THE TWO ARE ONE: a main header and records that are built are a product's bytes, and a product's bytes are such a header and such records. Forward and
-- backward by induction on the list; a field of a record is the whole's by locality. Assumes nothing.
use Prim.Native.Nat.{ℕ, ◌+◌, ◌≤◌}
use native.Mathlib.Omega.{arith}
use mathlib.Core.Path.{◌≡◌, refl, sym, ap, ◌∙◌}
use mathlib.Core.Bool.{true}
use mathlib.Core.List.Memᴰ.{head as top}
use mathlib.Core.List.Memᴰ.{not-nil as nil}
use mathlib.Core.List.Memᴰ.{tail as pop}
use mathlib.Core.List.{List, [], ◌∷◌, ◌++◌, Memᴰ as In}
use lib.ListN.{length, drop, length-append, length-drop, take-append-drop}
use lib.Seq.{drop-drop, drop-length, length-take-le, get_or-take}
use Rattle.tables.specs.Lawful.{Same}
use Rattle.record.specs.Follow.{may_follow}
use Rattle.mphr.specs.Table.{declared}
use Rattle.demands.specs.Product.{class, kind, size, IsRecord, Aims, Records, none, more, of_class, Meets}
use Rattle.parts.specs.Parts.{joined, bytes, bytes_of, starts_from, Own, Follows, Begins, here, there, Aim, Pointed, count, Built, main_of, record_at, records_at}
use Rattle.parts.proofs.Local.{At, at_left, at_right, at_end, at_part, class_at, group_at, kind_at_lem, size_at, timed_at_lem, target_class_at, target_kind_at, offset_at, header_on, declared_on, total_on, same_main}

pub bytes_joined : (rs : List (List ℕ)) → length (joined rs) ≡ bytes rs
bytes_joined [] = refl
bytes_joined (r ∷ rs) = length-append r (joined rs) ∙ ap (λ (n : ℕ). length r + n) (bytes_joined rs)

-- ---- FROM THE PARTS
module _ (a : List ℕ) where
  is_record : {p i : ℕ} {r : List ℕ} → At a i r → Own r → may_follow p (class r 0) ≡ true → IsRecord a p i
  is_record {p} {i} {r} t o f =
      let ec = class_at t o.least in
      let ez = size_at t o.least ∙ o.sized in
      record {
        known = rw ec o.known;
        grouped = rw (group_at t o.least) o.grouped;
        ordered = rw ec f;
        least = omega (arith, o.least);
        ipr = λ c. ez ∙ o.ipr (sym ec ∙ c);
        times = timed_at_lem t o.least ∙ o.times;
      }

  -- what begins somewhere is listed there, with its kind
  listed : {i t k : ℕ} {rs : List (List ℕ)} → At a i (joined rs) → ((r : List ℕ) → In r rs → Own r) → Begins i rs t k → In t (starts_from i rs) × (kind a t ≡ k)
  listed s o (here {r = r} {rs = rs} e d) =
      (top e, rw e (kind_at_lem (at_left r (joined rs) s) (o r (top refl)).least ∙ d))
  listed s o (there {r = r} {rs = rs} b) = let k = listed (at_right r (joined rs) s) (λ x h. o x (pop h)) b in (pop k.0, k.1)

  aims : {i : ℕ} (r : List ℕ) (rs : List (List ℕ)) → At a i (r ++ joined rs) → ((x : List ℕ) → In x (r ∷ rs) → Own x) → Aim r (i + length r) rs → length r ≡ 27 → Aims a (starts_from (i + length r) rs) i
  aims {i} r rs s o g e =
      let t = at_left r (joined rs) s in
      let k = listed (at_right r (joined rs) s) (λ x h. o x (pop h)) g.begins in
      let c = target_class_at t e in
      record {
        four = omega (arith, g.four);
        eight = omega (arith, g.eight);
        later = rw (offset_at t e) k.0;
        alike = rw (offset_at t e, target_kind_at t e) k.1;
      }

  records_of : {i p : ℕ} (rs : List (List ℕ)) → At a i (joined rs) → i + bytes rs ≡ declared a → ((r : List ℕ) → In r rs → Own r) → Follows p rs → Pointed i rs → Records a i p (starts_from i rs)
  records_of {i} [] s e o f g = none {i = i} (omega arith)
  records_of {i} (r ∷ rs) s e o (f, fs) (g, gs) =
      let w = o r (top refl) in
      let t = at_left r (joined rs) s in
      let ec : class a i ≡ class r 0 = class_at t w.least in
      let ez : size a i ≡ length r = size_at t w.least ∙ w.sized in
      more (is_record t w f) (λ c. aims r rs s o (g (sym ec ∙ c)) (w.ipr (sym ec ∙ c)))
      (rw (ez, ec) (records_of {i = i + length r} rs (at_right r (joined rs) s) (omega arith) (λ x h. o x (pop h)) fs gs))

  counted : {i : ℕ} (c : ℕ) (rs : List (List ℕ)) → At a i (joined rs) → ((r : List ℕ) → In r rs → Own r) → of_class a c (starts_from i rs) ≡ count c rs
  counted c [] s o = refl
  counted {i} c (r ∷ rs) s o =
      let ec : class a i ≡ class r 0 = class_at (at_left r (joined rs) s) (o r (top refl)).least in
      rw (ec, counted {i = i + length r} c rs (at_right r (joined rs) s) (λ x h. o x (pop h)))

module _ (m : List ℕ) (rs : List (List ℕ)) (b : Built m rs) where
  stands : At (bytes_of m rs) 3307 (joined rs)
  stands = rw b.fits.long at (at_end m (joined rs))

  on : Same m (bytes_of m rs) 3307
  on = same_main m (joined rs) b.fits.long

  -- THE FIRST LAW: what is built is a product, and its list has the starts of the parts
  pub built_meets : Meets (bytes_of m rs)
  built_meets = record {
    header = header_on on b.fits.header;
    list = starts_from 3307 rs;
    records = records_of (bytes_of m rs) rs stands (sym b.fits.come ∙ declared_on on) b.tiles.own b.tiles.order b.tiles.pointed;
    totals = λ c h l.
        let e : class (bytes_of m rs) 0 ≡ class m 0 = sym (on.byte 0 (omega arith)) in
        rw (e, counted (bytes_of m rs) c rs stands b.tiles.own) (b.fits.totals c h l ∙ total_on on c l);
    come = length-append m (joined rs) ∙ omega (arith, b.fits.long, b.fits.come, bytes_joined rs, declared_on on);
  }

  pub built_list : built_meets.list ≡ starts_from 3307 rs
  unfolding built_meets
  built_list = refl

-- ---- TO THE PARTS
records_le : {a : List ℕ} {i p : ℕ} {l : List ℕ} → Records a i p l → i ≤ declared a
records_le (none e) = omega arith
records_le (more r _ ts) = omega (arith, records_le ts)

-- a record lies at byte i of a, all of it
record Lies (a : List ℕ) (i : ℕ) : Type 0 where
  least : 20 ≤ size a i
  within : i + size a i ≤ length a

module _ {a : List ℕ} (come : length a ≡ declared a) where
  lies : {i p q : ℕ} {l : List ℕ} → IsRecord a p i → Records a (i + size a i) q l → Lies a i
  lies x ts = record { least = x.least; within = omega (arith, records_le ts) }

module _ {a : List ℕ} {i : ℕ} (h : Lies a i) where
  long : length (record_at a i) ≡ size a i
  long = length-take-le (size a i) (drop i a) (simp length-drop (omega (arith, h.within)))

  own_long : 20 ≤ length (record_at a i)
  own_long = omega (arith, long, h.least)

  stands_at : At a i (record_at a i)
  stands_at = at_part a i (size a i) long

  class_is : class a i ≡ class (record_at a i) 0
  class_is = class_at stands_at own_long

  kind_is : kind a i ≡ kind (record_at a i) 0
  kind_is = kind_at_lem stands_at own_long

  own_of : {p : ℕ} → IsRecord a p i → Own (record_at a i)
  own_of r = record {
    known = rw (sym class_is) r.known;
    grouped = rw (sym (group_at stands_at own_long)) r.grouped;
    least = own_long;
    sized = sym (size_at stands_at own_long) ∙ sym long;
    ipr = λ c. long ∙ r.ipr (class_is ∙ c);
    times = sym (timed_at_lem stands_at own_long) ∙ r.times;
  }

module _ (a : List ℕ) (come : length a ≡ declared a) where
  -- the records are the bytes from the first one's start on
  tiled : {i p : ℕ} {l : List ℕ} → Records a i p l → drop i a ≡ joined (records_at a l)
  tiled (none {i = i} e) = rw (e, sym come) (drop-length a)
  tiled (more {i = i} {l = l} r _ ts) =
      sym (take-append-drop (size a i) (drop i a)) ∙ ap (λ (x : List ℕ). record_at a i ++ x) (drop-drop (size a i) i a ∙ tiled ts)

  sum_is : {i p : ℕ} {l : List ℕ} → Records a i p l → i + bytes (records_at a l) ≡ declared a
  sum_is (none e) = omega arith
  sum_is (more x _ ts) = omega (arith, long (lies come x ts), sum_is ts)

  owns : {i p : ℕ} {l : List ℕ} → Records a i p l → (r : List ℕ) → In r (records_at a l) → Own r
  owns (none e) r m = absurd (nil m)
  owns (more x _ ts) r (top e) = rw e (own_of (lies come x ts) x)
  owns (more x _ ts) r (pop m) = owns ts r m

  follows : {i p : ℕ} {l : List ℕ} → Records a i p l → Follows p (records_at a l)
  follows (none e) = tt
  follows (more x _ ts) = let e = class_is (lies come x ts) in (rw e at x.ordered, rw e at (follows ts))

  begins : {i p t k : ℕ} {l : List ℕ} → Records a i p l → In t l → kind a t ≡ k → Begins i (records_at a l) t k
  begins (none e) m d = absurd (nil m)
  begins (more x _ ts) (top e) d = here e (sym (kind_is (lies come x ts)) ∙ rw e at d)
  begins (more x _ ts) (pop m) d = there (rw (sym (long (lies come x ts))) at (begins ts m d))

  aim_of : {i q : ℕ} {l : List ℕ} → Lies a i → Records a (i + size a i) q l → size a i ≡ 27 → Aims a l i → Aim (record_at a i) (i + length (record_at a i)) (records_at a l)
  aim_of h ts e g =
      let t = stands_at h in
      let n = long h ∙ e in
      let k = target_class_at t n in
      record {
        four = omega (arith, g.four);
        eight = omega (arith, g.eight);
        begins = rw (long h, sym (offset_at t n)) (begins ts g.later (g.alike ∙ target_kind_at t n));
      }

  pointed : {i p : ℕ} {l : List ℕ} → Records a i p l → Pointed i (records_at a l)
  pointed (none e) = tt
  pointed (more x f ts) =
      let h = lies come x ts in
      (λ c. let o = class_is h ∙ c in aim_of h ts (x.ipr o) (f o), rw (sym (long h)) at (pointed ts))

  count_is : (c : ℕ) {i p : ℕ} {l : List ℕ} → Records a i p l → count c (records_at a l) ≡ of_class a c l
  count_is c (none e) = refl
  count_is c (more x _ ts) = rw (sym (class_is (lies come x ts)), count_is c ts)

module _ (a : List ℕ) (t : Meets a) where
  same_first : Same a (main_of a) 3307
  same_first = record { byte = λ j h. sym (get_or-take 3307 a j 0 h) }

  pub parts_of : a ≡ bytes_of (main_of a) (records_at a t.list)
  parts_of = sym (take-append-drop 3307 a) ∙ ap (λ (x : List ℕ). main_of a ++ x) (tiled a t.come t.records)

  -- THE SECOND LAW: the parts of a product are built
  pub meets_built : Built (main_of a) (records_at a t.list)
  meets_built = record {
    fits = record {
      long = length-take-le 3307 a (omega (arith, t.come, t.header.least));
      header = header_on same_first t.header;
      come = sym (declared_on same_first) ∙ sym (sum_is a t.come t.records);
      totals = λ c h l.
          rw (sym (same_first.byte 0 (omega arith)), count_is a t.come c t.records) (t.totals c h l ∙ total_on same_first c l);
    };
    tiles = record {
      own = owns a t.come t.records;
      order = follows a t.come t.records;
      pointed = pointed a t.come t.records;
    };
  }
