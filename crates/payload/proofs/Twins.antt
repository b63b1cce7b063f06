-- TWO PRODUCTS THAT DIFFER IN PAYLOAD (`Twins`) have the same main header's bytes, the same record starts and the same header at each; so the walk over the
-- one is the walk over the other. By induction on the records. Assumes nothing.
use Prim.Native.Nat.{ℕ, ◌+◌, ◌≤◌, ◌<◌}
use native.Mathlib.Omega.{arith}
use mathlib.Core.Path.{◌≡◌, refl, sym, ap, subst, ◌∙◌}
use mathlib.Core.List.Memᴰ.{head as top}
use mathlib.Core.List.Memᴰ.{tail as pop}
use mathlib.Core.List.{List, ◌∷◌, Memᴰ as In}
use lib.ListN.{length, get_or}
use Rattle.tables.specs.Lawful.{Same}
use Rattle.record.specs.Header.{header_at}
use Rattle.record.specs.declared.header.Header.{Header}
use Rattle.mphr.specs.Table.{declared, total}
use Rattle.judge.specs.Table.{Site, first, class_at, size_at, Sound, Leads, here, on}
use Rattle.judge.specs.Extent.{Complete}
use Rattle.finish.specs.Rows.{group_at, subclass_at, version_at}
use Rattle.demands.specs.Product.{Records, none, more, Meets}
use Rattle.demands.proofs.Accepted.{meets_complete}
use Rattle.parts.specs.Payload.{Repaid}
use Rattle.parts.proofs.PayloadLaws.{repaid_headers}
use Rattle.parts.proofs.Local as L
use Rattle.payload.specs.Apart.{Apart}
use Rattle.payload.proofs.ApartLaws.{apart_repaid, repaid_back, apart_product}

pub record Twins (a b : List ℕ) : Type 0 where
  pub one : Meets a
  pub two : Meets b
  pub list : two.list ≡ one.list
  pub repaid : Repaid a b one.list

pub twins : {a b : List ℕ} → Apart a b → Twins a b
twins x = let u = apart_product x in record { one = x.product; two = u.0; list = u.1; repaid = apart_repaid x }

pub turned : {a b : List ℕ} → Twins a b → Twins b a
turned {a} {b} t = record { one = t.two; two = t.one; list = sym t.list; repaid = subst (Repaid b a) (sym t.list) (repaid_back t.repaid) }

-- the main header is a record like the others
with_main : {a b l : List ℕ} → Repaid a b l → Repaid a b (0 ∷ l)
with_main {a} {b} {l} h = record { long = h.long; main = h.main; headers = headers; iprs = iprs }
  where
    headers : (i : ℕ) → In i (0 ∷ l) → (j : ℕ) → j < 20 → get_or a (i + j) 0 ≡ get_or b (i + j) 0
    headers i (top e) j u = h.main (i + j) (omega arith)
    headers i (pop m) j u = h.headers i m j u

    iprs : (i : ℕ) → In i (0 ∷ l) → class_at a i ≡ 3 → (j : ℕ) → j < 27 → get_or a (i + j) 0 ≡ get_or b (i + j) 0
    iprs i (top e) c j u = h.main (i + j) (omega arith)
    iprs i (pop m) c j u = h.iprs i m c j u

-- what the header at byte i says is the same
pub record Alike (a b : List ℕ) (i : ℕ) : Type 0 where
  pub class : class_at a i ≡ class_at b i
  pub group : group_at a i ≡ group_at b i
  pub subclass : subclass_at a i ≡ subclass_at b i
  pub version : version_at a i ≡ version_at b i
  pub size : size_at a i ≡ size_at b i

alike_of : {a b : List ℕ} (i : ℕ) → header_at a i ≡ header_at b i → Alike a b i
unfolding header_at
alike_of i e = record {
  class = ap (λ (h : Header). h.class) e;
  group = ap (λ (h : Header). h.group) e;
  subclass = ap (λ (h : Header). h.subclass) e;
  version = ap (λ (h : Header). h.version) e;
  size = ap (λ (h : Header). h.size) e;
}

module _ {a b : List ℕ} (t : Twins a b) where
  -- "each header field reads the same": of the main header and of each record
  pub same_header : (i : ℕ) → In i (0 ∷ t.one.list) → header_at a i ≡ header_at b i
  same_header i m = repaid_headers (with_main t.repaid) i m

  pub header_byte : (i : ℕ) → In i (0 ∷ t.one.list) → (j : ℕ) → j < 20 → get_or a (i + j) 0 ≡ get_or b (i + j) 0
  header_byte = (with_main t.repaid).headers

  pub alike : (i : ℕ) → In i (0 ∷ t.one.list) → Alike a b i
  alike i m = alike_of i (same_header i m)

  pub same_main : Same a b 3307
  same_main = record { byte = t.repaid.main }

  pub same_declared : declared a ≡ declared b
  same_declared = L.declared_on same_main

  pub same_total : (c : ℕ) → c ≤ 8 → total a c ≡ total b c
  same_total = L.total_on same_main

  pub complete : Complete a
  complete = meets_complete t.one

  pub long_enough : 3307 ≤ length a
  long_enough = complete.header

  pub sound_over : (i : ℕ) → In i (0 ∷ t.one.list) → Sound a i → Sound b i
  sound_over i m s =
      let k = alike i m in
      record {
        room = omega (arith, s.room, same_declared);
        least = omega (arith, s.least, k.size);
        most = omega (arith, s.most, k.size, same_declared);
        ipr = λ o. sym k.size ∙ s.ipr (k.class ∙ o);
      }

  go_over : {x y : Site} {l : List ℕ} → Records a x.at x.prev l → ((j : ℕ) → In j l → In j t.one.list) → Leads a x y → Leads b x y
  go_over r sub here = here
  go_over (none e) sub (on s w) = absurd (omega (arith, s.room))
  go_over {x} (more r _ ts) sub (on s w) =
      let m : In x.at (0 ∷ t.one.list) = pop (sub x.at (top refl)) in
      let k = alike x.at m in
      on (sound_over x.at m s) (rw (k.class, k.size) at (go_over ts (λ j n. sub j (pop n)) w))

  -- THE WALK over the one is the walk over the other
  pub leads_over : {y : Site} → Leads a first y → Leads b first y
  leads_over w = go_over t.one.records (λ j n. n) w

-- where the walk has come to and a header has room, a record starts
in_list : {a : List ℕ} {x y : Site} {l : List ℕ} → Records a x.at x.prev l → Leads a x y → y.at + 20 ≤ declared a → In y.at l
in_list (none e) here h = absurd (omega arith)
in_list (more r _ ts) here h = top refl
in_list (none e) (on s w) h = absurd (omega (arith, s.room))
in_list (more r _ ts) (on s w) h = pop (in_list ts w h)

pub in_records : {a b : List ℕ} (t : Twins a b) {y : Site} → Leads a first y → y.at + 20 ≤ declared a → In y.at t.one.list
in_records t w h = in_list t.one.records w h

pub in_way : {a b : List ℕ} (t : Twins a b) {y : Site} → Leads a first y → y.at + 20 ≤ declared a → In y.at (0 ∷ t.one.list)
in_way t w h = pop (in_records t w h)

-- ---- THE LAW: "each header field reads the same", of the main header and of each record
pub apart_header : {a b : List ℕ} (x : Apart a b) (i : ℕ) → In i (0 ∷ x.product.list) → header_at a i ≡ header_at b i
unfolding twins
apart_header x = same_header (twins x)

pub twins_of : {a b : List ℕ} (x : Apart a b) → (t : Twins a b) × (t.one.list ≡ x.product.list)
unfolding twins
twins_of x = (twins x, refl)
