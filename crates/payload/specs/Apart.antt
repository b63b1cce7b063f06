-- THE SAME PRODUCT BUT FOR PAYLOAD (02, request Eight: "In an accepted product, change any bytes beyond the first 20 of records of classes 2 and 4 to 8. It
-- is accepted still, with the same rows, and each header field reads the same"). Said on bytes; what is accepted is what `Meets` says (demand 2).
-- Assumes nothing.
use Rattle.std.specs.Prelude.{ℕ, ◌+◌, ◌≤◌, ◌<◌, ◌≡◌, ◌⊎◌, length, get_or}
use mathlib.Core.List.{List, Memᴰ as In}
use Rattle.demands.specs.Product.{class, size, Meets}

-- "records of classes 2 and 4 to 8"
abbrev pub Bears : ℕ → Type 0
Bears c = (c ≡ 2) ⊎ ((4 ≤ c) × (c ≤ 8))

-- byte j of a is payload, "beyond the first 20 of records"; the records after the main header start at the bytes of l
pub record IsPayload (a l : List ℕ) (j : ℕ) : Type 0 where
  pub start : ℕ
  pub is_record : In start l
  pub bears : Bears (class a start)
  pub beyond : start + 20 ≤ j
  pub inside : j < start + size a start

-- b IS a BUT FOR PAYLOAD: a is accepted, b is as long, and each byte is the same or is payload of a
pub record Apart (a b : List ℕ) : Type 0 where
  pub product : Meets a
  pub long : length a ≡ length b
  pub same : (j : ℕ) → (get_or a j 0 ≡ get_or b j 0) ⊎ IsPayload a product.list j
