-- Numbers byte by byte, of any width. Assumes nothing.
use Rattle.std.proofs.Common.{◌≡◌, ℕ, suc, ◌+◌, ◌*◌, List, get_or, ap, arith}
use Rattle.meter.specs.Integer.{be_at}

pub one_byte : (a : List ℕ) (i : ℕ) {x : ℕ} → x ≡ get_or a i 0 → x ≡ be_at a i 1
unfolding be_at
one_byte a i e = let z : i + 0 ≡ i = omega arith in let h = ap (λ (k : ℕ). get_or a k 0) z in omega (arith, e, h)

-- one byte more
pub wider : (a : List ℕ) (i n : ℕ) {x y : ℕ} → x ≡ be_at a i n → y ≡ get_or a (i + n) 0 → x * 256 + y ≡ be_at a i (suc n)
unfolding be_at
wider a i n e f = rw (e, f)
