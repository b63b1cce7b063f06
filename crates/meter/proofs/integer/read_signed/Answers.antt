-- `meter::integer::read_signed` meets its contract: the word that was read lies below twice the half of its width (IntegerLaws). Assumes nothing.
use Rattle.std.proofs.Common.{◌≡◌, true, arith, rules}
use Rattle.meter.specs.Integer.{be_at, is_width}
use Rattle.meter.proofs.IntegerLaws.{be_at_lt, wide_of}
use Rattle.meter.proofs.integer.read_signed.Goals as goal

pub signed_of-requires : goal.signed_of-requires
signed_of-requires c =
    let a = c.args in
    let w : is_width a.width ≡ true = search rules in
    let e : c.in_ok-word.word ≡ be_at a.bytes.now a.at a.width = search rules in
    let f = wide_of a.width w in
    let b = be_at_lt a.bytes.now (λ k. (c.type_inv.bytes k).fits) a.at a.width in
    (omega (arith, c.half.ensures, f.some), omega (arith, c.half.ensures, f.fits), omega (arith, c.half.ensures, f.halves, e, b))
