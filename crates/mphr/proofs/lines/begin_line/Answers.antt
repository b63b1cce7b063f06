-- `mphr::lines::begin_line` meets its contract: 22, then 18, then the frame (WritingLaws). Assumes nothing.
use Prim.Native.Nat.{ℕ, ◌+◌}
use mathlib.Core.Path.{refl, ap, ◌∙◌}
use borrow.Author.Tests.{not-true, not-false}
use Rattle.mphr.specs.Layout.{width_of}
use Rattle.mphr.specs.Lines.{put_frame}
use Rattle.mphr.proofs.WritingLaws.{write_unfit, write_small, write_done}
use Rattle.mphr.proofs.lines.begin_line.Goals as goal

pub returns-then-not-fits : goal.returns-then-not-fits
returns-then-not-fits c = let a = c.args in write_unfit a.room.now _ (width_of a.k + 33) refl a.fits (put_frame a.k (width_of a.k) a.room.now) (not-true a.fits c.if-not-fits.true-raw)

pub width-w-requires : goal.width-w-requires
width-w-requires c = c.requires (not-false c.args.fits c.if-not-fits.false-raw)

pub returns-then-room-w : goal.returns-then-room-w
returns-then-room-w c =
    let a = c.args in
    write_small a.room.now (c.width-w.result + 33) (width_of a.k + 33) (ap (λ (n : ℕ). n + 33) c.width-w.ensures.0) a.fits (put_frame a.k (width_of a.k) a.room.now) (not-false a.fits c.if-not-fits.false-raw) c.if-room-w.true

pub put_frame-requires : goal.put_frame-requires
put_frame-requires c =
    (c.requires (not-false c.args.fits c.if-not-fits.false-raw), c.if-room-w.false)

pub returns : goal.returns
returns c =
    let a = c.args in
    write_done a.room.now (c.width-w.result + 33) (width_of a.k + 33) (ap (λ (n : ℕ). n + 33) c.width-w.ensures.0) a.fits (put_frame a.k (width_of a.k) a.room.now) (not-false a.fits c.if-not-fits.false-raw) c.if-room-w.false c.put_frame.new.room (c.put_frame.ensures ∙ ap (λ (n : ℕ). put_frame a.k n a.room.now) c.width-w.ensures.0)
