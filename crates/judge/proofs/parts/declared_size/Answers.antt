-- `judge::parts::declared_size` meets its contract: of a fine main header its field is a number of 3,307 to 2,147,483,647. Assumes nothing.
use Rattle.judge.proofs.CountLaws.{size_said}
use Rattle.judge.proofs.parts.declared_size.Goals as goal

pub returns : goal.returns
returns c = (c.count_at.ensures, λ b. size_said b c.count_at.ensures)
