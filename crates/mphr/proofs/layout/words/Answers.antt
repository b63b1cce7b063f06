-- `mphr::layout::words` meets its contract: the joined entries are the row (QuickLaws). Assumes nothing.
use mathlib.Core.Path.{◌≡◌, ap, ◌∙◌}
use Prim.Native.Nat.{ℕ, ◌<◌}
use mathlib.Core.List.{List, []}
use lib.ListN.{get_or}
use Rattle.mphr.specs.Rows.{head_words, end_words}
use Rattle.mphr.specs.Quick.{words_of, joined}
use Rattle.mphr.specs.Layout.{name_of}
use Rattle.mphr.proofs.QuickLaws.{row_at}
use Rattle.mphr.proofs.layout.words.Goals as goal

of_parts : (k : ℕ) (h e r : List ℕ) → k < 72 → h ≡ get_or head_words k [] → e ≡ get_or end_words k [] → r ≡ joined h e → r ≡ words_of (name_of k)
of_parts k h e r l p q f = f ∙ ap (λ (x : List ℕ). joined x e) p ∙ ap (joined (get_or head_words k [])) q ∙ row_at k l

pub returns-then-k-lt24 : goal.returns-then-k-lt24
returns-then-k-lt24 c =
    of_parts c.args.k c.head_0.result c.end_0.result c.joined.result c.requires c.head_0.ensures c.end_0.ensures c.joined.ensures

pub returns-then-k-lt48 : goal.returns-then-k-lt48
returns-then-k-lt48 c =
    of_parts c.args.k c.head_1.result c.end_1.result c.joined-then-k-lt48.result c.requires c.head_1.ensures c.end_1.ensures c.joined-then-k-lt48.ensures

pub returns : goal.returns
returns c =
    of_parts c.args.k c.head_2.result c.end_2.result c.joined-2.result c.requires c.head_2.ensures c.end_2.ensures c.joined-2.ensures
