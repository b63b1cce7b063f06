-- `rewrite::kinds::pointer_to` meets its contract: its 27 bytes, one by one. Assumes nothing.
use Rattle.parts.specs.Kinds.{kind_at}
use mathlib.Core.Path.{◌∙◌}
use Rattle.rewrite.proofs.EmitLaws.{kind_class, kind_group, kind_subclass, pointer_list}
use Rattle.rewrite.proofs.kinds.pointer_to.Goals as goal

pub returns : goal.returns
returns c =
    let a = c.args in
    pointer_list a.s.now (kind_at a.j) a.offset c.byte-class.result c.group_at-group.result c.byte-subclass.result c.byte-first.result c.byte-second.result c.byte-third.result c.byte-fourth.result
    (c.byte-class.ensures ∙ kind_class a.j c.requires.1) (c.group_at-group.ensures ∙ kind_group a.j c.requires.1) (c.byte-subclass.ensures ∙ kind_subclass a.j c.requires.1)
    c.byte-first.ensures c.byte-second.ensures c.byte-third.ensures c.byte-fourth.ensures
