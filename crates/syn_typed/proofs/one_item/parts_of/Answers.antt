use Rattle.syn_grammar.specs.Gram.{ref}
use Rattle.syn_grammar.specs.Kind as k
use Rattle.syn_grammar.specs.Lists.{typed}
use Rattle.reader_table.specs.Kinds.{kind_of}
use Rattle.syn_part.proofs.Derived.{shaped}
use Rattle.syn_typed.proofs.ItemsAlone.{form_read, only_kept}
use Rattle.syn_typed.proofs.one_item.parts_of.Goals as goal

pub returns-in-Some : goal.returns-in-Some
returns-in-Some c =
    let x = c.in-Some.parts in (
      c.in-Some.ensures,
      λ i j rest q d. form_read i j (kind_of x.kind) x.attrs.now x.vis.now x.item.now
          c.args.tree.now rest q c.in-Some.ensures d,
    )

pub returns-in-None : goal.returns-in-None
returns-in-None c i j rest q d =
    c.in-None.ensures i (typed k.InFile) (ref j) q (only_kept i j q c.args.tree.now rest d)
    (shaped c.args.tree.now (ref i) rest d)
