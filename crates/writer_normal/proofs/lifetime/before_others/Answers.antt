use Rattle.std.specs.Prelude.{List}
use Rattle.std.proofs.Common.{◌∙◌, ◌∷◌, ◌++◌, [], ap, ap₂}
use Rattle.rust_leaf.specs.declared.punct.Spacing.{Spacing}
use Rattle.syn_grammar.specs.Tree as t
use Rattle.syn_grammar.specs.Tree.{Tree}
use Rattle.reader_tree.specs.Forms.{elements}
use Rattle.reader_tree.specs.declared.tree.Element.{Element}
use Rattle.writer_normal.specs.Changes.{others_in, passes}
use Rattle.writer_normal.proofs.Stepping.{made_so}
use Rattle.writer_normal.proofs.lifetime.before_others.Goals as goal

-- an element and the spacing of the mark behind it
abbrev element : Tree → Spacing → Element
element x s = record {
  tree = x;
  spacing = s;
}

pub returns : goal.returns
returns c =
    let others : List Element = others_in (passes c.args.which) c.args.before.now in
    made_so c.elements.result _ _ c.elements.ensures
    (ap (λ es. elements 44 es t.End) (c.in_ok-put_others.ensures
    ∙ ap (λ es. es ++ others) (c.in_ok-push.ensures.items
    ∙ ap₂ (λ x s. c.args.firsts.items ++ element x s ∷ []) c.copy.ensures c.new.ensures)))
