use Rattle.std.specs.Prelude.{List}
use Rattle.std.proofs.Common.{◌∙◌, ◌∷◌, ◌++◌, [], ap, refl, sym}
use Rattle.syn_grammar.specs.Tree as t
use Rattle.syn_grammar.specs.Tree.{Tree}
use Rattle.syn_grammar.specs.Tidy.{lifetimes_first}
use Rattle.reader_table.specs.Ops.{separator_of}
use Rattle.reader_tree.specs.Forms.{elements}
use Rattle.reader_tree.specs.declared.tree.Element.{Element}
use Rattle.writer_normal.specs.Changes.{others_in, passes}
use Rattle.writer_normal.specs.Held.{apart_element}
use Rattle.writer_normal.proofs.Lists.{plus_mixed, with_none, with_some}
use Rattle.writer_normal.proofs.lifetime.last_with.Goals as goal

pub returns-then-is_empty : goal.returns-then-is_empty
returns-then-is_empty c h o f =
    with_none (passes c.args.which) (separator_of c.args.list.now.separator) c.args.list.now.before.now
    c.args.firsts.items c.args.others.now c.args.last.now c.copy-once.result c.in_ok-tree.tree h o
    (sym c.is_empty.ensures ∙ c.if-is_empty.true) f c.copy-once.ensures c.in_ok-tree.ensures

pub returns : goal.returns
returns c h o f =
    let es : List Element = c.args.list.now.before.now in
    let e : Element = apart_element c.args.last.now in
    let firsts : List Element = c.args.firsts.items ++ e ∷ [] in
    with_some (passes c.args.which) es c.args.others.now c.args.firsts.items firsts
    (firsts ++ others_in (passes c.args.which) es) e c.args.last.now c.in_ok-turned-in-Comma.turned h o
    (sym c.is_empty.ensures ∙ c.if-is_empty.false) f refl refl refl refl c.in_ok-turned-in-Comma.ensures
    ∙ ap (λ s. lifetimes_first (passes c.args.which)
    (elements (separator_of s) c.args.list.now.before.now (t.Final c.args.last.now))) (sym c.in-Comma.is)

pub returns-in-Plus : goal.returns-in-Plus
returns-in-Plus c h o f same =
    plus_mixed (passes c.args.which) c.args.list.now.separator c.args.list.now.before.now c.args.others.now
    c.args.last.now h o (sym c.is_empty.ensures ∙ c.if-is_empty.false) c.in-Plus.is
