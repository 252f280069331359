use Rattle.std.specs.Prelude.{false}
use Rattle.std.proofs.Common.{ap, sym, ◌∙◌}
use Rattle.reader_table.specs.Kinds.{kind_of}
use Rattle.syn_grammar.specs.Tree.{Node}
use Rattle.syn_grammar.specs.Verdicts.{is_path}
use Rattle.reader_verdicts.proofs.OffKinds.{in_node, is_path_off, is_path_second}
use Rattle.reader_verdicts.proofs.items.is_path.Goals as goal

pub returns-in-AnyPath : goal.returns-in-AnyPath
returns-in-AnyPath c =
    let x = c.in-Some.inner.now in
    in_node is_path c.is_second.result c.args.tree.now (kind_of c.in-Some.kind) x c.in-Some.ensures
    (c.is_second.ensures ∙ is_path_second c.in-AnyPath.field-0 x
    ∙ ap (λ k. is_path (Node (kind_of k) x)) (sym c.in-AnyPath.is))

pub returns-in_default : goal.returns-in_default
returns-in_default c =
    in_node is_path false c.args.tree.now (kind_of c.in-Some.kind) c.in-Some.inner.now c.in-Some.ensures
    (is_path_off c.in-Some.kind c.in-Some.inner.now c.in_default.not-AnyPath)
