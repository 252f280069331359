use Rattle.std.specs.Prelude.{Some, false}
use Rattle.std.proofs.Common.{◌≡◌, ◌∙◌, rules, subst}
use Rattle.reader_table.specs.Kinds.{kind_of, style_of}
use Rattle.reader_tree.specs.Shapes.{node_of}
use Rattle.syn_grammar.specs.Tidy.{is_lone_path}
use Rattle.writer_rules.proofs.OffKinds.{in_node, is_lone_path_off}
use Rattle.writer_rules.proofs.SeenForms.{path_none, path_second}
use Rattle.writer_rules.proofs.seen.is_lone_path.Goals as goal

pub returns-in_default : goal.returns-in_default
returns-in_default c =
    let e : Some (kind_of c.in-Some.kind, c.in-Some.inner.now) ≡ node_of c.args.tree.now = search rules in
    in_node is_lone_path false c.args.tree.now (kind_of c.in-Some.kind) c.in-Some.inner.now e
    (is_lone_path_off c.in-Some.kind c.in-Some.inner.now c.in_default.not-AnyPath)

pub returns-in-Some-last : goal.returns-in-Some-last
returns-in-Some-last c =
    let e = subst (λ k. Some (kind_of k, c.in-Some.inner.now) ≡ node_of c.args.tree.now) c.in-AnyPath.is
    c.in-Some.ensures in
    c.is_lone_plain.ensures
    ∙ path_second (style_of c.in-AnyPath.field-0) c.args.tree.now c.in-Some.inner.now c.in-Some-last.path.now e
    c.in-Some-last.ensures

pub returns-in-None-last : goal.returns-in-None-last
returns-in-None-last c =
    let e = subst (λ k. Some (kind_of k, c.in-Some.inner.now) ≡ node_of c.args.tree.now) c.in-AnyPath.is
    c.in-Some.ensures in
    path_none (style_of c.in-AnyPath.field-0) c.args.tree.now c.in-Some.inner.now e c.in-None-last.ensures
