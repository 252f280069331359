use Rattle.std.specs.Prelude.{Some, false}
use Rattle.std.proofs.Common.{◌≡◌, ◌∙◌, rules, subst}
use Rattle.reader_table.specs.Kinds.{kind_of, style_of}
use Rattle.reader_tree.specs.Shapes.{node_of}
use Rattle.syn_grammar.specs.Tidy.{is_bracketed}
use Rattle.writer_rules.proofs.OffKinds.{in_node, is_bracketed_off}
use Rattle.writer_rules.proofs.SeenForms.{bracketed_none, bracketed_first}
use Rattle.writer_rules.proofs.seen.is_bracketed.Goals as goal

pub returns-in_default : goal.returns-in_default
returns-in_default c =
    let e : Some (kind_of c.in-Some.kind, c.in-Some.inner.now) ≡ node_of c.args.tree.now = search rules in
    in_node is_bracketed false c.args.tree.now (kind_of c.in-Some.kind) c.in-Some.inner.now e
    (is_bracketed_off c.in-Some.kind c.in-Some.inner.now c.in_default.not-AnyPath)

pub returns-in-Some-first : goal.returns-in-Some-first
returns-in-Some-first c =
    let e = subst (λ k. Some (kind_of k, c.in-Some.inner.now) ≡ node_of c.args.tree.now) c.in-AnyPath.is
    c.in-Some.ensures in
    c.is_bracketed_path.ensures
    ∙ bracketed_first (style_of c.in-AnyPath.field-0) c.args.tree.now c.in-Some.inner.now c.in-Some-first.path.now e
    c.in-Some-first.ensures

pub returns-in-None-first : goal.returns-in-None-first
returns-in-None-first c =
    let e = subst (λ k. Some (kind_of k, c.in-Some.inner.now) ≡ node_of c.args.tree.now) c.in-AnyPath.is
    c.in-Some.ensures in
    bracketed_none (style_of c.in-AnyPath.field-0) c.args.tree.now c.in-Some.inner.now e c.in-None-first.ensures
