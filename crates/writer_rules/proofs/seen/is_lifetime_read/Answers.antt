use Rattle.std.specs.Prelude.{Some, false, not, ◌&&◌}
use Rattle.std.proofs.Common.{◌≡◌, ◌∙◌, ap, rules, subst}
use Rattle.reader_table.specs.Kinds.{kind_of}
use Rattle.reader_tree.specs.Shapes.{node_of}
use Rattle.syn_grammar.specs.Name.{the_lifetime}
use Rattle.syn_grammar.specs.Part.{has}
use Rattle.writer_rules.specs.Laid.{is_lifetime_read}
use Rattle.writer_rules.proofs.SeenForms.{lifetimes}
use Rattle.writer_rules.proofs.OffKinds.{in_node, is_lifetime_read_off}
use Rattle.writer_rules.proofs.seen.is_lifetime_read.Goals as goal

pub returns-in_default : goal.returns-in_default
returns-in_default c =
    let e : Some (kind_of c.in-Some.kind, c.in-Some.inner.now) ≡ node_of c.args.tree.now = search rules in
    in_node is_lifetime_read false c.args.tree.now (kind_of c.in-Some.kind) c.in-Some.inner.now e
    (is_lifetime_read_off c.in-Some.kind c.in-Some.inner.now c.in_default.not-AnArgument)

pub returns-then-not-is_constant : goal.returns-then-not-is_constant
returns-then-not-is_constant c =
    let e = subst (λ k. Some (kind_of k, c.in-Some.inner.now) ≡ node_of c.args.tree.now) c.in-AnArgument.is
    c.in-Some.ensures in
    c.has.ensures ∙ ap (λ b. not b && has the_lifetime c.in-Some.inner.now) c.if-not-is_constant.ensures
    ∙ lifetimes c.args.tree.now c.in-Some.inner.now e
