use Rattle.std.proofs.Common.{◌≡◌, Some, rules, ap, sym, ◌∙◌}
use Rattle.reader_table.specs.Kinds.{kind_of, place_of}
use Rattle.reader_tree.specs.Shapes.{node_of}
use Rattle.syn_grammar.specs.Verdicts.{form_in}
use Rattle.reader_verdicts.proofs.Shapes.{node_is}
use Rattle.reader_verdicts.proofs.items.form_in.Goals as goal

pub returns-in-Some : goal.returns-in-Some
returns-in-Some c =
    let e : Some (kind_of c.in-Some.kind, c.in-Some.inner.now) ≡ node_of c.args.form.now = search rules in
    c.node_in.ensures
    ∙ ap (λ x. form_in (place_of c.args.place) c.args.marked x)
    (sym (node_is c.args.form.now (kind_of c.in-Some.kind) c.in-Some.inner.now e))
