use Rattle.std.proofs.Common.{◌≡◌, Some, rules, ◌∙◌}
use Rattle.reader_table.specs.Kinds.{kind_of as named}
use Rattle.reader_tree.specs.Shapes.{node_of, pair_of}
use Rattle.syn_grammar.specs.Kind.{AMacro}
use Rattle.reader_verdicts.proofs.FormCases.{macro_call, macro_off}
use Rattle.reader_verdicts.proofs.left.calls_with_braces.Goals as goal

pub returns-in-Some-pair : goal.returns-in-Some-pair
returns-in-Some-pair c =
    let e : Some (AMacro, c.in-Some.inner.now) ≡ node_of c.args.call.now = search rules in
    let f : Some (c.in-Some-pair.field-0-0.now, c.in-Some-pair.behind_path.now)
    ≡ pair_of c.in-Some.inner.now = search rules in
    c.ends_with_braces.ensures ∙ macro_call c.args.call.now c.in-Some.inner.now c.in-Some-pair.field-0-0.now
    c.in-Some-pair.behind_path.now e f

pub returns-in_default : goal.returns-in_default
returns-in_default c =
    let e : Some (named c.in-Some.kind, c.in-Some.inner.now) ≡ node_of c.args.call.now = search rules in
    macro_off c.args.call.now c.in-Some.kind c.in-Some.inner.now e c.in_default.not-AMacro
