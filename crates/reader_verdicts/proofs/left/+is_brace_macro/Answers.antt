use Rattle.std.proofs.Common.{◌≡◌, Some, rules}
use Rattle.reader_table.specs.Kinds.{kind_of as named}
use Rattle.reader_tree.specs.Shapes.{alone_of, front_of}
use Rattle.reader_verdicts.proofs.FormCases.{braces_off, braces_alone}
use Rattle.reader_verdicts.proofs.left.+is_brace_macro.Goals as goal

pub returns-in_default : goal.returns-in_default
returns-in_default t c =
    let e : Some (named c.in-Some.kind, c.in-Some.operand.now) ≡ front_of c.args.tree.now = search rules in
    braces_off c.args.tree.now c.in-Some.kind c.in-Some.operand.now e c.in_default.not-ExprAttributed

pub returns-in_default-kind : goal.returns-in_default-kind
returns-in_default-kind t c =
    let e : Some (named c.in-Some-alone.kind, c.in-Some-alone.own.now) ≡ alone_of c.args.tree.now = search rules in
    braces_alone c.args.tree.now c.in-Some-alone.kind c.in-Some-alone.own.now e c.in_default-kind.not-ExprMacro
