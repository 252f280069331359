use Rattle.std.proofs.Common.{◌≡◌, Some, None, rules, ap, ◌∙◌}
use Rattle.reader_table.specs.Kinds.{kind_of as named}
use Rattle.reader_tree.specs.Shapes.{front_of}
use Rattle.reader_verdicts.proofs.FormCases.{range_off, range_else}
use Rattle.std.proofs.Common.{nat_eq}
use Rattle.reader_verdicts.proofs.left.+is_range.Goals as goal

pub returns-in_default : goal.returns-in_default
returns-in_default t c =
    let e : Some (named c.in-Some.kind, c.in-Some.operand.now) ≡ front_of c.args.tree.now = search rules in
    ap (λ n. nat_eq n 3) c.level.ensures ∙ range_off c.args.tree.now c.in-Some.kind c.in-Some.operand.now e
    c.in_default.not-ExprAttributed

pub returns-in-None : goal.returns-in-None
returns-in-None t c =
    let e : None ≡ front_of c.args.tree.now = search rules in
    ap (λ n. nat_eq n 3) (search rules) ∙ range_else c.args.tree.now e
