use Rattle.std.proofs.Common.{◌≡◌, Some, rules, ◌∙◌}
use Rattle.reader_table.specs.Kinds.{kind_of as named}
use Rattle.reader_tree.specs.Shapes.{alone_of, front_of}
use Rattle.reader_verdicts.proofs.FormCases.{block_off, block_alone}
use Rattle.reader_verdicts.proofs.left.+is_block_like.Goals as goal

pub returns-in_default : goal.returns-in_default
returns-in_default t c =
    let e : Some (named c.in-Some.kind, c.in-Some.operand.now) ≡ front_of c.args.tree.now = search rules in
    block_off c.args.tree.now c.in-Some.kind c.in-Some.operand.now e c.in_default.not-ExprAttributed

pub returns-in-Some-alone : goal.returns-in-Some-alone
returns-in-Some-alone t c =
    let e : Some (named c.in-Some-alone.kind, c.in-Some-alone.field-0-1.now)
    ≡ alone_of c.args.tree.now = search rules in
    c.has_block.ensures ∙ block_alone c.args.tree.now (named c.in-Some-alone.kind) c.in-Some-alone.field-0-1.now e
