use Rattle.std.specs.Prelude.{false, true}
use Rattle.std.proofs.Common.{rules, ◌≡◌, ◌∙◌}
use Rattle.reader_table.specs.Kinds.{kind_of}
use Rattle.writer_rules.specs.Operands.{is_attributed}
use Rattle.writer_rules.proofs.Shells.{shell_else, shell_none, shell_then}
use Rattle.writer_rules.proofs.shell.has_shell.Goals as goal

pub returns-then-is_attributed : goal.returns-then-is_attributed
returns-then-is_attributed c =
    let is : is_attributed (kind_of c.in-Some.kind) ≡ true = search rules in
    c.is_range.ensures
    ∙ shell_then c.args.tree.now (kind_of c.in-Some.kind) c.in-Some.operand.now c.in-Some.ensures is

pub returns-else-is_attributed : goal.returns-else-is_attributed
returns-else-is_attributed c =
    let is : is_attributed (kind_of c.in-Some.kind) ≡ false = search rules in
    c.is_attributed.ensures ∙ is
    ∙ shell_else c.args.tree.now (kind_of c.in-Some.kind) c.in-Some.operand.now c.in-Some.ensures is

pub returns-in-None : goal.returns-in-None
returns-in-None c = shell_none c.args.tree.now c.in-None.ensures
