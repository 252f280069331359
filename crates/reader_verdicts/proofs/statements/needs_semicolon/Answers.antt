use Rattle.std.specs.Prelude.{false}
use Rattle.reader_table.specs.Kinds.{kind_of}
use Rattle.syn_grammar.specs.Statements.{needs_semicolon}
use Rattle.reader_verdicts.proofs.OffKinds.{in_node, needs_semicolon_off}
use Rattle.reader_verdicts.proofs.statements.needs_semicolon.Goals as goal

pub returns-in_default : goal.returns-in_default
returns-in_default c =
    in_node needs_semicolon false c.args.tree.now (kind_of c.in-Some.kind) c.in-Some.inner.now c.in-Some.ensures
    (needs_semicolon_off c.in-Some.kind c.in-Some.inner.now c.in_default.not-AStatement)
