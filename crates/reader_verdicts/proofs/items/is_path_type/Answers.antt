use Rattle.std.specs.Prelude.{false}
use Rattle.reader_table.specs.Kinds.{kind_of}
use Rattle.syn_grammar.specs.Verdicts.{is_path_type}
use Rattle.reader_verdicts.proofs.OffKinds.{in_node, is_path_type_off}
use Rattle.reader_verdicts.proofs.items.is_path_type.Goals as goal

pub returns-in_default : goal.returns-in_default
returns-in_default c =
    in_node is_path_type false c.args.tree.now (kind_of c.in-Some.kind) c.in-Some.inner.now c.in-Some.ensures
    (is_path_type_off c.in-Some.kind c.in-Some.inner.now c.in_default.not-AType)
