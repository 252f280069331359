use Rattle.std.specs.Prelude.{false}
use Rattle.reader_table.specs.Kinds.{kind_of}
use Rattle.syn_grammar.specs.Forms.{is_path_form}
use Rattle.reader_verdicts.proofs.OffKinds.{in_alone, is_path_form_off}
use Rattle.reader_verdicts.proofs.left.is_path_form.Goals as goal

pub returns-in_default : goal.returns-in_default
returns-in_default c =
    in_alone is_path_form false c.args.tree.now (kind_of c.in-Some.kind) c.in-Some.field-0-1.now c.in-Some.ensures
    (is_path_form_off c.in-Some.kind c.in-Some.field-0-1.now c.in_default.not-ExprPath)
