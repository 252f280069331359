use Rattle.std.proofs.Common.{ap, ◌∙◌}
use Rattle.syn_grammar.specs.Forms.{ends_there}
use Rattle.reader_table.specs.Kinds.{position_of}
use Rattle.reader_verdicts.proofs.OffKinds.{form_in}
use Rattle.reader_verdicts.proofs.left.expression_ends.Goals as goal

pub returns-in_default : goal.returns-in_default
returns-in_default c =
    c.ends_there-in_default.ensures
    ∙ ap (ends_there (position_of c.args.position)) (form_in c.args.tree.now c.in-Some.kind c.in-Some.inner.now
    c.in-Some.ensures c.in_default.not-Expression)
