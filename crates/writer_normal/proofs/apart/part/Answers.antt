use Rattle.std.proofs.Common.{◌∙◌}
use Rattle.syn_grammar.specs.Normal.{is_enclosed}
use Rattle.reader_tree.specs.Forms.{turns}
use Rattle.writer_normal.proofs.Apartness.{part_none}
use Rattle.writer_normal.proofs.apart.part.Goals as goal

pub returns-in_default : goal.returns-in_default
returns-in_default c =
    c.copy.ensures
    ∙ part_none c.args.turn.now (is_enclosed (turns c.args.before.now) (turns c.args.after.now))
    c.in_default.ensures
