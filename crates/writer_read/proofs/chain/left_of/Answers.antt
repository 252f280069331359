use Rattle.std.proofs.Common.{ap, sym, ◌∙◌}
use Rattle.reader_tree.specs.Forms.{tree_of}
use Rattle.writer_read.specs.Chains.{left_of}
use Rattle.writer_read.proofs.Chains.{left_off}
use Rattle.writer_read.proofs.chain.left_of.Goals as goal

pub returns-in-Infix : goal.returns-in-Infix
returns-in-Infix c = ap left_of (sym (ap tree_of c.in-Infix.is) ∙ c.tree.view_is)

pub returns-in-Back : goal.returns-in-Back
returns-in-Back c = ap left_of (sym (ap tree_of c.in-Back.is) ∙ c.tree.view_is)

pub returns-in_default : goal.returns-in_default
returns-in_default c = left_off _ c.in_default.not-Infix c.in_default.not-Back ∙ ap left_of c.tree.view_is
