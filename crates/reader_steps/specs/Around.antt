-- What is made of a tree that was read.
use Rattle.std.specs.Prelude.{true, false}
use Rattle.syn_grammar.specs.Tree as t
use Rattle.syn_grammar.specs.Tree.{Tree}
use Rattle.syn_grammar.specs.Run.{Out, ◌>>=◌, judge}
use Rattle.reader_table.specs.Verdicts.{verdict_of}
use Rattle.reader_table.specs.declared.op.Verdicts.{Verdicts}
use Rattle.reader_table.specs.Parts.{part_of}
use Rattle.reader_tree.specs.Forms.{seconds}
use Rattle.reader_steps.specs.declared.around.Around.{Around}
use Rattle.reader_steps.specs.declared.around.Around.TheVariants as arounds

-- the tree with that around it
abbrev pub around_of : Around → Tree → Tree
around_of (arounds.Chosen n true) x = seconds n (t.First x)
around_of (arounds.Chosen n false) x = seconds n x
around_of arounds.Dropped x = t.Dropped x
around_of (arounds.Called p) x = t.Called (part_of p) x
around_of arounds.Whole x = t.Whole x

abbrev pub judged_as : Verdicts → Out → Out
judged_as v o = o >>= λ x us. judge (verdict_of v x) x us
