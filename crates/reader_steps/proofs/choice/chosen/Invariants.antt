-- What is chosen stands behind the seconds that were chosen already.
use Rattle.std.proofs.Common.{◌≡◌, ◌≤◌, ◌∷◌, ◌+◌, List, length}
use Rattle.proc_macro2.specs.Token.{Token}
use Rattle.syn_grammar.specs.Run.{Call, Out, interp, wrap}
use Rattle.reader_table.specs.Ops.{gram_of}
use Rattle.reader_table.specs.declared.op.Op.TheVariants as ops
use Rattle.reader_tree.specs.Forms.{seconds}
use Rattle.reader_steps.specs.Answers.{tokens}
use Rattle.reader_steps.proofs.choice.chosen.Given as goal

abbrev pub invariant-choices : goal.invariant-choices
invariant-choices g l = record {
  says : (call : Call → List Token → Out)
      → interp call (gram_of (ops.Alt l.fn.test l.fn.count ∷ l.parts)) (tokens l.at)
      ≡ wrap (seconds l.seconds)
      (interp call (gram_of (ops.Alt l.asked.test l.asked.count ∷ l.asked.parts.now)) (tokens l.at));
  few : l.seconds + length l.asked.parts.now ≤ length l.parts;
}

abbrev pub decreases-choices : goal.decreases-choices
decreases-choices g l = length l.asked.parts.now
