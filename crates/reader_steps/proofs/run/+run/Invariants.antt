-- Each call has less fuel, or as much and fewer steps.
use Rattle.std.proofs.Common.{◌≡◌, ◌+◌, ◌*◌, ◌≤◌, ◌^◌, IfOk, length, true}
use Rattle.syn_grammar.specs.Run.{run, climb, loop, list}
use Rattle.syn_buffer.specs.Entries.{is_whole}
use Rattle.reader_table.specs.Kinds.{position_of}
use Rattle.reader_table.specs.Looks.{test_of}
use Rattle.reader_table.specs.Ops.{gram_of, separator_of}
use Rattle.reader_steps.specs.Answers.{tokens}
use Rattle.reader_steps.specs.Pending.{Leads, says_at, weight}
use Rattle.reader_steps.proofs.Turns.{behind_turns}
use Rattle.reader_steps.proofs.Elements.{behind_elements}
use Rattle.reader_steps.proofs.Pendings.{left_of}
use Rattle.reader_steps.proofs.run.+run.Given as goal

abbrev pub decreases-interp : goal.decreases-interp
decreases-interp g l = weight l.fuel (length l.steps.now) + 3

abbrev pub decreases-forward : goal.decreases-forward
decreases-forward g l = weight l.begin.fuel (length l.begin.steps.now) + 2

abbrev pub decreases-seq : goal.decreases-seq
decreases-seq g l = weight l.fuel (length l.parts.now) + 5

abbrev pub decreases-front_of : goal.decreases-front_of
decreases-front_of g l = weight l.fuel (length l.steps.now) + 4

abbrev pub decreases-optional : goal.decreases-optional
decreases-optional g l = weight l.fuel (length l.parts.now) + 4

abbrev pub decreases-turn : goal.decreases-turn
decreases-turn g l = weight l.fuel (length l.parts.now) + 4

abbrev pub decreases-star : goal.decreases-star
decreases-star g l = weight l.most (length l.parts.now) + 4

abbrev pub decreases-many : goal.decreases-many
decreases-many g l = weight l.most (length l.parts.now) + 4

abbrev pub decreases-operand : goal.decreases-operand
decreases-operand g l = weight l.fuel 0 + 1

abbrev pub decreases-own : goal.decreases-own
decreases-own g l = weight l.fuel 0 + 2 ^ 66

abbrev pub decreases-tower : goal.decreases-tower
decreases-tower g l = weight l.fuel 0

abbrev pub decreases-climb : goal.decreases-climb
decreases-climb g l = weight l.fuel 0

abbrev pub invariant-forward-steps : goal.invariant-forward-steps
invariant-forward-steps g l = record {
  read : Leads says_at l.fn.work.pending.items l.work.pending.items l.step (says_at l.begin);
  whole : IfOk l.step (λ s. is_whole s.entries.now ≡ true);
  least : IfOk l.step (λ s. weight s.fuel (length s.steps.now) ≤ weight l.begin.fuel (length l.begin.steps.now));
}

abbrev pub decreases-forward-steps : goal.decreases-forward-steps
decreases-forward-steps g l = left_of l.step

abbrev pub invariant-star-turns : goal.invariant-star-turns
invariant-star-turns g l = record {
  read : behind_turns l.turns.items (run l.fuel (loop (test_of l.test) (gram_of l.parts)) (tokens l.at.entries.now))
      ≡ run l.most (loop (test_of l.test) (gram_of l.parts)) (tokens l.begin);
  whole : is_whole l.at.entries.now ≡ true;
  least : l.fuel ≤ l.most;
  kept : l.work.pending.items ≡ l.fn.work.pending.items;
}

abbrev pub decreases-star-turns : goal.decreases-star-turns
decreases-star-turns g l = l.fuel

abbrev pub invariant-many-elements : goal.invariant-many-elements
invariant-many-elements g l = record {
  read : behind_elements (separator_of l.separator) l.before.items
      (run l.fuel (list (test_of l.test) (separator_of l.separator) (gram_of l.parts)) (tokens l.at.entries.now))
      ≡ run l.most (list (test_of l.test) (separator_of l.separator) (gram_of l.parts)) (tokens l.begin);
  whole : is_whole l.at.entries.now ≡ true;
  least : l.fuel ≤ l.most;
  kept : l.work.pending.items ≡ l.fn.work.pending.items;
}

abbrev pub decreases-many-elements : goal.decreases-many-elements
decreases-many-elements g l = l.fuel

abbrev pub invariant-climb-forms : goal.invariant-climb-forms
invariant-climb-forms g l = record {
  read : run l.most (climb (position_of l.position) l.level l.form) (tokens l.place.entries.now)
      ≡ run l.fuel (climb (position_of l.position) l.level l.fn.left) (tokens l.at);
  whole : is_whole l.place.entries.now ≡ true;
  least : l.most ≤ l.fuel;
  kept : l.work.pending.items ≡ l.fn.work.pending.items;
}

abbrev pub decreases-climb-forms : goal.decreases-climb-forms
decreases-climb-forms g l = l.most
