use Rattle.std.proofs.Common.{◌≡◌, ◌≤◌, ◌-◌, drop, length}
use Rattle.syn_grammar.specs.Look.{past_first}
use Rattle.reader_tokens.specs.Tokens.{tokens}
use Rattle.reader_tokens.proofs.group.past_first.Given as goal

-- the mark that is sought behind what was passed is the one that is sought in all
abbrev pub invariant-loop-more : goal.invariant-loop-more
invariant-loop-more l =
    (past_first l.character 0 (tokens l.at) ≡ past_first l.character 0 (tokens (drop l.passed l.at)))
    × (l.passed ≤ length l.at)

abbrev pub decreases-loop-more : goal.decreases-loop-more
decreases-loop-more l = length l.at - l.passed
