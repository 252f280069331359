use Rattle.std.proofs.Common.{◌≡◌, true, length}
use Rattle.syn_grammar.specs.Look.{past_literals}
use Rattle.reader_table.specs.Words.{literals_of}
use Rattle.reader_tokens.specs.Nested.{is_nested}
use Rattle.reader_tokens.specs.Tokens.{tokens}
use Rattle.reader_tokens.proofs.literals.past.Given as goal

-- behind what is left stands what stands behind all
abbrev pub invariant-loop-behind : goal.invariant-loop-behind
invariant-loop-behind l =
    (past_literals (literals_of l.literals) (tokens l.place.entries.now)
    ≡ past_literals (literals_of l.literals) (tokens l.at))
    × (is_nested l.at ≡ true → is_nested l.place.entries.now ≡ true)

abbrev pub decreases-loop-behind : goal.decreases-loop-behind
decreases-loop-behind l = length l.place.entries.now
