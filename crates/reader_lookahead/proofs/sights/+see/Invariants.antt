-- A call that repeats steps has one step less than the call that it stands in.
use Rattle.std.proofs.Common.{◌≡◌, ◌+◌, ◌*◌, length, true}
use Rattle.syn_grammar.specs.Look.{as_far, repeatedly}
use Rattle.reader_table.specs.Looks.{sights_of}
use Rattle.reader_tokens.specs.Nested.{is_nested}
use Rattle.reader_tokens.specs.Tokens.{tokens}
use Rattle.reader_lookahead.proofs.sights.+see.Given as goal

abbrev pub decreases-again : goal.decreases-again
decreases-again l = 2 * length l.sights.now + 1

abbrev pub decreases-see : goal.decreases-see
decreases-see l = 2 * length l.sights.now

-- as far as it goes from what is left is as far as it goes from the start
abbrev pub invariant-again-loop-turns : goal.invariant-again-loop-turns
invariant-again-loop-turns l = record {
  far : as_far l.turns (sights_of l.sights) (tokens l.place.entries.now)
      ≡ repeatedly (sights_of l.sights) (tokens l.fn.at);
  nested : is_nested l.place.entries.now ≡ true;
}

abbrev pub decreases-again-loop-turns : goal.decreases-again-loop-turns
decreases-again-loop-turns l = l.turns
