use Rattle.std.proofs.Common.{◌≡◌, drop}
use Rattle.std.specs.List.{list_any}
use Rattle.syn_grammar.specs.Part.{choice}
use Rattle.syn_grammar.specs.Statements.{needs_semicolon}
use Rattle.reader_verdicts.proofs.statements.any_open.Given as goal

abbrev pub invariant-loop-turn : goal.invariant-loop-turn
invariant-loop-turn l =
    list_any (λ x. needs_semicolon (choice x)) l.turns
    ≡ list_any (λ x. needs_semicolon (choice x)) (drop l.turn-index l.turns)
