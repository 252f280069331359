-- What is listed, and what is left to list, is all; and so with what is counted.
use Rattle.std.proofs.Common.{◌≡◌, ◌++◌, ◌+◌, [], length, map}
use Rattle.syn_grammar.specs.Names.{names}
use Rattle.syn_grammar.specs.Tree.{flat}
use Rattle.reader_rust.specs.Ahead.{ahead_names, ahead_tokens, ahead_weight}
use Rattle.reader_rust.specs.Names.{name_of}
use Rattle.reader_rust.proofs.names.names.Given as goal

abbrev pub invariant-loop-walk : goal.invariant-loop-walk
invariant-loop-walk l =
    (map name_of l.out.items ++ ahead_names l.behind l.walk.todo.items
    ≡ map name_of l.fn.out.items ++ names l.file)
    × (l.behind + ahead_tokens l.walk.todo.items ≡ length (flat l.file))
    × (l.walk.left.items ≡ [])

abbrev pub decreases-loop-walk : goal.decreases-loop-walk
decreases-loop-walk l = ahead_weight l.walk.todo.items
