-- Which trees are one token.
use Rattle.std.specs.Prelude.{Bool, true, false}
use Rattle.syn_grammar.specs.Tree.{Tree, AWord, ALiteral}
use Rattle.reader_tree.specs.Shapes.{single}

-- an identifier or a keyword
abbrev pub single_word : Tree → Bool
single_word (AWord cs) = true
single_word _ = false

abbrev pub is_word : Tree → Bool
is_word x = single_word (single x)

-- a literal
abbrev pub single_literal : Tree → Bool
single_literal (ALiteral cs) = true
single_literal _ = false

abbrev pub is_literal : Tree → Bool
is_literal x = single_literal (single x)
