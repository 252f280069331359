-- What is left to be listed, and the names in it.
use Rattle.std.specs.Prelude.{ℕ, ◌*◌, ◌+◌, List, [], ◌∷◌, ◌++◌, length, sum_by}
use Rattle.syn_grammar.specs.Names.{Name, names_behind}
use Rattle.syn_grammar.specs.Tree.{flat}
use Rattle.reader_tree.specs.Forms.{turns}
use Rattle.reader_tree.specs.Size.{node_count}
use Rattle.reader_rust.specs.Count.{turn_nodes}
use Rattle.reader_rust.specs.Names.{lister_of}
use Rattle.reader_rust.specs.declared.names.Next.{Next}
use Rattle.reader_rust.specs.declared.names.Next.TheVariants as nexts

-- how many tokens it has
abbrev pub next_tokens : Next → ℕ
next_tokens (nexts.Tree l x) = length (flat x.now)
next_tokens (nexts.Turns l xs) = length (flat (turns xs.now))
next_tokens nexts.Closing = 1

abbrev pub ahead_tokens : List Next → ℕ
ahead_tokens ws = sum_by next_tokens ws

-- its names, where it stands behind n tokens
abbrev pub next_names : ℕ → Next → List Name
next_names n (nexts.Tree l x) = names_behind (lister_of l) n x.now
next_names n (nexts.Turns l xs) = names_behind (lister_of l) n (turns xs.now)
next_names n nexts.Closing = []

-- the last of a list comes first
abbrev pub ahead_names : ℕ → List Next → List Name
ahead_names n [] = []
ahead_names n (w ∷ ws) = ahead_names n ws ++ next_names (n + ahead_tokens ws) w

-- it weighs more than what it is taken apart into
abbrev pub next_weight : Next → ℕ
next_weight (nexts.Tree l x) = 5 * node_count x.now + 2
next_weight (nexts.Turns l xs) = 5 * turn_nodes xs.now + 1
next_weight nexts.Closing = 1

abbrev pub ahead_weight : List Next → ℕ
ahead_weight ws = sum_by next_weight ws
