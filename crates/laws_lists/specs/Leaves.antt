-- The trees of leaves.
use Rattle.std.specs.Prelude.{ℕ, List, [], ◌∷◌, get_or}
use Rattle.rust_leaf.specs.declared.punct.Spacing.TheVariants.{Alone as Apart}
use Rattle.syn_grammar.specs.Tree.{Tree, AMark, Nil}
use Rattle.syn_kinds.specs.Table.{sign}

-- a punctuation of these marks; how its last one is spaced is not kept
abbrev pub marks_tree : List ℕ → Tree
marks_tree [] = Nil
marks_tree (c ∷ cs) = AMark c cs Apart

-- the mark of a punctuation of one mark
abbrev pub mark_of : ℕ → ℕ
mark_of kind = get_or (sign kind) 0 126
