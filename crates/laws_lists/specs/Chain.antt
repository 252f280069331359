-- Values with a punctuation of any number of marks between them, as the written grammar reads them.
use Rattle.std.specs.Prelude.{◌≡◌, ℕ, List, [], ◌∷◌, drop}
use Rattle.proc_macro2.specs.Token.{Spanned, plain}
use Rattle.rust_leaf.specs.declared.punct.Spacing.TheVariants.{Alone as Apart}
use Rattle.syn_grammar.specs.Gram.{Gram, mark, seq, star}
use Rattle.syn_grammar.specs.Look.{past_marks, sees}
use Rattle.syn_grammar.specs.Run.{Out, Got}
use Rattle.syn_grammar.specs.Tree.{Tree, AMark, Again, End, Nil, Pair}
use Rattle.syn_kinds.specs.Table.{marks}

-- one, and again and again the punctuation and one more, while that stands there
abbrev pub chain : ℕ → List ℕ → Gram → Gram
chain c cs g = seq g (star (sees (past_marks c cs)) (seq (mark c cs) g))

-- the tree of the others, each behind its punctuation, and of all of them: there is one at least
abbrev pub links_tree : {T : Type 0} → (T → Tree) → ℕ → List ℕ → List T → Tree
links_tree view c cs [] = End
links_tree view c cs (v ∷ vs) = Again (Pair (AMark c cs Apart) (view v)) (links_tree view c cs vs)

abbrev pub chain_tree : {T : Type 0} → (T → Tree) → ℕ → List ℕ → List T → Tree
chain_tree view c cs [] = Nil
chain_tree view c cs (v ∷ vs) = Pair (view v) (links_tree view c cs vs)

-- that tree is read there, and these tokens are left behind it
abbrev pub GivesChain : {T : Type 0} → (T → Tree) → ℕ → List ℕ → List T → List Spanned → Out → Type 0
GivesChain view c cs vs behind run = run ≡ Got (chain_tree view c cs vs) (plain behind)

-- the marks of a punctuation behind its first, by its row in the table of kinds
abbrev pub others_of : ℕ → ℕ → List ℕ
others_of kind width = drop 1 (marks kind width)
