-- Lists and turns of which some have been read: a tool of the proofs of loops.
use Rattle.std.specs.Prelude.{ℕ, List, [], ◌∷◌, Option, Some, None}
use Rattle.rust_leaf.specs.declared.punct.Spacing.TheVariants.{Alone as Apart}
use Rattle.syn_grammar.specs.Tree.{Tree, End, Again, Final, More}
use Rattle.syn_grammar.specs.Run.{Out, wrap}

-- these turns, and then others
abbrev pub again : {A : Type 0} → (A → Tree) → List A → Tree → Tree
again f [] y = y
again f (a ∷ xs) y = Again (f a) (again f xs y)

-- these elements, each with a separator, and then others
abbrev pub more : {A : Type 0} → (A → Tree) → ℕ → List A → Tree → Tree
more f c [] y = y
more f c (a ∷ xs) y = More (f a) c Apart (more f c xs y)

-- what a list ends with
abbrev pub ending : {A : Type 0} → (A → Tree) → Option A → Tree
ending f None = End
ending f (Some a) = Final (f a)

-- what is read of the others, with these in front
abbrev pub again_front : {A : Type 0} → (A → Tree) → List A → Out → Out
again_front f xs o = wrap (again f xs) o

abbrev pub more_front : {A : Type 0} → (A → Tree) → ℕ → List A → Out → Out
more_front f c xs o = wrap (more f c xs) o
