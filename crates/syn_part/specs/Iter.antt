-- The elements of a list, in order, and those that an iterator has left.
use Rattle.std.specs.Prelude.{List, [], ◌∷◌, ◌++◌, Option, Some, None, map}
use Rattle.std.specs.Slice.Iter.{iter_rest}
use Rattle.syn_grammar.specs.Tree as t
use Rattle.syn_grammar.specs.Tree.{Tree}
use Rattle.syn_part.specs.declared.iter.Iter.{Iter}
use denote.Bor.{Bor}

-- the elements of a list: those that a mark follows, and the last one, if none follows it
abbrev pub parts : Tree → List Tree
parts (t.More x c spacing y) = x ∷ parts y
parts (t.Final x) = x ∷ []
parts _ = []

-- the last one, if there is one
abbrev pub last_part : Option (Bor Tree) → List Tree
last_part None = []
last_part (Some x) = x.now ∷ []

-- the elements that an iterator has left: those that a mark follows, and then the last one, if none follows it
abbrev pub iter_left : Iter → List Tree
iter_left i = map (λ e. e.tree) (iter_rest i.before) ++ last_part i.last
