-- The trees that names are, of which a keyword may stand in the place.
use Rattle.syn_part.specs.Leaves.{word_tree}
use Rattle.syn_part.specs.declared.name.Name.{Name}
use Rattle.syn_part.specs.declared.name.Renamed.{Renamed}
use Rattle.syn_part.specs.declared.name.Name.TheVariants as names
use Rattle.syn_grammar.specs.Tree as t
use Rattle.syn_grammar.specs.Tree.{Tree}

-- the keyword that may stand in the place of a name, or the name
abbrev pub name_tree : Name → Tree
name_tree (names.Keyword i) = t.First (word_tree i)
name_tree (names.Ident i) = t.Second (word_tree i)

-- the word, whichever of both it is
abbrev pub word_of_name : Name → Tree
word_of_name (names.Keyword i) = word_tree i
word_of_name (names.Ident i) = word_tree i

-- another name behind as: as a, as _
abbrev pub renamed_tree : Renamed → Tree
renamed_tree x = t.Pair (word_tree x.as_token) (name_tree x.rename)
