-- The kinds of these types that are judged.
use Rattle.std.specs.Prelude.{Bool, true, false}
use Rattle.syn_grammar.specs.Kind.{Kind, FieldValues, Arm, Statements, OneStatement, ALet}

-- what is read of the kind is judged, and is kept as it was read or refused, so it is a tree wherever it was read
abbrev pub keeps_trees : Kind → Bool
keeps_trees FieldValues = true
keeps_trees Arm = true
keeps_trees Statements = true
keeps_trees OneStatement = true
keeps_trees ALet = true
keeps_trees _ = false
