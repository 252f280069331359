-- Patterns and their types.
use Rattle.std.specs.Prelude.{Option}
use Rattle.syn_part.specs.declared.leaf.Mark.{Mark}
use Rattle.syn_pat.specs.declared.pat_type.PatType.{PatType}
use Rattle.syn_grammar.specs.Tree.{Tree}
use denote.Bor.{Bor}

-- a pattern with its type, of the attributes in front of it, if it has its own, the pattern, the colon and the type
abbrev pub pattern_and_type : Option (Bor Tree) → Bor Tree → Mark → Bor Tree → PatType
pattern_and_type a p c y = record { attrs = a; pat = p; colon_token = c; ty = y }
