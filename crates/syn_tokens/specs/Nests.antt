-- Tokens that are to be written, as those of a stream.
use Rattle.std.specs.Prelude.{Bool, true, false, ◌&&◌, not, List, [], ◌∷◌, map, reverse}
use Rattle.rust_leaf.specs.Mark.{is_mark}
use Rattle.rust_leaf.specs.Minus.{starts_with_minus}
use Rattle.proc_macro2.specs.Groups.{same_delimiter}
use Rattle.proc_macro2.specs.Token.{Token, Opens, Closes, Ident, Literal, Punct}
use Rattle.proc_macro2.specs.declared.delimiter.Delimiter.{Delimiter}
use Rattle.syn_tokens.specs.declared.tokens.Nest.{Nest}

-- It is a tree of a stream by itself: a word, one of the 22 marks, or a literal that begins with no minus.
abbrev pub is_leaf : Token → Bool
is_leaf (Opens d) = false
is_leaf (Closes d) = false
is_leaf (Ident cs) = true
is_leaf (Literal cs) = not (starts_with_minus cs)
is_leaf (Punct c spacing) = is_mark c

-- Inside groups with these delimiters, the innermost first, they are the rest of a stream: each of these groups, and
-- each that opens among them, is closed by a mark of its own, and all others are trees by themselves.
abbrev pub stand : List Delimiter → List Token → Bool
stand ds (Opens d ∷ ts) = stand (d ∷ ds) ts
stand [] (Closes d ∷ ts) = false
stand (e ∷ ds) (Closes d ∷ ts) = same_delimiter e d && stand ds ts
stand ds (Ident cs ∷ ts) = stand ds ts
stand ds (Literal cs ∷ ts) = not (starts_with_minus cs) && stand ds ts
stand ds (Punct c spacing ∷ ts) = is_mark c && stand ds ts
stand [] [] = true
stand (d ∷ ds) [] = false

-- They are a stream.
abbrev pub are_trees : List Token → Bool
are_trees ts = stand [] ts

-- The delimiters of the groups that are open, the innermost first.
abbrev pub opened : Nest → List Delimiter
opened n = reverse (map (λ o. o.delimiter) n.outer.items)
