-- Tokens that are those of trees.
use Rattle.std.specs.Prelude.{Bool, true, false, ◌&&◌, not, List, [], ◌∷◌}
use Rattle.rust_leaf.specs.Mark.{is_mark}
use Rattle.rust_leaf.specs.Minus.{starts_with_minus}
use Rattle.proc_macro2.specs.Groups.{same_delimiter}
use Rattle.proc_macro2.specs.Token.{Token, Opens, Closes, Ident, Literal, Punct}
use Rattle.proc_macro2.specs.declared.delimiter.Delimiter.{Delimiter}

-- Inside groups with these delimiters, the innermost first, they are the rest of a stream: each of these groups, and
-- each that opens among them, is closed by a closing delimiter of its own. A punctuation has one of the 22 characters,
-- and no literal begins with a minus.
abbrev pub stand : List Delimiter → List Token → Bool
stand ds (Opens d ∷ ts) = stand (d ∷ ds) ts
stand [] (Closes d ∷ ts) = false
stand (e ∷ ds) (Closes d ∷ ts) = same_delimiter e d && stand ds ts
stand ds (Ident cs ∷ ts) = stand ds ts
stand ds (Literal cs ∷ ts) = not (starts_with_minus cs) && stand ds ts
stand ds (Punct c spacing ∷ ts) = is_mark c && stand ds ts
stand [] [] = true
stand (d ∷ ds) [] = false

-- They are those of trees.
abbrev pub are_trees : List Token → Bool
are_trees ts = stand [] ts
