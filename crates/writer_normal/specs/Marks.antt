-- Tokens of which each mark is one of the 22.
use Rattle.std.specs.Prelude.{Bool, true, ◌&&◌, List, [], ◌∷◌}
use Rattle.proc_macro2.specs.Token.{Token, Punct}
use Rattle.rust_leaf.specs.Mark.{is_mark}

abbrev pub is_known : Token → Bool
is_known (Punct c spacing) = is_mark c
is_known t = true

abbrev pub are_known : List Token → Bool
are_known [] = true
are_known (t ∷ ts) = is_known t && are_known ts
