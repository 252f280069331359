-- Tokens that are to be written, in the order in which they are found.
use Rattle.std.specs.Prelude.{List, ◌∷◌, [], ◌++◌, map}
use Rattle.proc_macro2.specs.Token.{Token, Opens, Closes}
use Rattle.proc_macro2.specs.declared.delimiter.Delimiter.TheVariants.{Parenthesis}
use Rattle.writer_print.specs.Pieces.{piece_token}
use Rattle.writer_built.specs.declared.rope.Rope.{Rope, Own, Joined', Enclosed'}

-- the tokens of a rope
abbrev pub rope_tokens : Rope → List Token
rope_tokens (Own v) = map piece_token v.items
rope_tokens (Joined' p x q y) = rope_tokens x ++ rope_tokens y
rope_tokens (Enclosed' p x) = Opens Parenthesis ∷ rope_tokens x ++ Closes Parenthesis ∷ []
