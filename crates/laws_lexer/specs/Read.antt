-- What a text is read as.
use Rattle.std.specs.Prelude.{◌≡◌, ℕ, List}
use Rattle.rust_lex.specs.Piece.{Piece}
use Rattle.rust_lex.specs.Cover.{IsCover}
use Rattle.proc_macro2.specs.Token.{Token, plain}
use Rattle.proc_macro2.specs.Pieces.{tokens_of}

-- the tokens, their places aside, are those of the text's cover
pub record IsReadAs (text : List ℕ) (tokens : List Token) : Type 0 where
  pub pieces : List Piece
  pub cover : IsCover text pieces
  pub tokens_are : plain (tokens_of 0 pieces) ≡ tokens
