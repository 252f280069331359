-- Tokens by themselves.
use Rattle.std.specs.Prelude.{◌≡◌, true, List, [], ◌∷◌}
use Rattle.rust_leaf.specs.Mark.{is_mark}
use Rattle.rust_leaf.specs.Parse.{IsLiteralLeaf}
use Rattle.rust_lex.specs.Piece.{IsIdent}
use Rattle.proc_macro2.specs.Token.{Token, Opens, Closes, Ident, Literal, Punct}

-- the token is one by itself: an identifier where nothing follows, a literal, one of the 22 marks
abbrev pub IsLeaf : Token → Type 0
IsLeaf (Opens d) = Unit {0}
IsLeaf (Closes d) = Unit {0}
IsLeaf (Ident cs) = IsIdent cs []
IsLeaf (Literal cs) = IsLiteralLeaf cs
IsLeaf (Punct c spacing) = is_mark c ≡ true

-- each of the tokens is
abbrev pub AreLeaves : List Token → Type 0
AreLeaves [] = Unit {0}
AreLeaves (t ∷ ts) = IsLeaf t × AreLeaves ts
