-- How tokens are printed: trees stand one space apart, except behind a joint mark. A group in
-- parentheses or brackets stands close to its marks; one in braces stands a space apart from them,
-- also when it is empty; of an invisible group the inside alone is printed.
--
-- An invisible group's own tokens are printed as nothing, its inside stands close to them, and
-- outside they stand as any tree does. So an empty one between two trees leaves two spaces.
use Rattle.std.specs.Prelude.{ℕ, Bool, true, false, ◌&&◌, ◌||◌, not, List, [], ◌∷◌, ◌++◌, encode_utf8_all}
use Rattle.proc_macro2.specs.declared.delimiter.Delimiter.TheVariants as delimiter
use Rattle.proc_macro2.specs.Token.{Delimiter, Token, Opens, Closes, Ident, Literal, Punct, Spanned, Joint, plain}

-- ( { [
abbrev pub opening : Delimiter → List ℕ
opening delimiter.Parenthesis = 40 ∷ []
opening delimiter.Brace = 123 ∷ []
opening delimiter.Bracket = 91 ∷ []
opening delimiter.None = []

-- ) } ]
abbrev pub closing : Delimiter → List ℕ
closing delimiter.Parenthesis = 41 ∷ []
closing delimiter.Brace = 125 ∷ []
closing delimiter.Bracket = 93 ∷ []
closing delimiter.None = []

-- a token by itself
abbrev pub shown : Token → List ℕ
shown (Opens d) = opening d
shown (Closes d) = closing d
shown (Ident cs) = cs
shown (Literal cs) = cs
shown (Punct c spacing) = c ∷ []

-- what follows stands close to it: any opening token but a brace, and a joint mark
abbrev pub hugs : Token → Bool
hugs (Opens delimiter.Brace) = false
hugs (Opens d) = true
hugs (Punct c Joint) = true
hugs _ = false

-- it stands close to what precedes it: any closing token but a brace
abbrev pub is_hugged : Token → Bool
is_hugged (Closes delimiter.Brace) = false
is_hugged (Closes d) = true
is_hugged _ = false

-- {
abbrev pub opens_brace : Token → Bool
opens_brace (Opens delimiter.Brace) = true
opens_brace _ = false

-- }
abbrev pub closes_brace : Token → Bool
closes_brace (Closes delimiter.Brace) = true
closes_brace _ = false

-- a space stands between two tokens
abbrev pub is_apart : Token → Token → Bool
is_apart t u = (opens_brace t || closes_brace u) || (not (hugs t) && not (is_hugged u))

-- the space between two tokens, if there is one
abbrev pub space : Bool → List ℕ
space true = 32 ∷ []
space false = []

-- the text of tokens
abbrev pub text : List Token → List ℕ
text [] = []
text (t ∷ []) = shown t
text (t ∷ u ∷ us) = shown t ++ (space (is_apart t u) ++ text (u ∷ us))

-- the bytes that are printed
abbrev pub printed : List Spanned → List ℕ
printed ts = encode_utf8_all (text (plain ts))
