-- Tokens without their spacing.
use Rattle.std.specs.Prelude.{List, map}
use Rattle.rust_leaf.specs.declared.punct.Spacing.TheVariants.{Alone}
use Rattle.proc_macro2.specs.Flat.{spanned}
use Rattle.proc_macro2.specs.Token.{Token, Spanned, Opens, Closes, Ident, Literal, Punct}

-- a token, whatever stands behind it
abbrev pub alone : Token → Token
alone (Punct c spacing) = Punct c Alone
alone (Opens d) = Opens d
alone (Closes d) = Closes d
alone (Ident cs) = Ident cs
alone (Literal cs) = Literal cs

-- tokens with their spans, but without their spacing
abbrev pub unspaced : List Spanned → List Spanned
unspaced ts = map (λ t. spanned (alone t.token) t.span) ts
