-- What tokens begin with, and kinds that stand among their like.
use Rattle.std.specs.Prelude.{Bool, true, false, List, [], ◌∷◌}
use Rattle.proc_macro2.specs.Token.{Token, Punct}
use Rattle.rust_leaf.specs.declared.punct.Spacing.TheVariants.{Alone as Apart}
use Rattle.syn_grammar.specs.Kind.{Kind, AnItem, AForeignItem, ATraitItem, AnImplItem, AStatement, OneStatement}

-- A token, but for its spacing.
abbrev pub unspaced : Token → Token
unspaced (Punct c spacing) = Punct c Apart
unspaced t = t

-- The first of the tokens, but for its spacing, if there is one.
abbrev pub first_of : List Token → List Token
first_of [] = []
first_of (t ∷ ts) = unspaced t ∷ []

-- One item among others, or one statement.
abbrev pub is_element : Kind → Bool
is_element AnItem = true
is_element AForeignItem = true
is_element ATraitItem = true
is_element AnImplItem = true
is_element AStatement = true
is_element OneStatement = true
is_element _ = false

-- One item among others: of a file, of an extern block, of a trait or of an impl.
abbrev pub is_any_item : Kind → Bool
is_any_item AnItem = true
is_any_item AForeignItem = true
is_any_item ATraitItem = true
is_any_item AnImplItem = true
is_any_item _ = false
