-- Whether the last of tokens closes braces.
use Rattle.std.specs.Prelude.{Bool, true, false, List, [], ◌∷◌, Option, Some, None}
use Rattle.proc_macro2.specs.Token.{Token, Closes}
use Rattle.proc_macro2.specs.declared.delimiter.Delimiter.TheVariants.{Brace}

-- a token closes braces
abbrev pub closes_braces : Token → Bool
closes_braces (Closes Brace) = true
closes_braces _ = false

-- what the later one says, if there is one
abbrev pub later : Option Bool → Option Bool → Option Bool
later o None = o
later o (Some b) = Some b

-- the last token closes braces; where there is no token, none does or does not
abbrev pub ending : List Token → Option Bool
ending [] = None
ending (t ∷ ts) = later (Some (closes_braces t)) (ending ts)
