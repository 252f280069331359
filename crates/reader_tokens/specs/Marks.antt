-- Tokens at which no mark stands first.
use Rattle.std.specs.Prelude.{List, ◌∷◌}
use Rattle.proc_macro2.specs.Token.{Token, Ident, Literal, Punct}

abbrev pub no_mark : List Token → Type 0
no_mark (Punct c spacing ∷ ts) = ⊥
no_mark _ = Unit {0}

-- and no identifier
abbrev pub no_word : List Token → Type 0
no_word (Ident cs ∷ ts) = ⊥
no_word _ = Unit {0}

-- and no literal
abbrev pub no_literal : List Token → Type 0
no_literal (Literal cs ∷ ts) = ⊥
no_literal _ = Unit {0}
