-- Tokens at which no group opens first.
use Rattle.std.specs.Prelude.{List, ◌∷◌}
use Rattle.proc_macro2.specs.Token.{Token, Opens}

abbrev pub no_opening : List Token → Type 0
no_opening (Opens d ∷ ts) = ⊥
no_opening _ = Unit {0}
