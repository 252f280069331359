-- That a look sees something at these tokens, or nothing.
use Rattle.std.specs.Prelude.{◌≡◌, true, false, List, [], ◌∷◌}
use Rattle.proc_macro2.specs.Token.{Token}
use Rattle.syn_grammar.specs.Look.{Look, sees}

abbrev pub Lacks : Look → List Token → Type 0
Lacks l ts = sees l ts ≡ false

abbrev pub Stands : Look → List Token → Type 0
Stands l ts = sees l ts ≡ true

-- none of these looks sees anything there
abbrev pub LacksAll : List Look → List Token → Type 0
LacksAll [] ts = Unit {0}
LacksAll (l ∷ ls) ts = Lacks l ts × LacksAll ls ts
