-- Tokens without an invisible group.
use Rattle.std.specs.Prelude.{List, [], ◌∷◌, IsTrue}
use Rattle.proc_macro2.specs.Token.{Token, Opens, Closes}
use Rattle.proc_macro2.specs.Spacing.{is_visible}

-- Each opening and each closing token has a delimiter that is printed.
abbrev pub AllVisible : List Token → Type 0
AllVisible [] = Unit {0}
AllVisible (Opens d ∷ ts) = IsTrue (is_visible d) × AllVisible ts
AllVisible (Closes d ∷ ts) = IsTrue (is_visible d) × AllVisible ts
AllVisible (t ∷ ts) = AllVisible ts
