-- Tokens that are put behind others.
use Rattle.std.specs.Prelude.{◌≡◌, ◌++◌, ◌∷◌, [], List}
use Rattle.proc_macro2.specs.Spans.{call_site}
use Rattle.proc_macro2.specs.Token.{Token, Spanned}
use Rattle.proc_macro2.specs.Flat.{spanned}

-- one token, at no place of a text, behind those that were there
abbrev pub IsPut : List Spanned → List Spanned → Token → Type 0
IsPut old new token = new ≡ old ++ spanned token call_site ∷ []

-- some tokens behind those that were there
abbrev pub IsBehind : List Spanned → List Spanned → Type 0
IsBehind old new = (behind : List Spanned) × (new ≡ old ++ behind)
