-- What stands in front of tokens, and stays there.
use Rattle.std.specs.Prelude.{◌≡◌, List, ◌++◌}
use Rattle.proc_macro2.specs.Token.{Spanned}

-- the tokens begin with these
abbrev pub IsFront : List Spanned → List Spanned → Type 0
IsFront front tokens = (behind : List Spanned) × (tokens ≡ front ++ behind)

-- whatever the old tokens begin with, the new ones begin with it: the old ones stand in front
unfoldable pub Keeps : List Spanned → List Spanned → Type 0
Keeps old new = (front : List Spanned) → IsFront front old → IsFront front new
