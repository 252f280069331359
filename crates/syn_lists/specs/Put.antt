-- How lists are printed.
use Rattle.std.specs.Prelude.{◌≡◌, List, [], ◌∷◌, Option, Some, None}
use Rattle.proc_macro2.specs.Token.{Spanned}
use Rattle.syn_error.specs.Tokens.{Puts}

-- a value, and its separator behind it, if it has one
abbrev pub PutsPair : {T P : Type 0} → (T → Puts) → (P → Puts) → T × Option P → Puts
PutsPair value separator (v, None) old new = value v old new
PutsPair value separator (v, Some p) old new =
    (between : List Spanned) × value v old between × separator p between new

-- Each value, and its separator behind it; a value that no separator follows is the last. Each is put behind what the
-- print of those before it left; without a value the tokens stay as they were.
abbrev pub PutsList : {T P : Type 0} → (T → Puts) → (P → Puts) → List T → List P → Puts
PutsList value separator [] ps old new = new ≡ old
PutsList value separator (v ∷ vs) [] old new = value v old new
PutsList value separator (v ∷ vs) (p ∷ ps) old new =
    (between : List Spanned) × (behind : List Spanned) × value v old between × separator p between behind
    × PutsList value separator vs ps behind new

-- where a print makes one thing of the tokens that stood there
abbrev pub Put : Type 0
Put = List Spanned → List Spanned

-- the same of each value and of its separator, if each of them makes one thing of the tokens
abbrev pub put_list : {T P : Type 0} → (T → Put) → (P → Put) → List T → List P → Put
put_list value separator [] ps tokens = tokens
put_list value separator (v ∷ vs) [] tokens = value v tokens
put_list value separator (v ∷ vs) (p ∷ ps) tokens = put_list value separator vs ps (separator p (value v tokens))
