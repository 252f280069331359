-- The line that names what runs a file.
use Rattle.std.specs.Prelude.{◌≡◌, ℕ, Bool, true, false, ◌&&◌, ◌||◌, ◌==◌, not, List, [], ◌∷◌, Option, MatchOption}
use Rattle.rust_lex.specs.Chars.{begins, is_not_feed, is_slash_or_star, is_white, passes, past}
use Rattle.rust_lex.specs.Places.{rest_at}
use Rattle.rust_lex.specs.Ended.{IsFrom}

-- a white character other than a line feed
abbrev pub is_gap : ℕ → Bool
is_gap c = is_white c && is_not_feed c

-- a character that ends no line, is no [ and begins no comment
abbrev pub begins_command : List ℕ → Bool
begins_command [] = false
begins_command (c ∷ cs) = is_not_feed c && not (c == 91 || (c == 47 && begins is_slash_or_star cs))

-- #!, any white characters of the same line, and such a character
abbrev pub begins_shebang : List ℕ → Bool
begins_shebang [] = false
begins_shebang (a ∷ []) = false
begins_shebang (a ∷ b ∷ cs) = (a == 35 && b == 33) && begins_command (past is_gap cs)

-- A shebang before a rest: the line goes on to a line feed, or to the end.
abbrev pub IsShebang : List ℕ → List ℕ → Type 0
IsShebang line rest =
    (begins_shebang line ≡ true) × (passes is_not_feed line ≡ true) × (begins is_not_feed rest ≡ false)

-- the place behind the shebang that stands at a place, or none stands there
abbrev pub IsShebangAt : List ℕ → ℕ → Option ℕ → Type 0
IsShebangAt bytes at result = MatchOption result (begins_shebang (rest_at bytes at) ≡ false)
    (λ end. (begins_shebang (rest_at bytes at) ≡ true) × (rest_at bytes end ≡ past is_not_feed (rest_at bytes at))
    × IsFrom bytes at end)
