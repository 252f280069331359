-- Tests on characters, which are numbers, and on texts, which are lists of them.
use Rattle.std.specs.Prelude.{ℕ, Bool, true, false, ◌&&◌, ◌||◌, ◌==◌, not, nat_lt, List, [], ◌∷◌, if◌then◌else◌}
use Rattle.std.specs.List.{list_any}

-- the character is one of these
abbrev pub is_among : List ℕ → ℕ → Bool
is_among ds c = list_any (λ d. d == c) ds

-- a text begins with a character that passes
abbrev pub begins : (ℕ → Bool) → List ℕ → Bool
begins p [] = false
begins p (c ∷ cs) = p c

-- each character of a text passes
abbrev pub passes : (ℕ → Bool) → List ℕ → Bool
passes p [] = true
passes p (c ∷ cs) = p c && passes p cs

-- what stands behind the characters at its front that pass, as many as there are
abbrev pub past : (ℕ → Bool) → List ℕ → List ℕ
past p [] = []
past p (c ∷ cs) = if p c then past p cs else c ∷ cs

-- the line feed
abbrev pub is_line_feed : ℕ → Bool
is_line_feed c = c == 10

-- the underscore
abbrev pub is_underscore : ℕ → Bool
is_underscore c = c == 95

-- a character of ASCII that passes
abbrev pub narrow : (ℕ → Bool) → ℕ → Bool
narrow p c = nat_lt c 128 && p c

-- a character that passes, or one that isn't of ASCII
abbrev pub or_wide : (ℕ → Bool) → ℕ → Bool
or_wide p c = not (nat_lt c 128) || p c
