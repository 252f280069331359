-- The characters at the front of a text that belong together, and what stands behind them.
use Rattle.std.specs.Prelude.{ℕ, Bool, ◌==◌, List, [], ◌∷◌, Option, Some, None, if◌then◌else◌}
use Rattle.rust_lex.specs.Chars.{is_first, is_next, begins, past}

-- the characters at the front of a text that pass, as many as there are
abbrev pub passing : (ℕ → Bool) → List ℕ → List ℕ
passing p [] = []
passing p (c ∷ cs) = if p c then c ∷ passing p cs else []

-- behind an identifier, if one stands there
abbrev pub past_suffix : List ℕ → List ℕ
past_suffix cs = if begins is_first cs then past is_next cs else cs

-- behind one character, if it is this one
abbrev pub past_one : ℕ → List ℕ → Option (List ℕ)
past_one d [] = None
past_one d (c ∷ cs) = if c == d then Some cs else None
