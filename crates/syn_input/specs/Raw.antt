-- Identifiers without r#. The text of a raw identifier is r# and behind it the text of an identifier.
use Rattle.std.specs.Prelude.{ℕ, cond, ◌==◌, ◌&&◌, List, ◌∷◌}

-- the text of an identifier without the r# that it begins with, if it does
abbrev pub unraw_text : List ℕ → List ℕ
unraw_text (c ∷ d ∷ cs) = cond (c == 114 && d == 35) cs (c ∷ d ∷ cs)
unraw_text cs = cs
