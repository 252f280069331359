-- Texts of lifetimes.
use Rattle.std.specs.Prelude.{ℕ, Bool, false, ◌==◌, ◌&&◌, List, [], ◌∷◌}
use Rattle.rust_leaf.specs.Identifier.{is_identifier}

-- an apostrophe, and an identifier without r#; 39 is '
abbrev pub is_symbol : List ℕ → Bool
is_symbol [] = false
is_symbol (c ∷ cs) = (c == 39) && is_identifier cs
