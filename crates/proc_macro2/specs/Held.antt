-- What a map holds of the tokens of a stream.
use Rattle.std.specs.Prelude.{Bool, List}
use Rattle.std.specs.List.{list_all}
use Rattle.rust_map.specs.Sources.{Sources, is_held}
use Rattle.proc_macro2.specs.Token.{Spanned}

-- the map holds the span of each token
abbrev pub are_held : Sources → List Spanned → Bool
are_held map tokens = list_all (λ s. is_held map s.span) tokens
