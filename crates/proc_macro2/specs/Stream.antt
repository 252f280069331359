-- What holds of the tokens of each stream.
use Rattle.std.specs.Prelude.{List}
use Rattle.std.specs.List.{flat_map}
use Rattle.rust_leaf.specs.Leaf.{AreCharacters}
use Rattle.proc_macro2.specs.Token.{Spanned, plain}
use Rattle.proc_macro2.specs.Leaf.{AreLeaves}
use Rattle.proc_macro2.specs.Groups.{IsMatched}
use Rattle.proc_macro2.specs.Printed.{shown}

-- each token is one by itself, each group is closed by its own token, and tokens are printed as characters
pub record IsStream (tokens : List Spanned) : Type 0 where
  pub leaves : AreLeaves (plain tokens)
  pub matched : IsMatched tokens
  pub characters : AreCharacters (flat_map shown (plain tokens))
