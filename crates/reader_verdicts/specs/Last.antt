-- What is asked of a last element, if there is one.
use Rattle.std.specs.Prelude.{Bool, false, Option, Some, None}
use Rattle.syn_grammar.specs.Tree.{Tree}

abbrev pub on_last : (Tree → Bool) → Option Tree → Bool
on_last p None = false
on_last p (Some x) = p x
