-- What stands for an expression where none is known yet.
use Rattle.syn_grammar.specs.Kind as k
use Rattle.syn_grammar.specs.Tree as t
use Rattle.syn_grammar.specs.Tree.{Tree}

-- a path in an expression, without :: in front, and without segments
abbrev pub path_of_none : Tree
path_of_none = t.Node (k.Path k.InExpression) (t.Pair (t.Second t.Nil) t.Nil)

-- what an expression that is a path holds, of this path
abbrev pub own : Tree
own = t.Node (k.AnyPath k.InExpression) (t.Second path_of_none)

-- it stands by itself, as a path does
abbrev pub placeholder : Tree
placeholder = t.Alone k.ExprPath own
