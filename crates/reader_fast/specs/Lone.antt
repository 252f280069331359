-- An expression that is one form alone: what stands behind it, and its tree.
use Rattle.std.specs.Prelude.{ℕ, ◌≡◌, ◌⊎◌, List, [], ◌∷◌}
use Rattle.proc_macro2.specs.Token.{Token, Opens, Punct}
use Rattle.proc_macro2.specs.declared.delimiter.Delimiter.TheVariants.{Brace}
use Rattle.syn_grammar.specs.Kind.{Kind, Position, Expression, ExprLit, ExprPath, InCondition}
use Rattle.syn_grammar.specs.Tree.{Tree, ALiteral, Alone, First, Node, Whole}

-- an expression is over: no token follows, or a comma or a semicolon; a condition also where a brace opens
abbrev pub IsOver : Position → List Token → Type 0
IsOver p [] = Unit {0}
IsOver p (Punct c spacing ∷ ts) = (c ≡ 44) ⊎ (c ≡ 59)
IsOver InCondition (Opens Brace ∷ ts) = Unit {0}
IsOver p ts = ⊥

abbrev pub lone : Position → Kind → Tree → Tree
lone p k own = Node (Expression p) (Whole (Alone k own))

abbrev pub lone_literal : Position → List ℕ → Tree
lone_literal p cs = lone p ExprLit (First (ALiteral cs))

abbrev pub lone_path : Position → Tree → Tree
lone_path p x = lone p ExprPath x
