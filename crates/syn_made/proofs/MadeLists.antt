-- A tuple's list: nothing of it is left out where it is no lone element, and where it is one, that is.
use Rattle.std.specs.Prelude.{◌≡◌}
use Rattle.syn_ast.proofs.TypeForms.{several_types}
use Rattle.syn_ast.specs.Types.{no_lone}
use Rattle.syn_grammar.specs.Tree as t
use Rattle.syn_grammar.specs.Tree.{Tree}

pub lone_lost : (l x : Tree) → l ≡ t.Final x → no_lone l ≡ l → ⊥
lone_lost (t.Final y) x e h = cc
lone_lost l x e h = cc

pub ruleset tuples = (several_types, lone_lost)
