-- What stands in a normal form: it is settled where it stands, and what it has in parentheses is settled in these.
use Rattle.std.proofs.Common.{List}
use Rattle.proc_macro2.specs.Token.{Token}
use Rattle.syn_grammar.specs.Kind.{Kind, Position, Plain}
use Rattle.syn_grammar.specs.Tree.{Tree, Front, Back, Infix}
use Rattle.syn_grammar.specs.Normal.{stands_behind}
use Rattle.syn_grammar.specs.Parens.{in_parens}
use Rattle.syn_grammar.proofs.Settled.{Settled}
use Rattle.laws_reread.proofs.Settled.{settled_inside, settles}

pub record Placed (x : Tree) : Type 0 where
  pub place : Position
  pub behind : List Token
  pub settled : Settled place behind x

-- inside parentheses
pub placed_inside : (x : Tree) → Placed (in_parens x) → Placed x
placed_inside x w = record {
  place = Plain;
  behind = stands_behind Plain;
  settled = settles x Plain (stands_behind Plain) (settled_inside x w.settled.0);
}

-- the operands of a form
pub placed_front : (k : Kind) (y x : Tree) → Placed (Front k y x) → Placed x
placed_front k y x w = record { place = _; behind = w.behind; settled = w.settled.3 }

pub placed_back : (l : Tree) (k : Kind) (y : Tree) → Placed (Back l k y) → Placed l
placed_back l k y w = record { place = w.place; behind = _; settled = w.settled.4 }

pub placed_left : (l : Tree) (k : Kind) (y r : Tree) → Placed (Infix l k y r) → Placed l
placed_left l k y r w = record { place = w.place; behind = _; settled = w.settled.2 }

pub placed_right : (l : Tree) (k : Kind) (y r : Tree) → Placed (Infix l k y r) → Placed r
placed_right l k y r w = record { place = _; behind = w.behind; settled = w.settled.4 }
