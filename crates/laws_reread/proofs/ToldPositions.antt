-- An expression that was read in a position is read back there.
use Rattle.std.proofs.Common.{◌≡◌, List, ◌++◌}
use Rattle.std.specs.Prelude.{true}
use Rattle.proc_macro2.specs.Token.{Token}
use Rattle.syn_grammar.specs.Kind.{Position, Expression, InCondition}
use Rattle.syn_grammar.specs.Tree.{Tree, Node, Whole, flat}
use Rattle.syn_grammar.specs.Look.{sees}
use Rattle.syn_grammar.specs.Say.{brace}
use Rattle.syn_grammar.specs.Gram.{ref}
use Rattle.syn_grammar.specs.Derives.{Derives}
use Rattle.syn_grammar.specs.Kept.{kept}
use Rattle.syn_grammar.specs.Normal.{normal_in}
use Rattle.syn_grammar.specs.Read.{IsRead}
use Rattle.laws_reread_expressions.specs.Behind.{MayFollow}
use Rattle.laws_reread_kinds.specs.After.{EndsThere}
use Rattle.laws_reread.proofs.Positions as Positions
use Rattle.laws_reread.proofs.Told.{expression_covered}

pub read_in_position : (p : Position) (x : Tree) (r s : List Token)
    → Derives (Node (Expression p) (Whole x)) (ref (Expression p)) r → (p ≡ InCondition → sees brace r ≡ true)
    → MayFollow p s
    → IsRead (Expression p) (flat (normal_in p (kept (Node (Expression p) (Whole x)))) ++ s)
    (normal_in p (kept (Node (Expression p) (Whole x)))) s
read_in_position p x r s d b m = Positions.read_in_position p x r s d b (expression_covered p x r d) m

pub read_ended : (p : Position) (x : Tree) (r s : List Token)
    → Derives (Node (Expression p) (Whole x)) (ref (Expression p)) r
    → EndsThere p (normal_in p (kept (Node (Expression p) (Whole x)))) s
    → IsRead (Expression p) (flat (normal_in p (kept (Node (Expression p) (Whole x)))) ++ s)
    (normal_in p (kept (Node (Expression p) (Whole x)))) s
read_ended p x r s d e = Positions.read_ended_in p x r s d (expression_covered p x r d) e

pub same_in_position : (p : Position) (x y : Tree) (r q s : List Token)
    → Derives (Node (Expression p) (Whole x)) (ref (Expression p)) r → (p ≡ InCondition → sees brace r ≡ true)
    → Derives (Node (Expression p) (Whole y)) (ref (Expression p)) q → (p ≡ InCondition → sees brace q ≡ true)
    → MayFollow p s
    → flat (normal_in p (kept (Node (Expression p) (Whole x))))
    ≡ flat (normal_in p (kept (Node (Expression p) (Whole y))))
    → normal_in p (kept (Node (Expression p) (Whole x))) ≡ normal_in p (kept (Node (Expression p) (Whole y)))
same_in_position p x y r q s d a e b m h =
    Positions.same_in_position p x y r q s d a (expression_covered p x r d) e b (expression_covered p y q e) m h
