-- What says of an infix form which operator it has says that it is one.
use Rattle.std.specs.Prelude.{refl}
use Rattle.syn_grammar.specs.Kind as k
use Rattle.syn_grammar.specs.Kind.{Kind}
use Rattle.syn_grammar.specs.Tree.{Tree, Second, Infix}
use Rattle.syn_expr.specs.ExprForms.{IsInfix}
use Rattle.syn_expr.specs.ExprInfix.{IsAssign, IsBinary}

pub assign_infix : (x : Tree) → ((j : Kind) → IsInfix x j → ⊥) → IsAssign x → ⊥
assign_infix (Infix l j y r) d h = d k.ExprAssign (h.0, h.1)
assign_infix _ d h = absurd h

pub binary_infix : (x : Tree) → ((j : Kind) → IsInfix x j → ⊥) → IsBinary x → ⊥
binary_infix (Infix l k.ExprOr y r) d h = d k.ExprOr (refl, h)
binary_infix (Infix l k.ExprAnd y r) d h = d k.ExprAnd (refl, h)
binary_infix (Infix l k.ExprBitOr y r) d h = d k.ExprBitOr (refl, h)
binary_infix (Infix l k.ExprBitXor y r) d h = d k.ExprBitXor (refl, h)
binary_infix (Infix l k.ExprBitAnd y r) d h = d k.ExprBitAnd (refl, h)
binary_infix (Infix l k.ExprSum y r) d h = d k.ExprSum (refl, h)
binary_infix (Infix l k.ExprProduct y r) d h = d k.ExprProduct (refl, h)
binary_infix (Infix l k.ExprShift y r) d h = d k.ExprShift (refl, h)
binary_infix (Infix l k.ExprCompare y r) d h = d k.ExprCompare (refl, h)
binary_infix (Infix l k.ExprAssign (Second y) r) d h = d k.ExprAssign (refl, h)
binary_infix _ d h = absurd h
