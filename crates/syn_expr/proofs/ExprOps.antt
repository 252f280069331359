-- Which operators these are, as a list of their texts.
use Rattle.std.specs.Prelude.{◌≡◌, codes, List, [], ◌∷◌, ℕ, length, refl}
use Rattle.syn_grammar.specs.Kind as k
use Rattle.syn_grammar.specs.Tree.{Tree, Second}
use Rattle.syn_grammar.specs.Say.{one_sign}
use Rattle.syn_grammar.specs.Expressions.{expr_unary, expr_sum, expr_product, expr_shift, expr_compare, expr_assign}
use Rattle.syn_grammar.specs.Table.{table}
use Rattle.syn_part.specs.Shape.{IsShaped}
use Rattle.syn_expr.specs.ExprOps.{IsOperator}

-- no tree is one of so many punctuations
abbrev NoSign : Tree → ℕ → Type 0
NoSign x n = (texts : List (List ℕ)) → length texts ≡ n → IsShaped x (one_sign texts) → ⊥

pub unary_signs : (x : Tree) → NoSign x 3 → IsShaped x expr_unary → ⊥
unary_signs x d h = d (codes "*" ∷ codes "!" ∷ codes "-" ∷ []) refl h

pub sum_signs : (x : Tree) → NoSign x 2 → IsShaped x expr_sum → ⊥
sum_signs x d h = d (codes "+" ∷ codes "-" ∷ []) refl h

pub product_signs : (x : Tree) → NoSign x 3 → IsShaped x expr_product → ⊥
product_signs x d h = d (codes "*" ∷ codes "/" ∷ codes "%" ∷ []) refl h

pub shift_signs : (x : Tree) → NoSign x 2 → IsShaped x expr_shift → ⊥
shift_signs x d h = d (codes "<<" ∷ codes ">>" ∷ []) refl h

pub compare_signs : (x : Tree) → NoSign x 6 → IsShaped x expr_compare → ⊥
compare_signs x d h = d (codes "==" ∷ codes "<=" ∷ codes "!=" ∷ codes ">=" ∷ codes "<" ∷ codes ">" ∷ []) refl h

pub assign_signs : (x : Tree) → NoSign x 11 → IsShaped x expr_assign → ⊥
assign_signs x d h =
    d (codes "=" ∷ codes "+=" ∷ codes "-=" ∷ codes "*=" ∷ codes "/=" ∷ codes "%=" ∷ codes "^="
    ∷ codes "&=" ∷ codes "|=" ∷ codes "<<=" ∷ codes ">>=" ∷ []) refl h

-- a compound assignment's operator is not the first
pub compound : (x : Tree) → ((y : Tree) → x ≡ Second y → IsShaped x expr_assign → ⊥) → IsOperator k.ExprAssign x → ⊥
unfolding table
compound (Second y) d h = d y refl h
compound _ d h = absurd h
