-- Of a form whose operands may be missing: its kind and its own part are those that it was made of.
use Rattle.std.specs.Prelude.{◌≡◌, ◌⊎◌, Option, Some, None}
use Rattle.std.proofs.Common.{inl, inr, subst, sym}
use Rattle.syn_grammar.specs.Kind.{Kind, ExprRange, ExprRangeClosed}
use Rattle.syn_grammar.specs.Table.{table}
use Rattle.syn_grammar.specs.Tree.{Tree}
use Rattle.syn_part.specs.Shape.{IsShaped}
use Rattle.syn_expr.specs.ExprForms.{IsForm, IsJump, form_tree, jump_tree}
use Rattle.syn_expr.specs.ExprOps.{IsLimits}
use denote.Bor.{Bor}

jump_is : (x : Tree) (k : Kind) (y : Tree) (o : Option (Bor Tree)) (j : Kind) → x ≡ jump_tree k y o → IsJump x j
    → (k ≡ j) × IsShaped y (table j)
jump_is x k y None j e h = subst (λ z. IsJump z j) e h
jump_is x k y (Some r) j e h = subst (λ z. IsJump z j) e h

pub jump_kind : (x : Tree) (k : Kind) (y : Tree) (o : Option (Bor Tree)) (j : Kind) → x ≡ jump_tree k y o → IsJump x j
    → k ≡ j
jump_kind x k y o j e h = (jump_is x k y o j e h).0

pub jump_own : (x : Tree) (k : Kind) (y : Tree) (o : Option (Bor Tree)) (j : Kind) → x ≡ jump_tree k y o → IsJump x j
    → IsShaped y (table j)
jump_own x k y o j e h = (jump_is x k y o j e h).1

pub ruleset jumps = (jump_kind, jump_own)

form_is : (x : Tree) (l : Option (Bor Tree)) (k : Kind) (y : Tree) (r : Option (Bor Tree)) (j : Kind)
    → x ≡ form_tree l k y r → IsForm x j → (k ≡ j) × IsShaped y (table j)
form_is x None k y None j e h = subst (λ z. IsForm z j) e h
form_is x None k y (Some r) j e h = subst (λ z. IsForm z j) e h
form_is x (Some l) k y None j e h = subst (λ z. IsForm z j) e h
form_is x (Some l) k y (Some r) j e h = subst (λ z. IsForm z j) e h

-- a range's own part says how it ends
pub range_limited : (x : Tree) (l : Option (Bor Tree)) (k : Kind) (y : Tree) (r : Option (Bor Tree))
    → x ≡ form_tree l k y r → (IsLimits k y → ⊥) → IsForm x ExprRange ⊎ IsForm x ExprRangeClosed → ⊥
range_limited x l k y r e d (inl h) =
    let i = form_is x l k y r ExprRange e h in d (subst (λ j. IsLimits j y) (sym i.0) i.1)
range_limited x l k y r e d (inr h) =
    let i = form_is x l k y r ExprRangeClosed e h in d (subst (λ j. IsLimits j y) (sym i.0) i.1)
