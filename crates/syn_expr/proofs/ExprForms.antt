-- A tree that a form is, where it is none of an expression's.
use Rattle.std.specs.Prelude.{ℕ, zero, suc, List, [], ◌∷◌, Option, Some, None}
use Rattle.rust_leaf.specs.declared.punct.Spacing.{Spacing}
use Rattle.syn_grammar.specs.Kind.{Kind}
use Rattle.syn_grammar.specs.Tree as t
use Rattle.syn_grammar.specs.Tree.{Tree}
use Rattle.reader_tree.specs.declared.tree.Element.{Element}
use Rattle.reader_tree.specs.Forms.{mark_of, seconds, turns, elements, ending}
use Rattle.syn_expr.specs.ExprForms.{IsAlone, IsBack, IsForm, IsFront, IsInfix, IsJump}

-- none of these is a form of an expression
pub first_form : (n : ℕ) (x : Tree) (k : Kind) → IsForm (seconds n (t.First x)) k → ⊥
first_form zero x k h = absurd h
first_form (suc n) x k h = absurd h

pub mark_form : (cs : List ℕ) (spacing : Spacing) (k : Kind) → IsForm (mark_of cs spacing) k → ⊥
mark_form [] spacing k h = absurd h
mark_form (c ∷ cs) spacing k h = absurd h

pub turns_form : (xs : List Tree) (k : Kind) → IsForm (turns xs) k → ⊥
turns_form [] k h = absurd h
turns_form (x ∷ xs) k h = absurd h

pub elements_form : {A : Type 0} (c : ℕ) (es : List Element) (f : A → Tree) (o : Option A) (k : Kind)
    → IsForm (elements c es (ending f o)) k → ⊥
elements_form c [] f None k h = absurd h
elements_form c [] f (Some x) k h = absurd h
elements_form c (x ∷ es) f o k h = absurd h

-- one with these operands is a form
pub alone_form : (x : Tree) (k : Kind) → IsAlone x k → IsForm x k
alone_form (t.Alone j y) k h = h
alone_form _ k h = absurd h

pub front_form : (x : Tree) (k : Kind) → IsFront x k → IsForm x k
front_form (t.Front j y r) k h = h
front_form _ k h = absurd h

pub back_form : (x : Tree) (k : Kind) → IsBack x k → IsForm x k
back_form (t.Back l j y) k h = h
back_form _ k h = absurd h

pub infix_form : (x : Tree) (k : Kind) → IsInfix x k → IsForm x k
infix_form (t.Infix l j y r) k h = h
infix_form _ k h = absurd h

pub jump_form : (x : Tree) (k : Kind) → IsJump x k → IsForm x k
jump_form (t.Alone j y) k h = h
jump_form (t.Front j y r) k h = h
jump_form _ k h = absurd h

pub ruleset forms = (first_form, mark_form, turns_form, elements_form)

pub ruleset alones = (first_form, mark_form, turns_form, elements_form, alone_form)

pub ruleset fronts = (first_form, mark_form, turns_form, elements_form, front_form)

pub ruleset backs = (first_form, mark_form, turns_form, elements_form, back_form)

pub ruleset infixes = (first_form, mark_form, turns_form, elements_form, infix_form)

pub ruleset jumps = (first_form, mark_form, turns_form, elements_form, jump_form)
