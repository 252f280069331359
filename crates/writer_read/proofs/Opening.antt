-- Whether an expression or a statement begins with a parenthesis that is added, by the form of trees.
use Rattle.std.specs.Prelude.{◌≡◌, Bool, true, false, cond, not, nat_eq, ◌&&◌, ◌||◌, List, [], ◌∷◌, Option, Some}
use Rattle.std.specs.Prelude.{None, length, refl}
use Rattle.std.proofs.Common.{ap, ◌∙◌, sym, arith}
use Rattle.std.proofs.lemmas.Bool.{false≢true}
use Rattle.syn_grammar.specs.Kind.{Kind, ExprCast, AStatement, OuterAttributes, Expression}
use Rattle.syn_grammar.specs.Name.{the_attributes, the_expression}
use Rattle.syn_grammar.specs.Forms.{level}
use Rattle.syn_grammar.specs.Tree as t
use Rattle.syn_grammar.specs.Tree.{Tree}
use Rattle.reader_tree.specs.Forms.{turns}
use Rattle.reader_tree.specs.Shapes.{last_of}
use Rattle.writer_rules.specs.Operands.{back_of, giving_of, infix_of, stated_of, statement_of}
use Rattle.writer_rules.specs.Laid.{has_attributes}
use Rattle.writer_rules.proofs.Operands.{back_is, infix_is, stated_is}
use Rattle.writer_rules.proofs.SeenForms.{last_is, same_pair, some_none}
use Rattle.laws_ranges.specs.Opens.{opens, opens_behind, opens_given, opens_statement, opens_turns}
use Rattle.laws_ranges.specs.Shelled.{goes_in}

-- some left operand on the left edge
pub opens_infix : (x : Tree) (k : Kind) (l y r : Tree) → Some (k, l, y, r) ≡ infix_of x
    → (goes_in k l || opens l) ≡ opens x
opens_infix x k l y r e = ap opens (sym (infix_is x k l y r e))

pub opens_back : (x : Tree) (k : Kind) (l y : Tree) → Some (k, l, y) ≡ back_of x → (goes_in k l || opens l) ≡ opens x
opens_back x k l y e = ap opens (sym (back_is x k l y e))

pub opens_none : (x : Tree) → None ≡ infix_of x → None ≡ back_of x → false ≡ opens x
opens_none (t.Infix l k y r) e f = cc
opens_none (t.Back l k y) e f = cc
opens_none x e f = refl

pub ruleset opening = (opens_infix, opens_back, opens_none)

-- with attributes that are given to the leftmost operand
pub given_some : (x : Tree) (k : Kind) (l : Tree) → Some (k, l) ≡ giving_of x
    → (goes_in k l || opens_given l) ≡ opens_given x
given_some (t.Infix m j y r) k l e = by (nat_eq (level j) 3) e
  where
    by : (b : Bool) → ◌≡◌ {A = Option (Kind × Tree)} (Some (k, l)) (cond b None (Some (j, m)))
        → (goes_in k l || opens_given l) ≡ (not b && (goes_in j m || opens_given m))
    by true f = absurd (some_none (k, l) f)
    by false f = let s = same_pair k j l m f in
        ap (λ i. goes_in i l || opens_given l) s.0 ∙ ap (λ z. goes_in j z || opens_given z) s.1
given_some (t.Back m ExprCast y) k l e =
    let s = same_pair k ExprCast l m e in
    ap (λ i. goes_in i l || opens_given l) s.0 ∙ ap (λ z. goes_in ExprCast z || opens_given z) s.1
given_some x k l e = absurd (some_none (k, l) e)

pub given_none : (x : Tree) → None ≡ giving_of x → false ≡ opens_given x
given_none (t.Infix m j y r) e = by (nat_eq (level j) 3) e
  where
    by : (b : Bool) → ◌≡◌ {A = Option (Kind × Tree)} None (cond b None (Some (j, m)))
        → false ≡ (not b && (goes_in j m || opens_given m))
    by true f = refl
    by false f = absurd (some_none (j, m) (sym f))
given_none (t.Back m ExprCast y) e = absurd (some_none (ExprCast, m) (sym e))
given_none x e = refl

pub ruleset giving = (given_some, given_none)

-- behind what stands before a statement's expression
pub behind_given : (a x : Tree) → has_attributes a ≡ true → opens_given x ≡ opens_behind a x
behind_given (t.Node OuterAttributes (t.Again y z)) x e = refl
behind_given a x e = absurd (false≢true e)

pub behind_plain : (a x : Tree) → has_attributes a ≡ false → opens x ≡ opens_behind a x
behind_plain (t.Node OuterAttributes (t.Again y z)) x e = absurd (false≢true (sym e))
behind_plain a x e = refl

pub ruleset behind = (behind_given, behind_plain)

-- a statement
pub statement_some : (x a z s : Tree) → Some (a, z, s) ≡ stated_of x → opens_behind a z ≡ opens_statement x
statement_some x a z s e = ap opens_statement (sym (stated_is x a z s e).1)

pub statement_none : (x : Tree) → None ≡ stated_of x → false ≡ opens_statement x
statement_none (t.Second (t.Second (t.Second (t.Second (t.Pair (t.Called the_attributes a)
    (t.Pair (t.Called the_expression (t.Node (Expression p) (t.Whole y))) u)))))) e =
    absurd (some_none (a, y, u) (sym e))
statement_none x e = refl

pub ruleset stating = (statement_some, statement_none)

-- a turn among statements
abbrev turn_opens : Tree → Bool
turn_opens x = opens_turns (t.Again x t.End)

statement_is : (x y : Tree) → Some y ≡ statement_of x → x ≡ t.Node AStatement y
statement_is (t.Node AStatement z) y e = cc
statement_is x y e = absurd (some_none y e)

no_statement : (x : Tree) → None ≡ statement_of x → false ≡ turn_opens (t.Second x)
no_statement (t.Node AStatement y) e = cc
no_statement x e = refl

pub turn_none : (x : Tree) → None ≡ last_of x → false ≡ turn_opens x
turn_none (t.Second (t.Node k y)) e = cc
turn_none x e = refl

pub turn_other : (x y : Tree) → Some y ≡ last_of x → None ≡ statement_of y → false ≡ turn_opens x
turn_other x y e f = no_statement y f ∙ ap turn_opens (sym (last_is x y e))

pub turn_statement : (x y z : Tree) → Some y ≡ last_of x → Some z ≡ statement_of y → opens_statement z ≡ turn_opens x
turn_statement x y z e f =
    ap (λ w. turn_opens (t.Second w)) (sym (statement_is y z f)) ∙ ap turn_opens (sym (last_is x y e))

pub ruleset turning = (turn_none, turn_other, turn_statement)

-- the first of some turns
first_opens : (x y : Tree) → turn_opens x ≡ opens_turns (t.Again x y)
first_opens (t.Second (t.Node AStatement z)) y = refl
first_opens x y = refl

pub first_turn : (ys : List Tree) (x : Tree) (xs : List Tree) → ys ≡ x ∷ xs
    → opens_turns (t.Again x t.End) ≡ opens_turns (turns ys)
first_turn ys x xs e = first_opens x (turns xs) ∙ ap (λ zs. opens_turns (turns zs)) (sym e)

pub no_turn : (xs : List Tree) → length xs ≡ 0 → false ≡ opens_turns (turns xs)
no_turn [] h = refl
no_turn (x ∷ xs) h = absurd (omega (arith, h))

pub ruleset firsts = (first_turn, no_turn)
