-- Attributes in front of an expression, and statements, by their form.
use Rattle.std.specs.Prelude.{◌≡◌, ◌≢◌, ℕ, zero, suc, Bool, true, false, ◌&&◌, cond, nat_eq, List, [], ◌∷◌}
use Rattle.std.specs.Prelude.{Option, Some, None, refl}
use Rattle.std.proofs.Common.{ap, ◌∙◌, sym, arith}
use Rattle.std.proofs.lemmas.Bool.{ne_eqb}
use Rattle.rust_leaf.specs.declared.punct.Spacing.{Spacing}
use Rattle.syn_grammar.specs.Kept.{as_statement, attributed, attributed_in, expression_statement, given, is_macro}
use Rattle.syn_grammar.specs.Kept.{is_there, left_in_front, own_part}
use Rattle.syn_grammar.specs.Kind.{Kind, Position, Expression, ExprAttributed, ExprCast, ExprMacro, OuterAttributes}
use Rattle.syn_grammar.specs.Forms.{form_of, level}
use Rattle.syn_grammar.specs.Name.{the_attributes, the_expression}
use Rattle.syn_grammar.specs.Tree as t
use Rattle.syn_grammar.specs.Tree.{Tree}
use Rattle.reader_table.specs.Kinds.{kind_of}
use Rattle.reader_table.specs.declared.kind.Kind as g
use Rattle.reader_table.specs.declared.kind.Kind.TheVariants as kinds
use Rattle.reader_table.specs.declared.kind.Position as gp
use Rattle.reader_tree.specs.declared.tree.Element.{Element}
use Rattle.reader_tree.specs.Forms.{mark_of, seconds, turns, elements, ending}
use Rattle.reader_tree.specs.Shapes.{first_of, node_of, pair_of, whole_of}
use Rattle.writer_rules.specs.Operands.{before_of, expression_of, pair_behind}
use Rattle.writer_rules.proofs.Operands.{behind_is}
use Rattle.writer_rules.proofs.SeenForms.{first_is, node_is, pair_is, same_pair, some_none}
use Rattle.writer_normal.specs.Peeled.{attributes_of, expressed, macro_in, stated_macro}
use Rattle.writer_normal.proofs.Peeling.{whole_is}

-- given to the leftmost operand
pub range_keeps : (a l y r : Tree) (k : Kind) → level k ≡ 3
    → t.Front ExprAttributed a (t.Infix l k y r) ≡ attributed a (t.Infix l k y r)
range_keeps a l y r k h =
    ap (λ n. cond (nat_eq n 3) (t.Front ExprAttributed a (t.Infix l k y r)) (t.Infix (attributed a l) k y r)) (sym h)

pub infix_gives : (a l y r : Tree) (k : Kind) → level k ≢ 3
    → t.Infix (attributed a l) k y r ≡ attributed a (t.Infix l k y r)
infix_gives a l y r k h =
    ap (λ b. cond b (t.Front ExprAttributed a (t.Infix l k y r)) (t.Infix (attributed a l) k y r))
    (sym (ne_eqb (level k) 3 h))

pub cast_gives : (a l y : Tree) (k : Kind) → level k ≡ 14 → t.Back (attributed a l) k y ≡ attributed a (t.Back l k y)
unfolding level
cast_gives a l y ExprCast h = refl
cast_gives a l y k h = absurd (omega (arith, h))

pub back_keeps : (a l y : Tree) (k : Kind) → level k ≢ 14
    → t.Front ExprAttributed a (t.Back l k y) ≡ attributed a (t.Back l k y)
unfolding level
back_keeps a l y ExprCast h = absurd (h refl)
back_keeps a l y k h = refl

pub attributed_first : (a x : Tree) (n : ℕ)
    → attributed a (seconds n (t.First x)) ≡ t.Front ExprAttributed a (seconds n (t.First x))
attributed_first a x zero = refl
attributed_first a x (suc n) = refl

pub attributed_mark : (a : Tree) (cs : List ℕ) (spacing : Spacing)
    → attributed a (mark_of cs spacing) ≡ t.Front ExprAttributed a (mark_of cs spacing)
attributed_mark a [] spacing = refl
attributed_mark a (c ∷ cs) spacing = refl

pub attributed_turns : (a : Tree) (xs : List Tree) → attributed a (turns xs) ≡ t.Front ExprAttributed a (turns xs)
attributed_turns a [] = refl
attributed_turns a (x ∷ xs) = refl

pub attributed_elements : {A : Type 0} (a : Tree) (c : ℕ) (es : List Element) (f : A → Tree) (o : Option A)
    → attributed a (elements c es (ending f o)) ≡ t.Front ExprAttributed a (elements c es (ending f o))
attributed_elements a c [] f None = refl
attributed_elements a c [] f (Some y) = refl
attributed_elements a c (e ∷ es) f o = refl

pub ruleset attributeds = (
  range_keeps,
  infix_gives,
  cast_gives,
  back_keeps,
  attributed_first,
  attributed_mark,
  attributed_turns,
  attributed_elements,
)

-- in a node
pub in_none : (a x : Tree) → None ≡ node_of x → x ≡ attributed_in a x
in_none a (t.Node k y) e = absurd (some_none (k, y) (sym e))
in_none a x e = refl

in_bare : (a y : Tree) (p : Position) → None ≡ whole_of y
    → t.Node (Expression p) y ≡ attributed_in a (t.Node (Expression p) y)
in_bare a (t.Whole z) p e = absurd (some_none z (sym e))
in_bare a y p e = refl

pub in_unformed : (a x y : Tree) (p : Position) → Some (Expression p, y) ≡ node_of x → None ≡ whole_of y
    → x ≡ attributed_in a x
in_unformed a x y p e h =
    let is = node_is x (Expression p) y e in is ∙ in_bare a y p h ∙ ap (attributed_in a) (sym is)

pub in_form : (a x y z : Tree) (p : Position) → Some (Expression p, y) ≡ node_of x → Some z ≡ whole_of y
    → t.Node (Expression p) (t.Whole (attributed a z)) ≡ attributed_in a x
in_form a x y z p e h =
    ap (λ w. attributed_in a (t.Node (Expression p) w)) (sym (whole_is y z h))
    ∙ ap (attributed_in a) (sym (node_is x (Expression p) y e))

pub ruleset ins = (in_none, in_unformed, in_form)

in_off : (a : Tree) (k : g.Kind) (y : Tree) → ((p : gp.Position) → k ≡ kinds.Expression p → ⊥)
    → t.Node (kind_of k) y ≡ attributed_in a (t.Node (kind_of k) y)
in_off a (kinds.Expression p) y h = absurd (h p refl)
in_off a k y h = refl

pub in_other : (a x : Tree) (k : g.Kind) (y : Tree) → Some (kind_of k, y) ≡ node_of x
    → ((p : gp.Position) → k ≡ kinds.Expression p → ⊥) → x ≡ attributed_in a x
in_other a x k y e h =
    let is : x ≡ t.Node (kind_of k) y = node_is x (kind_of k) y e in
    is ∙ in_off a k y h ∙ ap (attributed_in a) (sym is)

-- attributes
attributes_is : (x a b : Tree) → Some (a, b) ≡ attributes_of x → x ≡ t.Node OuterAttributes (t.Again a b)
attributes_is (t.Node OuterAttributes (t.Again c d)) a b e = let s = same_pair a c b d e in cc (s.0, s.1)
attributes_is x a b e = absurd (some_none (a, b) e)

pub given_some : (x a b e : Tree) → Some (a, b) ≡ attributes_of x
    → attributed_in (t.Pair a (t.Node OuterAttributes b)) e ≡ given x e
given_some x a b e h = ap (λ z. given z e) (sym (attributes_is x a b h))

pub given_none : (x e : Tree) → None ≡ attributes_of x → e ≡ given x e
given_none (t.Node OuterAttributes (t.Again a b)) e h = absurd (some_none (a, b) (sym h))
given_none x e h = refl

pub ruleset givens = (given_some, given_none)

pub left_some : (x a b : Tree) → Some (a, b) ≡ attributes_of x → t.Node OuterAttributes t.End ≡ left_in_front x
left_some x a b h = ap left_in_front (sym (attributes_is x a b h))

pub left_none : (x : Tree) → None ≡ attributes_of x → x ≡ left_in_front x
left_none (t.Node OuterAttributes (t.Again a b)) h = absurd (some_none (a, b) (sym h))
left_none x h = refl

pub ruleset lefts = (left_some, left_none)

-- statements
macro_is : (x y : Tree) → Some y ≡ macro_in x → x ≡ t.Alone ExprMacro y
macro_is (t.Alone ExprMacro z) y e = cc
macro_is x y e = absurd (some_none y e)

no_macro : (x : Tree) → None ≡ macro_in x → is_macro x ≡ false
no_macro (t.Alone ExprMacro y) e = absurd (some_none y (sym e))
no_macro x e = refl

not_there : (x : Tree) → None ≡ first_of x → is_there x ≡ false
not_there (t.First y) e = absurd (some_none y (sym e))
not_there x e = refl

abbrev by_form : Tree → Tree → Tree → Tree → Tree
by_form f a e s = cond (is_macro f && is_there s) (stated_macro a (own_part f) s) (expressed a e s)

pub statement_macro : (a e s m z : Tree) → Some m ≡ macro_in (form_of e) → Some z ≡ first_of s
    → stated_macro a m s ≡ expression_statement a e s
statement_macro a e s m z h i =
    ap (λ b. cond b (stated_macro a m s) (expressed a e s)) (ap is_there (sym (first_is s z i)))
    ∙ ap (λ f. by_form f a e s) (sym (macro_is (form_of e) m h))

and_false : (b : Bool) → (b && false) ≡ false
and_false true = refl
and_false false = refl

pub statement_bare : (a e s : Tree) → None ≡ first_of s → expressed a e s ≡ expression_statement a e s
statement_bare a e s h =
    ap (λ b. cond b (stated_macro a (own_part (form_of e)) s) (expressed a e s))
    (sym (ap (λ b. is_macro (form_of e) && b) (not_there s h) ∙ and_false (is_macro (form_of e))))

pub statement_other : (a e s : Tree) → None ≡ macro_in (form_of e) → expressed a e s ≡ expression_statement a e s
statement_other a e s h =
    ap (λ b. cond (b && is_there s) (stated_macro a (own_part (form_of e)) s) (expressed a e s))
    (sym (no_macro (form_of e) h))

pub ruleset statements = (statement_macro, statement_bare, statement_other)

-- the inside of a statement
abbrev fourth : Tree → Tree
fourth x = t.Second (t.Second (t.Second (t.Second x)))

before_is : (x y : Tree) → Some y ≡ before_of x → x ≡ t.Called the_attributes y
before_is (t.Called the_attributes z) y e = cc
before_is x y e = absurd (some_none y e)

expression_is : (x y : Tree) → Some y ≡ expression_of x → x ≡ t.Called the_expression y
expression_is (t.Called the_expression z) y e = cc
expression_is x y e = absurd (some_none y e)

pub stated_none : (x : Tree) → None ≡ pair_behind x 4 → x ≡ as_statement x
stated_none (t.Second (t.Second (t.Second (t.Second (t.Pair a b))))) e = absurd (some_none (a, b) (sym e))
stated_none x e = refl

one_stated : (a b : Tree) → None ≡ before_of a → fourth (t.Pair a b) ≡ as_statement (fourth (t.Pair a b))
one_stated (t.Called the_attributes y) b e = absurd (some_none y (sym e))
one_stated a b e = refl

pub stated_one : (x a b : Tree) → Some (a, b) ≡ pair_behind x 4 → None ≡ before_of a → x ≡ as_statement x
stated_one x a b e h = let is = behind_is x a b e in is ∙ one_stated a b h ∙ ap as_statement (sym is)

two_is : (x a b y : Tree) → Some (a, b) ≡ pair_behind x 4 → Some y ≡ before_of a
    → x ≡ fourth (t.Pair (t.Called the_attributes y) b)
two_is x a b y e h = behind_is x a b e ∙ ap (λ z. fourth (t.Pair z b)) (before_is a y h)

two_stated : (y b : Tree) → None ≡ pair_of b
    → fourth (t.Pair (t.Called the_attributes y) b) ≡ as_statement (fourth (t.Pair (t.Called the_attributes y) b))
two_stated y (t.Pair c d) e = absurd (some_none (c, d) (sym e))
two_stated y b e = refl

pub stated_two : (x a b y : Tree) → Some (a, b) ≡ pair_behind x 4 → Some y ≡ before_of a → None ≡ pair_of b
    → x ≡ as_statement x
stated_two x a b y e h i = let is = two_is x a b y e h in is ∙ two_stated y b i ∙ ap as_statement (sym is)

three_is : (x a b c s y : Tree) → Some (a, b) ≡ pair_behind x 4 → Some y ≡ before_of a → Some (c, s) ≡ pair_of b
    → x ≡ fourth (t.Pair (t.Called the_attributes y) (t.Pair c s))
three_is x a b c s y e h i =
    two_is x a b y e h ∙ ap (λ z. fourth (t.Pair (t.Called the_attributes y) z)) (pair_is b c s i)

three_stated : (y c s : Tree) → None ≡ expression_of c
    → fourth (t.Pair (t.Called the_attributes y) (t.Pair c s))
    ≡ as_statement (fourth (t.Pair (t.Called the_attributes y) (t.Pair c s)))
three_stated y (t.Called the_expression z) s e = absurd (some_none z (sym e))
three_stated y c s e = refl

pub stated_three : (x a b c s y : Tree) → Some (a, b) ≡ pair_behind x 4 → Some y ≡ before_of a
    → Some (c, s) ≡ pair_of b → None ≡ expression_of c → x ≡ as_statement x
stated_three x a b c s y e h i j =
    let is = three_is x a b c s y e h i in is ∙ three_stated y c s j ∙ ap as_statement (sym is)

pub stated_four : (x a b c s y z : Tree) → Some (a, b) ≡ pair_behind x 4 → Some y ≡ before_of a
    → Some (c, s) ≡ pair_of b → Some z ≡ expression_of c → expression_statement y z s ≡ as_statement x
stated_four x a b c s y z e h i j =
    ap (λ w. as_statement (fourth (t.Pair (t.Called the_attributes y) (t.Pair w s)))) (sym (expression_is c z j))
    ∙ ap as_statement (sym (three_is x a b c s y e h i))

pub ruleset stateds = (stated_none, stated_one, stated_two, stated_three, stated_four)
