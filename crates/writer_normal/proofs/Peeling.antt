-- What is taken out of a tree, by its form.
use Rattle.std.specs.Prelude.{◌≡◌, ◌≢◌, ℕ, zero, suc, ◌-◌, List, [], ◌∷◌, Option, Some, None, refl}
use Rattle.std.proofs.Common.{ap, ◌∙◌, sym, arith}
use Rattle.rust_leaf.specs.declared.punct.Spacing.{Spacing}
use Rattle.syn_grammar.specs.Kind.{Kind, Position, Expression, OuterAttributes, ExprMacro}
use Rattle.syn_grammar.specs.Forms.{form_of}
use Rattle.syn_grammar.specs.Tree as t
use Rattle.syn_grammar.specs.Tree.{Tree}
use Rattle.reader_table.specs.Kinds.{kind_of}
use Rattle.reader_table.specs.declared.kind.Kind as g
use Rattle.reader_table.specs.declared.kind.Kind.TheVariants as kinds
use Rattle.reader_table.specs.declared.kind.Position as gp
use Rattle.reader_tree.specs.declared.tree.Element.{Element}
use Rattle.reader_tree.specs.Forms.{mark_of, seconds, turns, elements, ending}
use Rattle.reader_tree.specs.Shapes.{alone_of, node_of, whole_of}
use Rattle.writer_rules.specs.Operands.{first_behind}
use Rattle.writer_rules.specs.Seen.{unnamed_of}
use Rattle.writer_rules.proofs.SeenForms.{node_is, same_pair, some_none}
use Rattle.writer_normal.specs.Peeled.{again_of, attributes_of, lone_type, macro_in, second_of, unnamed_in}

-- the second of a choice
pub second_first : (n : ℕ) (x : Tree) → n ≡ 0 → None ≡ second_of (seconds n (t.First x))
second_first n x e = ap (λ m. second_of (seconds m (t.First x))) (sym e)

pub second_behind : (n : ℕ) (x : Tree) → n ≢ 0 → Some (seconds (n - 1) (t.First x)) ≡ second_of (seconds n (t.First x))
second_behind zero x h = absurd (h refl)
second_behind (suc n) x h = let e : suc n - 1 ≡ n = omega arith in ap (λ m. Some (seconds m (t.First x))) e

pub second_here : (n : ℕ) (x : Tree) → n ≡ 0 → Some x ≡ second_of (t.Second (seconds n x))
second_here n x e = ap (λ m. second_of (t.Second (seconds m x))) (sym e)

pub second_next : (n : ℕ) (x : Tree) → n ≢ 0
    → Some (t.Second (seconds (n - 1) x)) ≡ second_of (t.Second (seconds n x))
second_next zero x h = absurd (h refl)
second_next (suc n) x h = let e : suc n - 1 ≡ n = omega arith in ap (λ m. Some (t.Second (seconds m x))) e

pub second_mark : (cs : List ℕ) (spacing : Spacing) → second_of (mark_of cs spacing) ≡ None
second_mark [] spacing = refl
second_mark (c ∷ cs) spacing = refl

pub second_turns : (xs : List Tree) → second_of (turns xs) ≡ None
second_turns [] = refl
second_turns (x ∷ xs) = refl

pub second_elements : {A : Type 0} (c : ℕ) (es : List Element) (f : A → Tree) (o : Option A)
    → second_of (elements c es (ending f o)) ≡ None
second_elements c [] f None = refl
second_elements c [] f (Some y) = refl
second_elements c (e ∷ es) f o = refl

pub ruleset second_parts =
    (second_first, second_behind, second_here, second_next, second_mark, second_turns, second_elements)

pub second_is : (x y : Tree) → Some y ≡ second_of x → x ≡ t.Second y
second_is (t.Second z) y e = cc
second_is x y e = absurd (some_none y e)

-- the type of a parameter that is a type alone
pub lone_part : (o : Option Tree) (x y : Tree) → Some y ≡ first_behind x 2 → o ≡ unnamed_of y → o ≡ lone_type x
lone_part o x y e h = h ∙ ap unnamed_in e

pub lone_none : (x : Tree) → None ≡ first_behind x 2 → None ≡ lone_type x
lone_none x e = ap unnamed_in e

pub ruleset lones = (lone_part, lone_none)

-- the form of an expression
pub whole_is : (x y : Tree) → Some y ≡ whole_of x → x ≡ t.Whole y
whole_is (t.Whole z) y e = cc
whole_is x y e = absurd (some_none y e)

pub form_none : (x : Tree) → None ≡ node_of x → x ≡ form_of x
form_none (t.Node k y) e = absurd (some_none (k, y) (sym e))
form_none x e = refl

unformed : (p : Position) (y : Tree) → None ≡ whole_of y → t.Node (Expression p) y ≡ form_of (t.Node (Expression p) y)
unformed p (t.Whole z) e = absurd (some_none z (sym e))
unformed p y e = refl

pub form_bare : (x y : Tree) (p : Position) → Some (Expression p, y) ≡ node_of x → None ≡ whole_of y → x ≡ form_of x
form_bare x y p e h = let is = node_is x (Expression p) y e in is ∙ unformed p y h ∙ ap form_of (sym is)

pub form_whole : (x y z : Tree) (p : Position) → Some (Expression p, y) ≡ node_of x → Some z ≡ whole_of y
    → z ≡ form_of x
form_whole x y z p e h =
    ap (λ w. form_of (t.Node (Expression p) w)) (sym (whole_is y z h)) ∙ ap form_of (sym (node_is x (Expression p) y e))

pub ruleset forms = (form_none, form_bare, form_whole)

form_off : (k : g.Kind) (y : Tree) → ((p : gp.Position) → k ≡ kinds.Expression p → ⊥)
    → t.Node (kind_of k) y ≡ form_of (t.Node (kind_of k) y)
form_off (kinds.Expression p) y h = absurd (h p refl)
form_off k y h = refl

pub form_other : (x : Tree) (k : g.Kind) (y : Tree) → Some (kind_of k, y) ≡ node_of x
    → ((p : gp.Position) → k ≡ kinds.Expression p → ⊥) → x ≡ form_of x
form_other x k y e h =
    let is : x ≡ t.Node (kind_of k) y = node_is x (kind_of k) y e in is ∙ form_off k y h ∙ ap form_of (sym is)

-- a macro
pub alone_is : (x : Tree) (k : Kind) (y : Tree) → Some (k, y) ≡ alone_of x → x ≡ t.Alone k y
alone_is (t.Alone j z) k y e = let s = same_pair k j y z e in cc (s.0, s.1)
alone_is x k y e = absurd (some_none (k, y) e)

pub macro_here : (x y : Tree) → Some (ExprMacro, y) ≡ alone_of x → Some y ≡ macro_in x
macro_here x y e = ap macro_in (sym (alone_is x ExprMacro y e))

pub macro_none : (x : Tree) → None ≡ alone_of x → None ≡ macro_in x
macro_none (t.Alone k y) e = absurd (some_none (k, y) (sym e))
macro_none x e = refl

pub ruleset macros = (macro_here, macro_none)

macro_off : (k : g.Kind) (y : Tree) → (k ≡ kinds.ExprMacro → ⊥) → None ≡ macro_in (t.Alone (kind_of k) y)
macro_off kinds.ExprMacro y h = absurd (h refl)
macro_off k y h = refl

pub macro_other : (x : Tree) (k : g.Kind) (y : Tree) → Some (kind_of k, y) ≡ alone_of x
    → (k ≡ kinds.ExprMacro → ⊥) → None ≡ macro_in x
macro_other x k y e h = macro_off k y h ∙ ap macro_in (sym (alone_is x (kind_of k) y e))

-- turns
pub again_some : (x : Tree) (xs ys : List Tree) → xs ≡ x ∷ ys → Some (x, turns ys) ≡ again_of (turns xs)
again_some x xs ys e = ap (λ zs. again_of (turns zs)) (sym e)

pub again_none : (xs : List Tree) → xs ≡ [] → None ≡ again_of (turns xs)
again_none xs e = ap (λ zs. again_of (turns zs)) (sym e)

pub again_first : (n : ℕ) (x : Tree) → again_of (seconds n (t.First x)) ≡ None
again_first zero x = refl
again_first (suc n) x = refl

pub again_mark : (cs : List ℕ) (spacing : Spacing) → again_of (mark_of cs spacing) ≡ None
again_mark [] spacing = refl
again_mark (c ∷ cs) spacing = refl

pub again_elements : {A : Type 0} (c : ℕ) (es : List Element) (f : A → Tree) (o : Option A)
    → again_of (elements c es (ending f o)) ≡ None
again_elements c [] f None = refl
again_elements c [] f (Some y) = refl
again_elements c (e ∷ es) f o = refl

pub ruleset agains = (again_some, again_none, again_first, again_mark, again_elements)

-- attributes
turned : (y : Tree) → again_of y ≡ attributes_of (t.Node OuterAttributes y)
turned (t.Again a b) = refl
turned y = refl

pub attributes_here : (x y : Tree) → Some (OuterAttributes, y) ≡ node_of x → again_of y ≡ attributes_of x
attributes_here x y e = turned y ∙ ap attributes_of (sym (node_is x OuterAttributes y e))

pub attributes_none : (x : Tree) → None ≡ node_of x → None ≡ attributes_of x
attributes_none (t.Node k y) e = absurd (some_none (k, y) (sym e))
attributes_none x e = refl

pub ruleset attributes = (attributes_here, attributes_none)

attributes_off : (k : g.Kind) (y : Tree) → (k ≡ kinds.OuterAttributes → ⊥) → None ≡ attributes_of (t.Node (kind_of k) y)
attributes_off kinds.OuterAttributes y h = absurd (h refl)
attributes_off k y h = refl

pub attributes_other : (x : Tree) (k : g.Kind) (y : Tree) → Some (kind_of k, y) ≡ node_of x
    → (k ≡ kinds.OuterAttributes → ⊥) → None ≡ attributes_of x
attributes_other x k y e h = attributes_off k y h ∙ ap attributes_of (sym (node_is x (kind_of k) y e))
