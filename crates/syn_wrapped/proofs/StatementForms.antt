-- Whether an item is a macro, by its form; and what a statement is once it is a tree.
use Rattle.reader_table.specs.Kinds.{kind_of}
use Rattle.reader_table.specs.declared.kind.Kind as g
use Rattle.reader_table.specs.declared.kind.Kind.TheVariants as kinds
use Rattle.reader_table.specs.declared.kind.Place.{Place}
use Rattle.reader_tree.specs.Shapes.{node_of}
use Rattle.reader_tree.specs.Forms.{seconds}
use Rattle.std.proofs.Common.{ap, ◌∙◌, inl, inr, subst, sym}
use Rattle.std.specs.Prelude.{◌≡◌, ◌⊎◌, Bool, cond, Option, None, Some, false, refl, true}
use Rattle.syn_part.specs.declared.leaf.Mark.{Mark}
use Rattle.syn_expr.specs.Statements.{IsAlternative, IsStmt, called_macro, expression_tree, stmt_macro}
use Rattle.syn_expr.specs.declared.stmt.Stmt.{Stmt}
use Rattle.syn_expr.specs.declared.stmt.Stmt.TheVariants as stmts
use Rattle.syn_expr.specs.declared.stmt.StmtMacro.{StmtMacro}
use Rattle.syn_grammar.specs.Kind as k
use Rattle.syn_grammar.specs.Kind.{Kind}
use Rattle.syn_grammar.specs.Name as n
use Rattle.syn_grammar.specs.Part.{choice, found, has, or_nil, the}
use Rattle.syn_grammar.specs.Tree as t
use Rattle.syn_grammar.specs.Tree.{Tree}
use Rattle.syn_wrapped.specs.Statements.{IsToldAs, as_expression, chosen_stmt, is_call, is_macro_form, is_macro_item}

same_pair : {A B : Type 0} (a c : A) (b d : B) → ◌≡◌ {A = Option (A × B)} (Some (a, b)) (Some (c, d))
    → (a ≡ c) × (b ≡ d)
same_pair {A = A} {B = B} a c b d e =
    let p : A × B = (a, b) in
    let r : A × B = (c, d) in
    let q : p ≡ r = cc in
    (ap (λ (v : A × B). v.0) q, ap (λ (v : A × B). v.1) q)

-- which node it is
node_is : (x : Tree) (i : Kind) (y : Tree) → Some (i, y) ≡ node_of x → x ≡ t.Node i y
node_is (t.Node j z) i y e = let s = same_pair i j y z e in cc (s.0, s.1)
node_is x i y e = cc

-- a node of another kind is none
other_form : (i : g.Kind) (x : Tree) → ((p : Place) → i ≡ kinds.ItemMacro p → ⊥)
    → false ≡ is_macro_form (t.Node (kind_of i) x)
other_form (kinds.ItemMacro p) x h = absurd (h p refl)
other_form i x h = refl

other_form_at : (y : Tree) (i : g.Kind) (x : Tree) → Some (kind_of i, x) ≡ node_of y
    → ((p : Place) → i ≡ kinds.ItemMacro p → ⊥) → false ≡ is_macro_form y
other_form_at y i x e h = other_form i x h ∙ ap is_macro_form (sym (node_is y (kind_of i) x e))

-- a macro's node has the form of one if it has a name
pub macro_form_at : (y : Tree) (p : k.Place) (x : Tree) → Some (k.ItemMacro p, x) ≡ node_of y
    → has n.the_name x ≡ is_macro_form y
macro_form_at y p x e = ap is_macro_form (sym (node_is y (k.ItemMacro p) x e))

-- what is no node is no item, nor is a node without the form of one
pub no_node : (x : Tree) → None ≡ node_of x → false ≡ is_macro_item x
no_node (t.Node i y) e = cc
no_node x e = refl

in_node : (x : Tree) (i : Kind) (y : Tree) → Some (i, y) ≡ node_of x
    → is_macro_form (choice (the n.the_item y)) ≡ is_macro_item x
in_node x i y e = ap is_macro_item (sym (node_is x i y e))

pub no_form : (x : Tree) (i : Kind) (y : Tree) → Some (i, y) ≡ node_of x → None ≡ found n.the_item y
    → false ≡ is_macro_item x
no_form x i y e d = ap (λ o. is_macro_form (choice (or_nil o))) d ∙ in_node x i y e

-- the form of an item says whether that is a macro
pub some_form : (x : Tree) (i : Kind) (y z w : Tree) → Some (i, y) ≡ node_of x → Some z ≡ found n.the_item y
    → w ≡ choice z → is_macro_form w ≡ is_macro_item x
some_form x i y z w e d c =
    (ap is_macro_form c ∙ ap (λ o. is_macro_form (choice (or_nil o))) d) ∙ in_node x i y e

pub ruleset macro_items = (no_node, no_form, some_form)

-- of two alternatives it is one
one_of_two : (b : Bool) (x y z : Tree) → x ≡ cond b y z → (x ≡ y) ⊎ (x ≡ z)
one_of_two true x y z e = inl e
one_of_two false x y z e = inr e

-- a macro that is read as an expression is called in it
called : (m : Tree) (s : Option Mark) → is_call m s ≡ true → called_macro (as_expression m) s ≡ Some m
called m None e = cc
called m (Some s) e = refl

macro_chosen : (b : Bool) (x : Tree) (y : StmtMacro) → is_call y.mac.now y.semi_token ≡ b
    → x ≡ cond b (seconds 4 (expression_tree y.attrs.now (as_expression y.mac.now) y.semi_token)) (t.Second (t.First
    (stmt_macro y))) → IsAlternative x (stmts.Macro y)
macro_chosen true x y d e = inr (as_expression y.mac.now, e, called y.mac.now y.semi_token d)
macro_chosen false x y d e = inl e

-- the alternative that a statement is put in is that of what it is told as
chosen : (x : Tree) (s r : Stmt) → x ≡ chosen_stmt s → IsToldAs s r → IsAlternative x r
chosen x (stmts.Item y) r e h =
    subst (λ z. IsAlternative x z) (sym h) (one_of_two (is_macro_item y.now) x (t.First y.now) (seconds 3 (t.First
    y.now)) e)
chosen x (stmts.Macro y) r e h =
    subst (λ z. IsAlternative x z) (sym h) (macro_chosen (is_call y.mac.now y.semi_token) x y refl e)
chosen x (stmts.Local y) r e h = subst (λ z. IsAlternative x z) (sym h) e
chosen x (stmts.Expr y) (stmts.Macro z) e h = inr (y.expr.now, cc, cc)
chosen x (stmts.Expr y) r e h = subst (λ z. IsAlternative x z) (sym h.1) (e, h.0)

pub told : (x : Tree) (s r : Stmt) → x ≡ t.Node k.AStatement (chosen_stmt s) → IsToldAs s r → IsStmt x r
told x s r e h = subst (λ z. IsStmt z r) (sym e) (chosen (chosen_stmt s) s r refl h)
