-- What is not seen of a node of another kind, and of another form by itself, kind by kind.
use Rattle.std.specs.Prelude.{◌≡◌, Bool, false, Some, refl}
use Rattle.std.proofs.Common.{ap, ◌∙◌, sym, subst}
use Rattle.syn_grammar.specs.Forms.{form_of, is_path_form}
use Rattle.syn_grammar.specs.Kind.{Kind}
use Rattle.syn_grammar.specs.Statements.{needs_semicolon}
use Rattle.syn_grammar.specs.Tree.{Tree, Second, Node, Alone}
use Rattle.syn_grammar.specs.Verdicts.{is_path, is_path_type, root_inside}
use Rattle.reader_table.specs.Kinds.{kind_of}
use Rattle.reader_table.specs.declared.kind.Kind as g
use Rattle.reader_table.specs.declared.kind.Kind.TheVariants as kinds
use Rattle.reader_table.specs.declared.kind.Plus.{Plus}
use Rattle.reader_table.specs.declared.kind.Position.{Position}
use Rattle.reader_table.specs.declared.kind.Style.{Style}
use Rattle.reader_tree.specs.Shapes.{alone_of, is_second, node_of}
use Rattle.reader_verdicts.proofs.Shapes.{alone_is, node_is}

-- what is seen of a node, or of a form by itself, is seen of the tree that it is
pub in_node : (f : Tree → Bool) (b : Bool) (x : Tree) (k : Kind) (y : Tree) → Some (k, y) ≡ node_of x
    → b ≡ f (Node k y) → b ≡ f x
in_node f b x k y e h = h ∙ ap f (sym (node_is x k y e))

pub in_alone : (f : Tree → Bool) (b : Bool) (x : Tree) (k : Kind) (y : Tree) → Some (k, y) ≡ alone_of x
    → b ≡ f (Alone k y) → b ≡ f x
in_alone f b x k y e h = h ∙ ap f (sym (alone_is x k y e))

pub is_path_type_off : (k : g.Kind) (x : Tree) → ((s : Plus) → k ≡ kinds.AType s → ⊥)
    → false ≡ is_path_type (Node (kind_of k) x)
is_path_type_off (kinds.AType s) x h = absurd (h s refl)
is_path_type_off k x h = refl

pub is_path_off : (k : g.Kind) (x : Tree) → ((s : Style) → k ≡ kinds.AnyPath s → ⊥)
    → false ≡ is_path (Node (kind_of k) x)
is_path_off (kinds.AnyPath s) x h = absurd (h s refl)
is_path_off k x h = refl

pub is_path_second : (s : Style) (x : Tree) → is_second x ≡ is_path (Node (kind_of (kinds.AnyPath s)) x)
is_path_second s (Second x) = refl
is_path_second s x = refl

pub needs_semicolon_off : (k : g.Kind) (x : Tree) → (k ≡ kinds.AStatement → ⊥)
    → false ≡ needs_semicolon (Node (kind_of k) x)
needs_semicolon_off kinds.AStatement x h = absurd (h refl)
needs_semicolon_off k x h = refl

pub root_inside_off : (k : g.Kind) (x : Tree) → (k ≡ kinds.UseTop → ⊥) → false ≡ root_inside (Node (kind_of k) x)
root_inside_off kinds.UseTop x h = absurd (h refl)
root_inside_off k x h = refl

pub is_path_form_off : (k : g.Kind) (x : Tree) → (k ≡ kinds.ExprPath → ⊥) → false ≡ is_path_form (Alone (kind_of k) x)
is_path_form_off kinds.ExprPath x h = absurd (h refl)
is_path_form_off k x h = refl

-- the form of what is no expression is itself
form_off : (k : g.Kind) (x : Tree) → ((s : Position) → k ≡ kinds.Expression s → ⊥)
    → Node (kind_of k) x ≡ form_of (Node (kind_of k) x)
form_off (kinds.Expression s) x h = absurd (h s refl)
form_off k x h = refl

pub form_in : (t : Tree) (k : g.Kind) (x : Tree) → Some (kind_of k, x) ≡ node_of t
    → ((s : Position) → k ≡ kinds.Expression s → ⊥) → t ≡ form_of t
form_in t k x e h = subst (λ z. z ≡ form_of z) (sym (node_is t (kind_of k) x e)) (form_off k x h)
