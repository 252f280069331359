-- Types of their forms have that form, and the shape of their entry where the form has it.
use Rattle.reader_tree.specs.Forms.{seconds}
use Rattle.std.specs.Prelude.{◌≡◌, refl}
use Rattle.std.proofs.Common.{◌∙◌, ap, subst, sym}
use Rattle.syn_part.specs.Shape.{IsShaped}
use Rattle.syn_ast.specs.Types.{form_of_type, type_tree}
use Rattle.syn_ast.specs.declared.types.TypePath.{TypePath}
use Rattle.syn_ast.specs.declared.types.«Type».{«Type» as Type'}
use Rattle.syn_ast.specs.declared.types.«Type».TheVariants as types
use Rattle.syn_grammar.specs.Gram as g
use Rattle.syn_grammar.specs.Kind as k
use Rattle.syn_grammar.specs.Table.{table}
use Rattle.syn_grammar.specs.Tree as t
use Rattle.syn_grammar.specs.Tree.{Tree}
use Rattle.syn_grammar.specs.Types.{type_entry}
use Rattle.syn_wrapped.specs.Types.{before_type, type_inside, type_kind}

pub type_form : (p : k.Plus) (x : Type') → form_of_type (t.Node (k.AType p) (type_inside x)) ≡ type_tree x
type_form p (types.Array x) = refl
type_form p (types.FnPtr x) = refl
type_form p (types.ImplTrait x) = refl
type_form p (types.Infer x) = refl
type_form p (types.Never x) = refl
type_form p (types.Paren x) = refl
type_form p (types.Path x) = refl
type_form p (types.Ptr x) = refl
type_form p (types.Reference x) = refl
type_form p (types.Slice x) = refl
type_form p (types.TraitObject x) = refl
type_form p (types.Tuple x) = refl

-- what is no path stands behind so many alternatives
pub inside_before : (x : Type') → ((y : TypePath) → x ≡ types.Path y → ⊥)
    → seconds (before_type x) (t.First (type_tree x)) ≡ type_inside x
inside_before (types.Path y) d = absurd (d y refl)
inside_before x d = refl

inside_shaped : (p : k.Plus) (x : Type') → IsShaped (type_tree x) (g.ref (type_kind p x))
    → IsShaped (type_inside x) (type_entry p)
inside_shaped p (types.Array x) h = h
inside_shaped p (types.FnPtr x) h = h
inside_shaped p (types.ImplTrait x) h = h
inside_shaped p (types.Infer x) h = h
inside_shaped p (types.Never x) h = h
inside_shaped p (types.Paren x) h = h
inside_shaped p (types.Path x) h = h
inside_shaped p (types.Ptr x) h = h
inside_shaped p (types.Reference x) h = h
inside_shaped p (types.Slice x) h = h
inside_shaped p (types.TraitObject x) h = h
inside_shaped p (types.Tuple x) h = h

pub type_shaped : (p : k.Plus) (x : Type') → IsShaped (type_tree x) (g.ref (type_kind p x))
    → IsShaped (t.Node (k.AType p) (type_inside x)) (g.ref (k.AType p))
unfolding table
type_shaped p x h = (refl, inside_shaped p x h)

-- a tree that is this one has its form and its shape
pub type_form_at : (p : k.Plus) (f : Type') (x y : Tree) → x ≡ t.Node (k.AType p) y → y ≡ type_inside f
    → form_of_type x ≡ type_tree f
type_form_at p f x y e d =
    subst (λ z. form_of_type z ≡ type_tree f) (sym (e ∙ ap (t.Node (k.AType p)) d)) (type_form p f)

pub type_shaped_at : (p : k.Plus) (f : Type') (x y : Tree) → x ≡ t.Node (k.AType p) y → y ≡ type_inside f
    → IsShaped (type_tree f) (g.ref (type_kind p f)) → IsShaped x (g.ref (k.AType p))
type_shaped_at p f x y e d h =
    subst (λ z. IsShaped z (g.ref (k.AType p))) (sym (e ∙ ap (t.Node (k.AType p)) d)) (type_shaped p f h)

pub ruleset types_whole = (type_form_at, type_shaped_at)
