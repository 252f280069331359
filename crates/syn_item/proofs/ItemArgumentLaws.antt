-- The first and the last element of a list, and their shape; and when a function has no receiver, and no dots.
use Rattle.std.specs.Prelude.{◌≡◌, ℕ, Bool, List, [], ◌∷◌, ◌++◌, None, Option, Some, refl}
use Rattle.std.proofs.Common.{◌∙◌, ap, subst, sym}
use Rattle.reader_tree.specs.declared.tree.Element.{Element}
use Rattle.reader_tree.specs.Forms.{elements, ending}
use Rattle.proc_macro2.specs.Token.{Token}
use Rattle.proc_macro2.specs.declared.delimiter.Delimiter.{Delimiter}
use Rattle.std.specs.Option.{option_and_then}
use Rattle.syn_part.specs.Leaves.{node_tree}
use Rattle.syn_part.specs.Shape.{IsShaped}
use Rattle.syn_grammar.specs.Gram as g
use Rattle.syn_grammar.specs.Gram.{Gram}
use Rattle.syn_grammar.specs.Kind as k
use Rattle.syn_grammar.specs.Part.{or_else}
use Rattle.syn_grammar.specs.Table.{table}
use Rattle.syn_grammar.specs.Tree as t
use Rattle.syn_grammar.specs.Tree.{Tree}
use Rattle.syn_item.specs.ItemArguments.{first_element, first_receiver, last_element, last_variadic, receiver_in}
use Rattle.syn_item.specs.ItemArguments.{variadic_in}
use denote.Bor.{Bor}

-- an element that no mark follows is the last
final_last : (c : ℕ) (es : List Element) (x : Tree) → last_element (elements c es (t.Final x)) ≡ Some x
final_last c [] x = refl
final_last c (e ∷ es) x = ap (λ o. or_else o (Some e.tree)) (final_last c es x)

marked_last : (c : ℕ) (es : List Element) (e : Element)
    → last_element (elements c (es ++ (e ∷ [])) t.End) ≡ Some e.tree
marked_last c [] e = refl
marked_last c (d ∷ es) e = ap (λ o. or_else o (Some d.tree)) (marked_last c es e)

pub last_final : (c : ℕ) (es : List Element) (o : Option (Bor Tree)) (x : Bor Tree) → o ≡ Some x
    → last_element (elements c es (ending node_tree o)) ≡ Some x.now
last_final c es o x e = subst (λ p. last_element (elements c es (ending node_tree p)) ≡ Some x.now) (sym e)
    (final_last c es x.now)

-- else it is the last of those that a mark follows
pub last_marked : (c : ℕ) (es : List Element) (o : Option (Bor Tree)) (e : Element) (ds : List Element) → o ≡ None
    → es ≡ ds ++ (e ∷ []) → last_element (elements c es (ending node_tree o)) ≡ Some e.tree
last_marked c es o e ds q h =
    subst (λ p. last_element (elements c es (ending node_tree p)) ≡ Some e.tree) (sym q)
    (subst (λ xs. last_element (elements c xs t.End) ≡ Some e.tree) (sym h) (marked_last c ds e))

same_shape : (x y : Tree) (a : Gram) → Some x ≡ Some y → IsShaped x a → IsShaped y a
same_shape x y a e h = let d : x ≡ y = cc in subst (λ z. IsShaped z a) d h

-- the first element of a list has the shape of an element
pub first_shaped : (l x : Tree) (e : List Token → Bool) (c : ℕ) (a : Gram) → first_element l ≡ Some x
    → IsShaped l (g.many e c a) → IsShaped x a
first_shaped (t.More y d spacing z) x e c a q h = same_shape y x a q h.1
first_shaped (t.Final y) x e c a q h = same_shape y x a q h
first_shaped _ x e c a q h = cc

last_or : (o : Option Tree) (a : Gram) → ((x : Tree) → o ≡ Some x → IsShaped x a)
    → (y : Tree) → IsShaped y a → (x : Tree) → or_else o (Some y) ≡ Some x → IsShaped x a
last_or None a f y h x q = same_shape y x a q h
last_or (Some z) a f y h x q = f x q

-- and so has the last
pub last_shaped : (l x : Tree) (e : List Token → Bool) (c : ℕ) (a : Gram) → last_element l ≡ Some x
    → IsShaped l (g.many e c a) → IsShaped x a
last_shaped (t.More y d spacing z) x e c a q h =
    last_or (last_element z) a (λ w p. last_shaped z w e c a p h.2) y h.1 x q
last_shaped (t.Final y) x e c a q h = same_shape y x a q h
last_shaped _ x e c a q h = cc

-- of what has the shape of parameters, those in the parentheses
shaped_inputs : (x y : Tree) (d : Delimiter) → x ≡ t.Node k.Parameters (t.First (t.Group d y))
    → IsShaped x (g.ref k.Parameters) → (e : List Token → Bool) × (c : ℕ) × IsShaped y (g.many e c (g.ref k.Parameter))
unfolding table
shaped_inputs x y d q h =
    let s : IsShaped (t.Node k.Parameters (t.First (t.Group d y))) (g.ref k.Parameters) =
    subst (λ z. IsShaped z (g.ref k.Parameters)) q h in
    (_, _, s.1.1)

-- a function has no receiver if its first parameter is none
pub no_receiver : (x y f : Tree) (d : Delimiter) → x ≡ t.Node k.Parameters (t.First (t.Group d y))
    → first_element y ≡ Some f → (IsShaped f (g.ref k.Parameter) → receiver_in f ≡ None)
    → IsShaped x (g.ref k.Parameters) → first_receiver x ≡ None
no_receiver x y f d q e p h =
    let s = shaped_inputs x y d q h in
    ap first_receiver q ∙ (ap (option_and_then receiver_in) e ∙ p (first_shaped y f s.0 s.1 (g.ref k.Parameter) e s.2))

-- and no dots if its last parameter is none
pub no_variadic : (x y f : Tree) (d : Delimiter) → x ≡ t.Node k.Parameters (t.First (t.Group d y))
    → last_element y ≡ Some f → (IsShaped f (g.ref k.Parameter) → variadic_in f ≡ None)
    → IsShaped x (g.ref k.Parameters) → last_variadic x ≡ None
no_variadic x y f d q e p h =
    let s = shaped_inputs x y d q h in
    ap last_variadic q ∙ (ap (option_and_then variadic_in) e ∙ p (last_shaped y f s.0 s.1 (g.ref k.Parameter) e s.2))

pub ruleset lasts = (last_final, last_marked)
