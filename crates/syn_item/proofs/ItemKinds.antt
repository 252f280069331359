-- That a tree which is none of the forms of an item is no item.
use Rattle.std.specs.Prelude.{◌≡◌}
use Rattle.std.proofs.Common.{subst, sym, ⊎_elim}
use Rattle.syn_grammar.specs.Kind as k
use Rattle.syn_grammar.specs.Gram as g
use Rattle.syn_grammar.specs.Gram.{Gram}
use Rattle.syn_grammar.specs.Tree.{Tree, Node}
use Rattle.syn_grammar.specs.Part.{choice}
use Rattle.syn_grammar.specs.Lists.{item_form}
use Rattle.syn_part.specs.Shape.{IsShaped, IsAmong}
use Rattle.syn_part.proofs.Chosen.{choice_is}
use Rattle.syn_part.proofs.Absent.{shaped_never}
use Rattle.syn_item.specs.ItemForms.{HasNoBody, IsNoOther, MayBeKept}

-- a form of these kinds is not kept
no_const_trait : (x : Tree) → MayBeKept x → IsShaped x (g.ref k.AConstTrait) → ⊥
no_const_trait (Node i y) m h = subst (λ j. MayBeKept (Node j y)) h.0 m
no_const_trait _ m h = absurd h

no_restricted_trait : (x : Tree) → MayBeKept x → IsShaped x (g.ref k.ARestrictedTrait) → ⊥
no_restricted_trait (Node i y) m h = subst (λ j. MayBeKept (Node j y)) h.0 m
no_restricted_trait _ m h = absurd h

no_macro_definition : (x : Tree) → MayBeKept x → IsShaped x (g.ref k.AMacroDefinition) → ⊥
no_macro_definition (Node i y) m h = subst (λ j. MayBeKept (Node j y)) h.0 m
no_macro_definition _ m h = absurd h

-- none of the forms that the grammar tests in turn
pub no_item : (x : Tree) → HasNoBody x → IsNoOther x → MayBeKept x → IsAmong x item_form → ⊥
no_item x (no_const, no_enum, no_extern_crate, no_fn, no_foreign_mod, no_impl, no_macro, no_mod)
    (no_static, no_struct, no_trait, no_type, no_union, no_use) m =
    ⊎_elim (no_fn k.InFile) (⊎_elim no_extern_crate (⊎_elim no_foreign_mod (⊎_elim no_use (⊎_elim no_static
    (⊎_elim (no_const_trait x m) (⊎_elim no_impl (⊎_elim no_const (⊎_elim no_foreign_mod (⊎_elim no_mod (⊎_elim no_impl
    (⊎_elim no_trait (⊎_elim no_mod (⊎_elim (no_type k.InFile) (⊎_elim no_struct (⊎_elim no_enum (⊎_elim no_union
    (⊎_elim (no_restricted_trait x m) (⊎_elim no_trait (⊎_elim no_impl (⊎_elim (no_macro_definition x m)
    (⊎_elim (no_macro k.InFile) (shaped_never x))))))))))))))))))))))

-- what chose none of them
pub no_kept : (x y : Tree) (a : Gram) → y ≡ choice x → (IsAmong y a → ⊥) → IsShaped x a → ⊥
no_kept x y a e f h = f (subst (λ z. IsAmong z a) (sym e) (choice_is x a h))
