-- Traits and aliases of traits: an alias that is no tree is none of both.
use Rattle.std.proofs.Common.{subst}
use Rattle.std.specs.Prelude.{◌≡◌}
use Rattle.syn_grammar.specs.Tree.{Tree}
use Rattle.syn_item.specs.ItemTraits.{item_trait_alias, trait_form_tree}
use Rattle.syn_item.specs.declared.traits.ItemTraitAlias.{ItemTraitAlias}
use Rattle.syn_item.specs.declared.traits.TraitForm.{TraitForm}
use Rattle.syn_item.specs.declared.traits.TraitForm.TheVariants as trait_forms
use Rattle.syn_made.specs.MadeWhole.{IsAliasHead, IsTraitHead}

pub no_alias : (f : TraitForm) (i : ItemTraitAlias) → f ≡ trait_forms.Alias i
    → ((x : Tree) → IsAliasHead i.unsafety i.auto_token × (x ≡ item_trait_alias i) → ⊥)
    → (x : Tree) → IsTraitHead f × (x ≡ trait_form_tree f) → ⊥
no_alias f i e d x h = d x (subst (λ g. IsTraitHead g × (x ≡ trait_form_tree g)) e h)
