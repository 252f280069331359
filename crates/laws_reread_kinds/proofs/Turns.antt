-- The steps and the laws of lists of items, which go to the end.
use Rattle.std.proofs.Common.{List, [], ◌++◌, refl, sym, ap, subst, inl, inr}
use Rattle.std.specs.Prelude.{false, not}
use Rattle.syn_grammar.specs.Kind.{Kind, AForeignItem, ATraitItem, AnImplItem, AnItem}
use Rattle.syn_grammar.specs.Kind.{ForeignItems, ImplItems, Items, TraitItems}
use Rattle.syn_grammar.specs.Tree.{Tree, End, Again, Node, flat}
use Rattle.syn_grammar.specs.Gram.{Gram, ref, star}
use Rattle.syn_grammar.specs.Look.{lacks, the_end}
use Rattle.syn_grammar.specs.Ranks.{skips}
use Rattle.syn_grammar.specs.Table.{table}
use Rattle.syn_grammar.specs.Derives.{Derives}
use Rattle.syn_grammar.specs.Kept.{held}
use Rattle.syn_grammar.specs.Normal.{passed}
use Rattle.laws_reread_kinds.specs.Covered.{has_step}
use Rattle.laws_reread_kinds.proofs.Classes.{Class}
use Rattle.laws_reread_kinds.proofs.Begins.{Begins}
use Rattle.laws_reread_kinds.proofs.FieldValues.{end_is}
use Rattle.laws_reread_kinds.proofs.Fits.{Fits}
use Rattle.laws_reread_kinds.proofs.Readies.{Ready, Step}
use Rattle.laws_reread_kinds.proofs.Fine.{AtOrNone}
use Rattle.laws_reread_kinds.proofs.Parts.{Found, Told, at_front, found_ref, told_at}
use Rattle.laws_reread_kinds.proofs.Starts.{starts}
use Rattle.laws_reread_kinds.proofs.Printed.{KindLaw, TurnLaw, plain_law, unmoved_turn}

-- turns that have a step
turns_read : (g : Gram) (cs : List Class) → Found g [] cs → Told the_end false cs → (x : Tree)
    → Fits x (star (lacks the_end) g) → Ready x → Derives x (star (lacks the_end) g) [] × AtOrNone cs x []
turns_read g cs found some End f w = (refl, inl refl)
turns_read g cs found some (Again x y) f w =
    let d = (turns_read g cs found some y f.1 w.1).0 in
    let (u, i) = found.fine.by x (flat y ++ []) f.0 w.0 tt in
    let j = at_front cs x y [] i in
    ((ap not (told_at the_end false cs ((flat x ++ flat y) ++ []) some j), u, d), inr j)
turns_read g cs found some _ f w = absurd f

-- none of them is a statement
pub node_stays : (l : Kind) → TurnLaw (ref l)
node_stays l b (Node k x) f = unmoved_turn b (Node k x) (ref l) f refl
node_stays l b _ f = absurd f

-- items
pub step_items : Step Items
unfolding table skips
step_items x s f n w a =
    subst (λ us. Derives x (table Items) us × Begins Items x us) (sym (end_is s a.0))
    (turns_read (ref AnItem) (starts AnItem) (found_ref AnItem refl) ((λ us h. h.0), (search)) x f w)

pub step_trait_items : Step TraitItems
unfolding table skips
step_trait_items x s f n w a =
    subst (λ us. Derives x (table TraitItems) us × Begins TraitItems x us) (sym (end_is s a.0))
    (turns_read (ref ATraitItem) (starts ATraitItem) (found_ref ATraitItem refl) ((λ us h. h.0), (search)) x f w)

pub step_impl_items : Step ImplItems
unfolding table skips
step_impl_items x s f n w a =
    subst (λ us. Derives x (table ImplItems) us × Begins ImplItems x us) (sym (end_is s a.0))
    (turns_read (ref AnImplItem) (starts AnImplItem) (found_ref AnImplItem refl) ((λ us h. h.0), (search)) x f w)

pub step_foreign_items : Step ForeignItems
unfolding table skips
step_foreign_items x s f n w a =
    subst (λ us. Derives x (table ForeignItems) us × Begins ForeignItems x us) (sym (end_is s a.0))
    (turns_read (ref AForeignItem) (starts AForeignItem) (found_ref AForeignItem refl) ((λ us h. h.0), (search)) x f w)

pub law_items : KindLaw Items
unfolding has_step held passed table
law_items = plain_law Items refl (λ x. tt) (λ x. refl) (λ x. refl) (λ q. refl) (λ q l. (node_stays AnItem, tt))

pub law_foreign_items : KindLaw ForeignItems
unfolding has_step held passed table
law_foreign_items =
    plain_law ForeignItems refl (λ x. tt) (λ x. refl) (λ x. refl) (λ q. refl) (λ q l. (node_stays AForeignItem, tt))

pub law_trait_items : KindLaw TraitItems
unfolding has_step held passed table
law_trait_items =
    plain_law TraitItems refl (λ x. tt) (λ x. refl) (λ x. refl) (λ q. refl) (λ q l. (node_stays ATraitItem, tt))

pub law_impl_items : KindLaw ImplItems
unfolding has_step held passed table
law_impl_items =
    plain_law ImplItems refl (λ x. tt) (λ x. refl) (λ x. refl) (λ q. refl) (λ q l. (node_stays AnImplItem, tt))
