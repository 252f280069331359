-- The readers of a trait or of an alias of traits, of what is derived for, and of a macro, by themselves.
use Rattle.std.proofs.Common.{◌≡◌, List, [], refl, sym, ap, ◌∙◌, subst}
use Rattle.std.specs.Prelude.{true, not}
use Rattle.proc_macro2.specs.Token.{Token}
use Rattle.syn_grammar.specs.Kind.{ATrait, AStruct, AUnion, AnEnum, DeriveInput, InFile, InForeign, InImpl}
use Rattle.syn_grammar.specs.Kind.{InTrait, ItemMacro, ItemTrait, ItemTraitAlias, OneMacro, OuterAttributes, Place}
use Rattle.syn_grammar.specs.Kind.{Plain, Visibility}
use Rattle.syn_grammar.specs.Name.{same_part, the_equals, the_item}
use Rattle.syn_grammar.specs.Tree.{Tree, Called, Node, Pair}
use Rattle.syn_grammar.specs.Part.{the}
use Rattle.syn_grammar.specs.Words.{is_name, is_path_keyword}
use Rattle.rust_leaf.specs.Keywords.{is_reserved}
use Rattle.syn_grammar.specs.Gram.{Gram, ref}
use Rattle.syn_grammar.specs.Look.{a_name, ◌or◌}
use Rattle.syn_grammar.specs.Types.{kept_if}
use Rattle.syn_grammar.specs.Say.{at, marks, ◌∶◌, ◌▸◌}
use Rattle.syn_grammar.specs.Lists.{is_trait_alias, one_macro}
use Rattle.syn_grammar.specs.Ranks.{skips}
use Rattle.syn_grammar.specs.Table.{table}
use Rattle.syn_grammar.specs.Derives.{Derives}
use Rattle.syn_grammar.specs.Kept.{held, kept}
use Rattle.syn_grammar.specs.Normal.{passed, place_of, normal}
use Rattle.laws_reread_kinds.specs.Covered.{inner}
use Rattle.laws_reread_kinds.proofs.Classes.{Class, ◌&◌}
use Rattle.laws_reread_kinds.proofs.Fine.{Any, Fine, fine_judged, fine_weaker}
use Rattle.laws_reread_kinds.proofs.Fits.{Fits}
use Rattle.laws_reread_kinds.proofs.ItemVerdicts.{same_has}
use Rattle.laws_reread_kinds.proofs.Parts.{Found, Told, found_alt, found_called, found_never, found_ref, maybe_ref}
use Rattle.laws_reread_kinds.proofs.Parts.{maybe_seq}
use Rattle.laws_reread_kinds.proofs.Printed.{kept_entry, simple_law}
use Rattle.laws_reread_kinds.proofs.Starts.{starts}
use Rattle.laws_reread.proofs.OneKind.{OneKind}

-- an entry that is told by its first token, and is before all that follows
anywhere : {g : Gram} {cs : List Class} → Found g [] cs → Fine g Any Any
anywhere f = fine_weaker Any Any f.fine (λ x s a. tt) (λ x s i a. tt)

-- attributes, visibility and a trait
abbrev a_trait : Gram
a_trait = ref OuterAttributes ▸ ref Visibility ▸ the_item ∶ ref ATrait

trait_of : Tree → Tree
trait_of (Pair o (Pair v (Called n x))) = x
trait_of x = x

-- an alias is printed for an alias
alias_same : (x w : Tree) (r : List Token) → Derives x a_trait r → Fits w a_trait → kept w ≡ normal (kept x)
    → is_trait_alias (the the_item w) ≡ is_trait_alias (the the_item x)
unfolding trait_of same_part place_of held passed
alias_same (Pair (Node k o) (Pair (Node j v) (Called n (Node l y))))
    (Pair (Node a p) (Pair (Node b u) (Called m (Node c z)))) r d f e =
    ap (λ i. is_trait_alias (the the_item (Pair (Node a p) (Pair (Node b u) (Called i (Node c z)))))) f.1.1.0
    ∙ ap (λ i. is_trait_alias (Node i z)) f.1.1.1.0
    ∙ same_has the_equals Plain (table ATrait) y z r (subst (λ i. Derives y (table i) r) d.1.1.1.0 d.1.1.1.1)
    (subst (λ i. Fits z (table i)) f.1.1.1.0 f.1.1.1.3)
    (ap inner (subst (λ i. kept (Node i z) ≡ normal (kept (Node ATrait y))) f.1.1.1.0
    (subst (λ i. kept (Node c z) ≡ normal (kept (Node i y))) d.1.1.1.0
    (subst (λ i. kept (Node c z) ≡ trait_of (normal (kept (Pair (Node k o) (Pair (Node j v) (Called i (Node l y)))))))
    d.1.1.0 (ap trait_of e)))))
    ∙ sym (ap (λ i. is_trait_alias (Node i y)) d.1.1.1.0)
    ∙ sym (ap (λ i. is_trait_alias (the the_item (Pair (Node k o) (Pair (Node j v) (Called i (Node l y)))))) d.1.1.0)
alias_same (Pair (Node k o) (Pair (Node j v) (Called n (Node l y)))) (Pair (Node a p) (Pair (Node b u) (Called m _))) r
    d f e =
    absurd f.1.1.1
alias_same (Pair (Node k o) (Pair (Node j v) (Called n (Node l y)))) (Pair (Node a p) (Pair (Node b u) _)) r d f e =
    absurd f.1.1
alias_same (Pair (Node k o) (Pair (Node j v) (Called n (Node l y)))) (Pair (Node a p) (Pair _ z)) r d f e =
    absurd f.1.0
alias_same (Pair (Node k o) (Pair (Node j v) (Called n (Node l y)))) (Pair (Node a p) _) r d f e = absurd f.1
alias_same (Pair (Node k o) (Pair (Node j v) (Called n (Node l y)))) (Pair _ z) r d f e = absurd f.0
alias_same (Pair (Node k o) (Pair (Node j v) (Called n (Node l y)))) _ r d f e = absurd f
alias_same (Pair (Node k o) (Pair (Node j v) (Called n _))) w r d f e = absurd d.1.1.1
alias_same (Pair (Node k o) (Pair (Node j v) _)) w r d f e = absurd d.1.1
alias_same (Pair (Node k o) (Pair _ y)) w r d f e = absurd d.1.0
alias_same (Pair (Node k o) _) w r d f e = absurd d.1
alias_same (Pair _ y) w r d f e = absurd d.0
alias_same _ w r d f e = absurd d

trait_fine : Fine a_trait Any Any
unfolding skips
trait_fine =
    anywhere (maybe_seq (maybe_ref OuterAttributes refl)
    (maybe_seq (maybe_ref Visibility refl) (found_called (found_ref ATrait refl)) ((search), ((search), tt)))
    ((search), tt))

pub one_of_traits : OneKind ItemTrait Any
unfolding table held passed place_of
one_of_traits = record {
  law = kept_entry (λ x. not (is_trait_alias (the the_item x)))
      (λ x w r c d f e h. ap (λ b. kept_if (not b)) (alias_same x w r d f e) ∙ h) (simple_law Plain a_trait refl);
  fine = fine_judged {A = Any} {F = Any} (λ x. not (is_trait_alias (the the_item x))) trait_fine;
  holds = λ x. refl;
  is_normal = λ x. refl;
  ends = refl;
}

pub one_of_trait_aliases : OneKind ItemTraitAlias Any
unfolding table held passed place_of
one_of_trait_aliases = record {
  law = kept_entry (λ x. is_trait_alias (the the_item x))
      (λ x w r c d f e h. ap kept_if (alias_same x w r d f e) ∙ h) (simple_law Plain a_trait refl);
  fine = fine_judged {A = Any} {F = Any} (λ x. is_trait_alias (the the_item x)) trait_fine;
  holds = λ x. refl;
  is_normal = λ x. refl;
  ends = refl;
}

-- a struct, an enum or a union
pub one_to_derive : OneKind DeriveInput Any
unfolding table held passed place_of skips
one_to_derive = record {
  law = simple_law Plain (table DeriveInput) refl;
  fine = anywhere (maybe_seq (maybe_ref OuterAttributes refl)
      (maybe_seq (maybe_ref Visibility refl)
      (found_alt (at "struct") (found_ref AStruct refl)
      (found_alt (at "enum") (found_ref AnEnum refl) (found_ref AUnion refl) (search) (search)) (search) (search))
      ((search), ((search), tt))) ((search), tt));
  holds = λ x. refl;
  is_normal = λ x. refl;
  ends = refl;
}

-- a macro, which begins with a name or ::
name_there : Told (a_name or marks "::") true (starts (ItemMacro InFile))
unfolding is_name is_path_keyword is_reserved
name_there =
    ((λ us. refl) & (λ us. refl) & (λ us. refl) & (λ cs h us. refl) & (λ us. refl) & (λ us. refl) & (λ us. refl)
    & (λ us. refl) & (λ cs h us. simp h refl) & (λ us. refl) & tt)

macro_fine : (p : Place) → Found (ref (ItemMacro p)) [] (starts (ItemMacro InFile)) → Fine (one_macro p) Any Any
unfolding skips
macro_fine p f =
    anywhere (maybe_seq (maybe_ref OuterAttributes refl)
    (found_alt (a_name or marks "::") f found_never name_there tt) ((search), tt))

pub one_macro_in_a_file : OneKind (OneMacro InFile) Any
unfolding table held passed skips
one_macro_in_a_file = record {
  law = simple_law Plain (one_macro InFile) refl;
  fine = macro_fine InFile (found_ref (ItemMacro InFile) refl);
  holds = λ x. refl;
  is_normal = λ x. refl;
  ends = refl;
}

pub one_macro_in_an_extern_block : OneKind (OneMacro InForeign) Any
unfolding table held passed skips
one_macro_in_an_extern_block = record {
  law = simple_law Plain (one_macro InForeign) refl;
  fine = macro_fine InForeign (found_ref (ItemMacro InForeign) refl);
  holds = λ x. refl;
  is_normal = λ x. refl;
  ends = refl;
}

pub one_macro_in_a_trait : OneKind (OneMacro InTrait) Any
unfolding table held passed skips
one_macro_in_a_trait = record {
  law = simple_law Plain (one_macro InTrait) refl;
  fine = macro_fine InTrait (found_ref (ItemMacro InTrait) refl);
  holds = λ x. refl;
  is_normal = λ x. refl;
  ends = refl;
}

pub one_macro_in_an_impl : OneKind (OneMacro InImpl) Any
unfolding table held passed skips
one_macro_in_an_impl = record {
  law = simple_law Plain (one_macro InImpl) refl;
  fine = macro_fine InImpl (found_ref (ItemMacro InImpl) refl);
  holds = λ x. refl;
  is_normal = λ x. refl;
  ends = refl;
}
