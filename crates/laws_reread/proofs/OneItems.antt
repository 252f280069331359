-- The readers of one kind of item, by themselves: what they keep is kept as it is printed, and its attributes and its
-- visibility stand before its form.
use Rattle.std.proofs.Common.{◌≡◌, List, [], ◌∷◌, ◌++◌, refl, sym, ap, ◌∙◌, subst}
use Rattle.std.specs.Prelude.{Bool, true, false, ◌||◌, Option, Some, None}
use Rattle.proc_macro2.specs.Token.{Token}
use Rattle.syn_grammar.specs.Kind.{Kind, AConst, AForeignModule, AFunction, AModule, AStatic, AStruct, ATypeAlias}
use Rattle.syn_grammar.specs.Kind.{AUnion, AUse, AnEnum, AnExternCrate, AnImpl, ForeignItemStatic, InFile, InForeign}
use Rattle.syn_grammar.specs.Kind.{InImpl, InTrait, ItemConst, ItemEnum, ItemExternCrate, ItemFn, ItemForeignMod}
use Rattle.syn_grammar.specs.Kind.{ItemImpl, ItemMod, ItemStatic, ItemStruct, ItemType, ItemUnion, ItemUse, OneConst}
use Rattle.syn_grammar.specs.Kind.{OneFunction, OneTypeAlias, OuterAttributes, Place, Plain, Visibility}
use Rattle.syn_grammar.specs.Name.{Part, same_part, the_default, the_item, the_visibility}
use Rattle.syn_grammar.specs.Tree.{Tree, Called, Node, Pair, flat}
use Rattle.syn_grammar.specs.Part.{choice, found, has, is_some, or_else, or_nil, the}
use Rattle.syn_grammar.specs.Gram.{AsRaw, Gram, Keep, Refuse, Verdict, judged, nothing, ref}
use Rattle.syn_grammar.specs.Look.{no, ◌or◌, ◌then◌}
use Rattle.syn_grammar.specs.Say.{at, marks, ◌∶◌, ◌▸◌}
use Rattle.syn_grammar.specs.Items.{safety}
use Rattle.syn_grammar.specs.Lists.{default_there, only, typed}
use Rattle.syn_grammar.specs.Verdicts.{form_in, is_public, item_verdict, marked, strictly}
use Rattle.syn_grammar.specs.Ranks.{skips}
use Rattle.syn_grammar.specs.Table.{table}
use Rattle.syn_grammar.specs.Derives.{Derives}
use Rattle.syn_grammar.specs.Kept.{forget, held, kept}
use Rattle.syn_grammar.specs.Normal.{passed, place_of, normal}
use Rattle.laws_reread_kinds.specs.After.{behind}
use Rattle.laws_reread_kinds.specs.Covered.{front, item_of}
use Rattle.laws_reread_kinds.proofs.CalledParts.{lacks_part}
use Rattle.laws_reread_kinds.proofs.Classes.{Class, the_words}
use Rattle.laws_reread_kinds.proofs.Conditions.{is_condition_kind}
use Rattle.laws_reread_kinds.proofs.Fine.{Any, Fine, fine_raw_or, fine_weaker}
use Rattle.laws_reread_kinds.proofs.Fits.{Fits, back}
use Rattle.laws_reread_kinds.proofs.ForeignItems.{foreign_alias, foreign_function, foreign_static, safety_words}
use Rattle.laws_reread_kinds.proofs.ItemPlaces.{has_none}
use Rattle.laws_reread_kinds.proofs.ItemVerdicts.{EachOf, LawOf, SameItem, form_same, law_alias, law_block}
use Rattle.laws_reread_kinds.proofs.ItemVerdicts.{law_constant}
use Rattle.laws_reread_kinds.proofs.ItemVerdicts.{law_crate, law_enum, law_function, law_impl, law_module, law_static}
use Rattle.laws_reread_kinds.proofs.ItemVerdicts.{law_struct, law_union, law_use, same_has}
use Rattle.laws_reread_kinds.proofs.Members.{SameMember, default_class, impl_alias, impl_constant, impl_function}
use Rattle.laws_reread_kinds.proofs.Members.{maybe_default, trait_alias, trait_constant, trait_function}
use Rattle.laws_reread_kinds.proofs.Parts.{Found, Unseen, found_called, found_optional, found_ref, found_text}
use Rattle.laws_reread_kinds.proofs.Parts.{found_words}
use Rattle.laws_reread_kinds.proofs.Parts.{maybe_called, maybe_none, maybe_ref, maybe_seq}
use Rattle.laws_reread_kinds.proofs.Printed.{EntryLaw, is_placed, is_simple, simple_law}
use Rattle.laws_reread_kinds.proofs.Starts.{starts}
use Rattle.laws_reread_kinds.proofs.WholeItems.{public_same}
use Rattle.laws_reread.proofs.Judged.{strictly_kept}
use Rattle.laws_reread.proofs.OneKind.{OneKind}

-- attributes and visibility, and what stands behind them
abbrev in_front : Gram → Gram
in_front g = ref OuterAttributes ▸ the_visibility ∶ ref Visibility ▸ g

-- Where the form is kept, it is kept as it is printed.
abbrev FormLaw : Place → Gram → Type 0
FormLaw p g =
    (x w : Tree) (r : List Token) → Derives x g r → Fits w g → kept w ≡ normal (kept x) → (b : Bool)
    → form_in p b (choice (the the_item x)) ≡ Keep → form_in p b (choice (the the_item w)) ≡ Keep

never_raw : (v : Verdict) → strictly v ≡ AsRaw → ⊥
never_raw Keep e = cc
never_raw AsRaw e = cc
never_raw Refuse e = cc

-- the parts of such an item
visibility_of : Tree → Tree
visibility_of (Pair o (Pair (Called n v) z)) = v
visibility_of x = x

behind_front : Tree → Tree
behind_front (Pair o (Pair v z)) = z
behind_front x = x

front_is : (k : Kind) (o : Tree) (n : Part) (v z : Tree) → n ≡ the_visibility
    → (the the_visibility (Pair (Node k o) (Pair (Called n v) z)) ≡ v)
    × (the the_item (Pair (Node k o) (Pair (Called n v) z)) ≡ the the_item z)
unfolding same_part
front_is k o n v z e = (
  ap (λ j. the the_visibility (Pair (Node k o) (Pair (Called j v) z))) e,
  ap (λ j. the the_item (Pair (Node k o) (Pair (Called j v) z))) e,
)

marked_same : (p : Place) (x w : Tree) → is_public (the the_visibility w) ≡ is_public (the the_visibility x)
    → has the_default w ≡ has the_default x → marked p w ≡ marked p x
marked_same InFile x w e f = e
marked_same InForeign x w e f = e
marked_same InTrait x w e f = ap (λ b. b || has the_default w) e ∙ ap (λ b. is_public (the the_visibility x) || b) f
marked_same InImpl x w e f = ap (λ b. b || has the_default w) e ∙ ap (λ b. is_public (the the_visibility x) || b) f

module _ (p : Place) (g : Gram) (form : FormLaw p g) where
  stays : (x w : Tree) (r : List Token) → Derives x (in_front g) r → Fits w (in_front g) → kept w ≡ normal (kept x)
      → typed p x ≡ Keep → typed p w ≡ Keep
  unfolding visibility_of behind_front place_of
  stays (Pair (Node k o) (Pair (Called n v) y)) (Pair (Node l a) (Pair (Called m u) z)) r d f e h =
      let x : Tree = Pair (Node k o) (Pair (Called n v) y) in
      let w : Tree = Pair (Node l a) (Pair (Called m u) z) in
      let i = front_is k o n v y d.1.0.0 in
      let j = front_is l a m u z f.1.0.0 in
      let s : marked p w ≡ marked p x =
      marked_same p x w
      (ap is_public j.0 ∙ public_same (place_of n) v u _ d.1.0.1 f.1.0.1 (ap visibility_of e)
      ∙ sym (ap is_public i.0)) (same_has the_default Plain (in_front g) x w r d f e) in
      ap strictly (ap (λ b. form_in p b (choice (the the_item w))) s ∙ ap (λ t. form_in p (marked p x) (choice t)) j.1
      ∙ form y z r d.1.1 f.1.1 (ap behind_front e) (marked p x)
      (sym (ap (λ t. form_in p (marked p x) (choice t)) i.1) ∙ strictly_kept (item_verdict p x) h))
  stays (Pair (Node k o) (Pair (Called n v) y)) (Pair (Node l a) (Pair _ z)) r d f e h = absurd f.1.0
  stays (Pair (Node k o) (Pair (Called n v) y)) (Pair (Node l a) _) r d f e h = absurd f.1
  stays (Pair (Node k o) (Pair (Called n v) y)) (Pair _ z) r d f e h = absurd f.0
  stays (Pair (Node k o) (Pair (Called n v) y)) _ r d f e h = absurd f
  stays (Pair (Node k o) (Pair _ y)) w r d f e h = absurd d.1.0
  stays (Pair (Node k o) _) w r d f e h = absurd d.1
  stays (Pair _ y) w r d f e h = absurd d.0
  stays _ w r d f e h = absurd d

  one_law : EntryLaw Plain g → EntryLaw Plain (judged (typed p) (in_front g))
  unfolding place_of
  one_law l = (
    λ x w r c d f e h. stays x w r d f e h,
    λ x r d. absurd (never_raw (item_verdict p x) d.0),
    (tt, (tt, l)),
  )

-- Its tokens are told by their first.
one_fine : (p : Place) {g : Gram} {cs : List Class} → Found g [] cs → Unseen (behind Visibility) cs
    → Unseen (behind OuterAttributes) (starts Visibility ++ cs) → Fine (judged (typed p) (in_front g)) Any Any
unfolding skips
one_fine p {g} {cs} f h i =
    let t = maybe_seq (maybe_ref OuterAttributes refl)
    (maybe_seq (maybe_called {n = the_visibility} (maybe_ref Visibility refl)) f h) i in
    fine_raw_or {A = Any} {F = Any} (fine_weaker Any Any t.fine (λ x s a. tt) (λ x s i a. tt)) (λ x s d. tt)

-- Where such a form is kept, it is kept as it is printed.
abbrev Same : Place → Tree → Tree → Type 0
Same p x w = (b : Bool) → form_in p b x ≡ Keep → form_in p b w ≡ Keep

of_item : (l : Kind) → LawOf SameItem l → LawOf (Same InFile) l
of_item l h q y v r d f e = (h q y v r d f e).0

of_member : (p : Place) (l : Kind) → LawOf (SameMember p) l → LawOf (Same p) l
of_member p l h q y v r d f e = (h q y v r d f e).0

-- of a form alone
form_alone : (p : Place) (g : Gram) → EachOf (Same p) g → FormLaw p (the_item ∶ g)
unfolding same_part place_of
form_alone p g i (Called n y) (Called m z) r d f e b h =
    ap (λ j. form_in p b (choice (the the_item (Called j z)))) f.0
    ∙ form_same (Same p) g i (place_of n) y z r d.1 f.1 (ap item_of e) b
    (sym (ap (λ j. form_in p b (choice (the the_item (Called j y)))) d.0) ∙ h)
form_alone p g i (Called n y) _ r d f e b h = absurd f
form_alone p g i _ w r d f e b h = absurd d

-- behind what is no item
past : (x y : Tree) → has the_item x ≡ false → the the_item (Pair x y) ≡ the the_item y
past x y e = go (found the_item x) e
  where
    go : (o : Option Tree) → is_some o ≡ false → or_nil (or_else o (found the_item y)) ≡ or_nil (found the_item y)
    go None e = refl
    go (Some z) e = cc e

form_behind : (p : Place) (a g : Gram) → lacks_part the_item a ≡ true → FormLaw p g → FormLaw p (a ▸ g)
form_behind p a g l i (Pair x y) (Pair w z) r d f e b h =
    let k = has_none the_item x a (flat y ++ r) d.0 l in
    let n = same_has the_item Plain a x w (flat y ++ r) d.0 f.0 (ap front e) ∙ k in
    ap (λ t. form_in p b (choice t)) (past w z n)
    ∙ i y z r d.1 f.1 (ap back e) b (sym (ap (λ t. form_in p b (choice t)) (past x y k)) ∙ h)
form_behind p a g l i (Pair x y) _ r d f e b h = absurd f
form_behind p a g l i _ w r d f e b h = absurd d

-- What is to be known of a kind, beside its entry, is said by computing it.
abbrev Held : Kind → Type 0
Held k =
    ((x : Tree) → Node (held k) (forget k x) ≡ Node k x) × ((x : Tree) → normal (Node k x) ≡ Node k (normal x))
    × (is_condition_kind k ≡ false)

one_item : (p : Place) (k : Kind) (g : Gram) (cs : List Class) → table k ≡ judged (typed p) (in_front g)
    → FormLaw p g → is_simple Plain g ≡ true → Found g [] cs → Unseen (behind Visibility) cs
    → Unseen (behind OuterAttributes) (starts Visibility ++ cs) → Held k → OneKind k Any
one_item p k g cs e i l f u v h = record {
  law = subst (EntryLaw Plain) (sym e) (one_law p g i (simple_law Plain g l));
  fine = subst (λ g. Fine g Any Any) (sym e) (one_fine p f u v);
  holds = h.0;
  is_normal = h.1;
  ends = h.2;
}

-- items of a file, without any word in front
only_item : (k l : Kind) → table k ≡ only l → LawOf SameItem l → Found (ref l) [] (starts l)
    → Unseen (behind Visibility) (starts l) → Unseen (behind OuterAttributes) (starts Visibility ++ starts l)
    → is_placed Plain l ≡ true → Held k → OneKind k Any
unfolding place_of
only_item k l e i f u v m h =
    one_item InFile k (the_item ∶ ref l) (starts l) e (form_alone InFile (ref l) (of_item l i)) m (found_called f) u v h

pub one_of_functions : OneKind ItemFn Any
unfolding table held passed skips place_of
one_of_functions =
    only_item ItemFn (AFunction InFile) refl law_function (found_ref (AFunction InFile) refl)
    ((search), ((search), tt)) ((search), tt) refl ((λ x. refl), (λ x. refl), refl)

pub one_of_extern_crates : OneKind ItemExternCrate Any
unfolding table held passed skips place_of
one_of_extern_crates =
    only_item ItemExternCrate AnExternCrate refl law_crate (found_ref AnExternCrate refl)
    ((search), ((search), tt)) ((search), tt) refl ((λ x. refl), (λ x. refl), refl)

pub one_of_extern_blocks : OneKind ItemForeignMod Any
unfolding table held passed skips place_of
one_of_extern_blocks =
    only_item ItemForeignMod AForeignModule refl law_block (found_ref AForeignModule refl)
    ((search), ((search), tt)) ((search), tt) refl ((λ x. refl), (λ x. refl), refl)

pub one_of_uses : OneKind ItemUse Any
unfolding table held passed skips place_of
one_of_uses =
    only_item ItemUse AUse refl law_use (found_ref AUse refl)
    ((search), ((search), tt)) ((search), tt) refl ((λ x. refl), (λ x. refl), refl)

pub one_of_statics : OneKind ItemStatic Any
unfolding table held passed skips place_of
one_of_statics =
    only_item ItemStatic AStatic refl law_static (found_ref AStatic refl)
    ((search), ((search), tt)) ((search), tt) refl ((λ x. refl), (λ x. refl), refl)

pub one_of_constants : OneKind ItemConst Any
unfolding table held passed skips place_of
one_of_constants =
    only_item ItemConst AConst refl law_constant (found_ref AConst refl)
    ((search), ((search), tt)) ((search), tt) refl ((λ x. refl), (λ x. refl), refl)

pub one_of_modules : OneKind ItemMod Any
unfolding table held passed skips place_of
one_of_modules =
    only_item ItemMod AModule refl law_module (found_ref AModule refl)
    ((search), ((search), tt)) ((search), tt) refl ((λ x. refl), (λ x. refl), refl)

pub one_of_aliases : OneKind ItemType Any
unfolding table held passed skips place_of
one_of_aliases =
    only_item ItemType (ATypeAlias InFile) refl law_alias (found_ref (ATypeAlias InFile) refl)
    ((search), ((search), tt)) ((search), tt) refl ((λ x. refl), (λ x. refl), refl)

pub one_of_structs : OneKind ItemStruct Any
unfolding table held passed skips place_of
one_of_structs =
    only_item ItemStruct AStruct refl law_struct (found_ref AStruct refl)
    ((search), ((search), tt)) ((search), tt) refl ((λ x. refl), (λ x. refl), refl)

pub one_of_enums : OneKind ItemEnum Any
unfolding table held passed skips place_of
one_of_enums =
    only_item ItemEnum AnEnum refl law_enum (found_ref AnEnum refl)
    ((search), ((search), tt)) ((search), tt) refl ((λ x. refl), (λ x. refl), refl)

pub one_of_unions : OneKind ItemUnion Any
unfolding table held passed skips place_of
one_of_unions =
    only_item ItemUnion AUnion refl law_union (found_ref AUnion refl)
    ((search), ((search), tt)) ((search), tt) refl ((λ x. refl), (λ x. refl), refl)

pub one_of_impls : OneKind ItemImpl Any
unfolding table held passed skips place_of
one_of_impls =
    only_item ItemImpl AnImpl refl law_impl (found_ref AnImpl refl)
    ((search), ((search), tt)) ((search), tt) refl ((λ x. refl), (λ x. refl), refl)

-- Functions, type aliases and constants in each place stand behind default, where it may stand there.
one_member : (p : Place) (k l : Kind) (cs : List Class)
    → table k ≡ judged (typed p) (in_front (default_there p ▸ the_item ∶ ref l))
    → lacks_part the_item (default_there p) ≡ true → LawOf (Same p) l
    → is_simple Plain (default_there p ▸ the_item ∶ ref l) ≡ true
    → Found (default_there p ▸ the_item ∶ ref l) [] cs → Unseen (behind Visibility) cs
    → Unseen (behind OuterAttributes) (starts Visibility ++ cs) → Held k → OneKind k Any
one_member p k l cs e m i n f u v h =
    one_item p k (default_there p ▸ the_item ∶ ref l) cs e
    (form_behind p (default_there p) (the_item ∶ ref l) m (form_alone p (ref l) i)) n f u v h

no_constant : LawOf (Same InForeign) AConst
no_constant q y v r d f e b h = cc h

behind_none : {l : Kind} → Found (ref l) [] (starts l) → Found (nothing ▸ the_item ∶ ref l) [] (starts l)
behind_none f = maybe_seq maybe_none (found_called f) tt

in_trait : {l : Kind} → Found (ref l) [] (starts l) → Unseen (at "default" ∷ []) (starts l)
    → Found (default_there InTrait ▸ the_item ∶ ref l) [] (default_class ++ starts l)
in_trait f h =
    maybe_seq (found_optional (at "default") (found_called (found_text "default")) (λ us. refl, tt)) (found_called f) h

in_impl : {l : Kind} → Found (ref l) [] (starts l)
    → Unseen ((at "default" then no (marks "!")) ∷ marks "!" ∷ []) (starts l)
    → Found (default_there InImpl ▸ the_item ∶ ref l) [] (default_class ++ starts l)
in_impl f h = maybe_seq maybe_default (found_called f) h

pub one_function_in_a_file : OneKind (OneFunction InFile) Any
unfolding table held passed skips place_of same_part
one_function_in_a_file =
    one_member InFile (OneFunction InFile) (AFunction InFile) _ refl refl (of_item (AFunction InFile) law_function) refl
    (behind_none (found_ref (AFunction InFile) refl)) ((search), ((search), tt)) ((search), tt)
    ((λ x. refl), (λ x. refl), refl)

pub one_function_in_an_extern_block : OneKind (OneFunction InForeign) Any
unfolding table held passed skips place_of same_part
one_function_in_an_extern_block =
    one_member InForeign (OneFunction InForeign) (AFunction InForeign) _ refl refl
    (of_member InForeign (AFunction InForeign) foreign_function) refl
    (behind_none (found_ref (AFunction InForeign) refl)) ((search), ((search), tt)) ((search), tt)
    ((λ x. refl), (λ x. refl), refl)

pub one_function_in_a_trait : OneKind (OneFunction InTrait) Any
unfolding table held passed skips place_of same_part
one_function_in_a_trait =
    one_member InTrait (OneFunction InTrait) (AFunction InTrait) _ refl refl
    (of_member InTrait (AFunction InTrait) trait_function) refl
    (in_trait (found_ref (AFunction InTrait) refl) ((search), tt)) ((search), ((search), tt)) ((search), tt)
    ((λ x. refl), (λ x. refl), refl)

pub one_function_in_an_impl : OneKind (OneFunction InImpl) Any
unfolding table held passed skips place_of same_part
one_function_in_an_impl =
    one_member InImpl (OneFunction InImpl) (AFunction InImpl) _ refl refl
    (of_member InImpl (AFunction InImpl) impl_function) refl
    (in_impl (found_ref (AFunction InImpl) refl) ((search), ((search), tt))) ((search), ((search), tt)) ((search), tt)
    ((λ x. refl), (λ x. refl), refl)

pub one_alias_in_a_file : OneKind (OneTypeAlias InFile) Any
unfolding table held passed skips place_of same_part
one_alias_in_a_file =
    one_member InFile (OneTypeAlias InFile) (ATypeAlias InFile) _ refl refl (of_item (ATypeAlias InFile) law_alias) refl
    (behind_none (found_ref (ATypeAlias InFile) refl)) ((search), ((search), tt)) ((search), tt)
    ((λ x. refl), (λ x. refl), refl)

pub one_alias_in_an_extern_block : OneKind (OneTypeAlias InForeign) Any
unfolding table held passed skips place_of same_part
one_alias_in_an_extern_block =
    one_member InForeign (OneTypeAlias InForeign) (ATypeAlias InForeign) _ refl refl
    (of_member InForeign (ATypeAlias InForeign) foreign_alias) refl
    (behind_none (found_ref (ATypeAlias InForeign) refl)) ((search), ((search), tt)) ((search), tt)
    ((λ x. refl), (λ x. refl), refl)

pub one_alias_in_a_trait : OneKind (OneTypeAlias InTrait) Any
unfolding table held passed skips place_of same_part
one_alias_in_a_trait =
    one_member InTrait (OneTypeAlias InTrait) (ATypeAlias InTrait) _ refl refl
    (of_member InTrait (ATypeAlias InTrait) trait_alias) refl
    (in_trait (found_ref (ATypeAlias InTrait) refl) ((search), tt)) ((search), ((search), tt)) ((search), tt)
    ((λ x. refl), (λ x. refl), refl)

pub one_alias_in_an_impl : OneKind (OneTypeAlias InImpl) Any
unfolding table held passed skips place_of same_part
one_alias_in_an_impl =
    one_member InImpl (OneTypeAlias InImpl) (ATypeAlias InImpl) _ refl refl
    (of_member InImpl (ATypeAlias InImpl) impl_alias) refl
    (in_impl (found_ref (ATypeAlias InImpl) refl) ((search), ((search), tt))) ((search), ((search), tt)) ((search), tt)
    ((λ x. refl), (λ x. refl), refl)

pub one_constant_in_a_file : OneKind (OneConst InFile) Any
unfolding table held passed skips place_of same_part
one_constant_in_a_file =
    one_member InFile (OneConst InFile) AConst _ refl refl (of_item AConst law_constant) refl
    (behind_none (found_ref AConst refl)) ((search), ((search), tt)) ((search), tt)
    ((λ x. refl), (λ x. refl), refl)

pub one_constant_in_an_extern_block : OneKind (OneConst InForeign) Any
unfolding table held passed skips place_of same_part
one_constant_in_an_extern_block =
    one_member InForeign (OneConst InForeign) AConst _ refl refl no_constant refl
    (behind_none (found_ref AConst refl)) ((search), ((search), tt)) ((search), tt)
    ((λ x. refl), (λ x. refl), refl)

pub one_constant_in_a_trait : OneKind (OneConst InTrait) Any
unfolding table held passed skips place_of same_part
one_constant_in_a_trait =
    one_member InTrait (OneConst InTrait) AConst _ refl refl (of_member InTrait AConst trait_constant) refl
    (in_trait (found_ref AConst refl) ((search), tt)) ((search), ((search), tt)) ((search), tt)
    ((λ x. refl), (λ x. refl), refl)

pub one_constant_in_an_impl : OneKind (OneConst InImpl) Any
unfolding table held passed skips place_of same_part
one_constant_in_an_impl =
    one_member InImpl (OneConst InImpl) AConst _ refl refl (of_member InImpl AConst impl_constant) refl
    (in_impl (found_ref AConst refl) ((search), ((search), tt))) ((search), ((search), tt)) ((search), tt)
    ((λ x. refl), (λ x. refl), refl)

-- a static of an extern block stands behind its safety
static_law : FormLaw InForeign (safety InForeign ▸ the_item ∶ ref AStatic)
unfolding same_part
static_law =
    form_behind InForeign (safety InForeign) (the_item ∶ ref AStatic) refl
    (form_alone InForeign (ref AStatic) (of_member InForeign AStatic foreign_static))

static_found : Found (safety InForeign ▸ the_item ∶ ref AStatic) [] (the_words safety_words ++ starts AStatic)
unfolding skips
static_found =
    maybe_seq (found_optional (at "unsafe" or at "safe") (found_called (found_words safety_words)) (search))
    (found_called (found_ref AStatic refl)) ((search), tt)

pub one_static_in_an_extern_block : OneKind ForeignItemStatic Any
unfolding table held passed skips place_of
one_static_in_an_extern_block =
    one_item InForeign ForeignItemStatic (safety InForeign ▸ the_item ∶ ref AStatic) _ refl static_law refl static_found
    ((search), ((search), tt)) ((search), tt) ((λ x. refl), (λ x. refl), refl)
