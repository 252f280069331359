-- Each kind has a step, or it stands nowhere but by itself: then it ends by itself, or it is a statement.
use Rattle.std.proofs.Common.{◌≡◌, List, ◌++◌, refl, sym, subst}
use Rattle.std.specs.Prelude.{Bool, true, false}
use Rattle.std.proofs.lemmas.Bool.{false≢true}
use Rattle.proc_macro2.specs.Token.{Token}
use Rattle.syn_grammar.specs.Kind.{AFunction, AType, ATypeAlias, AnyPath, AtType, DeriveInput, DynType}
use Rattle.syn_grammar.specs.Kind.{ForeignItemStatic, ImplType, InExpression, InFile, InForeign, InImpl, InModule}
use Rattle.syn_grammar.specs.Kind.{InTrait, InType, ItemConst, ItemEnum, ItemExternCrate, ItemFn, ItemForeignMod}
use Rattle.syn_grammar.specs.Kind.{ItemImpl, ItemMacro, ItemMod, ItemStatic, ItemStruct, ItemTrait, ItemTraitAlias}
use Rattle.syn_grammar.specs.Kind.{ItemType, ItemUnion, ItemUse, Kind, OneConst, OneFunction, OneMacro, OneStatement}
use Rattle.syn_grammar.specs.Kind.{OneTypeAlias, Path, QualifiedPath, ReturnType, Segment, Segments, Signature}
use Rattle.syn_grammar.specs.Kind.{WithPlus, WithoutPlus}
use Rattle.syn_grammar.specs.Tree.{Tree, Node, flat}
use Rattle.syn_grammar.specs.Gram.{ref}
use Rattle.syn_grammar.specs.Derives.{Derives}
use Rattle.syn_grammar.specs.Kept.{kept}
use Rattle.syn_grammar.specs.Normal.{normal}
use Rattle.syn_grammar.specs.Read.{IsRead}
use Rattle.laws_reread_kinds.specs.After.{After}
use Rattle.laws_reread_kinds.specs.Covered.{has_form_step, has_step, is_known}
use Rattle.laws_reread_kinds.proofs.Fine.{Any}
use Rattle.laws_reread.specs.Asked.{is_covered}
use Rattle.laws_reread.proofs.Judged.{is_one_statement}
use Rattle.laws_reread.proofs.OneItems as items
use Rattle.laws_reread.proofs.OneTraits as traits
use Rattle.laws_reread.proofs.OneKind.{OneKind, read_one}
use Rattle.laws_reread.proofs.OneStatement.{read_statement}
use Rattle.laws_reread.proofs.Told.{inside_told}

-- the kinds that end by themselves and stand in no other
abbrev pub is_one_kind : Kind → Bool
is_one_kind ItemStruct = true
is_one_kind ItemEnum = true
is_one_kind ItemUnion = true
is_one_kind ItemFn = true
is_one_kind ItemExternCrate = true
is_one_kind ItemForeignMod = true
is_one_kind ItemUse = true
is_one_kind ItemStatic = true
is_one_kind ItemConst = true
is_one_kind ItemMod = true
is_one_kind ItemType = true
is_one_kind ItemTrait = true
is_one_kind ItemTraitAlias = true
is_one_kind ItemImpl = true
is_one_kind DeriveInput = true
is_one_kind (OneMacro p) = true
is_one_kind (OneFunction p) = true
is_one_kind (OneTypeAlias p) = true
is_one_kind (OneConst p) = true
is_one_kind ForeignItemStatic = true
is_one_kind k = false

all_ones : (k : Kind) → is_one_kind k ≡ true → OneKind k Any
all_ones ItemFn e = items.one_of_functions
all_ones ItemExternCrate e = items.one_of_extern_crates
all_ones ItemForeignMod e = items.one_of_extern_blocks
all_ones ItemUse e = items.one_of_uses
all_ones ItemStatic e = items.one_of_statics
all_ones ItemConst e = items.one_of_constants
all_ones ItemMod e = items.one_of_modules
all_ones ItemType e = items.one_of_aliases
all_ones ItemStruct e = items.one_of_structs
all_ones ItemEnum e = items.one_of_enums
all_ones ItemUnion e = items.one_of_unions
all_ones ItemImpl e = items.one_of_impls
all_ones (OneFunction InFile) e = items.one_function_in_a_file
all_ones (OneFunction InForeign) e = items.one_function_in_an_extern_block
all_ones (OneFunction InTrait) e = items.one_function_in_a_trait
all_ones (OneFunction InImpl) e = items.one_function_in_an_impl
all_ones (OneTypeAlias InFile) e = items.one_alias_in_a_file
all_ones (OneTypeAlias InForeign) e = items.one_alias_in_an_extern_block
all_ones (OneTypeAlias InTrait) e = items.one_alias_in_a_trait
all_ones (OneTypeAlias InImpl) e = items.one_alias_in_an_impl
all_ones (OneConst InFile) e = items.one_constant_in_a_file
all_ones (OneConst InForeign) e = items.one_constant_in_an_extern_block
all_ones (OneConst InTrait) e = items.one_constant_in_a_trait
all_ones (OneConst InImpl) e = items.one_constant_in_an_impl
all_ones ForeignItemStatic e = items.one_static_in_an_extern_block
all_ones ItemTrait e = traits.one_of_traits
all_ones ItemTraitAlias e = traits.one_of_trait_aliases
all_ones DeriveInput e = traits.one_to_derive
all_ones (OneMacro InFile) e = traits.one_macro_in_a_file
all_ones (OneMacro InForeign) e = traits.one_macro_in_an_extern_block
all_ones (OneMacro InTrait) e = traits.one_macro_in_a_trait
all_ones (OneMacro InImpl) e = traits.one_macro_in_an_impl
all_ones _ e = absurd (false≢true e)

-- the others have one
pub all_others : (k : Kind) → is_one_kind k ≡ false → is_one_statement k ≡ false → is_known k ≡ true
unfolding has_step has_form_step
all_others (Path InModule) e f = refl
all_others (Path InExpression) e f = refl
all_others (Path InType) e f = refl
all_others (Path AtType) e f = refl
all_others (Segments InModule) e f = refl
all_others (Segments InExpression) e f = refl
all_others (Segments InType) e f = refl
all_others (Segments AtType) e f = refl
all_others (Segment InModule) e f = refl
all_others (Segment InExpression) e f = refl
all_others (Segment InType) e f = refl
all_others (Segment AtType) e f = refl
all_others (QualifiedPath InModule) e f = refl
all_others (QualifiedPath InExpression) e f = refl
all_others (QualifiedPath InType) e f = refl
all_others (QualifiedPath AtType) e f = refl
all_others (AnyPath InModule) e f = refl
all_others (AnyPath InExpression) e f = refl
all_others (AnyPath InType) e f = refl
all_others (AnyPath AtType) e f = refl
all_others (AType WithPlus) e f = refl
all_others (AType WithoutPlus) e f = refl
all_others (DynType WithPlus) e f = refl
all_others (DynType WithoutPlus) e f = refl
all_others (ImplType WithPlus) e f = refl
all_others (ImplType WithoutPlus) e f = refl
all_others (ReturnType WithPlus) e f = refl
all_others (ReturnType WithoutPlus) e f = refl
all_others (Signature InFile) e f = refl
all_others (Signature InForeign) e f = refl
all_others (Signature InTrait) e f = refl
all_others (Signature InImpl) e f = refl
all_others (AFunction InFile) e f = refl
all_others (AFunction InForeign) e f = refl
all_others (AFunction InTrait) e f = refl
all_others (AFunction InImpl) e f = refl
all_others (ATypeAlias InFile) e f = refl
all_others (ATypeAlias InForeign) e f = refl
all_others (ATypeAlias InTrait) e f = refl
all_others (ATypeAlias InImpl) e f = refl
all_others (ItemMacro InFile) e f = refl
all_others (ItemMacro InForeign) e f = refl
all_others (ItemMacro InTrait) e f = refl
all_others (ItemMacro InImpl) e f = refl
all_others ItemStruct e f = absurd (false≢true (sym e))
all_others ItemEnum e f = absurd (false≢true (sym e))
all_others ItemUnion e f = absurd (false≢true (sym e))
all_others ItemFn e f = absurd (false≢true (sym e))
all_others ItemExternCrate e f = absurd (false≢true (sym e))
all_others ItemForeignMod e f = absurd (false≢true (sym e))
all_others ItemUse e f = absurd (false≢true (sym e))
all_others ItemStatic e f = absurd (false≢true (sym e))
all_others ItemConst e f = absurd (false≢true (sym e))
all_others ItemMod e f = absurd (false≢true (sym e))
all_others ItemType e f = absurd (false≢true (sym e))
all_others ItemTrait e f = absurd (false≢true (sym e))
all_others ItemTraitAlias e f = absurd (false≢true (sym e))
all_others ItemImpl e f = absurd (false≢true (sym e))
all_others DeriveInput e f = absurd (false≢true (sym e))
all_others (OneMacro p) e f = absurd (false≢true (sym e))
all_others (OneFunction p) e f = absurd (false≢true (sym e))
all_others (OneTypeAlias p) e f = absurd (false≢true (sym e))
all_others (OneConst p) e f = absurd (false≢true (sym e))
all_others ForeignItemStatic e f = absurd (false≢true (sym e))
all_others OneStatement e f = absurd (false≢true (sym f))
all_others _ e f = refl

pub one_back : (k : Kind) (x : Tree) (r s : List Token) → is_one_kind k ≡ true → Derives x (ref k) r
    → is_covered x ≡ true → IsRead k (flat (normal (kept x)) ++ s) (normal (kept x)) s
one_back k (Node l x) r s h d c =
    let e = subst (λ j. Derives (Node j x) (ref k) r) d.0 d in
    let i : is_covered (Node k x) ≡ true = subst (λ j. is_covered (Node j x) ≡ true) d.0 c in
    subst (λ j. IsRead k (flat (normal (kept (Node j x))) ++ s) (normal (kept (Node j x))) s) (sym d.0)
    (read_one k Any (all_ones k h) x r s e.1 (inside_told k x r e i) (λ w e f. tt))
one_back k _ r s h d c = absurd d

pub statement_back : (k : Kind) (x : Tree) (r s : List Token) → is_one_statement k ≡ true → Derives x (ref k) r
    → is_covered x ≡ true → After k (normal (kept x)) s → IsRead k (flat (normal (kept x)) ++ s) (normal (kept x)) s
statement_back OneStatement (Node l x) r s h d c a =
    let e = subst (λ j. Derives (Node j x) (ref OneStatement) r) d.0 d in
    let i : is_covered (Node OneStatement x) ≡ true = subst (λ j. is_covered (Node j x) ≡ true) d.0 c in
    subst (λ j. IsRead OneStatement (flat (normal (kept (Node j x))) ++ s) (normal (kept (Node j x))) s) (sym d.0)
    (read_statement x r s e.1 (inside_told OneStatement x r e i)
    (subst (λ j. After OneStatement (normal (kept (Node j x))) s) d.0 a))
statement_back OneStatement _ r s h d c a = absurd d
statement_back _ x r s h d c a = absurd (false≢true h)
