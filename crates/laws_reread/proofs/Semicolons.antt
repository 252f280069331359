-- In an expression a semicolon stands in groups alone: behind its tokens the next semicolon that stands in no group is
-- the one that stands there behind what follows.
use Rattle.std.proofs.Common.{◌≡◌, List, ◌++◌, refl}
use Rattle.std.specs.Prelude.{Bool, true, false, ◌||◌}
use Rattle.proc_macro2.specs.Token.{Token}
use Rattle.syn_grammar.specs.Kind.{Kind, AConst, AConstTrait, AFile, AForeignItem, AForeignModule, AFunction}
use Rattle.syn_grammar.specs.Kind.{ALet, AMacroDefinition, AModule, ARestrictedTrait, AStatement, AStatic, AStruct}
use Rattle.syn_grammar.specs.Kind.{ATrait, ATraitItem, ATypeAlias, AUnion, AUse, AnEnum, AnExternCrate, AnImpl}
use Rattle.syn_grammar.specs.Kind.{AnImplItem}
use Rattle.syn_grammar.specs.Kind.{AnItem, DeriveInput, ForeignItemStatic, ForeignItems, ImplItems, ItemConst, ItemEnum}
use Rattle.syn_grammar.specs.Kind.{ItemExternCrate, ItemFn, ItemForeignMod, ItemImpl, ItemMacro, ItemMod, ItemStatic}
use Rattle.syn_grammar.specs.Kind.{ItemStruct, ItemTrait, ItemTraitAlias, ItemType, ItemUnion, ItemUse, Items, OneConst}
use Rattle.syn_grammar.specs.Kind.{OneFunction, OneMacro, OneStatement, OneTypeAlias, Signature, Statements}
use Rattle.syn_grammar.specs.Kind.{TraitItems}
use Rattle.syn_grammar.specs.Kind.{Path, Segments, Segment, QualifiedPath, AnyPath, InModule, InExpression, InType}
use Rattle.syn_grammar.specs.Kind.{AtType}
use Rattle.syn_grammar.specs.Kind.{AType, DynType, ImplType, ReturnType, WithPlus, WithoutPlus, ExprLit}
use Rattle.syn_grammar.specs.Tree.{Tree}
use Rattle.syn_grammar.specs.Tree.{flat}
use Rattle.syn_grammar.specs.Gram.{Gram}
use Rattle.syn_grammar.specs.Look.{Look, past_first}
use Rattle.syn_grammar.specs.Table.{table}
use Rattle.syn_grammar.specs.Derives.{Derives}
use Rattle.laws_binding.proofs.Begun.{is_front}
use Rattle.laws_binding.proofs.Sights.{is_back}
use Rattle.laws_reread.proofs.Quiet.{IsQuiet, quiet as passed}

-- the next semicolon that stands in no group
abbrev pub past_semicolon : Look
past_semicolon = past_first 59 0

-- No semicolon stands among the parts of a kind's trees, but for those in groups: of all kinds but items, statements
-- and
-- files.
abbrev is_quiet : Kind → Bool
is_quiet AStruct = false
is_quiet AnEnum = false
is_quiet AUnion = false
is_quiet AStatic = false
is_quiet AConst = false
is_quiet AnExternCrate = false
is_quiet AForeignModule = false
is_quiet AUse = false
is_quiet AModule = false
is_quiet ATrait = false
is_quiet AConstTrait = false
is_quiet ARestrictedTrait = false
is_quiet AnImpl = false
is_quiet AMacroDefinition = false
is_quiet (Signature p) = false
is_quiet (AFunction p) = false
is_quiet (ATypeAlias p) = false
is_quiet (ItemMacro p) = false
is_quiet AnItem = false
is_quiet AForeignItem = false
is_quiet ATraitItem = false
is_quiet AnImplItem = false
is_quiet Items = false
is_quiet ForeignItems = false
is_quiet TraitItems = false
is_quiet ImplItems = false
is_quiet ItemStruct = false
is_quiet ItemEnum = false
is_quiet ItemUnion = false
is_quiet ItemFn = false
is_quiet ItemExternCrate = false
is_quiet ItemForeignMod = false
is_quiet ItemUse = false
is_quiet ItemStatic = false
is_quiet ItemConst = false
is_quiet ItemMod = false
is_quiet ItemType = false
is_quiet ItemTrait = false
is_quiet ItemTraitAlias = false
is_quiet ItemImpl = false
is_quiet DeriveInput = false
is_quiet (OneMacro p) = false
is_quiet (OneFunction p) = false
is_quiet (OneTypeAlias p) = false
is_quiet (OneConst p) = false
is_quiet ForeignItemStatic = false
is_quiet Statements = false
is_quiet AStatement = false
is_quiet OneStatement = false
is_quiet ALet = false
is_quiet AFile = false
is_quiet k = true

quiet_entry : (k : Kind) → is_quiet k ≡ true → IsQuiet 59 is_quiet true (table k) ≡ true
unfolding table
quiet_entry (Path InModule) e = refl
quiet_entry (Path InExpression) e = refl
quiet_entry (Path InType) e = refl
quiet_entry (Path AtType) e = refl
quiet_entry (Segments InModule) e = refl
quiet_entry (Segments InExpression) e = refl
quiet_entry (Segments InType) e = refl
quiet_entry (Segments AtType) e = refl
quiet_entry (Segment InModule) e = refl
quiet_entry (Segment InExpression) e = refl
quiet_entry (Segment InType) e = refl
quiet_entry (Segment AtType) e = refl
quiet_entry (QualifiedPath InModule) e = refl
quiet_entry (QualifiedPath InExpression) e = refl
quiet_entry (QualifiedPath InType) e = refl
quiet_entry (QualifiedPath AtType) e = refl
quiet_entry (AnyPath InModule) e = refl
quiet_entry (AnyPath InExpression) e = refl
quiet_entry (AnyPath InType) e = refl
quiet_entry (AnyPath AtType) e = refl
quiet_entry (AType WithPlus) e = refl
quiet_entry (AType WithoutPlus) e = refl
quiet_entry (DynType WithPlus) e = refl
quiet_entry (DynType WithoutPlus) e = refl
quiet_entry (ImplType WithPlus) e = refl
quiet_entry (ImplType WithoutPlus) e = refl
quiet_entry (ReturnType WithPlus) e = refl
quiet_entry (ReturnType WithoutPlus) e = refl
quiet_entry _ e = cc

form_quiet : (k : Kind) → (is_front k || is_back k) ≡ true → IsQuiet 59 is_quiet true (table k) ≡ true
form_quiet k e = quiet_entry k (of_form k e)
  where
    of_form : (k : Kind) → (is_front k || is_back k) ≡ true → is_quiet k ≡ true
    of_form ExprLit e = refl
    of_form _ e = cc

pub quiet : (x : Tree) (g : Gram) (r : List Token) → Derives x g r → IsQuiet 59 is_quiet true g ≡ true
    → (ts : List Token) → past_semicolon (flat x ++ ts) ≡ past_semicolon ts
quiet x g r d q ts = passed 59 is_quiet true refl quiet_entry (λ o. form_quiet) x g r d q ts
