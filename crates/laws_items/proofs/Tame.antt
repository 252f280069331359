-- Raw items are read in rows alone: no other entry reads one, or judges what it read to be raw.
use Rattle.std.proofs.Common.{◌≡◌, refl}
use Rattle.std.specs.Prelude.{Bool, true, false, ◌&&◌, not}
use Rattle.syn_grammar.specs.Kind.{Kind, InFile, InForeign, InTrait, InImpl, WithPlus, WithoutPlus, DynType, ImplType}
use Rattle.syn_grammar.specs.Kind.{SomeBounds, FieldPatterns, FieldValues, Arm, Parameters, FnArg, ATrait, AnImpl}
use Rattle.syn_grammar.specs.Kind.{ARestrictedTrait, Signature, ATypeAlias, ItemMacro, ItemStruct, ItemEnum, ItemUnion}
use Rattle.syn_grammar.specs.Kind.{ItemFn, ItemExternCrate, ItemForeignMod, ItemUse, ItemStatic, ItemConst, ItemMod}
use Rattle.syn_grammar.specs.Kind.{ItemType, ItemTrait, ItemTraitAlias, ItemImpl, OneFunction, OneTypeAlias, OneConst}
use Rattle.syn_grammar.specs.Kind.{ForeignItemStatic, ALet, AnItem, AForeignItem, ATraitItem, AnImplItem, AStatement}
use Rattle.syn_grammar.specs.Kind.{OneStatement, Items, ForeignItems, TraitItems, ImplItems, Statements}
use Rattle.syn_grammar.specs.Tree.{Tree}
use Rattle.syn_grammar.specs.Gram.{Gram, Verdict, Keep, AsRaw, Refuse, seq, alt, star, many, group, judged}
use Rattle.syn_grammar.specs.Gram.{called, ref}
use Rattle.syn_grammar.specs.Say.{optional, at, keyword}
use Rattle.syn_grammar.specs.Items.{restriction, trait_form}
use Rattle.syn_grammar.specs.Verdicts.{strictly}
use Rattle.syn_grammar.specs.Table.{table}
use Rattle.syn_grammar.proofs.Whole.{and_true}
use Rattle.syn_grammar.proofs.Every.{is_row}
use Rattle.laws_items.specs.Begins.{is_element}
use Rattle.laws_items.proofs.Fronts.{not_true, kept_or_refused}

-- Nothing that is read by the entry itself is judged to be raw, and no element of a row is read.
abbrev pub Tame : Gram → Type 0
Tame (seq g h) = Tame g × Tame h
Tame (alt t g h) = Tame g × Tame h
Tame (star t g) = Tame g
Tame (many e c g) = Tame g
Tame (group d g) = Tame g
Tame (judged v g) = ((x : Tree) → v x ≡ AsRaw → ⊥) × Tame g
Tame (called n g) = Tame g
Tame (ref k) = is_element k ≡ false
Tame _ = Unit {0}

-- the same, where nothing is judged
abbrev pub is_tame : Gram → Bool
is_tame (seq g h) = is_tame g && is_tame h
is_tame (alt t g h) = is_tame g && is_tame h
is_tame (star t g) = is_tame g
is_tame (many e c g) = is_tame g
is_tame (group d g) = is_tame g
is_tame (judged v g) = false
is_tame (called n g) = is_tame g
is_tame (ref k) = not (is_element k)
is_tame _ = true

pub tame : (g : Gram) → is_tame g ≡ true → Tame g
tame (seq g h) e = let i = and_true (is_tame g) (is_tame h) e in (tame g i.0, tame h i.1)
tame (alt t g h) e = let i = and_true (is_tame g) (is_tame h) e in (tame g i.0, tame h i.1)
tame (star t g) e = tame g e
tame (many t c g) e = tame g e
tame (group d g) e = tame g e
tame (judged v g) e = cc
tame (called n g) e = tame g e
tame (ref k) e = not_true (is_element k) e
tame _ e = tt

-- an entry that is judged as a whole
abbrev judged_tame : Gram → Bool
judged_tame (judged v g) = is_tame g
judged_tame g = false

abbrev NotRaw : Gram → Type 0
NotRaw (judged v g) = (x : Tree) → v x ≡ AsRaw → ⊥
NotRaw g = Unit {0}

tame_whole : (g : Gram) → judged_tame g ≡ true → NotRaw g → Tame g
tame_whole (judged v g) e f = (f, tame g e)
tame_whole _ e f = cc

strict : (w : Verdict) → strictly w ≡ AsRaw → ⊥
strict Keep e = cc
strict AsRaw e = cc
strict Refuse e = cc

pub all_tame : (k : Kind) → is_element k ≡ false → is_row k ≡ false → Tame (table k)
unfolding table
all_tame (DynType WithPlus) e f = tame (table (DynType WithPlus)) refl
all_tame (DynType WithoutPlus) e f = tame (table (DynType WithoutPlus)) refl
all_tame (ImplType WithPlus) e f = tame (table (ImplType WithPlus)) refl
all_tame (ImplType WithoutPlus) e f = tame (table (ImplType WithoutPlus)) refl
all_tame SomeBounds e f = tame_whole (table SomeBounds) refl (λ x i. kept_or_refused _ i)
all_tame FieldPatterns e f = tame_whole (table FieldPatterns) refl (λ x i. kept_or_refused _ i)
all_tame FieldValues e f = tame_whole (table FieldValues) refl (λ x i. kept_or_refused _ i)
all_tame Arm e f = tame_whole (table Arm) refl (λ x i. kept_or_refused _ i)
all_tame Parameters e f = tame_whole (table Parameters) refl (λ x i. kept_or_refused _ i)
all_tame FnArg e f = tame_whole (table FnArg) refl (λ x i. kept_or_refused _ i)
all_tame ATrait e f = tame_whole (table ATrait) refl (λ x i. kept_or_refused _ i)
all_tame AnImpl e f = tame_whole (table AnImpl) refl (λ x i. kept_or_refused _ i)
all_tame ARestrictedTrait e f = (
  tt,
  (
    tame restriction refl,
    (
      tame (optional (at "const") (keyword "const")) refl,
      (
        λ x i. kept_or_refused _ i,
        tame trait_form refl,
      ),
    ),
  ),
)
all_tame (Signature InFile) e f = tame (table (Signature InFile)) refl
all_tame (Signature InForeign) e f = tame (table (Signature InForeign)) refl
all_tame (Signature InTrait) e f = tame (table (Signature InTrait)) refl
all_tame (Signature InImpl) e f = tame (table (Signature InImpl)) refl
all_tame (ATypeAlias InFile) e f = tame (table (ATypeAlias InFile)) refl
all_tame (ATypeAlias InForeign) e f = tame (table (ATypeAlias InForeign)) refl
all_tame (ATypeAlias InTrait) e f = tame (table (ATypeAlias InTrait)) refl
all_tame (ATypeAlias InImpl) e f = tame (table (ATypeAlias InImpl)) refl
all_tame (ItemMacro InFile) e f = tame (table (ItemMacro InFile)) refl
all_tame (ItemMacro InForeign) e f = tame (table (ItemMacro InForeign)) refl
all_tame (ItemMacro InTrait) e f = tame (table (ItemMacro InTrait)) refl
all_tame (ItemMacro InImpl) e f = tame (table (ItemMacro InImpl)) refl
all_tame ItemStruct e f = tame_whole (table ItemStruct) refl (λ x i. strict _ i)
all_tame ItemEnum e f = tame_whole (table ItemEnum) refl (λ x i. strict _ i)
all_tame ItemUnion e f = tame_whole (table ItemUnion) refl (λ x i. strict _ i)
all_tame ItemFn e f = tame_whole (table ItemFn) refl (λ x i. strict _ i)
all_tame ItemExternCrate e f = tame_whole (table ItemExternCrate) refl (λ x i. strict _ i)
all_tame ItemForeignMod e f = tame_whole (table ItemForeignMod) refl (λ x i. strict _ i)
all_tame ItemUse e f = tame_whole (table ItemUse) refl (λ x i. strict _ i)
all_tame ItemStatic e f = tame_whole (table ItemStatic) refl (λ x i. strict _ i)
all_tame ItemConst e f = tame_whole (table ItemConst) refl (λ x i. strict _ i)
all_tame ItemMod e f = tame_whole (table ItemMod) refl (λ x i. strict _ i)
all_tame ItemType e f = tame_whole (table ItemType) refl (λ x i. strict _ i)
all_tame ItemImpl e f = tame_whole (table ItemImpl) refl (λ x i. strict _ i)
all_tame ItemTrait e f = tame_whole (table ItemTrait) refl (λ x i. kept_or_refused _ i)
all_tame ItemTraitAlias e f = tame_whole (table ItemTraitAlias) refl (λ x i. kept_or_refused _ i)
all_tame (OneFunction InFile) e f = tame_whole (table (OneFunction InFile)) refl (λ x i. strict _ i)
all_tame (OneFunction InForeign) e f = tame_whole (table (OneFunction InForeign)) refl (λ x i. strict _ i)
all_tame (OneFunction InTrait) e f = tame_whole (table (OneFunction InTrait)) refl (λ x i. strict _ i)
all_tame (OneFunction InImpl) e f = tame_whole (table (OneFunction InImpl)) refl (λ x i. strict _ i)
all_tame (OneTypeAlias InFile) e f = tame_whole (table (OneTypeAlias InFile)) refl (λ x i. strict _ i)
all_tame (OneTypeAlias InForeign) e f = tame_whole (table (OneTypeAlias InForeign)) refl (λ x i. strict _ i)
all_tame (OneTypeAlias InTrait) e f = tame_whole (table (OneTypeAlias InTrait)) refl (λ x i. strict _ i)
all_tame (OneTypeAlias InImpl) e f = tame_whole (table (OneTypeAlias InImpl)) refl (λ x i. strict _ i)
all_tame (OneConst InFile) e f = tame_whole (table (OneConst InFile)) refl (λ x i. strict _ i)
all_tame (OneConst InForeign) e f = tame_whole (table (OneConst InForeign)) refl (λ x i. strict _ i)
all_tame (OneConst InTrait) e f = tame_whole (table (OneConst InTrait)) refl (λ x i. strict _ i)
all_tame (OneConst InImpl) e f = tame_whole (table (OneConst InImpl)) refl (λ x i. strict _ i)
all_tame ForeignItemStatic e f = tame_whole (table ForeignItemStatic) refl (λ x i. strict _ i)
all_tame ALet e f = tame_whole (table ALet) refl (λ x i. kept_or_refused _ i)
all_tame AnItem e f = cc
all_tame AForeignItem e f = cc
all_tame ATraitItem e f = cc
all_tame AnImplItem e f = cc
all_tame AStatement e f = cc
all_tame OneStatement e f = cc
all_tame Items e f = cc
all_tame ForeignItems e f = cc
all_tame TraitItems e f = cc
all_tame ImplItems e f = cc
all_tame Statements e f = cc
all_tame k e f = tame (table k) refl
