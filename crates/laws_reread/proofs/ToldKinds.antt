-- Each entry refers to kinds that have a step, and each form is of a kind that has one: so only the kind of a whole
-- tree is to be asked.
use Rattle.std.proofs.Common.{◌≡◌, List, refl}
use Rattle.std.specs.Prelude.{Bool, true, ◌&&◌, Some}
use Rattle.proc_macro2.specs.Token.{Token}
use Rattle.syn_grammar.specs.Kind.{Kind, Position, AFunction, AType, ATypeAlias, AnyPath, AtType, DynType, ImplType}
use Rattle.syn_grammar.specs.Kind.{InExpression, InFile, InForeign, InImpl, InModule}
use Rattle.syn_grammar.specs.Kind.{InTrait, InType, ItemMacro, OneConst, OneFunction, OneMacro, OneTypeAlias, Path}
use Rattle.syn_grammar.specs.Kind.{QualifiedPath, ReturnType, Segment, Segments, Signature, WithPlus, WithoutPlus}
use Rattle.syn_grammar.specs.Gram.{Gram, alt, called, dropped, group, judged, many, ref, seq, star}
use Rattle.syn_grammar.specs.Table.{table}
use Rattle.syn_grammar.specs.Forms.{back, backs, front, fronts}
use Rattle.laws_binding.proofs.Begun.{first_passes}
use Rattle.laws_reread_kinds.specs.Covered.{has_form_step, has_step, is_form, is_known}

-- the kinds that an entry refers to have a step
abbrev pub refs_known : Gram → Bool
refs_known (seq a b) = refs_known a && refs_known b
refs_known (alt t a b) = refs_known a && refs_known b
refs_known (star t g) = refs_known g
refs_known (many e c g) = refs_known g
refs_known (group d g) = refs_known g
refs_known (judged v g) = refs_known g
refs_known (dropped g) = refs_known g
refs_known (called n g) = refs_known g
refs_known (ref k) = is_known k
refs_known _ = true

pub all_known : (k : Kind) → refs_known (table k) ≡ true
unfolding table has_step has_form_step
all_known (Path InModule) = refl
all_known (Path InExpression) = refl
all_known (Path InType) = refl
all_known (Path AtType) = refl
all_known (Segments InModule) = refl
all_known (Segments InExpression) = refl
all_known (Segments InType) = refl
all_known (Segments AtType) = refl
all_known (Segment InModule) = refl
all_known (Segment InExpression) = refl
all_known (Segment InType) = refl
all_known (Segment AtType) = refl
all_known (QualifiedPath InModule) = refl
all_known (QualifiedPath InExpression) = refl
all_known (QualifiedPath InType) = refl
all_known (QualifiedPath AtType) = refl
all_known (AnyPath InModule) = refl
all_known (AnyPath InExpression) = refl
all_known (AnyPath InType) = refl
all_known (AnyPath AtType) = refl
all_known (AType WithPlus) = refl
all_known (AType WithoutPlus) = refl
all_known (DynType WithPlus) = refl
all_known (DynType WithoutPlus) = refl
all_known (ImplType WithPlus) = refl
all_known (ImplType WithoutPlus) = refl
all_known (ReturnType WithPlus) = refl
all_known (ReturnType WithoutPlus) = refl
all_known (Signature InFile) = refl
all_known (Signature InForeign) = refl
all_known (Signature InTrait) = refl
all_known (Signature InImpl) = refl
all_known (AFunction InFile) = refl
all_known (AFunction InForeign) = refl
all_known (AFunction InTrait) = refl
all_known (AFunction InImpl) = refl
all_known (ATypeAlias InFile) = refl
all_known (ATypeAlias InForeign) = refl
all_known (ATypeAlias InTrait) = refl
all_known (ATypeAlias InImpl) = refl
all_known (ItemMacro InFile) = refl
all_known (ItemMacro InForeign) = refl
all_known (ItemMacro InTrait) = refl
all_known (ItemMacro InImpl) = refl
all_known (OneMacro InFile) = refl
all_known (OneMacro InForeign) = refl
all_known (OneMacro InTrait) = refl
all_known (OneMacro InImpl) = refl
all_known (OneFunction InFile) = refl
all_known (OneFunction InForeign) = refl
all_known (OneFunction InTrait) = refl
all_known (OneFunction InImpl) = refl
all_known (OneTypeAlias InFile) = refl
all_known (OneTypeAlias InForeign) = refl
all_known (OneTypeAlias InTrait) = refl
all_known (OneTypeAlias InImpl) = refl
all_known (OneConst InFile) = refl
all_known (OneConst InForeign) = refl
all_known (OneConst InTrait) = refl
all_known (OneConst InImpl) = refl
all_known _ = refl

-- the kinds of forms, in each position
pub front_form : (p : Position) (k : Kind) (ts : List Token) → front p ts ≡ Some k → is_form k ≡ true
unfolding front has_form_step
front_form p k ts e = first_passes is_form (fronts p) ts k refl e

pub back_form : (p : Position) (k : Kind) (ts : List Token) → back p ts ≡ Some k → is_form k ≡ true
unfolding back has_form_step
back_form p k ts e = first_passes is_form (backs p) ts k refl e
