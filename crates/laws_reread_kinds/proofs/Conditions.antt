-- Behind a condition stands a brace: in each entry, whatever was read.
use Rattle.std.proofs.Common.{◌≡◌, List, ◌++◌, refl, sym, ap, ◌∙◌, subst, append_assoc}
use Rattle.std.specs.Prelude.{Bool, true, false, not, ◌&&◌, ◌||◌}
use Rattle.std.proofs.lemmas.Bool.{false≢true}
use Rattle.proc_macro2.specs.Token.{Token}
use Rattle.proc_macro2.specs.declared.delimiter.Delimiter.{Delimiter}
use Rattle.proc_macro2.specs.declared.delimiter.Delimiter.TheVariants.{Brace}
use Rattle.syn_grammar.specs.Kind.{Kind, Position, Path, Segments, Segment, QualifiedPath, AnyPath, AType, DynType}
use Rattle.syn_grammar.specs.Kind.{ImplType, ReturnType, Expression, Signature, AFunction, ATypeAlias, ItemMacro}
use Rattle.syn_grammar.specs.Kind.{OneMacro, OneFunction, OneTypeAlias, OneConst, Block, Body}
use Rattle.syn_grammar.specs.Kind.{InModule, InExpression, InType, AtType, WithPlus, WithoutPlus}
use Rattle.syn_grammar.specs.Kind.{Plain, InCondition, InArm, InStatement, InFile, InForeign, InTrait, InImpl}
use Rattle.syn_grammar.specs.Tree.{Tree, Pair, Group, Node, flat}
use Rattle.syn_grammar.specs.Gram.{Gram, seq, alt, star, many, group, judged, called, ref, operand}
use Rattle.syn_grammar.specs.Look.{sees}
use Rattle.syn_grammar.specs.Say.{brace}
use Rattle.syn_grammar.specs.Table.{table}
use Rattle.syn_grammar.specs.Derives.{Derives}

-- an entry ends in a condition
abbrev pub is_condition : Position → Bool
is_condition InCondition = true
is_condition p = false

abbrev pub is_condition_kind : Kind → Bool
is_condition_kind (Expression p) = is_condition p
is_condition_kind k = false

abbrev pub ends_in_condition : Gram → Bool
ends_in_condition (seq a b) = ends_in_condition b
ends_in_condition (alt t a b) = ends_in_condition a || ends_in_condition b
ends_in_condition (judged v g) = ends_in_condition g
ends_in_condition (called n g) = ends_in_condition g
ends_in_condition (ref k) = is_condition_kind k
ends_in_condition (operand p n) = is_condition p
ends_in_condition _ = false

-- an entry begins with a brace
abbrev is_brace : Delimiter → Bool
is_brace Brace = true
is_brace d = false

abbrev is_block : Kind → Bool
is_block Block = true
is_block Body = true
is_block k = false

abbrev pub begins_in_braces : Gram → Bool
begins_in_braces (group d g) = is_brace d
begins_in_braces (ref k) = is_block k
begins_in_braces (seq a b) = begins_in_braces a
begins_in_braces _ = false

-- behind each condition in an entry stands what begins so
abbrev pub is_braced : Gram → Bool
is_braced (seq a b) = (not (ends_in_condition a) || begins_in_braces b) && (is_braced a && is_braced b)
is_braced (alt t a b) = is_braced a && is_braced b
is_braced (star t g) = not (ends_in_condition g) && is_braced g
is_braced (many e c g) = not (ends_in_condition g) && is_braced g
is_braced (group d g) = not (ends_in_condition g) && is_braced g
is_braced (judged v g) = is_braced g
is_braced (called n g) = is_braced g
is_braced _ = true

group_stands : (d e : Delimiter) (x : Tree) (g : Gram) (r : List Token) → is_brace e ≡ true
    → Derives (Group d x) (group e g) r → sees brace (flat (Group d x) ++ r) ≡ true
group_stands d Brace x g r e h =
    subst (λ c. sees brace (flat (Group c x) ++ r) ≡ true) (sym h.0) refl
group_stands d _ x g r e h = cc e

in_group_stands : (y : Tree) (g : Gram) (r : List Token) → Derives y (group Brace g) r
    → sees brace (flat y ++ r) ≡ true
in_group_stands (Group d x) g r h = group_stands d Brace x g r refl h
in_group_stands _ g r h = absurd h

block_stands : (k : Kind) (x : Tree) (r : List Token) → is_block k ≡ true → Derives x (table k) r
    → sees brace (flat x ++ r) ≡ true
unfolding table
block_stands Block x r e d = in_group_stands x _ r d
block_stands Body x r e d = in_group_stands x _ r d
block_stands _ x r e d = absurd (false≢true e)

pub brace_stands : (g : Gram) (y : Tree) (r : List Token) → begins_in_braces g ≡ true → Derives y g r
    → sees brace (flat y ++ r) ≡ true
brace_stands (group e g) (Group d x) r h i = group_stands d e x g r h i
brace_stands (ref k) (Node l x) r h i =
    block_stands l x r (ap is_block i.0 ∙ h) i.1
brace_stands (seq a b) (Pair x y) r h i =
    subst (λ ts. sees brace ts ≡ true) (sym (append_assoc (flat x) (flat y) r))
    (brace_stands a x (flat y ++ r) h i.0)
brace_stands (group e g) _ r h i = absurd i
brace_stands (ref k) _ r h i = absurd i
brace_stands (seq a b) _ r h i = absurd i
brace_stands _ y r h i = absurd (false≢true h)

-- of each kind
pub all_braced : (k : Kind) → is_braced (table k) ≡ true
unfolding table
all_braced (Path InModule) = refl
all_braced (Path InExpression) = refl
all_braced (Path InType) = refl
all_braced (Path AtType) = refl
all_braced (Segments InModule) = refl
all_braced (Segments InExpression) = refl
all_braced (Segments InType) = refl
all_braced (Segments AtType) = refl
all_braced (Segment InModule) = refl
all_braced (Segment InExpression) = refl
all_braced (Segment InType) = refl
all_braced (Segment AtType) = refl
all_braced (QualifiedPath InModule) = refl
all_braced (QualifiedPath InExpression) = refl
all_braced (QualifiedPath InType) = refl
all_braced (QualifiedPath AtType) = refl
all_braced (AnyPath InModule) = refl
all_braced (AnyPath InExpression) = refl
all_braced (AnyPath InType) = refl
all_braced (AnyPath AtType) = refl
all_braced (AType WithPlus) = refl
all_braced (AType WithoutPlus) = refl
all_braced (DynType WithPlus) = refl
all_braced (DynType WithoutPlus) = refl
all_braced (ImplType WithPlus) = refl
all_braced (ImplType WithoutPlus) = refl
all_braced (ReturnType WithPlus) = refl
all_braced (ReturnType WithoutPlus) = refl
all_braced (Expression Plain) = refl
all_braced (Expression InCondition) = refl
all_braced (Expression InArm) = refl
all_braced (Expression InStatement) = refl
all_braced (Signature InFile) = refl
all_braced (Signature InForeign) = refl
all_braced (Signature InTrait) = refl
all_braced (Signature InImpl) = refl
all_braced (AFunction InFile) = refl
all_braced (AFunction InForeign) = refl
all_braced (AFunction InTrait) = refl
all_braced (AFunction InImpl) = refl
all_braced (ATypeAlias InFile) = refl
all_braced (ATypeAlias InForeign) = refl
all_braced (ATypeAlias InTrait) = refl
all_braced (ATypeAlias InImpl) = refl
all_braced (ItemMacro InFile) = refl
all_braced (ItemMacro InForeign) = refl
all_braced (ItemMacro InTrait) = refl
all_braced (ItemMacro InImpl) = refl
all_braced (OneMacro InFile) = refl
all_braced (OneMacro InForeign) = refl
all_braced (OneMacro InTrait) = refl
all_braced (OneMacro InImpl) = refl
all_braced (OneFunction InFile) = refl
all_braced (OneFunction InForeign) = refl
all_braced (OneFunction InTrait) = refl
all_braced (OneFunction InImpl) = refl
all_braced (OneTypeAlias InFile) = refl
all_braced (OneTypeAlias InForeign) = refl
all_braced (OneTypeAlias InTrait) = refl
all_braced (OneTypeAlias InImpl) = refl
all_braced (OneConst InFile) = refl
all_braced (OneConst InForeign) = refl
all_braced (OneConst InTrait) = refl
all_braced (OneConst InImpl) = refl
all_braced _ = refl

pub condition_ends : (k : Kind) → ends_in_condition (table k) ≡ is_condition_kind k
unfolding table
condition_ends (Path InModule) = refl
condition_ends (Path InExpression) = refl
condition_ends (Path InType) = refl
condition_ends (Path AtType) = refl
condition_ends (Segments InModule) = refl
condition_ends (Segments InExpression) = refl
condition_ends (Segments InType) = refl
condition_ends (Segments AtType) = refl
condition_ends (Segment InModule) = refl
condition_ends (Segment InExpression) = refl
condition_ends (Segment InType) = refl
condition_ends (Segment AtType) = refl
condition_ends (QualifiedPath InModule) = refl
condition_ends (QualifiedPath InExpression) = refl
condition_ends (QualifiedPath InType) = refl
condition_ends (QualifiedPath AtType) = refl
condition_ends (AnyPath InModule) = refl
condition_ends (AnyPath InExpression) = refl
condition_ends (AnyPath InType) = refl
condition_ends (AnyPath AtType) = refl
condition_ends (AType WithPlus) = refl
condition_ends (AType WithoutPlus) = refl
condition_ends (DynType WithPlus) = refl
condition_ends (DynType WithoutPlus) = refl
condition_ends (ImplType WithPlus) = refl
condition_ends (ImplType WithoutPlus) = refl
condition_ends (ReturnType WithPlus) = refl
condition_ends (ReturnType WithoutPlus) = refl
condition_ends (Expression Plain) = refl
condition_ends (Expression InCondition) = refl
condition_ends (Expression InArm) = refl
condition_ends (Expression InStatement) = refl
condition_ends (Signature InFile) = refl
condition_ends (Signature InForeign) = refl
condition_ends (Signature InTrait) = refl
condition_ends (Signature InImpl) = refl
condition_ends (AFunction InFile) = refl
condition_ends (AFunction InForeign) = refl
condition_ends (AFunction InTrait) = refl
condition_ends (AFunction InImpl) = refl
condition_ends (ATypeAlias InFile) = refl
condition_ends (ATypeAlias InForeign) = refl
condition_ends (ATypeAlias InTrait) = refl
condition_ends (ATypeAlias InImpl) = refl
condition_ends (ItemMacro InFile) = refl
condition_ends (ItemMacro InForeign) = refl
condition_ends (ItemMacro InTrait) = refl
condition_ends (ItemMacro InImpl) = refl
condition_ends (OneMacro InFile) = refl
condition_ends (OneMacro InForeign) = refl
condition_ends (OneMacro InTrait) = refl
condition_ends (OneMacro InImpl) = refl
condition_ends (OneFunction InFile) = refl
condition_ends (OneFunction InForeign) = refl
condition_ends (OneFunction InTrait) = refl
condition_ends (OneFunction InImpl) = refl
condition_ends (OneTypeAlias InFile) = refl
condition_ends (OneTypeAlias InForeign) = refl
condition_ends (OneTypeAlias InTrait) = refl
condition_ends (OneTypeAlias InImpl) = refl
condition_ends (OneConst InFile) = refl
condition_ends (OneConst InForeign) = refl
condition_ends (OneConst InTrait) = refl
condition_ends (OneConst InImpl) = refl
condition_ends _ = refl
