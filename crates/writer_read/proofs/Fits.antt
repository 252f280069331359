-- Where expressions stand in an entry, and that braces stand behind a condition.
use Rattle.std.proofs.Common.{◌≡◌, List, [], ◌∷◌, ◌++◌, refl, sym, ap, ◌∙◌, append_assoc, subst}
use Rattle.std.specs.Prelude.{Bool, true, false, not, ◌&&◌, ◌||◌}
use Rattle.proc_macro2.specs.Token.{Token, Opens, Closes}
use Rattle.proc_macro2.specs.declared.delimiter.Delimiter.TheVariants.{Brace}
use Rattle.syn_grammar.specs.Kind.{Kind, InModule, InExpression, InType, AtType, WithPlus}
use Rattle.syn_grammar.specs.Kind.{WithoutPlus, InFile, InForeign, InTrait, InImpl, Position, Plain, InCondition}
use Rattle.syn_grammar.specs.Kind.{InArm, InStatement, Expression, AStatement, Block, Body, Signature, AFunction}
use Rattle.syn_grammar.specs.Kind.{ATypeAlias, ItemMacro, OneMacro, OneFunction, OneTypeAlias, OneConst, Path, Segments}
use Rattle.syn_grammar.specs.Kind.{Segment, QualifiedPath, AnyPath, AType, DynType, ImplType, ReturnType}
use Rattle.syn_grammar.specs.Tree.{Tree, Pair, Group, Node, flat}
use Rattle.syn_grammar.specs.Gram.{Gram, literal, mark, seq, alt, star, many}
use Rattle.syn_grammar.specs.Gram.{group, judged, called, ref, operand}
use Rattle.syn_grammar.specs.Look.{sees}
use Rattle.syn_grammar.specs.Say.{brace}
use Rattle.syn_grammar.specs.Table.{table}
use Rattle.syn_grammar.specs.Derives.{Derives}
use Rattle.syn_grammar.specs.Normal.{place_of}

abbrev pub begins_brace : Gram → Bool
begins_brace (group Brace g) = true
begins_brace (ref Block) = true
begins_brace (ref Body) = true
begins_brace (seq g h) = begins_brace g
begins_brace _ = false

abbrev pub is_position : Position → Position → Bool
is_position Plain Plain = true
is_position InCondition InCondition = true
is_position InArm InArm = true
is_position InStatement InStatement = true
is_position _ _ = false

abbrev pub is_condition : Position → Bool
is_condition InCondition = true
is_condition _ = false

-- turns, whose last mark stays as it is, but for those of statements
abbrev pub is_turn : Gram → Bool
is_turn (ref k) = true
is_turn (literal q) = true
is_turn (seq g h) = true
is_turn (alt t (mark c cs) (ref AStatement)) = true
is_turn _ = false

-- in a position, where braces stand behind or may not
abbrev pub fits : Position → Bool → Gram → Bool
fits p b (ref (Expression q)) = is_position q p && (b || not (is_condition q))
fits p b (operand q n) = false
fits p b (seq g h) = fits p (begins_brace h) g && fits p b h
fits p b (alt t g h) = fits p b g && fits p b h
fits p b (star t g) = is_turn g && fits p false g
fits p b (many e c g) = fits p false g
fits p b (group d g) = fits p false g
fits p b (judged v g) = fits p b g
fits p b (called n g) = fits (place_of n) b g
fits p b _ = true

abbrev pub is_expression : Kind → Bool
is_expression (Expression p) = true
is_expression _ = false

pub all_fit : (k : Kind) → is_expression k ≡ false → fits Plain false (table k) ≡ true
unfolding table place_of
all_fit (Path InModule) e = refl
all_fit (Path InExpression) e = refl
all_fit (Path InType) e = refl
all_fit (Path AtType) e = refl
all_fit (Segments InModule) e = refl
all_fit (Segments InExpression) e = refl
all_fit (Segments InType) e = refl
all_fit (Segments AtType) e = refl
all_fit (Segment InModule) e = refl
all_fit (Segment InExpression) e = refl
all_fit (Segment InType) e = refl
all_fit (Segment AtType) e = refl
all_fit (QualifiedPath InModule) e = refl
all_fit (QualifiedPath InExpression) e = refl
all_fit (QualifiedPath InType) e = refl
all_fit (QualifiedPath AtType) e = refl
all_fit (AnyPath InModule) e = refl
all_fit (AnyPath InExpression) e = refl
all_fit (AnyPath InType) e = refl
all_fit (AnyPath AtType) e = refl
all_fit (AType WithPlus) e = refl
all_fit (AType WithoutPlus) e = refl
all_fit (DynType WithPlus) e = refl
all_fit (DynType WithoutPlus) e = refl
all_fit (ImplType WithPlus) e = refl
all_fit (ImplType WithoutPlus) e = refl
all_fit (ReturnType WithPlus) e = refl
all_fit (ReturnType WithoutPlus) e = refl
all_fit (Signature InFile) e = refl
all_fit (Signature InForeign) e = refl
all_fit (Signature InTrait) e = refl
all_fit (Signature InImpl) e = refl
all_fit (AFunction InFile) e = refl
all_fit (AFunction InForeign) e = refl
all_fit (AFunction InTrait) e = refl
all_fit (AFunction InImpl) e = refl
all_fit (ATypeAlias InFile) e = refl
all_fit (ATypeAlias InForeign) e = refl
all_fit (ATypeAlias InTrait) e = refl
all_fit (ATypeAlias InImpl) e = refl
all_fit (ItemMacro InFile) e = refl
all_fit (ItemMacro InForeign) e = refl
all_fit (ItemMacro InTrait) e = refl
all_fit (ItemMacro InImpl) e = refl
all_fit (OneMacro InFile) e = refl
all_fit (OneMacro InForeign) e = refl
all_fit (OneMacro InTrait) e = refl
all_fit (OneMacro InImpl) e = refl
all_fit (OneFunction InFile) e = refl
all_fit (OneFunction InForeign) e = refl
all_fit (OneFunction InTrait) e = refl
all_fit (OneFunction InImpl) e = refl
all_fit (OneTypeAlias InFile) e = refl
all_fit (OneTypeAlias InForeign) e = refl
all_fit (OneTypeAlias InTrait) e = refl
all_fit (OneTypeAlias InImpl) e = refl
all_fit (OneConst InFile) e = refl
all_fit (OneConst InForeign) e = refl
all_fit (OneConst InTrait) e = refl
all_fit (OneConst InImpl) e = refl
all_fit (Expression p) e = cc
all_fit _ e = refl

pub position_is : (q p : Position) → is_position q p ≡ true → q ≡ p
position_is Plain Plain e = refl
position_is InCondition InCondition e = refl
position_is InArm InArm e = refl
position_is InStatement InStatement e = refl
position_is _ _ e = cc

-- a brace stands first
brace_group : (x : Tree) (g : Gram) (r : List Token) → Derives x (group Brace g) r → sees brace (flat x ++ r) ≡ true
brace_group (Group d x) g r e = subst (λ c. sees brace (Opens c ∷ (flat x ++ Closes c ∷ []) ++ r) ≡ true) (sym e.0) refl
brace_group _ g r e = absurd e

brace_block : (x : Tree) (r : List Token) → Derives x (ref Block) r → sees brace (flat x ++ r) ≡ true
unfolding table
brace_block (Node k x) r e = brace_group x _ r (subst (λ j. Derives x (table j) r) e.0 e.1)
brace_block _ r e = absurd e

brace_body : (x : Tree) (r : List Token) → Derives x (ref Body) r → sees brace (flat x ++ r) ≡ true
unfolding table
brace_body (Node k x) r e = brace_group x _ r (subst (λ j. Derives x (table j) r) e.0 e.1)
brace_body _ r e = absurd e

pub brace_first : (g : Gram) (x : Tree) (r : List Token) → begins_brace g ≡ true → Derives x g r
    → sees brace (flat x ++ r) ≡ true
brace_first (group Brace g) x r b d = brace_group x g r d
brace_first (ref Block) x r b d = brace_block x r d
brace_first (ref Body) x r b d = brace_body x r d
brace_first (seq g h) (Pair x y) r b d =
    ap (sees brace) (append_assoc (flat x) (flat y) r) ∙ brace_first g x (flat y ++ r) b d.0
brace_first (seq g h) _ r b d = absurd d
brace_first _ x r b d = cc
