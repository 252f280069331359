-- What the verdict on an item saw of a constant and of an impl: they need not be asked of one that was kept.
use Rattle.std.proofs.Common.{◌≡◌, List, [], ◌++◌, refl, sym, ap, ◌∙◌, subst}
use Rattle.std.specs.Prelude.{Bool, true, false, ◌&&◌, ◌||◌, not, cond, Some, None}
use Rattle.std.proofs.lemmas.Bool.{false≢true}
use Rattle.proc_macro2.specs.Token.{Token}
use Rattle.syn_grammar.specs.Kind.{Kind, Place, AConst, AStatement, OneStatement, Statements, AnImpl, AnImplItem}
use Rattle.syn_grammar.specs.Kind.{AnItem, AnyPath, AFunction, AType}
use Rattle.syn_grammar.specs.Kind.{ATraitItem, ATypeAlias, DynType, Expression, ImplType, InForeign, InFile, InImpl}
use Rattle.syn_grammar.specs.Kind.{InTrait, ItemConst, ItemImpl, ItemMacro, OneConst, OneFunction, OneMacro}
use Rattle.syn_grammar.specs.Kind.{OneTypeAlias, Path, QualifiedPath, ReturnType, Segment, Segments, Signature}
use Rattle.syn_grammar.specs.Kind.{InModule, InExpression, InType, AtType, WithPlus, WithoutPlus}
use Rattle.syn_grammar.specs.Kind.{Plain, InCondition, InArm, InStatement}
use Rattle.syn_grammar.specs.Name.{same_part, the_const, the_first, the_generics, the_item, the_self, the_value}
use Rattle.syn_grammar.specs.Name.{the_where}
use Rattle.syn_grammar.specs.Tree.{Tree, AWord, ALiteral, AMark, ALifetime, Raw, Nil, Pair, First, Second, End, Again}
use Rattle.syn_grammar.specs.Tree.{Final, More, Group, Dropped, Called, Verbatim, Node, Whole, flat}
use Rattle.syn_grammar.specs.Part.{choice, found, has, or_else, or_nil, the}
use Rattle.syn_grammar.specs.Gram.{Gram, Verdict, Keep, AsRaw, Refuse, seq, alt, star, many, group, judged, dropped}
use Rattle.syn_grammar.specs.Gram.{called, ref, never as none}
use Rattle.syn_grammar.specs.Look.{lacks, sees, the_end}
use Rattle.syn_grammar.specs.Lists.{typed}
use Rattle.syn_grammar.specs.Verdicts.{const_is_raw, form_in, impl_is_raw, is_generic, is_path_type, is_where}
use Rattle.syn_grammar.specs.Verdicts.{item_verdict}
use Rattle.syn_grammar.specs.Verdicts.{marked, raw_if, refused_if, strictly}
use Rattle.syn_grammar.specs.Table.{table}
use Rattle.syn_grammar.specs.Derives.{Derives}
use Rattle.laws_reread_kinds.specs.Covered.{has_lone_value, has_own_trait}
use Rattle.laws_reread_kinds.proofs.CalledParts.{lacks_part, no_part}
use Rattle.laws_reread_kinds.proofs.Statements.{a_turn}
use Rattle.laws_reread_kinds.proofs.Choices.{both_same, both_true}
use Rattle.laws_reread.specs.Asked.{is_asked_alone}
use Rattle.laws_reread.proofs.ToldBraces.{goes_there}
use Rattle.laws_reread.proofs.ToldCalls.{statement_told}
use Rattle.laws_reread.proofs.ToldTurns.{turns_free}

-- Down to the nodes that a tree holds, each constant and each impl is as it is asked to be by itself.
abbrev pub are_settled : Tree → Bool
are_settled (Pair x y) = are_settled x && are_settled y
are_settled (First x) = are_settled x
are_settled (Second x) = are_settled x
are_settled (Again x y) = are_settled x && are_settled y
are_settled (Final x) = are_settled x
are_settled (More x c spacing y) = are_settled x && are_settled y
are_settled (Group d x) = are_settled x
are_settled (Dropped x) = are_settled x
are_settled (Called n x) = are_settled x
are_settled (Node k x) = is_asked_alone (Node k x)
are_settled _ = true

-- two at once
both_are : (a b : Bool) → a ≡ true → b ≡ true → (a && b) ≡ true
both_are a b e f = both_same a b true true e f

-- a kind that is neither a constant nor an impl nor a statement
abbrev is_plain_kind : Kind → Bool
is_plain_kind AConst = false
is_plain_kind AnImpl = false
is_plain_kind AStatement = false
is_plain_kind OneStatement = false
is_plain_kind k = true

-- an entry in which none of them stands
abbrev is_plain : Gram → Bool
is_plain (seq a b) = is_plain a && is_plain b
is_plain (alt t a b) = is_plain a && is_plain b
is_plain (star t g) = is_plain g
is_plain (many e c g) = is_plain g
is_plain (group d g) = is_plain g
is_plain (judged v g) = is_plain g
is_plain (dropped g) = is_plain g
is_plain (called n g) = is_plain g
is_plain (ref k) = is_plain_kind k
is_plain _ = true

-- of these there is nothing to be asked
plain_node : (k : Kind) (x : Tree) → is_plain_kind k ≡ true → are_settled (Node k x) ≡ true
plain_node AConst x h = absurd (false≢true h)
plain_node AnImpl x h = absurd (false≢true h)
plain_node AStatement x h = absurd (false≢true h)
plain_node OneStatement x h = absurd (false≢true h)
plain_node _ x h = refl

-- nor of what such an entry reads
plain_settled : (x : Tree) (g : Gram) (r : List Token) → Derives x g r → is_plain g ≡ true → are_settled x ≡ true
plain_settled (Pair x y) (seq a b) r d h =
    let k = both_true (is_plain a) (is_plain b) h in
    both_are (are_settled x) (are_settled y) (plain_settled x a _ d.0 k.0) (plain_settled y b r d.1 k.1)
plain_settled (First x) (alt t a b) r d h = plain_settled x a r d.1 (both_true (is_plain a) (is_plain b) h).0
plain_settled (Second x) (alt t a b) r d h = plain_settled x b r d.1 (both_true (is_plain a) (is_plain b) h).1
plain_settled (Again x y) (star t g) r d h =
    both_are (are_settled x) (are_settled y) (plain_settled x g _ d.1 h) (plain_settled y (star t g) r d.2 h)
plain_settled (Final x) (many e c g) r d h = plain_settled x g r d.1 h
plain_settled (More x o i y) (many e c g) r d h =
    both_are (are_settled x) (are_settled y) (plain_settled x g _ d.2 h) (plain_settled y (many e c g) r d.3 h)
plain_settled (Group e x) (group f g) r d h = plain_settled x g [] d.1 h
plain_settled (First x) (judged v g) r d h = plain_settled x g r d.1 h
plain_settled (Verbatim x) g r d h = refl
plain_settled (Dropped x) (dropped g) r d h = plain_settled x g r d h
plain_settled (Called n x) (called m g) r d h = plain_settled x g r d.1 h
plain_settled (Node k x) (ref l) r d h = plain_node k x (ap is_plain_kind d.0 ∙ h)
plain_settled (Whole x) g r d h = refl
plain_settled (AWord cs) g r d h = refl
plain_settled (ALiteral cs) g r d h = refl
plain_settled (AMark e cs i) g r d h = refl
plain_settled (ALifetime cs) g r d h = refl
plain_settled (Raw ts) g r d h = refl
plain_settled Nil g r d h = refl
plain_settled End g r d h = refl
plain_settled _ g r d h = absurd d

-- a verdict that keeps
raw_none : (b : Bool) → raw_if b ≡ Keep → b ≡ false
raw_none true e = cc e
raw_none false e = refl

-- one that may refuse
refused_none : (b : Bool) (v : Verdict) → refused_if b v ≡ Keep → v ≡ Keep
refused_none true v e = cc e
refused_none false v e = e

-- one on an item by itself
pub strictly_kept : (v : Verdict) → strictly v ≡ Keep → v ≡ Keep
strictly_kept Keep e = refl
strictly_kept AsRaw e = cc e
strictly_kept Refuse e = cc e

-- neither holds, so the second does not
second_none : (a b : Bool) → (a || b) ≡ false → b ≡ false
second_none true b e = cc e
second_none false b e = e

-- both do not, where the second does not
not_both : (a b : Bool) → b ≡ false → not (a && b) ≡ true
not_both true b e = ap not e
not_both false b e = refl

-- a constant that is not raw has no where clause
clear_where : (b : Bool) (x : Tree) → const_is_raw b x ≡ false → is_where (the the_where x) ≡ false
clear_where b x h =
    second_none (is_generic (the the_generics x)) (is_where (the the_where x))
    (second_none (b && not (has the_value x)) (is_generic (the the_generics x) || is_where (the the_where x)) h)

-- a constant that stands in that place, and is kept there
const_alone : (b : Bool) (x : Tree) → const_is_raw b x ≡ false → has_lone_value x ≡ true
const_alone b x h = not_both (has the_value x) (is_where (the the_where x)) (clear_where b x h)

const_settled : (p : Place) (v : Bool) (x : Tree) → form_in p v (Node AConst x) ≡ Keep → has_lone_value x ≡ true
const_settled InFile v x e = const_alone true x (raw_none (const_is_raw true x) e)
const_settled InTrait v x e =
    const_alone false x (second_none v (const_is_raw false x) (raw_none (v || const_is_raw false x) e))
const_settled InImpl v x e = const_alone true x (raw_none (const_is_raw true x) e)
const_settled InForeign v x e = cc e

-- in a trait stands no impl, and a statement is no item
abbrev stands_in : Place → Kind → Bool
stands_in p AStatement = false
stands_in p OneStatement = false
stands_in InTrait AnImpl = false
stands_in p k = true

-- an impl that does
impl_settled : (p : Place) (v : Bool) (x : Tree) → stands_in p AnImpl ≡ true → form_in p v (Node AnImpl x) ≡ Keep
    → has_own_trait x ≡ true
impl_settled InFile v x h e =
    ap not (second_none (has the_const x) (has the_self x && not (is_path_type (the the_first x)))
    (raw_none (impl_is_raw x) (refused_none _ _ e)))
impl_settled InTrait v x h e = absurd (false≢true h)
impl_settled InImpl v x h e = cc e
impl_settled InForeign v x h e = cc e

-- any kind that does
node_settled : (p : Place) (v : Bool) (k : Kind) (x : Tree) → stands_in p k ≡ true → form_in p v (Node k x) ≡ Keep
    → are_settled (Node k x) ≡ true
node_settled p v AConst x h e = const_settled p v x e
node_settled p v AnImpl x h e = impl_settled p v x h e
node_settled p v AStatement x h e = absurd (false≢true h)
node_settled p v OneStatement x h e = absurd (false≢true h)
node_settled p v _ x h e = refl

-- the alternatives of an item, each of which may stand in that place
abbrev is_choice : Place → Gram → Bool
is_choice p (alt t a b) = is_choice p a && is_choice p b
is_choice p (ref k) = stands_in p k
is_choice p none = true
is_choice p _ = false

-- what was chosen of them
chosen_settled : (p : Place) (v : Bool) (x : Tree) (g : Gram) (r : List Token) → Derives x g r → is_choice p g ≡ true
    → form_in p v (choice x) ≡ Keep → are_settled x ≡ true
chosen_settled p v (First x) (alt t a b) r d h e =
    chosen_settled p v x a r d.1 (both_true (is_choice p a) (is_choice p b) h).0 e
chosen_settled p v (Second x) (alt t a b) r d h e =
    chosen_settled p v x b r d.1 (both_true (is_choice p a) (is_choice p b) h).1 e
chosen_settled p v _ (alt t a b) r d h e = absurd d
chosen_settled p v (Node k x) (ref l) r d h e = node_settled p v k x (ap (stands_in p) d.0 ∙ h) e
chosen_settled p v _ (ref l) r d h e = absurd d
chosen_settled p v _ none r d h e = absurd d
chosen_settled p v x _ r d h e = absurd (false≢true h)

-- an entry of an item: the item stands last, and before it neither a constant nor an impl
abbrev is_item_entry : Place → Gram → Bool
is_item_entry p (seq a b) = (is_plain a && lacks_part the_item a) && is_item_entry p b
is_item_entry p (called m g) = same_part m the_item && is_choice p g
is_item_entry p _ = false

-- what it reads, where the item is kept
entry_settled : (p : Place) (v : Bool) (x : Tree) (g : Gram) (r : List Token) → Derives x g r
    → is_item_entry p g ≡ true → form_in p v (choice (the the_item x)) ≡ Keep → are_settled x ≡ true
entry_settled p v (Pair x y) (seq a b) r d h e =
    let k = both_true (is_plain a && lacks_part the_item a) (is_item_entry p b) h in
    let l = both_true (is_plain a) (lacks_part the_item a) k.0 in
    both_are (are_settled x) (are_settled y) (plain_settled x a _ d.0 l.0)
    (entry_settled p v y b r d.1 k.1
    (sym (ap (λ o. form_in p v (choice (or_nil (or_else o (found the_item y))))) (no_part the_item x a _ d.0 l.1)) ∙ e))
entry_settled p v _ (seq a b) r d h e = absurd d
entry_settled p v (Called n x) (called m g) r d h e =
    let k = both_true (same_part m the_item) (is_choice p g) h in
    chosen_settled p v x g r d.1 k.1
    (sym (ap (λ b. form_in p v (choice (or_nil (cond b (Some x) None)))) (ap (λ j. same_part j the_item) d.0
    ∙ k.0)) ∙ e)
entry_settled p v _ (called m g) r d h e = absurd d
entry_settled p v x _ r d h e = absurd (false≢true h)

-- an item among others
judged_settled : (p : Place) (g : Gram) (x : Tree) (r : List Token) → Derives x (judged (item_verdict p) g) r
    → is_item_entry p g ≡ true → are_settled x ≡ true
judged_settled p g (First x) r d h = entry_settled p (marked p x) x g r d.1 h d.0
judged_settled p g (Verbatim x) r d h = refl
judged_settled p g _ r d h = absurd d

-- one of a kind by itself
typed_settled : (p : Place) (g : Gram) (x : Tree) (r : List Token) → Derives x (judged (typed p) g) r
    → is_item_entry p g ≡ true → are_settled x ≡ true
typed_settled p g (First x) r d h = entry_settled p (marked p x) x g r d.1 h (strictly_kept (item_verdict p x) d.0)
typed_settled p g (Verbatim x) r d h = refl
typed_settled p g _ r d h = absurd d

-- statements: behind each begins another one, or nothing
turn_settled : (x : Tree) (r : List Token) → Derives x a_turn r → sees goes_there r ≡ false → are_settled x ≡ true
turn_settled (First (AMark c cs i)) r d f = refl
turn_settled (First _) r d f = absurd d.1
turn_settled (Second (Node k s)) r d f =
    subst (λ j. are_settled (Node j s) ≡ true) (sym d.1.0)
    (statement_told s r (subst (λ j. Derives s (table j) r) d.1.0 d.1.1) f)
turn_settled (Second _) r d f = absurd d.1
turn_settled _ r d f = absurd d

turns_settled : (x : Tree) (r : List Token) → Derives x (star (lacks the_end) a_turn) r → are_settled x ≡ true
turns_settled End r d = refl
turns_settled (Again x y) r d =
    both_are (are_settled x) (are_settled y) (turn_settled x (flat y ++ r) d.1 (turns_free y r d.2))
    (turns_settled y r d.2)
turns_settled _ r d = absurd d

statements_settled : (x : Tree) (r : List Token) → Derives x (table Statements) r → are_settled x ≡ true
unfolding table
statements_settled (First x) r d = turns_settled x r d.1
statements_settled (Verbatim x) r d = refl
statements_settled _ r d = absurd d

-- one by itself, as it is asked
pub statement_settled : (x : Tree) (r : List Token) → Derives x (table OneStatement) r
    → is_asked_alone (Node OneStatement x) ≡ true → are_settled x ≡ true
unfolding table
statement_settled (First (Node k x)) r d c = subst (λ j. are_settled (Node j x) ≡ true) (sym d.1.0) c
statement_settled (First _) r d c = absurd d.1
statement_settled (Verbatim x) r d c = refl
statement_settled _ r d c = absurd d

abbrev pub is_one_statement : Kind → Bool
is_one_statement OneStatement = true
is_one_statement k = false

-- of each other kind
pub settled_inside : (k : Kind) (x : Tree) (r : List Token) → Derives x (table k) r → is_one_statement k ≡ false
    → are_settled x ≡ true
unfolding table same_part
settled_inside OneStatement x r d n = absurd (false≢true (sym n))
settled_inside Statements x r d n = statements_settled x r d
settled_inside AnItem x r d n = judged_settled InFile _ x r d refl
settled_inside ATraitItem x r d n = judged_settled InTrait _ x r d refl
settled_inside AnImplItem x r d n = judged_settled InImpl _ x r d refl
settled_inside ItemConst x r d n = typed_settled InFile _ x r d refl
settled_inside ItemImpl x r d n = typed_settled InFile _ x r d refl
settled_inside (Path InModule) x r d n = plain_settled x _ r d refl
settled_inside (Path InExpression) x r d n = plain_settled x _ r d refl
settled_inside (Path InType) x r d n = plain_settled x _ r d refl
settled_inside (Path AtType) x r d n = plain_settled x _ r d refl
settled_inside (Segments InModule) x r d n = plain_settled x _ r d refl
settled_inside (Segments InExpression) x r d n = plain_settled x _ r d refl
settled_inside (Segments InType) x r d n = plain_settled x _ r d refl
settled_inside (Segments AtType) x r d n = plain_settled x _ r d refl
settled_inside (Segment InModule) x r d n = plain_settled x _ r d refl
settled_inside (Segment InExpression) x r d n = plain_settled x _ r d refl
settled_inside (Segment InType) x r d n = plain_settled x _ r d refl
settled_inside (Segment AtType) x r d n = plain_settled x _ r d refl
settled_inside (QualifiedPath InModule) x r d n = plain_settled x _ r d refl
settled_inside (QualifiedPath InExpression) x r d n = plain_settled x _ r d refl
settled_inside (QualifiedPath InType) x r d n = plain_settled x _ r d refl
settled_inside (QualifiedPath AtType) x r d n = plain_settled x _ r d refl
settled_inside (AnyPath InModule) x r d n = plain_settled x _ r d refl
settled_inside (AnyPath InExpression) x r d n = plain_settled x _ r d refl
settled_inside (AnyPath InType) x r d n = plain_settled x _ r d refl
settled_inside (AnyPath AtType) x r d n = plain_settled x _ r d refl
settled_inside (AType WithPlus) x r d n = plain_settled x _ r d refl
settled_inside (AType WithoutPlus) x r d n = plain_settled x _ r d refl
settled_inside (DynType WithPlus) x r d n = plain_settled x _ r d refl
settled_inside (DynType WithoutPlus) x r d n = plain_settled x _ r d refl
settled_inside (ImplType WithPlus) x r d n = plain_settled x _ r d refl
settled_inside (ImplType WithoutPlus) x r d n = plain_settled x _ r d refl
settled_inside (ReturnType WithPlus) x r d n = plain_settled x _ r d refl
settled_inside (ReturnType WithoutPlus) x r d n = plain_settled x _ r d refl
settled_inside (Expression Plain) x r d n = plain_settled x _ r d refl
settled_inside (Expression InCondition) x r d n = plain_settled x _ r d refl
settled_inside (Expression InArm) x r d n = plain_settled x _ r d refl
settled_inside (Expression InStatement) x r d n = plain_settled x _ r d refl
settled_inside (Signature InFile) x r d n = plain_settled x _ r d refl
settled_inside (Signature InForeign) x r d n = plain_settled x _ r d refl
settled_inside (Signature InTrait) x r d n = plain_settled x _ r d refl
settled_inside (Signature InImpl) x r d n = plain_settled x _ r d refl
settled_inside (AFunction InFile) x r d n = plain_settled x _ r d refl
settled_inside (AFunction InForeign) x r d n = plain_settled x _ r d refl
settled_inside (AFunction InTrait) x r d n = plain_settled x _ r d refl
settled_inside (AFunction InImpl) x r d n = plain_settled x _ r d refl
settled_inside (ATypeAlias InFile) x r d n = plain_settled x _ r d refl
settled_inside (ATypeAlias InForeign) x r d n = plain_settled x _ r d refl
settled_inside (ATypeAlias InTrait) x r d n = plain_settled x _ r d refl
settled_inside (ATypeAlias InImpl) x r d n = plain_settled x _ r d refl
settled_inside (ItemMacro InFile) x r d n = plain_settled x _ r d refl
settled_inside (ItemMacro InForeign) x r d n = plain_settled x _ r d refl
settled_inside (ItemMacro InTrait) x r d n = plain_settled x _ r d refl
settled_inside (ItemMacro InImpl) x r d n = plain_settled x _ r d refl
settled_inside (OneMacro InFile) x r d n = plain_settled x _ r d refl
settled_inside (OneMacro InForeign) x r d n = plain_settled x _ r d refl
settled_inside (OneMacro InTrait) x r d n = plain_settled x _ r d refl
settled_inside (OneMacro InImpl) x r d n = plain_settled x _ r d refl
settled_inside (OneFunction InFile) x r d n = plain_settled x _ r d refl
settled_inside (OneFunction InForeign) x r d n = plain_settled x _ r d refl
settled_inside (OneFunction InTrait) x r d n = plain_settled x _ r d refl
settled_inside (OneFunction InImpl) x r d n = plain_settled x _ r d refl
settled_inside (OneTypeAlias InFile) x r d n = plain_settled x _ r d refl
settled_inside (OneTypeAlias InForeign) x r d n = plain_settled x _ r d refl
settled_inside (OneTypeAlias InTrait) x r d n = plain_settled x _ r d refl
settled_inside (OneTypeAlias InImpl) x r d n = plain_settled x _ r d refl
settled_inside (OneConst InFile) x r d n = typed_settled InFile _ x r d refl
settled_inside (OneConst InForeign) x r d n = typed_settled InForeign _ x r d refl
settled_inside (OneConst InTrait) x r d n = typed_settled InTrait _ x r d refl
settled_inside (OneConst InImpl) x r d n = typed_settled InImpl _ x r d refl
settled_inside _ x r d n = plain_settled x _ r d refl
