-- A normal form is its own: what stays in its place stays, and what is put in parentheses stays in them.
use Rattle.std.proofs.Common.{◌≡◌, List, [], ◌∷◌, refl, sym, ap, ◌∙◌, subst, inl, inr}
use Rattle.std.specs.Prelude.{Bool, true, false, ◌&&◌, ◌||◌, ◌⊎◌, not, cond, Option, Some, None}
use Rattle.proc_macro2.specs.Token.{Token, Opens}
use Rattle.proc_macro2.specs.declared.delimiter.Delimiter.TheVariants.{Parenthesis}
use Rattle.rust_leaf.specs.declared.punct.Spacing.TheVariants.{Alone as Apart}
use Rattle.syn_grammar.specs.Kind.{Kind, Position, Plain, InCondition, InArm, InStatement, Expression, AStatement}
use Rattle.syn_grammar.specs.Kind.{AnItem, ExprStruct, ExprBreak, ExprPath, ExprReturn, ExprYield, ExprRange}
use Rattle.syn_grammar.specs.Kind.{ExprAttributed}
use Rattle.syn_grammar.specs.Tree.{Tree, AWord, ALiteral, AMark, ALifetime, Raw, Nil, Pair, First, Second, End, Again}
use Rattle.syn_grammar.specs.Tree.{Final, More, Group, Dropped, Called, Verbatim, Hidden, Node, Whole, Alone, Front}
use Rattle.syn_grammar.specs.Tree.{Back, Infix, flat}
use Rattle.syn_grammar.specs.Part.{has}
use Rattle.syn_grammar.specs.Name.{the_label}
use Rattle.syn_grammar.specs.Look.{seen, sees, first_seen, behind}
use Rattle.syn_grammar.specs.Say.{brace, parenthesis}
use Rattle.syn_grammar.specs.Forms.{has_right, inside, level, ends_there, is_dotted, may_be_left, chains, range_ends}
use Rattle.syn_grammar.specs.Forms.{brace_ends, operand_stands, struct_stands, within}
use Rattle.syn_grammar.specs.Parens.{in_parens, parens_unless, may_lack, takes_what_follows, is_label}
use Rattle.syn_grammar.specs.Parens.{is_attributed_range, stays_right, is_struct, stays_left, begins_in, stands_in}
use Rattle.syn_grammar.specs.Parens.{follow, alone, with_right, with_left, front_form, back_form, infix_form}
use Rattle.syn_grammar.specs.Tidy.{tidy}
use Rattle.syn_grammar.specs.Normal.{place_of, passed, stands_behind, apart_raw, apart_alternative, apart_item}
use Rattle.syn_grammar.specs.Normal.{apart_if, is_enclosed, normal_in, formed}
use Rattle.syn_grammar.proofs.TidyTwice.{IsNormal, both_normal, then_normal, tidy_normal, tidy_twice}
use Rattle.syn_grammar.proofs.Whole.{and_true}

-- tests

pub plain_inside : (k : Kind) → inside Plain k ≡ Plain
unfolding inside
plain_inside ExprAttributed = refl
plain_inside _ = refl

-- nothing that follows is taken
pub takes_nothing : (k : Kind) → takes_what_follows Plain k [] ≡ false
unfolding may_lack has_right
takes_nothing ExprBreak = refl
takes_nothing ExprReturn = refl
takes_nothing ExprYield = refl
takes_nothing ExprRange = refl
takes_nothing ExprPath = refl
takes_nothing _ = refl

none_seen : (o : Option (List Token)) → seen o ≡ false → o ≡ None
none_seen None e = refl
none_seen (Some ts) e = cc

first_none : (o : Option (List Token)) → first_seen o None ≡ o
first_none None = refl
first_none (Some ts) = refl

-- without a brace in front, what a form takes behind it is the same in a condition
no_brace : (p : Position) (ts : List Token) → sees brace ts ≡ false → brace_ends p ts ≡ None
no_brace Plain ts e = refl
no_brace InCondition ts e = none_seen (brace ts) e
no_brace InArm ts e = refl
no_brace InStatement ts e = refl

no_struct : (p : Position) (ts : List Token) → sees brace ts ≡ false
    → sees (struct_stands p) ts ≡ sees (struct_stands Plain) ts
no_struct Plain ts e = refl
no_struct InCondition ts e = sym e
no_struct InArm ts e = refl
no_struct InStatement ts e = refl

right_in : (p : Position) (k : Kind) (ts : List Token) → sees brace ts ≡ false
    → takes_what_follows p k ts ≡ takes_what_follows Plain k ts
unfolding may_lack has_right
right_in p ExprBreak ts e = ap (λ o. seen (behind (cond (seen o) None (Some ts)) operand_stands) || false)
    (no_brace p ts e)
right_in p ExprReturn ts e = refl
right_in p ExprYield ts e = refl
right_in p ExprRange ts e = ap (λ o. not (seen (first_seen (range_ends ts) o)) || false) (no_brace p ts e)
right_in p ExprPath ts e = no_struct p ts e
right_in p _ ts e = refl

-- what a form takes in a condition it takes
behind_none : (l : List Token → Option (List Token)) (o : Option (List Token)) (ts : List Token)
    → seen (behind (cond (seen o) None (Some ts)) l) ≡ true → seen (l ts) ≡ true
behind_none l None ts e = e
behind_none l (Some us) ts e = cc

open_none : (o p : Option (List Token)) → not (seen (first_seen o p)) ≡ true → not (seen (first_seen o None)) ≡ true
open_none None p e = refl
open_none (Some us) p e = e

taken_in : (p : Position) (k : Kind) (ts : List Token) → (not (may_lack k) || has_right p k ts) ≡ true
    → (not (may_lack k) || has_right Plain k ts) ≡ true
unfolding may_lack has_right
taken_in p ExprBreak ts e = behind_none operand_stands (brace_ends p ts) ts e
taken_in p ExprReturn ts e = e
taken_in p ExprYield ts e = e
taken_in p ExprRange ts e = open_none (range_ends ts) (brace_ends p ts) e
taken_in p _ ts e = refl

-- parentheses stay wherever they are put
or_true : (b : Bool) → (b || true) ≡ true
or_true true = refl
or_true false = refl

and_no : (b : Bool) → (b && false) ≡ false
and_no true = refl
and_no false = refl

cond_both : (b : Bool) → cond b true true ≡ true
cond_both true = refl
cond_both false = refl

label_paren : (k : Kind) (y : Tree) (ts : List Token) → is_label k y (Opens Parenthesis ∷ ts) ≡ false
label_paren ExprBreak y ts = go (has the_label y)
  where
    go : (b : Bool) → cond b false false ≡ false
    go true = refl
    go false = refl
label_paren _ y ts = refl

taken_paren : (p : Position) (k : Kind) (ts : List Token)
    → (not (may_lack k) || has_right p k (Opens Parenthesis ∷ ts)) ≡ true
unfolding may_lack has_right
taken_paren Plain ExprBreak ts = refl
taken_paren InCondition ExprBreak ts = refl
taken_paren InArm ExprBreak ts = refl
taken_paren InStatement ExprBreak ts = refl
taken_paren p ExprReturn ts = refl
taken_paren p ExprYield ts = refl
taken_paren Plain ExprRange ts = refl
taken_paren InCondition ExprRange ts = refl
taken_paren InArm ExprRange ts = refl
taken_paren InStatement ExprRange ts = refl
taken_paren Plain _ ts = refl
taken_paren InCondition _ ts = refl
taken_paren InArm _ ts = refl
taken_paren InStatement _ ts = refl

split_taken : (m h l a : Bool) → (m || h) ≡ true → l ≡ false → a ≡ false → ((m || (h && not l)) && not a) ≡ true
split_taken true h l a e f g = ap not g
split_taken false true l a e f g = ap (λ b. (not b) && not a) f ∙ ap not g
split_taken false false l a e f g = cc

range_paren : (k : Kind) (x : Tree) → is_attributed_range k (in_parens x) ≡ false
unfolding level
range_paren ExprAttributed x = refl
range_paren _ x = refl

paren_right : (p : Position) (k : Kind) (y x : Tree) → stays_right p k y (in_parens x) ≡ true
paren_right p k y x =
    split_taken (not (may_lack k)) (has_right p k (flat (in_parens x))) (is_label k y (flat (in_parens x)))
    (is_attributed_range k (in_parens x))
    (taken_paren p k _) (label_paren k y _) (range_paren k x)

left_paren : (k : Kind) (x : Tree) → (is_struct k || may_be_left k (in_parens x)) ≡ true
unfolding level
left_paren ExprStruct x = refl
left_paren _ x = refl

chains_paren : (k : Kind) (x : Tree) → chains (in_parens x) k ≡ false
unfolding chains level
chains_paren k x = and_no _

ends_paren : (p : Position) (x : Tree) → ends_there p (in_parens x) ≡ false
ends_paren Plain x = refl
ends_paren InCondition x = refl
ends_paren InArm x = refl
ends_paren InStatement x = refl

joined_left : (s a e d c n : Bool) → (s || a) ≡ true → e ≡ false → c ≡ false → n ≡ true
    → (s || ((a && (not e || d)) && (not c && n))) ≡ true
joined_left true a e d c n h i j l = refl
joined_left false true e d c n h i j l = ap (λ b. (not b || d) && (not c && n)) i ∙ ap (λ b. not b && n) j ∙ l
joined_left false false e d c n h i j l = cc

paren_left : (p : Position) (k : Kind) (y x : Tree) → stays_left p k y (in_parens x) ≡ true
paren_left p k y x =
    joined_left (is_struct k) (may_be_left k (in_parens x)) (ends_there p (in_parens x)) (is_dotted k)
    (chains (in_parens x) k) true
    (left_paren k x) (ends_paren p x) (chains_paren k x) refl

-- settled forms: none of their operands is put in parentheses any more
abbrev pub Settled : Position → List Token → Tree → Type 0
Settled p ts (Alone k y) = IsNormal Plain y × (takes_what_follows p k ts ≡ false)
Settled p ts (Front k y x) = IsNormal Plain y × (begins_in p k ≡ true) × (stays_right p k y x ≡ true)
    × Settled (inside p k) ts x
Settled p ts (Back l k y) =
    IsNormal Plain y × (stands_in p k ≡ true) × (takes_what_follows p k ts ≡ false) × (stays_left p k y l ≡ true)
    × Settled p (follow (flat y)) l
Settled p ts (Infix l k y r) =
    IsNormal Plain y × (stays_left p k y l ≡ true) × Settled p (follow (flat y)) l × (stays_right p k y r ≡ true)
    × Settled (inside p k) ts r
Settled p ts x = Unit {0}

right_stays : (p : Position) (k : Kind) (y x : Tree) → stays_right p k y x ≡ true → with_right p k y x ≡ x
right_stays p k y x e = ap (λ b. parens_unless b x) e

left_stays : (p : Position) (k : Kind) (y l : Tree) → stays_left p k y l ≡ true → with_left p k y l ≡ l
left_stays p k y l e = ap (λ b. parens_unless b l) e

pub settled_is : (p : Position) (ts : List Token) (x : Tree) → Settled p ts x → formed p ts x ≡ x
settled_is p ts (Alone k y) s = ap (alone p ts k) s.0 ∙ ap (λ b. parens_unless (not b) (Alone k y)) s.1
settled_is p ts (Front k y x) s =
    ap (λ z. front_form p k z (formed (inside p k) ts x)) s.0 ∙ ap (front_form p k y) (settled_is (inside p k) ts x s.3)
    ∙ ap (λ b. parens_unless b (Front k y (with_right p k y x))) s.1 ∙ ap (Front k y) (right_stays p k y x s.2)
settled_is p ts (Back l k y) s =
    ap (λ z. back_form p ts (formed p (follow (flat z)) l) k z) s.0
    ∙ ap (λ z. back_form p ts z k y) (settled_is p (follow (flat y)) l s.4)
    ∙ ap (λ b. parens_unless (b && not (takes_what_follows p k ts)) (Back (with_left p k y l) k y)) s.1
    ∙ ap (λ b. parens_unless (not b) (Back (with_left p k y l) k y)) s.2 ∙ ap (λ z. Back z k y) (left_stays p k y l s.3)
settled_is p ts (Infix l k y r) s =
    ap (λ z. infix_form p (formed p (follow (flat z)) l) k z (formed (inside p k) ts r)) s.0
    ∙ ap (λ z. infix_form p z k y (formed (inside p k) ts r)) (settled_is p (follow (flat y)) l s.2)
    ∙ ap (infix_form p l k y) (settled_is (inside p k) ts r s.4)
    ∙ ap (λ z. Infix z k y (with_right p k y r)) (left_stays p k y l s.1) ∙ ap (Infix l k y) (right_stays p k y r s.3)
settled_is p ts _ s = refl

-- what is settled in its place is settled in parentheses
abbrev Calmer : List Token → List Token → Type 0
Calmer ts us = (us ≡ []) ⊎ ((us ≡ ts) × (sees brace ts ≡ false))

calm_takes : (p : Position) (k : Kind) (ts us : List Token) → Calmer ts us → takes_what_follows p k ts ≡ false
    → takes_what_follows Plain k us ≡ false
calm_takes p k ts us (inl e) h = ap (takes_what_follows Plain k) e ∙ takes_nothing k
calm_takes p k ts us (inr e) h = ap (takes_what_follows Plain k) e.0 ∙ sym (right_in p k ts e.1) ∙ h

follow_calm : (ts : List Token) → sees brace (follow ts) ≡ false
follow_calm ts = go (sees brace ts) refl
  where
    go : (b : Bool) → sees brace ts ≡ b → sees brace (cond b [] ts) ≡ false
    go true e = refl
    go false e = e

taken_parts : (m h l a : Bool) → ((m || (h && not l)) && not a) ≡ true
    → ((m || h) ≡ true) × (((m || h) ≡ true → (m || h) ≡ true) → (m ≡ true) ⊎ (l ≡ false)) × (a ≡ false)
taken_parts true h l true e = cc
taken_parts true h l false e = (refl, λ f. inl refl, refl)
taken_parts false true false true e = cc
taken_parts false true false false e = (refl, λ f. inr refl, refl)
taken_parts false true true a e = cc
taken_parts false false l a e = cc

rejoin : (m h l a : Bool) → (m || h) ≡ true → (m ≡ true) ⊎ (l ≡ false) → a ≡ false
    → ((m || (h && not l)) && not a) ≡ true
rejoin true h l a e f g = ap not g
rejoin false true l a e (inl f) g = cc
rejoin false true l a e (inr f) g = ap (λ b. not b && not a) f ∙ ap not g
rejoin false false l a e f g = cc

plain_right : (p : Position) (k : Kind) (y x : Tree) → stays_right p k y x ≡ true → stays_right Plain k y x ≡ true
plain_right p k y x e =
    let a = and_true (within (level k) x) _ e in
    let b = taken_parts (not (may_lack k)) (has_right p k (flat x)) (is_label k y (flat x)) (is_attributed_range k x)
    a.1 in
    ap (λ c. c
    && ((not (may_lack k) || (has_right Plain k (flat x) && not (is_label k y (flat x))))
    && not (is_attributed_range k x))) a.0
    ∙ rejoin (not (may_lack k)) (has_right Plain k (flat x)) (is_label k y (flat x)) (is_attributed_range k x)
    (taken_in p k (flat x) b.0) (b.1 (λ f. f)) b.2

left_parts : (s a e d r : Bool) → (s || ((a && (not e || d)) && r)) ≡ true → (s || ((a && true) && r)) ≡ true
left_parts true a e d r h = refl
left_parts false true true true r h = h
left_parts false true true false r h = cc
left_parts false true false d r h = h
left_parts false false e d r h = cc

plain_left : (p : Position) (k : Kind) (y l : Tree) → stays_left p k y l ≡ true → stays_left Plain k y l ≡ true
plain_left p k y l e = left_parts (is_struct k) (may_be_left k l) (ends_there p l) (is_dotted k) _ e

calm_right : (p : Position) (ts us : List Token) (k : Kind) (x : Tree) → Settled Plain us x
    → Settled (inside Plain k) us x
calm_right p ts us k x s = subst (λ q. Settled q us x) (sym (plain_inside k)) s

calm : (p : Position) (ts us : List Token) (x : Tree) → Calmer ts us → Settled p ts x → Settled Plain us x
calm p ts us (Alone k y) c s = (s.0, calm_takes p k ts us c s.1)
calm p ts us (Front k y x) c s =
    (s.0, refl, plain_right p k y x s.2, calm_right p ts us k x (calm (inside p k) ts us x c s.3))
calm p ts us (Back l k y) c s = (
  s.0,
  refl,
  calm_takes p k ts us c s.2,
  plain_left p k y l s.3,
  calm p (follow (flat y)) (follow (flat y)) l (inr (refl, follow_calm (flat y))) s.4,
)
calm p ts us (Infix l k y r) c s = (
  s.0,
  plain_left p k y l s.1,
  calm p (follow (flat y)) (follow (flat y)) l (inr (refl, follow_calm (flat y))) s.2,
  plain_right p k y r s.3,
  calm_right p ts us k r (calm (inside p k) ts us r c s.4),
)
calm p ts us _ c s = tt

-- in parentheses it is settled everywhere
parens_normal : (x : Tree) → Settled Plain [] x
    → IsNormal Plain (Group Parenthesis (Final (Node (Expression Plain) (Whole x))))
unfolding passed stands_behind
parens_normal x s = ap (λ z. Group Parenthesis (Final (Node (Expression Plain) (Whole z)))) (settled_is Plain [] x s)

pub parens_settled : (p : Position) (ts : List Token) (x : Tree) → Settled Plain [] x → Settled p ts (in_parens x)
unfolding may_lack
parens_settled p ts x s = (parens_normal x s, refl)

choose_settled : (b : Bool) (p : Position) (ts : List Token) (x : Tree) → (b ≡ true → Settled p ts x)
    → Settled Plain [] x → Settled p ts (parens_unless b x)
choose_settled true p ts x s i = s refl
choose_settled false p ts x s i = parens_settled p ts x i

record Right (p : Position) (ts : List Token) (k : Kind) (y x : Tree) : Type 0 where
  stays : stays_right p k y x ≡ true
  settled : Settled (inside p k) ts x

right_settled : (p : Position) (ts : List Token) (k : Kind) (y x : Tree) → Settled (inside p k) ts x
    → Right p ts k y (with_right p k y x)
right_settled p ts k y x s = go (stays_right p k y x) refl
  where
    go : (b : Bool) → stays_right p k y x ≡ b → Right p ts k y (parens_unless b x)
    go true e = record { stays = e; settled = s }
    go false e =
        record {
          stays = paren_right p k y x;
          settled =
              parens_settled (inside p k) ts x (calm (inside p k) ts [] x (inl refl) s);
        }

record Left (p : Position) (k : Kind) (y l : Tree) : Type 0 where
  stays : stays_left p k y l ≡ true
  settled : Settled p (follow (flat y)) l

left_settled : (p : Position) (k : Kind) (y l : Tree) → Settled p (follow (flat y)) l → Left p k y (with_left p k y l)
left_settled p k y l s = go (stays_left p k y l) refl
  where
    go : (b : Bool) → stays_left p k y l ≡ b → Left p k y (parens_unless b l)
    go true e = record { stays = e; settled = s }
    go false e =
        record {
          stays = paren_left p k y l;
          settled =
              parens_settled p (follow (flat y)) l (calm p (follow (flat y)) [] l (inl refl) s);
        }

not_true : (b : Bool) → not b ≡ true → b ≡ false
not_true true e = cc
not_true false e = refl

alone_settled : (p : Position) (ts : List Token) (k : Kind) (y : Tree) → IsNormal Plain y
    → Settled p ts (alone p ts k y)
alone_settled p ts k y n =
    choose_settled (not (takes_what_follows p k ts)) p ts (Alone k y) (λ e. (n, not_true _ e)) (n, takes_nothing k)

front_settled : (p : Position) (ts : List Token) (k : Kind) (y x : Tree) → IsNormal Plain y → Settled (inside p k) ts x
    → Settled p ts (front_form p k y x)
front_settled p ts k y x n s =
    let r = right_settled p ts k y x s in
    choose_settled (begins_in p k) p ts (Front k y (with_right p k y x)) (λ e. (n, e, r.stays, r.settled))
    (n, refl, plain_right p k y _ r.stays, calm_right p ts [] k _ (calm (inside p k) ts [] _ (inl refl) r.settled))

back_settled : (p : Position) (ts : List Token) (l : Tree) (k : Kind) (y : Tree) → IsNormal Plain y
    → Settled p (follow (flat y)) l → Settled p ts (back_form p ts l k y)
back_settled p ts l k y n s =
    let r = left_settled p k y l s in
    choose_settled (stands_in p k && not (takes_what_follows p k ts)) p ts (Back (with_left p k y l) k y)
    (λ e. let a = and_true _ _ e in (n, a.0, not_true _ a.1, r.stays, r.settled)) (
      n,
      refl,
      takes_nothing k,
      plain_left p k y _ r.stays,
      calm p (follow (flat y)) (follow (flat y)) _ (inr (refl, follow_calm (flat y))) r.settled,
    )

infix_settled : (p : Position) (ts : List Token) (l : Tree) (k : Kind) (y r : Tree) → IsNormal Plain y
    → Settled p (follow (flat y)) l → Settled (inside p k) ts r → Settled p ts (infix_form p l k y r)
infix_settled p ts l k y r n s t =
    let a = left_settled p k y l s in
    let b = right_settled p ts k y r t in
    (n, a.stays, a.settled, b.stays, b.settled)

-- statements
not_enclosed : (b : Bool) → (b && not b) ≡ false
not_enclosed true = refl
not_enclosed false = refl

raw_normal : (q : Position) (x : Tree) → IsNormal q x → IsNormal q (apart_raw x)
raw_normal q (Node AnItem (Raw ts)) e = refl
raw_normal q _ e = e

alternative_normal : (q : Position) (x : Tree) → IsNormal q x → IsNormal q (apart_alternative x)
alternative_normal q (First x) e = ap First (raw_normal q x (cc e))
alternative_normal q (Second x) e = ap Second (alternative_normal q x (cc e))
alternative_normal q _ e = e

apart_normal : (q : Position) (x : Tree) → IsNormal q x → IsNormal q (apart_item x)
unfolding passed
apart_normal q (Second (Node AStatement x)) e =
    ap (λ y. Second (Node AStatement y)) (alternative_normal Plain x (cc e))
apart_normal q _ e = e

apart_if_normal : (b : Bool) (q : Position) (x : Tree) → IsNormal q x → IsNormal q (apart_if b x)
apart_if_normal true q x e = apart_normal q x e
apart_if_normal false q x e = e

mutual
  pub normal_twice : (q : Position) (x : Tree) → normal_in q (normal_in q x) ≡ normal_in q x
  normal_twice q (AWord cs) = refl
  normal_twice q (ALiteral cs) = refl
  normal_twice q (AMark c cs spacing) = refl
  normal_twice q (ALifetime cs) = refl
  normal_twice q (Raw ts) = refl
  normal_twice q Nil = refl
  normal_twice q (Pair x y) = both_normal q (normal_in q x) (normal_in q y) (normal_twice q x) (normal_twice q y)
  normal_twice q (First x) = ap First (normal_twice q x)
  normal_twice q (Second x) = ap Second (normal_twice q x)
  normal_twice q End = refl
  normal_twice q (Again x y) =
      let b : Bool = is_enclosed y (normal_in q y) in
      let z : Tree = apart_if b (normal_in q x) in
      ap (λ w. Again (apart_if (is_enclosed (normal_in q y) w) (normal_in q z)) w) (normal_twice q y)
      ∙ ap (λ c. Again (apart_if c (normal_in q z)) (normal_in q y))
      (not_enclosed (sees parenthesis (flat (normal_in q y))))
      ∙ ap (λ w. Again w (normal_in q y)) (apart_if_normal b q (normal_in q x) (normal_twice q x))
  normal_twice q (Final x) = ap Final (normal_twice q x)
  normal_twice q (More x c spacing y) = then_normal q (normal_in q x) c Apart (normal_in q y) (normal_twice q x) refl
      (normal_twice q y)
  normal_twice q (Group d x) = ap (Group d) (normal_twice q x)
  normal_twice q (Dropped x) = refl
  normal_twice q (Called n x) = ap (Called n) (normal_twice (place_of n) x)
  normal_twice q (Verbatim x) = refl
  normal_twice q (Hidden x) = refl
  normal_twice q (Node k x) =
      ap (λ z. Node k (tidy k z)) (tidy_normal k (passed k q) (normal_in (passed k q) x) (normal_twice (passed k q) x))
      ∙ ap (Node k) (tidy_twice k (normal_in (passed k q) x))
  normal_twice q (Whole x) =
      ap Whole (settled_is q (stands_behind q) (formed q (stands_behind q) x) (formed_settled q (stands_behind q) x))
  normal_twice q (Alone k y) = refl
  normal_twice q (Front k y x) = refl
  normal_twice q (Back l k y) = refl
  normal_twice q (Infix l k y r) = refl

  formed_settled : (p : Position) (ts : List Token) (x : Tree) → Settled p ts (formed p ts x)
  formed_settled p ts (Alone k y) = alone_settled p ts k (normal_in Plain y) (normal_twice Plain y)
  formed_settled p ts (Front k y x) =
      front_settled p ts k (normal_in Plain y) (formed (inside p k) ts x) (normal_twice Plain y)
      (formed_settled (inside p k) ts x)
  formed_settled p ts (Back l k y) =
      back_settled p ts (formed p (follow (flat (normal_in Plain y))) l) k (normal_in Plain y) (normal_twice Plain y)
      (formed_settled p (follow (flat (normal_in Plain y))) l)
  formed_settled p ts (Infix l k y r) =
      infix_settled p ts (formed p (follow (flat (normal_in Plain y))) l) k (normal_in Plain y)
      (formed (inside p k) ts r) (normal_twice Plain y)
      (formed_settled p (follow (flat (normal_in Plain y))) l) (formed_settled (inside p k) ts r)
  formed_settled p ts _ = tt
