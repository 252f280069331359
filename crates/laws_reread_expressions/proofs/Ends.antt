-- What stands behind a left operand, and what its last own part may have behind it.
use Rattle.std.proofs.Common.{◌≡◌, List, [], ◌∷◌, ◌++◌, refl, sym, ap, ◌∙◌, subst, inr}
use Rattle.std.specs.Prelude.{Bool, true, false, not, ◌&&◌, ◌||◌, cond, nat_eq, Some}
use Rattle.std.proofs.lemmas.Bool.{false≢true}
use Rattle.proc_macro2.specs.Token.{Token, Opens}
use Rattle.proc_macro2.specs.declared.delimiter.Delimiter.TheVariants.{Parenthesis}
use Rattle.syn_grammar.specs.Kind.{Kind, Position, Plain, ExprCast, ExprField, ExprCall, ExprMethodCall, ExprAwait}
use Rattle.syn_grammar.specs.Kind.{ExprStruct, ExprIndex, ExprTry, ExprRange, ExprRangeClosed, ExprAssign, ExprOr}
use Rattle.syn_grammar.specs.Kind.{ExprAnd}
use Rattle.syn_grammar.specs.Kind.{ExprCompare, ExprBitOr, ExprBitXor, ExprBitAnd, ExprShift, ExprSum, ExprProduct}
use Rattle.syn_grammar.specs.Name.{the_name}
use Rattle.syn_grammar.specs.Part.{has}
use Rattle.syn_grammar.specs.Tree.{Tree, Front, Back, Infix, flat}
use Rattle.syn_grammar.specs.Look.{sees}
use Rattle.syn_grammar.specs.Say.{parenthesis}
use Rattle.syn_grammar.specs.Expressions.{postfix_stands}
use Rattle.syn_grammar.specs.Forms.{back, has_right, level, takes, may_be_left}
use Rattle.syn_grammar.specs.Parens.{may_lack, is_struct, is_ended, ends_before, ends_in_name, follow}
use Rattle.syn_grammar.proofs.Whole.{and_true}
use Rattle.laws_binding.proofs.Begun.{an_opening}
use Rattle.laws_binding.proofs.Sights.{is_back, backs_are}
use Rattle.laws_binding.proofs.Stays.{Behind, facts_right}
use Rattle.laws_binding.proofs.Turns.{Turn, lone_less, is_infix, infix_turns, is_last, last_turns}
use Rattle.laws_reread_expressions.specs.Behind.{ends_own, BeforeOperand, BehindOperand}
use Rattle.laws_reread_expressions.specs.Formed.{IsBehind, may_lack_operand, may_have_operand}
use Rattle.laws_reread_expressions.proofs.Begins.{paren_operand}
use Rattle.laws_reread_expressions.proofs.Near.{Near, Beside}
use Rattle.laws_reread_expressions.proofs.Opened.{nothing_right}
use Rattle.laws_reread_expressions.proofs.Turned as T
use Rattle.laws_reread_expressions.proofs.Bools.{and_no}

-- the last own part of an operand
abbrev pub LastEnds : List Token → Tree → Type 0
LastEnds ts (Front k y x) = LastEnds ts x
LastEnds ts (Infix l k y r) = LastEnds ts r
LastEnds ts (Back l k y) = ends_own k y ts ≡ true
LastEnds ts x = Unit {0}

pub nothing_ends : (k : Kind) (y : Tree) → ends_own k y [] ≡ true
nothing_ends ExprCast y = ap not (and_no (ends_in_name (flat y)))
nothing_ends ExprField y = ap not (and_no (has the_name y))
nothing_ends _ y = refl

pub last_nothing : (x : Tree) → LastEnds [] x
last_nothing (Front k y x) = last_nothing x
last_nothing (Infix l k y r) = last_nothing r
last_nothing (Back l k y) = nothing_ends k y
last_nothing _ = tt

nothing_behind : (k : Kind) (y : Tree) → BehindOperand k y []
nothing_behind k y = (refl, nothing_ends k y)

-- the forms behind an operand
last_kind : (k : Kind) → is_back k ≡ true → is_struct k ≡ false → may_lack_operand k ≡ true → is_last k ≡ true
unfolding may_lack level
last_kind ExprCall b s h = refl
last_kind ExprMethodCall b s h = refl
last_kind ExprField b s h = refl
last_kind ExprAwait b s h = refl
last_kind ExprIndex b s h = refl
last_kind ExprTry b s h = refl
last_kind ExprCast b s h = refl
last_kind ExprRange b s h = refl
last_kind ExprRangeClosed b s h = refl
last_kind ExprStruct b s h = absurd (false≢true (sym s))
last_kind ExprAssign b s h = absurd (false≢true h)
last_kind ExprOr b s h = absurd (false≢true h)
last_kind ExprAnd b s h = absurd (false≢true h)
last_kind ExprCompare b s h = absurd (false≢true h)
last_kind ExprBitOr b s h = absurd (false≢true h)
last_kind ExprBitXor b s h = absurd (false≢true h)
last_kind ExprBitAnd b s h = absurd (false≢true h)
last_kind ExprShift b s h = absurd (false≢true h)
last_kind ExprSum b s h = absurd (false≢true h)
last_kind ExprProduct b s h = absurd (false≢true h)
last_kind _ b s h = absurd (false≢true b)

infix_kind : (k : Kind) → is_back k ≡ true → may_have_operand k ≡ true → is_infix k ≡ true
unfolding may_lack level
infix_kind ExprAssign b h = refl
infix_kind ExprOr b h = refl
infix_kind ExprAnd b h = refl
infix_kind ExprCompare b h = refl
infix_kind ExprBitOr b h = refl
infix_kind ExprBitXor b h = refl
infix_kind ExprBitAnd b h = refl
infix_kind ExprShift b h = refl
infix_kind ExprSum b h = refl
infix_kind ExprProduct b h = refl
infix_kind ExprRange b h = refl
infix_kind ExprRangeClosed b h = refl
infix_kind ExprStruct b h = absurd (false≢true h)
infix_kind ExprCall b h = absurd (false≢true h)
infix_kind ExprMethodCall b h = absurd (false≢true h)
infix_kind ExprField b h = absurd (false≢true h)
infix_kind ExprAwait b h = absurd (false≢true h)
infix_kind ExprIndex b h = absurd (false≢true h)
infix_kind ExprTry b h = absurd (false≢true h)
infix_kind ExprCast b h = absurd (false≢true h)
infix_kind _ b h = absurd (false≢true b)

-- how their own parts begin
abbrev pub Turns : List Token → Type 0
Turns us = (ts : List Token) × Turn ts us

pub back_turns : (k : Kind) (y : Tree) → IsBehind (BehindOperand k y) k y → may_lack_operand k ≡ true
    → is_struct k ≡ false → Turns (flat y)
back_turns k y o l s =
    let m = nothing_behind k y in
    let b = backs_are Plain k (flat y ++ []) (o.goes_on Plain [] refl m) in (
      flat y ++ [],
      subst (Turn (flat y ++ [])) o.held ((last_turns k (last_kind k b s l)).at Plain y [] (o.read [] m)),
    )

pub infix_turns_of : (k : Kind) (y : Tree) → IsBehind (BeforeOperand k y) k y → may_have_operand k ≡ true
    → Turns (flat y)
infix_turns_of k y o h =
    let r : List Token = Opens Parenthesis ∷ [] in
    let m = paren_operand k y [] in
    let e = o.goes_on Plain r refl m in
    let b = backs_are Plain k (flat y ++ r) e in (
      flat y ++ r,
      subst (Turn (flat y ++ r)) o.held
          ((infix_turns k (infix_kind k b h)).at Plain Plain y r r (o.read r m) (an_opening Parenthesis) e),
    )

-- what stands behind a left operand, and what normal form took for it
pub behind_turn : (ws vs : List Token) → Turns ws → Behind (follow ws) (ws ++ vs)
behind_turn ws vs t =
    let a = T.begins_alone t.0 ws t.1 in
    let b = T.begins_before t.0 ws vs t.1 in
    record {
      lacks = λ q k m h. facts_right (T.starts t.1) (ws ++ vs) b q k m
          ∙ sym (facts_right (T.starts t.1) ws a q k m)
          ∙ subst (λ us. has_right q k us ≡ false) (ap (λ c. cond c [] ws) a.no_brace) h;
      braces = λ e. absurd (false≢true (sym b.no_brace ∙ e));
    }

pub beside_turn : (p q : Position) (ws vs : List Token) → Near p q → Turns ws → Beside p q (follow ws) (ws ++ vs)
beside_turn p q ws vs n t = record {
  near = n;
  behind = behind_turn ws vs t;
  plain = inr (T.begins_before t.0 ws vs t.1).no_brace;
}

pub beside_nothing : (p : Position) (ts : List Token) → Beside p Plain ts []
beside_nothing p ts = record {
  near = inr refl;
  behind = record { lacks = λ q k m h. nothing_right q k m; braces = λ e. absurd (false≢true e) };
  plain = inr refl;
}

-- an operand that is ended before a form
cast_true : (a b c d n : Bool) → (c ≡ true → a ≡ true) → d ≡ b → not (a || (n && b)) ≡ true → not (c || (n && d)) ≡ true
cast_true true b c d n f g h = absurd (false≢true h)
cast_true false b true d n f g h = absurd (false≢true (f refl))
cast_true false b false d n f g h = ap (λ e. not (n && e)) g ∙ h

call_true : (c n : Bool) → (c ≡ true → not n ≡ true) → not (n && c) ≡ true
call_true true true f = f refl
call_true true false f = refl
call_true false n f = ap not (and_no n)

one_ends : (k : Kind) (ts ws vs : List Token) → Turn ts ws → (q : Position) → back q (ws ++ vs) ≡ Some k → (j : Kind)
    (y : Tree) → ends_before k ws j y ≡ true → ends_own j y (ws ++ vs) ≡ true
one_ends k ts ws vs t q e ExprCast y h =
    cast_true (nat_eq (level k) 16) (sees lone_less ws) (sees postfix_stands (ws ++ vs)) (sees lone_less (ws ++ vs))
    (ends_in_name (flat y)) (T.is_postfix ts ws vs t q k e) (T.same_less ts ws vs t) h
one_ends k ts ws vs t q e ExprField y h =
    call_true (sees parenthesis (ws ++ vs)) (has the_name y)
    (λ s. subst (λ i. ends_before i ws ExprField y ≡ true) (T.is_call (ws ++ vs) q k e s) h)
one_ends k ts ws vs t q e _ y h = refl

pub last_ended : (k : Kind) (ws vs : List Token) → Turns ws → (q : Position) → back q (ws ++ vs) ≡ Some k → (m : Tree)
    → is_ended k ws m ≡ true → LastEnds (ws ++ vs) m
last_ended k ws vs t q e (Front j y x) h =
    last_ended k ws vs t q e x (and_true (not (takes (level j) (level k) && may_be_left k x)) (is_ended k ws x) h).1
last_ended k ws vs t q e (Infix l j y r) h =
    last_ended k ws vs t q e r (and_true (not (takes (level j) (level k) && may_be_left k r)) (is_ended k ws r) h).1
last_ended k ws vs t q e (Back l j y) h = one_ends k t.0 ws vs t.1 q e j y h
last_ended k ws vs t q e _ h = tt
