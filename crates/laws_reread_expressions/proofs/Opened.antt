-- How an operand begins, whatever stands behind its first tokens.
use Rattle.std.proofs.Common.{◌≡◌, List, [], ◌∷◌, ◌++◌, refl, sym, ap, ◌∙◌}
use Rattle.std.specs.Prelude.{Bool, true, false, not, ◌||◌, cond, nat_eq, Option, Some, None}
use Rattle.std.proofs.lemmas.Bool.{false≢true}
use Rattle.proc_macro2.specs.Token.{Token, Opens}
use Rattle.proc_macro2.specs.declared.delimiter.Delimiter.TheVariants.{Parenthesis}
use Rattle.rust_leaf.specs.declared.punct.Spacing.TheVariants.{Alone as Apart}
use Rattle.syn_grammar.specs.Kind.{Kind, Position, Plain, InCondition, InArm, InStatement, ExprBreak, ExprReturn}
use Rattle.syn_grammar.specs.Kind.{ExprYield, ExprRange}
use Rattle.syn_grammar.specs.Tree.{Tree}
use Rattle.syn_grammar.specs.Name.{the_label}
use Rattle.syn_grammar.specs.Part.{has}
use Rattle.syn_grammar.specs.Look.{seen, sees, behind, first_seen, a_lifetime}
use Rattle.syn_grammar.specs.Say.{marks, brace}
use Rattle.syn_grammar.specs.Forms.{has_right, level, brace_ends, operand_stands, range_ends}
use Rattle.syn_grammar.specs.Parens.{may_lack, is_label}
use Rattle.laws_binding.proofs.Begun.{Begun, a_word, a_literal, an_opening, a_lifetime as begun_lifetime, a_bang}
use Rattle.laws_binding.proofs.Begun.{a_hash, an_and, a_star, a_minus, a_less, a_bar, dots, colons}
use Rattle.laws_binding.proofs.Stays.{brace_none, no_colon, no_lifetime}

-- tokens with which an operand begins, before these and before others
pub begun_more : (ts ws us vs : List Token) → Begun ts ws → Begun (ws ++ us) (ws ++ vs)
begun_more _ _ us vs (a_word cs e) = a_word cs e
begun_more _ _ us vs (a_literal cs) = a_literal cs
begun_more _ _ us vs (an_opening d) = an_opening d
begun_more _ _ us vs (begun_lifetime cs) = begun_lifetime cs
begun_more _ _ us vs (a_bang i) = a_bang Apart
begun_more _ _ us vs (a_hash i) = a_hash Apart
begun_more _ _ us vs (an_and i) = an_and Apart
begun_more _ _ us vs (a_star i) = a_star Apart
begun_more _ _ us vs (a_minus i) = a_minus Apart
begun_more _ _ us vs (a_less i) = a_less Apart
begun_more _ _ us vs (a_bar i) = a_bar Apart
begun_more _ _ us vs (dots i j) = dots j j
begun_more _ _ us vs (colons i j) = colons j j

-- is no label of a break
pub no_label : (k : Kind) (y : Tree) (ts us : List Token) → Begun ts us → is_label k y ts ≡ false → is_label k y us
    ≡ false
no_label ExprBreak y ts us b e = go (has the_label y) e
  where
    go : (c : Bool) → cond c (sees (marks ":") ts) (sees a_lifetime ts) ≡ false
        → cond c (sees (marks ":") us) (sees a_lifetime us) ≡ false
    go true e = no_colon ts us b e
    go false e = no_lifetime ts us b e
no_label _ y ts us b e = refl

-- Before no brace a position is as good as another.
pub right_same : (p q : Position) (k : Kind) (ts : List Token) → sees brace ts ≡ false → has_right p k ts
    ≡ has_right q k ts
unfolding has_right
right_same p q ExprBreak ts e =
    ap (λ o. seen (behind (cond (seen o) None (Some ts)) operand_stands)) (brace_none p ts e ∙ sym (brace_none q ts e))
right_same p q ExprReturn ts e = refl
right_same p q ExprYield ts e = refl
right_same p q ExprRange ts e =
    ap (λ o. not (seen (first_seen (range_ends ts) o))) (brace_none p ts e ∙ sym (brace_none q ts e))
right_same p q _ ts e = refl

-- What is an operand in a position is one in plain position.
not_true : (b : Bool) → not b ≡ true → b ≡ false
not_true true e = cc
not_true false e = refl

break_plain : (b : Bool) (ts : List Token)
    → seen (behind (cond b None (Some ts)) operand_stands) ≡ true → seen (operand_stands ts) ≡ true
break_plain true ts e = cc
break_plain false ts e = e

plain_cond : (ts : List Token) → seen (operand_stands ts) ≡ true
    → seen (behind (cond (seen (brace_ends Plain ts)) None (Some ts)) operand_stands) ≡ true
plain_cond ts e = e

range_plain : (o b : Option (List Token)) → not (seen (first_seen o b)) ≡ true → not (seen (first_seen o None)) ≡ true
range_plain None b e = refl
range_plain (Some ts) b e = e

pub right_plain : (p : Position) (k : Kind) (ts : List Token) → has_right p k ts ≡ true → has_right Plain k ts ≡ true
unfolding has_right
right_plain p ExprBreak ts e = break_plain (seen (brace_ends p ts)) ts e
right_plain p ExprReturn ts e = e
right_plain p ExprYield ts e = e
right_plain p ExprRange ts e = range_plain (range_ends ts) (brace_ends p ts) e
right_plain p _ ts e = e

-- a parenthesis is an operand
break_parens : (p : Position) (ts : List Token) → has_right p ExprBreak (Opens Parenthesis ∷ ts) ≡ true
unfolding has_right
break_parens Plain ts = refl
break_parens InCondition ts = refl
break_parens InArm ts = refl
break_parens InStatement ts = refl

range_parens : (p : Position) (ts : List Token) → has_right p ExprRange (Opens Parenthesis ∷ ts) ≡ true
unfolding has_right
range_parens Plain ts = refl
range_parens InCondition ts = refl
range_parens InArm ts = refl
range_parens InStatement ts = refl

pub paren_right : (p : Position) (k : Kind) (ts : List Token) → may_lack k ≡ true
    → has_right p k (Opens Parenthesis ∷ ts) ≡ true
unfolding has_right may_lack
paren_right p ExprBreak ts m = break_parens p ts
paren_right p ExprReturn ts m = refl
paren_right p ExprYield ts m = refl
paren_right p ExprRange ts m = range_parens p ts
paren_right p _ ts m = absurd (false≢true m)

-- nothing is none
break_none : (p : Position) → has_right p ExprBreak [] ≡ false
unfolding has_right
break_none Plain = refl
break_none InCondition = refl
break_none InArm = refl
break_none InStatement = refl

range_none : (p : Position) → has_right p ExprRange [] ≡ false
unfolding has_right
range_none Plain = refl
range_none InCondition = refl
range_none InArm = refl
range_none InStatement = refl

pub nothing_right : (p : Position) (k : Kind) → may_lack k ≡ true → has_right p k [] ≡ false
unfolding has_right may_lack
nothing_right p ExprBreak m = break_none p
nothing_right p ExprReturn m = refl
nothing_right p ExprYield m = refl
nothing_right p ExprRange m = range_none p
nothing_right p _ m = absurd (false≢true m)

-- the other forms have an operand or have none, whatever follows
pub fixed_right : (p : Position) (k : Kind) (ts : List Token) → may_lack k ≡ false
    → has_right p k ts ≡ not (nat_eq (level k) 14 || nat_eq (level k) 16)
unfolding has_right may_lack
fixed_right p ExprBreak ts m = cc
fixed_right p ExprReturn ts m = cc
fixed_right p ExprYield ts m = cc
fixed_right p ExprRange ts m = cc
fixed_right p _ ts m = refl
