-- The own part of a form behind an operand: how it begins, whatever stands behind it.
use Rattle.std.proofs.Common.{◌≡◌, List, [], ◌∷◌, ◌++◌, refl, ◌∙◌, subst}
use Rattle.std.specs.Prelude.{Bool, true, false, cond, nat_eq, Some, None}
use Rattle.std.proofs.lemmas.Bool.{false≢true}
use Rattle.proc_macro2.specs.Token.{Token, Opens}
use Rattle.proc_macro2.specs.declared.delimiter.Delimiter.{Delimiter}
use Rattle.proc_macro2.specs.declared.delimiter.Delimiter.TheVariants.{Parenthesis}
use Rattle.proc_macro2.specs.Groups.{same_delimiter}
use Rattle.syn_grammar.specs.Kind.{Kind, Position, Plain, ExprCall, ExprMethodCall, ExprField, ExprAwait}
use Rattle.syn_grammar.specs.Kind.{ExprIndex, ExprTry}
use Rattle.syn_grammar.specs.Look.{seen, sees}
use Rattle.syn_grammar.specs.Say.{parenthesis}
use Rattle.syn_grammar.specs.Expressions.{postfix_stands}
use Rattle.syn_grammar.specs.Forms.{back, level}
use Rattle.laws_binding.proofs.Turns.{Turn, Begins, lone_less, equals, question, question_joint, dot}
use Rattle.laws_binding.proofs.Turns.{parenthesis as a_parenthesis, bracket, dots, minus, star, and, bar, less}
use Rattle.laws_binding.proofs.Turns.{and_and, bar_bar, less_less}
use Rattle.laws_binding.proofs.Sights.{back_same}
use Rattle.laws_reread_expressions.specs.Behind.{no_end}

pub at_end : (ts ws vs : List Token) → Turn ts ws → sees no_end (ws ++ vs) ≡ false
at_end _ _ vs (equals i) = refl
at_end _ _ vs _ = refl

pub same_less : (ts ws vs : List Token) → Turn ts ws → sees lone_less (ws ++ vs) ≡ sees lone_less ws
same_less _ _ vs (equals i) = refl
same_less _ _ vs _ = refl

-- whether an operand begins there
abbrev pub starts : {ts ws : List Token} → Turn ts ws → Bool
starts a_parenthesis = true
starts bracket = true
starts (dots i j) = true
starts (minus i b) = true
starts (star i b) = true
starts (and i b) = true
starts (bar i b) = true
starts (less i p b e) = true
starts (and_and i) = true
starts (bar_bar i) = true
starts (less_less i b) = true
starts _ = false

pub begins_alone : (ts ws : List Token) (t : Turn ts ws) → Begins (starts t) ws
begins_alone _ _ (equals i) = record { operand = refl; range = refl; no_brace = refl }
begins_alone _ _ _ = record { operand = refl; range = refl; no_brace = refl }

pub begins_before : (ts ws vs : List Token) (t : Turn ts ws) → Begins (starts t) (ws ++ vs)
begins_before _ _ vs (equals i) = record { operand = refl; range = refl; no_brace = refl }
begins_before _ _ vs _ = record { operand = refl; range = refl; no_brace = refl }

-- a postfix form binds as such
some_level : (j k : Kind) → nat_eq (level j) 16 ≡ true → Some j ≡ Some k → nat_eq (level k) 16 ≡ true
some_level j k h e = cc

some_call : (k : Kind) → Some ExprCall ≡ Some k → k ≡ ExprCall
some_call k e = cc

opened : (d : Delimiter) → same_delimiter d Parenthesis ≡ true → d ≡ Parenthesis
opened Parenthesis e = refl
opened _ e = cc

seen_if : (b : Bool) (ts : List Token) → seen (cond b (Some ts) None) ≡ true → b ≡ true
seen_if true ts e = refl
seen_if false ts e = cc

plain_call : (ts : List Token) (k : Kind) → back Plain (Opens Parenthesis ∷ ts) ≡ Some k → k ≡ ExprCall
unfolding back
plain_call ts k e = some_call k e

call_at : (ts : List Token) (p : Position) (k : Kind) → back p (Opens Parenthesis ∷ ts) ≡ Some k → k ≡ ExprCall
call_at ts p k e = plain_call ts k (back_same Plain p (Opens Parenthesis ∷ ts) refl ∙ e)

pub is_call : (ts : List Token) (p : Position) (k : Kind) → back p ts ≡ Some k → sees parenthesis ts ≡ true
    → k ≡ ExprCall
is_call [] p k e s = absurd (false≢true s)
is_call (Opens d ∷ ts) p k e s =
    call_at ts p k (subst (λ c. back p (Opens c ∷ ts) ≡ Some k) (opened d (seen_if _ ts s)) e)
is_call (_ ∷ ts) p k e s = absurd (false≢true s)

dot_level : (a b c : Bool) (k : Kind)
    → cond a (Some ExprAwait) (cond b (Some ExprMethodCall) (cond c (Some ExprField) None)) ≡ Some k
    → nat_eq (level k) 16 ≡ true
unfolding level
dot_level true b c k e = some_level ExprAwait k refl e
dot_level false true c k e = some_level ExprMethodCall k refl e
dot_level false false true k e = some_level ExprField k refl e
dot_level false false false k e = cc

plain_postfix : (ts ws vs : List Token) → Turn ts ws → (k : Kind) → back Plain (ws ++ vs) ≡ Some k
    → sees postfix_stands (ws ++ vs) ≡ true → nat_eq (level k) 16 ≡ true
unfolding back level
plain_postfix _ _ vs (question i) k e s = some_level ExprTry k refl e
plain_postfix _ _ vs a_parenthesis k e s = some_level ExprCall k refl e
plain_postfix _ _ vs bracket k e s = some_level ExprIndex k refl e
plain_postfix _ _ vs (dot i) k e s = dot_level _ _ _ k e
plain_postfix _ _ vs (question_joint d i j) k e s = some_level ExprTry k refl e
plain_postfix _ _ vs _ k e s = absurd (false≢true s)

pub is_postfix : (ts ws vs : List Token) → Turn ts ws → (p : Position) (k : Kind) → back p (ws ++ vs) ≡ Some k
    → sees postfix_stands (ws ++ vs) ≡ true → nat_eq (level k) 16 ≡ true
is_postfix ts ws vs t p k e s =
    plain_postfix ts ws vs t k (back_same Plain p (ws ++ vs) (begins_before ts ws vs t).no_brace ∙ e) s
