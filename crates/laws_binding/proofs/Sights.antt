-- What the tables of forms say of the tokens at which a form is seen.
use Rattle.std.proofs.Common.{◌≡◌, List, [], ◌∷◌, refl, sym, ap, ◌∙◌}
use Rattle.std.specs.Prelude.{ℕ, zero, suc, not, ◌&&◌, Bool, true, false, Option, Some, None, cond}
use Rattle.proc_macro2.specs.Token.{Token, Opens}
use Rattle.proc_macro2.specs.declared.delimiter.Delimiter.TheVariants.{Brace}
use Rattle.syn_grammar.specs.Kind.{Kind, Position, Plain, InCondition, InArm, InStatement, ExprStruct, ExprCall}
use Rattle.syn_grammar.specs.Kind.{ExprMethodCall, ExprField, ExprAwait, ExprIndex, ExprTry, ExprCast, ExprLet}
use Rattle.syn_grammar.specs.Kind.{ExprRange, ExprRangeClosed, ExprAssign, ExprOr, ExprAnd, ExprCompare, ExprBitOr}
use Rattle.syn_grammar.specs.Kind.{ExprBitXor, ExprBitAnd, ExprShift, ExprSum, ExprProduct}
use Rattle.syn_grammar.specs.Look.{Look, seen, sees, behind, first_seen, ◌then◌, ◌or◌, no, an_ident}
use Rattle.syn_grammar.specs.Say.{marks, parenthesis, bracket, brace}
use Rattle.syn_grammar.specs.Expressions.{postfix_stands}
use Rattle.syn_grammar.specs.Forms.{Case, form, first_form, fronts, backs, front, back, dot_stands, struct_stands}
use Rattle.syn_grammar.specs.Parens.{begins_in, stands_in, is_struct}
use Rattle.syn_grammar.proofs.Whole.{and_true}
use Rattle.laws_binding.proofs.Begun.{first_passes}

-- where the forms that pass are seen
abbrev sights : (Kind → Bool) → List Case → List Look
sights p [] = []
sights p (form j l ∷ cases) = cond (p j) (l ∷ sights p cases) (sights p cases)

Each : Type 0 → List Look → List Token → Type 0
Each Q [] ts = Unit {0}
Each Q (l ∷ looks) ts = (seen (l ts) ≡ true → Q) × Each Q looks ts

-- no truth value is both
pub both : (b : Bool) → b ≡ true → b ≡ false → ⊥
both true e f = cc
both false e f = cc

-- what passes, of a kind that is the same
passes : (p : Kind → Bool) (j k : Kind) → p k ≡ true → Some j ≡ Some k → p j ≡ true
passes p j k e d = cc

-- if a form that passes is the first that is seen, what each such form says where it is seen is so
some_case : (Q : Type 0) (p : Kind → Bool) (j k : Kind) (l : Look) (looks : List Look) (ts : List Token)
    (o : Option Kind) (b c : Bool) → p j ≡ c → seen (l ts) ≡ b → Each Q (cond c (l ∷ looks) looks) ts
    → (Each Q looks ts → o ≡ Some k → Q) → p k ≡ true → cond b (Some j) o ≡ Some k → Q
unfolding Each
some_case Q p j k l looks ts o true true f g h i e d = h.0 g
some_case Q p j k l looks ts o true false f g h i e d = absurd (both (p j) (passes p j k e d) f)
some_case Q p j k l looks ts o false true f g h i e d = i h.1 d
some_case Q p j k l looks ts o false false f g h i e d = i h d

first_says : (Q : Type 0) (p : Kind → Bool) (cases : List Case) (ts : List Token) (k : Kind)
    → Each Q (sights p cases) ts → p k ≡ true → first_form cases ts ≡ Some k → Q
first_says Q p [] ts k h e d = cc
first_says Q p (form j l ∷ cases) ts k h e d =
    some_case Q p j k l (sights p cases) ts (first_form cases ts) (seen (l ts)) (p j) refl refl h
    (λ i f. first_says Q p cases ts k i e f) e d

-- a let begins no statement
abbrev is_let : Kind → Bool
is_let ExprLet = true
is_let _ = false

no_let : (ts : List Token) → front InStatement ts ≡ Some ExprLet → ⊥
unfolding front Each
no_let ts e = first_says ⊥ is_let (fronts InStatement) ts ExprLet (λ s. cc, tt) refl e

pub begins : (p : Position) (k : Kind) (ts : List Token) → front p ts ≡ Some k → begins_in p k ≡ true
begins Plain k ts e = refl
begins InCondition k ts e = refl
begins InArm k ts e = refl
begins InStatement ExprLet ts e = absurd (no_let ts e)
begins InStatement _ ts e = refl

-- no struct stands in a condition
no_struct : (ts : List Token) → back InCondition ts ≡ Some ExprStruct → ⊥
unfolding back Each
no_struct ts e = first_says ⊥ is_struct (backs InCondition) ts ExprStruct (λ s. cc, tt) refl e

pub stands : (p : Position) (k : Kind) (ts : List Token) → back p ts ≡ Some k → stands_in p k ≡ true
stands InCondition ExprStruct ts e = absurd (no_struct ts e)
stands InCondition _ ts e = refl
stands Plain k ts e = refl
stands InArm k ts e = refl
stands InStatement k ts e = refl

-- the forms behind an operand
abbrev pub is_back : Kind → Bool
is_back ExprAssign = true
is_back ExprCompare = true
is_back ExprOr = true
is_back ExprAnd = true
is_back ExprShift = true
is_back ExprBitOr = true
is_back ExprBitXor = true
is_back ExprBitAnd = true
is_back ExprSum = true
is_back ExprProduct = true
is_back ExprRangeClosed = true
is_back ExprRange = true
is_back ExprCast = true
is_back ExprStruct = true
is_back ExprCall = true
is_back ExprIndex = true
is_back ExprTry = true
is_back ExprAwait = true
is_back ExprMethodCall = true
is_back ExprField = true
is_back _ = false

pub backs_are : (p : Position) (k : Kind) (ts : List Token) → back p ts ≡ Some k → is_back k ≡ true
unfolding back
backs_are p k ts e = first_passes is_back (backs p) ts k refl e

-- postfix forms, a struct aside
abbrev pub is_postfix : Kind → Bool
is_postfix ExprCall = true
is_postfix ExprMethodCall = true
is_postfix ExprField = true
is_postfix ExprAwait = true
is_postfix ExprIndex = true
is_postfix ExprTry = true
is_postfix _ = false

pub seen_left : (o p : Option (List Token)) → seen o ≡ true → seen (first_seen o p) ≡ true
seen_left None p e = cc
seen_left (Some ts) p e = refl

seen_right : (o p : Option (List Token)) → seen p ≡ true → seen (first_seen o p) ≡ true
seen_right None p e = e
seen_right (Some ts) p e = refl

seen_before : (o : Option (List Token)) (l : Look) → seen (behind o l) ≡ true → seen o ≡ true
seen_before None l e = e
seen_before (Some ts) l e = refl

seen_two : (o : Option (List Token)) (l m : Look) → seen (behind o (l then m)) ≡ true → seen (behind o l) ≡ true
seen_two None l m e = e
seen_two (Some ts) l m e = seen_before (l ts) m e

dot_seen : (ts : List Token) → seen (dot_stands ts) ≡ true → sees postfix_stands ts ≡ true
dot_seen ts e = seen_left ((no (marks "..") then marks ".") ts) _ (seen_two (no (marks "..") ts) (marks ".") _ e)

question_seen : (ts : List Token) → sees (marks "?") ts ≡ true → sees postfix_stands ts ≡ true
question_seen ts s = seen_right ((no (marks "..") then marks ".") ts) _
    (seen_left (marks "?" ts) (first_seen (parenthesis ts) (bracket ts)) s)

parenthesis_seen : (ts : List Token) → sees parenthesis ts ≡ true → sees postfix_stands ts ≡ true
parenthesis_seen ts s =
    let a : seen (first_seen (parenthesis ts) (bracket ts)) ≡ true = seen_left (parenthesis ts) (bracket ts) s in
    seen_right ((no (marks "..") then marks ".") ts)
    (first_seen (marks "?" ts) (first_seen (parenthesis ts) (bracket ts)))
    (seen_right (marks "?" ts) (first_seen (parenthesis ts) (bracket ts)) a)

bracket_seen : (ts : List Token) → sees bracket ts ≡ true → sees postfix_stands ts ≡ true
bracket_seen ts s =
    let a : seen (first_seen (parenthesis ts) (bracket ts)) ≡ true = seen_right (parenthesis ts) (bracket ts) s in
    seen_right ((no (marks "..") then marks ".") ts)
    (first_seen (marks "?" ts) (first_seen (parenthesis ts) (bracket ts)))
    (seen_right (marks "?" ts) (first_seen (parenthesis ts) (bracket ts)) a)

pub postfix_seen : (p : Position) (k : Kind) (ts : List Token) → back p ts ≡ Some k → is_postfix k ≡ true
    → sees postfix_stands ts ≡ true
unfolding back Each
postfix_seen p k ts e i =
    first_says (sees postfix_stands ts ≡ true) is_postfix (backs p) ts k (
      parenthesis_seen ts,
      (
        bracket_seen ts,
        (
          question_seen ts,
          (
            λ s. dot_seen ts (seen_before (dot_stands ts) _ s),
            (λ s. dot_seen ts (seen_before (dot_stands ts) _ s), (dot_seen ts, tt)),
          ),
        ),
      ),
    ) i e

-- a call's parenthesis
abbrev is_call : Kind → Bool
is_call ExprCall = true
is_call _ = false

pub call_seen : (p : Position) (ts : List Token) → back p ts ≡ Some ExprCall → sees parenthesis ts ≡ true
unfolding back Each
call_seen p ts e = first_says (sees parenthesis ts ≡ true) is_call (backs p) ts ExprCall (λ s. s, tt) refl e

-- a field is followed by no arguments: a form that is seen hides those behind it
abbrev behind_cases : ℕ → List Case → List Case
behind_cases zero cases = cases
behind_cases (suc n) [] = []
behind_cases (suc n) (c ∷ cases) = behind_cases n cases

abbrev none_pass : (Kind → Bool) → ℕ → List Case → Bool
none_pass p zero cases = true
none_pass p (suc n) [] = true
none_pass p (suc n) (form j l ∷ cases) = not (p j) && none_pass p n cases

skip_one : (p : Kind → Bool) (j k : Kind) (b : Bool) (o : Option Kind) → not (p j) ≡ true → p k ≡ true
    → cond b (Some j) o ≡ Some k → o ≡ Some k
skip_one p j k true o n i e = absurd (not_both (p j) n (passes p j k i e))
  where
    not_both : (b : Bool) → not b ≡ true → b ≡ true → ⊥
    not_both true e f = cc
    not_both false e f = cc
skip_one p j k false o n i e = e

skip : (p : Kind → Bool) (n : ℕ) (cases : List Case) (ts : List Token) (k : Kind) → none_pass p n cases ≡ true → p k
    ≡ true → first_form cases ts ≡ Some k → first_form (behind_cases n cases) ts ≡ Some k
skip p zero cases ts k h i e = e
skip p (suc n) [] ts k h i e = e
skip p (suc n) (form j l ∷ cases) ts k h i e =
    let a = and_true _ _ h in skip p n cases ts k a.1 i (skip_one p j k (seen (l ts)) (first_form cases ts) a.0 i e)

abbrev is_field : Kind → Bool
is_field ExprField = true
is_field _ = false

not_first : (b : Bool) (o : Option Kind) → cond b (Some ExprMethodCall) o ≡ Some ExprField → b ≡ false
not_first true o e = cc
not_first false o e = refl

pub field_alone : (p : Position) (ts : List Token) → back p ts ≡ Some ExprField
    → seen ((dot_stands then an_ident then (parenthesis or marks "::")) ts) ≡ false
unfolding back
field_alone p ts e = not_first _ _ (skip is_field 20 (backs p) ts ExprField refl refl e)

-- which form is seen there depends on the position only before a brace
Same : List Case → List Case → List Token → Type 0
Same [] [] ts = Unit {0}
Same (form j l ∷ cases) (form k m ∷ others) ts = (j ≡ k) × (seen (l ts) ≡ seen (m ts)) × Same cases others ts
Same _ _ ts = ⊥

same_first : (cases others : List Case) (ts : List Token) → Same cases others ts → first_form cases ts
    ≡ first_form others ts
unfolding Same
same_first [] [] ts h = refl
same_first [] (c ∷ cs) ts h = absurd h
same_first (form j l ∷ cs) [] ts h = absurd h
same_first (form j l ∷ cases) (form k m ∷ others) ts h =
    ap (λ i. cond (seen (l ts)) (Some i) (first_form cases ts)) h.0 ∙ ap (λ b. cond b (Some k) (first_form cases ts))
    h.1
    ∙ ap (λ o. cond (seen (m ts)) (Some k) o) (same_first cases others ts h.2)

no_brace : (p : Position) (ts : List Token) → sees brace ts ≡ false → seen (struct_stands p ts) ≡ false
no_brace Plain ts e = e
no_brace InCondition ts e = refl
no_brace InArm ts e = e
no_brace InStatement ts e = e

pub back_same : (p q : Position) (ts : List Token) → sees brace ts ≡ false → back p ts ≡ back q ts
unfolding back Same
back_same p q ts e = same_first (backs p) (backs q) ts (
  refl,
  refl,
  (
    refl,
    refl,
    (
      refl,
      refl,
      (
        refl,
        refl,
        (
          refl,
          refl,
          (
            refl,
            refl,
            (
              refl,
              refl,
              (
                refl,
                refl,
                (
                  refl,
                  refl,
                  (
                    refl,
                    refl,
                    (
                      refl,
                      refl,
                      (
                        refl,
                        refl,
                        (
                          refl,
                          refl,
                          (
                            refl,
                            refl,
                            (
                              refl,
                              refl,
                              (
                                refl,
                                no_brace p ts e ∙ sym (no_brace q ts e),
                                (refl, refl, (refl, refl, (refl, refl, (refl, refl, (refl, refl, (refl, refl, tt)))))),
                              ),
                            ),
                          ),
                        ),
                      ),
                    ),
                  ),
                ),
              ),
            ),
          ),
        ),
      ),
    ),
  ),
)

-- no form but a struct begins with a brace
brace_back : (p : Position) (r : List Token) (k : Kind) → back p (Opens Brace ∷ r) ≡ Some k → k ≡ ExprStruct
unfolding back
brace_back Plain r k e = cc
brace_back InCondition r k e = cc
brace_back InArm r k e = cc
brace_back InStatement r k e = cc

struct_is : (k : Kind) → k ≡ ExprStruct → is_struct k ≡ false → ⊥
struct_is k e h = go (ap is_struct e) h
  where
    go : is_struct k ≡ true → is_struct k ≡ false → ⊥
    go e f = cc

pub starts_plain : (p : Position) (ts : List Token) (k : Kind) → back p ts ≡ Some k → is_struct k ≡ false
    → sees brace ts ≡ false
starts_plain p [] k e h = refl
starts_plain p (Opens Brace ∷ r) k e h = absurd (struct_is k (brace_back p r k e) h)
starts_plain p (Opens _ ∷ r) k e h = refl
starts_plain p (_ ∷ r) k e h = refl

-- a path takes a brace where it may
pub brace_struct : (p : Position) (ts : List Token) → sees (struct_stands p) ts ≡ true → back p ts ≡ Some ExprStruct
unfolding back
brace_struct InCondition ts e = cc
brace_struct Plain (Opens Brace ∷ r) e = refl
brace_struct Plain (Opens _ ∷ r) e = cc
brace_struct Plain [] e = cc
brace_struct Plain (_ ∷ r) e = cc
brace_struct InArm (Opens Brace ∷ r) e = refl
brace_struct InArm (Opens _ ∷ r) e = cc
brace_struct InArm [] e = cc
brace_struct InArm (_ ∷ r) e = cc
brace_struct InStatement (Opens Brace ∷ r) e = refl
brace_struct InStatement (Opens _ ∷ r) e = cc
brace_struct InStatement [] e = cc
brace_struct InStatement (_ ∷ r) e = cc

-- and where a struct is seen there is one
brace_there : (p : Position) (ts : List Token) → seen (struct_stands p ts) ≡ true → sees brace ts ≡ true
brace_there Plain ts s = s
brace_there InCondition ts s = cc
brace_there InArm ts s = s
brace_there InStatement ts s = s

pub struct_seen : (p : Position) (ts : List Token) → back p ts ≡ Some ExprStruct → sees brace ts ≡ true
unfolding back Each
struct_seen p ts e =
    first_says (sees brace ts ≡ true) is_struct (backs p) ts ExprStruct (brace_there p ts, tt) refl e
