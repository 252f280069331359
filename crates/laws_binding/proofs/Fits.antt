-- What a form asks of its operands, and what holds of those that were read.
use Rattle.std.proofs.Common.{◌≡◌, ℕ, List, [], refl, sym, ap, ◌∙◌, inl, inr}
use Rattle.std.specs.Prelude.{Bool, true, false, not, ◌&&◌, ◌||◌, cond, nat_eq, Some}
use Rattle.std.proofs.lemmas.Bool.{false≢true}
use Rattle.proc_macro2.specs.Token.{Token}
use Rattle.syn_grammar.specs.Kind.{Kind, Position, Plain, InCondition, InArm, InStatement, ExprStruct}
use Rattle.syn_grammar.specs.Kind.{ExprMethodCall, ExprField, ExprAwait, ExprCall, ExprIndex, ExprTry, ExprCast}
use Rattle.syn_grammar.specs.Kind.{ExprPath, ExprRange, ExprRangeClosed, ExprAttributed, ExprUnary, ExprRawAddr}
use Rattle.syn_grammar.specs.Kind.{ExprReference, ExprLet, ExprClosure, ExprBreak, ExprReturn, ExprYield}
use Rattle.syn_grammar.specs.Kind.{ExprAssign, ExprOr, ExprAnd, ExprCompare, ExprBitOr, ExprBitXor, ExprBitAnd}
use Rattle.syn_grammar.specs.Kind.{ExprShift, ExprSum, ExprProduct}
use Rattle.syn_grammar.specs.Name.{the_value}
use Rattle.syn_grammar.specs.Words.{plain_decimal}
use Rattle.syn_grammar.specs.Tree.{Tree, ALiteral, Second, Called, Alone, Front, Back, Infix, flat}
use Rattle.syn_grammar.specs.Look.{sees}
use Rattle.syn_grammar.specs.Say.{brace}
use Rattle.syn_grammar.specs.Derives.{Bound, IsLeft}
use Rattle.syn_grammar.specs.Kept.{kept}
use Rattle.syn_grammar.specs.Forms.{back, has_right, level, is_range, takes_postfix, is_path_form}
use Rattle.syn_grammar.specs.Forms.{may_be_left, ends_there, is_dotted, stands_left, chains, takes, takes_kind}
use Rattle.syn_grammar.specs.Forms.{goes_on, struct_stands}
use Rattle.syn_grammar.specs.Parens.{may_lack, is_attributed_range, takes_braces, takes_what_follows, stays_left}
use Rattle.syn_grammar.specs.Parens.{is_struct, is_ended, ends_before, stands_in}
use Rattle.syn_grammar.proofs.Whole.{and_true}
use Rattle.laws_binding.specs.Bare.{bare}
use Rattle.laws_binding.proofs.Turns.{is_infix, is_last}
use Rattle.laws_binding.proofs.Sights.{is_back, both, backs_are, brace_struct}
use Rattle.laws_binding.proofs.Shells.{is_dot, each_dot}
use Rattle.laws_binding.proofs.Same.{may_same, chains_same, ends_same}
use Rattle.laws_binding.proofs.Ended.{Edge}
use Rattle.laws_binding.proofs.Stays.{Behind}
use Rattle.laws_binding.proofs.Stays.{takes_none, back_braces}

-- which forms stand behind an operand with one behind them, and without
pub last_kind : (k : Kind) (p : Position) (ts : List Token) → is_back k ≡ true → is_struct k ≡ false → has_right p k ts
    ≡ false → is_last k ≡ true
unfolding has_right level
last_kind ExprCall p ts b s h = refl
last_kind ExprMethodCall p ts b s h = refl
last_kind ExprField p ts b s h = refl
last_kind ExprAwait p ts b s h = refl
last_kind ExprIndex p ts b s h = refl
last_kind ExprTry p ts b s h = refl
last_kind ExprCast p ts b s h = refl
last_kind ExprRange p ts b s h = refl
last_kind ExprRangeClosed p ts b s h = refl
last_kind ExprStruct p ts b s h = absurd (false≢true (sym s))
last_kind ExprAssign p ts b s h = absurd (false≢true (sym h))
last_kind ExprOr p ts b s h = absurd (false≢true (sym h))
last_kind ExprAnd p ts b s h = absurd (false≢true (sym h))
last_kind ExprCompare p ts b s h = absurd (false≢true (sym h))
last_kind ExprBitOr p ts b s h = absurd (false≢true (sym h))
last_kind ExprBitXor p ts b s h = absurd (false≢true (sym h))
last_kind ExprBitAnd p ts b s h = absurd (false≢true (sym h))
last_kind ExprShift p ts b s h = absurd (false≢true (sym h))
last_kind ExprSum p ts b s h = absurd (false≢true (sym h))
last_kind ExprProduct p ts b s h = absurd (false≢true (sym h))
last_kind _ p ts b s h = absurd (false≢true b)

pub infix_kind : (k : Kind) (p : Position) (ts : List Token) → is_back k ≡ true → has_right p k ts ≡ true → is_infix k
    ≡ true
unfolding has_right level
infix_kind ExprAssign p ts b h = refl
infix_kind ExprOr p ts b h = refl
infix_kind ExprAnd p ts b h = refl
infix_kind ExprCompare p ts b h = refl
infix_kind ExprBitOr p ts b h = refl
infix_kind ExprBitXor p ts b h = refl
infix_kind ExprBitAnd p ts b h = refl
infix_kind ExprShift p ts b h = refl
infix_kind ExprSum p ts b h = refl
infix_kind ExprProduct p ts b h = refl
infix_kind ExprRange p ts b h = refl
infix_kind ExprRangeClosed p ts b h = refl
infix_kind ExprStruct p ts b h = absurd (false≢true h)
infix_kind ExprCall p ts b h = absurd (false≢true h)
infix_kind ExprMethodCall p ts b h = absurd (false≢true h)
infix_kind ExprField p ts b h = absurd (false≢true h)
infix_kind ExprAwait p ts b h = absurd (false≢true h)
infix_kind ExprIndex p ts b h = absurd (false≢true h)
infix_kind ExprTry p ts b h = absurd (false≢true h)
infix_kind ExprCast p ts b h = absurd (false≢true h)
infix_kind _ p ts b h = absurd (false≢true b)

-- a form with an operand behind it takes postfix forms behind that
pub takes_top : (k : Kind) (p : Position) (ts : List Token) → has_right p k ts ≡ true
    → takes (level k) (level ExprStruct)
    ≡ true
unfolding has_right level takes
takes_top ExprAttributed p ts h = refl
takes_top ExprUnary p ts h = refl
takes_top ExprRawAddr p ts h = refl
takes_top ExprReference p ts h = refl
takes_top ExprLet p ts h = refl
takes_top ExprBreak p ts h = refl
takes_top ExprReturn p ts h = refl
takes_top ExprYield p ts h = refl
takes_top ExprClosure p ts h = refl
takes_top ExprRange p ts h = refl
takes_top ExprRangeClosed p ts h = refl
takes_top ExprAssign p ts h = refl
takes_top ExprOr p ts h = refl
takes_top ExprAnd p ts h = refl
takes_top ExprCompare p ts h = refl
takes_top ExprBitOr p ts h = refl
takes_top ExprBitXor p ts h = refl
takes_top ExprBitAnd p ts h = refl
takes_top ExprShift p ts h = refl
takes_top ExprSum p ts h = refl
takes_top ExprProduct p ts h = refl
takes_top _ p ts h = absurd (false≢true h)

path_goes : (q : Position) (n : ℕ) (y : Tree) (rest : List Token) → takes n (level ExprStruct) ≡ true
    → ends_there q (Alone ExprPath y) ≡ false → back q rest ≡ Some ExprStruct → goes_on q n (Alone ExprPath y) rest
    ≡ true
unfolding stands_left
path_goes q n y rest t f e =
    ap (takes_kind q n (Alone ExprPath y)) e ∙ ap (λ b. b && (not (ends_there q (Alone ExprPath y)) || false)) t ∙ ap
    (λ b. not b || false) f

-- behind a path that is a right operand no brace stands that it could take
plain_path : (q : Position) (n : ℕ) (x : Tree) (rest ts : List Token) → takes n (level ExprStruct) ≡ true
    → goes_on q n x rest ≡ false → (sees brace ts ≡ true → sees brace rest ≡ true) → is_path_form x ≡ true
    → ((us : List Token) → sees (struct_stands q) us ≡ sees brace us)
    → ((t : Tree) → ends_there q (Alone ExprPath t) ≡ false) → sees (struct_stands q) ts ≡ false
plain_path q n (Alone ExprPath y) rest ts t g b i s f = go (sees (struct_stands q) ts) refl
  where
    go : (c : Bool) → sees (struct_stands q) ts ≡ c → c ≡ false
    go true e = absurd (both _ (path_goes q n y rest t (f y) (brace_struct q rest (s rest ∙ b (sym (s ts) ∙ e)))) g)
    go false e = refl
plain_path q n (Alone _ y) rest ts t g b i s f = absurd (false≢true i)
plain_path q n _ rest ts t g b i s f = absurd (false≢true i)

pub path_right : (q : Position) (n : ℕ) (x : Tree) (rest ts : List Token) → takes n (level ExprStruct) ≡ true
    → goes_on q n x rest ≡ false → (sees brace ts ≡ true → sees brace rest ≡ true) → is_path_form x ≡ true
    → sees (struct_stands q) ts ≡ false
path_right InCondition n x rest ts t g b i = refl
path_right Plain n x rest ts t g b i = plain_path Plain n x rest ts t g b i (λ us. refl) (λ y. refl)
path_right InArm n x rest ts t g b i = plain_path InArm n x rest ts t g b i (λ us. refl) (λ y. refl)
path_right InStatement n x rest ts t g b i = plain_path InStatement n x rest ts t g b i (λ us. refl) (λ y. refl)

-- left operands
left_true : (s a e d c n : Bool) → a ≡ true → (not e || d) ≡ true → c ≡ false → n ≡ true
    → (s || ((a && (not e || d)) && (not c && n))) ≡ true
left_true true a e d c n f g h i = refl
left_true false true e d c n f g h i = ap (λ b. b && (not c && n)) g ∙ ap (λ b. not b && n) h ∙ i
left_true false false e d c n f g h i = cc

pub struct_true : (s b : Bool) → s ≡ true → (s || b) ≡ true
struct_true true b e = refl
struct_true false b e = cc

pub left_stays : (p : Position) (l : Tree) (k : Kind) (y : Tree) (rest : List Token) → Bound p l rest → IsLeft p l k
    → is_ended k (flat y) (bare (kept l)) ≡ true → stays_left p k y (bare (kept l)) ≡ true
unfolding stands_left
left_stays p l k y rest d i e =
    let a = and_true (may_be_left k l) (not (ends_there p l) || is_dotted k) i.0 in
    left_true (is_struct k) (may_be_left k (bare (kept l))) (ends_there p (bare (kept l))) (is_dotted k)
    (chains (bare (kept l)) k) (is_ended k (flat y) (bare (kept l)))
    (may_same k l p rest d ∙ a.0) (ap (λ b. not b || is_dotted k) (ends_same p l p rest d) ∙ a.1)
    (chains_same k l p rest d ∙ i.1) e

-- where a left operand ends: of a postfix form it takes one
may_plain : (k : Kind) (l : Tree) → is_struct k ≡ false → may_be_left k l
    ≡ cond (nat_eq (level k) 16) (takes_postfix l) (not (is_range l))
may_plain ExprStruct l s = absurd (false≢true (sym s))
may_plain _ l s = refl

pub left_edge : (p : Position) (l : Tree) (k : Kind) → is_struct k ≡ false → stands_left p l k ≡ true → Edge k p l
unfolding stands_left
left_edge p l k s m =
    go (nat_eq (level k) 16) refl
    (sym (may_plain k l s) ∙ (and_true (may_be_left k l) (not (ends_there p l) || is_dotted k) m).0)
  where
    go : (b : Bool) → nat_eq (level k) 16 ≡ b → cond b (takes_postfix l) (not (is_range l)) ≡ true → Edge k p l
    go true e m = inr (inr m)
    go false e m = inl e

-- what a form asks of the operand in front of it
Asks : Kind → List Token → Type 0
Asks k us =
    ((j : Kind) (y : Tree) → ends_before k us j y ≡ ends_before ExprField [] j y)
    × ((n : ℕ) (x : Tree) → (takes n (level k) && may_be_left k x)
    ≡ (takes n (level ExprField) && may_be_left ExprField x))

same_ended : (k : Kind) (us : List Token) → Asks k us → (x : Tree) → is_ended k us x ≡ is_ended ExprField [] x
unfolding Asks
same_ended k us a (Front j y x) =
    ap (λ b. not b && is_ended k us x) (a.1 (level j) x)
    ∙ ap (λ b. not (takes (level j) (level ExprField) && may_be_left ExprField x) && b) (same_ended k us a x)
same_ended k us a (Infix l j y r) =
    ap (λ b. not b && is_ended k us r) (a.1 (level j) r)
    ∙ ap (λ b. not (takes (level j) (level ExprField) && may_be_left ExprField r) && b) (same_ended k us a r)
same_ended k us a (Back l j y) = a.0 j y
same_ended k us a _ = refl

field_before : (us : List Token) (j : Kind) (y : Tree) → ends_before ExprField us j y ≡ ends_before ExprField [] j y
unfolding level
field_before us ExprCast y = refl
field_before us _ y = refl

method_before : (us : List Token) (j : Kind) (y : Tree) → ends_before ExprMethodCall us j y
    ≡ ends_before ExprField [] j y
unfolding level
method_before us ExprCast y = refl
method_before us _ y = refl

await_before : (us : List Token) (j : Kind) (y : Tree) → ends_before ExprAwait us j y ≡ ends_before ExprField [] j y
unfolding level
await_before us ExprCast y = refl
await_before us _ y = refl

pub dot_ended : (k : Kind) (us : List Token) (x : Tree) → is_dot k ≡ true → is_ended k us x ≡ is_ended ExprField [] x
unfolding level Asks
dot_ended k us x i =
    each_dot (λ j. is_ended j us x ≡ is_ended ExprField [] x)
    (same_ended ExprField us (field_before us, λ n z. refl) x)
    (same_ended ExprMethodCall us (method_before us, λ n z. refl) x)
    (same_ended ExprAwait us (await_before us, λ n z. refl) x) k i

or_true : (b : Bool) → (not b || true) ≡ true
or_true true = refl
or_true false = refl

pub dot_left : (p : Position) (k : Kind) (y m : Tree) → is_dot k ≡ true → takes_postfix m ≡ true
    → is_ended ExprField [] m
    ≡ true → stays_left p k y m ≡ true
unfolding level chains
dot_left p k y m i t e =
    each_dot (λ j. is_ended j (flat y) m ≡ true → stays_left p j y m ≡ true) (left ExprField) (left ExprMethodCall)
    (left ExprAwait) k i (dot_ended k (flat y) m i ∙ e)
  where
    left : (j : Kind) → is_ended j (flat y) m ≡ true
        → (false || ((takes_postfix m && (not (ends_there p m) || true)) && (not false && is_ended j (flat y) m)))
        ≡ true
    left j = left_true false (takes_postfix m) (ends_there p m) true false (is_ended j (flat y) m) t
        (or_true (ends_there p m)) refl

pub dot_stands : (p : Position) (k : Kind) → is_dot k ≡ true → stands_in p k ≡ true
dot_stands InCondition ExprStruct i = absurd (false≢true i)
dot_stands InCondition _ i = refl
dot_stands Plain k i = refl
dot_stands InArm k i = refl
dot_stands InStatement k i = refl

pub dot_takes : (p : Position) (k : Kind) (ts : List Token) → is_dot k ≡ true → takes_what_follows p k ts ≡ false
unfolding may_lack
dot_takes p k ts i = each_dot (λ j. takes_what_follows p j ts ≡ false) refl refl refl k i

pub dot_postfix : (p : Position) (k : Kind) (l : Tree) → is_dot k ≡ true → stands_left p l k ≡ true → takes_postfix l
    ≡ true
unfolding level stands_left
dot_postfix p k l i m =
    each_dot (λ j. stands_left p l j ≡ true → takes_postfix l ≡ true) (λ n. (and_true (takes_postfix l) _ n).0)
    (λ n. (and_true (takes_postfix l) _ n).0) (λ n. (and_true (takes_postfix l) _ n).0) k i m

abbrev pub index_value : List ℕ → Tree
index_value cs = Second (Called the_value (ALiteral (plain_decimal cs)))

pub struct_path : (p : Position) (k : Kind) (l : Tree) → is_struct k ≡ true → stands_left p l k ≡ true → is_path_form l
    ≡ true
unfolding stands_left
struct_path p ExprStruct l s m = (and_true (is_path_form l) _ m).0
struct_path p _ l s m = absurd (false≢true s)

pub struct_undotted : (k : Kind) → is_struct k ≡ true → is_dot k ≡ false
struct_undotted ExprStruct s = refl
struct_undotted _ s = absurd (false≢true s)

pub infix_no_struct : (k : Kind) → is_infix k ≡ true → (is_struct k ≡ false)
    × ((x : Tree) → is_attributed_range k x ≡ false)
infix_no_struct ExprStruct i = absurd (false≢true i)
infix_no_struct ExprAttributed i = absurd (false≢true i)
infix_no_struct _ i = (refl, λ x. refl)

pub back_takes : (l : Tree) (k : Kind) (y : Tree) (p : Position) (rest ts : List Token) → Bound p (Back l k y) rest
    → Behind rest ts → takes_what_follows p k ts ≡ false
back_takes l k y p rest ts d b =
    takes_none (may_lack k) (has_right p k ts) (takes_braces p k ts) (λ m. b.lacks p k m d.2)
    (back_braces p ts k (backs_are p k _ d.0))
