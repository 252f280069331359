-- What the tokens that a form calls for say of its kind, and where attributes begin and end.
use Rattle.std.specs.Prelude.{◌≡◌, Bool, true, false, cond, ◌&&◌, ◌++◌, List, [], ◌∷◌}
use Rattle.std.specs.Prelude.{Option, Some, None, refl}
use Rattle.std.proofs.Common.{◌∙◌, ap, append_assoc, subst, sym}
use Rattle.proc_macro2.specs.Token.{Token}
use Rattle.syn_grammar.specs.Kind.{Kind, Position, Plain, InCondition, InArm, InStatement, ExprAnd, ExprArray}
use Rattle.syn_grammar.specs.Kind.{ExprAssign, ExprAsync, ExprAttributed, ExprAwait, ExprBitAnd, ExprBitOr}
use Rattle.syn_grammar.specs.Kind.{ExprBitXor, ExprBlock, ExprBreak, ExprCall, ExprCast, ExprClosure, ExprCompare}
use Rattle.syn_grammar.specs.Kind.{ExprConst, ExprContinue, ExprField, ExprForLoop, ExprGroup, ExprIf, ExprIndex}
use Rattle.syn_grammar.specs.Kind.{ExprInfer, ExprLet, ExprLit, ExprLoop, ExprMacro, ExprMatch, ExprMethodCall}
use Rattle.syn_grammar.specs.Kind.{ExprOr, ExprParen, ExprPath, ExprProduct, ExprRange, ExprRangeClosed, ExprRawAddr}
use Rattle.syn_grammar.specs.Kind.{ExprReference, ExprRepeat, ExprReturn, ExprShift, ExprStruct, ExprSum, ExprTry}
use Rattle.syn_grammar.specs.Kind.{ExprTryBlock, ExprTypedClosure, ExprUnary, ExprUnsafe, ExprWhile, ExprYield}
use Rattle.syn_grammar.specs.Look.{seen, sees}
use Rattle.syn_grammar.specs.Say.{marks}
use Rattle.syn_grammar.specs.Tree.{Tree, End, Again, Front, Back, Infix, flat}
use Rattle.syn_grammar.specs.Gram.{Gram, star}
use Rattle.syn_grammar.specs.Derives.{Derives, Bound}
use Rattle.syn_grammar.specs.Forms.{Case, form, first_form, fronts, backs, front, back, has_right, level, may_be_left}
use Rattle.syn_grammar.specs.Forms.{stands_left}
use Rattle.node_shapes.specs.Forms.{stands_alone, stands_before, stands_behind, stands_between, begins_attributed}

-- the kinds of forms that begin with tokens, and of those that have an operand before them
abbrev starts : Kind → Bool
starts ExprAttributed = true
starts ExprUnary = true
starts ExprRawAddr = true
starts ExprReference = true
starts ExprLet = true
starts ExprClosure = true
starts ExprRangeClosed = true
starts k = stands_alone k

abbrev follows : Kind → Bool
follows ExprStruct = true
follows ExprCall = true
follows ExprMethodCall = true
follows ExprField = true
follows ExprAwait = true
follows ExprIndex = true
follows ExprTry = true
follows ExprCast = true
follows k = stands_between k

-- each kind of some cases passes
abbrev each_case : (Kind → Bool) → List Case → Bool
each_case q [] = true
each_case q (form k sight ∷ cases) = q k && each_case q cases

and_true : (a b : Bool) → (a && b) ≡ true → (a ≡ true) × (b ≡ true)
and_true true b e = (refl, e)
and_true false b e = cc

same_kind : (q : Kind → Bool) (k l : Kind) → Some k ≡ Some l → q k ≡ true → q l ≡ true
same_kind q k l e h = subst (λ o. OnSome q o) e h
  where
    OnSome : (Kind → Bool) → Option Kind → Type 0
    OnSome q None = Unit {0}
    OnSome q (Some k) = q k ≡ true

one_case : (q : Kind → Bool) (b : Bool) (l k : Kind) (o : Option Kind) → q l ≡ true
    → (o ≡ Some k → q k ≡ true) → cond b (Some l) o ≡ Some k → q k ≡ true
one_case q true l k o h i e = same_kind q l k e h
one_case q false l k o h i e = i e

first_case : (q : Kind → Bool) (cases : List Case) → each_case q cases ≡ true → (ts : List Token) (k : Kind)
    → first_form cases ts ≡ Some k → q k ≡ true
first_case q [] h ts k e = cc
first_case q (form l sight ∷ cases) h ts k e =
    let a = and_true (q l) (each_case q cases) h in
    one_case q (seen (sight ts)) l k (first_form cases ts) a.0 (λ f. first_case q cases a.1 ts k f) e

begun : (p : Position) → each_case starts (fronts p) ≡ true
begun Plain = refl
begun InCondition = refl
begun InArm = refl
begun InStatement = refl

followed : (p : Position) → each_case follows (backs p) ≡ true
followed Plain = refl
followed InCondition = refl
followed InArm = refl
followed InStatement = refl

in_front : (p : Position) (ts : List Token) (k : Kind) → front p ts ≡ Some k → starts k ≡ true
unfolding front
in_front p ts k e = first_case starts (fronts p) (begun p) ts k e

behind : (p : Position) (ts : List Token) (k : Kind) → back p ts ≡ Some k → follows k ≡ true
unfolding back
behind p ts k e = first_case follows (backs p) (followed p) ts k e

-- by the operands that it has there

alone_kind : (p : Position) (k : Kind) (ts : List Token) → starts k ≡ true → has_right p k ts ≡ false
    → stands_alone k ≡ true
unfolding has_right level
alone_kind p ExprLit ts b r = refl
alone_kind p ExprPath ts b r = refl
alone_kind p ExprMacro ts b r = refl
alone_kind p ExprParen ts b r = refl
alone_kind p ExprArray ts b r = refl
alone_kind p ExprRepeat ts b r = refl
alone_kind p ExprGroup ts b r = refl
alone_kind p ExprInfer ts b r = refl
alone_kind p ExprBlock ts b r = refl
alone_kind p ExprUnsafe ts b r = refl
alone_kind p ExprAsync ts b r = refl
alone_kind p ExprConst ts b r = refl
alone_kind p ExprTryBlock ts b r = refl
alone_kind p ExprIf ts b r = refl
alone_kind p ExprMatch ts b r = refl
alone_kind p ExprLoop ts b r = refl
alone_kind p ExprWhile ts b r = refl
alone_kind p ExprForLoop ts b r = refl
alone_kind p ExprContinue ts b r = refl
alone_kind p ExprTypedClosure ts b r = refl
alone_kind p ExprBreak ts b r = refl
alone_kind p ExprReturn ts b r = refl
alone_kind p ExprYield ts b r = refl
alone_kind p ExprRange ts b r = refl
alone_kind p _ ts b r = cc

before_kind : (p : Position) (k : Kind) (ts : List Token) → starts k ≡ true → has_right p k ts ≡ true
    → stands_before k ≡ true
unfolding has_right level
before_kind p ExprAttributed ts b r = refl
before_kind p ExprUnary ts b r = refl
before_kind p ExprRawAddr ts b r = refl
before_kind p ExprReference ts b r = refl
before_kind p ExprLet ts b r = refl
before_kind p ExprBreak ts b r = refl
before_kind p ExprReturn ts b r = refl
before_kind p ExprYield ts b r = refl
before_kind p ExprClosure ts b r = refl
before_kind p ExprRange ts b r = refl
before_kind p ExprRangeClosed ts b r = refl
before_kind p _ ts b r = cc

behind_kind : (p : Position) (k : Kind) (ts : List Token) → follows k ≡ true → has_right p k ts ≡ false
    → stands_behind k ≡ true
unfolding has_right level
behind_kind p ExprStruct ts b r = refl
behind_kind p ExprCall ts b r = refl
behind_kind p ExprMethodCall ts b r = refl
behind_kind p ExprField ts b r = refl
behind_kind p ExprAwait ts b r = refl
behind_kind p ExprIndex ts b r = refl
behind_kind p ExprTry ts b r = refl
behind_kind p ExprCast ts b r = refl
behind_kind p ExprRange ts b r = refl
behind_kind p _ ts b r = cc

between_kind : (p : Position) (k : Kind) (ts : List Token) → follows k ≡ true → has_right p k ts ≡ true
    → stands_between k ≡ true
unfolding has_right level
between_kind p ExprRange ts b r = refl
between_kind p ExprRangeClosed ts b r = refl
between_kind p ExprAssign ts b r = refl
between_kind p ExprOr ts b r = refl
between_kind p ExprAnd ts b r = refl
between_kind p ExprCompare ts b r = refl
between_kind p ExprBitOr ts b r = refl
between_kind p ExprBitXor ts b r = refl
between_kind p ExprBitAnd ts b r = refl
between_kind p ExprShift ts b r = refl
between_kind p ExprSum ts b r = refl
between_kind p ExprProduct ts b r = refl
between_kind p _ ts b r = cc

pub is_alone : (p : Position) (k : Kind) (ts us : List Token) → front p ts ≡ Some k → has_right p k us ≡ false
    → stands_alone k ≡ true
is_alone p k ts us e r = alone_kind p k us (in_front p ts k e) r

pub is_before : (p : Position) (k : Kind) (ts us : List Token) → front p ts ≡ Some k → has_right p k us ≡ true
    → stands_before k ≡ true
is_before p k ts us e r = before_kind p k us (in_front p ts k e) r

pub is_behind : (p : Position) (k : Kind) (ts us : List Token) → back p ts ≡ Some k → has_right p k us ≡ false
    → stands_behind k ≡ true
is_behind p k ts us e r = behind_kind p k us (behind p ts k e) r

pub is_between : (p : Position) (k : Kind) (ts us : List Token) → back p ts ≡ Some k → has_right p k us ≡ true
    → stands_between k ≡ true
is_between p k ts us e r = between_kind p k us (behind p ts k e) r

-- what stands left of a form may stand there
pub left_stands : (p : Position) (l : Tree) (k : Kind) → stands_left p l k ≡ true → may_be_left k l ≡ true
unfolding stands_left
left_stands p l k e = (and_true (may_be_left k l) _ e).0

-- attributes begin with #

abbrev no_attributes : Kind → Bool
no_attributes ExprAttributed = false
no_attributes k = true

abbrev others : List Case → List Case
others [] = []
others (c ∷ cs) = cs

not_others : (p : Position) (ts : List Token) → first_form (others (fronts p)) ts ≡ Some ExprAttributed → ⊥
not_others p ts e = absurd_test (first_case no_attributes (others (fronts p)) (rest p) ts ExprAttributed e)
  where
    absurd_test : false ≡ true → ⊥
    absurd_test e = cc

    rest : (p : Position) → each_case no_attributes (others (fronts p)) ≡ true
    rest Plain = refl
    rest InCondition = refl
    rest InArm = refl
    rest InStatement = refl

one_sight : (b : Bool) (o : Option Kind) → (o ≡ Some ExprAttributed → ⊥)
    → cond b (Some ExprAttributed) o ≡ Some ExprAttributed
    → b ≡ true
one_sight true o n e = refl
one_sight false o n e = absurd (n e)

hash_seen : (p : Position) (ts : List Token) → front p ts ≡ Some ExprAttributed → sees (marks "#") ts ≡ true
unfolding front
hash_seen p ts e = one_sight (sees (marks "#") ts) _ (not_others p ts) e

begin_with_hash : (p : Position) (x : Tree) (rest : List Token) → Bound p x rest → begins_attributed x ≡ true
    → sees (marks "#") (flat x ++ rest) ≡ true
begin_with_hash p (Front ExprAttributed y x) rest b e =
    subst (λ ts. sees (marks "#") ts ≡ true) (sym (append_assoc (flat y) (flat x) rest)) (hash_seen p _ b.0)
begin_with_hash p (Back l k y) rest b e =
    subst (λ ts. sees (marks "#") ts
    ≡ true) (sym (append_assoc (flat l) (flat y) rest)) (begin_with_hash p l _ b.4 e)
begin_with_hash p (Infix l k y r) rest b e =
    subst (λ ts. sees (marks "#") ts ≡ true)
    (ap (λ ts. flat l ++ ts) (sym (append_assoc (flat y) (flat r) rest))
    ∙ sym (append_assoc (flat l) (flat y ++ flat r) rest)) (begin_with_hash p l _ b.4 e)
begin_with_hash p _ rest b e = cc

-- they end where none begins
pub star_ended : (x : Tree) (t : List Token → Bool) (g : Gram) (rest : List Token)
    → Derives x (star t g) rest → t rest ≡ false
star_ended End t g rest d = d
star_ended (Again x y) t g rest d = star_ended y t g rest d.2
star_ended _ t g rest d = absurd d

not_again : (b c : Bool) → b ≡ false → (c ≡ true → b ≡ true) → c ≡ false
not_again b true e h = cc (h refl)
not_again b false e h = refl

pub begins_none : (p : Position) (x : Tree) (rest : List Token) → Bound p x rest
    → sees (marks "#") (flat x ++ rest) ≡ false → begins_attributed x ≡ false
begins_none p x rest b e = not_again _ (begins_attributed x) e (begin_with_hash p x rest b)
