-- What is put in parentheses behind attributes changes what an operand is taken for in a range alone.
use Rattle.std.proofs.Common.{◌≡◌, ℕ, List, refl, sym, ap, ◌∙◌}
use Rattle.std.specs.Prelude.{Bool, true, false, not, ◌&&◌, ◌||◌, cond, nat_eq}
use Rattle.std.proofs.lemmas.Bool.{and_from, eqb-true}
use Rattle.proc_macro2.specs.Token.{Token}
use Rattle.syn_grammar.specs.Kind.{Kind, Position, Plain, InCondition, InArm, InStatement, ExprAttributed}
use Rattle.syn_grammar.specs.Kind.{ExprIf, ExprWhile, ExprForLoop, ExprLoop, ExprMatch, ExprTryBlock, ExprUnsafe}
use Rattle.syn_grammar.specs.Kind.{ExprConst, ExprBlock, ExprMacro, ExprStruct}
use Rattle.syn_grammar.specs.Tree.{Tree, Alone, Front, Back, Infix, flat}
use Rattle.syn_grammar.specs.Forms.{level, kind_of, is_range, takes_postfix, is_path_form, may_be_left, is_block_like}
use Rattle.syn_grammar.specs.Forms.{is_brace_macro, ends_there, is_dotted, chains, takes, within}
use Rattle.syn_grammar.specs.Parens.{in_parens, is_struct, is_ended, stays_left}
use Rattle.syn_grammar.proofs.Whole.{and_true}
use Rattle.laws_binding.specs.Bare.{bare}
use Rattle.laws_ranges.specs.Shelled.{is_lone_range, is_shelled, has_shell, goes_in, parens_if, shelled}

pub kind_bare : (m : Tree) → kind_of (bare m) ≡ kind_of m
kind_bare (Alone k y) = refl
kind_bare (Front k y x) = refl
kind_bare (Back l k y) = refl
kind_bare (Infix l k y r) = refl
kind_bare _ = refl

pub kind_shelled : (m : Tree) → kind_of (shelled m) ≡ kind_of m
kind_shelled (Alone k y) = refl
kind_shelled (Front k y x) = refl
kind_shelled (Back l k y) = refl
kind_shelled (Infix l k y r) = refl
kind_shelled _ = refl

same_kind : (m : Tree) → kind_of (shelled m) ≡ kind_of (bare m)
same_kind m = kind_shelled m ∙ sym (kind_bare m)

-- ranges
pub range_bare : (m : Tree) → is_range (bare m) ≡ is_range m
range_bare (Alone k y) = refl
range_bare (Front ExprAttributed y x) = range_bare x
range_bare (Front _ y x) = refl
range_bare (Back l k y) = refl
range_bare (Infix l k y r) = refl
range_bare _ = refl

behind : (b : Bool) (x : Tree) → is_range x ≡ b → is_range (parens_if b x) ≡ false
unfolding level
behind true x e = refl
behind false x e = e

pub range_shelled : (m : Tree) → is_range (shelled m) ≡ is_lone_range m
unfolding level
range_shelled (Alone k y) = refl
range_shelled (Front ExprAttributed y x) = behind (is_lone_range x) (shelled x) (range_shelled x)
range_shelled (Front _ y x) = refl
range_shelled (Back l k y) = refl
range_shelled (Infix l k y r) = refl
range_shelled _ = refl

or_false : (b : Bool) → b ≡ (b || false)
or_false true = refl
or_false false = refl

pub range_split : (m : Tree) → is_range m ≡ (is_lone_range m || has_shell m)
unfolding level
range_split (Alone k y) = or_false _
range_split (Front ExprAttributed y x) = refl
range_split (Front _ y x) = or_false _
range_split (Back l k y) = or_false _
range_split (Infix l k y r) = or_false _
range_split _ = refl

-- what else is asked of a left operand
pub postfix_shelled : (m : Tree) → takes_postfix (shelled m) ≡ takes_postfix (bare m)
postfix_shelled m = ap (λ k. nat_eq (level k) 16 || nat_eq (level k) 1) (same_kind m)

path_shelled : (m : Tree) → is_path_form (shelled m) ≡ is_path_form (bare m)
path_shelled (Alone k y) = refl
path_shelled (Front k y x) = refl
path_shelled (Back l k y) = refl
path_shelled (Infix l k y r) = refl
path_shelled _ = refl

chains_shelled : (k : Kind) (m : Tree) → chains (shelled m) k ≡ chains (bare m) k
unfolding chains
chains_shelled k m = ap (λ j. nat_eq (level k) 7 && nat_eq (level j) 7) (same_kind m)

block_range : (m : Tree) → is_lone_range m ≡ true → is_block_like (bare m) ≡ false
unfolding level
block_range (Alone ExprIf y) e = cc
block_range (Alone ExprWhile y) e = cc
block_range (Alone ExprForLoop y) e = cc
block_range (Alone ExprLoop y) e = cc
block_range (Alone ExprMatch y) e = cc
block_range (Alone ExprTryBlock y) e = cc
block_range (Alone ExprUnsafe y) e = cc
block_range (Alone ExprConst y) e = cc
block_range (Alone ExprBlock y) e = cc
block_range (Alone _ y) e = refl
block_range (Front ExprAttributed y x) e = cc
block_range (Front _ y x) e = refl
block_range (Back l k y) e = refl
block_range (Infix l k y r) e = refl
block_range _ e = cc

block_behind : (b : Bool) (x z : Tree) → (b ≡ true → is_block_like z ≡ false) → is_block_like x ≡ is_block_like z
    → is_block_like (parens_if b x) ≡ is_block_like z
block_behind true x z f e = sym (f refl)
block_behind false x z f e = e

block_shelled : (m : Tree) → is_block_like (shelled m) ≡ is_block_like (bare m)
block_shelled (Alone k y) = refl
block_shelled (Front ExprAttributed y x) =
    block_behind (is_lone_range x) (shelled x) (bare x) (block_range x) (block_shelled x)
block_shelled (Front _ y x) = refl
block_shelled (Back l k y) = refl
block_shelled (Infix l k y r) = refl
block_shelled _ = refl

macro_range : (m : Tree) → is_lone_range m ≡ true → is_brace_macro (bare m) ≡ false
unfolding level
macro_range (Alone ExprMacro y) e = cc
macro_range (Alone _ y) e = refl
macro_range (Front ExprAttributed y x) e = cc
macro_range (Front _ y x) e = refl
macro_range (Back l k y) e = refl
macro_range (Infix l k y r) e = refl
macro_range _ e = cc

macro_behind : (b : Bool) (x z : Tree) → (b ≡ true → is_brace_macro z ≡ false) → is_brace_macro x ≡ is_brace_macro z
    → is_brace_macro (parens_if b x) ≡ is_brace_macro z
macro_behind true x z f e = sym (f refl)
macro_behind false x z f e = e

macro_shelled : (m : Tree) → is_brace_macro (shelled m) ≡ is_brace_macro (bare m)
macro_shelled (Alone k y) = refl
macro_shelled (Front ExprAttributed y x) =
    macro_behind (is_lone_range x) (shelled x) (bare x) (macro_range x) (macro_shelled x)
macro_shelled (Front _ y x) = refl
macro_shelled (Back l k y) = refl
macro_shelled (Infix l k y r) = refl
macro_shelled _ = refl

ends_shelled : (p : Position) (m : Tree) → ends_there p (shelled m) ≡ ends_there p (bare m)
ends_shelled Plain m = refl
ends_shelled InCondition m = refl
ends_shelled InArm m = block_shelled m
ends_shelled InStatement m =
    ap (λ b. b || is_brace_macro (shelled m)) (block_shelled m) ∙ ap (λ b. is_block_like (bare m) || b)
    (macro_shelled m)

-- what stands left stays there, and is a range no longer
lone_less : (a b c : Bool) → b ≡ (a || c) → not b ≡ true → not a ≡ true
lone_less true true c e f = f
lone_less true false c e f = cc
lone_less false b c e f = refl

not_range : (m : Tree) → not (is_range (bare m)) ≡ true → not (is_range (shelled m)) ≡ true
not_range m e =
    ap not (range_shelled m)
    ∙ lone_less (is_lone_range m) (is_range m) (has_shell m) (range_split m) (ap not (sym (range_bare m)) ∙ e)

may_cond : (b : Bool) (m : Tree) → cond b (takes_postfix (bare m)) (not (is_range (bare m))) ≡ true
    → cond b (takes_postfix (shelled m)) (not (is_range (shelled m))) ≡ true
may_cond true m e = postfix_shelled m ∙ e
may_cond false m e = not_range m e

may_shelled : (k : Kind) (m : Tree) → may_be_left k (bare m) ≡ true → may_be_left k (shelled m) ≡ true
may_shelled ExprStruct m e = path_shelled m ∙ e
may_shelled k m e = may_cond (nat_eq (level k) 16) m e

-- left edges
within_behind : (n : ℕ) (b : Bool) (x : Tree) → within n x ≡ true → within n (parens_if b x) ≡ true
within_behind n true x e = refl
within_behind n false x e = e

pub within_shelled : (n : ℕ) (m : Tree) → within n (bare m) ≡ true → within n (shelled m) ≡ true
within_shelled n (Back l k y) e =
    let a = and_true (takes n (level k)) (within n (bare l)) e in
    and_from _ _ a.0 (within_behind n (goes_in k l) (shelled l) (within_shelled n l a.1))
within_shelled n (Infix l k y r) e =
    let a = and_true (takes n (level k)) (within n (bare l)) e in
    and_from _ _ a.0 (within_behind n (goes_in k l) (shelled l) (within_shelled n l a.1))
within_shelled n (Alone k y) e = refl
within_shelled n (Front k y x) e = refl
within_shelled n _ e = e

-- right edges: an operand is ended where the form behind it does not go in
may_plain : (k : Kind) (x : Tree) → is_struct k ≡ false → may_be_left k x
    ≡ cond (nat_eq (level k) 16) (takes_postfix x) (not (is_range x))
may_plain ExprStruct x s = cc
may_plain _ x s = refl

paren_cond : (b : Bool) (x : Tree) → cond b (takes_postfix (in_parens x)) (not (is_range (in_parens x))) ≡ true
unfolding level
paren_cond true x = refl
paren_cond false x = refl

may_parens : (k : Kind) (x : Tree) → is_struct k ≡ false → may_be_left k (in_parens x) ≡ true
may_parens k x s = may_plain k (in_parens x) s ∙ paren_cond (nat_eq (level k) 16) x

shell_lone : (x : Tree) → has_shell x ≡ true → is_lone_range x ≡ false
unfolding level
shell_lone (Front ExprAttributed y x) h = refl
shell_lone (Front _ y x) h = cc
shell_lone _ h = cc

takes_top : (n : ℕ) → nat_eq n 16 ≡ true → takes 15 n ≡ true
unfolding takes
takes_top n e = ap (takes 15) (eqb-true n 16 e)

-- a postfix form goes in where it meets the shell
shell_in : (k : Kind) (x : Tree) → nat_eq (level k) 16 ≡ true → has_shell x ≡ true → goes_in k x ≡ true
unfolding level
shell_in k (Front ExprAttributed y z) e h =
    go (is_lone_range z) (has_shell z) (takes 15 (level k)) (takes_top (level k) e) (sym (range_split z) ∙ h)
  where
    go : (a b t : Bool) → t ≡ true → (a || b) ≡ true → cond a t ((t && b) || goes_in k z) ≡ true
    go true b t f g = f
    go false true true f g = refl
    go false true false f g = cc
    go false false t f g = cc
shell_in k (Front _ y z) e h = cc
shell_in k _ e h = cc

range_same : (x : Tree) → has_shell x ≡ false → is_range (shelled x) ≡ is_range (bare x)
range_same x f =
    range_shelled x ∙ or_false (is_lone_range x) ∙ ap (λ b. is_lone_range x || b) (sym f) ∙ sym (range_split x)
    ∙ sym (range_bare x)

may_same : (k : Kind) (x : Tree) → is_struct k ≡ false → has_shell x ≡ false → may_be_left k (shelled x)
    ≡ may_be_left k (bare x)
may_same k x s f =
    may_plain k (shelled x) s
    ∙ ap (λ b. cond (nat_eq (level k) 16) b (not (is_range (shelled x)))) (postfix_shelled x)
    ∙ ap (λ b. cond (nat_eq (level k) 16) (takes_postfix (bare x)) (not b)) (range_same x f)
    ∙ sym (may_plain k (bare x) s)

may_top : (k : Kind) (x : Tree) → is_struct k ≡ false → nat_eq (level k) 16 ≡ true → may_be_left k (shelled x)
    ≡ may_be_left k (bare x)
may_top k x s g =
    may_plain k (shelled x) s
    ∙ ap (λ b. cond b (takes_postfix (shelled x)) (not (is_range (shelled x)))) g
    ∙ postfix_shelled x
    ∙ sym (may_plain k (bare x) s ∙ ap (λ b. cond b (takes_postfix (bare x)) (not (is_range (bare x)))) g)

may_free : (k : Kind) (x : Tree) → is_struct k ≡ false → nat_eq (level k) 16 ≡ false → has_shell x ≡ true
    → may_be_left k (shelled x) ≡ true
may_free k x s g f =
    may_plain k (shelled x) s
    ∙ ap (λ b. cond b (takes_postfix (shelled x)) (not (is_range (shelled x)))) g
    ∙ ap not (range_shelled x ∙ shell_lone x f)

abbrev Split : Kind → List Token → Tree → Type 0
Split k us x = is_ended k us (shelled x) ≡ not (goes_in k x)

in_shell : (k : Kind) (us : List Token) (x : Tree) → is_struct k ≡ false → not (may_be_left k (bare x)) ≡ true
    → has_shell x ≡ true → Split k us x → (not (may_be_left k (shelled x)) && is_ended k us (shelled x)) ≡ false
in_shell k us x s e f h = go (nat_eq (level k) 16) refl
  where
    go : (b : Bool) → nat_eq (level k) 16 ≡ b
        → (not (may_be_left k (shelled x)) && is_ended k us (shelled x)) ≡ false
    go true g =
        ap (λ c. not c && is_ended k us (shelled x)) (may_top k x s g)
        ∙ ap (λ c. c && is_ended k us (shelled x)) e ∙ h ∙ ap not (shell_in k x g f)
    go false g = ap (λ c. not c && is_ended k us (shelled x)) (may_free k x s g f)

edge_split : (k : Kind) (us : List Token) (t : Bool) (x : Tree) → is_struct k ≡ false
    → not (t && may_be_left k (bare x)) ≡ true → Split k us x
    → (not (t && may_be_left k (shelled x)) && is_ended k us (shelled x)) ≡ not ((t && has_shell x) || goes_in k x)
edge_split k us false x s e h = h
edge_split k us true x s e h = go (has_shell x) refl
  where
    go : (b : Bool) → has_shell x ≡ b
        → (not (may_be_left k (shelled x)) && is_ended k us (shelled x)) ≡ not (b || goes_in k x)
    go true f = in_shell k us x s e f h
    go false f =
        ap (λ c. not c && is_ended k us (shelled x)) (may_same k x s f)
        ∙ ap (λ c. c && is_ended k us (shelled x)) e ∙ h

and_yes : (b : Bool) → (b && true) ≡ b
and_yes true = refl
and_yes false = refl

front_split : (k : Kind) (us : List Token) (b t : Bool) (x : Tree) → is_struct k ≡ false
    → not (t && may_be_left k (bare x)) ≡ true → Split k us x
    → (not (t && may_be_left k (parens_if b (shelled x))) && is_ended k us (parens_if b (shelled x)))
    ≡ not (cond b t ((t && has_shell x) || goes_in k x))
front_split k us true t x s e h =
    and_yes (not (t && may_be_left k (in_parens (shelled x))))
    ∙ ap (λ c. not (t && c)) (may_parens k (shelled x) s) ∙ ap not (and_yes t)
front_split k us false t x s e h = edge_split k us t x s e h

ended_split : (k : Kind) (us : List Token) (m : Tree) → is_struct k ≡ false → is_ended k us (bare m) ≡ true
    → Split k us m
ended_split k us (Front j y x) s e =
    let a = and_true (not (takes (level j) (level k) && may_be_left k (bare x))) (is_ended k us (bare x)) e in
    front_split k us (is_shelled j x) (takes (level j) (level k)) x s a.0 (ended_split k us x s a.1)
ended_split k us (Infix l j y r) s e =
    let a = and_true (not (takes (level j) (level k) && may_be_left k (bare r))) (is_ended k us (bare r)) e in
    edge_split k us (takes (level j) (level k)) r s a.0 (ended_split k us r s a.1)
ended_split k us (Back l j y) s e = e
ended_split k us (Alone j y) s e = refl
ended_split k us _ s e = e

left_split : (s a e d c n i : Bool) → s ≡ false → a ≡ true → (not e || d) ≡ true → c ≡ false → n ≡ not i
    → (s || ((a && (not e || d)) && (not c && n))) ≡ not i
left_split false true e d false n i f g h j k = ap (λ b. b && n) h ∙ k
left_split false true e d true n i f g h j k = cc
left_split false false e d c n i f g h j k = cc
left_split true a e d c n i f g h j k = cc

not_false : (b : Bool) → not b ≡ true → b ≡ false
not_false true e = cc
not_false false e = refl

-- A left operand that stays as it is but for ranges behind attributes stays with those in parentheses, where the form
-- behind it does not go in.
pub left_shelled : (p : Position) (k : Kind) (y m : Tree) → is_struct k ≡ false → stays_left p k y (bare m) ≡ true
    → stays_left p k y (shelled m) ≡ not (goes_in k m)
left_shelled p k y m s e =
    let stays : ((may_be_left k (bare m) && (not (ends_there p (bare m)) || is_dotted k))
    && (not (chains (bare m) k) && is_ended k (flat y) (bare m))) ≡ true =
    sym (ap (λ b. b || ((may_be_left k (bare m) && (not (ends_there p (bare m)) || is_dotted k))
    && (not (chains (bare m) k) && is_ended k (flat y) (bare m)))) s) ∙ e in
    let a = and_true (may_be_left k (bare m) && (not (ends_there p (bare m)) || is_dotted k))
    (not (chains (bare m) k) && is_ended k (flat y) (bare m)) stays in
    let b = and_true (may_be_left k (bare m)) (not (ends_there p (bare m)) || is_dotted k) a.0 in
    let c = and_true (not (chains (bare m) k)) (is_ended k (flat y) (bare m)) a.1 in
    left_split (is_struct k) (may_be_left k (shelled m)) (ends_there p (shelled m)) (is_dotted k)
    (chains (shelled m) k) (is_ended k (flat y) (shelled m)) (goes_in k m) s (may_shelled k m b.0)
    (ap (λ b. not b || is_dotted k) (ends_shelled p m) ∙ b.1)
    (chains_shelled k m ∙ not_false (chains (bare m) k) c.0) (ended_split k (flat y) m s c.1)
