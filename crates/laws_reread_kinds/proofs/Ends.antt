-- Forms that end a statement or an arm by themselves: what is held of such a one, and its normal form, are such ones
-- too, and what is held of no other is.
use Rattle.std.proofs.Common.{◌≡◌, [], refl, sym, ap, ◌∙◌, subst}
use Rattle.std.specs.Prelude.{Bool, true, false, not, ◌&&◌, ◌||◌}
use Rattle.std.proofs.lemmas.Bool.{false≢true}
use Rattle.syn_grammar.specs.Kind.{Position, Plain, InCondition, InArm, InStatement, AMacro, Delimited}
use Rattle.syn_grammar.specs.Kind.{ExprAttributed, ExprBlock, ExprConst, ExprForLoop, ExprIf, ExprLoop, ExprMacro}
use Rattle.syn_grammar.specs.Kind.{ExprMatch, ExprRange, ExprRangeClosed, ExprTryBlock, ExprUnsafe, ExprWhile}
use Rattle.syn_grammar.specs.Tree.{Tree, Pair, First, Second, Node, Alone, Front, Back, Infix}
use Rattle.syn_grammar.specs.Table.{table}
use Rattle.syn_grammar.specs.Forms.{inside, is_block_like, is_brace_macro, is_range, ends_there, level, within}
use Rattle.syn_grammar.specs.Kept.{held, kept}
use Rattle.syn_grammar.specs.Normal.{formed, normal}
use Rattle.syn_grammar.specs.Parens.{begins_in, front_form, may_lack, parens_unless, with_right}
use Rattle.laws_reread_kinds.specs.After.{is_closed}
use Rattle.laws_reread_kinds.proofs.Fits.{Fits, FitsForms}

-- Such a form is no range, also behind attributes,
block_lone : (x : Tree) → is_block_like x ≡ true → (is_range x ≡ false) × (within 15 x ≡ true)
unfolding level
block_lone (Alone ExprRange y) e = absurd (false≢true e)
block_lone (Alone ExprRangeClosed y) e = absurd (false≢true e)
block_lone (Alone _ y) e = (refl, refl)
block_lone (Front ExprAttributed y x) e = ((block_lone x e).0, refl)
block_lone (Front _ y x) e = absurd (false≢true e)
block_lone (Back l k y) e = absurd (false≢true e)
block_lone (Infix l k y r) e = absurd (false≢true e)
block_lone _ e = absurd (false≢true e)

macro_lone : (x : Tree) → is_brace_macro x ≡ true → (is_range x ≡ false) × (within 15 x ≡ true)
unfolding level
macro_lone (Alone ExprMacro y) e = (refl, refl)
macro_lone (Alone _ y) e = absurd (false≢true e)
macro_lone (Front ExprAttributed y x) e = ((macro_lone x e).0, refl)
macro_lone (Front _ y x) e = absurd (false≢true e)
macro_lone (Back l k y) e = absurd (false≢true e)
macro_lone (Infix l k y r) e = absurd (false≢true e)
macro_lone _ e = absurd (false≢true e)

-- so it stays as it stands behind them.
stays_whole : (p : Position) (y x : Tree) → begins_in p ExprAttributed ≡ true
    → (is_range x ≡ false) × (within 15 x ≡ true) → front_form p ExprAttributed y x ≡ Front ExprAttributed y x
unfolding may_lack level
stays_whole p y x h e =
    ap (λ b. parens_unless b (Front ExprAttributed y (with_right p ExprAttributed y x))) h
    ∙ ap (λ b. Front ExprAttributed y (parens_unless b x))
    (ap (λ b. b && (true && not (is_range x))) e.1 ∙ ap not e.0)

-- what is held of it, and its normal form
pub block_read : (p : Position) → begins_in p ExprAttributed ≡ true → (x : Tree) → is_block_like x ≡ true
    → is_block_like (formed p [] (kept x)) ≡ true
unfolding may_lack inside
block_read p h (Alone ExprIf y) e = refl
block_read p h (Alone ExprWhile y) e = refl
block_read p h (Alone ExprForLoop y) e = refl
block_read p h (Alone ExprLoop y) e = refl
block_read p h (Alone ExprMatch y) e = refl
block_read p h (Alone ExprTryBlock y) e = refl
block_read p h (Alone ExprUnsafe y) e = refl
block_read p h (Alone ExprConst y) e = refl
block_read p h (Alone ExprBlock y) e = refl
block_read p h (Alone _ y) e = absurd (false≢true e)
block_read p h (Front ExprAttributed y x) e =
    let z : Tree = formed p [] (kept x) in
    let r = block_read p h x e in
    ap is_block_like (stays_whole p (normal (kept y)) z h (block_lone z r)) ∙ r
block_read p h (Front _ y x) e = absurd (false≢true e)
block_read p h (Back l k y) e = absurd (false≢true e)
block_read p h (Infix l k y r) e = absurd (false≢true e)
block_read p h _ e = absurd (false≢true e)

pub macro_read : (p : Position) → begins_in p ExprAttributed ≡ true → (x : Tree) → is_brace_macro x ≡ true
    → is_brace_macro (formed p [] (kept x)) ≡ true
unfolding may_lack held inside
macro_read p h (Alone ExprMacro (Node AMacro (Pair a (Pair s (Node Delimited (Second (First g))))))) e = refl
macro_read p h (Alone ExprMacro _) e = absurd (false≢true e)
macro_read p h (Alone _ y) e = absurd (false≢true e)
macro_read p h (Front ExprAttributed y x) e =
    let z : Tree = formed p [] (kept x) in
    let r = macro_read p h x e in
    ap is_brace_macro (stays_whole p (normal (kept y)) z h (macro_lone z r)) ∙ r
macro_read p h (Front _ y x) e = absurd (false≢true e)
macro_read p h (Back l k y) e = absurd (false≢true e)
macro_read p h (Infix l k y r) e = absurd (false≢true e)
macro_read p h _ e = absurd (false≢true e)

either : (a b c d : Bool) → (a ≡ true → c ≡ true) → (b ≡ true → d ≡ true) → (a || b) ≡ true → (c || d) ≡ true
either true b c d f g e = ap (λ i. i || d) (f refl)
either false b true d f g e = refl
either false b false d f g e = g e

pub ends_read : (x : Tree) → ends_there InStatement x ≡ true
    → ends_there InStatement (formed InStatement [] (kept x)) ≡ true
ends_read x e =
    either (is_block_like x) (is_brace_macro x) (is_block_like (formed InStatement [] (kept x)))
    (is_brace_macro (formed InStatement [] (kept x))) (block_read InStatement refl x) (macro_read InStatement refl x) e

-- a form that ends there
pub block_kept : (x : Tree) → FitsForms x → is_block_like (kept x) ≡ is_block_like x
block_kept (Alone ExprIf y) h = refl
block_kept (Alone _ y) h = refl
block_kept (Front ExprAttributed y x) h = block_kept x h.3
block_kept (Front _ y x) h = refl
block_kept (Back l k y) h = ap is_block_like (h.3 (kept l))
block_kept (Infix l k y r) h = refl
block_kept _ h = absurd h

-- A form whose held form is such a one is one itself.
abbrev Turns : Tree → Type 0
Turns x = is_brace_macro (kept x) ≡ true → is_brace_macro x ≡ true

delimited_back : (a b d : Tree) → Fits d (table Delimited)
    → Turns (Alone ExprMacro (Node AMacro (Pair a (Pair b (Node Delimited d)))))
unfolding table held
delimited_back a b (Second (First g)) f e = refl
delimited_back a b (Second (Second g)) f e = absurd (false≢true e)
delimited_back a b (Second _) f e = absurd f.1
delimited_back a b (First g) f e = absurd (false≢true e)
delimited_back a b _ f e = absurd f

-- a macro, by its path, its ! and its group
each_macro : (P : Tree → Type 0)
    → ((a b d : Tree) → Fits d (table Delimited) → P (Node AMacro (Pair a (Pair b (Node Delimited d)))))
    → (z : Tree) → Fits z (table AMacro) → P (Node AMacro z)
unfolding table
each_macro P h (Pair a (Pair b (Node j d))) f =
    subst (λ i. P (Node AMacro (Pair a (Pair b (Node i d))))) (sym f.1.1.0)
    (h a b d (subst (λ i. Fits d (table i)) f.1.1.0 f.1.1.3))
each_macro P h (Pair a (Pair b _)) f = absurd f.1.1
each_macro P h (Pair a _) f = absurd f.1
each_macro P h _ f = absurd f

pub each_call : (P : Tree → Type 0)
    → ((a b d : Tree) → Fits d (table Delimited) → P (Node AMacro (Pair a (Pair b (Node Delimited d)))))
    → (y : Tree) → Fits y (table ExprMacro) → P y
unfolding table
each_call P h (Node k z) f =
    subst (λ i. P (Node i z)) (sym f.0) (each_macro P h z (subst (λ i. Fits z (table i)) f.0 f.3))
each_call P h _ f = absurd f

pub own_back : (y : Tree) → Fits y (table ExprMacro) → Turns (Alone ExprMacro y)
own_back y f e = each_call (λ z. Turns (Alone ExprMacro z)) delimited_back y f e

macro_back : (x : Tree) → FitsForms x → Turns x
macro_back (Alone ExprMacro y) f e = own_back y f.1 e
macro_back (Alone _ y) f e = absurd (false≢true e)
macro_back (Front ExprAttributed y x) f e = macro_back x f.3 e
macro_back (Front _ y x) f e = absurd (false≢true e)
macro_back (Back l k y) f e =
    absurd (false≢true (subst (λ z. is_brace_macro z ≡ true) (f.3 (kept l)) e))
macro_back (Infix l k y r) f e = absurd (false≢true e)
macro_back _ f e = absurd f

or_back : (a b c d : Bool) → a ≡ c → (b ≡ true → d ≡ true) → (a || b) ≡ true → (c || d) ≡ true
or_back true b c d f g e = ap (λ i. i || d) (sym f)
or_back false b c d f g e = ap (λ i. i || d) (sym f) ∙ g e

pub ends_back : (p : Position) (x : Tree) → FitsForms x → ends_there p (kept x) ≡ true → ends_there p x ≡ true
ends_back InArm x f e = sym (block_kept x f) ∙ e
ends_back InStatement x f e =
    or_back (is_block_like (kept x)) (is_brace_macro (kept x)) (is_block_like x) (is_brace_macro x) (block_kept x f)
    (macro_back x f) e
ends_back Plain x f e = absurd (false≢true e)
ends_back InCondition x f e = absurd (false≢true e)

-- and one that else may follow
pub closed_kept : (x : Tree) → FitsForms x → is_closed (kept x) ≡ is_closed x
closed_kept (Alone k y) f = refl
closed_kept (Front k y x) f = closed_kept x f.3
closed_kept (Back l k y) f = ap is_closed (f.3 (kept l))
closed_kept (Infix l k y r) f = closed_kept r f.4
closed_kept _ f = absurd f
