-- What is kept of an expression, in normal form but for its parentheses, may stand where the expression may.
use Rattle.std.proofs.Common.{◌≡◌, ℕ, List, [], ◌++◌, refl, sym, ap, ◌∙◌, subst, append_assoc}
use Rattle.std.specs.Prelude.{Bool, true, false, not, ◌&&◌, ◌||◌, cond, nat_eq}
use Rattle.std.proofs.lemmas.Bool.{and_from}
use Rattle.std.proofs.lemmas.List.{append-nil}
use Rattle.proc_macro2.specs.Token.{Token}
use Rattle.syn_grammar.specs.Kind.{Kind, Position, Plain, InCondition, InArm, InStatement, AMacro, Delimited}
use Rattle.syn_grammar.specs.Kind.{ExprField, ExprAttributed, ExprStruct, ExprPath}
use Rattle.syn_grammar.specs.Kind.{ExprMacro, ExprIf}
use Rattle.syn_grammar.specs.Tree.{Tree, Pair, First, Second, Node, Alone, Front, Back, Infix, flat}
use Rattle.syn_grammar.specs.Gram.{ref}
use Rattle.syn_grammar.specs.Table.{table}
use Rattle.syn_grammar.specs.Derives.{Derives, Bound}
use Rattle.syn_grammar.specs.Kept.{dotted, kept, held}
use Rattle.syn_grammar.specs.Normal.{normal, passed}
use Rattle.syn_grammar.specs.Forms.{level, inside, kind_of, is_range, takes_postfix, is_path_form, may_be_left}
use Rattle.syn_grammar.specs.Forms.{is_block_like, is_brace_macro, ends_there, chains, takes, within}
use Rattle.syn_grammar.proofs.Whole.{and_true}
use Rattle.laws_binding.specs.Bare.{bare}
use Rattle.laws_binding.proofs.Leads as Leads
use Rattle.laws_binding.proofs.Begun.{Begun, more, begun}
use Rattle.laws_binding.proofs.Shells.{is_dot, each_dot, undotted, dotted_has, dotted_own}

-- a form behind an operand stays one
record IsBack (k : Kind) (w : Tree) : Type 0 where
  left : Tree
  own : Tree
  is : bare w ≡ Back left k own

back_is : (l : Tree) (k : Kind) (y : Tree) (r : List Token) → Derives y (table k) r
    → IsBack k (dotted (kept l) k (kept y))
back_is l k y r d = go (is_dot k) refl
  where
    go : (b : Bool) → is_dot k ≡ b → IsBack k (dotted (kept l) k (kept y))
    go false e = subst (IsBack k) (sym (undotted (kept l) k (kept y) e))
        (record { left = bare (kept l); own = normal (kept y); is = refl })
    go true e =
        let o = dotted_own k y r e d in
        subst (λ v. IsBack k (dotted (kept l) k v)) (sym o.is)
        (dotted_has IsBack (λ m. Unit {0}) o.back (λ m cs q. tt)
        (λ m cs q. record { left = bare m; own = _; is = refl })
        (λ j m f q. record { left = bare m; own = _; is = refl }) k (kept l) o.front e tt)

pub kind_same : (x : Tree) (p : Position) (rest : List Token) → Bound p x rest → kind_of (bare (kept x)) ≡ kind_of x
kind_same (Back l k y) p rest d = let b = back_is l k y rest d.1 in ap kind_of b.is
kind_same _ p rest d = refl

pub postfix_same : (x : Tree) (p : Position) (rest : List Token) → Bound p x rest → takes_postfix (bare (kept x))
    ≡ takes_postfix x
postfix_same x p rest d = ap (λ k. nat_eq (level k) 16 || nat_eq (level k) 1) (kind_same x p rest d)

pub range_same : (x : Tree) (p : Position) (rest : List Token) → Bound p x rest → is_range (bare (kept x)) ≡ is_range x
range_same (Front ExprAttributed y x) p rest d = range_same x (inside p ExprAttributed) rest d.4
range_same (Front _ y x) p rest d = refl
range_same (Back l k y) p rest d = let b = back_is l k y rest d.1 in ap is_range b.is
range_same _ p rest d = refl

path_same : (x : Tree) (p : Position) (rest : List Token) → Bound p x rest → is_path_form (bare (kept x))
    ≡ is_path_form x
path_same (Alone ExprPath y) p rest d = refl
path_same (Alone _ y) p rest d = refl
path_same (Back l k y) p rest d = let b = back_is l k y rest d.1 in ap is_path_form b.is
path_same _ p rest d = refl

pub may_same : (k : Kind) (x : Tree) (p : Position) (rest : List Token) → Bound p x rest → may_be_left k (bare (kept x))
    ≡ may_be_left k x
may_same ExprStruct x p rest d = path_same x p rest d
may_same k x p rest d =
    ap (λ b. cond (nat_eq (level k) 16) b (not (is_range (bare (kept x))))) (postfix_same x p rest d)
    ∙ ap (λ b. cond (nat_eq (level k) 16) (takes_postfix x) (not b)) (range_same x p rest d)

pub chains_same : (k : Kind) (x : Tree) (p : Position) (rest : List Token) → Bound p x rest → chains (bare (kept x)) k
    ≡ chains x k
unfolding chains
chains_same k x p rest d = ap (λ j. nat_eq (level k) 7 && nat_eq (level j) 7) (kind_same x p rest d)

block_same : (x : Tree) (p : Position) (rest : List Token) → Bound p x rest → is_block_like (bare (kept x))
    ≡ is_block_like x
block_same (Alone ExprIf y) p rest d = refl
block_same (Alone _ y) p rest d = refl
block_same (Front ExprAttributed y x) p rest d = block_same x (inside p ExprAttributed) rest d.4
block_same (Front _ y x) p rest d = refl
block_same (Back l k y) p rest d = let b = back_is l k y rest d.1 in ap is_block_like b.is
block_same _ p rest d = refl

-- a macro's braces
abbrev in_macro : Tree → Tree → Tree → Tree
in_macro u s z = Alone ExprMacro (Node AMacro (Pair u (Pair s z)))

delimited_same : (u v s t z : Tree) (r : List Token) → Derives z (table Delimited) r
    → is_brace_macro (in_macro u s (Node Delimited (normal (kept z))))
    ≡ is_brace_macro (in_macro v t (Node Delimited z))
unfolding table
delimited_same u v s t (First x) r d = refl
delimited_same u v s t (Second (First x)) r d = refl
delimited_same u v s t (Second (Second x)) r d = refl
delimited_same u v s t (Second _) r d = elim d.1 [ ]
delimited_same u v s t _ r d = elim d [ ]

delimiter_same : (u v s t z : Tree) (r : List Token) → Derives z (ref Delimited) r
    → is_brace_macro (in_macro u s (normal (kept z))) ≡ is_brace_macro (in_macro v t z)
unfolding held passed
delimiter_same u v s t (Node j x) r d =
    subst (λ i. is_brace_macro (in_macro u s (normal (kept (Node i x)))) ≡ is_brace_macro (in_macro v t (Node i x)))
    (sym d.0)
    (delimited_same u v s t x r (subst (λ i. Derives x (table i) r) d.0 d.1))
delimiter_same u v s t _ r d = elim d [ ]

inside_same : (x : Tree) (r : List Token) → Derives x (table AMacro) r
    → is_brace_macro (Alone ExprMacro (Node AMacro (normal (kept x))))
    ≡ is_brace_macro (Alone ExprMacro (Node AMacro x))
unfolding table
inside_same (Pair u (Pair s z)) r d = delimiter_same (normal (kept u)) u (normal (kept s)) s z r d.1.1
inside_same (Pair u _) r d = elim d.1 [ ]
inside_same _ r d = elim d [ ]

own_macro : (y : Tree) (r : List Token) → Derives y (ref AMacro) r → is_brace_macro (Alone ExprMacro (normal (kept y)))
    ≡ is_brace_macro (Alone ExprMacro y)
unfolding held passed
own_macro (Node j x) r d =
    subst (λ i. is_brace_macro (Alone ExprMacro (normal (kept (Node i x))))
    ≡ is_brace_macro (Alone ExprMacro (Node i x))) (sym d.0)
    (inside_same x r (subst (λ i. Derives x (table i) r) d.0 d.1))
own_macro _ r d = elim d [ ]

macro_own : (y : Tree) (r : List Token) → Derives y (table ExprMacro) r
    → is_brace_macro (Alone ExprMacro (normal (kept y))) ≡ is_brace_macro (Alone ExprMacro y)
unfolding table
macro_own y r d = own_macro y r d

macro_same : (x : Tree) (p : Position) (rest : List Token) → Bound p x rest → is_brace_macro (bare (kept x))
    ≡ is_brace_macro x
macro_same (Alone ExprMacro y) p rest d = macro_own y rest d.1
macro_same (Alone _ y) p rest d = refl
macro_same (Front ExprAttributed y x) p rest d = macro_same x (inside p ExprAttributed) rest d.4
macro_same (Front _ y x) p rest d = refl
macro_same (Back l k y) p rest d = let b = back_is l k y rest d.1 in ap is_brace_macro b.is
macro_same _ p rest d = refl

pub ends_same : (q : Position) (x : Tree) (p : Position) (rest : List Token) → Bound p x rest
    → ends_there q (bare (kept x)) ≡ ends_there q x
ends_same Plain x p rest d = refl
ends_same InCondition x p rest d = refl
ends_same InArm x p rest d = block_same x p rest d
ends_same InStatement x p rest d =
    ap (λ b. b || is_brace_macro (bare (kept x))) (block_same x p rest d) ∙ ap (λ b. is_block_like x || b)
    (macro_same x p rest d)

-- left edges
pub dot_level : (k : Kind) → is_dot k ≡ true → level k ≡ 16
unfolding level
dot_level k e = each_dot (λ j. level j ≡ 16) refl refl refl k e

within_dot : (n : ℕ) (j : Kind) (m : Tree) → is_dot j ≡ true → takes n 16 ≡ true → within n (bare m) ≡ true
    → (takes n (level j) && within n (bare m)) ≡ true
within_dot n j m e t w = and_from _ _ (ap (takes n) (dot_level j e) ∙ t) w

pub within_same : (n : ℕ) (x : Tree) (p : Position) (rest : List Token) → Bound p x rest → within n x ≡ true
    → within n (bare (kept x)) ≡ true
within_same n (Back l k y) p rest d h =
    let a = and_true _ _ h in
    go (is_dot k) refl a.0 (within_same n l p (flat y ++ rest) d.4 a.1)
  where
    go : (b : Bool) → is_dot k ≡ b → takes n (level k) ≡ true → within n (bare (kept l)) ≡ true
        → within n (bare (dotted (kept l) k (kept y))) ≡ true
    go false e t w = subst (λ v. within n (bare v) ≡ true) (sym (undotted (kept l) k (kept y) e)) (and_from _ _ t w)
    go true e t w =
        let o = dotted_own k y rest e d.1 in
        let u : takes n 16 ≡ true = ap (takes n) (sym (dot_level k e)) ∙ t in
        subst (λ v. within n (bare (dotted (kept l) k v)) ≡ true) (sym o.is)
        (dotted_has (λ j v. within n (bare v) ≡ true) (λ m. within n (bare m) ≡ true) o.back
        (λ m cs q. within_dot n ExprField m refl u q) (λ m cs q. within_dot n ExprField m refl u q)
        (λ j m f q. within_dot n j m f u q) k (kept l) o.front e w)
within_same n (Infix l k y r) p rest d h =
    let a = and_true _ _ h in
    and_from _ _ a.0 (within_same n l p (flat y ++ (flat r ++ rest)) d.4 a.1)
within_same n (Alone k y) p rest d h = refl
within_same n (Front k y x) p rest d h = refl
within_same n _ p rest d h = elim d [ ]

-- its tokens begin as they did
record Longer (ts : List Token) (w : Tree) : Type 0 where
  others : List Token
  is : flat (bare w) ≡ ts ++ others

longer : (ts : List Token) (m : Tree) (j : Kind) (y : Tree) → Longer ts m → Longer ts (Back m j y)
longer ts m j y q =
    record {
      others = q.others ++ flat (normal y);
      is = ap (λ us. us ++ flat (normal y)) q.is ∙ append_assoc ts q.others (flat (normal y));
    }

dotted_longer : (l : Tree) (k : Kind) (y : Tree) (r : List Token) → Derives y (table k) r
    → Longer (flat (bare (kept l))) (dotted (kept l) k (kept y))
dotted_longer l k y r d = go (is_dot k) refl
  where
    here : Longer (flat (bare (kept l))) (kept l)
    here = record { others = []; is = sym (append-nil _) }

    go : (b : Bool) → is_dot k ≡ b → Longer (flat (bare (kept l))) (dotted (kept l) k (kept y))
    go false e = subst (Longer (flat (bare (kept l)))) (sym (undotted (kept l) k (kept y) e))
        (longer _ (kept l) k (kept y) here)
    go true e =
        let o = dotted_own k y r e d in
        subst (λ v. Longer (flat (bare (kept l))) (dotted (kept l) k v)) (sym o.is)
        (dotted_has (λ j v. Longer (flat (bare (kept l))) v) (Longer (flat (bare (kept l)))) o.back
        (λ m cs q. longer _ m _ _ q) (λ m cs q. longer _ m _ _ q)
        (λ j m f q. longer _ m _ _ q) k (kept l) o.front e here)

pub all_begun : (x : Tree) (p : Position) (rest : List Token) → Bound p x rest
    → Begun (flat x ++ rest) (flat (bare (kept x)))
all_begun (Alone k y) p rest d = begun p k y rest _ d.0 d.1
all_begun (Front k y x) p rest d = Leads.front_leads Begun more y x rest _ _ (begun p k y (flat x ++ rest) _ d.0 d.1)
all_begun (Back l k y) p rest d =
    let o = dotted_longer l k y rest d.1 in
    subst (Begun (flat (Back l k y) ++ rest)) (sym o.is)
    (Leads.front_leads Begun more l y rest _ o.others (all_begun l p (flat y ++ rest) d.4))
all_begun (Infix l k y r) p rest d =
    more _ _ (flat (normal (kept y)) ++ flat (bare (kept r)))
    (subst (λ ts. Begun ts (flat (bare (kept l))))
    (ap (λ ts. flat l ++ ts) (sym (append_assoc (flat y) (flat r) rest)) ∙ sym
    (append_assoc (flat l) (flat y ++ flat r) rest))
    (all_begun l p (flat y ++ (flat r ++ rest)) d.4))
all_begun _ p rest d = elim d [ ]
