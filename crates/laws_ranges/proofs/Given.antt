-- Attributes that are given to an expression: it is read with them as it was, if it is no range; if it is, it is put in
-- parentheses behind them.
use Rattle.std.proofs.Common.{◌≡◌, ℕ, List, [], ◌∷◌, ◌++◌, refl, sym, ap, ◌∙◌, append_assoc, subst}
use Rattle.std.specs.Prelude.{Bool, true, false, not, ◌&&◌, ◌||◌, cond, nat_eq, Option, Some, None}
use Rattle.std.proofs.lemmas.Bool.{eqb-true}
use Rattle.proc_macro2.specs.Token.{Token, Opens}
use Rattle.proc_macro2.specs.declared.delimiter.Delimiter.TheVariants.{Parenthesis}
use Rattle.syn_grammar.specs.Kind.{Kind, Position, Plain, InCondition, InArm, InStatement, ExprStruct, ExprCast}
use Rattle.syn_grammar.specs.Kind.{ExprAttributed, ExprBreak, ExprPath, Expression}
use Rattle.syn_grammar.specs.Tree.{Tree, Node, Whole, Alone, Front, Back, Infix, flat}
use Rattle.syn_grammar.specs.Gram.{ref, operand}
use Rattle.syn_grammar.specs.Look.{sees}
use Rattle.syn_grammar.specs.Say.{parenthesis}
use Rattle.syn_grammar.specs.Table.{table}
use Rattle.syn_grammar.specs.Derives.{Derives, Bound, IsLeft, IsRight}
use Rattle.syn_grammar.specs.Kept.{attributed, kept}
use Rattle.syn_grammar.specs.Forms.{front, back, has_right, level, inside, kind_of, is_range, takes_postfix}
use Rattle.syn_grammar.specs.Forms.{is_path_form, may_be_left, is_block_like, is_brace_macro, ends_there, is_dotted}
use Rattle.syn_grammar.specs.Forms.{stands_left, chains, takes, takes_kind, goes_on, within}
use Rattle.syn_grammar.specs.Parens.{may_lack, stays_right, front_form, parens_unless}
use Rattle.syn_grammar.specs.Normal.{stands_behind, normal, formed}
use Rattle.syn_grammar.proofs.Whole.{and_true}
use Rattle.laws_binding.proofs.Begun.{Begun, more, begun}
use Rattle.laws_binding.proofs.Leads as Leads
use Rattle.laws_binding.proofs.Sights.{is_back, both, backs_are}
use Rattle.laws_ranges.specs.Shelled.{is_lone_range, goes_in, parens_if, shelled}
use Rattle.laws_ranges.proofs.Parens.{range_shelled}
use Rattle.laws_ranges.specs.Opens.{opens, opens_given}
use Rattle.laws_ranges.proofs.Starts.{paren_begun, paren_first}
use Rattle.laws_ranges.proofs.Held.{gains_shells, unless_not}
use Rattle.laws_ranges.proofs.InKept.{lone_kept, goes_given as goes_same}
use Rattle.laws_ranges.proofs.Dotted.{dotted_by}

-- levels of forms with a left operand
pub infix_level : (k : Kind) (p : Position) (ts : List Token) → is_back k ≡ true → has_right p k ts ≡ true
    → (nat_eq (level k) 16 ≡ false) × (takes 15 (level k) ≡ false)
unfolding has_right level takes
infix_level ExprStruct p ts b h = cc
infix_level ExprBreak p ts b h = cc
infix_level k p ts b h = (cc, cc)

infix_postfix : (k : Kind) (p : Position) (ts : List Token) → is_back k ≡ true → has_right p k ts ≡ true
    → (nat_eq (level k) 16 || nat_eq (level k) 1) ≡ true → ⊥
unfolding has_right level
infix_postfix ExprStruct p ts b h e = cc
infix_postfix k p ts b h e = cc

back_sixteen : (k : Kind) → is_back k ≡ true → (nat_eq (level k) 16 || nat_eq (level k) 1) ≡ true
    → nat_eq (level k) 16 ≡ true
unfolding level
back_sixteen ExprStruct b e = refl
back_sixteen k b e = cc

last_sixteen : (k : Kind) (p : Position) (ts : List Token) → is_back k ≡ true → has_right p k ts ≡ false
    → nat_eq (level k) 3 ≡ false → nat_eq (level k) 14 ≡ false → (nat_eq (level k) 16 || nat_eq (level k) 1) ≡ true
unfolding has_right level
last_sixteen ExprStruct p ts b h e f = refl
last_sixteen k p ts b h e f = cc

takes_any : (k : Kind) → takes 0 (level k) ≡ true
unfolding takes level
takes_any ExprBreak = refl
takes_any _ = refl

path_postfix : (l : Tree) → is_path_form l ≡ true → takes_postfix l ≡ true
unfolding level
path_postfix (Alone ExprPath y) e = refl
path_postfix (Alone _ y) e = cc
path_postfix _ e = cc

may_postfix : (k : Kind) (l : Tree) → nat_eq (level k) 16 ≡ true → may_be_left k l ≡ true → takes_postfix l ≡ true
may_postfix ExprStruct l e m = path_postfix l m
may_postfix k l e m = sym (ap (λ b. cond b (takes_postfix l) (not (is_range l))) e) ∙ m

pub may_plain : (k : Kind) (l : Tree) → nat_eq (level k) 16 ≡ false → may_be_left k l ≡ not (is_range l)
unfolding level
may_plain ExprStruct l e = cc
may_plain k l e = ap (λ b. cond b (takes_postfix l) (not (is_range l))) e

not_false : (b : Bool) → not b ≡ true → b ≡ false
not_false true e = cc
not_false false e = refl

and_no : (b : Bool) → (b && false) ≡ false
and_no true = refl
and_no false = refl

takes_sixteen : (n : ℕ) → nat_eq n 16 ≡ true → takes 15 n ≡ true
unfolding takes
takes_sixteen n e = ap (takes 15) (eqb-true n 16 e)

-- what takes a postfix form has none but such on its left edge
within_postfix : (x : Tree) (p : Position) (rest : List Token) → Bound p x rest → takes_postfix x ≡ true
    → within 15 x ≡ true
unfolding stands_left
within_postfix (Alone k y) p rest d e = refl
within_postfix (Front k y x) p rest d e = refl
within_postfix (Back l k y) p rest d e =
    let f : nat_eq (level k) 16 ≡ true = back_sixteen k (backs_are p k _ d.0) e in
    let m = and_true (may_be_left k l) (not (ends_there p l) || is_dotted k) d.3.0 in
    ap (λ b. b && within 15 l) (takes_sixteen (level k) f)
    ∙ within_postfix l p (flat y ++ rest) d.4 (may_postfix k l f m.0)
within_postfix (Infix l k y r) p rest d e =
    absurd (infix_postfix k p _ (backs_are p k _ d.0) d.2 e)
within_postfix _ p rest d e = absurd d

-- an expression with attributes in front, as a left operand
pub range_given : (a x : Tree) → is_range x ≡ false → is_range (attributed a x) ≡ false
unfolding level
range_given a (Infix l k y r) n =
    subst (λ b. is_range (cond b (Front ExprAttributed a (Infix l k y r)) (Infix (attributed a l) k y r)) ≡ false)
    (sym n) n
range_given a (Back l ExprCast y) n = refl
range_given a _ n = n

block_given : (a x : Tree) → is_range x ≡ false → is_block_like (attributed a x) ≡ is_block_like x
block_given a (Infix l k y r) n =
    subst (λ b. is_block_like (cond b (Front ExprAttributed a (Infix l k y r)) (Infix (attributed a l) k y r)) ≡ false)
    (sym n) refl
block_given a (Back l ExprCast y) n = refl
block_given a _ n = refl

macro_given : (a x : Tree) → is_range x ≡ false → is_brace_macro (attributed a x) ≡ is_brace_macro x
macro_given a (Infix l k y r) n =
    subst (λ b. is_brace_macro (cond b (Front ExprAttributed a (Infix l k y r)) (Infix (attributed a l) k y r))
    ≡ false) (sym n) refl
macro_given a (Back l ExprCast y) n = refl
macro_given a _ n = refl

ends_given : (p : Position) (a x : Tree) → is_range x ≡ false → ends_there p (attributed a x) ≡ ends_there p x
ends_given InArm a x n = block_given a x n
ends_given InStatement a x n = ap (λ b. b || is_brace_macro (attributed a x)) (block_given a x n)
    ∙ ap (λ b. is_block_like x || b) (macro_given a x n)
ends_given Plain a x n = refl
ends_given InCondition a x n = refl

chains_given : (a x : Tree) (k : Kind) → is_range x ≡ false → chains x k ≡ false → chains (attributed a x) k ≡ false
unfolding chains level
chains_given a (Infix l j y r) k n e =
    subst (λ b. (nat_eq (level k) 7
    && nat_eq (level (kind_of (cond b (Front ExprAttributed a (Infix l j y r)) (Infix (attributed a l) j y r)))) 7)
    ≡ false) (sym n) e
chains_given a (Back l ExprCast y) k n e = e
chains_given a _ k n e = and_no (nat_eq (level k) 7)

postfix_given : (a x : Tree) → is_range x ≡ false → takes_postfix (attributed a x) ≡ true → takes_postfix x ≡ true
unfolding level
postfix_given a (Infix l k y r) n e =
    subst (λ b. takes_postfix (cond b (Front ExprAttributed a (Infix l k y r)) (Infix (attributed a l) k y r)) ≡ true
    → takes_postfix (Infix l k y r) ≡ true) (sym n) (λ f. f) e
postfix_given a (Back l ExprCast y) n e = e
postfix_given a _ n e = cc

path_given : (a x : Tree) → is_range x ≡ false → is_path_form (attributed a x) ≡ false
path_given a (Infix l k y r) n =
    subst (λ b. is_path_form (cond b (Front ExprAttributed a (Infix l k y r)) (Infix (attributed a l) k y r)) ≡ false)
    (sym n) refl
path_given a (Back l ExprCast y) n = refl
path_given a _ n = refl

may_cond : (b : Bool) (a x : Tree) → is_range x ≡ false
    → cond b (takes_postfix (attributed a x)) (not (is_range (attributed a x))) ≡ true
    → cond b (takes_postfix x) (not (is_range x)) ≡ true
may_cond true a x n e = postfix_given a x n e
may_cond false a x n e = ap not n

may_given : (k : Kind) (a x : Tree) → is_range x ≡ false → may_be_left k (attributed a x) ≡ true
    → may_be_left k x ≡ true
may_given ExprStruct a x n e = let f = path_given a x n in cc
may_given k a x n e = may_cond (nat_eq (level k) 16) a x n e

left_given : (p : Position) (l : Tree) (k : Kind) (a : Tree) → is_range l ≡ false → nat_eq (level k) 16 ≡ false
    → IsLeft p l k → IsLeft p (attributed a l) k
unfolding stands_left
left_given p l k a n s i =
    let m = and_true (may_be_left k l) (not (ends_there p l) || is_dotted k) i.0 in (
      ap (λ b. b && (not (ends_there p (attributed a l)) || is_dotted k))
          (may_plain k (attributed a l) s ∙ ap not (range_given a l n))
          ∙ ap (λ b. not b || is_dotted k) (ends_given p a l n) ∙ m.1,
      chains_given a l k n i.1,
    )

inside_is : (p : Position) → inside p ExprAttributed ≡ p
unfolding inside
inside_is Plain = refl
inside_is InCondition = refl
inside_is InArm = refl
inside_is InStatement = refl

-- before what follows
not_or : (b c : Bool) → (b ≡ true → c ≡ true) → c ≡ false → b ≡ false
not_or true c f e = let g = f refl in cc
not_or false c f e = refl

stands_given : (p : Position) (k : Kind) (a x : Tree) → is_range x ≡ false → stands_left p (attributed a x) k ≡ true
    → stands_left p x k ≡ true
unfolding stands_left
stands_given p k a x n e =
    let m = and_true (may_be_left k (attributed a x)) (not (ends_there p (attributed a x)) || is_dotted k) e in
    ap (λ b. b && (not (ends_there p x) || is_dotted k)) (may_given k a x n m.0)
    ∙ ap (λ b. not b || is_dotted k) (sym (ends_given p a x n)) ∙ m.1

none_left : (p : Position) (x : Tree) (k : Kind) → (takes 0 (level k) && stands_left p x k) ≡ false
    → stands_left p x k ≡ false
none_left p x k e = ap (λ b. b && stands_left p x k) (sym (takes_any k)) ∙ e

goes_given : (p : Position) (a x : Tree) (rest : List Token) → is_range x ≡ false → goes_on p 0 x rest ≡ false
    → goes_on p 0 (attributed a x) rest ≡ false
goes_given p a x rest n = go (back p rest)
  where
    go : (o : Option Kind) → takes_kind p 0 x o ≡ false → takes_kind p 0 (attributed a x) o ≡ false
    go None e = refl
    go (Some k) e =
        ap (λ b. takes 0 (level k) && b)
        (not_or (stands_left p (attributed a x) k) (stands_left p x k) (stands_given p k a x n) (none_left p x k e))
        ∙ and_no (takes 0 (level k))

goes_tight : (p : Position) (x : Tree) (rest : List Token) → goes_on p 0 x rest ≡ false → goes_on p 15 x rest ≡ false
goes_tight p x rest = go (back p rest)
  where
    go : (o : Option Kind) → takes_kind p 0 x o ≡ false → takes_kind p 15 x o ≡ false
    go None e = refl
    go (Some k) e = ap (λ b. takes 15 (level k) && b) (none_left p x k e) ∙ and_no (takes 15 (level k))

-- the attributes, where the expression stands
record Stand (p : Position) (a : Tree) (us : List Token) : Type 0 where
  own : Derives a (table ExprAttributed) us
  seen : front p (flat a ++ us) ≡ Some ExprAttributed

base : (x : Tree) (p : Position) (rest : List Token) (a : Tree) → Bound p x rest → within 15 x ≡ true
    → goes_on p 15 x rest ≡ false → Stand p a (flat x ++ rest) → Bound p (Front ExprAttributed a x) rest
unfolding has_right level
base x p rest a d w g s =
    let t = subst (λ q. IsRight q 15 x rest × Bound q x rest) (sym (inside_is p)) ((w, g), d) in
    (s.seen, s.own, refl, t.0, t.1)

cast_taken : (p : Position) (l : Tree) → takes_kind p 15 l (Some ExprCast) ≡ false
unfolding takes level
cast_taken p l = refl

given_bound : (x : Tree) (p : Position) (rest : List Token) (a : Tree) → Bound p x rest → is_range x ≡ false
    → goes_on p 15 x rest ≡ false → Stand p a (flat x ++ rest) → Bound p (attributed a x) rest
unfolding level stands_left
given_bound (Alone k y) p rest a d n g s = base (Alone k y) p rest a d refl g s
given_bound (Front k y x) p rest a d n g s = base (Front k y x) p rest a d refl g s
given_bound (Infix l k y r) p rest a d n g s =
    let i = infix_level k p _ (backs_are p k _ d.0) d.2 in
    let m = and_true (may_be_left k l) (not (ends_there p l) || is_dotted k) d.3.0 in
    let e : is_range l ≡ false = not_false (is_range l) (sym (may_plain k l i.0) ∙ m.0) in
    let t : Stand p a (flat l ++ (flat y ++ (flat r ++ rest))) =
    subst (Stand p a) (append_assoc (flat l) (flat y ++ flat r) rest
    ∙ ap (λ ts. flat l ++ ts) (append_assoc (flat y) (flat r) rest)) s in
    subst (λ b. Bound p (cond b (Front ExprAttributed a (Infix l k y r)) (Infix (attributed a l) k y r)) rest) (sym n) (
      d.0,
      d.1,
      d.2,
      left_given p l k a e i.0 d.3,
      given_bound l p (flat y ++ (flat r ++ rest)) a d.4 e
          (ap (takes_kind p 15 l) d.0 ∙ ap (λ b. b && stands_left p l k) i.1) t,
      d.5,
      d.6,
    )
given_bound (Back l ExprCast y) p rest a d n g s =
    let m = and_true (may_be_left ExprCast l) (not (ends_there p l) || is_dotted ExprCast) d.3.0 in
    let e : is_range l ≡ false = not_false (is_range l) m.0 in
    let t : Stand p a (flat l ++ (flat y ++ rest)) = subst (Stand p a) (append_assoc (flat l) (flat y) rest) s in (
      d.0,
      d.1,
      d.2,
      left_given p l ExprCast a e refl d.3,
      given_bound l p (flat y ++ rest) a d.4 e (ap (takes_kind p 15 l) d.0 ∙ cast_taken p l) t,
    )
given_bound (Back l k y) p rest a d n g s =
    base (Back l k y) p rest a d
    (within_postfix (Back l k y) p rest d (last_sixteen k p _ (backs_are p k _ d.0) d.2 n refl)) g s
given_bound _ p rest a d n g s = absurd d

-- what it needs besides, at its left edge
pub no_range : (p : Position) (l : Tree) (k : Kind) → nat_eq (level k) 16 ≡ false → IsLeft p l k → is_range l ≡ false
unfolding stands_left
no_range p l k e i =
    not_false (is_range l)
    (sym (may_plain k l e) ∙ (and_true (may_be_left k l) (not (ends_there p l) || is_dotted k) i.0).0)

within_given : (x : Tree) (p : Position) (rest : List Token) (a : Tree) → Bound p x rest → is_range x ≡ false
    → within 0 x ≡ true → within 0 (attributed a x) ≡ true
unfolding level
within_given (Infix l k y r) p rest a d n w =
    let i = infix_level k p _ (backs_are p k _ d.0) d.2 in
    let v = and_true (takes 0 (level k)) (within 0 l) w in
    subst (λ b. within 0 (cond b (Front ExprAttributed a (Infix l k y r)) (Infix (attributed a l) k y r)) ≡ true)
    (sym n)
    (ap (λ b. b && within 0 (attributed a l)) v.0
    ∙ within_given l p (flat y ++ (flat r ++ rest)) a d.4 (no_range p l k i.0 d.3) v.1)
within_given (Back l ExprCast y) p rest a d n w =
    let v = and_true (takes 0 (level ExprCast)) (within 0 l) w in
    ap (λ b. b && within 0 (attributed a l)) v.0
    ∙ within_given l p (flat y ++ rest) a d.4 (no_range p l ExprCast refl d.3) v.1
within_given (Alone k y) p rest a d n w = refl
within_given (Front k y x) p rest a d n w = refl
within_given (Back l k y) p rest a d n w = refl
within_given _ p rest a d n w = absurd d

-- what is kept of it
kept_given : (a x : Tree) → kept (attributed a x) ≡ attributed (kept a) (kept x)
kept_given a (Infix l k y r) = go (nat_eq (level k) 3) (kept_given a l)
  where
    go : (b : Bool) → kept (attributed a l) ≡ attributed (kept a) (kept l)
        → kept (cond b (Front ExprAttributed a (Infix l k y r)) (Infix (attributed a l) k y r))
        ≡ cond b (Front ExprAttributed (kept a) (Infix (kept l) k (kept y) (kept r)))
        (Infix (attributed (kept a) (kept l)) k (kept y) (kept r))
    go true e = refl
    go false e = ap (λ z. Infix z k (kept y) (kept r)) e
kept_given a (Back l ExprCast y) = ap (λ z. Back z ExprCast (kept y)) (kept_given a l)
kept_given a (Back l k y) =
    dotted_by (λ z. Front ExprAttributed (kept a) z ≡ attributed (kept a) z) (λ l y. refl) (kept l) k (kept y)
    (λ l y. refl)
kept_given a _ = refl

-- no range
given_plain : (x : Tree) (rest : List Token) (a : Tree)
    → Derives (Node (Expression InStatement) (Whole x)) (ref (Expression InStatement)) rest
    → is_range x ≡ false → Derives a (table ExprAttributed) (flat x ++ rest)
    → front InStatement (flat a ++ (flat x ++ rest)) ≡ Some ExprAttributed
    → formed InStatement [] (attributed (kept a) (kept x)) ≡ shelled (attributed (kept a) (kept x))
unfolding table stands_behind
given_plain x rest a d n own seen =
    let b : Derives (Whole x) (operand InStatement 0) rest = d.1 in
    let s : Stand InStatement a (flat x ++ rest) = record { own = own; seen = seen } in
    let g : Derives (Node (Expression InStatement) (Whole (attributed a x))) (ref (Expression InStatement)) rest = (
      refl,
      (
        (within_given x InStatement rest a b.1 n b.0.0, goes_given InStatement a x rest n b.0.1),
        given_bound x InStatement rest a b.1 n (goes_tight InStatement x rest b.0.1) s,
      ),
    ) in
    subst (λ z. formed InStatement [] z ≡ shelled z) (kept_given a x)
    (gains_shells InStatement (attributed a x) rest g (λ e. cc))

-- a range
pub range_keeps : (a x : Tree) → is_range x ≡ true → attributed a x ≡ Front ExprAttributed a x
unfolding level
range_keeps a (Infix l k y r) e =
    ap (λ b. cond b (Front ExprAttributed a (Infix l k y r)) (Infix (attributed a l) k y r)) e
range_keeps a (Back l ExprCast y) e = cc
range_keeps a _ e = refl

-- one that has attributes of its own has no form on its left edge
range_within : (x : Tree) → is_range x ≡ true → is_lone_range (kept x) ≡ false → within 15 (shelled (kept x)) ≡ true
unfolding level
range_within (Alone k y) e f = refl
range_within (Front k y x) e f = refl
range_within (Infix l k y r) e f = absurd (both (nat_eq (level k) 3) e f)
range_within (Back l k y) e f = absurd (both (nat_eq (level k) 3) e (sym (lone_kept (Back l k y)) ∙ f))
range_within _ e f = cc

right_range : (x y : Tree) → is_range x ≡ true
    → stays_right InStatement ExprAttributed y (shelled (kept x)) ≡ not (is_lone_range (kept x))
unfolding may_lack level
right_range x y e = go (is_lone_range (kept x)) refl
  where
    go : (b : Bool) → is_lone_range (kept x) ≡ b
        → (within 15 (shelled (kept x)) && not (is_range (shelled (kept x)))) ≡ not b
    go true f =
        ap (λ b. within 15 (shelled (kept x)) && not b) (range_shelled (kept x) ∙ f)
        ∙ and_no (within 15 (shelled (kept x)))
    go false f =
        ap (λ b. b && not (is_range (shelled (kept x)))) (range_within x e f)
        ∙ ap not (range_shelled (kept x) ∙ f)

given_range : (x : Tree) (rest : List Token) (a : Tree)
    → Derives (Node (Expression InStatement) (Whole x)) (ref (Expression InStatement)) rest → is_range x ≡ true
    → formed InStatement [] (Front ExprAttributed a (kept x)) ≡ shelled (Front ExprAttributed a (kept x))
unfolding inside stands_behind
given_range x rest a d e =
    ap (front_form InStatement ExprAttributed (normal a)) (gains_shells InStatement x rest d (λ i. cc))
    ∙ ap (λ b. Front ExprAttributed (normal a) (parens_unless b (shelled (kept x)))) (right_range x (normal a) e)
    ∙ ap (Front ExprAttributed (normal a)) (unless_not (is_lone_range (kept x)) (shelled (kept x)))

-- The attributes in front of a statement's expression add, where they are given to it, no other parentheses.
pub given_shelled : (x : Tree) (rest : List Token) (a : Tree)
    → Derives (Node (Expression InStatement) (Whole x)) (ref (Expression InStatement)) rest
    → Derives a (table ExprAttributed) (flat x ++ rest)
    → front InStatement (flat a ++ (flat x ++ rest)) ≡ Some ExprAttributed
    → formed InStatement [] (attributed (kept a) (kept x)) ≡ shelled (attributed (kept a) (kept x))
given_shelled x rest a d own seen = go (is_range x) refl
  where
    go : (b : Bool) → is_range x ≡ b
        → formed InStatement [] (attributed (kept a) (kept x)) ≡ shelled (attributed (kept a) (kept x))
    go true e =
        subst (λ z. formed InStatement [] z ≡ shelled z)
        (sym (ap kept (range_keeps a x e)) ∙ kept_given a x) (given_range x rest (kept a) d e)
    go false e = given_plain x rest a d e own seen

-- attributes are no parenthesis
pub no_paren : (ts : List Token) → front InStatement ts ≡ Some ExprAttributed → sees parenthesis ts ≡ false
unfolding front
no_paren (Opens Parenthesis ∷ ts) e = cc
no_paren (Opens _ ∷ ts) e = refl
no_paren [] e = refl
no_paren (_ ∷ ts) e = refl

pub attributed_flat : (a x : Tree) → flat (attributed a x) ≡ flat a ++ flat x
attributed_flat a (Infix l k y r) = go (nat_eq (level k) 3) (attributed_flat a l)
  where
    go : (b : Bool) → flat (attributed a l) ≡ flat a ++ flat l
        → flat (cond b (Front ExprAttributed a (Infix l k y r)) (Infix (attributed a l) k y r))
        ≡ flat a ++ (flat l ++ (flat y ++ flat r))
    go true e = refl
    go false e = ap (λ ts. ts ++ (flat y ++ flat r)) e ∙ append_assoc (flat a) (flat l) (flat y ++ flat r)
attributed_flat a (Back l ExprCast y) =
    ap (λ ts. ts ++ flat y) (attributed_flat a l) ∙ append_assoc (flat a) (flat l) (flat y)
attributed_flat a _ = refl

or_no : (b c : Bool) → c ≡ false → (b || c) ≡ b
or_no true c e = refl
or_no false c e = e

opens_same : (x : Tree) (p : Position) (rest : List Token) (a : Tree) → Bound p x rest → is_range x ≡ false
    → opens (attributed a x) ≡ opens_given x
unfolding level
opens_same (Infix l k y r) p rest a d n =
    let i = infix_level k p _ (backs_are p k _ d.0) d.2 in
    let e = no_range p l k i.0 d.3 in
    ap (λ b. opens (cond b (Front ExprAttributed a (Infix l k y r)) (Infix (attributed a l) k y r))) n
    ∙ ap (λ b. b || opens (attributed a l)) (goes_same k a l e)
    ∙ ap (λ b. goes_in k l || b) (opens_same l p (flat y ++ (flat r ++ rest)) a d.4 e)
    ∙ ap (λ b. not b && (goes_in k l || opens_given l)) (sym n)
opens_same (Back l ExprCast y) p rest a d n =
    let e = no_range p l ExprCast refl d.3 in
    ap (λ b. b || opens (attributed a l)) (goes_same ExprCast a l e)
    ∙ ap (λ b. goes_in ExprCast l || b) (opens_same l p (flat y ++ rest) a d.4 e)
opens_same (Alone k y) p rest a d n = refl
opens_same (Front k y x) p rest a d n = refl
opens_same (Back l k y) p rest a d n = refl
opens_same _ p rest a d n = absurd d

range_opens : (x : Tree) → is_range x ≡ true → opens_given x ≡ false
unfolding level
range_opens (Infix l k y r) e = ap (λ b. not b && (goes_in k l || opens_given l)) e
range_opens (Back l ExprCast y) e = cc
range_opens _ e = refl

-- So with them an expression begins with a parenthesis only where one is added.
pub given_opened : (x : Tree) (rest zs : List Token) (a : Tree)
    → Derives (Node (Expression InStatement) (Whole x)) (ref (Expression InStatement)) rest
    → Derives a (table ExprAttributed) (flat x ++ rest)
    → front InStatement (flat a ++ (flat x ++ rest)) ≡ Some ExprAttributed
    → sees parenthesis (flat (shelled (attributed (kept a) (kept x))) ++ zs) ≡ opens_given x
unfolding table
given_opened x rest zs a d own seen = go (is_range x) refl
  where
    none : sees parenthesis (flat (attributed a x) ++ rest) ≡ false
    none =
        ap (λ ts. sees parenthesis (ts ++ rest)) (attributed_flat a x)
        ∙ ap (sees parenthesis) (append_assoc (flat a) (flat x) rest)
        ∙ no_paren (flat a ++ (flat x ++ rest)) seen

    attributes : Begun (flat (Front ExprAttributed a x) ++ rest)
        (flat (normal (kept a)) ++ (flat (parens_if (is_lone_range (kept x)) (shelled (kept x))) ++ zs))
    attributes = Leads.front_leads Begun more a x rest _ _ (begun InStatement ExprAttributed a _ _ seen own)

    go : (c : Bool) → is_range x ≡ c
        → sees parenthesis (flat (shelled (attributed (kept a) (kept x))) ++ zs) ≡ opens_given x
    go true e =
        ap (λ z. sees parenthesis (flat (shelled z) ++ zs)) (sym (kept_given a x) ∙ ap kept (range_keeps a x e))
        ∙ ap (sees parenthesis) (append_assoc (flat (normal (kept a)))
        (flat (parens_if (is_lone_range (kept x)) (shelled (kept x)))) zs)
        ∙ paren_begun _ _ attributes
        ∙ ap (λ z. sees parenthesis (flat z ++ rest)) (sym (range_keeps a x e)) ∙ none
        ∙ sym (range_opens x e)
    go false e =
        ap (λ z. sees parenthesis (flat (shelled z) ++ zs)) (sym (kept_given a x))
        ∙ paren_first (attributed a x) InStatement rest zs (given_bound x InStatement rest a d.1.1 e
        (goes_tight InStatement x rest d.1.0.1) (record { own = own; seen = seen }))
        ∙ or_no (opens (attributed a x)) _ none
        ∙ opens_same x InStatement rest a d.1.1 e
