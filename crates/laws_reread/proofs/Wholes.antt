-- An expression that was read is printed where the own parts of its forms are.
use Rattle.std.proofs.Common.{◌≡◌, List, [], ◌∷◌, ◌++◌, refl, sym, ap, ◌∙◌, subst, append_assoc}
use Rattle.std.specs.Prelude.{Bool, true, false, not, ◌&&◌, cond, Some}
use Rattle.std.proofs.lemmas.Bool.{false≢true}
use Rattle.proc_macro2.specs.Token.{Token, Opens}
use Rattle.proc_macro2.specs.declared.delimiter.Delimiter.TheVariants.{Parenthesis}
use Rattle.syn_grammar.specs.Kind.{Kind, Position, Plain, InCondition, ExprField}
use Rattle.syn_grammar.specs.Kind.{ExprMethodCall}
use Rattle.syn_grammar.specs.Kind.{ExprAwait, ExprAttributed, ExprLit, ExprContinue, ExprStruct, ExprPath}
use Rattle.syn_grammar.specs.Kind.{ExprParen, ExprGroup, ExprInfer, ExprUnsafe}
use Rattle.syn_grammar.specs.Kind.{ExprTryBlock, ExprCall, ExprIndex, ExprTry, ExprUnary, ExprRawAddr, ExprReference}
use Rattle.syn_grammar.specs.Kind.{ExprBreak, ExprReturn, ExprYield, ExprRange, ExprRangeClosed, ExprAssign, ExprOr}
use Rattle.syn_grammar.specs.Kind.{ExprAnd, ExprCompare, ExprBitOr, ExprBitXor, ExprBitAnd, ExprShift, ExprSum}
use Rattle.syn_grammar.specs.Kind.{ExprProduct, ExprForLoop, ExprMacro, ExprIf, ExprMatch, ExprWhile, ExprCast}
use Rattle.syn_grammar.specs.Kind.{BoundLifetimes, ExprClosure, ExprTypedClosure, ReturnType, WithPlus}
use Rattle.syn_grammar.specs.Tree.{Tree, Pair, First, End, Again, Node, Whole, Alone, Front, Back, Infix, flat}
use Rattle.syn_grammar.specs.Kind.{ExprArray, ExprAsync, ExprBlock, ExprConst, ExprLet, ExprLoop, ExprRepeat}
use Rattle.syn_grammar.specs.Gram.{Gram, star, operand, ref}
use Rattle.syn_grammar.specs.Table.{table}
use Rattle.syn_grammar.specs.Look.{a_lifetime, sees, ◌then◌, ◌or◌}
use Rattle.syn_grammar.specs.Say.{at, brace, marks, optional}
use Rattle.syn_grammar.specs.Forms.{Case, first_form, fronts, front, has_right, inside, is_path_form}
use Rattle.syn_grammar.specs.Forms.{level, stands_left}
use Rattle.syn_grammar.specs.Derives.{Bound, Derives, IsLeft}
use Rattle.syn_grammar.specs.Kept.{dotted, forget, held, kept}
use Rattle.syn_grammar.specs.Normal.{passed, stands_behind, normal, formed}
use Rattle.syn_grammar.specs.Parens.{follow, may_lack, is_struct}
use Rattle.syn_grammar.proofs.Settled.{normal_twice}
use Rattle.syn_grammar.proofs.Whole.{and_true}
use Rattle.laws_binding.proofs.Shells.{is_dot, each_dot, undotted}
use Rattle.laws_reread_expressions.specs.Behind.{is_attributed}
use Rattle.laws_reread_expressions.specs.Formed.{is_attributed_form}
use Rattle.laws_binding.proofs.Begun.{first_passes}
use Rattle.laws_reread_expressions.proofs.Opened.{nothing_right, fixed_right, paren_right}
use Rattle.laws_reread_expressions.proofs.Stands.{struct_is}
use Rattle.laws_reread_kinds.specs.Covered.{has_step, has_form_step, inner, is_bound, is_form, is_plain_part}
use Rattle.laws_reread_kinds.specs.Covered.{all_covered}
use Rattle.laws_reread_kinds.proofs.Dotted.{law_expr_await, law_expr_field, law_expr_method_call}
use Rattle.laws_reread_kinds.proofs.Fits.{flat_kept, Fits, FitsForms, IsMeant, IsFormed, MayLack, MayHave}
use Rattle.laws_reread_kinds.proofs.Fits.{HasOperands, IsBackKind}
use Rattle.laws_reread_kinds.proofs.Printed.{OwnPrinted, Printed, WholeLaw, form_known}
use Rattle.laws_reread.proofs.Operands.{apart}
use Rattle.laws_reread.proofs.Indices.{dot_fits, dot_read, dotted_fits, dotted_keeps, dotted_operands}
use Rattle.laws_ranges.specs.Shelled.{goes_in, is_lone_range, is_shelled, parens_if, shelled}
use Rattle.laws_ranges.proofs.Held.{gains_shells}
use Rattle.laws_ranges.proofs.InKept.{goes_kept, shelled_kept}
use Rattle.syn_grammar.proofs.Settled.{Settled}
use Rattle.laws_reread.proofs.Settled.{Within, dotted_within, settled_inside, settles}
use Rattle.laws_reread.proofs.Split.{dotted_kept, dotted_shelled}

-- An own part is printed as what its kind means: behind a dot by the laws of the kinds.
record Own (k : Kind) (z : Tree) : Type 0 where
  tree : Tree
  fits : Fits tree (table k)
  means : IsMeant k tree
  kept_is : kept tree ≡ z

form_meant : (k : Kind) (y : Tree) → is_form k ≡ true → is_dot k ≡ false → IsMeant k y
unfolding has_form_step
form_meant ExprLit y e f = tt
form_meant ExprPath y e f = tt
form_meant ExprContinue y e f = tt
form_meant ExprStruct y e f = tt
form_meant ExprParen y e f = tt
form_meant ExprArray y e f = tt
form_meant ExprRepeat y e f = tt
form_meant ExprGroup y e f = tt
form_meant ExprInfer y e f = tt
form_meant ExprBlock y e f = tt
form_meant ExprUnsafe y e f = tt
form_meant ExprAsync y e f = tt
form_meant ExprConst y e f = tt
form_meant ExprTryBlock y e f = tt
form_meant ExprLoop y e f = tt
form_meant ExprCall y e f = tt
form_meant ExprIndex y e f = tt
form_meant ExprTry y e f = tt
form_meant ExprUnary y e f = tt
form_meant ExprRawAddr y e f = tt
form_meant ExprReference y e f = tt
form_meant ExprLet y e f = tt
form_meant ExprBreak y e f = tt
form_meant ExprReturn y e f = tt
form_meant ExprYield y e f = tt
form_meant ExprRange y e f = tt
form_meant ExprRangeClosed y e f = tt
form_meant ExprAssign y e f = tt
form_meant ExprOr y e f = tt
form_meant ExprAnd y e f = tt
form_meant ExprCompare y e f = tt
form_meant ExprBitOr y e f = tt
form_meant ExprBitXor y e f = tt
form_meant ExprBitAnd y e f = tt
form_meant ExprShift y e f = tt
form_meant ExprSum y e f = tt
form_meant ExprProduct y e f = tt
form_meant ExprMacro y e f = tt
form_meant ExprIf y e f = tt
form_meant ExprMatch y e f = tt
form_meant ExprWhile y e f = tt
form_meant ExprForLoop y e f = tt
form_meant ExprAttributed y e f = tt
form_meant ExprCast y e f = tt
form_meant ExprClosure y e f = tt
form_meant ExprTypedClosure y e f = tt
form_meant ExprField y e f = absurd (false≢true (sym f))
form_meant ExprMethodCall y e f = absurd (false≢true (sym f))
form_meant ExprAwait y e f = absurd (false≢true (sym f))
form_meant _ y e f = absurd (false≢true e)

of_node : (k : Kind) (t z : Tree) → ((x : Tree) → forget k x ≡ x) → Fits t (ref k) → kept t ≡ Node (held k) z → Own k z
of_node k (Node j x) z u f e = record {
  tree = x;
  fits = subst (λ m. Fits x (table m)) f.0 f.3;
  means = subst (λ m. IsMeant m x) f.0 f.4;
  kept_is = sym (u (kept x)) ∙ ap (λ m. forget m (kept x)) (sym f.0) ∙ ap inner e;
}
of_node k _ z u f e = absurd f

OfDot : Tree → List Token → Kind → Type 0
OfDot y r k = Derives y (table k) r → Printed (table k) (normal (kept y)) → Own k (normal (kept y))

field_printed : (y : Tree) (r : List Token) → OfDot y r ExprField
unfolding held passed OfDot
field_printed y r d o =
    let i = law_expr_field.node Plain tt y r refl d o in
    of_node ExprField i.tree (normal (kept y)) (λ x. refl) i.fits i.kept_is

method_printed : (y : Tree) (r : List Token) → OfDot y r ExprMethodCall
unfolding held passed OfDot
method_printed y r d o =
    let i = law_expr_method_call.node Plain tt y r refl d o in
    of_node ExprMethodCall i.tree (normal (kept y)) (λ x. refl) i.fits i.kept_is

await_printed : (y : Tree) (r : List Token) → OfDot y r ExprAwait
unfolding held passed OfDot
await_printed y r d o =
    let i = law_expr_await.node Plain tt y r refl d o in
    of_node ExprAwait i.tree (normal (kept y)) (λ x. refl) i.fits i.kept_is

dot_printed : (k : Kind) (y : Tree) (r : List Token) → is_dot k ≡ true → Derives y (table k) r
    → Printed (table k) (normal (kept y)) → Own k (normal (kept y))
unfolding OfDot
dot_printed k y r e = each_dot (OfDot y r) (field_printed y r) (method_printed y r) (await_printed y r) k e

own_printed : (k : Kind) (y : Tree) (r : List Token) → is_form k ≡ true → Derives y (table k) r
    → Printed (table k) (normal (kept y)) → Own k (normal (kept y))
own_printed k y r h d o = go (is_dot k) refl
  where
    go : (b : Bool) → is_dot k ≡ b → Own k (normal (kept y))
    go true e = dot_printed k y r e d o
    go false e = record { tree = o.tree; fits = o.fits; means = form_meant k o.tree h e; kept_is = o.kept_is }

-- with what is printed for its own parts, numbers split at their dots, and the parentheses of its normal form
abbrev Owns : Tree → Type 0
Owns (Alone k y) = Own k (normal (kept y))
Owns (Front k y x) = Own k (normal (kept y)) × Owns x
Owns (Back l k y) = Owns l × Own k (normal (kept y))
Owns (Infix l k y r) = Owns l × Own k (normal (kept y)) × Owns r
Owns _ = Unit {0}

remade : (x : Tree) → Owns x → Tree
remade (Alone k y) o = Alone k o.tree
remade (Front k y x) o = Front k o.0.tree (parens_if (is_shelled k x) (remade x o.1))
remade (Back l k y) o = dotted (parens_if (goes_in k l) (remade l o.0)) k o.1.tree
remade (Infix l k y r) o = Infix (parens_if (goes_in k l) (remade l o.0)) k o.1.tree (remade r o.2)
remade x o = x

pub parens_kept : (b : Bool) (z : Tree) → kept (parens_if b z) ≡ parens_if b (kept z)
unfolding held
parens_kept true z = refl
parens_kept false z = refl

left_kept : (k : Kind) (l z : Tree) → kept z ≡ shelled (kept l)
    → kept (parens_if (goes_in k l) z) ≡ parens_if (goes_in k (kept l)) (shelled (kept l))
left_kept k l z e =
    parens_kept (goes_in k l) z
    ∙ ap (λ b. parens_if b (kept z)) (sym (goes_kept k l)) ∙ ap (parens_if (goes_in k (kept l))) e

right_kept : (k : Kind) (x z : Tree) → kept z ≡ shelled (kept x)
    → kept (parens_if (is_shelled k x) z) ≡ parens_if (is_shelled k (kept x)) (shelled (kept x))
right_kept k x z e =
    parens_kept (is_shelled k x) z
    ∙ ap (λ b. parens_if b (kept z)) (sym (shelled_kept k x)) ∙ ap (parens_if (is_shelled k (kept x))) e

kept_back : (k : Kind) (l m y w : Tree) (r : List Token) → Derives y (table k) r → Fits w (table k)
    → kept w ≡ normal (kept y) → kept m ≡ parens_if (goes_in k l) (shelled l)
    → kept (dotted m k w) ≡ shelled (dotted l k (kept y))
kept_back k l m y w r d f e g = go (is_dot k) refl
  where
    n : Tree
    n = parens_if (goes_in k l) (shelled l)

    parts : dotted (kept m) k (kept w) ≡ dotted n k (normal (kept y))
    parts = ap (λ z. dotted (kept m) k z) e ∙ ap (λ z. dotted z k (normal (kept y))) g

    go : (b : Bool) → is_dot k ≡ b → kept (dotted m k w) ≡ shelled (dotted l k (kept y))
    go true i =
        dotted_kept k m w (dot_fits k w i f) ∙ parts ∙ sym (dotted_shelled k l (kept y) (dot_read k y r i d))
    go false i =
        ap kept (undotted m k w i) ∙ parts ∙ undotted n k (normal (kept y)) i
        ∙ ap shelled (sym (undotted l k (kept y) i))

remade_kept : (x : Tree) (o : Owns x) (p : Position) (r : List Token) → Bound p x r
    → kept (remade x o) ≡ shelled (kept x)
unfolding remade
remade_kept (Alone k y) o p r d = ap (Alone k) o.kept_is
remade_kept (Front k y x) o p r d =
    ap (λ z. Front k z (kept (parens_if (is_shelled k x) (remade x o.1)))) o.0.kept_is
    ∙ ap (Front k (normal (kept y))) (right_kept k x (remade x o.1) (remade_kept x o.1 (inside p k) r d.4))
remade_kept (Back l k y) o p r d =
    kept_back k (kept l) (parens_if (goes_in k l) (remade l o.0)) y o.1.tree r d.1 o.1.fits o.1.kept_is
    (left_kept k l (remade l o.0) (remade_kept l o.0 p (flat y ++ r) d.4))
remade_kept (Infix l k y x) o p r d =
    ap (λ z. Infix (kept (parens_if (goes_in k l) (remade l o.0))) k z (kept (remade x o.2))) o.1.kept_is
    ∙ ap (λ z. Infix z k (normal (kept y)) (kept (remade x o.2)))
    (left_kept k l (remade l o.0) (remade_kept l o.0 p (flat y ++ (flat x ++ r)) d.4))
    ∙ ap (Infix (parens_if (goes_in k (kept l)) (shelled (kept l))) k (normal (kept y)))
    (remade_kept x o.2 (inside p k) r d.6)
remade_kept _ o p r d = absurd d

-- It has the operands that it had, some in parentheses.
lacks_one : (p : Position) (k : Kind) (r : List Token) → has_right p k r ≡ false → MayLack k
lacks_one p k r h = go (may_lack k) refl
  where
    go : (b : Bool) → may_lack k ≡ b → MayLack k
    go true m = nothing_right Plain k m
    go false m = fixed_right Plain k [] m ∙ sym (fixed_right p k r m) ∙ h

has_one : (p : Position) (k : Kind) (r : List Token) → has_right p k r ≡ true → MayHave k
has_one p k r h = go (may_lack k) refl
  where
    go : (b : Bool) → may_lack k ≡ b → MayHave k
    go true m = paren_right Plain k [] m
    go false m = fixed_right Plain k (Opens Parenthesis ∷ []) m ∙ sym (fixed_right p k r m) ∙ h

remade_path : (x : Tree) (o : Owns x) → is_path_form x ≡ true → is_path_form (remade x o) ≡ true
unfolding remade
remade_path (Alone ExprPath y) o e = refl
remade_path (Alone _ y) o e = absurd (false≢true e)
remade_path _ o e = absurd (false≢true e)

in_path : (k : Kind) (x : Tree) (o : Owns x) → is_path_form x ≡ true
    → is_path_form (parens_if (goes_in k x) (remade x o)) ≡ true
in_path k (Alone j y) o e = remade_path (Alone j y) o e
in_path k _ o e = absurd (false≢true e)

left_path : (p : Position) (k : Kind) (l : Tree) → is_struct k ≡ true → IsLeft p l k → is_path_form l ≡ true
unfolding stands_left
left_path p k l s i =
    (and_true (is_path_form l) _ (subst (λ j. stands_left p l j ≡ true) (struct_is k s) i.0)).0

-- the operands are covered, too
record AloneParts (k : Kind) (y : Tree) : Type 0 where
  passes : is_form k ≡ true
  ends : is_plain_part k (normal (kept y)) ≡ true
  own : all_covered y ≡ true

alone_parts : (k : Kind) (y : Tree) → all_covered (Alone k y) ≡ true → AloneParts k y
alone_parts k y c =
    let a = and_true (is_form k) _ c in
    let b = and_true (is_plain_part k (normal (kept y))) (all_covered y) a.1 in
    record { passes = a.0; ends = b.0; own = b.1 }

record FrontParts (k : Kind) (y x : Tree) : Type 0 where
  passes : is_form k ≡ true
  ends : is_plain_part k (normal (kept y)) ≡ true
  own : all_covered y ≡ true
  right : all_covered x ≡ true

front_parts : (k : Kind) (y x : Tree) → all_covered (Front k y x) ≡ true → FrontParts k y x
front_parts k y x c =
    let a = and_true (is_form k) _ c in
    let h = and_true (is_plain_part k (normal (kept y))) _ a.1 in
    let e = and_true (all_covered y) (all_covered x) h.1 in
    record { passes = a.0; ends = h.0; own = e.0; right = e.1 }

record BackParts (l : Tree) (k : Kind) (y : Tree) : Type 0 where
  passes : is_form k ≡ true
  own : all_covered y ≡ true
  left : all_covered l ≡ true

back_parts : (l : Tree) (k : Kind) (y : Tree) → all_covered (Back l k y) ≡ true → BackParts l k y
back_parts l k y c =
    let a = and_true (is_form k) _ c in
    let e = and_true (all_covered l) (all_covered y) a.1 in
    record { passes = a.0; own = e.1; left = e.0 }

record InfixParts (l : Tree) (k : Kind) (y x : Tree) : Type 0 where
  passes : is_form k ≡ true
  own : all_covered y ≡ true
  left : all_covered l ≡ true
  right : all_covered x ≡ true

infix_parts : (l : Tree) (k : Kind) (y x : Tree) → all_covered (Infix l k y x) ≡ true → InfixParts l k y x
infix_parts l k y x c =
    let a = and_true (is_form k) _ c in
    let e = and_true (all_covered y) _ a.1 in
    let b = and_true (all_covered l) (all_covered x) e.1 in
    record { passes = a.0; own = e.0; left = b.0; right = b.1 }

-- and attributes stand together
abbrev pub others : List Case → List Case
others [] = []
others (c ∷ cs) = cs

pub hash_first : (p : Position) (ts : List Token) → front p ts ≡ Some ExprAttributed → sees (marks "#") ts ≡ true
unfolding front
hash_first p ts e = go (sees (marks "#") ts) refl
  where
    go : (b : Bool) → sees (marks "#") ts ≡ b → b ≡ true
    go true f = refl
    go false f =
        absurd (false≢true (first_passes (λ k. not (is_attributed k)) (others (fronts p)) ts ExprAttributed refl
        (sym (ap (λ b. cond b (Some ExprAttributed) (first_form (others (fronts p)) ts)) f) ∙ e)))

pub none_more : (z : Tree) (t : List Token → Bool) (g : Gram) (r : List Token) → Derives z (star t g) r → t r ≡ false
none_more End t g r d = d
none_more (Again x y) t g r d = none_more y t g r d.2
none_more _ t g r d = absurd d

no_hash : (y : Tree) (r : List Token) → Derives y (table ExprAttributed) r → sees (marks "#") r ≡ false
unfolding table
no_hash (Pair a (Node j z)) r d =
    none_more z (sees (marks "#")) _ r (subst (λ k. Derives z (table k) r) d.1.0 d.1.1)
no_hash (Pair a _) r d = absurd d.1
no_hash _ r d = absurd d

dotted_plain : (k : Kind) (l y : Tree) → Fits y (table k) → is_attributed_form l ≡ false
    → is_attributed_form (dotted l k y) ≡ false
dotted_plain k l y f e = go (is_dot k) refl
  where
    go : (b : Bool) → is_dot k ≡ b → is_attributed_form (dotted l k y) ≡ false
    go true i =
        dotted_keeps (λ z. is_attributed_form z ≡ false) (λ l k y. refl) k l y (dot_fits k y i f) e
    go false i = ap is_attributed_form (undotted l k y i)

paren_plain : (b : Bool) (z : Tree) → is_attributed_form z ≡ false → is_attributed_form (parens_if b z) ≡ false
paren_plain true z e = refl
paren_plain false z e = e

none_first : (x : Tree) (o : Owns x) (p : Position) (r : List Token) → Bound p x r
    → sees (marks "#") (flat x ++ r) ≡ false → is_attributed_form (remade x o) ≡ false
unfolding remade
none_first (Alone k z) o p r d e = refl
none_first (Front ExprAttributed z x) o p r d e =
    absurd (false≢true (sym e ∙ ap (sees (marks "#")) (append_assoc (flat z) (flat x) r) ∙ hash_first p _ d.0))
none_first (Front _ z x) o p r d e = refl
none_first (Back l k z) o p r d e =
    dotted_plain k (parens_if (goes_in k l) (remade l o.0)) o.1.tree o.1.fits
    (paren_plain (goes_in k l) (remade l o.0)
    (none_first l o.0 p (flat z ++ r) d.4 (sym (ap (sees (marks "#")) (append_assoc (flat l) (flat z) r)) ∙ e)))
none_first (Infix l k z x) o p r d e = refl
none_first _ o p r d e = absurd d

none_behind : (p : Position) (k : Kind) (y x : Tree) (r : List Token) → Bound p (Front k y x) r → (o : Owns x)
    → (is_attributed k && is_attributed_form (parens_if (is_shelled k x) (remade x o))) ≡ false
none_behind p ExprAttributed y x r d o =
    paren_plain (is_lone_range x) (remade x o)
    (none_first x o (inside p ExprAttributed) r d.4 (no_hash y (flat x ++ r) d.1))
none_behind p _ y x r d o = refl

-- An own part is plain where what is held of it is.
bound_back : (b : Tree) → Fits b (optional (at "for") (ref BoundLifetimes)) → is_bound (kept b) ≡ true
    → is_bound b ≡ true
bound_back (First b) f e =
    ap (sees (at "for" then marks "<" then (a_lifetime or marks ">"))) (sym (flat_kept b (ref BoundLifetimes) f.1)) ∙ e
bound_back _ f e = refl

unbound_back : (y : Tree) → Fits y (table ExprClosure) → is_plain_part ExprClosure (kept y) ≡ true
    → is_plain_part ExprClosure y ≡ true
unfolding table
unbound_back (Pair b z) f e = bound_back b f.0 e
unbound_back _ f e = absurd f

untyped_back : (y : Tree) → Fits y (table ExprTypedClosure) → is_plain_part ExprTypedClosure (kept y) ≡ true
    → is_plain_part ExprTypedClosure y ≡ true
unfolding table
untyped_back (Pair (Pair b c) (Pair r z)) f e =
    let h = and_true (is_bound (kept b)) (sees (marks "->") (flat (kept r))) e in
    ap (λ i. i && sees (marks "->") (flat r)) (bound_back b f.0.0 h.0)
    ∙ ap (sees (marks "->")) (sym (flat_kept r (ref (ReturnType WithPlus)) f.1.0)) ∙ h.1
untyped_back (Pair (Pair b c) _) f e = absurd f.1
untyped_back (Pair _ z) f e = absurd f.0
untyped_back _ f e = absurd f

same_end : (k : Kind) (y z : Tree) → Fits y (table k) → kept y ≡ z → is_plain_part k z ≡ true → is_plain_part k y ≡ true
same_end ExprClosure y z f e h =
    unbound_back y f (ap (is_plain_part ExprClosure) e ∙ h)
same_end ExprTypedClosure y z f e h =
    untyped_back y f (ap (is_plain_part ExprTypedClosure) e ∙ h)
same_end _ y z f e h = refl

-- What it has is there in each form's own part;
owns : (x : Tree) (p : Position) (r : List Token) → Bound p x r → all_covered x ≡ true → OwnPrinted x → Owns x
owns (Alone k y) p r d c o = own_printed k y r (alone_parts k y c).passes d.1 o
owns (Front k y x) p r d c o =
    let a = front_parts k y x c in
    (own_printed k y (flat x ++ r) a.passes d.1 o.0, owns x (inside p k) r d.4 a.right o.1)
owns (Back l k y) p r d c o =
    let a = back_parts l k y c in
    (owns l p (flat y ++ r) d.4 a.left o.0, own_printed k y r a.passes d.1 o.1)
owns (Infix l k y x) p r d c o =
    let a = infix_parts l k y x c in (
      owns l p (flat y ++ (flat x ++ r)) d.4 a.left o.0,
      own_printed k y (flat x ++ r) a.passes d.1 o.1,
      owns x (inside p k) r d.6 a.right o.2,
    )
owns _ p r d c o = tt

-- its operands are there;
pub parens_operands : (b : Bool) (z : Tree) → HasOperands z → HasOperands (parens_if b z)
unfolding has_form_step front has_right level
parens_operands true z o = ((refl, Plain, Opens Parenthesis ∷ [], refl), refl, refl)
parens_operands false z o = o

back_operands : (k : Kind) (l y : Tree) → Fits y (table k) → IsBackKind k → MayLack k
    → HasOperands l → (is_struct k ≡ true → is_path_form l ≡ true)
    → HasOperands (dotted l k y)
unfolding has_form_step
back_operands k l y f b m g h = go (is_dot k) refl
  where
    go : (c : Bool) → is_dot k ≡ c → HasOperands (dotted l k y)
    go true i = dotted_operands k l y (dot_fits k y i f) b m g
    go false i = subst HasOperands (sym (undotted l k y i)) (b, m, g, h)

remade_operands : (x : Tree) (o : Owns x) (p : Position) (r : List Token) → Bound p x r
    → all_covered x ≡ true → HasOperands (remade x o)
unfolding remade
remade_operands (Alone k y) o p r d c =
    let a = alone_parts k y c in (
      (a.passes, p, flat y ++ r, d.0),
      lacks_one p k r d.2,
      same_end k o.tree (normal (kept y)) o.fits o.kept_is a.ends,
    )
remade_operands (Front k y x) o p r d c =
    let a = front_parts k y x c in (
      (a.passes, p, flat y ++ (flat x ++ r), d.0),
      has_one p k (flat x ++ r) d.2,
      parens_operands (is_shelled k x) (remade x o.1) (remade_operands x o.1 (inside p k) r d.4 a.right),
      same_end k o.0.tree (normal (kept y)) o.0.fits o.0.kept_is a.ends,
      apart k (parens_if (is_shelled k x) (remade x o.1)) (none_behind p k y x r d o.1),
    )
remade_operands (Back l k y) o p r d c =
    let a = back_parts l k y c in
    back_operands k (parens_if (goes_in k l) (remade l o.0)) o.1.tree o.1.fits (a.passes, p, flat y ++ r, d.0)
    (lacks_one p k r d.2)
    (parens_operands (goes_in k l) (remade l o.0) (remade_operands l o.0 p (flat y ++ r) d.4 a.left))
    (λ s. in_path k l o.0 (left_path p k l s d.3))
remade_operands (Infix l k y x) o p r d c =
    let a = infix_parts l k y x c in (
      (a.passes, p, flat y ++ (flat x ++ r), d.0),
      has_one p k (flat x ++ r) d.2,
      parens_operands (goes_in k l) (remade l o.0) (remade_operands l o.0 p (flat y ++ (flat x ++ r)) d.4 a.left),
      remade_operands x o.2 (inside p k) r d.6 a.right,
    )
remade_operands _ o p r d c = absurd d

-- and it fits: what is put in parentheses is in normal form there, as the whole is settled.
pub parens_fit : (b : Bool) (z : Tree) (q : Position) (ts : List Token) → Settled q ts (kept (parens_if b z))
    → ((i : Position) (us : List Token) → Settled i us (kept z) → FitsForms z) → HasOperands z
    → FitsForms (parens_if b z)
unfolding held passed table has_step has_form_step
parens_fit true z q ts s f o =
    let e : IsFormed Plain z = settled_inside (kept z) s.0 in
    let i : FitsForms z = f Plain (stands_behind Plain) (settles (kept z) Plain (stands_behind Plain) e) in
    (refl, (refl, (refl, refl, refl, (refl, e, i, o), tt)), tt)
parens_fit false z q ts s f o = f q ts s

back_settled : (q : Position) (ts : List Token) (k : Kind) (m w : Tree) → Fits w (table k)
    → Settled q ts (kept (dotted m k w)) → Within q (kept m)
back_settled q ts k m w f s = go (is_dot k) refl
  where
    go : (b : Bool) → is_dot k ≡ b → Within q (kept m)
    go true i =
        dotted_within (kept m) k (kept w) q ts (subst (Settled q ts) (dotted_kept k m w (dot_fits k w i f)) s)
    go false i = dotted_within (kept m) k (kept w) q ts (subst (λ z. Settled q ts (kept z)) (undotted m k w i) s)

back_fits : (k : Kind) (l y : Tree) → is_form k ≡ true → Fits y (table k) → IsMeant k y → FitsForms l
    → FitsForms (dotted l k y)
back_fits k l y h f m g = go (is_dot k) refl
  where
    go : (b : Bool) → is_dot k ≡ b → FitsForms (dotted l k y)
    go true i = dotted_fits k l y (dot_fits k y i f) f m g
    go false i =
        subst FitsForms (sym (undotted l k y i)) (form_known k h, f, m, λ z. undotted z k (kept y) i, g)

remade_fits : (x : Tree) (o : Owns x) (p : Position) (r : List Token) → Bound p x r → all_covered x ≡ true
    → (q : Position) (ts : List Token) → Settled q ts (kept (remade x o)) → FitsForms (remade x o)
unfolding remade
remade_fits (Alone k y) o p r d c q ts s = (form_known k (alone_parts k y c).passes, o.fits, o.means)
remade_fits (Front k y x) o p r d c q ts s =
    let a = front_parts k y x c in (
      form_known k a.passes,
      o.0.fits,
      o.0.means,
      parens_fit (is_shelled k x) (remade x o.1) (inside q k) ts s.3
          (λ i us h. remade_fits x o.1 (inside p k) r d.4 a.right i us h)
          (remade_operands x o.1 (inside p k) r d.4 a.right),
    )
remade_fits (Back l k y) o p r d c q ts s =
    let a = back_parts l k y c in
    let w = back_settled q ts k (parens_if (goes_in k l) (remade l o.0)) o.1.tree o.1.fits s in
    back_fits k (parens_if (goes_in k l) (remade l o.0)) o.1.tree a.passes o.1.fits o.1.means
    (parens_fit (goes_in k l) (remade l o.0) q w.behind w.settled
    (λ i us h. remade_fits l o.0 p (flat y ++ r) d.4 a.left i us h)
    (remade_operands l o.0 p (flat y ++ r) d.4 a.left))
remade_fits (Infix l k y x) o p r d c q ts s =
    let a = infix_parts l k y x c in (
      form_known k a.passes,
      o.1.fits,
      o.1.means,
      parens_fit (goes_in k l) (remade l o.0) q (follow (flat (kept o.1.tree))) s.2
          (λ i us h. remade_fits l o.0 p (flat y ++ (flat x ++ r)) d.4 a.left i us h)
          (remade_operands l o.0 p (flat y ++ (flat x ++ r)) d.4 a.left),
      remade_fits x o.2 (inside p k) r d.6 a.right (inside q k) ts s.4,
    )
remade_fits _ o p r d c q ts s = absurd d

-- It has the parentheses of its normal form, so it is in normal form.
abbrev inside_whole : Tree → Tree
inside_whole (Whole x) = x
inside_whole x = x

gains : (p : Position) (x : Tree) (r : List Token) → (p ≡ InCondition → sees brace r ≡ true)
    → Derives (Whole x) (operand p 0) r → formed p (stands_behind p) (kept x) ≡ shelled (kept x)
unfolding table
gains p x r e d = gains_shells p x r (refl, d) e

pub formed_twice : (p : Position) (x : Tree) → formed p (stands_behind p) (formed p (stands_behind p) x)
    ≡ formed p (stands_behind p) x
formed_twice p x = ap inside_whole (normal_twice p (Whole x))

-- So it is printed.
pub whole : WholeLaw
whole p x r h d b c o =
    let w : Owns x = owns x p r d.1 c o in
    let z : Tree = remade x w in
    let g = gains p x r b d in
    let u : kept z ≡ shelled (kept x) = remade_kept x w p r d.1 in
    let e : IsFormed p z = ap (formed p (stands_behind p)) (u ∙ sym g) ∙ formed_twice p (kept x) ∙ g ∙ sym u in
    let s = settles (kept z) p (stands_behind p) e in
    record {
      tree = Whole z;
      fits = (refl, e, remade_fits x w p r d.1 c p (stands_behind p) s, remade_operands x w p r d.1 c);
      kept_is = ap Whole (u ∙ sym g);
    }
