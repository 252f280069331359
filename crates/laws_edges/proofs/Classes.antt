-- The classes of forms are those of the tables, of expressions whose own parts are read where they stand.
use Rattle.std.proofs.Common.{◌≡◌, List, refl, sym, ap, ◌∙◌}
use Rattle.std.specs.Prelude.{Bool, true, false, not, ◌&&◌, ◌||◌, nat_eq, Some}
use Rattle.std.proofs.lemmas.Bool.{false≢true}
use Rattle.proc_macro2.specs.Token.{Token}
use Rattle.syn_grammar.specs.Kind.{Kind, Position, ExprStruct, ExprCall, ExprMethodCall, ExprField, ExprAwait}
use Rattle.syn_grammar.specs.Kind.{ExprIndex, ExprTry, ExprCast, ExprAttributed, ExprUnary, ExprRawAddr, ExprReference}
use Rattle.syn_grammar.specs.Kind.{ExprLet}
use Rattle.syn_grammar.specs.Kind.{ExprBreak, ExprReturn, ExprYield, ExprClosure, ExprRange, ExprRangeClosed}
use Rattle.syn_grammar.specs.Kind.{ExprAssign, ExprOr, ExprAnd, ExprCompare, ExprBitOr, ExprBitXor, ExprBitAnd}
use Rattle.syn_grammar.specs.Kind.{ExprShift, ExprSum, ExprProduct, ExprPath}
use Rattle.syn_grammar.specs.Tree.{Tree, Alone, Front, Back, Infix}
use Rattle.syn_grammar.specs.Forms.{front, has_right, level, takes, takes_postfix, may_be_left, fronts, chains}
use Rattle.syn_grammar.specs.Forms.{is_path_form, stands_left, ends_there, is_dotted, kind_of}
use Rattle.syn_grammar.specs.Forms.{is_range as is_range_form}
use Rattle.laws_binding.specs.Spelled.{Spelled}
use Rattle.laws_binding.proofs.Begun.{first_passes}
use Rattle.laws_binding.proofs.Sights.{is_back, backs_are}
use Rattle.syn_grammar.specs.Parens.{is_struct}
use Rattle.laws_edges.specs.Classes.{is_postfix, is_jump, is_dots, is_comparison, is_chained, is_range, is_path}
use Rattle.laws_edges.specs.Classes.{takes_postfixes, fits_before}
use Rattle.laws_edges.specs.Binds.{takes_in, may_go_on}

-- levels
or_none : (b : Bool) → b ≡ (b || false)
or_none true = refl
or_none false = refl

pub takes_same : (j k : Kind) → takes_in j k ≡ takes (level j) (level k)
unfolding takes level
takes_same ExprAssign ExprAssign = refl
takes_same ExprAssign _ = refl
takes_same _ k = or_none _

-- ranges and paths
dots_same : (k : Kind) → is_dots k ≡ nat_eq (level k) 3
unfolding level
dots_same ExprRange = refl
dots_same _ = refl

pub range_same : (x : Tree) → is_range x ≡ is_range_form x
unfolding level
range_same (Front ExprAttributed y x) = range_same x
range_same (Front _ y x) = refl
range_same (Alone k y) = dots_same k
range_same (Back l k y) = dots_same k
range_same (Infix l k y r) = dots_same k
range_same _ = refl

path_same : (x : Tree) → is_path x ≡ is_path_form x
path_same (Alone ExprPath y) = refl
path_same (Alone _ y) = refl
path_same _ = refl

-- what a postfix form stands behind
abbrev is_begun : Kind → Bool
is_begun ExprCast = false
is_begun k = true

alone_takes : (p : Position) (k : Kind) (ts us : List Token) → front p ts ≡ Some k → has_right p k us ≡ false
    → not (is_dots k) ≡ (nat_eq (level k) 16 || nat_eq (level k) 1)
unfolding has_right level front
alone_takes p ExprCast ts us e h = absurd (false≢true (first_passes is_begun (fronts p) ts ExprCast refl e))
alone_takes p ExprAssign ts us e h = absurd (false≢true (sym h))
alone_takes p ExprOr ts us e h = absurd (false≢true (sym h))
alone_takes p ExprAnd ts us e h = absurd (false≢true (sym h))
alone_takes p ExprLet ts us e h = absurd (false≢true (sym h))
alone_takes p ExprCompare ts us e h = absurd (false≢true (sym h))
alone_takes p ExprBitOr ts us e h = absurd (false≢true (sym h))
alone_takes p ExprBitXor ts us e h = absurd (false≢true (sym h))
alone_takes p ExprBitAnd ts us e h = absurd (false≢true (sym h))
alone_takes p ExprShift ts us e h = absurd (false≢true (sym h))
alone_takes p ExprSum ts us e h = absurd (false≢true (sym h))
alone_takes p ExprProduct ts us e h = absurd (false≢true (sym h))
alone_takes p ExprUnary ts us e h = absurd (false≢true (sym h))
alone_takes p ExprRawAddr ts us e h = absurd (false≢true (sym h))
alone_takes p ExprReference ts us e h = absurd (false≢true (sym h))
alone_takes p ExprAttributed ts us e h = absurd (false≢true (sym h))
alone_takes p _ ts us e h = refl

front_takes : (p : Position) (k : Kind) (us : List Token) → has_right p k us ≡ true
    → is_jump k ≡ (nat_eq (level k) 16 || nat_eq (level k) 1)
unfolding has_right level
front_takes p ExprBreak us h = refl
front_takes p ExprReturn us h = refl
front_takes p ExprYield us h = refl
front_takes p ExprClosure us h = refl
front_takes p ExprCast us h = refl
front_takes p ExprAssign us h = refl
front_takes p ExprOr us h = refl
front_takes p ExprAnd us h = refl
front_takes p ExprLet us h = refl
front_takes p ExprCompare us h = refl
front_takes p ExprBitOr us h = refl
front_takes p ExprBitXor us h = refl
front_takes p ExprBitAnd us h = refl
front_takes p ExprShift us h = refl
front_takes p ExprSum us h = refl
front_takes p ExprProduct us h = refl
front_takes p ExprUnary us h = refl
front_takes p ExprRawAddr us h = refl
front_takes p ExprReference us h = refl
front_takes p ExprAttributed us h = refl
front_takes p ExprRange us h = refl
front_takes p ExprRangeClosed us h = refl
front_takes p _ us h = absurd (false≢true h)

back_takes : (k : Kind) → is_back k ≡ true → (is_postfix k || is_struct k) ≡ (nat_eq (level k) 16 || nat_eq (level k) 1)
unfolding level
back_takes ExprAssign h = refl
back_takes ExprCompare h = refl
back_takes ExprOr h = refl
back_takes ExprAnd h = refl
back_takes ExprShift h = refl
back_takes ExprBitOr h = refl
back_takes ExprBitXor h = refl
back_takes ExprBitAnd h = refl
back_takes ExprSum h = refl
back_takes ExprProduct h = refl
back_takes ExprRangeClosed h = refl
back_takes ExprRange h = refl
back_takes ExprCast h = refl
back_takes ExprStruct h = refl
back_takes ExprCall h = refl
back_takes ExprIndex h = refl
back_takes ExprTry h = refl
back_takes ExprAwait h = refl
back_takes ExprMethodCall h = refl
back_takes ExprField h = refl
back_takes _ h = absurd (false≢true h)

infix_takes : (p : Position) (k : Kind) (us : List Token) → is_back k ≡ true → has_right p k us ≡ true
    → false ≡ (nat_eq (level k) 16 || nat_eq (level k) 1)
unfolding has_right level
infix_takes p ExprAssign us b h = refl
infix_takes p ExprCompare us b h = refl
infix_takes p ExprOr us b h = refl
infix_takes p ExprAnd us b h = refl
infix_takes p ExprShift us b h = refl
infix_takes p ExprBitOr us b h = refl
infix_takes p ExprBitXor us b h = refl
infix_takes p ExprBitAnd us b h = refl
infix_takes p ExprSum us b h = refl
infix_takes p ExprProduct us b h = refl
infix_takes p ExprRangeClosed us b h = refl
infix_takes p ExprRange us b h = refl
infix_takes p ExprCast us b h = absurd (false≢true h)
infix_takes p ExprStruct us b h = absurd (false≢true h)
infix_takes p ExprCall us b h = absurd (false≢true h)
infix_takes p ExprIndex us b h = absurd (false≢true h)
infix_takes p ExprTry us b h = absurd (false≢true h)
infix_takes p ExprAwait us b h = absurd (false≢true h)
infix_takes p ExprMethodCall us b h = absurd (false≢true h)
infix_takes p ExprField us b h = absurd (false≢true h)
infix_takes p _ us b h = absurd (false≢true b)

pub postfixes_same : (x : Tree) (p : Position) (rest : List Token) → Spelled p x rest
    → takes_postfixes x ≡ takes_postfix x
postfixes_same (Alone k y) p rest s = alone_takes p k _ _ s.0 s.2
postfixes_same (Front k y x) p rest s = front_takes p k _ s.2
postfixes_same (Back l k y) p rest s = back_takes k (backs_are p k _ s.0)
postfixes_same (Infix l k y r) p rest s = infix_takes p k _ (backs_are p k _ s.0) s.2
postfixes_same _ p rest s = elim s [ ]

-- what stands left of a form
pub fits_same : (k : Kind) (x : Tree) (p : Position) (rest : List Token) → is_back k ≡ true → Spelled p x rest
    → fits_before k x ≡ may_be_left k x
unfolding level
fits_same ExprStruct x p rest b s = path_same x
fits_same ExprCall x p rest b s = postfixes_same x p rest s
fits_same ExprIndex x p rest b s = postfixes_same x p rest s
fits_same ExprTry x p rest b s = postfixes_same x p rest s
fits_same ExprAwait x p rest b s = postfixes_same x p rest s
fits_same ExprMethodCall x p rest b s = postfixes_same x p rest s
fits_same ExprField x p rest b s = postfixes_same x p rest s
fits_same ExprAssign x p rest b s = ap not (range_same x)
fits_same ExprCompare x p rest b s = ap not (range_same x)
fits_same ExprOr x p rest b s = ap not (range_same x)
fits_same ExprAnd x p rest b s = ap not (range_same x)
fits_same ExprShift x p rest b s = ap not (range_same x)
fits_same ExprBitOr x p rest b s = ap not (range_same x)
fits_same ExprBitXor x p rest b s = ap not (range_same x)
fits_same ExprBitAnd x p rest b s = ap not (range_same x)
fits_same ExprSum x p rest b s = ap not (range_same x)
fits_same ExprProduct x p rest b s = ap not (range_same x)
fits_same ExprRangeClosed x p rest b s = ap not (range_same x)
fits_same ExprRange x p rest b s = ap not (range_same x)
fits_same ExprCast x p rest b s = ap not (range_same x)
fits_same _ x p rest b s = absurd (false≢true b)

pub goes_same : (k : Kind) (x : Tree) (p q : Position) (rest : List Token) → is_back k ≡ true → Spelled q x rest
    → may_go_on p x k ≡ stands_left p x k
unfolding stands_left
goes_same k x p q rest b s = ap (λ f. f && (not (ends_there p x) || is_dotted k)) (fits_same k x q rest b s)

-- comparisons
compare_kind : (k : Kind) → is_comparison k ≡ nat_eq (level k) 7
unfolding level
compare_kind ExprCompare = refl
compare_kind _ = refl

pub chains_same : (l : Tree) (k : Kind) → is_chained l k ≡ chains l k
unfolding chains
chains_same l k =
    ap (λ b. b && is_comparison (kind_of l)) (compare_kind k) ∙ ap (λ b. nat_eq (level k) 7 && b)
    (compare_kind (kind_of l))
