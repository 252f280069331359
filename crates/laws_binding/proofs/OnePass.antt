-- What is written in one pass is the normal form.
use Rattle.std.proofs.Common.{◌≡◌, ◌≤◌, List, refl, sym, ap, ◌∙◌, arith}
use Rattle.std.specs.Prelude.{Bool, true, false, not, cond, ◌&&◌, ◌||◌, nat_le, nat_lt, nat_eq}
use Rattle.proc_macro2.specs.Token.{Token}
use Rattle.syn_grammar.specs.Kind.{Kind, Position, Plain, InCondition, InArm, InStatement, ExprStruct, ExprCall}
use Rattle.syn_grammar.specs.Kind.{ExprField, ExprCast, ExprBreak, ExprReturn, ExprYield, ExprClosure, ExprAssign}
use Rattle.syn_grammar.specs.Kind.{ExprRange, ExprRangeClosed, ExprOr, ExprAnd, ExprLet, ExprCompare, ExprBitOr}
use Rattle.syn_grammar.specs.Kind.{ExprBitXor, ExprBitAnd, ExprShift, ExprSum, ExprProduct, ExprUnary, ExprRawAddr}
use Rattle.syn_grammar.specs.Kind.{ExprReference, ExprAttributed}
use Rattle.syn_grammar.specs.Name.{the_name}
use Rattle.syn_grammar.specs.Part.{has}
use Rattle.syn_grammar.specs.Tree.{Tree, Alone, Front, Back, Infix, flat}
use Rattle.syn_grammar.specs.Forms.{has_right, level, inside, kind_of, is_range, may_be_left, ends_there, is_dotted}
use Rattle.syn_grammar.specs.Forms.{chains}
use Rattle.syn_grammar.specs.Parens.{in_parens, parens_unless, may_lack, takes_what_follows, is_label}
use Rattle.syn_grammar.specs.Parens.{is_attributed_range, stays_right, stays_left, is_struct, is_ended, begins_in}
use Rattle.syn_grammar.specs.Parens.{stands_in, follow, ends_before, with_right, with_left}
use Rattle.syn_grammar.specs.Normal.{normal, formed}
use Rattle.syn_grammar.specs.Shape.{lowest, least, cap, is_open, last_ends}
use Rattle.syn_grammar.proofs.Shapes.{right_is, ended_is}
use Rattle.laws_binding.specs.Written.{other, a_named_field, last_of, last, Written, wrote, paren_of}
use Rattle.laws_binding.specs.Written.{paren_unless, behind_attributes, front_of, back_of, infix_of, may_right}
use Rattle.laws_binding.specs.Written.{fits_left, ends_in, may_end, is_over, may_left, write}

level_low : (k : Kind) → lowest (level k) ≤ 17
unfolding level
level_low ExprBreak = omega arith
level_low ExprReturn = omega arith
level_low ExprYield = omega arith
level_low ExprClosure = omega arith
level_low ExprAssign = omega arith
level_low ExprRange = omega arith
level_low ExprRangeClosed = omega arith
level_low ExprOr = omega arith
level_low ExprAnd = omega arith
level_low ExprLet = omega arith
level_low ExprCompare = omega arith
level_low ExprBitOr = omega arith
level_low ExprBitXor = omega arith
level_low ExprBitAnd = omega arith
level_low ExprShift = omega arith
level_low ExprSum = omega arith
level_low ExprProduct = omega arith
level_low ExprCast = omega arith
level_low ExprUnary = omega arith
level_low ExprRawAddr = omega arith
level_low ExprReference = omega arith
level_low ExprAttributed = omega arith
level_low _ = omega arith

-- parentheses
paren_wrote : (x : Tree) → wrote (in_parens x) ≡ paren_of (wrote x)
unfolding level
paren_wrote x = refl

unless_wrote : (b : Bool) (x : Tree) → wrote (parens_unless b x) ≡ paren_unless b (wrote x)
unless_wrote true x = refl
unless_wrote false x = paren_wrote x

front_wrote : (k : Kind) (y x : Tree) → wrote (Front k y x) ≡ front_of k y (wrote x)
front_wrote ExprAttributed y x = refl
front_wrote _ y x = refl

-- a right operand
range_wrote : (k : Kind) (x : Tree) → is_attributed_range k x ≡ behind_attributes k (is_range x) false
range_wrote ExprAttributed x = refl
range_wrote _ x = refl

right_wrote : (p : Position) (k : Kind) (y x : Tree) → stays_right p k y x ≡ may_right p k y (wrote x)
right_wrote p k y x =
    ap (λ b. b && ((not (may_lack k) || (has_right p k (flat x) && not (is_label k y (flat x))))
    && not (is_attributed_range k x)))
    (right_is (level k) x (level_low k))
    ∙ ap (λ b. nat_le (lowest (level k)) (least x)
    && ((not (may_lack k) || (has_right p k (flat x) && not (is_label k y (flat x)))) && not b))
    (range_wrote k x)

-- a left operand
fits_wrote : (k : Kind) (l : Tree) → may_be_left k l ≡ fits_left k (wrote l)
fits_wrote ExprStruct l = refl
fits_wrote _ l = refl

ends_wrote : (p : Position) (l : Tree) → ends_there p l ≡ ends_in p (wrote l)
ends_wrote Plain l = refl
ends_wrote InCondition l = refl
ends_wrote InArm l = refl
ends_wrote InStatement l = refl

chains_wrote : (k : Kind) (l : Tree) → chains l k ≡ (nat_eq (level k) 7 && nat_eq (level (kind_of l)) 7)
unfolding chains
chains_wrote k l = refl

named_end : (k : Kind) (ts : List Token) (y : Tree) → ends_before k ts ExprField y
    ≡ may_end k ts (cond (has the_name y) a_named_field other)
named_end ExprCall ts y = go (has the_name y)
  where
    go : (b : Bool) → not b ≡ may_end ExprCall ts (cond b a_named_field other)
    go true = refl
    go false = refl
named_end k ts y = go (has the_name y)
  where
    go : (b : Bool) → true ≡ may_end k ts (cond b a_named_field other)
    go true = refl
    go false = refl

end_wrote : (k : Kind) (ts : List Token) (j : Kind) (y : Tree) → ends_before k ts j y ≡ may_end k ts (last_of j y)
end_wrote k ts ExprCast y = refl
end_wrote k ts ExprField y = named_end k ts y
end_wrote k ts _ y = refl

last_wrote : (k : Kind) (ts : List Token) (x : Tree) → last_ends k ts x ≡ may_end k ts (last x)
last_wrote k ts (Front j y x) = last_wrote k ts x
last_wrote k ts (Infix l j y r) = last_wrote k ts r
last_wrote k ts (Back l j y) = end_wrote k ts j y
last_wrote k ts _ = refl

left_wrote : (p : Position) (k : Kind) (y l : Tree) → stays_left p k y l ≡ may_left p k y (wrote l)
left_wrote p k y l = go (is_struct k) refl
  where
    go : (s : Bool) → is_struct k ≡ s → stays_left p k y l ≡ may_left p k y (wrote l)
    go true e =
        ap (λ s. s || ((may_be_left k l && (not (ends_there p l) || is_dotted k))
        && (not (chains l k) && is_ended k (flat y) l))) e
        ∙ sym (ap (λ s. s || ((fits_left k (wrote l) && (not (ends_in p (wrote l)) || is_dotted k))
        && (not (nat_eq (level k) 7 && nat_eq (level (kind_of l)) 7) && is_over k (flat y) (wrote l)))) e)
    go false e =
        ap (λ b. is_struct k || ((b && (not (ends_there p l) || is_dotted k))
        && (not (chains l k) && is_ended k (flat y) l))) (fits_wrote k l)
        ∙ ap (λ b. is_struct k || ((fits_left k (wrote l) && (not b || is_dotted k))
        && (not (chains l k) && is_ended k (flat y) l))) (ends_wrote p l)
        ∙ ap (λ b. is_struct k || ((fits_left k (wrote l) && (not (ends_in p (wrote l)) || is_dotted k))
        && (not b && is_ended k (flat y) l))) (chains_wrote k l)
        ∙ ap (λ b. is_struct k || ((fits_left k (wrote l) && (not (ends_in p (wrote l)) || is_dotted k))
        && (not (nat_eq (level k) 7 && nat_eq (level (kind_of l)) 7) && b)))
        (ended_is k (flat y) e l ∙ ap
        (λ b. cond (nat_eq (level k) 16) (not (is_open l)) (nat_lt (level k) (cap l)) && b)
        (last_wrote k (flat y) l))

-- an operand that is put in parentheses or not
right_written : (p : Position) (k : Kind) (y x : Tree) (w : Written) → w ≡ wrote x → paren_unless (may_right p k y w) w
    ≡ wrote (with_right p k y x)
right_written p k y x w e =
    ap (λ v. paren_unless (may_right p k y v) v) e ∙ ap (λ b. paren_unless b (wrote x)) (sym (right_wrote p k y x))
    ∙ sym (unless_wrote (stays_right p k y x) x)

left_written : (p : Position) (k : Kind) (y l : Tree) (v : Written) → v ≡ wrote l → paren_unless (may_left p k y v) v
    ≡ wrote (with_left p k y l)
left_written p k y l v e =
    ap (λ v. paren_unless (may_left p k y v) v) e ∙ ap (λ b. paren_unless b (wrote l)) (sym (left_wrote p k y l))
    ∙ sym (unless_wrote (stays_left p k y l) l)

pub written : (x : Tree) (p : Position) (ts : List Token) → write p ts x ≡ wrote (formed p ts x)
written (Alone k y) p ts = sym (unless_wrote (not (takes_what_follows p k ts)) (Alone k (normal y)))
written (Front k y x) p ts =
    let z : Tree = with_right p k (normal y) (formed (inside p k) ts x) in
    ap (λ w. paren_unless (begins_in p k) (front_of k (normal y) w))
    (right_written p k (normal y) (formed (inside p k) ts x) (write (inside p k) ts x) (written x (inside p k) ts))
    ∙ ap (paren_unless (begins_in p k)) (sym (front_wrote k (normal y) z))
    ∙ sym (unless_wrote (begins_in p k) (Front k (normal y) z))
written (Back l k y) p ts =
    let us : List Token = follow (flat (normal y)) in
    let b : Bool = stands_in p k && not (takes_what_follows p k ts) in
    ap (λ v. paren_unless b (back_of v k (normal y)))
    (left_written p k (normal y) (formed p us l) (write p us l) (written l p us))
    ∙ sym (unless_wrote b (Back (with_left p k (normal y) (formed p us l)) k (normal y)))
written (Infix l k y r) p ts =
    let us : List Token = follow (flat (normal y)) in
    ap (λ v. infix_of v k (normal y)
    (paren_unless (may_right p k (normal y) (write (inside p k) ts r)) (write (inside p k) ts r)))
    (left_written p k (normal y) (formed p us l) (write p us l) (written l p us))
    ∙ ap (infix_of (wrote (with_left p k (normal y) (formed p us l))) k (normal y))
    (right_written p k (normal y) (formed (inside p k) ts r) (write (inside p k) ts r) (written r (inside p k) ts))
written _ p ts = refl
