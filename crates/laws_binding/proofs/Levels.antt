-- The operands of a normal form meet the conditions of levels.
use Rattle.std.proofs.Common.{◌≡◌, ℕ, List, refl, ap, ◌∙◌}
use Rattle.std.specs.Prelude.{Bool, true, false, not, ◌&&◌, ◌||◌, Some}
use Rattle.proc_macro2.specs.Token.{Token}
use Rattle.syn_grammar.specs.Kind.{Kind, Position, Plain, InCondition, InArm, InStatement, ExprStruct}
use Rattle.syn_grammar.specs.Tree.{Tree, Alone, Front, Back, Infix, flat}
use Rattle.syn_grammar.specs.Forms.{back, level, inside, within, goes_on, takes, takes_kind, stands_left}
use Rattle.syn_grammar.specs.Forms.{may_be_left, ends_there, is_dotted, chains}
use Rattle.syn_grammar.specs.Parens.{in_parens, parens_unless, stays_right, stays_left, is_struct, is_ended}
use Rattle.syn_grammar.specs.Parens.{begins_in, stands_in, takes_what_follows, follow, with_right, with_left}
use Rattle.syn_grammar.specs.Normal.{normal, formed}
use Rattle.syn_grammar.specs.Derives.{IsLeft}
use Rattle.syn_grammar.proofs.Whole.{and_true}
use Rattle.laws_binding.specs.Meets.{NoneGoesOn, LeftMeets, Meets}
use Rattle.laws_binding.proofs.Sights.{back_same, starts_plain}

pub not_true : (b : Bool) → not b ≡ true → b ≡ false
not_true true e = cc
not_true false e = refl

less_taken : (t m r : Bool) → not (t && m) ≡ true → (t && (m && r)) ≡ false
less_taken true true r e = cc
less_taken true false r e = refl
less_taken false m r e = refl

one_goes : (k : Kind) (q : Position) (n : ℕ) (x : Tree) (ts : List Token) → back q ts ≡ Some k
    → not (takes n (level k) && may_be_left k x) ≡ true → goes_on q n x ts ≡ false
unfolding stands_left
one_goes k q n x ts e h =
    ap (takes_kind q n x) e ∙ less_taken (takes n (level k)) (may_be_left k x) (not (ends_there q x) || is_dotted k) h

pub none_goes : (k : Kind) (us ts : List Token) (l : Tree) (p : Position) → back p ts ≡ Some k → is_struct k ≡ false
    → is_ended k us l ≡ true → NoneGoesOn p l ts
none_goes k us ts (Front j y x) p e s h =
    let a = and_true _ _ h in
    let f : back (inside p j) ts ≡ Some k = back_same (inside p j) p ts (starts_plain p ts k e s) ∙ e in
    (one_goes k (inside p j) (level j) x ts f a.0, none_goes k us ts x (inside p j) f s a.1)
none_goes k us ts (Infix l j y r) p e s h =
    let a = and_true _ _ h in
    let f : back (inside p j) ts ≡ Some k = back_same (inside p j) p ts (starts_plain p ts k e s) ∙ e in
    (one_goes k (inside p j) (level j) r ts f a.0, none_goes k us ts r (inside p j) f s a.1)
none_goes k us ts _ p e s h = tt

-- an operand in parentheses
pub or_false : (s b : Bool) → (s || b) ≡ true → s ≡ false → b ≡ true
or_false true b e f = cc
or_false false b e f = e

and_no : (b : Bool) → (b && false) ≡ false
and_no true = refl
and_no false = refl

paren_fits : (k : Kind) (x : Tree) → is_struct k ≡ false → may_be_left k (in_parens x) ≡ true
unfolding level
paren_fits ExprStruct x s = cc
paren_fits _ x s = refl

pub paren_ends : (p : Position) (x : Tree) → ends_there p (in_parens x) ≡ false
paren_ends Plain x = refl
paren_ends InCondition x = refl
paren_ends InArm x = refl
paren_ends InStatement x = refl

pub paren_left : (p : Position) (k : Kind) (x : Tree) → is_struct k ≡ false → IsLeft p (in_parens x) k
unfolding stands_left chains level
paren_left p k x s = (
  ap (λ b. b && (not (ends_there p (in_parens x)) || is_dotted k)) (paren_fits k x s) ∙ ap
      (λ b. not b || is_dotted k) (paren_ends p x),
  and_no _,
)

stays_meets : (p : Position) (k : Kind) (y l : Tree) → stays_left p k y l ≡ true → LeftMeets p l k
unfolding stands_left
stays_meets p k y l e s =
    let a = and_true (may_be_left k l && (not (ends_there p l) || is_dotted k)) _ (or_false (is_struct k) _ e s) in
    let b = and_true (not (chains l k)) (is_ended k (flat y) l) a.1 in
    ((a.0, not_true _ b.0), λ ts f. none_goes k (flat y) ts l p f s b.1)

left_meets : (p : Position) (k : Kind) (y l : Tree) → LeftMeets p (with_left p k y l) k
left_meets p k y l = go (stays_left p k y l) refl
  where
    go : (b : Bool) → stays_left p k y l ≡ b → LeftMeets p (parens_unless b l) k
    go true e = stays_meets p k y l e
    go false e = λ s. (paren_left p k l s, λ ts f. tt)

pub right_meets : (p : Position) (k : Kind) (y x : Tree) → within (level k) (with_right p k y x) ≡ true
right_meets p k y x = go (stays_right p k y x) refl
  where
    go : (b : Bool) → stays_right p k y x ≡ b → within (level k) (parens_unless b x) ≡ true
    go true e = (and_true (within (level k) x) _ e).0
    go false e = refl

unless_meets : (b : Bool) (p : Position) (x : Tree) → Meets p x → Meets p (parens_unless b x)
unless_meets true p x m = m
unless_meets false p x m = tt

pub meets : (x : Tree) (p : Position) (ts : List Token) → Meets p (formed p ts x)
meets (Alone k y) p ts = unless_meets (not (takes_what_follows p k ts)) p (Alone k (normal y)) tt
meets (Front k y x) p ts =
    let z : Tree = formed (inside p k) ts x in
    unless_meets (begins_in p k) p (Front k (normal y) (with_right p k (normal y) z))
    (right_meets p k (normal y) z, unless_meets (stays_right p k (normal y) z) (inside p k) z (meets x (inside p k) ts))
meets (Back l k y) p ts =
    let us : List Token = follow (flat (normal y)) in
    let m : Tree = formed p us l in
    unless_meets (stands_in p k && not (takes_what_follows p k ts)) p (Back (with_left p k (normal y) m) k (normal y))
    (left_meets p k (normal y) m, unless_meets (stays_left p k (normal y) m) p m (meets l p us))
meets (Infix l k y r) p ts =
    let us : List Token = follow (flat (normal y)) in
    let m : Tree = formed p us l in
    let z : Tree = formed (inside p k) ts r in (
      left_meets p k (normal y) m,
      unless_meets (stays_left p k (normal y) m) p m (meets l p us),
      right_meets p k (normal y) z,
      unless_meets (stays_right p k (normal y) z) (inside p k) z (meets r (inside p k) ts),
    )
meets _ p ts = tt
