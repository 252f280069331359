-- A left operand that was read is ended before the form behind it.
use Rattle.std.proofs.Common.{◌≡◌, ℕ, List, ◌++◌, refl, sym, ap, ◌∙◌, subst, inl, inr}
use Rattle.std.specs.Prelude.{Bool, true, false, not, ◌&&◌, ◌||◌, ◌⊎◌, nat_eq, Some}
use Rattle.std.proofs.lemmas.Bool.{and_from}
use Rattle.std.proofs.lemmas.Bool.{false≢true}
use Rattle.proc_macro2.specs.Token.{Token}
use Rattle.syn_grammar.specs.Kind.{Kind, Position, Plain, InCondition, InArm, InStatement, ExprCall, ExprMethodCall}
use Rattle.syn_grammar.specs.Kind.{ExprField, ExprAwait, ExprIndex, ExprTry, ExprCast, ExprAttributed, ExprUnary}
use Rattle.syn_grammar.specs.Kind.{ExprRawAddr, ExprReference, ExprLet, ExprBreak, ExprReturn, ExprYield}
use Rattle.syn_grammar.specs.Kind.{ExprClosure, ExprRange, ExprRangeClosed, ExprStruct, ExprAssign, ExprOr, ExprAnd}
use Rattle.syn_grammar.specs.Kind.{ExprCompare, ExprBitOr, ExprBitXor, ExprBitAnd, ExprShift, ExprSum, ExprProduct}
use Rattle.syn_grammar.specs.Name.{the_name, the_value, same_part}
use Rattle.syn_grammar.specs.Part.{has}
use Rattle.syn_grammar.specs.Tree.{Tree, ALiteral, Pair, Second, End, Called, Alone, Front, Back, Infix, flat}
use Rattle.syn_grammar.specs.Look.{sees}
use Rattle.syn_grammar.specs.Expressions.{postfix_stands}
use Rattle.syn_grammar.specs.Table.{table}
use Rattle.syn_grammar.specs.Derives.{Derives, Bound}
use Rattle.syn_grammar.specs.Kept.{dotted, kept}
use Rattle.syn_grammar.specs.Normal.{place_of, normal}
use Rattle.syn_grammar.specs.Forms.{back, level, inside, takes_postfix, may_be_left, ends_there, is_dotted}
use Rattle.syn_grammar.specs.Forms.{stands_left, takes, takes_kind, goes_on}
use Rattle.syn_grammar.specs.Parens.{is_struct, ends_in_name, ends_before, is_ended}
use Rattle.laws_binding.specs.Bare.{bare}
use Rattle.laws_binding.proofs.Turns.{Facts, lone_less}
use Rattle.laws_binding.proofs.Sights.{is_back, is_postfix, backs_are, back_same, starts_plain, postfix_seen}
use Rattle.laws_binding.proofs.Sights.{both}
use Rattle.laws_binding.proofs.Fields.{Numbered, numbered}
use Rattle.laws_binding.proofs.Shells.{is_dot, each_dot, undotted, behind_dot, dotted_has, dotted_own}
use Rattle.laws_binding.proofs.Same.{may_same}
use Rattle.laws_binding.proofs.Casts.{cast_ends, cast_no_postfix}

-- such a field has no name
unnamed : (y : Tree) → Numbered y → (w z : Tree) → kept y ≡ behind_dot w z → has the_name (normal (behind_dot End z))
    ≡ false
unfolding same_part place_of
unnamed y n w z g =
    subst (λ v. has the_name (normal (behind_dot End v)) ≡ false)
    (second_is _ (Second (Called the_value (kept n.value))) _ z (ap kept (sym n.is) ∙ g)) refl
  where
    second_is : (a b c z : Tree) → Pair a b ≡ Pair c z → b ≡ z
    second_is a b c z e = cc

name_off : (k : Kind) (us : List Token) (y : Tree) → (k ≡ ExprCall → has the_name y ≡ false)
    → ends_before k us ExprField y ≡ true
name_off ExprCall us y h = ap not (h refl)
name_off _ us y h = refl

field_before : (k : Kind) (q : Position) (rest us : List Token) (y : Tree) → Derives y (table ExprField) rest
    → back q (flat y ++ rest) ≡ Some ExprField → back q rest ≡ Some k → (w z : Tree) → kept y ≡ behind_dot w z
    → ends_before k us ExprField (normal (behind_dot End z)) ≡ true
field_before k q rest us y d e f w z g =
    name_off k us (normal (behind_dot End z)) (λ c. unnamed y (numbered q q rest y d e (f ∙ ap Some c)) w z g)

dot_before : (j k : Kind) (q : Position) (rest us : List Token) (y : Tree) → is_dot j ≡ true → Derives y (table j) rest
    → back q (flat y ++ rest) ≡ Some j → back q rest ≡ Some k → (w z : Tree) → kept y ≡ behind_dot w z
    → ends_before k us j (normal (behind_dot End z)) ≡ true
dot_before j k q rest us y i d e f w z g =
    each_dot (λ m. Derives y (table m) rest → back q (flat y ++ rest) ≡ Some m
    → ends_before k us m (normal (behind_dot End z)) ≡ true)
    (λ a b. field_before k q rest us y a b f w z g) (λ a b. refl) (λ a b. refl) j i d e

index_name : (cs : List ℕ) → has the_name (normal (behind_dot End (Second (Called the_value (ALiteral cs))))) ≡ false
unfolding same_part
index_name cs = refl

-- behind a cast no postfix form stands
pub behind_cast : (k : Kind) (q : Position) (rest : List Token) (y : Tree) → Derives y (table ExprCast) rest
    → back q rest ≡ Some k → is_postfix k ≡ false
behind_cast k q rest y d e = go (is_postfix k) refl
  where
    go : (b : Bool) → is_postfix k ≡ b → b ≡ false
    go true i = absurd (both (sees postfix_stands rest) (postfix_seen q k rest e i) (cast_no_postfix y rest d))
    go false i = refl

top_postfix : (k : Kind) → is_back k ≡ true → is_struct k ≡ false → nat_eq (level k) 16 ≡ true → is_postfix k ≡ true
unfolding level
top_postfix ExprCall b s e = refl
top_postfix ExprMethodCall b s e = refl
top_postfix ExprField b s e = refl
top_postfix ExprAwait b s e = refl
top_postfix ExprIndex b s e = refl
top_postfix ExprTry b s e = refl
top_postfix ExprStruct b s e = absurd (false≢true (sym s))
top_postfix ExprCast b s e = absurd (false≢true e)
top_postfix ExprRange b s e = absurd (false≢true e)
top_postfix ExprRangeClosed b s e = absurd (false≢true e)
top_postfix ExprAssign b s e = absurd (false≢true e)
top_postfix ExprOr b s e = absurd (false≢true e)
top_postfix ExprAnd b s e = absurd (false≢true e)
top_postfix ExprCompare b s e = absurd (false≢true e)
top_postfix ExprBitOr b s e = absurd (false≢true e)
top_postfix ExprBitXor b s e = absurd (false≢true e)
top_postfix ExprBitAnd b s e = absurd (false≢true e)
top_postfix ExprShift b s e = absurd (false≢true e)
top_postfix ExprSum b s e = absurd (false≢true e)
top_postfix ExprProduct b s e = absurd (false≢true e)
top_postfix _ b s e = absurd (false≢true b)

not_false : (b : Bool) → b ≡ false → not b ≡ true
not_false true e = cc
not_false false e = refl

neither : (a b : Bool) → a ≡ false → b ≡ false → not (a || b) ≡ true
neither true b e f = cc
neither false b e f = ap not f

and_left : (a b : Bool) → a ≡ false → (a && b) ≡ false
and_left true b e = cc
and_left false b e = refl

and_right : (a b : Bool) → b ≡ false → (a && b) ≡ false
and_right true b e = e
and_right false b e = refl

cast_before : (k : Kind) (q : Position) (rest us : List Token) (y : Tree) → Derives y (table ExprCast) rest
    → back q rest ≡ Some k → is_struct k ≡ false → Facts rest us → ends_before k us ExprCast (normal (kept y)) ≡ true
cast_before k q rest us y d e s f =
    neither (nat_eq (level k) 16) (ends_in_name (flat (normal (kept y))) && sees lone_less us)
    (go (nat_eq (level k) 16) refl) (less f.less)
  where
    go : (b : Bool) → nat_eq (level k) 16 ≡ b → b ≡ false
    go true g = absurd (both _ (top_postfix k (backs_are q k rest e) s g) (behind_cast k q rest y d e))
    go false g = refl

    less : (sees lone_less us ≡ false) ⊎ (sees lone_less rest ≡ true)
        → (ends_in_name (flat (normal (kept y))) && sees lone_less us) ≡ false
    less (inl l) = and_right (ends_in_name (flat (normal (kept y)))) (sees lone_less us) l
    less (inr l) = and_left (ends_in_name (flat (normal (kept y)))) (sees lone_less us) (cast_ends y rest d l)

plain_before : (j k : Kind) (q : Position) (rest us : List Token) (y : Tree) → is_dot j ≡ false
    → Derives y (table j) rest → back q rest ≡ Some k → is_struct k ≡ false → Facts rest us
    → ends_before k us j (normal (kept y)) ≡ true
plain_before ExprCast k q rest us y i d e s f = cast_before k q rest us y d e s f
plain_before ExprField k q rest us y i d e s f = cc
plain_before _ k q rest us y i d e s f = refl

last_before : (l : Tree) (j k : Kind) (q : Position) (rest us : List Token) (y : Tree) → Derives y (table j) rest
    → back q (flat y ++ rest) ≡ Some j → back q rest ≡ Some k → is_struct k ≡ false → Facts rest us
    → is_ended k us (bare (dotted (kept l) j (kept y))) ≡ true
last_before l j k q rest us y d g e s f = go (is_dot j) refl
  where
    go : (b : Bool) → is_dot j ≡ b → is_ended k us (bare (dotted (kept l) j (kept y))) ≡ true
    go false i = subst (λ v. is_ended k us (bare v) ≡ true) (sym (undotted (kept l) j (kept y) i))
        (plain_before j k q rest us y i d e s f)
    go true i =
        let o = dotted_own j y rest i d in
        subst (λ v. is_ended k us (bare (dotted (kept l) j v)) ≡ true) (sym o.is)
        (dotted_has (λ n v. n ≡ j → is_ended k us (bare v) ≡ true) (λ m. Unit {0}) o.back (λ m cs u. tt)
        (λ m cs u h. name_off k us _ (λ c. index_name _))
        (λ n m a u h. subst (λ n. ends_before k us n (normal (behind_dot End o.back)) ≡ true) (sym h)
        (dot_before j k q rest us y i d g e o.front o.back o.is))
        j (kept l) o.front i tt refl)

-- in these positions no form ends a statement or an arm
abbrev pub is_calm : Position → Bool
is_calm Plain = true
is_calm InCondition = true
is_calm p = false

calm_inside : (q : Position) (j : Kind) → (is_calm (inside q j) ≡ true) ⊎ (j ≡ ExprAttributed)
unfolding inside
calm_inside q ExprAttributed = inr refl
calm_inside Plain j = inl refl
calm_inside InCondition ExprBreak = inl refl
calm_inside InCondition ExprReturn = inl refl
calm_inside InCondition ExprYield = inl refl
calm_inside InCondition _ = inl refl
calm_inside InArm _ = inl refl
calm_inside InStatement _ = inl refl

calm_ends : (q : Position) (x : Tree) → is_calm q ≡ true → ends_there q x ≡ false
calm_ends Plain x e = refl
calm_ends InCondition x e = refl
calm_ends InArm x e = cc
calm_ends InStatement x e = cc

abbrev pub Edge : Kind → Position → Tree → Type 0
Edge k q l = (nat_eq (level k) 16 ≡ false) ⊎ ((is_calm q ≡ true) ⊎ (takes_postfix l ≡ true))

attributed_postfix : (y x : Tree) → takes_postfix (Front ExprAttributed y x) ≡ false
unfolding level
attributed_postfix y x = refl

step_in : (k : Kind) (q : Position) (j : Kind) (y x : Tree) → Edge k q (Front j y x)
    → (is_calm (inside q j) ≡ true) ⊎ ((j ≡ ExprAttributed) × (nat_eq (level k) 16 ≡ false))
unfolding inside
step_in k q j y x h = go (calm_inside q j) h
  where
    go : (is_calm (inside q j) ≡ true) ⊎ (j ≡ ExprAttributed) → Edge k q (Front j y x)
        → (is_calm (inside q j) ≡ true) ⊎ ((j ≡ ExprAttributed) × (nat_eq (level k) 16 ≡ false))
    go (inl c) h = inl c
    go (inr a) (inl n) = inr (a, n)
    go (inr a) (inr (inl c)) = inl (ap (λ i. is_calm (inside q i)) a ∙ c)
    go (inr a) (inr (inr t)) =
        absurd (both (takes_postfix (Front ExprAttributed y x)) (ap (λ i. takes_postfix (Front i y x)) (sym a) ∙ t)
        (attributed_postfix y x))

calm_off : (t m e d : Bool) → e ≡ false → (t && (m && (not e || d))) ≡ false → (t && m) ≡ false
calm_off true true true d e f = cc
calm_off true true false d e f = f
calm_off true false e d f g = refl
calm_off false m e d f g = refl

attributed_takes : (k : Kind) → nat_eq (level k) 16 ≡ false → takes 15 (level k) ≡ false
unfolding level takes
attributed_takes ExprAttributed e = refl
attributed_takes ExprUnary e = refl
attributed_takes ExprRawAddr e = refl
attributed_takes ExprReference e = refl
attributed_takes ExprLet e = refl
attributed_takes ExprBreak e = refl
attributed_takes ExprReturn e = refl
attributed_takes ExprYield e = refl
attributed_takes ExprClosure e = refl
attributed_takes ExprCast e = refl
attributed_takes ExprRange e = refl
attributed_takes ExprRangeClosed e = refl
attributed_takes ExprAssign e = refl
attributed_takes ExprOr e = refl
attributed_takes ExprAnd e = refl
attributed_takes ExprCompare e = refl
attributed_takes ExprBitOr e = refl
attributed_takes ExprBitXor e = refl
attributed_takes ExprBitAnd e = refl
attributed_takes ExprShift e = refl
attributed_takes ExprSum e = refl
attributed_takes ExprProduct e = refl
attributed_takes _ e = cc

attributed_level : level ExprAttributed ≡ 15
unfolding level
attributed_level = refl

-- no right operand goes on with the form
not_taken : (k : Kind) (n : ℕ) (x : Tree) (q : Position) (rest : List Token) → Bound q x rest → back q rest ≡ Some k
    → goes_on q n x rest ≡ false → is_calm q ≡ true → not (takes n (level k) && may_be_left k (bare (kept x))) ≡ true
unfolding stands_left
not_taken k n x q rest d e g c =
    not_false _ (ap (λ b. takes n (level k) && b) (may_same k x q rest d)
    ∙ calm_off (takes n (level k)) (may_be_left k x) (ends_there q x) (is_dotted k) (calm_ends q x c)
    (ap (takes_kind q n x) (sym e) ∙ g))

front_case : (j : Kind) (y x : Tree) (q : Position) (rest us : List Token) (k : Kind) → Bound q (Front j y x) rest
    → back (inside q j) rest ≡ Some k
    → (is_calm (inside q j) ≡ true) ⊎ ((j ≡ ExprAttributed) × (nat_eq (level k) 16 ≡ false))
    → (Edge k (inside q j) x → is_ended k us (bare (kept x)) ≡ true) → is_ended k us (bare (kept (Front j y x))) ≡ true
front_case j y x q rest us k d e (inl c) ih =
    and_from _ _ (not_taken k (level j) x (inside q j) rest d.4 e d.3.1 c) (ih (inr (inl c)))
front_case j y x q rest us k d e (inr a) ih =
    and_from _ _
    (not_false _ (and_left (takes (level j) (level k)) (may_be_left k (bare (kept x)))
    (ap (λ i. takes (level i) (level k)) a.0 ∙ ap (λ n. takes n (level k)) attributed_level ∙ attributed_takes k a.1)))
    (ih (inl a.1))

infix_calm : (q : Position) (j : Kind) → is_back j ≡ true → is_calm (inside q j) ≡ true
infix_calm q j b = go (calm_inside q j)
  where
    go : (is_calm (inside q j) ≡ true) ⊎ (j ≡ ExprAttributed) → is_calm (inside q j) ≡ true
    go (inl c) = c
    go (inr a) = absurd (both (is_back ExprAttributed) (ap is_back (sym a) ∙ b) refl)

pub ended : (l : Tree) (q : Position) (rest us : List Token) (k : Kind) → Bound q l rest → back q rest ≡ Some k
    → is_struct k ≡ false → Facts rest us → Edge k q l → is_ended k us (bare (kept l)) ≡ true
ended (Alone j y) q rest us k d e s f h = refl
ended (Front j y x) q rest us k d e s f h =
    let e' : back (inside q j) rest ≡ Some k = back_same (inside q j) q rest (starts_plain q rest k e s) ∙ e in
    front_case j y x q rest us k d e' (step_in k q j y x h) (λ i. ended x (inside q j) rest us k d.4 e' s f i)
ended (Back l j y) q rest us k d e s f h = last_before l j k q rest us y d.1 d.0 e s f
ended (Infix l j y r) q rest us k d e s f h =
    let e' : back (inside q j) rest ≡ Some k = back_same (inside q j) q rest (starts_plain q rest k e s) ∙ e in
    let c : is_calm (inside q j) ≡ true = infix_calm q j (backs_are q j _ d.0) in
    and_from _ _ (not_taken k (level j) r (inside q j) rest d.6 e' d.5.1 c)
    (ended r (inside q j) rest us k d.6 e' s f (inr (inl c)))
ended _ q rest us k d e s f h = elim d [ ]
