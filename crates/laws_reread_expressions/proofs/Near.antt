-- An operand that was put in normal form in one position stands in the same, or in plain position in parentheses: it
-- meets the conditions of levels there too, and goes on with nothing.
use Rattle.std.proofs.Common.{◌≡◌, ℕ, List, [], refl, sym, ap, ◌∙◌, inl, inr}
use Rattle.std.specs.Prelude.{Bool, true, false, not, ◌&&◌, ◌||◌, ◌⊎◌, None}
use Rattle.std.proofs.lemmas.Bool.{false≢true}
use Rattle.proc_macro2.specs.Token.{Token}
use Rattle.syn_grammar.specs.Kind.{Kind, Position, Plain, InCondition, InArm, InStatement, ExprStruct, ExprPath}
use Rattle.syn_grammar.specs.Kind.{ExprBreak}
use Rattle.syn_grammar.specs.Tree.{Tree, Alone, Front, Back, Infix, flat}
use Rattle.syn_grammar.specs.Look.{sees}
use Rattle.syn_grammar.specs.Say.{brace}
use Rattle.syn_grammar.specs.Forms.{back, level, inside, within, goes_on, takes, takes_kind, stands_left, struct_stands}
use Rattle.syn_grammar.specs.Forms.{may_be_left, ends_there, is_dotted, is_path_form, chains}
use Rattle.syn_grammar.specs.Parens.{parens_unless, may_lack, stays_right, stays_left, is_struct, is_ended}
use Rattle.syn_grammar.specs.Parens.{begins_in, stands_in, takes_what_follows, follow, with_right}
use Rattle.syn_grammar.specs.Parens.{with_left}
use Rattle.syn_grammar.specs.Normal.{normal, formed}
use Rattle.syn_grammar.proofs.Settled.{plain_inside}
use Rattle.syn_grammar.proofs.Whole.{and_true}
use Rattle.laws_binding.specs.Meets.{NoneGoesOn, LeftMeets, Meets}
use Rattle.laws_binding.proofs.Levels.{paren_left, or_false, not_true, none_goes, right_meets}
use Rattle.laws_binding.proofs.Sights.{back_same, brace_struct}
use Rattle.laws_binding.proofs.Stays.{Behind}

-- where it stands: in its position, or in plain position
abbrev pub Near : Position → Position → Type 0
Near p q = (q ≡ p) ⊎ (q ≡ Plain)

pub near_inside : (p q : Position) (k : Kind) → Near p q → Near (inside p k) (inside q k)
near_inside p q k (inl e) = inl (ap (λ r. inside r k) e)
near_inside p q k (inr e) = inr (ap (λ r. inside r k) e ∙ plain_inside k)

-- what begins or stands in a position does in plain position
pub near_begins : (p q : Position) (k : Kind) → Near p q → begins_in p k ≡ true → begins_in q k ≡ true
near_begins p q k (inl e) b = ap (λ r. begins_in r k) e ∙ b
near_begins p q k (inr e) b = ap (λ r. begins_in r k) e

pub near_stands : (p q : Position) (k : Kind) → Near p q → stands_in p k ≡ true → stands_in q k ≡ true
near_stands p q k (inl e) b = ap (λ r. stands_in r k) e ∙ b
near_stands p q k (inr e) b = ap (λ r. stands_in r k) e

-- levels
or_more : (a b : Bool) → a ≡ false → (not a || b) ≡ true
or_more a b e = ap (λ c. not c || b) e

near_left : (p q : Position) (k : Kind) (l : Tree) → Near p q
    → (may_be_left k l && (not (ends_there p l) || is_dotted k))
    ≡ true → (may_be_left k l && (not (ends_there q l) || is_dotted k)) ≡ true
near_left p q k l (inl e) h = ap (λ r. may_be_left k l && (not (ends_there r l) || is_dotted k)) e ∙ h
near_left p q k l (inr e) h =
    ap (λ r. may_be_left k l && (not (ends_there r l) || is_dotted k)) e
    ∙ ap (λ b. b && (not (ends_there Plain l) || is_dotted k)) (and_true (may_be_left k l) _ h).0

stays_meets : (p q : Position) (k : Kind) (y l : Tree) → Near p q → stays_left p k y l ≡ true → LeftMeets q l k
unfolding stands_left
stays_meets p q k y l n e s =
    let a = and_true (may_be_left k l && (not (ends_there p l) || is_dotted k)) _ (or_false (is_struct k) _ e s) in
    let b = and_true (not (chains l k)) (is_ended k (flat y) l) a.1 in
    ((near_left p q k l n a.0, not_true _ b.0), λ ts f. none_goes k (flat y) ts l q f s b.1)

left_meets : (p q : Position) (k : Kind) (y l : Tree) → Near p q → LeftMeets q (with_left p k y l) k
left_meets p q k y l n = go (stays_left p k y l) refl
  where
    go : (b : Bool) → stays_left p k y l ≡ b → LeftMeets q (parens_unless b l) k
    go true e = stays_meets p q k y l n e
    go false e = λ s. (paren_left q k l s, λ ts f. tt)

unless_meets : (b : Bool) (p : Position) (x : Tree) → Meets p x → Meets p (parens_unless b x)
unless_meets true p x m = m
unless_meets false p x m = tt

-- each form, of operands that meet them
pub front_meets : (p q : Position) (k : Kind) (y z : Tree) → Meets (inside q k) z
    → Meets q (Front k y (with_right p k y z))
front_meets p q k y z m = (right_meets p k y z, unless_meets (stays_right p k y z) (inside q k) z m)

pub back_meets : (p q : Position) (k : Kind) (y z : Tree) → Near p q → Meets q z
    → Meets q (Back (with_left p k y z) k y)
back_meets p q k y z n m = (left_meets p q k y z n, unless_meets (stays_left p k y z) q z m)

pub infix_meets : (p q : Position) (k : Kind) (y l r : Tree) → Near p q → Meets q l → Meets (inside q k) r
    → Meets q (Infix (with_left p k y l) k y (with_right p k y r))
infix_meets p q k y l r n m o = (
  left_meets p q k y l n,
  unless_meets (stays_left p k y l) q l m,
  right_meets p k y r,
  unless_meets (stays_right p k y r) (inside q k) r o,
)

pub meets : (x : Tree) (p q : Position) (ts : List Token) → Near p q → Meets q (formed p ts x)
meets (Alone k y) p q ts n = unless_meets (not (takes_what_follows p k ts)) q (Alone k (normal y)) tt
meets (Front k y x) p q ts n =
    let z : Tree = formed (inside p k) ts x in
    unless_meets (begins_in p k) q (Front k (normal y) (with_right p k (normal y) z))
    (front_meets p q k (normal y) z (meets x (inside p k) (inside q k) ts (near_inside p q k n)))
meets (Back l k y) p q ts n =
    let us : List Token = follow (flat (normal y)) in
    let m : Tree = formed p us l in
    unless_meets (stands_in p k && not (takes_what_follows p k ts)) q (Back (with_left p k (normal y) m) k (normal y))
    (back_meets p q k (normal y) m n (meets l p q us n))
meets (Infix l k y r) p q ts n =
    let us : List Token = follow (flat (normal y)) in
    infix_meets p q k (normal y) (formed p us l) (formed (inside p k) ts r) n (meets l p q us n)
    (meets r (inside p k) (inside q k) ts (near_inside p q k n))
meets _ p q ts n = tt

-- what stands behind it there: in plain position no brace
pub record Beside (p q : Position) (ts rest : List Token) : Type 0 where
  pub near : Near p q
  pub behind : Behind ts rest
  pub plain : (q ≡ p) ⊎ (sees brace rest ≡ false)

pub beside_inside : (p q : Position) (ts rest : List Token) (k : Kind) → Beside p q ts rest
    → Beside (inside p k) (inside q k) ts rest
beside_inside p q ts rest k b = record { near = near_inside p q k b.near; behind = b.behind; plain = go b.plain }
  where
    go : (q ≡ p) ⊎ (sees brace rest ≡ false) → (inside q k ≡ inside p k) ⊎ (sees brace rest ≡ false)
    go (inl e) = inl (ap (λ r. inside r k) e)
    go (inr e) = inr e

-- Where nothing but a brace goes on, no operand on the right edge does.
brace_cond : (q : Position) (ts : List Token) → sees brace ts ≡ false → sees (struct_stands q) ts ≡ false
brace_cond Plain ts e = e
brace_cond InCondition ts e = refl
brace_cond InArm ts e = e
brace_cond InStatement ts e = e

struct_same : (p : Position) (ts rest : List Token) → (sees brace rest ≡ true → sees brace ts ≡ true)
    → sees (struct_stands p) ts ≡ false → sees (struct_stands p) rest ≡ false
struct_same Plain ts rest h e = go (sees brace rest) refl
  where
    go : (b : Bool) → sees brace rest ≡ b → b ≡ false
    go true f = sym (h f) ∙ e
    go false f = refl
struct_same InCondition ts rest h e = refl
struct_same InArm ts rest h e = go (sees brace rest) refl
  where
    go : (b : Bool) → sees brace rest ≡ b → b ≡ false
    go true f = sym (h f) ∙ e
    go false f = refl
struct_same InStatement ts rest h e = go (sees brace rest) refl
  where
    go : (b : Bool) → sees brace rest ≡ b → b ≡ false
    go true f = sym (h f) ∙ e
    go false f = refl

pub no_struct : (p q : Position) (ts rest : List Token) → Beside p q ts rest → sees (struct_stands p) ts ≡ false
    → sees (struct_stands q) rest ≡ false
no_struct p q ts rest b e = go b.plain
  where
    go : (q ≡ p) ⊎ (sees brace rest ≡ false) → sees (struct_stands q) rest ≡ false
    go (inl f) = ap (λ r. sees (struct_stands r) rest) f ∙ struct_same p ts rest b.behind.braces e
    go (inr f) = brace_cond q rest f

-- a path that stayed
or_right : (a b : Bool) → not (a || b) ≡ true → b ≡ false
or_right true b e = cc
or_right false b e = not_true b e

path_alone : (p q : Position) (ts rest : List Token) (k : Kind) (y : Tree) → Beside p q ts rest
    → takes_what_follows p k ts ≡ false → is_path_form (Alone k y) ≡ true → sees (struct_stands q) rest ≡ false
unfolding may_lack
path_alone p q ts rest ExprPath y b e i = no_struct p q ts rest b e
path_alone p q ts rest _ y b e i = absurd (false≢true i)

pub path_behind : (p q : Position) (ts rest : List Token) (x : Tree) → Beside p q ts rest
    → is_path_form (formed p ts x) ≡ true → sees (struct_stands q) rest ≡ false
path_behind p q ts rest (Alone k y) b i = go (takes_what_follows p k ts) refl i
  where
    go : (c : Bool) → takes_what_follows p k ts ≡ c → is_path_form (parens_unless (not c) (Alone k (normal y))) ≡ true
        → sees (struct_stands q) rest ≡ false
    go true e i = absurd (false≢true i)
    go false e i = path_alone p q ts rest k (normal y) b e i
path_behind p q ts rest (Front k y x) b i = go (begins_in p k) i
  where
    go : (c : Bool)
        → is_path_form (parens_unless c (Front k (normal y) (with_right p k (normal y) (formed (inside p k) ts x))))
        ≡ true → sees (struct_stands q) rest ≡ false
    go true i = absurd (false≢true i)
    go false i = absurd (false≢true i)
path_behind p q ts rest (Back l k y) b i = go (stands_in p k && not (takes_what_follows p k ts)) i
  where
    go : (c : Bool)
        → is_path_form
        (parens_unless c (Back (with_left p k (normal y) (formed p (follow (flat (normal y))) l)) k (normal y)))
        ≡ true → sees (struct_stands q) rest ≡ false
    go true i = absurd (false≢true i)
    go false i = absurd (false≢true i)
path_behind p q ts rest (Infix l k y r) b i = absurd (false≢true i)
path_behind p q ts rest _ b i = absurd (false≢true i)

-- what is no path doesn't go on with a brace
no_path : (n : ℕ) (q : Position) (z : Tree) (a : Bool) → is_path_form z ≡ false
    → (a && (may_be_left ExprStruct z && (not (ends_there q z) || false))) ≡ false
no_path n q z true e = ap (λ b. b && (not (ends_there q z) || false)) e
no_path n q z false e = refl

struct_off : (q : Position) (rest : List Token) → sees (struct_stands q) rest ≡ false
    → back q rest ≡ back InCondition rest
struct_off Plain rest e = back_same Plain InCondition rest e
struct_off InCondition rest e = refl
struct_off InArm rest e = back_same InArm InCondition rest e
struct_off InStatement rest e = back_same InStatement InCondition rest e

pub ends_here : (n : ℕ) (q : Position) (z : Tree) (rest : List Token) → back InCondition rest ≡ None
    → (is_path_form z ≡ true → sees (struct_stands q) rest ≡ false) → goes_on q n z rest ≡ false
unfolding stands_left
ends_here n q z rest e h = by_struct (sees (struct_stands q) rest) refl
  where
    by_path : (c : Bool) → is_path_form z ≡ c → sees (struct_stands q) rest ≡ true → goes_on q n z rest ≡ false
    by_path true i f = absurd (false≢true (sym (h i) ∙ f))
    by_path false i f =
        ap (takes_kind q n z) (brace_struct q rest f) ∙ no_path n q z (takes n (level ExprStruct)) i

    by_struct : (c : Bool) → sees (struct_stands q) rest ≡ c → goes_on q n z rest ≡ false
    by_struct false f = ap (takes_kind q n z) (struct_off q rest f ∙ e)
    by_struct true f = by_path (is_path_form z) refl f

-- an operand, in parentheses or as it stands
unless_path : (b : Bool) (p q : Position) (ts rest : List Token) (x : Tree) → Beside p q ts rest
    → is_path_form (parens_unless b (formed p ts x)) ≡ true → sees (struct_stands q) rest ≡ false
unless_path true p q ts rest x b i = path_behind p q ts rest x b i
unless_path false p q ts rest x b i = absurd (false≢true i)

unless_goes : (b : Bool) (p : Position) (x : Tree) (ts : List Token) → NoneGoesOn p x ts
    → NoneGoesOn p (parens_unless b x) ts
unless_goes true p x ts m = m
unless_goes false p x ts m = tt

pub none : (x : Tree) (p q : Position) (ts rest : List Token) → Beside p q ts rest → back InCondition rest ≡ None
    → NoneGoesOn q (formed p ts x) rest
none (Alone k y) p q ts rest b e = unless_goes (not (takes_what_follows p k ts)) q (Alone k (normal y)) rest tt
none (Front k y x) p q ts rest b e =
    let z : Tree = formed (inside p k) ts x in
    let s : Bool = stays_right p k (normal y) z in
    let c = beside_inside p q ts rest k b in
    unless_goes (begins_in p k) q (Front k (normal y) (parens_unless s z)) rest (
      ends_here (level k) (inside q k) (parens_unless s z) rest e
          (unless_path s (inside p k) (inside q k) ts rest x c),
      unless_goes s (inside q k) z rest (none x (inside p k) (inside q k) ts rest c e),
    )
none (Back l k y) p q ts rest b e =
    unless_goes (stands_in p k && not (takes_what_follows p k ts)) q
    (Back (with_left p k (normal y) (formed p (follow (flat (normal y))) l)) k (normal y)) rest tt
none (Infix l k y r) p q ts rest b e =
    let z : Tree = formed (inside p k) ts r in
    let s : Bool = stays_right p k (normal y) z in
    let c = beside_inside p q ts rest k b in (
      ends_here (level k) (inside q k) (parens_unless s z) rest e
          (unless_path s (inside p k) (inside q k) ts rest r c),
      unless_goes s (inside q k) z rest (none r (inside p k) (inside q k) ts rest c e),
    )
none _ p q ts rest b e = tt

pub whole_ends : (x : Tree) (p q : Position) (ts rest : List Token) → Beside p q ts rest → back InCondition rest ≡ None
    → goes_on q 0 (formed p ts x) rest ≡ false
whole_ends x p q ts rest b e = ends_here 0 q (formed p ts x) rest e (path_behind p q ts rest x b)

-- a whole expression takes every form
level_above : (k : Kind) → takes 0 (level k) ≡ true
unfolding takes level
level_above ExprBreak = refl
level_above _ = refl

pub all_within : (x : Tree) → within 0 x ≡ true
all_within (Back l k y) = ap (λ b. b && within 0 l) (level_above k) ∙ all_within l
all_within (Infix l k y r) = ap (λ b. b && within 0 l) (level_above k) ∙ all_within l
all_within _ = refl

-- Before nothing none goes on.
nothing_struct : (q : Position) → sees (struct_stands q) [] ≡ false
nothing_struct Plain = refl
nothing_struct InCondition = refl
nothing_struct InArm = refl
nothing_struct InStatement = refl

nothing_back : back InCondition [] ≡ None
unfolding back
nothing_back = refl

pub nothing_goes : (n : ℕ) (q : Position) (z : Tree) → goes_on q n z [] ≡ false
nothing_goes n q z = ends_here n q z [] nothing_back (λ i. nothing_struct q)

pub nothing_none : (z : Tree) (q : Position) → NoneGoesOn q z []
nothing_none (Front k y x) q = (nothing_goes (level k) (inside q k) x, nothing_none x (inside q k))
nothing_none (Infix l k y r) q = (nothing_goes (level k) (inside q k) r, nothing_none r (inside q k))
nothing_none _ q = tt
