-- What binds an expression, in two parts: its own parts, which tokens decide, and its operands, which levels decide.
use Rattle.std.proofs.Common.{◌≡◌, List, ◌++◌, refl, sym, ap, ◌∙◌}
use Rattle.std.specs.Prelude.{Bool, true, false, not, ◌||◌, Some}
use Rattle.std.proofs.lemmas.Bool.{false≢true}
use Rattle.proc_macro2.specs.Token.{Token}
use Rattle.syn_grammar.specs.Kind.{Kind, Position, Plain, InCondition, InArm, InStatement, ExprStruct, ExprPath}
use Rattle.syn_grammar.specs.Tree.{Tree, Alone, Front, Back, Infix, flat}
use Rattle.syn_grammar.specs.Forms.{back, level, inside, takes_kind, stands_left, is_path_form}
use Rattle.syn_grammar.specs.Forms.{ends_there, chains}
use Rattle.syn_grammar.specs.Parens.{is_struct}
use Rattle.syn_grammar.specs.Derives.{Bound, IsLeft}
use Rattle.syn_grammar.proofs.Whole.{and_true}
use Rattle.laws_binding.specs.Meets.{NoneGoesOn, LeftMeets, Meets}
use Rattle.laws_binding.specs.Spelled.{Spelled}
use Rattle.laws_binding.proofs.Sights.{back_same, starts_plain}

-- before the braces of a struct
path_ends : (p : Position) (y : Tree) → ends_there p (Alone ExprPath y) ≡ false
path_ends Plain y = refl
path_ends InCondition y = refl
path_ends InArm y = refl
path_ends InStatement y = refl

path_left : (p : Position) (k : Kind) (l : Tree) → is_struct k ≡ true → is_path_form l ≡ true → IsLeft p l k
unfolding stands_left chains level
path_left p ExprStruct (Alone ExprPath y) s i = (ap (λ b. not b || false) (path_ends p y), refl)
path_left p ExprStruct (Alone _ y) s i = absurd (false≢true i)
path_left p ExprStruct _ s i = absurd (false≢true i)
path_left p _ l s i = absurd (false≢true s)

path_goes : (p : Position) (l : Tree) (ts : List Token) → is_path_form l ≡ true → NoneGoesOn p l ts
path_goes p (Alone k y) ts i = tt
path_goes p (Back l k y) ts i = tt
path_goes p (Front k y x) ts i = cc
path_goes p (Infix l k y r) ts i = cc
path_goes p _ ts i = tt

struct_left : (p : Position) (k : Kind) (l : Tree) → is_struct k ≡ true → IsLeft p l k → is_path_form l ≡ true
unfolding stands_left
struct_left p ExprStruct l s i = (and_true (is_path_form l) _ i.0).0
struct_left p _ l s i = absurd (false≢true s)

-- what stands left of a form
record Left (p : Position) (l : Tree) (k : Kind) (ts : List Token) : Type 0 where
  left : IsLeft p l k
  goes : NoneGoesOn p l ts

left_is : (p : Position) (l : Tree) (k : Kind) (ts : List Token) → back p ts ≡ Some k → LeftMeets p l k
    → (is_struct k ≡ true → is_path_form l ≡ true) → Left p l k ts
left_is p l k ts e m h = go (is_struct k) refl
  where
    go : (b : Bool) → is_struct k ≡ b → Left p l k ts
    go true s = record { left = path_left p k l s (h s); goes = path_goes p l ts (h s) }
    go false s = record { left = (m s).0; goes = (m s).1 ts e }

pub bound : (x : Tree) (p : Position) (rest : List Token) → Meets p x → Spelled p x rest → NoneGoesOn p x rest
    → Bound p x rest
bound (Alone k y) p rest m s n = (s.0, s.1, s.2)
bound (Front k y x) p rest m s n = (s.0, s.1, s.2, (m.0, n.0), bound x (inside p k) rest m.1 s.3 n.1)
bound (Back l k y) p rest m s n =
    let a = left_is p l k _ s.0 m.0 s.3 in
    (s.0, s.1, s.2, a.left, bound l p (flat y ++ rest) m.1 s.4 a.goes)
bound (Infix l k y r) p rest m s n =
    let a = left_is p l k _ s.0 m.0 s.3 in (
      s.0,
      s.1,
      s.2,
      a.left,
      bound l p (flat y ++ (flat r ++ rest)) m.1 s.4 a.goes,
      (m.2, n.0),
      bound r (inside p k) rest m.3 s.5 n.1,
    )
bound _ p rest m s n = elim s [ ]

-- and back
same_goes : (k : Kind) (ts us : List Token) (l : Tree) (p : Position) → is_struct k ≡ false → back p ts ≡ Some k
    → back p us ≡ Some k → NoneGoesOn p l ts → NoneGoesOn p l us
same_goes k ts us (Front j y x) p s e f n =
    let a : back (inside p j) ts ≡ Some k = back_same (inside p j) p ts (starts_plain p ts k e s) ∙ e in
    let b : back (inside p j) us ≡ Some k = back_same (inside p j) p us (starts_plain p us k f s) ∙ f in
    (ap (takes_kind (inside p j) (level j) x) (b ∙ sym a) ∙ n.0, same_goes k ts us x (inside p j) s a b n.1)
same_goes k ts us (Infix l j y r) p s e f n =
    let a : back (inside p j) ts ≡ Some k = back_same (inside p j) p ts (starts_plain p ts k e s) ∙ e in
    let b : back (inside p j) us ≡ Some k = back_same (inside p j) p us (starts_plain p us k f s) ∙ f in
    (ap (takes_kind (inside p j) (level j) r) (b ∙ sym a) ∙ n.0, same_goes k ts us r (inside p j) s a b n.1)
same_goes k ts us _ p s e f n = tt

record Parted (p : Position) (x : Tree) (rest : List Token) : Type 0 where
  meets : Meets p x
  spelled : Spelled p x rest

edge : (x : Tree) (p : Position) (rest : List Token) → Bound p x rest → NoneGoesOn p x rest
edge (Alone k y) p rest d = tt
edge (Front k y x) p rest d = (d.3.1, edge x (inside p k) rest d.4)
edge (Back l k y) p rest d = tt
edge (Infix l k y r) p rest d = (d.5.1, edge r (inside p k) rest d.6)
edge _ p rest d = elim d [ ]

left_of : (p : Position) (l : Tree) (k : Kind) (ts : List Token) → back p ts ≡ Some k → IsLeft p l k → NoneGoesOn p l ts
    → LeftMeets p l k
left_of p l k ts e i n s = (i, λ us f. same_goes k ts us l p s e f n)

parted : (x : Tree) (p : Position) (rest : List Token) → Bound p x rest → Parted p x rest
parted (Alone k y) p rest d = record { meets = tt; spelled = (d.0, d.1, d.2) }
parted (Front k y x) p rest d =
    let a = parted x (inside p k) rest d.4 in
    record { meets = (d.3.0, a.meets); spelled = (d.0, d.1, d.2, a.spelled) }
parted (Back l k y) p rest d =
    let a = parted l p (flat y ++ rest) d.4 in
    record {
      meets = (left_of p l k _ d.0 d.3 (edge l p _ d.4), a.meets);
      spelled = (d.0, d.1, d.2, λ s. struct_left p k l s d.3, a.spelled);
    }
parted (Infix l k y r) p rest d =
    let a = parted l p (flat y ++ (flat r ++ rest)) d.4 in
    let b = parted r (inside p k) rest d.6 in
    record {
      meets = (left_of p l k _ d.0 d.3 (edge l p _ d.4), a.meets, d.5.0, b.meets);
      spelled = (d.0, d.1, d.2, λ s. struct_left p k l s d.3, a.spelled, b.spelled);
    }
parted _ p rest d = elim d [ ]

pub in_parts : (x : Tree) (p : Position) (rest : List Token) → Bound p x rest
    → Meets p x × Spelled p x rest × NoneGoesOn p x rest
in_parts x p rest d = let a = parted x p rest d in (a.meets, a.spelled, edge x p rest d)
