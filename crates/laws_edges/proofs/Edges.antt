-- The conditions of the grammar are those of edges.
use Rattle.std.proofs.Common.{◌≡◌, List, ◌++◌, refl, sym, ap, ◌∙◌}
use Rattle.std.specs.Prelude.{Bool, true, false, not, ◌&&◌, Option, Some, None}
use Rattle.std.specs.List.{list_all}
use Rattle.std.proofs.lemmas.Bool.{false≢true, and_from}
use Rattle.proc_macro2.specs.Token.{Token}
use Rattle.syn_grammar.specs.Kind.{Kind, Position, Expression, ExprStruct, ExprBreak}
use Rattle.syn_grammar.specs.Tree.{Tree, Node, Whole, Alone, Front, Back, Infix, flat}
use Rattle.syn_grammar.specs.Gram.{ref}
use Rattle.syn_grammar.specs.Table.{table}
use Rattle.syn_grammar.specs.Forms.{back, level, inside, takes, takes_kind, stands_left, goes_on, within}
use Rattle.syn_grammar.specs.Parens.{is_struct}
use Rattle.syn_grammar.specs.Derives.{Derives, Bound, IsLeft}
use Rattle.syn_grammar.proofs.Whole.{and_true}
use Rattle.laws_binding.specs.Meets.{NoneGoesOn}
use Rattle.laws_binding.specs.Spelled.{Spelled}
use Rattle.laws_binding.proofs.Sights.{backs_are, back_same, starts_plain}
use Rattle.laws_binding.proofs.Parted.{in_parts}
use Rattle.laws_edges.specs.Classes.{is_path}
use Rattle.laws_edges.specs.Edges.{Ending, ending, left_edge, right_edge}
use Rattle.laws_edges.specs.Binds.{takes_in, may_go_on, has_ended, IsLeftOperand, Binds, is_over, is_over_at}
use Rattle.laws_edges.specs.Binds.{EndsBefore, goes_no_further, IsExpression}
use Rattle.laws_edges.proofs.Classes.{takes_same, goes_same, chains_same}

not_false : (b : Bool) → b ≡ false → not b ≡ true
not_false b e = ap not e

is_false : (b : Bool) → not b ≡ true → b ≡ false
is_false true e = cc
is_false false e = refl

-- left edges
within_same : (j : Kind) (x : Tree) → list_all (takes_in j) (left_edge x) ≡ within (level j) x
within_same j (Back l k y) =
    ap (λ t. t && list_all (takes_in j) (left_edge l)) (takes_same j k)
    ∙ ap (λ w. takes (level j) (level k) && w) (within_same j l)
within_same j (Infix l k y r) =
    ap (λ t. t && list_all (takes_in j) (left_edge l)) (takes_same j k)
    ∙ ap (λ w. takes (level j) (level k) && w) (within_same j l)
within_same j _ = refl

-- an operand on the right edge, before a form
ended_same : (k j : Kind) (q : Position) (x : Tree) (rest ts : List Token) → Spelled q x rest
    → back q ts ≡ Some k → has_ended k (ending j q x) ≡ not (takes_kind q (level j) x (Some k))
ended_same k j q x rest ts s e =
    ap not
    (ap (λ t. t && may_go_on q x k) (takes_same j k)
    ∙ ap (λ m. takes (level j) (level k) && m) (goes_same k x q q rest (backs_are q k ts e) s))

over_same : (q : Position) (j : Kind) (x : Tree) (rest ts : List Token) → Spelled q x rest
    → is_over_at ts (ending j q x) ≡ not (goes_on q (level j) x ts)
over_same q j x rest ts s = go (back q ts) refl
  where
    go : (o : Option Kind) → back q ts ≡ o → is_over o (ending j q x) ≡ not (takes_kind q (level j) x o)
    go None e = refl
    go (Some k) e = ended_same k j q x rest ts s e

over_to : (x : Tree) (p : Position) (rest ts : List Token) → Spelled p x rest → NoneGoesOn p x ts → EndsBefore p x ts
over_to (Front k y x) p rest ts s n =
    and_from _ _ (over_same (inside p k) k x rest ts s.3 ∙ not_false _ n.0) (over_to x (inside p k) rest ts s.3 n.1)
over_to (Infix l k y r) p rest ts s n =
    and_from _ _ (over_same (inside p k) k r rest ts s.5 ∙ not_false _ n.0) (over_to r (inside p k) rest ts s.5 n.1)
over_to _ p rest ts s n = refl

-- before the form that is seen there, operands have ended exactly if they have before the tokens
there : (p : Position) (j k : Kind) (ts : List Token) → back p ts ≡ Some k → is_struct k ≡ false
    → back (inside p j) ts ≡ Some k
there p j k ts e i = back_same (inside p j) p ts (starts_plain p ts k e i) ∙ e

all_to : (x : Tree) (p : Position) (ts : List Token) (k : Kind) → back p ts ≡ Some k → is_struct k ≡ false
    → EndsBefore p x ts → list_all (has_ended k) (right_edge p x) ≡ true
all_to (Front j y x) p ts k e i h =
    let a = there p j k ts e i in
    let b = and_true (is_over_at ts (ending j (inside p j) x)) _ h in
    and_from _ _ (ap (λ o. is_over o (ending j (inside p j) x)) (sym a) ∙ b.0) (all_to x (inside p j) ts k a i b.1)
all_to (Infix l j y r) p ts k e i h =
    let a = there p j k ts e i in
    let b = and_true (is_over_at ts (ending j (inside p j) r)) _ h in
    and_from _ _ (ap (λ o. is_over o (ending j (inside p j) r)) (sym a) ∙ b.0) (all_to r (inside p j) ts k a i b.1)
all_to _ p ts k e i h = refl

all_from : (x : Tree) (p : Position) (ts : List Token) (k : Kind) → back p ts ≡ Some k → is_struct k ≡ false
    → list_all (has_ended k) (right_edge p x) ≡ true → EndsBefore p x ts
all_from (Front j y x) p ts k e i h =
    let a = there p j k ts e i in
    let b = and_true (has_ended k (ending j (inside p j) x)) _ h in
    and_from _ _ (ap (λ o. is_over o (ending j (inside p j) x)) a ∙ b.0) (all_from x (inside p j) ts k a i b.1)
all_from (Infix l j y r) p ts k e i h =
    let a = there p j k ts e i in
    let b = and_true (has_ended k (ending j (inside p j) r)) _ h in
    and_from _ _ (ap (λ o. is_over o (ending j (inside p j) r)) a ∙ b.0) (all_from r (inside p j) ts k a i b.1)
all_from _ p ts k e i h = refl

-- on the right edge of a path, before the braces of a struct, no operand stands
struct_path : (p : Position) (l : Tree) (k : Kind) → is_struct k ≡ true → may_go_on p l k ≡ true → is_path l ≡ true
struct_path p l ExprStruct i h = (and_true (is_path l) _ h).0
struct_path p l _ i h = absurd (false≢true i)

path_edge : (p : Position) (l : Tree) (passes : Ending → Bool) → is_path l ≡ true → list_all passes (right_edge p l)
    ≡ true
path_edge p (Front k y x) passes i = absurd (false≢true i)
path_edge p (Infix l k y r) passes i = absurd (false≢true i)
path_edge p _ passes i = refl

-- left operands
left_to : (p : Position) (l : Tree) (k : Kind) (ts : List Token) → back p ts ≡ Some k → Spelled p l ts
    → EndsBefore p l ts → IsLeft p l k → IsLeftOperand p l k
left_to p l k ts e s n i = (goes, chains_same l k ∙ i.1, all (is_struct k) refl)
  where
    goes : may_go_on p l k ≡ true
    goes = goes_same k l p p ts (backs_are p k ts e) s ∙ i.0

    all : (b : Bool) → is_struct k ≡ b → list_all (has_ended k) (right_edge p l) ≡ true
    all true h = path_edge p l (has_ended k) (struct_path p l k h goes)
    all false h = all_to l p ts k e h n

left_from : (p : Position) (l : Tree) (k : Kind) (ts : List Token) → back p ts ≡ Some k → Spelled p l ts
    → IsLeftOperand p l k → IsLeft p l k
left_from p l k ts e s a = (sym (goes_same k l p p ts (backs_are p k ts e) s) ∙ a.0, sym (chains_same l k) ∙ a.1)

left_ends : (p : Position) (l : Tree) (k : Kind) (ts : List Token) → back p ts ≡ Some k → IsLeftOperand p l k
    → EndsBefore p l ts
left_ends p l k ts e a = go (is_struct k) refl
  where
    go : (b : Bool) → is_struct k ≡ b → EndsBefore p l ts
    go true h = path_edge p l (is_over_at ts) (struct_path p l k h a.0)
    go false h = all_from l p ts k e h a.2

-- the laws
record Parts (p : Position) (x : Tree) (rest : List Token) : Type 0 where
  spelled : Spelled p x rest
  ends : EndsBefore p x rest

parts : (x : Tree) (p : Position) (rest : List Token) → Bound p x rest → Parts p x rest
parts x p rest d =
    let a = in_parts x p rest d in record { spelled = a.1; ends = over_to x p rest rest a.1 a.2 }

binds : (x : Tree) (p : Position) (rest : List Token) → Bound p x rest → Binds p x
binds (Front k y x) p rest d = (within_same k x ∙ d.3.0, binds x (inside p k) rest d.4)
binds (Back l k y) p rest d =
    let a = parts l p (flat y ++ rest) d.4 in
    (left_to p l k _ d.0 a.spelled a.ends d.3, binds l p (flat y ++ rest) d.4)
binds (Infix l k y r) p rest d =
    let a = parts l p (flat y ++ (flat r ++ rest)) d.4 in (
      left_to p l k _ d.0 a.spelled a.ends d.3,
      binds l p (flat y ++ (flat r ++ rest)) d.4,
      within_same k r ∙ d.5.0,
      binds r (inside p k) rest d.6,
    )
binds _ p rest d = tt

pub to_edges : (x : Tree) (p : Position) (rest : List Token) → Bound p x rest
    → Spelled p x rest × Binds p x × EndsBefore p x rest
to_edges x p rest d = let a = parts x p rest d in (a.spelled, binds x p rest d, a.ends)

pub from_edges : (x : Tree) (p : Position) (rest : List Token) → Spelled p x rest → Binds p x → EndsBefore p x rest
    → Bound p x rest
from_edges (Alone k y) p rest s b h = (s.0, s.1, s.2)
from_edges (Front k y x) p rest s b h =
    let e = and_true (is_over_at rest (ending k (inside p k) x)) _ h in (
      s.0,
      s.1,
      s.2,
      (
        sym (within_same k x) ∙ b.0,
        is_false _ (sym (over_same (inside p k) k x rest rest s.3) ∙ e.0),
      ),
      from_edges x (inside p k) rest s.3 b.1 e.1,
    )
from_edges (Back l k y) p rest s b h = (
  s.0,
  s.1,
  s.2,
  left_from p l k _ s.0 s.4 b.0,
  from_edges l p (flat y ++ rest) s.4 b.1 (left_ends p l k _ s.0 b.0),
)
from_edges (Infix l k y r) p rest s b h =
    let e = and_true (is_over_at rest (ending k (inside p k) r)) _ h in (
      s.0,
      s.1,
      s.2,
      left_from p l k _ s.0 s.4 b.0,
      from_edges l p (flat y ++ (flat r ++ rest)) s.4 b.1 (left_ends p l k _ s.0 b.0),
      (
        sym (within_same k r) ∙ b.2,
        is_false _ (sym (over_same (inside p k) k r rest rest s.5) ∙ e.0),
      ),
      from_edges r (inside p k) rest s.5 b.3 e.1,
    )
from_edges _ p rest s b h = elim s [ ]

-- whole expressions
level_some : (k : Kind) → takes 0 (level k) ≡ true
unfolding takes level
level_some ExprBreak = refl
level_some _ = refl

within_zero : (x : Tree) → within 0 x ≡ true
within_zero (Back l k y) = and_from _ _ (level_some k) (within_zero l)
within_zero (Infix l k y r) = and_from _ _ (level_some k) (within_zero l)
within_zero _ = refl

further_same : (p : Position) (x : Tree) (rest : List Token) → Spelled p x rest
    → goes_no_further p x (back p rest) ≡ not (goes_on p 0 x rest)
further_same p x rest s = go (back p rest) refl
  where
    go : (o : Option Kind) → back p rest ≡ o → goes_no_further p x o ≡ not (takes_kind p 0 x o)
    go None e = refl
    go (Some k) e =
        ap not
        (goes_same k x p p rest (backs_are p k rest e) s ∙ ap (λ t. t && stands_left p x k) (sym (level_some k)))

pub to_expression : (p : Position) (x : Tree) (rest : List Token)
    → Derives (Node (Expression p) (Whole x)) (ref (Expression p)) rest → IsExpression p x rest
unfolding table
to_expression p x rest d =
    let a = to_edges x p rest d.1.1 in
    (a.0, a.1, a.2, further_same p x rest a.0 ∙ not_false _ d.1.0.1)

pub from_expression : (p : Position) (x : Tree) (rest : List Token) → IsExpression p x rest
    → Derives (Node (Expression p) (Whole x)) (ref (Expression p)) rest
unfolding table
from_expression p x rest d =
    (refl, ((within_zero x, is_false _ (sym (further_same p x rest d.0) ∙ d.3)), from_edges x p rest d.0 d.1 d.2))
