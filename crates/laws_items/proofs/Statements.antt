-- What stands first of an expression, or of a statement, stays first in normal form, or a parenthesis does.
use Rattle.std.proofs.Common.{◌≡◌, ℕ, List, [], ◌∷◌, ◌++◌, refl, sym, ap, ◌∙◌, subst, append_assoc, inl, inr}
use Rattle.std.specs.Prelude.{◌⊎◌, Bool, true, false, ◌&&◌, not, nat_eq, cond, Option, Some}
use Rattle.proc_macro2.specs.Token.{Token}
use Rattle.syn_grammar.specs.Kind.{Kind, Position, Plain, InStatement, OuterAttributes, OuterAttribute, Expression}
use Rattle.syn_grammar.specs.Kind.{ExprField, ExprMethodCall, ExprAwait, ExprCast, ExprAttributed, AStatement}
use Rattle.syn_grammar.specs.Name.{Part, the_attributes, the_expression, the_indices, the_value}
use Rattle.syn_grammar.specs.Words.{indices, plain_decimal}
use Rattle.syn_grammar.specs.Tree.{Tree, ALiteral, Pair, First, Second, End, Again, Called, Node, Whole, Alone, Front}
use Rattle.syn_grammar.specs.Tree.{Back, Infix, flat}
use Rattle.syn_grammar.specs.Gram.{Gram, seq, alt, called, ref, operand}
use Rattle.syn_grammar.specs.Look.{sees, seen}
use Rattle.syn_grammar.specs.Say.{parenthesis}
use Rattle.syn_grammar.specs.Table.{table}
use Rattle.syn_grammar.specs.Derives.{Derives, Bound}
use Rattle.syn_grammar.specs.Forms.{Case, form, first_form, fronts, front, level, inside}
use Rattle.syn_grammar.specs.Kept.{attributed, is_macro, own_part, is_there, expression_statement}
use Rattle.syn_grammar.specs.Kept.{lone_dot, index_field, index_fields, fields_in_front, last_fields}
use Rattle.syn_grammar.specs.Kept.{dotted_own, dotted}
use Rattle.syn_grammar.specs.Kept.{as_statement, held, kept}
use Rattle.syn_grammar.specs.Parens.{parens_unless, stays_left, with_right, with_left, begins_in}
use Rattle.syn_grammar.specs.Parens.{stands_in, takes_what_follows, follow}
use Rattle.syn_grammar.specs.Normal.{place_of, passed, stands_behind, apart_if, is_enclosed, normal_in, formed}
use Rattle.syn_grammar.proofs.Whole.{and_true}
use Rattle.laws_items.specs.Begins.{first_of}
use Rattle.laws_items.proofs.Fronts.{strong, lead, strong_lead, Same, leads, first_turn}

-- the tokens begin as they did, or with a parenthesis
abbrev pub Starts : List Token → List Token → Type 0
Starts us vs = (first_of us ≡ first_of vs) ⊎ (sees parenthesis vs ≡ true)

-- of an own part by itself
abbrev pub OwnStarts : List Token → Tree → Type 0
OwnStarts us y = (q : Position) (v : List Token) → first_of us ≡ first_of (flat (normal_in q y) ++ v)

abbrev pub AloneStarts : List Token → Tree → Type 0
AloneStarts us (Alone k y) = OwnStarts us y
AloneStarts us _ = Unit {0}

-- an expression that is kept begins as it did, and so does its normal form, or with a parenthesis
abbrev pub FormStarts : List Token → Tree → Type 0
FormStarts us z =
    ((v : List Token) → first_of us ≡ first_of (flat z ++ v))
    × ((p : Position) (ts v : List Token) → Starts us (flat (formed p ts z) ++ v)) × AloneStarts us z

parens_start : (b : Bool) (z : Tree) (us v : List Token) → Starts us (flat z ++ v)
    → Starts us (flat (parens_unless b z) ++ v)
parens_start true z us v h = h
parens_start false z us v h = inr refl

back_starts : (us : List Token) (l : Tree) (k : Kind) (y : Tree) → FormStarts us l → FormStarts us (Back l k y)
back_starts us l k y h = (
  λ v. h.0 (flat y ++ v) ∙ ap first_of (sym (append_assoc (flat l) (flat y) v)),
  λ p ts v.
      let own : Tree = normal_in Plain y in
      let z : Tree = formed p (follow (flat own)) l in
      parens_start (stands_in p k && not (takes_what_follows p k ts)) (Back (with_left p k own z) k own) us v
      (subst (Starts us) (sym (append_assoc (flat (with_left p k own z)) (flat own) v))
      (parens_start (stays_left p k own z) z us (flat own ++ v) (h.1 p (follow (flat own)) (flat own ++ v)))),
  tt,
)

infix_starts : (us : List Token) (l : Tree) (k : Kind) (y r : Tree) → FormStarts us l → FormStarts us (Infix l k y r)
infix_starts us l k y r h = (
  λ v. h.0 ((flat y ++ flat r) ++ v) ∙ ap first_of (sym (append_assoc (flat l) (flat y ++ flat r) v)),
  λ p ts v.
      let own : Tree = normal_in Plain y in
      let z : Tree = formed p (follow (flat own)) l in
      let u : Tree = with_right p k own (formed (inside p k) ts r) in
      subst (Starts us) (sym (append_assoc (flat (with_left p k own z)) (flat own ++ flat u) v))
      (parens_start (stays_left p k own z) z us ((flat own ++ flat u) ++ v)
      (h.1 p (follow (flat own)) ((flat own ++ flat u) ++ v))),
  tt,
)

front_starts : (us : List Token) (k : Kind) (y x : Tree) → ((v : List Token) → first_of us ≡ first_of (flat y ++ v))
    → OwnStarts us y → FormStarts us (Front k y x)
front_starts us k y x f h = (
  λ v. f (flat x ++ v) ∙ ap first_of (sym (append_assoc (flat y) (flat x) v)),
  λ p ts v.
      let own : Tree = normal_in Plain y in
      let z : Tree = with_right p k own (formed (inside p k) ts x) in
      parens_start (begins_in p k) (Front k own z) us v
      (inl (h Plain (flat z ++ v) ∙ ap first_of (sym (append_assoc (flat own) (flat z) v)))),
  tt,
)

alone_starts : (us : List Token) (k : Kind) (y : Tree) → ((v : List Token) → first_of us ≡ first_of (flat y ++ v))
    → OwnStarts us y → FormStarts us (Alone k y)
alone_starts us k y f h = (
  f,
  λ p ts v. parens_start (not (takes_what_follows p k ts)) (Alone k (normal_in Plain y)) us v (inl (h Plain v)),
  h,
)

-- numbers behind dots
fields_start : (us : List Token) (l : Tree) (texts : List (List ℕ)) → FormStarts us l
    → FormStarts us (index_fields l texts)
fields_start us l [] h = h
fields_start us l (cs ∷ texts) h =
    fields_start us (index_field l cs) texts
    (back_starts us l ExprField
    (Pair (Pair lone_dot (Called the_indices End)) (Second (Called the_value (ALiteral (plain_decimal cs))))) h)

in_front_starts : (us : List Token) (l x : Tree) → FormStarts us l → FormStarts us (fields_in_front l x)
in_front_starts us l (Again (ALiteral cs) x) h =
    in_front_starts us (index_fields l (indices cs)) x (fields_start us l (indices cs) h)
in_front_starts us l _ h = h

last_starts : (us : List Token) (l : Tree) (k : Kind) (d x : Tree) → FormStarts us l
    → FormStarts us (last_fields l k d x)
last_starts us l ExprField d (Second (Called the_value (ALiteral cs))) h = fields_start us l (indices cs) h
last_starts us l k d x h = back_starts us l k (Pair (Pair d (Called the_indices End)) x) h

own_dots_start : (us : List Token) (l : Tree) (k : Kind) (y : Tree) → FormStarts us l → FormStarts us (dotted_own l k y)
own_dots_start us l k (Pair (Pair d (Called the_indices x)) y) h =
    last_starts us (fields_in_front l x) k d y (in_front_starts us l x h)
own_dots_start us l k y h = back_starts us l k y h

dotted_starts : (us : List Token) (l : Tree) (k : Kind) (y : Tree) → FormStarts us l → FormStarts us (dotted l k y)
dotted_starts us l ExprField y h = own_dots_start us l ExprField y h
dotted_starts us l ExprMethodCall y h = own_dots_start us l ExprMethodCall y h
dotted_starts us l ExprAwait y h = own_dots_start us l ExprAwait y h
dotted_starts us l k y h = back_starts us l k y h

-- attributes that are given to the leftmost operand
cond_starts : (b : Bool) (us : List Token) (x y : Tree) → FormStarts us x → FormStarts us y → FormStarts us (cond b x y)
cond_starts true us x y h i = h
cond_starts false us x y h i = i

attributed_starts : (us : List Token) (a x : Tree) → ((v : List Token) → first_of us ≡ first_of (flat a ++ v))
    → OwnStarts us a → FormStarts us (attributed a x)
attributed_starts us a (Infix l k y r) f h =
    cond_starts (nat_eq (level k) 3) us (Front ExprAttributed a (Infix l k y r)) (Infix (attributed a l) k y r)
    (front_starts us ExprAttributed a (Infix l k y r) f h) (infix_starts us (attributed a l) k y r
    (attributed_starts us a l f h))
attributed_starts us a (Back l ExprCast y) f h =
    back_starts us (attributed a l) ExprCast y (attributed_starts us a l f h)
attributed_starts us a x f h = front_starts us ExprAttributed a x f h

-- a form that begins is one whose own part begins as it did
abbrev pub all_pass : (Kind → Bool) → List Case → Bool
all_pass q [] = true
all_pass q (form k sight ∷ cases) = q k && all_pass q cases

some_passes : (q : Kind → Bool) (i k : Kind) → Some i ≡ Some k → q i ≡ true → q k ≡ true
some_passes q i k e h = cc

cond_passes : (q : Kind → Bool) (b : Bool) (i : Kind) (o : Option Kind) (k : Kind) → q i ≡ true
    → (o ≡ Some k → q k ≡ true) → cond b (Some i) o ≡ Some k → q k ≡ true
cond_passes q true i o k h f e = some_passes q i k e h
cond_passes q false i o k h f e = f e

pub first_passes : (q : Kind → Bool) (cases : List Case) (ts : List Token) (k : Kind) → all_pass q cases ≡ true
    → first_form cases ts ≡ Some k → q k ≡ true
first_passes q [] ts k a e = cc
first_passes q (form j sight ∷ cases) ts k a e =
    let h = and_true (q j) (all_pass q cases) a in
    cond_passes q (seen (sight ts)) j (first_form cases ts) k h.0 (λ i. first_passes q cases ts k h.1 i) e

front_strong : (p : Position) (ts : List Token) (k : Kind) → front p ts ≡ Some k → strong k ≡ true
unfolding front
front_strong p ts k e = first_passes strong (fronts p) ts k refl e

own_same : (p : Position) (ts : List Token) (k : Kind) (y : Tree) (r u v : List Token) → front p ts ≡ Some k
    → Derives y (table k) r → Same (flat y ++ u) y v
own_same p ts k y r u v e d = leads y (table k) r d true (strong_lead k (front_strong p ts k e)) u v (λ i. cc)

pub bound_starts : (x : Tree) (p : Position) (r : List Token) → Bound p x r → (u : List Token)
    → FormStarts (flat x ++ u) (kept x)
bound_starts (Alone k y) p r d u =
    alone_starts (flat y ++ u) k (kept y) (λ v. (own_same p _ k y r u v d.0 d.1).0)
    (λ q v. (own_same p _ k y r u v d.0 d.1).1 q)
bound_starts (Front k y x) p r d u =
    subst (λ us. FormStarts us (Front k (kept y) (kept x))) (sym (append_assoc (flat y) (flat x) u))
    (front_starts (flat y ++ (flat x ++ u)) k (kept y) (kept x)
    (λ v. (own_same p _ k y (flat x ++ r) (flat x ++ u) v d.0 d.1).0)
    (λ q v. (own_same p _ k y (flat x ++ r) (flat x ++ u) v d.0 d.1).1 q))
bound_starts (Back l k y) p r d u =
    subst (λ us. FormStarts us (dotted (kept l) k (kept y))) (sym (append_assoc (flat l) (flat y) u))
    (dotted_starts (flat l ++ (flat y ++ u)) (kept l) k (kept y) (bound_starts l p (flat y ++ r) d.4 (flat y ++ u)))
bound_starts (Infix l k y z) p r d u =
    subst (λ us. FormStarts us (Infix (kept l) k (kept y) (kept z))) (sym (append_assoc (flat l) (flat y ++ flat z) u))
    (infix_starts (flat l ++ ((flat y ++ flat z) ++ u)) (kept l) k (kept y) (kept z)
    (bound_starts l p (flat y ++ (flat z ++ r)) d.4 ((flat y ++ flat z) ++ u)))
bound_starts _ p r d u = absurd d

-- of what is kept of a statement or an item
abbrev pub TurnStarts : List Token → Tree → Type 0
TurnStarts us z =
    ((v : List Token) → first_of us ≡ first_of (flat z ++ v))
    × ((p : Position) (v : List Token) → Starts us (flat (normal_in p z) ++ v))

cond_turns : (b : Bool) (us : List Token) (x y : Tree) → TurnStarts us (Node AStatement x)
    → TurnStarts us (Node AStatement y) → TurnStarts us (Node AStatement (cond b x y))
cond_turns true us x y h i = h
cond_turns false us x y h i = i

-- an expression without attributes in front
plain_turn : (us : List Token) (z s : Tree) → FormStarts us z
    → TurnStarts us (Node AStatement (Second (Second (Second (Second (Pair (Called the_attributes
    (Node OuterAttributes End)) (Pair (Called the_expression (Node (Expression Plain) (Whole z))) s)))))))
unfolding passed place_of stands_behind
plain_turn us z s h = (
  λ v. h.0 (flat s ++ v) ∙ ap first_of (sym (append_assoc (flat z) (flat s) v)),
  λ p v. subst (Starts us) (sym (append_assoc (flat (formed InStatement [] z)) (flat (normal_in Plain s)) v))
      (h.1 InStatement [] (flat (normal_in Plain s) ++ v)),
)

unattributed_turn : (us : List Token) (z s : Tree) → FormStarts us z
    → TurnStarts us (Node AStatement (expression_statement (Node OuterAttributes End)
    (Node (Expression Plain) (Whole z)) s))
unfolding passed
unattributed_turn us (Alone k y) s h =
    cond_turns (is_macro (Alone k y) && is_there s) us
    (Second (First (Pair (Node OuterAttributes End) (Pair y s))))
    (Second (Second (Second (Second (Pair (Called the_attributes (Node OuterAttributes End))
    (Pair (Called the_expression (Node (Expression Plain) (Whole (Alone k y)))) s)))))) (
      λ v. h.0 (flat s ++ v) ∙ ap first_of (sym (append_assoc (flat y) (flat s) v)),
      λ p v. inl (h.2 Plain (flat (normal_in Plain s) ++ v)
          ∙ ap first_of (sym (append_assoc (flat (normal_in Plain y)) (flat (normal_in Plain s)) v))),
    ) (plain_turn us (Alone k y) s h)
unattributed_turn us z s h = plain_turn us z s h

-- an expression with attributes in front
attributes_stand : (us : List Token) (t b : Tree) → ((v : List Token) → first_of us ≡ first_of (flat t ++ v))
    → (v : List Token) → first_of us ≡ first_of ((flat t ++ flat b) ++ v)
attributes_stand us t b f v = f (flat b ++ v) ∙ ap first_of (sym (append_assoc (flat t) (flat b) v))

attributed_turn : (us : List Token) (t b z s : Tree) → ((v : List Token) → first_of us ≡ first_of (flat t ++ v))
    → OwnStarts us t
    → TurnStarts us (Node AStatement (expression_statement (Node OuterAttributes (Again t b))
    (Node (Expression Plain) (Whole z)) s))
unfolding passed
attributed_turn us t b z s f h =
    let a : Tree = Pair t (Node OuterAttributes b) in
    cond_turns (is_macro z && is_there s) us
    (Second (First (Pair (Node OuterAttributes (Again t b)) (Pair (own_part z) s))))
    (Second (Second (Second (Second (Pair (Called the_attributes (Node OuterAttributes End))
    (Pair (Called the_expression (Node (Expression Plain) (Whole (attributed a z)))) s)))))) (
      λ v. attributes_stand us t b f ((flat (own_part z) ++ flat s) ++ v)
          ∙ ap first_of (sym (append_assoc (flat t ++ flat b) (flat (own_part z) ++ flat s) v)),
      λ p v.
          let e : Bool = is_enclosed b (normal_in Plain b) in
          let w : List Token = flat (normal_in Plain (own_part z)) ++ flat (normal_in Plain s) in
          inl (attributes_stand us (apart_if e (normal_in Plain t)) (normal_in Plain b)
          (λ u. h Plain u ∙ sym (first_turn e (normal_in Plain t) u)) (w ++ v)
          ∙ ap first_of (sym (append_assoc (flat (apart_if e (normal_in Plain t)) ++ flat (normal_in Plain b)) w v))),
    )
    (plain_turn us (attributed a z) s (attributed_starts us a z (attributes_stand us t b f)
    (λ q v. attributes_stand us (normal_in q t) (normal_in Plain b) (h q) v)))

-- an entry's parts
pub alt_case : (F : Tree → Type 0) (x : Tree) (t : List Token → Bool) (g h : Gram) (r : List Token)
    → Derives x (alt t g h) r → ((y : Tree) → Derives y g r → F (First y)) → ((y : Tree) → Derives y h r → F (Second y))
    → F x
alt_case F (First x) t g h r d a b = a x d.1
alt_case F (Second x) t g h r d a b = b x d.1
alt_case F _ t g h r d a b = absurd d

pub seq_case : (F : Tree → Type 0) (x : Tree) (g h : Gram) (r : List Token) → Derives x (seq g h) r
    → ((y z : Tree) → Derives y g (flat z ++ r) → Derives z h r → F (Pair y z)) → F x
seq_case F (Pair x y) g h r d a = a x y d.0 d.1
seq_case F _ g h r d a = absurd d

pub called_case : (F : Tree → Type 0) (x : Tree) (n : Part) (g : Gram) (r : List Token) → Derives x (called n g) r
    → ((y : Tree) → Derives y g r → F (Called n y)) → F x
called_case F (Called m x) n g r d a = subst (λ i. F (Called i x)) (sym d.0) (a x d.1)
called_case F _ n g r d a = absurd d

pub node_case : (F : Tree → Type 0) (x : Tree) (k : Kind) (r : List Token) → Derives x (ref k) r
    → ((y : Tree) → Derives y (table k) r → F (Node k y)) → F x
node_case F (Node j x) k r d a =
    subst (λ i. F (Node i x)) (sym d.0) (a x (subst (λ i. Derives x (table i) r) d.0 d.1))
node_case F _ k r d a = absurd d

operand_case : (F : Tree → Type 0) (x : Tree) (p : Position) (n : ℕ) (r : List Token) → Derives x (operand p n) r
    → ((y : Tree) → Bound p y r → F (Whole y)) → F x
operand_case F (Whole x) p n r d a = a x d.1
operand_case F _ p n r d a = absurd d

-- one that is read as its entry says
pub same_turn : (x : Tree) (g : Gram) (r u : List Token) → lead true g ≡ true → Derives x g r
    → TurnStarts (flat x ++ u) (kept x)
same_turn x g r u l d =
    (λ v. (leads x g r d true l u v (λ i. cc)).0, λ p v. inl ((leads x g r d true l u v (λ i. cc)).1 p))

expression_turn : (a f s : Tree) (q r u : List Token) → Derives a (table OuterAttributes) q → Bound InStatement f r
    → TurnStarts ((flat a ++ (flat f ++ flat s)) ++ u) (Node AStatement (expression_statement
    (Node OuterAttributes (kept a)) (Node (Expression Plain) (Whole (kept f))) (kept s)))
unfolding table
expression_turn End f s q r u c d =
    subst (λ us. TurnStarts us (Node AStatement (expression_statement (Node OuterAttributes End)
    (Node (Expression Plain) (Whole (kept f))) (kept s)))) (sym (append_assoc (flat f) (flat s) u))
    (unattributed_turn (flat f ++ (flat s ++ u)) (kept f) (kept s) (bound_starts f InStatement r d (flat s ++ u)))
expression_turn (Again t b) f s q r u c d =
    let w : List Token = flat f ++ flat s in
    let e = append_assoc (flat t ++ flat b) w u ∙ append_assoc (flat t) (flat b) (w ++ u) in
    let h : (v : List Token) → Same (flat t ++ (flat b ++ (w ++ u))) t v =
    λ v. leads t (ref OuterAttribute) (flat b ++ q) c.1 true refl (flat b ++ (w ++ u)) v (λ i. cc) in
    subst (λ us. TurnStarts us (Node AStatement (expression_statement (Node OuterAttributes (Again (kept t) (kept b)))
    (Node (Expression Plain) (Whole (kept f))) (kept s)))) (sym e)
    (attributed_turn (flat t ++ (flat b ++ (w ++ u))) (kept t) (kept b) (kept f) (kept s) (λ v. (h v).0)
    (λ p v. (h v).1 p))
expression_turn _ f s q r u c d = absurd c

abbrev StatementStarts : List Token → Tree → Type 0
StatementStarts u x = TurnStarts (flat x ++ u) (Node AStatement (as_statement (kept x)))

statement_starts : (x : Tree) (r u : List Token) → Derives x (table AStatement) r → StatementStarts u x
unfolding table held passed
statement_starts x r u d =
    alt_case (StatementStarts u) x _ _ _ r d
    (λ y c. let h = same_turn y _ r u refl c in (h.0, λ p v. h.1 Plain v))
    (λ x1 d1. alt_case (λ y. StatementStarts u (Second y)) x1 _ _ _ r d1
    (λ y c. let h = same_turn y _ r u refl c in (h.0, λ p v. h.1 Plain v))
    (λ x2 d2. alt_case (λ y. StatementStarts u (Second (Second y))) x2 _ _ _ r d2
    (λ y c. let h = same_turn y _ r u refl c in (h.0, λ p v. h.1 Plain v))
    (λ x3 d3. alt_case (λ y. StatementStarts u (Second (Second (Second y)))) x3 _ _ _ r d3
    (λ y c. let h = same_turn y _ r u refl c in (h.0, λ p v. h.1 Plain v))
    (λ x4 d4. seq_case (λ y. StatementStarts u (Second (Second (Second (Second y))))) x4 _ _ r d4
    (λ a b c e. called_case (λ y. StatementStarts u (Second (Second (Second (Second (Pair y b)))))) a _ _ _ c
    (λ a1 c1. seq_case (λ y. StatementStarts u (Second (Second (Second (Second
    (Pair (Called the_attributes a1) y)))))) b
    _ _ r e
    (λ f s i j. called_case (λ y. StatementStarts u (Second (Second (Second (Second
    (Pair (Called the_attributes a1) (Pair y s))))))) f _ _ _ i
    (λ f1 i1. node_case (λ y. StatementStarts u (Second (Second (Second (Second
    (Pair (Called the_attributes y) (Pair (Called the_expression f1) s))))))) a1 OuterAttributes _ c1
    (λ a2 c2. node_case (λ y. StatementStarts u (Second (Second (Second (Second
    (Pair (Called the_attributes (Node OuterAttributes a2)) (Pair (Called the_expression y) s))))))) f1
    (Expression InStatement) _ i1
    (λ f2 i2. operand_case (λ y. StatementStarts u (Second (Second (Second (Second
    (Pair (Called the_attributes (Node OuterAttributes a2))
    (Pair (Called the_expression (Node (Expression InStatement) y)) s))))))) f2 InStatement 0 _ i2
    (λ f3 i3. expression_turn a2 f3 s _ _ u c2 i3)))))))))))

pub turn_starts : (x : Tree) (r u : List Token) → Derives x (ref AStatement) r → TurnStarts (flat x ++ u) (kept x)
unfolding held
turn_starts x r u d =
    node_case (λ y. TurnStarts (flat y ++ u) (kept y)) x AStatement r d (λ y c. statement_starts y r u c)
