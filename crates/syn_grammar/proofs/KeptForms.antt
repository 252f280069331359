-- What a syntax tree holds is what it holds: of what is kept, all is kept, and of its normal form too.
use Rattle.std.proofs.Common.{◌≡◌, ℕ, List, [], ◌∷◌, refl, ap, ◌∙◌}
use Rattle.std.specs.Prelude.{Bool, true, false, ◌&&◌, cond, nat_eq}
use Rattle.rust_leaf.specs.declared.punct.Spacing.TheVariants.{Alone as Apart}
use Rattle.syn_grammar.specs.Kind.{Kind, Path, Segments, Segment, QualifiedPath, AnyPath, AType, DynType, ImplType}
use Rattle.syn_grammar.specs.Kind.{ReturnType, Expression, Signature, Parameter, AStatement, Meta, Member, Index, Arm}
use Rattle.syn_grammar.specs.Kind.{AnArgument, ConstParam, Body, OuterAttributes, ExprField, ExprMethodCall, ExprAwait}
use Rattle.syn_grammar.specs.Kind.{ExprCast, ExprAttributed}
use Rattle.syn_grammar.specs.Name.{Part, same_part, the_unnamed, the_attributes, the_expression, the_indices, the_value}
use Rattle.syn_grammar.specs.Name.{the_comma}
use Rattle.syn_grammar.specs.Words.{indices, plain_decimal}
use Rattle.syn_grammar.specs.Tree.{Tree, AWord, ALiteral, AMark, ALifetime, Raw, Nil, Pair, First, Second, End, Again}
use Rattle.syn_grammar.specs.Tree.{Final, More, Group, Dropped, Called, Verbatim, Hidden, Node, Whole, Alone, Front}
use Rattle.syn_grammar.specs.Tree.{Back, Infix}
use Rattle.syn_grammar.specs.Part.{changed}
use Rattle.syn_grammar.specs.Forms.{level, form_of}
use Rattle.syn_grammar.specs.Kept.{wild, lone_dot, named, listed_bound, unsafe_path, attributed, attributed_in, given}
use Rattle.syn_grammar.specs.Kept.{left_in_front, is_macro, own_part, is_there, as_statement, plain_index, plain_member}
use Rattle.syn_grammar.specs.Kept.{not_last, constant_argument, constant_default, index_field, index_fields}
use Rattle.syn_grammar.specs.Kept.{fields_in_front, last_fields, dotted_own, dotted, forget, held, kept}
use Rattle.syn_grammar.proofs.TidyTwice.{changed_twice}
use Rattle.syn_grammar.proofs.Decimals.{decimal_twice, one_index}

-- a kind is held as it is held
held_twice : (k : Kind) → held (held k) ≡ held k
unfolding held
held_twice (Path s) = refl
held_twice (Segments s) = refl
held_twice (Segment s) = refl
held_twice (QualifiedPath s) = refl
held_twice (AnyPath s) = refl
held_twice (AType p) = refl
held_twice (DynType p) = refl
held_twice (ImplType p) = refl
held_twice (ReturnType p) = refl
held_twice (Expression p) = refl
held_twice (Signature p) = refl
held_twice _ = refl

forget_held : (k : Kind) (x : Tree) → forget (held k) x ≡ forget k x
unfolding held
forget_held (Path s) x = refl
forget_held (Segments s) x = refl
forget_held (Segment s) x = refl
forget_held (QualifiedPath s) x = refl
forget_held (AnyPath s) x = refl
forget_held (AType p) x = refl
forget_held (DynType p) x = refl
forget_held (ImplType p) x = refl
forget_held (ReturnType p) x = refl
forget_held (Expression p) x = refl
forget_held (Signature p) x = refl
forget_held _ x = refl

-- nothing is split behind any left operand
unfoldable pub IsUnsplit : Kind → Tree → Type 0
IsUnsplit k y = (l : Tree) → dotted l k y ≡ Back l k y

-- what a syntax tree holds
unfoldable pub KeptForm : Tree → Type 0
KeptForm (AMark c cs spacing) = Apart ≡ spacing
KeptForm (Pair x y) = KeptForm x × KeptForm y
KeptForm (First x) = KeptForm x
KeptForm (Second x) = KeptForm x
KeptForm (Again x y) = KeptForm x × KeptForm y
KeptForm (Final x) = KeptForm x
KeptForm (More x c spacing y) = KeptForm x × (Apart ≡ spacing) × KeptForm y
KeptForm (Group d x) = KeptForm x
KeptForm (Dropped x) = ⊥
KeptForm (Called n x) = KeptForm x
KeptForm (Verbatim x) = ⊥
KeptForm (Hidden x) = KeptForm x
KeptForm (Node k x) = (held k ≡ k) × (forget k x ≡ x) × KeptForm x
KeptForm (Whole x) = KeptForm x
KeptForm (Alone k y) = KeptForm y
KeptForm (Front k y x) = KeptForm y × KeptForm x
KeptForm (Back l k y) = IsUnsplit k y × KeptForm l × KeptForm y
KeptForm (Infix l k y r) = KeptForm l × KeptForm y × KeptForm r
KeptForm _ = Unit {0}

-- all of it is kept
pub all_kept : (x : Tree) → KeptForm x → kept x ≡ x
unfolding KeptForm IsUnsplit
all_kept (AWord cs) h = refl
all_kept (ALiteral cs) h = refl
all_kept (AMark c cs spacing) h = ap (AMark c cs) h
all_kept (ALifetime cs) h = refl
all_kept (Raw ts) h = refl
all_kept Nil h = refl
all_kept (Pair x y) h = ap (λ z. Pair z (kept y)) (all_kept x h.0) ∙ ap (Pair x) (all_kept y h.1)
all_kept (First x) h = ap First (all_kept x h)
all_kept (Second x) h = ap Second (all_kept x h)
all_kept End h = refl
all_kept (Again x y) h = ap (λ z. Again z (kept y)) (all_kept x h.0) ∙ ap (Again x) (all_kept y h.1)
all_kept (Final x) h = ap Final (all_kept x h)
all_kept (More x c spacing y) h = ap (λ z. More z c Apart (kept y)) (all_kept x h.0) ∙ ap (λ s. More x c s (kept y)) h.1
    ∙ ap (More x c spacing) (all_kept y h.2)
all_kept (Group d x) h = ap (Group d) (all_kept x h)
all_kept (Dropped x) h = absurd h
all_kept (Called n x) h = ap (Called n) (all_kept x h)
all_kept (Verbatim x) h = absurd h
all_kept (Hidden x) h = ap Hidden (all_kept x h)
all_kept (Node k x) h = ap (λ z. Node (held k) (forget k z)) (all_kept x h.2) ∙ ap (λ j. Node j (forget k x)) h.0
    ∙ ap (Node k) h.1
all_kept (Whole x) h = ap Whole (all_kept x h)
all_kept (Alone k y) h = ap (Alone k) (all_kept y h)
all_kept (Front k y x) h = ap (λ z. Front k z (kept x)) (all_kept y h.0) ∙ ap (Front k y) (all_kept x h.1)
all_kept (Back l k y) h = ap (λ z. dotted z k (kept y)) (all_kept l h.1) ∙ ap (dotted l k) (all_kept y h.2) ∙ h.0 l
all_kept (Infix l k y r) h =
    ap (λ z. Infix z k (kept y) (kept r)) (all_kept l h.0) ∙ ap (λ z. Infix l k z (kept r)) (all_kept y h.1)
    ∙ ap (Infix l k y) (all_kept r h.2)

pub form_cond : (b : Bool) (x y : Tree) → KeptForm x → KeptForm y → KeptForm (cond b x y)
form_cond true x y h i = h
form_cond false x y h i = i

-- the form of what a kind holds

index_twice : (x : Tree) → plain_index (plain_index x) ≡ plain_index x
index_twice (ALiteral cs) = ap ALiteral (decimal_twice cs)
index_twice _ = refl

index_form : (x : Tree) → KeptForm x → KeptForm (plain_index x)
unfolding KeptForm
index_form (ALiteral cs) h = tt
index_form _ h = h

member_twice : (x : Tree) → plain_member (plain_member x) ≡ plain_member x
member_twice (Second x) = ap Second (index_twice x)
member_twice _ = refl

member_form : (x : Tree) → KeptForm x → KeptForm (plain_member x)
unfolding KeptForm
member_form (Second x) h = index_form x h
member_form _ h = h

wild_form : KeptForm wild
unfolding KeptForm held
wild_form = (refl, refl, (refl, refl, tt))

named_twice : (x : Tree) → named (named x) ≡ named x
named_twice (Pair a (Second (Second (First (Called the_unnamed t))))) = refl
named_twice _ = refl

named_form : (x : Tree) → KeptForm x → KeptForm (named x)
unfolding KeptForm
named_form (Pair a (Second (Second (First (Called the_unnamed t))))) h = (h.0, (wild_form, (refl, h.1)))
named_form _ h = h

listed_twice : (x : Tree) → listed_bound (listed_bound x) ≡ listed_bound x
listed_twice (Pair w (Second b)) = refl
listed_twice _ = refl

listed_form : (x : Tree) → KeptForm x → KeptForm (listed_bound x)
unfolding KeptForm held
listed_form (Pair w (Second b)) h = (h.0, (refl, refl, h.1))
listed_form _ h = h

unsafe_twice : (x : Tree) → unsafe_path (unsafe_path x) ≡ unsafe_path x
unsafe_twice (Pair (First w) x) = refl
unsafe_twice _ = refl

unsafe_form : (x : Tree) → KeptForm x → KeptForm (unsafe_path x)
unfolding KeptForm held
unsafe_form (Pair (First w) x) h = ((refl, refl, (tt, (refl, refl, (h.0, tt)))), h.1)
unsafe_form _ h = h

not_last_twice : (x : Tree) → not_last (not_last x) ≡ not_last x
not_last_twice (First x) = refl
not_last_twice _ = refl

not_last_form : (x : Tree) → KeptForm x → KeptForm (not_last x)
unfolding KeptForm
not_last_form (First x) h = h
not_last_form _ h = h

module _ (n : Part) (f : Tree → Tree) (h : (x : Tree) → KeptForm x → KeptForm (f x)) where
  pub changed_form : (x : Tree) → KeptForm x → KeptForm (changed n f x)
  unfolding KeptForm
  changed_form (Called m x) i = form_cond (same_part m n) (f x) x (h x i) i
  changed_form (Pair x y) i = (changed_form x i.0, changed_form y i.1)
  changed_form (First x) i = changed_form x i
  changed_form (Second x) i = changed_form x i
  changed_form (Group d x) i = changed_form x i
  changed_form _ i = i

-- statements

and_no : (b : Bool) → (b && false) ≡ false
and_no true = refl
and_no false = refl

no_macro : (b : Bool) (x y : Tree) → is_macro x ≡ false → is_macro y ≡ false → is_macro (cond b x y) ≡ false
no_macro true x y e f = e
no_macro false x y e f = f

attributed_macro : (a x : Tree) → is_macro (attributed a x) ≡ false
attributed_macro a (Infix l k y r) = no_macro (nat_eq (level k) 3) (Front ExprAttributed a (Infix l k y r))
    (Infix (attributed a l) k y r) refl refl
attributed_macro a (Back l ExprCast y) = refl
attributed_macro a _ = refl

attributed_form : (a x : Tree) → KeptForm a → KeptForm x → KeptForm (attributed a x)
unfolding KeptForm
attributed_form a (Infix l k y r) h i =
    form_cond (nat_eq (level k) 3) (Front ExprAttributed a (Infix l k y r)) (Infix (attributed a l) k y r) (h, i)
    (attributed_form a l h i.0, i.1, i.2)
attributed_form a (Back l ExprCast y) h i = (i.0, attributed_form a l h i.1, i.2)
attributed_form a _ h i = (h, i)

given_in_form : (a e : Tree) → KeptForm a → KeptForm e → KeptForm (attributed_in a e)
unfolding KeptForm
given_in_form a (Node (Expression p) (Whole x)) h i = (i.0, refl, attributed_form a x h i.2)
given_in_form a _ h i = i

given_form : (a e : Tree) → KeptForm a → KeptForm e → KeptForm (given a e)
unfolding KeptForm held
given_form (Node OuterAttributes (Again a b)) e h i =
    given_in_form (Pair a (Node OuterAttributes b)) e (h.2.0, (refl, refl, h.2.1)) i
given_form _ e h i = i

left_form : (a : Tree) → KeptForm a → KeptForm (left_in_front a)
unfolding KeptForm
left_form (Node OuterAttributes (Again a b)) h = (h.0, refl, tt)
left_form _ h = h

own_form : (x : Tree) → KeptForm x → KeptForm (own_part x)
unfolding KeptForm
own_form (Alone k y) h = h
own_form _ h = tt

form_of_form : (x : Tree) → KeptForm x → KeptForm (form_of x)
unfolding KeptForm
form_of_form (Node (Expression p) (Whole x)) h = h.2
form_of_form _ h = h

statement_form : (x : Tree) → KeptForm x → KeptForm (as_statement x)
unfolding KeptForm
statement_form (Second (Second (Second (Second (Pair (Called the_attributes a) (Pair (Called the_expression e) s))))))
    h =
    form_cond (is_macro (form_of e) && is_there s) (Second (First (Pair a (Pair (own_part (form_of e)) s))))
    (Second (Second
    (Second (Second (Pair (Called the_attributes (left_in_front a)) (Pair (Called the_expression (given a e)) s))))))
    (h.0, (own_form (form_of e) (form_of_form e h.1.0), h.1.1)) (left_form a h.0, (given_form a e h.0 h.1.0, h.1.1))
statement_form _ h = h

left_twice : (a : Tree) → left_in_front (left_in_front a) ≡ left_in_front a
left_twice (Node OuterAttributes (Again a b)) = refl
left_twice _ = refl

given_left : (a e : Tree) → given (left_in_front a) e ≡ e
given_left (Node OuterAttributes (Again a b)) e = refl
given_left _ e = refl

given_in_macro : (a e : Tree) (b : Bool) → (is_macro (form_of e) && b) ≡ false
    → (is_macro (form_of (attributed_in a e)) && b) ≡ false
given_in_macro a (Node (Expression p) (Whole x)) b h = ap (λ c. c && b) (attributed_macro a x)
given_in_macro a _ b h = h

given_macro : (a e : Tree) (b : Bool) → (is_macro (form_of e) && b) ≡ false
    → (is_macro (form_of (given a e)) && b) ≡ false
given_macro (Node OuterAttributes (Again a b)) e c h = given_in_macro (Pair a (Node OuterAttributes b)) e c h
given_macro _ e c h = h

expression_again : (a e s : Tree) (c : Bool) → (is_macro (form_of e) && is_there s) ≡ c
    → as_statement
    (cond c (Second (First (Pair a (Pair (own_part (form_of e)) s))))
    (Second (Second
    (Second (Second (Pair (Called the_attributes (left_in_front a)) (Pair (Called the_expression (given a e)) s)))))))
    ≡ cond c (Second (First (Pair a (Pair (own_part (form_of e)) s))))
    (Second (Second
    (Second (Second (Pair (Called the_attributes (left_in_front a)) (Pair (Called the_expression (given a e)) s))))))
expression_again a e s true h = refl
expression_again a e s false h =
    let b : Tree = left_in_front a in
    let f : Tree = given a e in
    ap (λ c. cond c (Second (First (Pair b (Pair (own_part (form_of f)) s))))
    (Second (Second
    (Second (Second (Pair (Called the_attributes (left_in_front b)) (Pair (Called the_expression (given b f)) s)))))))
    (given_macro a e (is_there s) h)
    ∙ ap (λ z. Second
    (Second (Second (Second (Pair (Called the_attributes z) (Pair (Called the_expression (given b f)) s))))))
    (left_twice a)
    ∙ ap (λ z. Second (Second (Second (Second (Pair (Called the_attributes b) (Pair (Called the_expression z) s))))))
    (given_left a f)

statement_twice : (x : Tree) → as_statement (as_statement x) ≡ as_statement x
statement_twice
    (Second (Second (Second (Second (Pair (Called the_attributes a) (Pair (Called the_expression e) s)))))) =
    expression_again a e s (is_macro (form_of e) && is_there s) refl
statement_twice _ = refl

arm_twice : (x : Tree) → changed the_comma not_last (changed the_comma not_last x) ≡ changed the_comma not_last x
arm_twice x = changed_twice the_comma not_last not_last_twice x

argument_twice : (x : Tree) → constant_argument (constant_argument x) ≡ constant_argument x
argument_twice (Second (First (First x))) = refl
argument_twice (Second (First (Second x))) = refl
argument_twice (Second (Second (First (Node Body x)))) = refl
argument_twice _ = refl

argument_form : (x : Tree) → KeptForm x → KeptForm (constant_argument x)
unfolding KeptForm held
argument_form (Second (First (First x))) h = (refl, refl, h)
argument_form (Second (First (Second x))) h = (refl, refl, h)
argument_form (Second (Second (First (Node Body x)))) h = (refl, refl, (tt, h))
argument_form _ h = h

default_twice : (x : Tree) → constant_default (constant_default x) ≡ constant_default x
default_twice (First x) = refl
default_twice (Second (First x)) = refl
default_twice (Second (Second x)) = refl
default_twice _ = refl

default_form : (x : Tree) → KeptForm x → KeptForm (constant_default x)
unfolding KeptForm held
default_form (First x) h = (refl, refl, h)
default_form (Second (First x)) h = (refl, refl, (tt, h))
default_form (Second (Second x)) h = (refl, refl, (refl, refl, (refl, refl, (tt, (refl, refl, (h, tt))))))
default_form _ h = h

forget_twice : (k : Kind) (x : Tree) → forget k (forget k x) ≡ forget k x
forget_twice Parameter x = named_twice x
forget_twice (DynType p) x = listed_twice x
forget_twice (ImplType p) x = listed_twice x
forget_twice Meta x = unsafe_twice x
forget_twice AStatement x = statement_twice x
forget_twice Member x = member_twice x
forget_twice Index x = index_twice x
forget_twice Arm x = arm_twice x
forget_twice AnArgument x = argument_twice x
forget_twice ConstParam x = changed_twice the_value constant_default default_twice x
forget_twice _ x = refl

forget_form : (k : Kind) (x : Tree) → KeptForm x → KeptForm (forget k x)
forget_form Parameter x h = named_form x h
forget_form (DynType p) x h = listed_form x h
forget_form (ImplType p) x h = listed_form x h
forget_form Meta x h = unsafe_form x h
forget_form AStatement x h = statement_form x h
forget_form Member x h = member_form x h
forget_form Index x h = index_form x h
forget_form AnArgument x h = argument_form x h
forget_form ConstParam x h = changed_form the_value constant_default default_form x h
forget_form Arm x h = changed_form the_comma not_last not_last_form x h
forget_form _ x h = h

-- dots

index_unsplit : (cs : List ℕ)
    → IsUnsplit ExprField
    (Pair (Pair lone_dot (Called the_indices End)) (Second (Called the_value (ALiteral (plain_decimal cs)))))
unfolding IsUnsplit
index_unsplit cs = λ l. ap (index_fields l) (one_index cs)
    ∙ ap (λ ds. Back l ExprField
    (Pair (Pair lone_dot (Called the_indices End)) (Second (Called the_value (ALiteral ds))))) (decimal_twice cs)

fields_form : (l : Tree) (texts : List (List ℕ)) → KeptForm l → KeptForm (index_fields l texts)
unfolding KeptForm
fields_form l [] h = h
fields_form l (cs ∷ texts) h = fields_form (index_field l cs) texts (index_unsplit cs, h, ((refl, tt), tt))

in_front_form : (l x : Tree) → KeptForm l → KeptForm (fields_in_front l x)
in_front_form l (Again (ALiteral cs) x) h = in_front_form (index_fields l (indices cs)) x (fields_form l (indices cs) h)
in_front_form l _ h = h

last_form : (l : Tree) (k : Kind) (d x : Tree) → KeptForm l → KeptForm d → KeptForm x → KeptForm (last_fields l k d x)
unfolding KeptForm IsUnsplit
last_form l ExprField d (Second (Called the_value (ALiteral cs))) h i j = fields_form l (indices cs) h
last_form l ExprField d _ h i j = (λ m. refl, h, ((i, tt), j))
last_form l ExprMethodCall d _ h i j = (λ m. refl, h, ((i, tt), j))
last_form l ExprAwait d _ h i j = (λ m. refl, h, ((i, tt), j))
last_form l _ d _ h i j = (λ m. refl, h, ((i, tt), j))

own_dots_form : (l y : Tree) → KeptForm l → KeptForm y
    → KeptForm (dotted_own l ExprField y) × KeptForm (dotted_own l ExprMethodCall y)
    × KeptForm (dotted_own l ExprAwait y)
unfolding KeptForm IsUnsplit
own_dots_form l (Pair (Pair d (Called the_indices x)) y) h i =
    let f = in_front_form l x h in (
      last_form (fields_in_front l x) ExprField d y f i.0.0 i.1,
      last_form (fields_in_front l x) ExprMethodCall d y f i.0.0 i.1,
      last_form (fields_in_front l x) ExprAwait d y f i.0.0 i.1,
    )
own_dots_form l _ h i = ((λ m. refl, h, i), (λ m. refl, h, i), (λ m. refl, h, i))

pub dotted_form : (l : Tree) (k : Kind) (y : Tree) → KeptForm l → KeptForm y → KeptForm (dotted l k y)
unfolding KeptForm IsUnsplit
dotted_form l ExprField y h i = (own_dots_form l y h i).0
dotted_form l ExprMethodCall y h i = (own_dots_form l y h i).1
dotted_form l ExprAwait y h i = (own_dots_form l y h i).2
dotted_form l _ y h i = (λ m. refl, h, i)

-- what is kept is all kept
pub kept_form : (x : Tree) → KeptForm (kept x)
unfolding KeptForm
kept_form (AWord cs) = tt
kept_form (ALiteral cs) = tt
kept_form (AMark c cs spacing) = refl
kept_form (ALifetime cs) = tt
kept_form (Raw ts) = tt
kept_form Nil = tt
kept_form (Pair x y) = (kept_form x, kept_form y)
kept_form (First x) = kept_form x
kept_form (Second x) = kept_form x
kept_form End = tt
kept_form (Again x y) = (kept_form x, kept_form y)
kept_form (Final x) = kept_form x
kept_form (More x c spacing y) = (kept_form x, refl, kept_form y)
kept_form (Group d x) = kept_form x
kept_form (Dropped x) = tt
kept_form (Called n x) = kept_form x
kept_form (Verbatim x) = tt
kept_form (Hidden x) = kept_form x
kept_form (Node k x) =
    (held_twice k, forget_held k (forget k (kept x)) ∙ forget_twice k (kept x), forget_form k (kept x) (kept_form x))
kept_form (Whole x) = kept_form x
kept_form (Alone k y) = kept_form y
kept_form (Front k y x) = (kept_form y, kept_form x)
kept_form (Back l k y) = dotted_form (kept l) k (kept y) (kept_form l) (kept_form y)
kept_form (Infix l k y r) = (kept_form l, kept_form y, kept_form r)

pub kept_twice : (x : Tree) → kept (kept x) ≡ kept x
kept_twice x = all_kept (kept x) (kept_form x)
