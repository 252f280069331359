-- The tokens of the normal form of a tree that was read, in terms of what was read.
use Rattle.std.proofs.Common.{◌≡◌, List, [], ◌∷◌, ◌++◌, refl, sym, ap, ◌∙◌}
use Rattle.std.specs.Prelude.{Bool, true, false, cond, codes, nat_eq}
use Rattle.proc_macro2.specs.Token.{Token, Opens, Closes, Ident, Punct}
use Rattle.rust_leaf.specs.declared.punct.Spacing.TheVariants.{Alone as Apart}
use Rattle.syn_grammar.specs.Kind.{Kind, Position, Plain, Parameter, Member, Index, Where, Generics, BoundsColon}
use Rattle.syn_grammar.specs.Kind.{LifetimeColon, GenericParams, Arguments, AnImpl, ImplGenerics, ATypeAlias}
use Rattle.syn_grammar.specs.Kind.{AStatement, Expression, OuterAttributes, ExprField, ExprMethodCall, ExprAwait}
use Rattle.syn_grammar.specs.Kind.{ExprCast, ExprAttributed}
use Rattle.syn_grammar.specs.Name.{same_part, the_unnamed, the_arguments, the_generics, the_indices, the_value}
use Rattle.syn_grammar.specs.Name.{the_attributes, the_expression}
use Rattle.syn_grammar.specs.Tree.{Tree, AWord, ALiteral, AMark, ALifetime, Raw, Nil, Pair, First, Second, End, Again}
use Rattle.syn_grammar.specs.Tree.{Final, More, Group, Dropped, Called, Verbatim, Hidden, Node, Whole, Alone, Front}
use Rattle.syn_grammar.specs.Tree.{Back, Infix, flat}
use Rattle.syn_grammar.specs.Part.{changed}
use Rattle.syn_grammar.specs.Forms.{level, is_range}
use Rattle.syn_grammar.specs.Kept.{attributed, held, kept}
use Rattle.syn_grammar.specs.Tidy.{is_bare_where, is_bare_generics, is_bare_colon, is_lifetime_param}
use Rattle.syn_grammar.specs.Tidy.{is_lifetime_argument, lifetimes_first, keeps_generics}
use Rattle.syn_grammar.specs.Normal.{place_of, passed, normal, normal_in}
use Rattle.writer_rules.specs.declared.within.Within.{Within}
use Rattle.writer_rules.specs.declared.within.Within.TheVariants.{InArguments, InImpl}
use Rattle.writer_rules.specs.Said.{said, said_form, bare_impl_said, front_fields, own_said}
use Rattle.writer_rules.specs.Firsts.{has_other, those_said, others_said}
use Rattle.writer_rules.specs.Turns.{apart_where, is_set_apart}
use Rattle.writer_rules.specs.Laid.{is_lifetime_read, within_impl, laid_in, those_laid, others_laid, laid, behind_laid}
use Rattle.writer_rules.specs.Laid.{has_attributes, statement_laid, given_laid}
use Rattle.writer_read.specs.Formed.{GainsGiven, GivesOn, HasFormed, HasGiven, IsFormed, IsFormedStatement}
use Rattle.laws_ranges.specs.Shelled.{is_lone_range, is_shelled, goes_in, parens_if, enclosed_if, shelled}
use Rattle.laws_ranges.proofs.Behind.{range_given, infix_given, cast_given}
use Rattle.laws_ranges.proofs.InKept.{lone_kept}
use Rattle.laws_ranges.proofs.Dotted.{dotted_by}
use Rattle.writer_read.proofs.Dots.{alone_said, prefix_said, back_said, infix_said}
use Rattle.writer_read.proofs.OfKinds.{node, quiet, unnamed, parameter, index, member_index}
use Rattle.writer_read.proofs.Bare.{where_said, generics_said, bounds_said, lifetimes_said}
use Rattle.writer_read.proofs.Row.{firsts, params_said}
use Rattle.writer_read.proofs.Stand.{again_said, whole_said, attributes_said, behind_said, parts_said}
use Rattle.writer_read.proofs.Stand.{statement_said, node_said}
use Rattle.writer_read.proofs.Stand.{alias_said, impl_said}
use Rattle.writer_read.proofs.Lifetimes.{argument_read}
use Rattle.writer_read.proofs.Impls.{keeps_made}

two : (ts us vs ws : List Token) → ts ≡ us → vs ≡ ws → ts ++ vs ≡ us ++ ws
two ts us vs ws e f = ap (λ zs. zs ++ vs) e ∙ ap (λ zs. us ++ zs) f

either : (b : Bool) (ts us vs ws : List Token) → ts ≡ us → vs ≡ ws → cond b ts vs ≡ cond b us ws
either b ts us vs ws e f = ap (λ zs. cond b zs vs) e ∙ ap (λ zs. cond b us zs) f

-- what is written of a node turns not on where it stands
pub node_laid : (w : Within) (k : Kind) (x : Tree) → laid_in w (Node k x) ≡ laid (Node k x)
node_laid w Parameter (Pair a (Second (Second (First (Called the_unnamed t))))) = refl
node_laid w Member (Second (ALiteral cs)) = refl
node_laid w Index (ALiteral cs) = refl
node_laid w AStatement (Second (Second (Second (Second x)))) = refl
node_laid w k x = refl

-- numbers of fields
index_same : (p : Position) (x : Tree) → IsFormed Plain x → said Plain x ≡ laid x
    → said p (Node Index x) ≡ laid (Node Index x)
unfolding said passed
index_same p (ALiteral cs) h e = index p cs
index_same p (Back l k y) h e = absurd h
index_same p x h e = node Index p x ∙ e

member_second : (p : Position) (x : Tree) → IsFormed Plain x → said Plain x ≡ laid x
    → said p (Node Member (Second x)) ≡ laid (Node Member (Second x))
unfolding said passed
member_second p (ALiteral cs) h e = member_index p cs
member_second p (Back l k y) h e = absurd h
member_second p x h e = node Member p (Second x) ∙ e

member_same : (p : Position) (x : Tree) → IsFormed Plain x → said Plain x ≡ laid x
    → said p (Node Member x) ≡ laid (Node Member x)
unfolding said passed
member_same p (Second x) h e = member_second p x h e
member_same p (Back l k y) h e = absurd h
member_same p x h e = node Member p x ∙ e

-- an impl
impl_same : (b : Bool) (x : Tree) → said Plain x ≡ laid x → bare_impl_said x ≡ laid_in InImpl x
    → cond b (said Plain x) (bare_impl_said x) ≡ laid_in (within_impl b) x
impl_same true x e f = e
impl_same false x e f = f

-- what stands behind a dot
abbrev DotSame : Tree → Type 0
DotSame (Pair (Pair d x) y) = (said Plain d ≡ laid d) × (said Plain y ≡ laid y)
DotSame x = Unit {0}

field_same : (d x y : Tree) → said Plain d ≡ laid d → said Plain y ≡ laid y
    → own_said ExprField (Pair (Pair d (Called the_indices x)) y)
    ≡ behind_laid ExprField (Pair (Pair d (Called the_indices x)) y)
field_same d x (Second (Called the_value (ALiteral cs))) e f = refl
field_same d x y e f = ap (λ ts. front_fields x ++ ts) (two (said Plain d) (laid d) (said Plain y) (laid y) e f)

dotted_same : (d x y : Tree) → said Plain d ≡ laid d → said Plain y ≡ laid y
    → front_fields x ++ (said Plain d ++ said Plain y) ≡ front_fields x ++ (laid d ++ laid y)
dotted_same d x y e f = ap (λ ts. front_fields x ++ ts) (two (said Plain d) (laid d) (said Plain y) (laid y) e f)

own_same : (k : Kind) (y : Tree) → said Plain y ≡ laid y → DotSame y → own_said k y ≡ behind_laid k y
own_same ExprField (Pair (Pair d (Called the_indices x)) y) e f = field_same d x y f.0 f.1
own_same ExprField y e f = e
own_same ExprMethodCall (Pair (Pair d (Called the_indices x)) y) e f = dotted_same d x y f.0 f.1
own_same ExprMethodCall y e f = e
own_same ExprAwait (Pair (Pair d (Called the_indices x)) y) e f = dotted_same d x y f.0 f.1
own_same ExprAwait y e f = e
own_same k y e f = e

-- attributes that are given to an expression
enclosed_flat : (b : Bool) (x : Tree) → flat (parens_if b x) ≡ enclosed_if b (flat x)
enclosed_flat true x = refl
enclosed_flat false x = refl

given_front : (a z : Tree) (ts : List Token) → flat (normal a) ≡ ts → said_form z ≡ laid z
    → flat (shelled (Front ExprAttributed a (kept z))) ≡ ts ++ enclosed_if (is_lone_range z) (laid z)
unfolding said_form
given_front a z ts e f =
    two (flat (normal a)) ts (flat (parens_if (is_lone_range (kept z)) (shelled (kept z))))
    (enclosed_if (is_lone_range z) (laid z)) e
    (enclosed_flat (is_lone_range (kept z)) (shelled (kept z))
    ∙ ap (λ b. enclosed_if b (flat (shelled (kept z)))) (lone_kept z)
    ∙ ap (λ us. enclosed_if (is_lone_range z) us) f)

given_infix : (b : Bool) (a l : Tree) (k : Kind) (y r : Tree) (ts : List Token) → nat_eq (level k) 3 ≡ b
    → flat (normal a) ≡ ts → said_form (Infix l k y r) ≡ laid (Infix l k y r) → is_range l ≡ false
    → flat (shelled (attributed a (kept l))) ≡ given_laid ts (laid l) l → said Plain y ≡ laid y
    → said_form r ≡ laid r
    → flat (shelled (attributed a (kept (Infix l k y r))))
    ≡ cond b (ts ++ enclosed_if true (laid (Infix l k y r)))
    (enclosed_if (goes_in k l) (given_laid ts (laid l) l) ++ (laid y ++ laid r))
unfolding said said_form
given_infix true a l k y r ts i e f n g u v =
    ap (λ c. flat (shelled (cond c (Front ExprAttributed a (kept (Infix l k y r)))
    (Infix (attributed a (kept l)) k (kept y) (kept r))))) i
    ∙ range_given a (Infix l k y r) i
    ∙ two (flat (normal a)) ts (enclosed_if true (flat (shelled (kept (Infix l k y r)))))
    (enclosed_if true (laid (Infix l k y r))) e (ap (λ us. enclosed_if true us) f)
given_infix false a l k y r ts i e f n g u v =
    infix_given a l k y r i n
    ∙ two (enclosed_if (goes_in k l) (flat (shelled (attributed a (kept l)))))
    (enclosed_if (goes_in k l) (given_laid ts (laid l) l)) (said Plain y ++ said_form r) (laid y ++ laid r)
    (ap (λ us. enclosed_if (goes_in k l) us) g) (two (said Plain y) (laid y) (said_form r) (laid r) u v)

abbrev GivenSame : Tree → Type 0
GivenSame z = (a : Tree) (ts : List Token) → flat (normal a) ≡ ts
    → flat (shelled (attributed a (kept z))) ≡ given_laid ts (laid z) z

behind_same : (a z : Tree) → IsFormed Plain a → GainsGiven a z → said Plain a ≡ laid a → said_form z ≡ laid z
    → (GivesOn z → GivenSame z)
    → behind_said a z ≡ cond (has_attributes a) (given_laid (laid a) (laid z) z) (laid a ++ laid z)
unfolding said passed held
behind_same (Node OuterAttributes (Again t b)) z h g e f s =
    s g.1 (Pair (kept t) (Node OuterAttributes (kept b))) (laid (Again t b)) (sym (attributes_said t b h g.2) ∙ e)
behind_same (Node OuterAttributes x) z h g e f s =
    two (said Plain (Node OuterAttributes x)) (laid (Node OuterAttributes x)) (said_form z) (laid z) e f
behind_same (Node k x) z h g e f s = two (said Plain (Node k x)) (laid (Node k x)) (said_form z) (laid z) e f
behind_same a z h g e f s = two (said Plain a) (laid a) (said_form z) (laid z) e f

mutual
  unfolding said passed place_of same_part

  pub laid_same : (p : Position) (x : Tree) → IsFormed p x → said p x ≡ laid x
  laid_same p (AWord cs) h = refl
  laid_same p (ALiteral cs) h = refl
  laid_same p (AMark c cs spacing) h = refl
  laid_same p (ALifetime cs) h = refl
  laid_same p (Raw ts) h = refl
  laid_same p Nil h = refl
  laid_same p (Pair x y) h =
      two (said p x) (laid x) (said p y) (laid y) (laid_same p x h.0) (laid_same p y h.1)
  laid_same p (First x) h = laid_same p x h
  laid_same p (Second x) h = laid_same p x h
  laid_same p End h = refl
  laid_same p (Again x y) h = again_said p x y h
      ∙ two (apart_where (is_set_apart x y) (said p x)) (apart_where (is_set_apart x y) (laid x)) (said p y) (laid y)
      (ap (λ ts. apart_where (is_set_apart x y) ts) (laid_same p x h.0)) (laid_same p y h.1)
  laid_same p (Final x) h = laid_same p x h
  laid_same p (More x c spacing y) h =
      two (said p x) (laid x) (Punct c Apart ∷ said p y) (Punct c Apart ∷ laid y) (laid_same p x h.0)
      (ap (λ ts. Punct c Apart ∷ ts) (laid_same p y h.1))
  laid_same p (Group d x) h = ap (λ ts. Opens d ∷ ts ++ Closes d ∷ []) (laid_same p x h)
  laid_same p (Dropped x) h = refl
  laid_same p (Called n x) h = laid_same (place_of n) x h
  laid_same p (Verbatim x) h = refl
  laid_same p (Hidden x) h = absurd h
  laid_same p (Node (Expression q) (Whole z)) h = whole_said p q z h ∙ form_same z h.1.1
  laid_same p (Node (Expression q) x) h = absurd h.1
  laid_same p (Node AStatement x) h = node_said p x h ∙ statement_same x h.0 h.1 (laid_same Plain x h.0)
  laid_same p (Node (ATypeAlias s) x) h = alias_said p s x h ∙ laid_same Plain x h
  laid_same p (Node Parameter (Pair a (Second (Second (First (Called the_unnamed t)))))) h =
      unnamed p a t
      ∙ two (said Plain a) (laid a) (Ident (codes "_") ∷ Punct 58 Apart ∷ said Plain t)
      (Ident (codes "_") ∷ Punct 58 Apart ∷ laid t) (laid_same Plain a h.0)
      (ap (λ ts. Ident (codes "_") ∷ Punct 58 Apart ∷ ts) (laid_same Plain t h.1))
  laid_same p (Node Parameter x) h = parameter p x refl ∙ laid_same Plain x h
  laid_same p (Node Member x) h = member_same p x h (laid_same Plain x h)
  laid_same p (Node Index x) h = index_same p x h (laid_same Plain x h)
  laid_same p (Node Where (Second x)) h = where_said p (Second x)
      ∙ ap (λ ts. cond (is_bare_where (Second x)) [] ts) (ap (λ z. said Plain z) h ∙ sym (ap (λ z. laid z) h))
  laid_same p (Node Where x) h =
      where_said p x ∙ ap (λ ts. cond (is_bare_where x) [] ts) (laid_same Plain x h)
  laid_same p (Node Generics x) h =
      generics_said p x ∙ ap (λ ts. cond (is_bare_generics x) [] ts) (laid_same Plain x h)
  laid_same p (Node BoundsColon x) h =
      bounds_said p x ∙ ap (λ ts. cond (is_bare_colon x) [] ts) (laid_same Plain x h)
  laid_same p (Node LifetimeColon x) h =
      lifetimes_said p x ∙ ap (λ ts. cond (is_bare_colon x) [] ts) (laid_same Plain x h)
  laid_same p (Node GenericParams x) h = params_said p x
      ∙ two (those_said Plain is_lifetime_param (has_other is_lifetime_param x) x)
      (those_laid is_lifetime_param (has_other is_lifetime_param x) x) (others_said Plain is_lifetime_param x)
      (others_laid is_lifetime_param (laid x) x) (those_same is_lifetime_param (has_other is_lifetime_param x) x h)
      (others_same is_lifetime_param x h (laid_same Plain x h))
  laid_same p (Node Arguments x) h = node Arguments p x ∙ arguments_same x h (laid_same Plain x h)
  laid_same p (Node AnImpl x) h = impl_said p x h
      ∙ ap (λ b. cond b (said Plain x) (bare_impl_said x)) (keeps_made Plain x)
      ∙ impl_same (keeps_generics x) x (laid_same Plain x h) (bare_same x h (laid_same Plain x h))
  laid_same p (Node k x) h = quiet k p x refl ∙ laid_same (passed k p) x h
  laid_same p (Whole x) h = absurd h
  laid_same p (Alone k y) h = absurd h
  laid_same p (Front k y x) h = absurd h
  laid_same p (Back l k y) h = absurd h
  laid_same p (Infix l k y r) h = absurd h

  -- of elements that pass, and of those that don't
  those_same : (q : Tree → Bool) (b : Bool) (x : Tree) → IsFormed Plain x
      → those_said Plain q b x ≡ those_laid q b x
  those_same q b (More x c spacing y) h =
      either (q x) (said Plain x ++ Punct c Apart ∷ those_said Plain q b y)
      (laid x ++ Punct c Apart ∷ those_laid q b y) (those_said Plain q b y) (those_laid q b y)
      (two (said Plain x) (laid x) (Punct c Apart ∷ those_said Plain q b y) (Punct c Apart ∷ those_laid q b y)
      (laid_same Plain x h.0) (ap (λ ts. Punct c Apart ∷ ts) (those_same q b y h.1))) (those_same q b y h.1)
  those_same q b (Final x) h =
      ap (λ ts. cond (q x) (ts ++ cond b (Punct 44 Apart ∷ []) []) []) (laid_same Plain x h)
  those_same q b _ h = refl

  others_same : (q : Tree → Bool) (x : Tree) → IsFormed Plain x → said Plain x ≡ laid x
      → others_said Plain q x ≡ others_laid q (laid x) x
  others_same q (More x c spacing y) h e =
      either (q x) (others_said Plain q y) (others_laid q (laid y) y)
      (said Plain x ++ Punct c Apart ∷ others_said Plain q y) (laid x ++ Punct c Apart ∷ others_laid q (laid y) y)
      (others_same q y h.1 (laid_same Plain y h.1))
      (two (said Plain x) (laid x) (Punct c Apart ∷ others_said Plain q y) (Punct c Apart ∷ others_laid q (laid y) y)
      (laid_same Plain x h.0) (ap (λ ts. Punct c Apart ∷ ts) (others_same q y h.1 (laid_same Plain y h.1))))
  others_same q (Final x) h e = ap (λ ts. cond (q x) [] ts) (laid_same Plain x h)
  others_same q _ h e = e

  -- in arguments
  arguments_same : (x : Tree) → IsFormed Plain x → said Plain x ≡ laid x
      → flat (changed the_arguments (lifetimes_first is_lifetime_argument) (normal_in Plain (kept x)))
      ≡ laid_in InArguments x
  arguments_same (Called the_arguments x) h e = firsts Plain is_lifetime_read is_lifetime_argument argument_read x
      ∙ two (those_said Plain is_lifetime_read (has_other is_lifetime_read x) x)
      (those_laid is_lifetime_read (has_other is_lifetime_read x) x) (others_said Plain is_lifetime_read x)
      (others_laid is_lifetime_read (laid x) x) (those_same is_lifetime_read (has_other is_lifetime_read x) x h)
      (others_same is_lifetime_read x h (laid_same Plain x h))
  arguments_same (Called _ x) h e = e
  arguments_same (Pair x y) h e =
      two (flat (changed the_arguments (lifetimes_first is_lifetime_argument) (normal_in Plain (kept x))))
      (laid_in InArguments x)
      (flat (changed the_arguments (lifetimes_first is_lifetime_argument) (normal_in Plain (kept y))))
      (laid_in InArguments y) (arguments_same x h.0 (laid_same Plain x h.0))
      (arguments_same y h.1 (laid_same Plain y h.1))
  arguments_same (First x) h e = arguments_same x h (laid_same Plain x h)
  arguments_same (Second x) h e = arguments_same x h (laid_same Plain x h)
  arguments_same (Group d x) h e =
      ap (λ ts. Opens d ∷ ts ++ Closes d ∷ []) (arguments_same x h (laid_same Plain x h))
  arguments_same (Node k x) h e = e ∙ sym (node_laid InArguments k x)
  arguments_same (Back l k y) h e = absurd h
  arguments_same _ h e = e

  -- in an impl
  bare_same : (x : Tree) → IsFormed Plain x → said Plain x ≡ laid x → bare_impl_said x ≡ laid_in InImpl x
  bare_same (Called the_generics (Node ImplGenerics x)) h e =
      ap (λ ts. cond (is_bare_generics x) [] ts) (laid_same Plain x h)
  bare_same (Called _ x) h e = e
  bare_same (Pair x y) h e =
      two (bare_impl_said x) (laid_in InImpl x) (bare_impl_said y) (laid_in InImpl y)
      (bare_same x h.0 (laid_same Plain x h.0)) (bare_same y h.1 (laid_same Plain y h.1))
  bare_same (First x) h e = bare_same x h (laid_same Plain x h)
  bare_same (Second x) h e = bare_same x h (laid_same Plain x h)
  bare_same (Group d x) h e = ap (λ ts. Opens d ∷ ts ++ Closes d ∷ []) (bare_same x h (laid_same Plain x h))
  bare_same (Node k x) h e = e ∙ sym (node_laid InImpl k x)
  bare_same _ h e = e

  -- statements
  statement_same : (x : Tree) → IsFormed Plain x → IsFormedStatement x → said Plain x ≡ laid x
      → statement_said x ≡ laid (Node AStatement x)
  statement_same (Second (Second (Second (Second x)))) h n e = parts_same x h n
  statement_same (Second (Second (Second (Back l k y)))) h n e = absurd h
  statement_same (Second (Second (Second x))) h n e = e
  statement_same (Second (Second (Back l k y))) h n e = absurd h
  statement_same (Second (Second x)) h n e = e
  statement_same (Second (Back l k y)) h n e = absurd h
  statement_same (Second x) h n e = e
  statement_same _ h n e = e

  parts_same : (x : Tree) → IsFormed Plain x → HasGiven x → parts_said x ≡ statement_laid (laid x) x
  parts_same (Pair (Called the_attributes a) (Pair (Called the_expression (Node (Expression q) (Whole z))) s)) h n =
      two (behind_said a z) (cond (has_attributes a) (given_laid (laid a) (laid z) z) (laid a ++ laid z))
      (said Plain s) (laid s)
      (behind_same a z h.0 n (laid_same Plain a h.0)
      (form_same z h.1.0.1.1) (λ g. given_same z h.1.0.1.1 (form_same z h.1.0.1.1) g)) (laid_same Plain s h.1.1)
  parts_same _ h n = absurd n

  -- attributes that are given
  given_same : (z : Tree) → HasFormed z → said_form z ≡ laid z → GivesOn z → GivenSame z
  given_same (Infix l k y r) h f g a ts e =
      given_infix (nat_eq (level k) 3) a l k y r ts refl e f g.0
      (given_same l h.0 (form_same l h.0) g.1 a ts e) (laid_same Plain y h.1) (form_same r h.2)
  given_same (Back l ExprCast y) h f g a ts e =
      cast_given a l y g.0
      ∙ two (enclosed_if (goes_in ExprCast l) (flat (shelled (attributed a (kept l)))))
      (enclosed_if (goes_in ExprCast l) (given_laid ts (laid l) l)) (said Plain y) (laid y)
      (ap (λ us. enclosed_if (goes_in ExprCast l) us) (given_same l h.0 (form_same l h.0) g.1 a ts e))
      (laid_same Plain y h.1)
  given_same (Back l k y) h f g a ts e =
      ap (λ x. flat (shelled x)) (dotted_by (λ z. attributed a z ≡ Front ExprAttributed a z) (λ l y. refl) (kept l) k
      (kept y) (λ l y. refl)) ∙ given_front a (Back l k y) ts e f
  given_same (Alone k y) h f g a ts e = given_front a (Alone k y) ts e f
  given_same (Front k y x) h f g a ts e = given_front a (Front k y x) ts e f
  given_same _ h f g a ts e = absurd h

  -- forms
  form_same : (x : Tree) → HasFormed x → said_form x ≡ laid x
  form_same (Alone k y) h = alone_said k y ∙ laid_same Plain y h
  form_same (Front k y x) h = prefix_said k y x
      ∙ two (said Plain y) (laid y) (enclosed_if (is_shelled k x) (said_form x)) (enclosed_if (is_shelled k x) (laid x))
      (laid_same Plain y h.0) (ap (λ ts. enclosed_if (is_shelled k x) ts) (form_same x h.1))
  form_same (Back l k y) h = back_said l k y
      ∙ two (enclosed_if (goes_in k l) (said_form l)) (enclosed_if (goes_in k l) (laid l)) (own_said k y)
      (behind_laid k y) (ap (λ ts. enclosed_if (goes_in k l) ts) (form_same l h.0))
      (own_same k y (laid_same Plain y h.1) (dot_same y h.1))
  form_same (Infix l k y r) h = infix_said l k y r
      ∙ two (enclosed_if (goes_in k l) (said_form l)) (enclosed_if (goes_in k l) (laid l)) (said Plain y ++ said_form r)
      (laid y ++ laid r) (ap (λ ts. enclosed_if (goes_in k l) ts) (form_same l h.0))
      (two (said Plain y) (laid y) (said_form r) (laid r) (laid_same Plain y h.1) (form_same r h.2))
  form_same _ h = absurd h

  dot_same : (y : Tree) → IsFormed Plain y → DotSame y
  dot_same (Pair (Pair d x) y) h = (laid_same Plain d h.0.0, laid_same Plain y h.1)
  dot_same _ h = tt
