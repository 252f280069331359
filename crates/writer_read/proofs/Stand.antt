-- What is written of elements, of a whole expression and of a statement that were read.
use Rattle.std.proofs.Common.{◌≡◌, List, [], ◌∷◌, ◌++◌, refl, sym, ap, ◌∙◌, append_assoc}
use Rattle.std.specs.Prelude.{Bool, true, false, ◌&&◌, cond}
use Rattle.std.proofs.lemmas.List.{append-nil}
use Rattle.std.proofs.lemmas.Bool.{false≢true}
use Rattle.proc_macro2.specs.Token.{Token, Opens, Closes}
use Rattle.syn_grammar.specs.Kind.{Kind, Position, Plain, InStatement, Expression, AStatement, OuterAttributes, Where}
use Rattle.syn_grammar.specs.Kind.{ExprMacro, ATypeAlias, AnImpl, ImplGenerics, Place}
use Rattle.syn_grammar.specs.Name.{Part, same_part, the_attributes, the_expression, the_value, the_generics}
use Rattle.syn_grammar.specs.Tree.{Tree, Nil, Pair, First, Second, Again, Group, Called, Node, Whole, Alone}
use Rattle.syn_grammar.specs.Tree.{Back, flat}
use Rattle.syn_grammar.specs.Part.{changed}
use Rattle.syn_grammar.specs.Forms.{level}
use Rattle.syn_grammar.specs.Kept.{attributed, given, left_in_front, is_macro, own_part, is_there}
use Rattle.syn_grammar.specs.Kept.{as_statement, held, kept}
use Rattle.syn_grammar.specs.Tidy.{is_bare_where, is_bare_generics, is_absent, moved, keeps_generics, without_generics}
use Rattle.syn_grammar.specs.Normal.{place_of, passed, stands_behind, normal_in, formed}
use Rattle.laws_ranges.specs.Shelled.{shelled}
use Rattle.writer_rules.specs.Said.{said, said_form, bare_impl_said}
use Rattle.writer_rules.specs.Turns.{apart_where, is_opened, is_raw_turn, is_set_apart}
use Rattle.writer_read.specs.Formed.{GainsGiven, HasGiven, IsFormedStatement, IsFormed}
use Rattle.laws_ranges.proofs.Dotted.{dotted_is}
use Rattle.writer_read.proofs.Bare.{generics_made}
use Rattle.writer_read.proofs.OfKinds.{node, removed}

pub again_said : (p : Position) (x y : Tree) → IsFormed p (Again x y)
    → said p (Again x y) ≡ apart_where (is_set_apart x y) (said p x) ++ said p y
unfolding said
again_said p x y h = ap (λ ts. ts ++ flat (normal_in p (kept y))) h.2

pub whole_said : (p q : Position) (x : Tree) → IsFormed p (Node (Expression q) (Whole x))
    → said p (Node (Expression q) (Whole x)) ≡ said_form x
unfolding said said_form passed held
whole_said p q x h =
    ap (λ r. flat (formed r (stands_behind r) (kept x))) (sym h.0) ∙ ap flat h.1.0

-- attributes, of which none is set apart
no_raw : (b c : Bool) (ts : List Token) → b ≡ false → apart_where (b && c) ts ≡ ts
no_raw true c ts e = cc
no_raw false c ts e = refl

pub attributes_said : (t b : Tree) → IsFormed Plain (Again t b) → is_raw_turn t ≡ false
    → said Plain (Again t b) ≡ flat (normal_in Plain (Pair (kept t) (Node OuterAttributes (kept b))))
unfolding said passed
attributes_said t b h e = ap (λ ts. ts ++ flat (normal_in Plain (kept b)))
    (h.2 ∙ no_raw (is_raw_turn t) (is_opened b) (flat (normal_in Plain (kept t))) e)

-- an expression behind attributes, which are given to it
abbrev pub behind_said : Tree → Tree → List Token
behind_said (Node OuterAttributes (Again t b)) z =
    flat (shelled (attributed (Pair (kept t) (Node OuterAttributes (kept b))) (kept z)))
behind_said a z = said Plain a ++ said_form z

abbrev pub parts_said : Tree → List Token
parts_said (Pair (Called the_attributes a) (Pair (Called the_expression (Node (Expression q) (Whole z))) s)) =
    behind_said a z ++ said Plain s
parts_said x = said Plain x

abbrev pub fourth_said : Tree → List Token
fourth_said (Second x) = parts_said x
fourth_said x = said Plain x

abbrev pub third_said : Tree → List Token
third_said (Second x) = fourth_said x
third_said x = said Plain x

abbrev pub second_said : Tree → List Token
second_said (Second x) = third_said x
second_said x = said Plain x

abbrev pub statement_said : Tree → List Token
statement_said (Second x) = second_said x
statement_said x = said Plain x

-- a macro, to which attributes are given too
macro_own : (x : Tree) (b : Bool) → (is_macro (kept x) && b) ≡ true → flat (normal_in Plain (own_part (kept x)))
    ≡ said_form x
unfolding said_form
macro_own (Alone k y) b e = refl
macro_own (Back l k y) b e =
    dotted_is (λ z. (is_macro z && b) ≡ true → flat (normal_in Plain (own_part z)) ≡ flat (shelled z)) (λ l k y e. cc)
    (kept l) k (kept y) e
macro_own _ b e = absurd (false≢true e)

macro_given : (a x : Tree) (b : Bool) → (is_macro x && b) ≡ true
    → flat (shelled (attributed a x)) ≡ flat (normal_in Plain a) ++ flat (shelled x)
unfolding level
macro_given a (Alone ExprMacro y) b e = refl
macro_given a (Alone k y) b e = absurd (false≢true e)
macro_given a _ b e = absurd (false≢true e)

macro_behind : (a z : Tree) (b : Bool) → (is_macro (kept z) && b) ≡ true → IsFormed Plain a → GainsGiven a z
    → said Plain a ++ said_form z ≡ behind_said a z
unfolding said said_form passed held
macro_behind (Node OuterAttributes (Again t b)) z c e h g =
    ap (λ ts. ts ++ flat (shelled (kept z))) (attributes_said t b h g.2)
    ∙ sym (macro_given (Pair (kept t) (Node OuterAttributes (kept b))) (kept z) c e)
macro_behind (Node OuterAttributes x) z c e h g = refl
macro_behind (Node k x) z c e h g = refl
macro_behind _ z c e h g = refl

-- by itself
by_itself : (ts : List Token) (s : Tree) (q : Position) (z : Tree)
    → IsFormed InStatement (Node (Expression q) (Whole z))
    → ts ++ (said InStatement (Node (Expression q) (Whole z)) ++ said Plain s) ≡ (ts ++ said_form z) ++ said Plain s
by_itself ts s q z i = ap (λ us. ts ++ (us ++ said Plain s)) (whole_said InStatement q z i)
    ∙ sym (append_assoc ts (said_form z) (said Plain s))

in_front : (a s : Tree) (q : Position) (z : Tree) → IsFormed Plain a
    → IsFormed InStatement (Node (Expression q) (Whole z))
    → GainsGiven a z
    → flat (normal_in Plain (Pair (Called the_attributes (left_in_front (kept a)))
    (Pair (Called the_expression (given (kept a) (Node (Expression Plain) (Whole (kept z))))) (kept s))))
    ≡ behind_said a z ++ said Plain s
unfolding said said_form place_of passed stands_behind held
in_front (Node OuterAttributes (Again t b)) s q z h i n = ap (λ x. flat x ++ flat (normal_in Plain (kept s))) n.0
in_front (Node OuterAttributes (Back l k y)) s q z h i n = absurd h
in_front (Node OuterAttributes x) s q z h i n =
    by_itself (flat (normal_in Plain (Node OuterAttributes (kept x)))) s q z i
in_front (Back l k y) s q z h i n = absurd h
in_front (Node k x) s q z h i n = by_itself (flat (normal_in Plain (kept (Node k x)))) s q z i
in_front a s q z h i n = by_itself (flat (normal_in Plain (kept a))) s q z i

expression_said : (b : Bool) (a s : Tree) (q : Position) (z : Tree) → (is_macro (kept z) && is_there (kept s)) ≡ b
    → IsFormed Plain a → IsFormed InStatement (Node (Expression q) (Whole z)) → GainsGiven a z
    → flat (normal_in Plain (cond b (Second (First (Pair (kept a) (Pair (own_part (kept z)) (kept s)))))
    (Second (Second (Second (Second (Pair (Called the_attributes (left_in_front (kept a)))
    (Pair (Called the_expression (given (kept a) (Node (Expression Plain) (Whole (kept z))))) (kept s)))))))))
    ≡ behind_said a z ++ said Plain s
unfolding said
expression_said true a s q z e h i n =
    ap (λ ts. flat (normal_in Plain (kept a)) ++ (ts ++ flat (normal_in Plain (kept s))))
    (macro_own z (is_there (kept s)) e)
    ∙ sym (append_assoc (flat (normal_in Plain (kept a))) (said_form z) (flat (normal_in Plain (kept s))))
    ∙ ap (λ ts. ts ++ flat (normal_in Plain (kept s))) (macro_behind a z (is_there (kept s)) e h n)
expression_said false a s q z e h i n = in_front a s q z h i n

statement_parts : (x : Tree) → IsFormed Plain x → HasGiven x
    → flat (normal_in Plain (as_statement (Second (Second (Second (Second (kept x))))))) ≡ parts_said x
unfolding place_of held
statement_parts (Pair (Called the_attributes a) (Pair (Called the_expression (Node (Expression q) (Whole z))) s)) h n =
    expression_said (is_macro (kept z) && is_there (kept s)) a s q z refl h.0 h.1.0 n
statement_parts _ h n = absurd n

as_four : (x : Tree) → IsFormed Plain x → IsFormedStatement (Second (Second (Second x)))
    → flat (normal_in Plain (as_statement (Second (Second (Second (kept x)))))) ≡ fourth_said x
unfolding said
as_four (Second x) h n = statement_parts x h n
as_four (Back l k y) h n = absurd h
as_four _ h n = refl

as_three : (x : Tree) → IsFormed Plain x → IsFormedStatement (Second (Second x))
    → flat (normal_in Plain (as_statement (Second (Second (kept x))))) ≡ third_said x
unfolding said
as_three (Second x) h n = as_four x h n
as_three (Back l k y) h n = absurd h
as_three _ h n = refl

as_two : (x : Tree) → IsFormed Plain x → IsFormedStatement (Second x)
    → flat (normal_in Plain (as_statement (Second (kept x)))) ≡ second_said x
unfolding said
as_two (Second x) h n = as_three x h n
as_two (Back l k y) h n = absurd h
as_two _ h n = refl

as_one : (x : Tree) → IsFormed Plain x → IsFormedStatement x
    → flat (normal_in Plain (as_statement (kept x))) ≡ statement_said x
unfolding said
as_one (Second x) h n = as_two x h n
as_one (Back l k y) h n = absurd h
as_one _ h n = refl

pub node_said : (p : Position) (x : Tree) → IsFormed p (Node AStatement x)
    → said p (Node AStatement x) ≡ statement_said x
unfolding passed
node_said p x h = node AStatement p x ∙ as_one x h.0 h.1

-- a where clause that is not there has no token
absent_if : (b : Bool) (n : Part) (z : Tree) → (is_absent (Called n (Node Where z)) ≡ true → flat z ≡ [])
    → is_absent (Called n (Node Where (cond b (Second Nil) z))) ≡ true → flat (cond b (Second Nil) z) ≡ []
absent_if true n z f e = refl
absent_if false n z f e = f e

absent_inner : (n : Part) (p : Position) (x : Tree) → IsFormed p (Node Where x)
    → is_absent (Called n (Node Where (normal_in p (kept x)))) ≡ true → flat (normal_in p (kept x)) ≡ []
absent_inner n p (Second x) h e = ap (λ z. flat (normal_in p (kept z))) h
absent_inner n p (Back l k y) h e = absurd h
absent_inner n p _ h e = absurd (false≢true e)

absent_node : (n : Part) (k : Kind) (x : Tree) → IsFormed Plain (Node k x)
    → is_absent (Called n (normal_in (place_of n) (kept (Node k x)))) ≡ true
    → flat (normal_in (place_of n) (kept (Node k x))) ≡ []
unfolding held passed
absent_node n Where x h e =
    absent_if (is_bare_where (normal_in Plain (kept x))) n (normal_in Plain (kept x)) (absent_inner n Plain x h) e
absent_node n k x h e = absurd (false≢true e)

plain_where : (p : Position) (k : Kind) (x : Tree) → IsFormed p (Node Where x) → IsFormed Plain (Node Where x)
unfolding passed
plain_where p k (Second x) h = h
plain_where p k _ h = h

absent_part : (n : Part) (x : Tree) → IsFormed (place_of n) x
    → is_absent (Called n (normal_in (place_of n) (kept x))) ≡ true → flat (normal_in (place_of n) (kept x)) ≡ []
unfolding held
absent_part n (Node Where x) h e = absent_node n Where x (plain_where (place_of n) Where x h) e
absent_part n (Node _ x) h e = absurd (false≢true e)
absent_part n (Back l k y) h e = absurd h
absent_part n _ h e = absurd (false≢true e)

absent_said : (p : Position) (x : Tree) → IsFormed p x → is_absent (normal_in p (kept x)) ≡ true
    → flat (normal_in p (kept x)) ≡ []
absent_said p (Called n x) h e = absent_part n x h e
absent_said p (Back l k y) h e = absurd h
absent_said p _ h e = absurd (false≢true e)

-- so it is moved in silence
moved_pair : (b : Bool) (w d : Tree) → (b ≡ true → flat w ≡ [])
    → flat (cond b (Second (Pair d w)) (First (Pair w d))) ≡ flat w ++ flat d
moved_pair true w d e = ap (λ ts. flat d ++ ts) (e refl) ∙ append-nil (flat d) ∙ sym (ap (λ ts. ts ++ flat d) (e refl))
moved_pair false w d e = refl

moved_said : (p : Position) (x : Tree) → IsFormed p x
    → flat (moved (normal_in p (kept x))) ≡ flat (normal_in p (kept x))
moved_said p (First (Pair w d)) h =
    moved_pair (is_absent (normal_in p (kept w))) (normal_in p (kept w)) (normal_in p (kept d)) (absent_said p w h.0)
moved_said p (First (Back l k y)) h = absurd h
moved_said p (First _) h = refl
moved_said p (Back l k y) h = absurd h
moved_said p _ h = refl

moved_cond : (b : Bool) (z : Tree) → flat (moved z) ≡ flat z → flat (cond b (moved z) z) ≡ flat z
moved_cond true z e = e
moved_cond false z e = refl

moved_in : (p : Position) (x : Tree) → IsFormed p x
    → flat (changed the_value moved (normal_in p (kept x))) ≡ flat (normal_in p (kept x))
moved_in p (Called m x) h =
    moved_cond (same_part m the_value) (normal_in (place_of m) (kept x)) (moved_said (place_of m) x h)
moved_in p (Pair x y) h =
    ap (λ ts. ts ++ flat (changed the_value moved (normal_in p (kept y)))) (moved_in p x h.0)
    ∙ ap (λ ts. flat (normal_in p (kept x)) ++ ts) (moved_in p y h.1)
moved_in p (First x) h = moved_in p x h
moved_in p (Second x) h = moved_in p x h
moved_in p (Group d x) h = ap (λ ts. Opens d ∷ ts ++ Closes d ∷ []) (moved_in p x h)
moved_in p (Back l k y) h = absurd h
moved_in p _ h = refl

pub alias_said : (p : Position) (s : Place) (x : Tree) → IsFormed p (Node (ATypeAlias s) x)
    → said p (Node (ATypeAlias s) x) ≡ said Plain x
unfolding said passed
alias_said p s x h = node (ATypeAlias s) p x ∙ moved_in Plain x h

-- an impl
bare_node : (k : Kind) (x : Tree) → IsFormed Plain (Node k x)
    → flat (without_generics (normal_in Plain (kept (Node k x)))) ≡ bare_impl_said (Called the_generics (Node k x))
unfolding said held passed place_of
bare_node ImplGenerics x h =
    removed is_bare_generics (normal_in Plain (kept x))
    ∙ ap (λ b. cond b [] (flat (normal_in Plain (kept x)))) (generics_made Plain x)
bare_node k x h = refl

bare_part : (x : Tree) → IsFormed Plain x
    → flat (without_generics (normal_in Plain (kept x))) ≡ bare_impl_said (Called the_generics x)
unfolding said place_of
bare_part (Node k x) h = bare_node k x h
bare_part (Back l k y) h = absurd h
bare_part _ h = refl

bare_in : (x : Tree) → IsFormed Plain x
    → flat (changed the_generics without_generics (normal_in Plain (kept x))) ≡ bare_impl_said x
unfolding said same_part place_of
bare_in (Called the_generics x) h = bare_part x h
bare_in (Called _ x) h = refl
bare_in (Pair x y) h =
    ap (λ ts. ts ++ flat (changed the_generics without_generics (normal_in Plain (kept y)))) (bare_in x h.0)
    ∙ ap (λ ts. bare_impl_said x ++ ts) (bare_in y h.1)
bare_in (First x) h = bare_in x h
bare_in (Second x) h = bare_in x h
bare_in (Group d x) h = ap (λ ts. Opens d ∷ ts ++ Closes d ∷ []) (bare_in x h)
bare_in (Back l k y) h = absurd h
bare_in _ h = refl

impl_cond : (b : Bool) (x : Tree) → IsFormed Plain x
    → flat (cond b (normal_in Plain (kept x)) (changed the_generics without_generics (normal_in Plain (kept x))))
    ≡ cond b (said Plain x) (bare_impl_said x)
unfolding said
impl_cond true x h = refl
impl_cond false x h = bare_in x h

pub impl_said : (p : Position) (x : Tree) → IsFormed p (Node AnImpl x)
    → said p (Node AnImpl x)
    ≡ cond (keeps_generics (normal_in Plain (kept x))) (said Plain x) (bare_impl_said x)
unfolding passed
impl_said p x h = node AnImpl p x ∙ impl_cond (keeps_generics (normal_in Plain (kept x))) x h
