-- What is written of a node of a kind.
use Rattle.std.proofs.Common.{◌≡◌, ℕ, List, [], ◌∷◌, ◌++◌, refl, sym, ap, ◌∙◌}
use Rattle.std.specs.Prelude.{Bool, true, false, cond, nat_eq, codes}
use Rattle.std.proofs.lemmas.List.{append-nil}
use Rattle.std.proofs.lemmas.Bool.{eqb-true}
use Rattle.proc_macro2.specs.Token.{Opens, Closes, Ident, Literal, Punct}
use Rattle.rust_leaf.specs.declared.punct.Spacing.TheVariants.{Alone as Apart}
use Rattle.syn_grammar.specs.Kind.{Kind, Position, Plain, InCondition, InArm, InStatement, Path, Segments, Segment}
use Rattle.syn_grammar.specs.Kind.{QualifiedPath, AnyPath, AType, DynType, ImplType, ReturnType, Expression, Signature}
use Rattle.syn_grammar.specs.Kind.{Parameter, AStatement, Meta, Member, Index, Arm, AnArgument, ConstParam, Body, Where}
use Rattle.syn_grammar.specs.Kind.{Generics, BoundsColon, LifetimeColon, GenericParams, Arguments, ATypeAlias, AnImpl}
use Rattle.syn_grammar.specs.Name.{Part, number, same_part, the_unnamed, the_comma, the_value, the_condition, the_body}
use Rattle.syn_grammar.specs.Name.{the_expression}
use Rattle.syn_grammar.specs.Words.{plain_decimal}
use Rattle.syn_grammar.specs.Tree.{Tree, ALiteral, Nil, Pair, First, Second, Group, Called, Back, Node, flat}
use Rattle.syn_grammar.specs.Part.{changed}
use Rattle.syn_grammar.specs.Kept.{named, listed_bound, unsafe_path, not_last, constant_argument, constant_default}
use Rattle.syn_grammar.specs.Kept.{forget, held, kept}
use Rattle.syn_grammar.specs.Parens.{may_lack}
use Rattle.syn_grammar.specs.Tidy.{removed_if, tidy}
use Rattle.syn_grammar.specs.Normal.{place_of, passed, stands_behind, normal_in}
use Rattle.writer_rules.specs.Said.{said, is_quiet, is_unnamed}
use Rattle.laws_ranges.proofs.Dotted.{dotted_is}

tidy_held : (k : Kind) (x : Tree) → tidy (held k) x ≡ tidy k x
unfolding held
tidy_held (Path s) x = refl
tidy_held (Segments s) x = refl
tidy_held (Segment s) x = refl
tidy_held (QualifiedPath s) x = refl
tidy_held (AnyPath s) x = refl
tidy_held (AType p) x = refl
tidy_held (DynType p) x = refl
tidy_held (ImplType p) x = refl
tidy_held (ReturnType p) x = refl
tidy_held (Expression p) x = refl
tidy_held (Signature p) x = refl
tidy_held _ x = refl

passed_held : (k : Kind) (p : Position) → passed (held k) p ≡ passed k p
unfolding held passed
passed_held (Path s) p = refl
passed_held (Segments s) p = refl
passed_held (Segment s) p = refl
passed_held (QualifiedPath s) p = refl
passed_held (AnyPath s) p = refl
passed_held (AType q) p = refl
passed_held (DynType q) p = refl
passed_held (ImplType q) p = refl
passed_held (ReturnType q) p = refl
passed_held (Expression q) p = refl
passed_held (Signature q) p = refl
passed_held _ p = refl

pub node : (k : Kind) (p : Position) (x : Tree)
    → said p (Node k x) ≡ flat (tidy k (normal_in (passed k p) (forget k (kept x))))
unfolding said
node k p x = ap flat (tidy_held k (normal_in (passed (held k) p) (forget k (kept x)))
    ∙ ap (λ q. tidy k (normal_in q (forget k (kept x)))) (passed_held k p))

-- the position of a part is by its name
place_at : ℕ → Position
place_at n = cond (nat_eq n 27) InCondition (cond (nat_eq n 15) InArm (cond (nat_eq n 32) InStatement Plain))

place_is : (m : Part) → place_of m ≡ place_at (number m)
unfolding place_of place_at
place_is the_condition = refl
place_is the_body = refl
place_is the_expression = refl
place_is _ = refl

pub same_place : (m n : Part) → same_part m n ≡ true → place_of m ≡ place_of n
unfolding same_part
same_place m n e = place_is m ∙ ap place_at (eqb-true (number m) (number n) e) ∙ sym (place_is n)

-- a part that is changed, to one of the same tokens
module _ (n : Part) (f : Tree → Tree)
    (h : (x : Tree) → flat (normal_in (place_of n) (f x)) ≡ flat (normal_in (place_of n) x)) where
  cond_said : (b : Bool) (m : Part) (x : Tree) → (b ≡ true → place_of m ≡ place_of n)
      → flat (normal_in (place_of m) (cond b (f x) x)) ≡ flat (normal_in (place_of m) x)
  cond_said true m x e =
      ap (λ p. flat (normal_in p (f x))) (e refl) ∙ h x ∙ ap (λ p. flat (normal_in p x)) (sym (e refl))
  cond_said false m x e = refl

  changed_said : (p : Position) (x : Tree) → flat (normal_in p (changed n f x)) ≡ flat (normal_in p x)
  changed_said p (Called m x) = cond_said (same_part m n) m x (same_place m n)
  changed_said p (Pair x y) = ap (λ ts. ts ++ flat (normal_in p (changed n f y))) (changed_said p x)
      ∙ ap (λ ts. flat (normal_in p x) ++ ts) (changed_said p y)
  changed_said p (First x) = changed_said p x
  changed_said p (Second x) = changed_said p x
  changed_said p (Group d x) = ap (λ ts. Opens d ∷ ts ++ Closes d ∷ []) (changed_said p x)
  changed_said p _ = refl

-- what is forgotten of a kind's part has no tokens of its own
listed : (x : Tree) → flat (normal_in Plain (listed_bound x)) ≡ flat (normal_in Plain x)
unfolding place_of passed
listed (Pair w (Second b)) = refl
listed _ = refl

unsafe : (x : Tree) → flat (normal_in Plain (unsafe_path x)) ≡ flat (normal_in Plain x)
unfolding passed
unsafe (Pair (First w) x) =
    ap (λ ts. ts ++ flat (normal_in Plain x)) (append-nil (flat (normal_in Plain w)))
unsafe _ = refl

last : (x : Tree) → flat (normal_in (place_of the_comma) (not_last x)) ≡ flat (normal_in (place_of the_comma) x)
last (First x) = refl
last _ = refl

argument : (x : Tree) → flat (normal_in Plain (constant_argument x)) ≡ flat (normal_in Plain x)
unfolding passed stands_behind may_lack
argument (Second (First (First x))) = refl
argument (Second (First (Second x))) = refl
argument (Second (Second (First (Node Body x)))) = refl
argument _ = refl

default : (x : Tree)
    → flat (normal_in (place_of the_value) (constant_default x)) ≡ flat (normal_in (place_of the_value) x)
unfolding place_of passed stands_behind may_lack
default (First x) = refl
default (Second (First x)) = refl
default (Second (Second x)) = append-nil (flat (normal_in Plain x))
default _ = refl

pub quiet : (k : Kind) (p : Position) (x : Tree) → is_quiet k ≡ true → said p (Node k x) ≡ said (passed k p) x
unfolding said passed
quiet (DynType s) p x e = node (DynType s) p x ∙ listed (kept x)
quiet (ImplType s) p x e = node (ImplType s) p x ∙ listed (kept x)
quiet Meta p x e = node Meta p x ∙ unsafe (kept x)
quiet Arm p x e = node Arm p x ∙ changed_said the_comma not_last last Plain (kept x)
quiet AnArgument p x e = node AnArgument p x ∙ argument (kept x)
quiet ConstParam p x e = node ConstParam p x ∙ changed_said the_value constant_default default Plain (kept x)
quiet Parameter p x e = cc
quiet AStatement p x e = cc
quiet Member p x e = cc
quiet Index p x e = cc
quiet Where p x e = cc
quiet Generics p x e = cc
quiet BoundsColon p x e = cc
quiet LifetimeColon p x e = cc
quiet GenericParams p x e = cc
quiet Arguments p x e = cc
quiet (ATypeAlias s) p x e = cc
quiet AnImpl p x e = cc
quiet k p x e = node k p x

-- a parameter that is a type alone gets its pattern and a colon
pub unnamed : (p : Position) (a t : Tree)
    → said p (Node Parameter (Pair a (Second (Second (First (Called the_unnamed t))))))
    ≡ said Plain a ++ (Ident (codes "_") ∷ Punct 58 Apart ∷ said Plain t)
unfolding said place_of passed
unnamed p a t = node Parameter p (Pair a (Second (Second (First (Called the_unnamed t)))))

named_five : (a e : Tree) → is_unnamed (Pair a (Second (Second (First e)))) ≡ false
    → named (Pair (kept a) (Second (Second (First (kept e))))) ≡ Pair (kept a) (Second (Second (First (kept e))))
named_five a (Called the_unnamed t) h = cc
named_five a (Called _ t) h = refl
named_five a (Back l k y) h =
    dotted_is (λ z. named (Pair (kept a) (Second (Second (First z)))) ≡ Pair (kept a) (Second (Second (First z))))
    (λ l k y. refl) (kept l) k (kept y)
named_five a _ h = refl

named_four : (a e : Tree) → is_unnamed (Pair a (Second (Second e))) ≡ false
    → named (Pair (kept a) (Second (Second (kept e)))) ≡ Pair (kept a) (Second (Second (kept e)))
named_four a (First e) h = named_five a e h
named_four a (Back l k y) h =
    dotted_is (λ z. named (Pair (kept a) (Second (Second z))) ≡ Pair (kept a) (Second (Second z)))
    (λ l k y. refl) (kept l) k (kept y)
named_four a _ h = refl

named_three : (a e : Tree) → is_unnamed (Pair a (Second e)) ≡ false
    → named (Pair (kept a) (Second (kept e))) ≡ Pair (kept a) (Second (kept e))
named_three a (Second e) h = named_four a e h
named_three a (Back l k y) h =
    dotted_is (λ z. named (Pair (kept a) (Second z)) ≡ Pair (kept a) (Second z)) (λ l k y. refl) (kept l) k (kept y)
named_three a _ h = refl

named_two : (a e : Tree) → is_unnamed (Pair a e) ≡ false → named (Pair (kept a) (kept e)) ≡ Pair (kept a) (kept e)
named_two a (Second e) h = named_three a e h
named_two a (Back l k y) h =
    dotted_is (λ z. named (Pair (kept a) z) ≡ Pair (kept a) z) (λ l k y. refl) (kept l) k (kept y)
named_two a _ h = refl

named_kept : (x : Tree) → is_unnamed x ≡ false → named (kept x) ≡ kept x
named_kept (Pair a e) h = named_two a e h
named_kept (Back l k y) h = dotted_is (λ z. named z ≡ z) (λ l k y. refl) (kept l) k (kept y)
named_kept _ h = refl

pub parameter : (p : Position) (x : Tree) → is_unnamed x ≡ false → said p (Node Parameter x) ≡ said Plain x
unfolding said passed
parameter p x h = node Parameter p x ∙ ap (λ z. flat (normal_in Plain z)) (named_kept x h)

-- numbers of fields
pub index : (p : Position) (cs : List ℕ) → said p (Node Index (ALiteral cs)) ≡ Literal (plain_decimal cs) ∷ []
unfolding said
index p cs = node Index p (ALiteral cs)

pub member_name : (p : Position) (x : Tree) → said p (Node Member (First x)) ≡ said Plain x
unfolding said passed
member_name p x = node Member p (First x)

pub member_index : (p : Position) (cs : List ℕ)
    → said p (Node Member (Second (ALiteral cs))) ≡ Literal (plain_decimal cs) ∷ []
unfolding said
member_index p cs = node Member p (Second (ALiteral cs))

-- what is removed where it is bare
pub removed : (e : Tree → Bool) (x : Tree) → flat (removed_if e x) ≡ cond (e x) [] (flat x)
removed e x = go (e x)
  where
    go : (b : Bool) → flat (cond b (Second Nil) x) ≡ cond b [] (flat x)
    go true = refl
    go false = refl
