-- What is written of a node, of a part and behind a left operand, by the form of what was read.
use Rattle.std.specs.Prelude.{◌≡◌, ℕ, true, false, cond, List, [], ◌∷◌, ◌++◌, Option, Some, None}
use Rattle.std.specs.Prelude.{refl}
use Rattle.std.proofs.Common.{ap, ◌∙◌, subst, sym}
use Rattle.std.proofs.lemmas.Bool.{false≢true}
use Rattle.proc_macro2.specs.Token.{Literal}
use Rattle.syn_grammar.specs.Kind.{Kind, Index, Member, ImplGenerics, ExprField, ExprMethodCall, ExprAwait}
use Rattle.syn_grammar.specs.Name.{the_generics, the_indices, the_value}
use Rattle.syn_grammar.specs.Words.{indices, plain_decimal}
use Rattle.syn_grammar.specs.Tree as t
use Rattle.syn_grammar.specs.Tree.{Tree}
use Rattle.reader_table.specs.Kinds.{kind_of}
use Rattle.reader_table.specs.Parts.{part_of}
use Rattle.reader_table.specs.declared.kind.Kind as g
use Rattle.reader_table.specs.declared.kind.Kind.TheVariants as kinds
use Rattle.reader_table.specs.declared.part.Part as p
use Rattle.reader_table.specs.declared.part.Part.TheVariants as parts
use Rattle.reader_tree.specs.Shapes.{last_of, pair_of}
use Rattle.writer_rules.specs.declared.within.Within.TheVariants.{InArguments, InImpl}
use Rattle.writer_rules.specs.Laid.{behind_laid, laid, laid_in}
use Rattle.writer_rules.specs.Said.{fields, front_fields}
use Rattle.writer_rules.specs.Way.{dotted_of, indices_of, is_bare_angled, is_dotted, last_text, value_text}
use Rattle.writer_rules.specs.Seen.{text_of_literal}
use Rattle.writer_rules.proofs.SeenForms.{last_is, pair_is, some_none}

-- a number by itself
literal_is : (x : Tree) (cs : List ℕ) → Some cs ≡ text_of_literal x → x ≡ t.ALiteral cs
literal_is (t.ALiteral ds) cs e = let s : ds ≡ cs = cc in ap t.ALiteral s
literal_is x cs e = absurd (some_none cs e)

pub index_none : (x : Tree) → None ≡ text_of_literal x → laid x ≡ laid (t.Node Index x)
index_none (t.ALiteral cs) e = absurd (some_none cs (sym e))
index_none x e = refl

pub index_some : (x : Tree) (cs : List ℕ) → Some cs ≡ text_of_literal x
    → Literal (plain_decimal cs) ∷ [] ≡ laid (t.Node Index x)
index_some x cs e = ap (λ z. laid (t.Node Index z)) (sym (literal_is x cs e))

pub ruleset numbers = (index_none, index_some)

-- a member
number_member : (y : Tree) (cs : List ℕ) → Some cs ≡ text_of_literal y
    → Literal (plain_decimal cs) ∷ [] ≡ laid (t.Node Member (t.Second y))
number_member y cs e = ap (λ z. laid (t.Node Member (t.Second z))) (sym (literal_is y cs e))

plain_member : (y : Tree) → None ≡ text_of_literal y → laid (t.Second y) ≡ laid (t.Node Member (t.Second y))
plain_member (t.ALiteral cs) e = absurd (some_none cs (sym e))
plain_member y e = refl

pub member_number : (x y : Tree) (cs : List ℕ) → Some y ≡ last_of x → Some cs ≡ text_of_literal y
    → Literal (plain_decimal cs) ∷ [] ≡ laid (t.Node Member x)
member_number x y cs e h = number_member y cs h ∙ ap (λ z. laid (t.Node Member z)) (sym (last_is x y e))

pub member_name : (x y : Tree) → Some y ≡ last_of x → None ≡ text_of_literal y → laid x ≡ laid (t.Node Member x)
member_name x y e h = subst (λ z. laid z ≡ laid (t.Node Member z)) (sym (last_is x y e)) (plain_member y h)

pub member_other : (x : Tree) → None ≡ last_of x → laid x ≡ laid (t.Node Member x)
member_other (t.Second (t.ALiteral cs)) e = cc
member_other x e = refl

pub ruleset members = (member_number, member_name, member_other)

-- a kind of which its inside is written
pub other_node : (k : g.Kind) (x : Tree) → (k ≡ kinds.Parameter → ⊥) → (k ≡ kinds.Member → ⊥) → (k ≡ kinds.Index → ⊥)
    → (k ≡ kinds.Where → ⊥) → (k ≡ kinds.Generics → ⊥) → (k ≡ kinds.BoundsColon → ⊥) → (k ≡ kinds.LifetimeColon → ⊥)
    → (k ≡ kinds.GenericParams → ⊥) → (k ≡ kinds.Arguments → ⊥) → (k ≡ kinds.AnImpl → ⊥) → (k ≡ kinds.AStatement → ⊥)
    → laid x ≡ laid (t.Node (kind_of k) x)
other_node kinds.Parameter x a b c d e f g h i j l = absurd (a refl)
other_node kinds.Member x a b c d e f g h i j l = absurd (b refl)
other_node kinds.Index x a b c d e f g h i j l = absurd (c refl)
other_node kinds.Where x a b c d e f g h i j l = absurd (d refl)
other_node kinds.Generics x a b c d e f g h i j l = absurd (e refl)
other_node kinds.BoundsColon x a b c d e f g h i j l = absurd (f refl)
other_node kinds.LifetimeColon x a b c d e f g h i j l = absurd (g refl)
other_node kinds.GenericParams x a b c d e f g h i j l = absurd (h refl)
other_node kinds.Arguments x a b c d e f g h i j l = absurd (i refl)
other_node kinds.AnImpl x a b c d e f g h i j l = absurd (j refl)
other_node kinds.AStatement x a b c d e f g h i j l = absurd (l refl)
other_node k x a b c d e f g h i j l = refl

pub ruleset nodes = (other_node)

-- a part of which its inside is written
pub arguments_other : (n : p.Part) (x : Tree) → (n ≡ parts.Arguments → ⊥)
    → laid x ≡ laid_in InArguments (t.Called (part_of n) x)
arguments_other parts.Arguments x h = absurd (h refl)
arguments_other n x h = refl

pub impl_other : (n : p.Part) (x : Tree) → (n ≡ parts.Generics → ⊥) → laid x ≡ laid_in InImpl (t.Called (part_of n) x)
impl_other parts.Generics x h = absurd (h refl)
impl_other n x h = refl

-- the generics of an impl
pub impl_generics : (x : Tree) → cond (is_bare_angled x) [] (laid x) ≡ laid_in InImpl (t.Called the_generics x)
impl_generics (t.Node ImplGenerics x) = refl
impl_generics x = refl

pub ruleset insides = (arguments_other, impl_other, impl_generics)

-- the forms whose own part begins with a dot
pub undotted : (k : g.Kind) → (k ≡ kinds.ExprField → ⊥) → (k ≡ kinds.ExprMethodCall → ⊥) → (k ≡ kinds.ExprAwait → ⊥)
    → false ≡ is_dotted (kind_of k)
undotted kinds.ExprField a b c = absurd (a refl)
undotted kinds.ExprMethodCall a b c = absurd (b refl)
undotted kinds.ExprAwait a b c = absurd (c refl)
undotted k a b c = refl

pub dotted_none : (x : Tree) → None ≡ pair_of x → None ≡ dotted_of x
dotted_none (t.Pair a b) e = cc
dotted_none x e = refl

one_dot : (a b : Tree) → None ≡ pair_of a → None ≡ dotted_of (t.Pair a b)
one_dot (t.Pair c d) b e = cc
one_dot a b e = refl

no_indices : (a c b : Tree) → None ≡ indices_of c → None ≡ dotted_of (t.Pair (t.Pair a c) b)
no_indices a (t.Called the_indices x) b e = cc
no_indices a c b e = refl

indices_is : (x y : Tree) → Some y ≡ indices_of x → x ≡ t.Called the_indices y
indices_is (t.Called the_indices z) y e = cc
indices_is x y e = cc

pub dotted_one : (x a b : Tree) → Some (a, b) ≡ pair_of x → None ≡ pair_of a → None ≡ dotted_of x
dotted_one x a b e h = one_dot a b h ∙ ap dotted_of (sym (pair_is x a b e))

pub dotted_two : (x a b c d : Tree) → Some (a, b) ≡ pair_of x → Some (c, d) ≡ pair_of a → None ≡ indices_of d
    → None ≡ dotted_of x
dotted_two x a b c d e h i =
    no_indices c d b i ∙ ap (λ z. dotted_of (t.Pair z b)) (sym (pair_is a c d h)) ∙ ap dotted_of (sym (pair_is x a b e))

pub dotted_three : (x a b c d y : Tree) → Some (a, b) ≡ pair_of x → Some (c, d) ≡ pair_of a → Some y ≡ indices_of d
    → Some (c, y, b) ≡ dotted_of x
dotted_three x a b c d y e h i =
    ap (λ z. dotted_of (t.Pair (t.Pair c z) b)) (sym (indices_is d y i))
    ∙ ap (λ z. dotted_of (t.Pair z b)) (sym (pair_is a c d h)) ∙ ap dotted_of (sym (pair_is x a b e))

pub ruleset dots = (dotted_none, dotted_one, dotted_two, dotted_three)

-- the number behind the last dot of a field
last_behind : (x : Tree) → value_text x ≡ last_text ExprField (t.Second x)
last_behind (t.Called the_value (t.ALiteral cs)) = refl
last_behind x = refl

pub last_none : (x : Tree) → None ≡ last_of x → None ≡ last_text ExprField x
last_none (t.Second (t.Called the_value (t.ALiteral cs))) e = cc
last_none x e = refl

pub last_value : (x y : Tree) → Some y ≡ last_of x → value_text y ≡ last_text ExprField x
last_value x y e = last_behind y ∙ ap (last_text ExprField) (sym (last_is x y e))

pub last_other : (k : g.Kind) (x : Tree) → (k ≡ kinds.ExprField → ⊥) → None ≡ last_text (kind_of k) x
last_other kinds.ExprField x h = absurd (h refl)
last_other k x h = refl

pub ruleset lasts = (last_none, last_value, last_other)

-- what is written behind a left operand
dotted_by : (M : Kind → Type 0) → M ExprField → M ExprMethodCall → M ExprAwait → (k : Kind) → is_dotted k ≡ true → M k
dotted_by M a b c ExprField e = a
dotted_by M a b c ExprMethodCall e = b
dotted_by M a b c ExprAwait e = c
dotted_by M a b c k e = absurd (false≢true e)

pub own_plain : (k : Kind) (x : Tree) → is_dotted k ≡ false → behind_laid k x ≡ laid x
own_plain ExprField x e = absurd (false≢true (sym e))
own_plain ExprMethodCall x e = absurd (false≢true (sym e))
own_plain ExprAwait x e = absurd (false≢true (sym e))
own_plain k x e = refl

field_undotted : (x : Tree) → None ≡ dotted_of x → behind_laid ExprField x ≡ laid x
field_undotted (t.Pair (t.Pair d (t.Called the_indices y)) z) e = absurd (some_none (d, y, z) (sym e))
field_undotted x e = refl

call_undotted : (x : Tree) → None ≡ dotted_of x → behind_laid ExprMethodCall x ≡ laid x
call_undotted (t.Pair (t.Pair d (t.Called the_indices y)) z) e = absurd (some_none (d, y, z) (sym e))
call_undotted x e = refl

await_undotted : (x : Tree) → None ≡ dotted_of x → behind_laid ExprAwait x ≡ laid x
await_undotted (t.Pair (t.Pair d (t.Called the_indices y)) z) e = absurd (some_none (d, y, z) (sym e))
await_undotted x e = refl

pub own_undotted : (k : Kind) (x : Tree) → is_dotted k ≡ true → None ≡ dotted_of x → behind_laid k x ≡ laid x
own_undotted k x e h =
    dotted_by (λ j. behind_laid j x ≡ laid x) (field_undotted x h) (call_undotted x h) (await_undotted x h) k e

same_three : (a b c d e f : Tree) → ◌≡◌ {A = Option (Tree × Tree × Tree)} (Some (a, b, c)) (Some (d, e, f))
    → (a ≡ d) × (b ≡ e) × (c ≡ f)
same_three a b c d e f h =
    let p : Tree × Tree × Tree = (a, b, c) in
    let r : Tree × Tree × Tree = (d, e, f) in
    let q : p ≡ r = cc in (
      ap (λ (v : Tree × Tree × Tree). v.0) q,
      ap (λ (v : Tree × Tree × Tree). v.1) q,
      ap (λ (v : Tree × Tree × Tree). v.2) q,
    )

pub dotted_is : (x d y z : Tree) → Some (d, y, z) ≡ dotted_of x → x ≡ t.Pair (t.Pair d (t.Called the_indices y)) z
dotted_is (t.Pair (t.Pair a (t.Called the_indices b)) c) d y z e =
    let s = same_three d y z a b c e in cc (s.0, s.1, s.2)
dotted_is x d y z e = absurd (some_none (d, y, z) e)

field_number : (d y z : Tree) (cs : List ℕ) → Some cs ≡ last_text ExprField z
    → behind_laid ExprField (t.Pair (t.Pair d (t.Called the_indices y)) z) ≡ front_fields y ++ fields (indices cs)
field_number d y (t.Second (t.Called the_value (t.ALiteral ds))) cs e =
    let s : ds ≡ cs = cc in ap (λ es. front_fields y ++ fields (indices es)) s
field_number d y z cs e = absurd (some_none cs e)

field_else : (d y z : Tree) → None ≡ last_text ExprField z
    → behind_laid ExprField (t.Pair (t.Pair d (t.Called the_indices y)) z) ≡ front_fields y ++ (laid d ++ laid z)
field_else d y (t.Second (t.Called the_value (t.ALiteral ds))) e = absurd (some_none ds (sym e))
field_else d y z e = refl

pub own_number : (k : Kind) (x d y z : Tree) (cs : List ℕ) → is_dotted k ≡ true → Some (d, y, z) ≡ dotted_of x
    → Some cs ≡ last_text k z → behind_laid k x ≡ front_fields y ++ fields (indices cs)
own_number k x d y z cs e h =
    subst (λ v. Some cs ≡ last_text k z → behind_laid k v ≡ front_fields y ++ fields (indices cs))
    (sym (dotted_is x d y z h))
    (dotted_by (λ j. Some cs ≡ last_text j z
    → behind_laid j (t.Pair (t.Pair d (t.Called the_indices y)) z) ≡ front_fields y ++ fields (indices cs))
    (field_number d y z cs) (λ f. absurd (some_none cs f)) (λ f. absurd (some_none cs f)) k e)

pub own_else : (k : Kind) (x d y z : Tree) → is_dotted k ≡ true → Some (d, y, z) ≡ dotted_of x
    → None ≡ last_text k z → behind_laid k x ≡ front_fields y ++ (laid d ++ laid z)
own_else k x d y z e h =
    subst (λ v. None ≡ last_text k z → behind_laid k v ≡ front_fields y ++ (laid d ++ laid z))
    (sym (dotted_is x d y z h))
    (dotted_by (λ j. None ≡ last_text j z
    → behind_laid j (t.Pair (t.Pair d (t.Called the_indices y)) z) ≡ front_fields y ++ (laid d ++ laid z))
    (field_else d y z) (λ f. refl) (λ f. refl) k e)
