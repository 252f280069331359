-- What is seen in a tree, by its form.
use Rattle.std.specs.Prelude.{◌≡◌, ◌≢◌, ℕ, zero, suc, ◌<◌, ◌==◌, Bool, true, false, not, nat_lt, ◌&&◌, List, [], ◌∷◌}
use Rattle.std.specs.Prelude.{Option, Some, None, length, refl}
use Rattle.std.proofs.Common.{ap, ◌∙◌, sym, arith}
use Rattle.std.proofs.lemmas.Bool.Decides.{nat_tests}
use Rattle.std.proofs.lemmas.Bool.{ne_eqb}
use Rattle.rust_leaf.specs.declared.punct.Spacing.{Spacing}
use Rattle.syn_grammar.specs.Kind.{Kind, Style, AtType, AnyPath, Path, QualifiedPath, Segments, GenericParams, Bounds}
use Rattle.syn_grammar.specs.Kind.{AnArgument, Lifetimes}
use Rattle.syn_grammar.specs.Name.{the_lifetime, the_unnamed}
use Rattle.syn_grammar.specs.Part.{has}
use Rattle.syn_grammar.specs.Tidy.{is_bare_bounds, is_bare_params, is_bracketed, is_ident_type, is_lone_path}
use Rattle.syn_grammar.specs.Tidy.{is_lone_segment, is_none}
use Rattle.syn_grammar.specs.Words.{is_ident}
use Rattle.syn_grammar.specs.Tree as t
use Rattle.syn_grammar.specs.Tree.{Tree}
use Rattle.reader_tree.specs.declared.tree.Element.{Element}
use Rattle.reader_tree.specs.Forms.{mark_of, seconds, turns, elements, ending}
use Rattle.reader_tree.specs.Shapes.{first_of, is_second, is_third, last_of, node_of, pair_of}
use Rattle.writer_rules.specs.Laid.{is_lifetime_read}
use Rattle.writer_rules.specs.Seen.{called_of, is_choice, is_constant, is_fourth, is_free_word, is_missing, middle_of}
use Rattle.writer_rules.specs.Seen.{text_of_literal, third_of, type_alone, unnamed_of}

-- which tree it is
pub same_pair : {A B : Type 0} (a c : A) (b d : B) → ◌≡◌ {A = Option (A × B)} (Some (a, b)) (Some (c, d))
    → (a ≡ c) × (b ≡ d)
same_pair {A = A} {B = B} a c b d e =
    let p : A × B = (a, b) in
    let r : A × B = (c, d) in
    let q : p ≡ r = cc in
    (ap (λ (v : A × B). v.0) q, ap (λ (v : A × B). v.1) q)

pub some_none : {A : Type 0} (a : A) → Some a ≡ None → ⊥
some_none a e = cc

pub node_is : (x : Tree) (k : Kind) (y : Tree) → Some (k, y) ≡ node_of x → x ≡ t.Node k y
node_is (t.Node j z) k y e = let s = same_pair k j y z e in cc (s.0, s.1)
node_is x k y e = cc

pub pair_is : (x y z : Tree) → Some (y, z) ≡ pair_of x → x ≡ t.Pair y z
pair_is (t.Pair v w) y z e = let s = same_pair y v z w e in cc (s.0, s.1)
pair_is x y z e = cc

pub first_is : (x y : Tree) → Some y ≡ first_of x → x ≡ t.First y
first_is (t.First z) y e = cc
first_is x y e = cc

pub last_is : (x y : Tree) → Some y ≡ last_of x → x ≡ t.Second y
last_is (t.Second (t.First z)) y e = cc
last_is (t.Second (t.Second z)) y e = cc
last_is (t.Second z) y e = cc
last_is x y e = cc

and_true : (b : Bool) → (b && true) ≡ b
and_true true = refl
and_true false = refl

and_false : (b : Bool) → (b && false) ≡ false
and_false true = refl
and_false false = refl

-- no element and no turn
pub none_first : (n : ℕ) (x : Tree) → is_none (seconds n (t.First x)) ≡ false
none_first zero x = refl
none_first (suc n) x = refl

pub none_mark : (cs : List ℕ) (spacing : Spacing) → is_none (mark_of cs spacing) ≡ false
none_mark [] spacing = refl
none_mark (c ∷ cs) spacing = refl

pub none_turns : (xs : List Tree) → is_none (turns xs) ≡ (length xs == 0)
none_turns [] = refl
none_turns (x ∷ xs) = sym (ne_eqb (suc (length xs)) 0 (λ e. omega (arith, e)))

pub none_elements : (c : ℕ) (es : List Element) → is_none (elements c es t.End) ≡ (length es == 0)
none_elements c [] = refl
none_elements c (e ∷ es) = sym (ne_eqb (suc (length es)) 0 (λ e. omega (arith, e)))

pub none_last : (c : ℕ) (es : List Element) (x : Tree) → is_none (elements c es (t.Final x)) ≡ false
none_last c [] x = refl
none_last c (e ∷ es) x = refl

pub ruleset nones = (none_first, none_mark, none_turns, none_elements, none_last)

params_none : (x : Tree) → is_none x ≡ is_bare_params (t.Node GenericParams x)
params_none t.End = refl
params_none x = refl

bounds_none : (x : Tree) → is_none x ≡ is_bare_bounds (t.Node Bounds x)
bounds_none t.End = refl
bounds_none x = refl

lifetimes_none : (x : Tree) → is_none x ≡ is_bare_bounds (t.Node Lifetimes x)
lifetimes_none t.End = refl
lifetimes_none x = refl

pub bare_params : (x y : Tree) → Some (GenericParams, y) ≡ node_of x → is_none y ≡ is_bare_params x
bare_params x y e = params_none y ∙ ap is_bare_params (sym (node_is x GenericParams y e))

pub bare_bounds : (x y : Tree) → Some (Bounds, y) ≡ node_of x → is_none y ≡ is_bare_bounds x
bare_bounds x y e = bounds_none y ∙ ap is_bare_bounds (sym (node_is x Bounds y e))

pub bare_lifetimes : (x y : Tree) → Some (Lifetimes, y) ≡ node_of x → is_none y ≡ is_bare_bounds x
bare_lifetimes x y e = lifetimes_none y ∙ ap is_bare_bounds (sym (node_is x Lifetimes y e))

pub ruleset bare_bounded = (bare_bounds, bare_lifetimes)

-- an option that isn't there
pub missing_nil : (n : ℕ) (x : Tree) → x ≡ t.Nil → is_missing (seconds n x) ≡ true
missing_nil zero x e = ap is_missing e
missing_nil (suc n) x e = missing_nil n x e

pub ruleset missing = (missing_nil)

-- choices
pub choice_first : (n : ℕ) (x : Tree) → is_choice (seconds n (t.First x)) ≡ true
choice_first zero x = refl
choice_first (suc n) x = refl

pub choice_mark : (cs : List ℕ) (spacing : Spacing) → is_choice (mark_of cs spacing) ≡ false
choice_mark [] spacing = refl
choice_mark (c ∷ cs) spacing = refl

pub choice_turns : (xs : List Tree) → is_choice (turns xs) ≡ false
choice_turns [] = refl
choice_turns (x ∷ xs) = refl

pub choice_elements : {A : Type 0} (c : ℕ) (es : List Element) (f : A → Tree) (o : Option A)
    → is_choice (elements c es (ending f o)) ≡ false
choice_elements c [] f None = refl
choice_elements c [] f (Some y) = refl
choice_elements c (e ∷ es) f o = refl

pub ruleset choices = (choice_first, choice_mark, choice_turns, choice_elements)

-- the second of three
pub middle_here : (n : ℕ) (x : Tree) → n ≡ 1 → Some x ≡ middle_of (seconds n (t.First x))
middle_here n x e = rw e refl

pub middle_other : (n : ℕ) (x : Tree) → n ≢ 1 → None ≡ middle_of (seconds n (t.First x))
middle_other zero x h = refl
middle_other (suc zero) x h = absurd (h refl)
middle_other (suc (suc n)) x h = refl

middle_next : (x : Tree) → first_of x ≡ middle_of (t.Second x)
middle_next (t.First x) = refl
middle_next x = refl

pub middle_second : (n : ℕ) (x : Tree) → n ≡ 0 → first_of x ≡ middle_of (t.Second (seconds n x))
middle_second n x e = middle_next x ∙ ap (λ m. middle_of (t.Second (seconds m x))) (sym e)

pub middle_behind : (n : ℕ) (x : Tree) → n ≢ 0 → None ≡ middle_of (t.Second (seconds n x))
middle_behind zero x h = absurd (h refl)
middle_behind (suc n) x h = refl

pub middle_mark : (cs : List ℕ) (spacing : Spacing) → middle_of (mark_of cs spacing) ≡ None
middle_mark [] spacing = refl
middle_mark (c ∷ cs) spacing = refl

pub middle_turns : (xs : List Tree) → middle_of (turns xs) ≡ None
middle_turns [] = refl
middle_turns (x ∷ xs) = refl

pub middle_elements : {A : Type 0} (c : ℕ) (es : List Element) (f : A → Tree) (o : Option A)
    → middle_of (elements c es (ending f o)) ≡ None
middle_elements c [] f None = refl
middle_elements c [] f (Some y) = refl
middle_elements c (e ∷ es) f o = refl

pub ruleset middles =
    (middle_here, middle_other, middle_second, middle_behind, middle_mark, middle_turns, middle_elements)

-- the third of four
pub third_here : (n : ℕ) (x : Tree) → n ≡ 2 → Some x ≡ third_of (seconds n (t.First x))
third_here n x e = rw e refl

pub third_other : (n : ℕ) (x : Tree) → n ≢ 2 → None ≡ third_of (seconds n (t.First x))
third_other zero x h = refl
third_other (suc zero) x h = refl
third_other (suc (suc zero)) x h = absurd (h refl)
third_other (suc (suc (suc n))) x h = refl

third_after : (x : Tree) → middle_of x ≡ third_of (t.Second x)
third_after (t.Second (t.First x)) = refl
third_after x = refl

third_last : (x : Tree) → first_of x ≡ third_of (t.Second (t.Second x))
third_last (t.First x) = refl
third_last x = refl

pub third_second : (n : ℕ) (x : Tree) → n ≡ 0 → middle_of x ≡ third_of (t.Second (seconds n x))
third_second n x e = third_after x ∙ ap (λ m. third_of (t.Second (seconds m x))) (sym e)

pub third_next : (n : ℕ) (x : Tree) → n ≡ 1 → first_of x ≡ third_of (t.Second (seconds n x))
third_next n x e = third_last x ∙ ap (λ m. third_of (t.Second (seconds m x))) (sym e)

pub third_behind : (n : ℕ) (x : Tree) → n ≢ 0 → n ≢ 1 → None ≡ third_of (t.Second (seconds n x))
third_behind zero x h i = absurd (h refl)
third_behind (suc zero) x h i = absurd (i refl)
third_behind (suc (suc n)) x h i = refl

pub third_mark : (cs : List ℕ) (spacing : Spacing) → third_of (mark_of cs spacing) ≡ None
third_mark [] spacing = refl
third_mark (c ∷ cs) spacing = refl

pub third_turns : (xs : List Tree) → third_of (turns xs) ≡ None
third_turns [] = refl
third_turns (x ∷ xs) = refl

pub third_elements : {A : Type 0} (c : ℕ) (es : List Element) (f : A → Tree) (o : Option A)
    → third_of (elements c es (ending f o)) ≡ None
third_elements c [] f None = refl
third_elements c [] f (Some y) = refl
third_elements c (e ∷ es) f o = refl

pub ruleset thirds =
    (third_here, third_other, third_second, third_next, third_behind, third_mark, third_turns, third_elements)

-- the fourth of four
pub fourth_first : (n : ℕ) (x : Tree) → nat_lt 2 n ≡ is_fourth (seconds n (t.First x))
fourth_first zero x = refl
fourth_first (suc zero) x = refl
fourth_first (suc (suc zero)) x = refl
fourth_first (suc (suc (suc n))) x = let e : 2 < suc (suc (suc n)) = omega arith in grind (arith, nat_tests)

fourth_after : (x : Tree) → is_third x ≡ is_fourth (t.Second x)
fourth_after (t.Second (t.Second x)) = refl
fourth_after x = refl

fourth_last : (x : Tree) → is_second x ≡ is_fourth (t.Second (t.Second x))
fourth_last (t.Second x) = refl
fourth_last x = refl

pub fourth_second : (n : ℕ) (x : Tree) → n ≡ 0 → is_third x ≡ is_fourth (t.Second (seconds n x))
fourth_second n x e = fourth_after x ∙ ap (λ m. is_fourth (t.Second (seconds m x))) (sym e)

pub fourth_next : (n : ℕ) (x : Tree) → n ≡ 1 → is_second x ≡ is_fourth (t.Second (seconds n x))
fourth_next n x e = fourth_last x ∙ ap (λ m. is_fourth (t.Second (seconds m x))) (sym e)

pub fourth_behind : (n : ℕ) (x : Tree) → n ≢ 0 → n ≢ 1 → true ≡ is_fourth (t.Second (seconds n x))
fourth_behind zero x h i = absurd (h refl)
fourth_behind (suc zero) x h i = absurd (i refl)
fourth_behind (suc (suc n)) x h i = refl

pub fourth_mark : (cs : List ℕ) (spacing : Spacing) → is_fourth (mark_of cs spacing) ≡ false
fourth_mark [] spacing = refl
fourth_mark (c ∷ cs) spacing = refl

pub fourth_turns : (xs : List Tree) → is_fourth (turns xs) ≡ false
fourth_turns [] = refl
fourth_turns (x ∷ xs) = refl

pub fourth_elements : {A : Type 0} (c : ℕ) (es : List Element) (f : A → Tree) (o : Option A)
    → is_fourth (elements c es (ending f o)) ≡ false
fourth_elements c [] f None = refl
fourth_elements c [] f (Some y) = refl
fourth_elements c (e ∷ es) f o = refl

pub ruleset fourths =
    (fourth_first, fourth_second, fourth_next, fourth_behind, fourth_mark, fourth_turns, fourth_elements)

-- a literal
pub literal_first : (n : ℕ) (x : Tree) → text_of_literal (seconds n (t.First x)) ≡ None
literal_first zero x = refl
literal_first (suc n) x = refl

pub literal_mark : (cs : List ℕ) (spacing : Spacing) → text_of_literal (mark_of cs spacing) ≡ None
literal_mark [] spacing = refl
literal_mark (c ∷ cs) spacing = refl

pub literal_turns : (xs : List Tree) → text_of_literal (turns xs) ≡ None
literal_turns [] = refl
literal_turns (x ∷ xs) = refl

pub literal_elements : {A : Type 0} (c : ℕ) (es : List Element) (f : A → Tree) (o : Option A)
    → text_of_literal (elements c es (ending f o)) ≡ None
literal_elements c [] f None = refl
literal_elements c [] f (Some y) = refl
literal_elements c (e ∷ es) f o = refl

pub ruleset lone_literals = (literal_first, literal_mark, literal_turns, literal_elements)

-- a part
pub called_first : (n : ℕ) (x : Tree) → called_of (seconds n (t.First x)) ≡ None
called_first zero x = refl
called_first (suc n) x = refl

pub called_mark : (cs : List ℕ) (spacing : Spacing) → called_of (mark_of cs spacing) ≡ None
called_mark [] spacing = refl
called_mark (c ∷ cs) spacing = refl

pub called_turns : (xs : List Tree) → called_of (turns xs) ≡ None
called_turns [] = refl
called_turns (x ∷ xs) = refl

pub called_elements : {A : Type 0} (c : ℕ) (es : List Element) (f : A → Tree) (o : Option A)
    → called_of (elements c es (ending f o)) ≡ None
called_elements c [] f None = refl
called_elements c [] f (Some y) = refl
called_elements c (e ∷ es) f o = refl

pub ruleset calleds = (called_first, called_mark, called_turns, called_elements)

-- a parameter that is a type alone
third_is : (x y : Tree) → Some y ≡ third_of x → x ≡ t.Second (t.Second (t.First y))
third_is (t.Second (t.Second (t.First z))) y e = cc
third_is x y e = cc

unnamed_is : (x y : Tree) → Some y ≡ unnamed_of x → x ≡ t.Called the_unnamed y
unnamed_is (t.Called the_unnamed z) y e = cc
unnamed_is x y e = absurd (some_none y e)

none_third : (a b : Tree) → None ≡ third_of b → None ≡ type_alone (t.Pair a b)
none_third a (t.Second (t.Second (t.First x))) e = cc
none_third a b e = refl

none_unnamed : (a c : Tree) → None ≡ unnamed_of c → None ≡ type_alone (t.Pair a (t.Second (t.Second (t.First c))))
none_unnamed a (t.Called the_unnamed x) e = cc
none_unnamed a c e = refl

pub alone_pair : (x : Tree) → None ≡ pair_of x → None ≡ type_alone x
alone_pair (t.Pair a b) e = cc
alone_pair x e = refl

pub alone_third : (x a b : Tree) → Some (a, b) ≡ pair_of x → None ≡ third_of b → None ≡ type_alone x
alone_third x a b e h = none_third a b h ∙ ap type_alone (sym (pair_is x a b e))

pub alone_unnamed : (x a b c : Tree) → Some (a, b) ≡ pair_of x → Some c ≡ third_of b → None ≡ unnamed_of c
    → None ≡ type_alone x
alone_unnamed x a b c e h i =
    none_unnamed a c i ∙ ap (λ z. type_alone (t.Pair a z)) (sym (third_is b c h))
    ∙ ap type_alone (sym (pair_is x a b e))

pub alone_type : (x a b c y : Tree) → Some (a, b) ≡ pair_of x → Some c ≡ third_of b → Some y ≡ unnamed_of c
    → Some (a, y) ≡ type_alone x
alone_type x a b c y e h i =
    ap (λ z. type_alone (t.Pair a (t.Second (t.Second (t.First z))))) (sym (unnamed_is c y i))
    ∙ ap (λ z. type_alone (t.Pair a z)) (sym (third_is b c h)) ∙ ap type_alone (sym (pair_is x a b e))

pub ruleset alones = (alone_pair, alone_third, alone_unnamed, alone_type)

-- a name of a path
pub word_first : (n : ℕ) (x : Tree) → is_free_word (seconds n (t.First x)) ≡ false
word_first zero x = refl
word_first (suc n) x = refl

pub word_mark : (cs : List ℕ) (spacing : Spacing) → is_free_word (mark_of cs spacing) ≡ false
word_mark [] spacing = refl
word_mark (c ∷ cs) spacing = refl

pub word_turns : (xs : List Tree) → is_free_word (turns xs) ≡ false
word_turns [] = refl
word_turns (x ∷ xs) = refl

pub word_elements : {A : Type 0} (c : ℕ) (es : List Element) (f : A → Tree) (o : Option A)
    → is_free_word (elements c es (ending f o)) ≡ false
word_elements c [] f None = refl
word_elements c [] f (Some y) = refl
word_elements c (e ∷ es) f o = refl

pub ruleset words = (word_first, word_mark, word_turns, word_elements)

-- a path of one name
abbrev lone_name : Tree → Bool
lone_name x = is_lone_segment (t.Node (Segments AtType) x)

pub name_none : (x : Tree) → None ≡ last_of x → false ≡ lone_name x
name_none (t.Second (t.Pair a b)) e = cc
name_none x e = refl

unpaired : (y : Tree) → None ≡ pair_of y → false ≡ lone_name (t.Second y)
unpaired (t.Pair a b) e = cc
unpaired y e = refl

pub name_single : (x y : Tree) → Some y ≡ last_of x → None ≡ pair_of y → false ≡ lone_name x
name_single x y e h = unpaired y h ∙ ap lone_name (sym (last_is x y e))

paired : (a b : Tree) → (is_free_word a && is_fourth b) ≡ lone_name (t.Second (t.Pair a b))
paired (t.AWord cs) (t.Second (t.Second (t.Second z))) = and_true (is_ident cs)
paired (t.AWord cs) b = and_false (is_ident cs)
paired a b = refl

pub name_paired : (x y a b : Tree) → Some y ≡ last_of x → Some (a, b) ≡ pair_of y
    → (is_free_word a && is_fourth b) ≡ lone_name x
name_paired x y a b e h =
    paired a b ∙ ap (λ z. lone_name (t.Second z)) (sym (pair_is y a b h)) ∙ ap lone_name (sym (last_is x y e))

pub ruleset lone_names = (name_none, name_single, name_paired)

-- an unqualified path
abbrev lone_parts : Tree → Bool
lone_parts x = is_lone_path (t.Node (AnyPath AtType) (t.Second (t.Node (Path AtType) x)))

pub parts_none : (x : Tree) → None ≡ pair_of x → false ≡ lone_parts x
parts_none (t.Pair a b) e = cc
parts_none x e = refl

rooted : (a b : Tree) → (is_second a && is_lone_segment b) ≡ lone_parts (t.Pair a b)
rooted (t.Second z) b = refl
rooted a b = refl

pub parts_paired : (x a b : Tree) → Some (a, b) ≡ pair_of x → (is_second a && is_lone_segment b) ≡ lone_parts x
parts_paired x a b e = rooted a b ∙ ap lone_parts (sym (pair_is x a b e))

pub ruleset lone_parted = (parts_none, parts_paired)

-- a path of one name, qualified or not
no_path : (s : Style) (x : Tree) → None ≡ last_of x → false ≡ is_lone_path (t.Node (AnyPath s) x)
no_path s (t.Second (t.Node k y)) e = cc
no_path s x e = refl

pub path_none : (s : Style) (x y : Tree) → Some (AnyPath s, y) ≡ node_of x → None ≡ last_of y → false ≡ is_lone_path x
path_none s x y e h = no_path s y h ∙ ap is_lone_path (sym (node_is x (AnyPath s) y e))

pub path_second : (s : Style) (x y z : Tree) → Some (AnyPath s, y) ≡ node_of x → Some z ≡ last_of y
    → is_lone_path (t.Node (AnyPath AtType) (t.Second z)) ≡ is_lone_path x
path_second s x y z e h =
    ap (λ w. is_lone_path (t.Node (AnyPath s) w)) (sym (last_is y z h))
    ∙ ap is_lone_path (sym (node_is x (AnyPath s) y e))

pub ruleset lone_paths = (path_none, path_second)

-- a path that begins with a type in angles
abbrev angled : Tree → Bool
angled x = is_bracketed (t.Node (AnyPath AtType) (t.First (t.Node (QualifiedPath AtType) x)))

pub angled_none : (x : Tree) → None ≡ pair_of x → false ≡ angled x
angled_none (t.Pair a b) e = cc
angled_none x e = refl

one_part : (a b : Tree) → None ≡ pair_of b → false ≡ angled (t.Pair a b)
one_part a (t.Pair b c) e = cc
one_part a b e = refl

two_parts : (a b c : Tree) → None ≡ pair_of c → false ≡ angled (t.Pair a (t.Pair b c))
two_parts a b (t.Pair c d) e = cc
two_parts a b c e = refl

three_parts : (a b c d : Tree) → (is_second c && is_ident_type b) ≡ angled (t.Pair a (t.Pair b (t.Pair c d)))
three_parts a b (t.Second c) d = refl
three_parts a b c d = refl

pub angled_one : (x a b : Tree) → Some (a, b) ≡ pair_of x → None ≡ pair_of b → false ≡ angled x
angled_one x a b e h = one_part a b h ∙ ap angled (sym (pair_is x a b e))

pub angled_two : (x a y b c : Tree) → Some (a, y) ≡ pair_of x → Some (b, c) ≡ pair_of y → None ≡ pair_of c
    → false ≡ angled x
angled_two x a y b c e h i =
    two_parts a b c i ∙ ap (λ z. angled (t.Pair a z)) (sym (pair_is y b c h)) ∙ ap angled (sym (pair_is x a y e))

pub angled_three : (x a y b z c d : Tree) → Some (a, y) ≡ pair_of x → Some (b, z) ≡ pair_of y → Some (c, d) ≡ pair_of z
    → (is_second c && is_ident_type b) ≡ angled x
angled_three x a y b z c d e h i =
    three_parts a b c d ∙ ap (λ w. angled (t.Pair a (t.Pair b w))) (sym (pair_is z c d i))
    ∙ ap (λ w. angled (t.Pair a w)) (sym (pair_is y b z h)) ∙ ap angled (sym (pair_is x a y e))

pub ruleset bracketed_parts = (angled_none, angled_one, angled_two, angled_three)

no_angle : (s : Style) (x : Tree) → None ≡ first_of x → false ≡ is_bracketed (t.Node (AnyPath s) x)
no_angle s (t.First y) e = cc
no_angle s x e = refl

pub bracketed_none : (s : Style) (x y : Tree) → Some (AnyPath s, y) ≡ node_of x → None ≡ first_of y
    → false ≡ is_bracketed x
bracketed_none s x y e h = no_angle s y h ∙ ap is_bracketed (sym (node_is x (AnyPath s) y e))

pub bracketed_first : (s : Style) (x y z : Tree) → Some (AnyPath s, y) ≡ node_of x → Some z ≡ first_of y
    → is_bracketed (t.Node (AnyPath AtType) (t.First z)) ≡ is_bracketed x
bracketed_first s x y z e h =
    ap (λ w. is_bracketed (t.Node (AnyPath s) w)) (sym (first_is y z h))
    ∙ ap is_bracketed (sym (node_is x (AnyPath s) y e))

pub ruleset bracketed_paths = (bracketed_none, bracketed_first)

-- an argument that is a literal, and one that is a lifetime
middle_is : (x y : Tree) → Some y ≡ middle_of x → x ≡ t.Second (t.First y)
middle_is (t.Second (t.First z)) y e = cc
middle_is x y e = cc

chosen : (y : Tree) → is_choice y ≡ is_constant (t.Second (t.First y))
chosen (t.First z) = refl
chosen (t.Second z) = refl
chosen y = refl

pub constant_middle : (x y : Tree) → Some y ≡ middle_of x → is_choice y ≡ is_constant x
constant_middle x y e = chosen y ∙ ap is_constant (sym (middle_is x y e))

pub constant_none : (x : Tree) → None ≡ middle_of x → false ≡ is_constant x
constant_none (t.Second (t.First z)) e = cc
constant_none x e = refl

pub ruleset literals = (constant_middle, constant_none)

argued : (x : Tree) → (not (is_constant x) && has the_lifetime x) ≡ is_lifetime_read (t.Node AnArgument x)
argued (t.Second (t.First (t.First x))) = refl
argued (t.Second (t.First (t.Second x))) = refl
argued x = refl

pub lifetimes : (x y : Tree) → Some (AnArgument, y) ≡ node_of x
    → (not (is_constant y) && has the_lifetime y) ≡ is_lifetime_read x
lifetimes x y e = argued y ∙ ap is_lifetime_read (sym (node_is x AnArgument y e))
