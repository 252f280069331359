-- What a kind's tree holds of what was read, by its form.
use Rattle.std.specs.Prelude.{◌≡◌, Bool, true, false, List, ℕ, Option, Some, None, refl}
use Rattle.std.proofs.Common.{ap, ◌∙◌, sym}
use Rattle.syn_grammar.specs.Kind.{Kind, AtType, AnyPath, Body, SomeBounds, ExprLit, ExprPath}
use Rattle.syn_grammar.specs.Kept.{as_path, atom, block_atom, constant_argument, constant_default, forget, held}
use Rattle.syn_grammar.specs.Kept.{listed_bound, lone_colon, named, not_last, plain_index, plain_member, unsafe_path}
use Rattle.syn_grammar.specs.Kept.{wild}
use Rattle.syn_grammar.specs.Name.{the_bounds, the_pattern, the_type, the_unnamed}
use Rattle.syn_grammar.specs.Words.{plain_decimal}
use Rattle.syn_grammar.specs.Tree as t
use Rattle.syn_grammar.specs.Tree.{Tree}
use Rattle.reader_table.specs.Kinds.{kind_of}
use Rattle.reader_table.specs.declared.kind.Kind as g
use Rattle.reader_table.specs.declared.kind.Kind.TheVariants as kinds
use Rattle.reader_table.specs.declared.kind.Plus.{Plus}
use Rattle.reader_table.specs.declared.kind.Style.{Style}
use Rattle.reader_table.specs.declared.kind.Position.{Position}
use Rattle.reader_table.specs.declared.kind.Place.{Place}
use Rattle.reader_tree.specs.Shapes.{first_of, node_of, pair_of}
use Rattle.writer_rules.specs.Operands.{first_behind}
use Rattle.writer_rules.specs.Seen.{is_choice, text_of_literal}
use Rattle.writer_rules.proofs.SeenForms.{first_is, node_is, pair_is, some_none}
use Rattle.writer_normal.specs.Peeled.{argued_block, argued_literal, default_behind, is_body, lone_type, second_of}
use Rattle.writer_normal.proofs.Peeling.{second_is}

-- behind seconds
first_at_one : (x y : Tree) → Some y ≡ first_behind x 1 → x ≡ t.Second (t.First y)
first_at_one (t.Second (t.First z)) y e = cc
first_at_one x y e = absurd (some_none y e)

first_at_two : (x y : Tree) → Some y ≡ first_behind x 2 → x ≡ t.Second (t.Second (t.First y))
first_at_two (t.Second (t.Second (t.First z))) y e = cc
first_at_two x y e = absurd (some_none y e)

abbrev third : Tree → Tree
third x = t.Second (t.Second (t.Second x))

abbrev lone : Tree → Tree
lone y = t.Second (t.Second (t.First (t.Called the_unnamed y)))

lone_is : (x y : Tree) → Some y ≡ lone_type x → x ≡ lone y
lone_is (t.Second (t.Second (t.First (t.Called the_unnamed z)))) y e = cc
lone_is x y e = absurd (some_none y e)

-- a parameter
pub named_single : (x : Tree) → None ≡ pair_of x → x ≡ named x
named_single (t.Pair a b) e = absurd (some_none (a, b) (sym e))
named_single x e = refl

named_stays : (a b : Tree) → None ≡ lone_type b → t.Pair a b ≡ named (t.Pair a b)
named_stays a (t.Second (t.Second (t.First (t.Called the_unnamed y)))) e = absurd (some_none y (sym e))
named_stays a b e = refl

pub named_other : (x a b : Tree) → Some (a, b) ≡ pair_of x → None ≡ lone_type b → x ≡ named x
named_other x a b e h = let is = pair_is x a b e in is ∙ named_stays a b h ∙ ap named (sym is)

pub named_type : (x a b y : Tree) → Some (a, b) ≡ pair_of x → Some y ≡ lone_type b
    → t.Pair a (third (t.Pair (t.Called the_pattern wild) (t.Pair lone_colon (t.Second (t.Called the_type y)))))
    ≡ named x
named_type x a b y e h =
    ap (λ z. named (t.Pair a z)) (sym (lone_is b y h)) ∙ ap named (sym (pair_is x a b e))

pub ruleset nameds = (named_single, named_other, named_type)

-- a bound
pub bound_single : (x : Tree) → None ≡ pair_of x → x ≡ listed_bound x
bound_single (t.Pair a b) e = absurd (some_none (a, b) (sym e))
bound_single x e = refl

bounds_stay : (a b : Tree) → None ≡ second_of b → t.Pair a b ≡ listed_bound (t.Pair a b)
bounds_stay a (t.Second c) e = absurd (some_none c (sym e))
bounds_stay a b e = refl

pub bound_several : (x a b : Tree) → Some (a, b) ≡ pair_of x → None ≡ second_of b → x ≡ listed_bound x
bound_several x a b e h = let is = pair_is x a b e in is ∙ bounds_stay a b h ∙ ap listed_bound (sym is)

pub bound_one : (x a b c : Tree) → Some (a, b) ≡ pair_of x → Some c ≡ second_of b
    → t.Pair a (t.Called the_bounds (t.Node SomeBounds (t.First (t.Final c)))) ≡ listed_bound x
bound_one x a b c e h =
    ap (λ z. listed_bound (t.Pair a z)) (sym (second_is b c h)) ∙ ap listed_bound (sym (pair_is x a b e))

pub ruleset bounds = (bound_single, bound_several, bound_one)

-- unsafe
pub unsafe_single : (x : Tree) → None ≡ pair_of x → x ≡ unsafe_path x
unsafe_single (t.Pair a b) e = absurd (some_none (a, b) (sym e))
unsafe_single x e = refl

safe_stays : (a b : Tree) → None ≡ first_of a → t.Pair a b ≡ unsafe_path (t.Pair a b)
safe_stays (t.First c) b e = absurd (some_none c (sym e))
safe_stays a b e = refl

pub unsafe_other : (x a b : Tree) → Some (a, b) ≡ pair_of x → None ≡ first_of a → x ≡ unsafe_path x
unsafe_other x a b e h = let is = pair_is x a b e in is ∙ safe_stays a b h ∙ ap unsafe_path (sym is)

pub unsafe_word : (x a b w : Tree) → Some (a, b) ≡ pair_of x → Some w ≡ first_of a
    → t.Pair (t.Second (as_path w)) b ≡ unsafe_path x
unsafe_word x a b w e h =
    ap (λ z. unsafe_path (t.Pair z b)) (sym (first_is a w h)) ∙ ap unsafe_path (sym (pair_is x a b e))

pub ruleset unsafes = (unsafe_single, unsafe_other, unsafe_word)

-- arguments
pub literal_chosen : (x : Tree) → is_choice x ≡ true → t.Second (t.First (atom ExprLit x)) ≡ argued_literal x
literal_chosen (t.First y) e = refl
literal_chosen (t.Second y) e = refl
literal_chosen x e = cc

pub literal_other : (x : Tree) → is_choice x ≡ false → t.Second (t.First x) ≡ argued_literal x
literal_other (t.First y) e = cc
literal_other (t.Second y) e = cc
literal_other x e = refl

pub ruleset literals = (literal_chosen, literal_other)

pub body_here : (x y : Tree) → Some (Body, y) ≡ node_of x → true ≡ is_body x
body_here x y e = ap is_body (sym (node_is x Body y e))

pub body_none : (x : Tree) → None ≡ node_of x → false ≡ is_body x
body_none (t.Node k y) e = absurd (some_none (k, y) (sym e))
body_none x e = refl

pub ruleset bodies = (body_here, body_none)

body_off : (k : g.Kind) (y : Tree) → (k ≡ kinds.Body → ⊥) → false ≡ is_body (t.Node (kind_of k) y)
body_off kinds.Body y h = absurd (h refl)
body_off k y h = refl

pub body_other : (x : Tree) (k : g.Kind) (y : Tree) → Some (kind_of k, y) ≡ node_of x → (k ≡ kinds.Body → ⊥)
    → false ≡ is_body x
body_other x k y e h = body_off k y h ∙ ap is_body (sym (node_is x (kind_of k) y e))

pub block_body : (x : Tree) → is_body x ≡ true → t.Second (t.Second (t.First (block_atom x))) ≡ argued_block x
block_body (t.Node Body y) e = refl
block_body x e = cc

pub block_none : (x : Tree) → is_body x ≡ false → t.Second (t.Second (t.First x)) ≡ argued_block x
block_none (t.Node Body y) e = cc
block_none x e = refl

pub ruleset blocks = (block_body, block_none)

literal_argued : (y : Tree) → argued_literal y ≡ constant_argument (t.Second (t.First y))
literal_argued (t.First z) = refl
literal_argued (t.Second z) = refl
literal_argued y = refl

block_argued : (y : Tree) → argued_block y ≡ constant_argument (t.Second (t.Second (t.First y)))
block_argued (t.Node Body z) = refl
block_argued y = refl

pub argument_literal : (x y : Tree) → Some y ≡ first_behind x 1 → argued_literal y ≡ constant_argument x
argument_literal x y e = literal_argued y ∙ ap constant_argument (sym (first_at_one x y e))

pub argument_block : (x y : Tree) → Some y ≡ first_behind x 2 → argued_block y ≡ constant_argument x
argument_block x y e = block_argued y ∙ ap constant_argument (sym (first_at_two x y e))

pub argument_none : (x : Tree) → None ≡ first_behind x 1 → None ≡ first_behind x 2 → x ≡ constant_argument x
argument_none (t.Second (t.First y)) e h = absurd (some_none y (sym e))
argument_none (t.Second (t.Second (t.First y))) e h = absurd (some_none y (sym h))
argument_none x e h = refl

pub ruleset arguments = (argument_literal, argument_block, argument_none)

-- the default of a constant parameter
pub behind_block : (x y : Tree) → Some y ≡ first_of x → block_atom y ≡ default_behind x
behind_block x y e = ap default_behind (sym (first_is x y e))

pub behind_name : (x y : Tree) → Some y ≡ second_of x
    → atom ExprPath (t.Node (AnyPath AtType) (t.Second (as_path y))) ≡ default_behind x
behind_name x y e = ap default_behind (sym (second_is x y e))

pub behind_none : (x : Tree) → None ≡ first_of x → None ≡ second_of x → t.Second x ≡ default_behind x
behind_none (t.First y) e h = absurd (some_none y (sym e))
behind_none (t.Second y) e h = absurd (some_none y (sym h))
behind_none x e h = refl

pub ruleset behinds = (behind_block, behind_name, behind_none)

default_is : (y : Tree) → default_behind y ≡ constant_default (t.Second y)
default_is (t.First z) = refl
default_is (t.Second z) = refl
default_is y = refl

pub default_literal : (x y : Tree) → Some y ≡ first_of x → atom ExprLit y ≡ constant_default x
default_literal x y e = ap constant_default (sym (first_is x y e))

pub default_second : (x y : Tree) → Some y ≡ second_of x → default_behind y ≡ constant_default x
default_second x y e = default_is y ∙ ap constant_default (sym (second_is x y e))

pub default_none : (x : Tree) → None ≡ first_of x → None ≡ second_of x → x ≡ constant_default x
default_none (t.First y) e h = absurd (some_none y (sym e))
default_none (t.Second y) e h = absurd (some_none y (sym h))
default_none x e h = refl

pub ruleset defaults = (default_literal, default_second, default_none)

-- an arm
pub last_first : (x y : Tree) → Some y ≡ first_of x → t.Second (t.Second y) ≡ not_last x
last_first x y e = ap not_last (sym (first_is x y e))

pub last_none : (x : Tree) → None ≡ first_of x → x ≡ not_last x
last_none (t.First y) e = absurd (some_none y (sym e))
last_none x e = refl

pub ruleset lasts = (last_first, last_none)

-- numbers
pub index_literal : (x : Tree) (cs : List ℕ) → Some cs ≡ text_of_literal x → t.ALiteral (plain_decimal cs)
    ≡ plain_index x
index_literal (t.ALiteral ds) cs e = let s : cs ≡ ds = cc in ap (λ es. t.ALiteral (plain_decimal es)) s
index_literal x cs e = absurd (some_none cs e)

pub index_none : (x : Tree) → None ≡ text_of_literal x → x ≡ plain_index x
index_none (t.ALiteral cs) e = absurd (some_none cs (sym e))
index_none x e = refl

pub ruleset indices = (index_literal, index_none)

pub member_index : (x y : Tree) → Some y ≡ second_of x → t.Second (plain_index y) ≡ plain_member x
member_index x y e = ap plain_member (sym (second_is x y e))

pub member_name : (x : Tree) → None ≡ second_of x → x ≡ plain_member x
member_name (t.Second y) e = absurd (some_none y (sym e))
member_name x e = refl

pub ruleset members = (member_index, member_name)

-- kinds that are held as they are
pub held_off : (k : g.Kind) → ((s : Style) → k ≡ kinds.Path s → ⊥) → ((s : Style) → k ≡ kinds.Segments s → ⊥)
    → ((s : Style) → k ≡ kinds.Segment s → ⊥) → ((s : Style) → k ≡ kinds.QualifiedPath s → ⊥)
    → ((s : Style) → k ≡ kinds.AnyPath s → ⊥) → ((s : Plus) → k ≡ kinds.AType s → ⊥)
    → ((s : Plus) → k ≡ kinds.DynType s → ⊥) → ((s : Plus) → k ≡ kinds.ImplType s → ⊥)
    → ((s : Plus) → k ≡ kinds.ReturnType s → ⊥) → ((s : Position) → k ≡ kinds.Expression s → ⊥)
    → ((s : Place) → k ≡ kinds.Signature s → ⊥) → kind_of k ≡ held (kind_of k)
unfolding held
held_off (kinds.Path s) a b c d e f g h i j l = absurd (a s refl)
held_off (kinds.Segments s) a b c d e f g h i j l = absurd (b s refl)
held_off (kinds.Segment s) a b c d e f g h i j l = absurd (c s refl)
held_off (kinds.QualifiedPath s) a b c d e f g h i j l = absurd (d s refl)
held_off (kinds.AnyPath s) a b c d e f g h i j l = absurd (e s refl)
held_off (kinds.AType s) a b c d e f g h i j l = absurd (f s refl)
held_off (kinds.DynType s) a b c d e f g h i j l = absurd (g s refl)
held_off (kinds.ImplType s) a b c d e f g h i j l = absurd (h s refl)
held_off (kinds.ReturnType s) a b c d e f g h i j l = absurd (i s refl)
held_off (kinds.Expression s) a b c d e f g h i j l = absurd (j s refl)
held_off (kinds.Signature s) a b c d e f g h i j l = absurd (l s refl)
held_off k a b c d e f g h i j l = refl

-- kinds of which nothing is forgotten
pub forget_off : (k : g.Kind) (x : Tree) → (k ≡ kinds.Parameter → ⊥) → ((s : Plus) → k ≡ kinds.DynType s → ⊥)
    → ((s : Plus) → k ≡ kinds.ImplType s → ⊥) → (k ≡ kinds.Meta → ⊥) → (k ≡ kinds.AStatement → ⊥)
    → (k ≡ kinds.Member → ⊥) → (k ≡ kinds.Index → ⊥) → (k ≡ kinds.Arm → ⊥) → (k ≡ kinds.AnArgument → ⊥)
    → (k ≡ kinds.ConstParam → ⊥) → x ≡ forget (kind_of k) x
forget_off kinds.Parameter x a b c d e f g h i j = absurd (a refl)
forget_off (kinds.DynType s) x a b c d e f g h i j = absurd (b s refl)
forget_off (kinds.ImplType s) x a b c d e f g h i j = absurd (c s refl)
forget_off kinds.Meta x a b c d e f g h i j = absurd (d refl)
forget_off kinds.AStatement x a b c d e f g h i j = absurd (e refl)
forget_off kinds.Member x a b c d e f g h i j = absurd (f refl)
forget_off kinds.Index x a b c d e f g h i j = absurd (g refl)
forget_off kinds.Arm x a b c d e f g h i j = absurd (h refl)
forget_off kinds.AnArgument x a b c d e f g h i j = absurd (i refl)
forget_off kinds.ConstParam x a b c d e f g h i j = absurd (j refl)
forget_off k x a b c d e f g h i j = refl
