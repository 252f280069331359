-- What the conditions of forms say of a tree, by what stands in it.
use Rattle.std.specs.Prelude.{◌≡◌, nat_eq, Bool, false, Some, None, refl}
use Rattle.std.proofs.Common.{ap, ◌∙◌, sym}
use Rattle.syn_grammar.specs.Kind as k
use Rattle.syn_grammar.specs.Kind.{Kind, AMacro, Delimited, ExprMacro}
use Rattle.syn_grammar.specs.Tree.{Tree, Nil, Pair, First, Second, Node, Alone, Front}
use Rattle.syn_grammar.specs.Forms.{is_block_like, is_brace_macro, is_range, kind_of, level}
use Rattle.reader_table.specs.Kinds.{kind_of as named}
use Rattle.reader_table.specs.declared.kind.Kind as g
use Rattle.reader_table.specs.declared.kind.Kind.TheVariants as kinds
use Rattle.reader_tree.specs.Shapes.{is_middle, node_of, alone_of, front_of, pair_of}
use Rattle.reader_verdicts.proofs.Shapes.{node_is, alone_is, front_is, pair_is}

block_front : (k : g.Kind) (y x : Tree) → (k ≡ kinds.ExprAttributed → ⊥) → false ≡ is_block_like (Front (named k) y x)
block_front kinds.ExprAttributed y x h = absurd (h refl)
block_front k y x h = refl

pub block_off : (t : Tree) (k : g.Kind) (x : Tree) → Some (named k, x) ≡ front_of t → (k ≡ kinds.ExprAttributed → ⊥)
    → false ≡ is_block_like t
block_off t k x e h = let f = front_is t (named k) x e in rw f.1 (block_front k f.0 x h)

block_own : (k : Kind) (y z : Tree) → is_block_like (Alone k y) ≡ is_block_like (Alone k z)
block_own k.ExprIf y z = refl
block_own k y z = refl

pub block_alone : (t : Tree) (k : Kind) (y : Tree) → Some (k, y) ≡ alone_of t → is_block_like (Alone k Nil)
    ≡ is_block_like t
block_alone t k y e = rw (alone_is t k y e) (block_own k Nil y)

range_front : (k : g.Kind) (y x : Tree) → (k ≡ kinds.ExprAttributed → ⊥) → nat_eq (level (named k)) 3
    ≡ is_range (Front (named k) y x)
range_front kinds.ExprAttributed y x h = absurd (h refl)
range_front k y x h = refl

pub range_off : (t : Tree) (k : g.Kind) (x : Tree) → Some (named k, x) ≡ front_of t → (k ≡ kinds.ExprAttributed → ⊥)
    → nat_eq (level (named k)) 3 ≡ is_range t
range_off t k x e h = let f = front_is t (named k) x e in rw f.1 (range_front k f.0 x h)

pub range_else : (t : Tree) → None ≡ front_of t → nat_eq (level (kind_of t)) 3 ≡ is_range t
range_else (Front k y x) e = cc
range_else t e = refl

abbrev called : Tree → Bool
called x = is_brace_macro (Alone ExprMacro x)

-- what is said of a macro's group
abbrev pub in_braces : Tree → Bool
in_braces g = called (Node AMacro (Pair Nil (Pair Nil g)))

braces_node : (k : g.Kind) (x : Tree) → (k ≡ kinds.Delimited → ⊥) → false ≡ in_braces (Node (named k) x)
braces_node kinds.Delimited x h = absurd (h refl)
braces_node k x h = refl

pub in_braces_off : (t : Tree) (k : g.Kind) (x : Tree) → Some (named k, x) ≡ node_of t → (k ≡ kinds.Delimited → ⊥)
    → false ≡ in_braces t
in_braces_off t k x e h = rw (node_is t (named k) x e) (braces_node k x h)

braces_middle : (x : Tree) → is_middle x ≡ in_braces (Node Delimited x)
braces_middle (Second (First x)) = refl
braces_middle (Second x) = refl
braces_middle x = refl

pub in_braces_middle : (t : Tree) (k : g.Kind) (x : Tree) → Some (named k, x) ≡ node_of t → k ≡ kinds.Delimited
    → is_middle x ≡ in_braces t
in_braces_middle t k x e h = rw (node_is t (named k) x e, h) (braces_middle x)

macro_group : (p s g : Tree) → called (Node AMacro (Pair Nil (Pair Nil g))) ≡ called (Node AMacro (Pair p (Pair s g)))
macro_group p s (Node Delimited (Second (First x))) = refl
macro_group p s g = refl

macro_path : (p b : Tree) → called (Node AMacro (Pair Nil b)) ≡ called (Node AMacro (Pair p b))
macro_path p (Pair s (Node Delimited (Second (First x)))) = refl
macro_path p b = refl

pub macro_behind : (t s g : Tree) → Some (s, g) ≡ pair_of t → called (Node AMacro (Pair Nil (Pair Nil g)))
    ≡ called (Node AMacro (Pair Nil t))
macro_behind t s g e = rw (pair_is t s g e) (macro_group Nil s g)

pub macro_call : (t x p b : Tree) → Some (AMacro, x) ≡ node_of t → Some (p, b) ≡ pair_of x
    → called (Node AMacro (Pair Nil b)) ≡ called t
macro_call t x p b e f = macro_path p b ∙ ap (λ y. called (Node AMacro y)) (sym (pair_is x p b f))
    ∙ ap called (sym (node_is t AMacro x e))

macro_node : (k : g.Kind) (x : Tree) → (k ≡ kinds.AMacro → ⊥) → false ≡ called (Node (named k) x)
macro_node kinds.AMacro x h = absurd (h refl)
macro_node k x h = refl

pub macro_off : (t : Tree) (k : g.Kind) (x : Tree) → Some (named k, x) ≡ node_of t → (k ≡ kinds.AMacro → ⊥) → false
    ≡ called t
macro_off t k x e h = rw (node_is t (named k) x e) (macro_node k x h)

macro_front : (k : g.Kind) (y x : Tree) → (k ≡ kinds.ExprAttributed → ⊥) → false ≡ is_brace_macro (Front (named k) y x)
macro_front kinds.ExprAttributed y x h = absurd (h refl)
macro_front k y x h = refl

pub braces_off : (t : Tree) (k : g.Kind) (x : Tree) → Some (named k, x) ≡ front_of t → (k ≡ kinds.ExprAttributed → ⊥)
    → false ≡ is_brace_macro t
braces_off t k x e h = let f = front_is t (named k) x e in rw f.1 (macro_front k f.0 x h)

macro_alone : (k : g.Kind) (y : Tree) → (k ≡ kinds.ExprMacro → ⊥) → false ≡ is_brace_macro (Alone (named k) y)
macro_alone kinds.ExprMacro y h = absurd (h refl)
macro_alone k y h = refl

pub braces_alone : (t : Tree) (k : g.Kind) (y : Tree) → Some (named k, y) ≡ alone_of t → (k ≡ kinds.ExprMacro → ⊥)
    → false ≡ is_brace_macro t
braces_alone t k y e h = rw (alone_is t (named k) y e) (macro_alone k y h)
