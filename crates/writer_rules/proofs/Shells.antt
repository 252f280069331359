-- Which operands are put in parentheses, by the form of trees.
use Rattle.std.specs.Prelude.{◌≡◌, true, false, cond, ◌&&◌, ◌||◌, Some, None, refl}
use Rattle.std.proofs.Common.{ap, ◌∙◌, sym}
use Rattle.syn_grammar.specs.Kind.{Kind, ExprAttributed}
use Rattle.syn_grammar.specs.Forms.{is_range, level, takes}
use Rattle.syn_grammar.specs.Tree as t
use Rattle.syn_grammar.specs.Tree.{Tree}
use Rattle.reader_tree.specs.Shapes.{front_of}
use Rattle.writer_rules.specs.Operands.{infix_of, is_attributed}
use Rattle.writer_rules.proofs.Operands.{infix_is}
use Rattle.writer_rules.proofs.SeenForms.{same_pair, some_none}
use Rattle.laws_ranges.specs.Shelled.{goes_in, has_shell, is_lone_range, is_shelled}

pub front_is : (x : Tree) (k : Kind) (y : Tree) → Some (k, y) ≡ front_of x → (z : Tree) × (x ≡ t.Front k z y)
front_is (t.Front j z w) k y e = let s = same_pair k j y w e in (z, cc (s.0, s.1))
front_is x k y e = absurd (some_none (k, y) e)

-- a range behind attributes
pub shelled_is : (k : Kind) (x : Tree) → (is_attributed k && is_lone_range x) ≡ is_shelled k x
shelled_is ExprAttributed x = refl
shelled_is k x = refl

pub ruleset shelled = (shelled_is)

shell_front : (k : Kind) (y x : Tree) → (is_attributed k && is_range x) ≡ has_shell (t.Front k y x)
shell_front ExprAttributed y x = refl
shell_front k y x = refl

pub shell_some : (x : Tree) (k : Kind) (y : Tree) → Some (k, y) ≡ front_of x
    → (is_attributed k && is_range y) ≡ has_shell x
shell_some x k y e = let f = front_is x k y e in shell_front k f.0 y ∙ ap has_shell (sym f.1)

pub shell_none : (x : Tree) → None ≡ front_of x → false ≡ has_shell x
shell_none (t.Front k y z) e = cc
shell_none x e = refl

pub shell_then : (x : Tree) (k : Kind) (y : Tree) → Some (k, y) ≡ front_of x → is_attributed k ≡ true
    → is_range y ≡ has_shell x
shell_then x k y e h = ap (λ b. b && is_range y) (sym h) ∙ shell_some x k y e

pub shell_else : (x : Tree) (k : Kind) (y : Tree) → Some (k, y) ≡ front_of x → is_attributed k ≡ false
    → false ≡ has_shell x
shell_else x k y e h = ap (λ b. b && is_range y) (sym h) ∙ shell_some x k y e

pub ruleset has_shells = (shell_some, shell_none)

-- what a form behind would go into
pub goes_shelled : (k j : Kind) (x y : Tree) → Some (j, y) ≡ front_of x → is_shelled j y ≡ true
    → takes (level j) (level k) ≡ goes_in k x
goes_shelled k j x y e h =
    let f = front_is x j y e in
    ap (λ b. cond b (takes (level j) (level k)) ((takes (level j) (level k) && has_shell y) || goes_in k y)) (sym h)
    ∙ ap (goes_in k) (sym f.1)

pub goes_front : (k j : Kind) (x y : Tree) → Some (j, y) ≡ front_of x → is_shelled j y ≡ false
    → ((takes (level j) (level k) && has_shell y) || goes_in k y) ≡ goes_in k x
goes_front k j x y e h =
    let f = front_is x j y e in
    ap (λ b. cond b (takes (level j) (level k)) ((takes (level j) (level k) && has_shell y) || goes_in k y)) (sym h)
    ∙ ap (goes_in k) (sym f.1)

pub goes_infix : (k j : Kind) (x l y r : Tree) → Some (j, l, y, r) ≡ infix_of x
    → ((takes (level j) (level k) && has_shell r) || goes_in k r) ≡ goes_in k x
goes_infix k j x l y r e = ap (goes_in k) (sym (infix_is x j l y r e))

pub goes_none : (k : Kind) (x : Tree) → None ≡ front_of x → None ≡ infix_of x → false ≡ goes_in k x
goes_none k (t.Front j y z) e f = cc
goes_none k (t.Infix l j y r) e f = cc
goes_none k x e f = refl

pub ruleset going_in = (goes_shelled, goes_front, goes_infix, goes_none)
