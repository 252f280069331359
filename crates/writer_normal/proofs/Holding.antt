-- What is held of a tree, by its form.
use Rattle.std.specs.Prelude.{◌≡◌, ℕ, zero, suc, List, [], ◌∷◌, ◌++◌, map, refl}
use Rattle.std.proofs.Common.{ap, ◌∙◌, sym}
use Rattle.rust_leaf.specs.declared.punct.Spacing.{Spacing}
use Rattle.rust_leaf.specs.declared.punct.Spacing.TheVariants.{Alone as Apart}
use Rattle.syn_grammar.specs.Kept.{kept}
use Rattle.syn_grammar.specs.Tree as t
use Rattle.syn_grammar.specs.Tree.{Tree}
use Rattle.reader_tree.specs.declared.tree.Element.{Element}
use Rattle.reader_tree.specs.Forms.{mark_of, seconds, turns, elements}
use Rattle.writer_normal.specs.Held.{element_held}

-- a mark, and a choice
pub kept_mark : (cs : List ℕ) (spacing : Spacing) → kept (mark_of cs spacing) ≡ mark_of cs Apart
kept_mark [] spacing = refl
kept_mark (c ∷ cs) spacing = refl

pub kept_seconds : (n : ℕ) (x : Tree) → kept (seconds n x) ≡ seconds n (kept x)
kept_seconds zero x = refl
kept_seconds (suc n) x = ap t.Second (kept_seconds n x)

pub ruleset forms = (kept_mark, kept_seconds)

-- turns
kept_turns : (xs : List Tree) → kept (turns xs) ≡ turns (map kept xs)
kept_turns [] = refl
kept_turns (x ∷ xs) = ap (t.Again (kept x)) (kept_turns xs)

pub each_kept : (xs ys : List Tree) → ys ≡ map kept xs → turns ys ≡ kept (turns xs)
each_kept xs ys e = ap turns e ∙ sym (kept_turns xs)

pub ruleset each = (each_kept)

-- elements
kept_elements : (c : ℕ) (es : List Element) (y : Tree) → kept (elements c es y)
    ≡ elements c (map element_held es) (kept y)
kept_elements c [] y = refl
kept_elements c (e ∷ es) y = ap (t.More (kept e.tree) c Apart) (kept_elements c es y)

pub held_none : (c : ℕ) (es ds : List Element) → ds ≡ map element_held es
    → elements c ds t.End ≡ kept (elements c es t.End)
held_none c es ds e = ap (λ xs. elements c xs t.End) e ∙ sym (kept_elements c es t.End)

pub held_some : (c : ℕ) (es ds : List Element) (x y : Tree) → ds ≡ map element_held es → y ≡ kept x
    → elements c ds (t.Final y) ≡ kept (elements c es (t.Final x))
held_some c es ds x y e f =
    ap (λ xs. elements c xs (t.Final y)) e ∙ ap (λ z. elements c (map element_held es) (t.Final z)) f
    ∙ sym (kept_elements c es (t.Final x))
