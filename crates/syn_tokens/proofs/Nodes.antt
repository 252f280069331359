-- Nodes that are put behind others, and those of a tree by its form.
use Rattle.std.proofs.Common.{◌≡◌, ℕ, List, [], ◌∷◌, ◌++◌, map, refl, sym, ap, ◌∙◌, append_assoc}
use Rattle.std.specs.Prelude.{zero, suc}
use Rattle.std.proofs.lemmas.List.{append-nil}
use Rattle.rust_leaf.specs.declared.punct.Spacing.{Spacing}
use Rattle.syn_grammar.specs.Tree as t
use Rattle.syn_grammar.specs.Tree.{Tree}
use Rattle.reader_tree.specs.Forms.{elements, mark_of, seconds}
use Rattle.reader_tree.specs.declared.tree.Element.{Element}
use Rattle.syn_tokens.specs.Nodes.{nodes}

pub one : {A B : Type 0} (f : A → B) (xs : List A) (x : A) → map f (xs ++ x ∷ []) ≡ map f xs ++ f x ∷ []
one f [] x = refl
one f (y ∷ xs) x = ap (λ zs. f y ∷ zs) (one f xs x)

pub of_seconds : (n : ℕ) (x : Tree) → nodes (seconds n x) ≡ nodes x
of_seconds zero x = refl
of_seconds (suc n) x = of_seconds n x

pub of_mark : (cs : List ℕ) (spacing : Spacing) → nodes (mark_of cs spacing) ≡ []
of_mark [] spacing = refl
of_mark (c ∷ cs) spacing = refl

pub of_elements : (c : ℕ) (es : List Element) (y : Tree)
    → nodes (elements c es y) ≡ nodes (elements 0 es t.End) ++ nodes y
of_elements c [] y = refl
of_elements c (e ∷ es) y = ap (λ xs. nodes e.tree ++ xs) (of_elements c es y)
    ∙ sym (append_assoc (nodes e.tree) (nodes (elements 0 es t.End)) (nodes y))

pub ruleset puts = (append_assoc, append-nil)

pub ruleset forms = (of_seconds, of_mark, of_elements, append_assoc, append-nil)
