-- The tokens of a tree, by its form.
use Rattle.std.specs.Prelude.{ℕ, zero, suc}
use Rattle.std.proofs.Common.{◌≡◌, List, [], ◌∷◌, ◌++◌, refl, sym, ap, ◌∙◌, append_assoc}
use Rattle.proc_macro2.specs.Token.{Punct}
use Rattle.syn_grammar.specs.Tree as t
use Rattle.syn_grammar.specs.Tree.{Tree, flat}
use Rattle.reader_tree.specs.declared.tree.Element.{Element}
use Rattle.reader_tree.specs.Forms.{seconds, elements}

pub flat_seconds : (n : ℕ) (x : Tree) → flat (seconds n x) ≡ flat x
flat_seconds zero x = refl
flat_seconds (suc n) x = flat_seconds n x

-- the elements that a mark follows, and the last one
pub flat_elements : (c : ℕ) (es : List Element) (y : Tree)
    → flat (elements c es y) ≡ flat (elements c es t.End) ++ flat y
flat_elements c [] y = refl
flat_elements c (e ∷ es) y =
    ap (λ ts. flat e.tree ++ Punct c e.spacing ∷ ts) (flat_elements c es y)
    ∙ sym (append_assoc (flat e.tree) (Punct c e.spacing ∷ flat (elements c es t.End)) (flat y))
