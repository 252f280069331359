-- Leaves that are put behind others, and the tokens of a tree by its form.
use Rattle.std.proofs.Common.{◌≡◌, List, [], ◌∷◌, ◌++◌, refl, sym, ap, ◌∙◌, append_assoc}
use Rattle.std.proofs.lemmas.List.{append-nil}
use Rattle.reader_tree.proofs.Flat.{flat_seconds, flat_elements}
use Rattle.syn_tokens.specs.Leaves.{leaf_tokens, leaves_tokens}
use Rattle.syn_tokens.specs.declared.leaf.Leaf.{Leaf}

pub one : (ls : List Leaf) (l : Leaf) → leaves_tokens (ls ++ l ∷ []) ≡ leaves_tokens ls ++ leaf_tokens l
one [] l = append-nil (leaf_tokens l)
one (k ∷ ls) l = ap (λ ts. leaf_tokens k ++ ts) (one ls l)
    ∙ sym (append_assoc (leaf_tokens k) (leaves_tokens ls) (leaf_tokens l))

pub ruleset puts = (append_assoc, append-nil)

pub ruleset forms = (flat_seconds, flat_elements, append_assoc, append-nil)
