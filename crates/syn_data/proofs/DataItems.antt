-- That an item which is none of a struct, an enum and a union is no item of data.
use Rattle.std.specs.Prelude.{◌≡◌}
use Rattle.std.proofs.Common.{subst, sym}
use Rattle.syn_grammar.specs.Gram as g
use Rattle.syn_grammar.specs.Gram.{Gram, Verdict}
use Rattle.syn_grammar.specs.Kind as k
use Rattle.syn_grammar.specs.Part.{choice}
use Rattle.syn_grammar.specs.Table.{table}
use Rattle.syn_grammar.specs.Tree.{Tree, Node}
use Rattle.syn_part.specs.Kept.{IsFirst, IsKept}
use Rattle.syn_part.specs.Shape.{IsShaped}
use Rattle.syn_data.specs.Derive.{HasData, IsDataItem, IsItemKind, form_of, item_entry, item_inside}

-- each of these kinds has the entry of an item
has_parts : (j : k.Kind) (y : Tree) → IsItemKind j
    → ((v : Tree → Verdict) (a b c : Gram) → IsShaped y (item_entry v a b c) → ⊥)
    → IsShaped y (table j) → ⊥
unfolding table
has_parts k.AnItem y h f s = f _ _ _ _ s
has_parts k.ItemStruct y h f s = f _ _ _ _ s
has_parts k.ItemEnum y h f s = f _ _ _ _ s
has_parts k.ItemUnion y h f s = f _ _ _ _ s
has_parts _ y h f s = absurd h

pub no_node : (x : Tree) → ((j : k.Kind) → IsShaped x (g.ref j) → ⊥) → IsDataItem x → ⊥
no_node x f d = f d.0 d.3

pub no_parts : (x y : Tree) (i : k.Kind) → x ≡ Node i y
    → ((v : Tree → Verdict) (a b c : Gram) → IsFirst y → IsShaped y (item_entry v a b c) → ⊥) → IsDataItem x → ⊥
no_parts x y i e f d =
    let s : IsShaped (Node i y) (g.ref d.0) = subst (λ z. IsShaped z (g.ref d.0)) e d.3 in
    let kept : IsKept (Node i y) = subst IsKept e d.2 in
    has_parts i y (subst IsItemKind (sym s.0) d.1) (λ v a b c. f v a b c kept) s.1

pub no_form : (x a v y : Tree) (i : k.Kind) → x ≡ Node i (item_inside a v y) → (HasData (choice y) → ⊥)
    → IsDataItem x → ⊥
no_form x a v y i e f d = f (subst (λ z. HasData (form_of z)) e d.4)

pub ruleset no_data = (no_node, no_parts, no_form)
