-- The first word of a macro's path, among items: what may stand there, by its place.
use Rattle.std.specs.Prelude.{ℕ, Bool, true, false, ◌&&◌, ◌||◌, not, codes, List, []}
use Rattle.syn_grammar.specs.Kind.{InForeign, InTrait, ItemMacro, Place}
use Rattle.syn_grammar.specs.Tree.{Tree, AWord, First, Node, Pair, Second}
use Rattle.rust_leaf.specs.Keywords.{same_text}

abbrev pub first_word : Tree → List ℕ
first_word (First (Pair (AWord cs) y)) = cs
first_word (Second (Pair (AWord cs) y)) = cs
first_word _ = []

-- no other stands behind it
abbrev pub is_last_word : Tree → Bool
is_last_word (Second (Pair w (Second (Second y)))) = true
is_last_word _ = false

-- default begins the path of one in an extern block, in a trait of none, and else where it is all of the path
abbrev pub may_be_default : Place → Bool → Bool
may_be_default InForeign b = true
may_be_default InTrait b = false
may_be_default p b = b

abbrev pub is_own_word : Place → List ℕ → Bool → Bool
is_own_word p cs b =
    not (same_text (codes "Self") cs) && (not (same_text (codes "default") cs) || may_be_default p b)

abbrev pub has_own_word : Place → Tree → Bool
has_own_word p w = is_own_word p (first_word w) (is_last_word w)

abbrev pub is_plain_path : Place → Tree → Bool
is_plain_path p (Pair (Second c) (Node k y)) = has_own_word p y
is_plain_path p _ = true

abbrev pub has_plain_path : Place → Tree → Bool
has_plain_path p (Pair (Node k x) y) = is_plain_path p x
has_plain_path p _ = true

abbrev pub is_plain_macro : Tree → Bool
is_plain_macro (Node (ItemMacro p) x) = has_plain_path p x
is_plain_macro _ = true
