-- Turns and elements, each with the entries of its tokens, one behind the other.
use Rattle.std.specs.Prelude.{List, [], ◌∷◌, Option, Some, None, length, take, drop, slice_get, suc}
use Rattle.syn_buffer.specs.declared.entry.Entry.{Entry}
use Rattle.syn_grammar.specs.Tree.{Tree, flat}
use Rattle.reader_tree.specs.declared.tree.Element.{Element}

-- each turn
abbrev pub parted : List Tree → List Entry → List (Tree × List Entry)
parted [] es = []
parted (x ∷ xs) es = (x, take (length (flat x)) es) ∷ parted xs (drop (length (flat x)) es)

-- the last element, which no mark follows
abbrev pub ended : Option Tree → List Entry → List (Tree × List Entry × Option Entry)
ended None es = []
ended (Some x) es = (x, es, None) ∷ []

-- each element, and the mark behind it
abbrev pub listed : List Element → Option Tree → List Entry → List (Tree × List Entry × Option Entry)
listed [] o es = ended o es
listed (e ∷ xs) o es =
    (e.tree, take (length (flat e.tree)) es, slice_get es (length (flat e.tree)))
    ∷ listed xs o (drop (suc (length (flat e.tree))) es)
