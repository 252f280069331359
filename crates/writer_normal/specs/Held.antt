-- How lists are held.
use Rattle.rust_leaf.specs.declared.punct.Spacing.TheVariants.{Alone as Apart}
use Rattle.syn_grammar.specs.Kept.{kept}
use Rattle.syn_grammar.specs.Tree.{Tree}
use Rattle.reader_tree.specs.declared.tree.Element.{Element}

-- an element with its mark set apart
abbrev pub apart_element : Tree → Element
apart_element x = record {
  tree = x;
  spacing = Apart;
}

-- an element, as it is held
abbrev pub element_held : Element → Element
element_held e = record {
  tree = kept e.tree;
  spacing = Apart;
}
