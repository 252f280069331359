-- How turns and lists are made of what is in normal form.
use Rattle.std.specs.Prelude.{List, [], ◌∷◌, Option, Some, None}
use Rattle.proc_macro2.specs.Token.{Token}
use Rattle.rust_leaf.specs.declared.punct.Spacing.TheVariants.{Alone as Apart}
use Rattle.syn_grammar.specs.Kind.{Position, AnItem}
use Rattle.syn_grammar.specs.Normal.{apart_if, is_enclosed, normal_in}
use Rattle.syn_grammar.specs.Tree.{Tree, Raw, Node}
use Rattle.reader_tree.specs.declared.tree.Element.{Element}
use Rattle.reader_tree.specs.Forms.{turns}
use Rattle.reader_tree.specs.Shapes.{last_of}
use Rattle.writer_rules.specs.Operands.{statement_of}

-- turns in normal form, of which it is said what they were
abbrev pub parted : List Tree → List Tree → List Tree
parted [] ys = []
parted (x ∷ xs) [] = []
parted (x ∷ xs) (y ∷ ys) = apart_if (is_enclosed (turns xs) (turns ys)) y ∷ parted xs ys

-- an element in normal form
abbrev pub element_in : Position → Element → Element
element_in p e = record {
  tree = normal_in p e.tree;
  spacing = Apart;
}

-- the tokens of a raw item
abbrev pub raw_item : Tree → Option (List Token)
raw_item (Node AnItem (Raw ts)) = Some ts
raw_item _ = None

-- what stands in a statement, of a turn that is one
abbrev pub stated : Option Tree → Option Tree
stated None = None
stated (Some x) = statement_of x

abbrev pub stated_turn : Tree → Option Tree
stated_turn x = stated (last_of x)
