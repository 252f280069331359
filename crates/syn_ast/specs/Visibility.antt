-- The trees that visibilities are.
use Rattle.syn_part.specs.Leaves.{word_tree}
use Rattle.syn_part.specs.Sub.{worded_tree}
use Rattle.syn_part.specs.declared.leaf.Delimiters.{Delimiters}
use Rattle.syn_ast.specs.declared.visibility.RestrictedTo.{RestrictedTo}
use Rattle.syn_ast.specs.declared.visibility.Restriction.{Restriction}
use Rattle.syn_ast.specs.declared.visibility.Visibility.{Visibility}
use Rattle.syn_ast.specs.declared.visibility.RestrictedTo.TheVariants as places
use Rattle.syn_ast.specs.declared.visibility.Visibility.TheVariants as visibilities
use Rattle.syn_grammar.specs.Kind as k
use Rattle.syn_grammar.specs.Name as n
use Rattle.syn_grammar.specs.Tree as t
use Rattle.syn_grammar.specs.Tree.{Tree}

-- in these parentheses in and a path, or a keyword: (in a::b), or (crate), (self) or (super)
abbrev pub restriction_inside : Delimiters → RestrictedTo → Tree
restriction_inside d (places.Path x) = t.First (t.Group d.delimiter (worded_tree x))
restriction_inside d (places.Keyword i) = t.Second (t.Group d.delimiter (word_tree i))

-- a restriction: its parentheses, and what stands in them
abbrev pub restriction_tree : Restriction → Tree
restriction_tree x = restriction_inside x.paren_token x.path

-- pub, pub and a restriction, or nothing
abbrev pub visibility_inside : Visibility → Tree
visibility_inside (visibilities.Public i) = t.First (t.Pair (t.Called n.the_pub (word_tree i)) (t.Second t.Nil))
visibility_inside (visibilities.Restricted x) =
    t.First (t.Pair (t.Called n.the_pub (word_tree x.pub_token)) (t.First (restriction_tree x.restriction)))
visibility_inside visibilities.Inherited = t.Second t.Nil

-- a visibility, as a node
abbrev pub visibility : Visibility → Tree
visibility x = t.Node k.Visibility (visibility_inside x)
