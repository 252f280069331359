-- The trees that impls are, and the items in them.
use Rattle.std.specs.Prelude.{None, Option, Some}
use Rattle.rust_leaf.specs.declared.ident.Ident.{Ident}
use Rattle.syn_part.specs.Leaves.{optional_tree, turns_tree, word_tree}
use Rattle.syn_part.specs.declared.leaf.Mark.{Mark}
use Rattle.syn_grammar.specs.Kind as k
use Rattle.syn_grammar.specs.Name as n
use Rattle.syn_grammar.specs.Tree as t
use Rattle.syn_grammar.specs.Tree.{Tree}
use Rattle.syn_item.specs.ItemParts.{const_tree, default_tree, polarity_tree, safety_tree}
use Rattle.syn_item.specs.declared.impls.ForType.{ForType}
use Rattle.syn_item.specs.declared.impls.ImplHead.{ImplHead}
use Rattle.syn_item.specs.declared.impls.ImplItems.{ImplItems}
use Rattle.syn_item.specs.declared.impls.ImplTrait.{ImplTrait}
use Rattle.syn_item.specs.declared.impls.ItemImpl.{ItemImpl}
use denote.Bor.{Bor}

-- for and a type
abbrev pub for_tree : ForType → Tree
for_tree x = t.Pair (word_tree x.for_token) (t.Called n.the_self x.self_ty.now)

-- what an impl begins with, each if it stands there: default const unsafe impl <A> !; and what follows
abbrev pub impl_words : Option (Bor Ident) → Option (Bor Ident) → Option (Bor Ident) → Bor Ident → Bor Tree
    → Option Mark → Tree → Tree
impl_words d c u i a m y = t.Pair (optional_tree default_tree d) (t.Pair (optional_tree const_tree c) (t.Pair
    (optional_tree safety_tree u) (t.Pair (word_tree i) (t.Pair (t.Called n.the_generics a.now) (t.Pair
    (optional_tree polarity_tree m) y)))))

-- what an impl begins with, by its own fields
abbrev pub impl_head : ImplHead → Tree → Tree
impl_head x y = impl_words x.defaultness x.constness x.unsafety x.impl_token x.generics x.polarity y

-- the trait and the type, or the type alone; a where clause and the braces
abbrev pub impl_body_tree : Option ImplTrait → Bor Tree → Bor Tree → Tree → Tree
impl_body_tree None s w y = t.Pair (t.Called n.the_first s.now) (t.Pair (t.Second t.Nil) (t.Pair
    (t.Called n.the_where w.now) y))
impl_body_tree (Some i) s w y = t.Pair (t.Called n.the_first i.path.now) (t.Pair (t.First (t.Pair
    (word_tree i.for_token) (t.Called n.the_self s.now))) (t.Pair (t.Called n.the_where w.now) y))

-- what a node holds that is an impl, whatever it is judged: default const unsafe impl<T> !A for B where .. { .. }
abbrev pub impl_inside : ItemImpl → Tree
impl_inside x = impl_words x.modifiers.defaultness x.constness x.unsafety x.impl_token x.generics x.modifiers.polarity
    (impl_body_tree x.trait_ x.self_ty x.where_clause (t.Group x.brace_token.delimiter (t.Pair x.attrs.now
    x.items.now)))

-- an impl that is kept as it was read, behind its attributes
abbrev pub item_impl : ItemImpl → Tree
item_impl x = t.Node k.AnImpl (t.First (impl_inside x))

-- the items of an impl, one behind the other
abbrev pub impl_items : ImplItems → Tree
impl_items x = t.Node k.ImplItems (turns_tree x.items)
