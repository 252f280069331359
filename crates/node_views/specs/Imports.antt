-- Imports. What an import names is a type that refers back to itself alone.
use Rattle.std.specs.Prelude.{Option, Some, None, cond}
use Rattle.rust_leaf.specs.Leaf.{ident_text}
use Rattle.syn_grammar.specs.Tree.{Tree}
use Rattle.rust_leaf.specs.Keywords.{is_among}
use Rattle.syn_grammar.specs.Items.{use_words}
use Rattle.syn_grammar.specs.Kind as k
use Rattle.syn_grammar.specs.Name as n
use Rattle.syn_grammar.specs.Tree as t
use Rattle.node_items.specs.declared.import.ItemUse.{ItemUse}
use Rattle.node_items.specs.declared.import.UseGlob.{UseGlob}
use Rattle.node_items.specs.declared.import.UseGroup.{UseGroup-F}
use Rattle.node_items.specs.declared.import.UseGroup.{UseGroup}
use Rattle.node_items.specs.declared.import.UseName.{UseName}
use Rattle.node_items.specs.declared.import.UsePath.{UsePath-F}
use Rattle.node_items.specs.declared.import.UsePath.{UsePath}
use Rattle.node_items.specs.declared.import.UseRename.{UseRename}
use Rattle.node_items.specs.declared.import.UseTree.TheOpen as layer
use Rattle.node_items.specs.declared.import.UseTree.{UseTree-F, fold-UseTree}
use Rattle.node_items.specs.declared.import.UseTree.{UseTree}
use Rattle.rust_leaf.specs.declared.ident.Ident.{Ident}
use Rattle.syn_kinds.specs.declared.punctuation.Punctuation.{Punctuation}
use Rattle.node_words.specs.Words.{◌▸◌, ◌∶◌, alternative, absent, mark, keyword, enclosed, name, name_or}
use Rattle.node_words.specs.Words.{list}
use Rattle.node_views.specs.Generics.{visibility}
use Rattle.node_views.specs.Items.{item_of}

-- a name, or one of the words self, super, crate and try
abbrev pub use_name : Ident → Tree
use_name i = cond (is_among use_words (ident_text i)) (t.First (name i)) (t.Second (name i))

-- a tree that is no list in braces: *, or what begins with a name
abbrev pub use_branch : Tree → Tree
use_branch x = t.Node k.UseTree (t.Second (t.Node k.UseBranch x))

-- *
abbrev pub use_glob : UseGlob → Tree
use_glob x = use_branch (t.First (mark x.star_token))

-- a name alone
abbrev pub use_alone : UseName → Tree
use_alone x = use_branch (t.Second (use_name x.ident ▸ t.Second absent))

-- a name, as, and another one or _
abbrev pub use_rename : UseRename → Tree
use_rename x =
    use_branch (t.Second (use_name x.ident ▸ t.Second (t.First (keyword x.as_token ▸ name_or "_" x.rename))))

-- a name, `::` and what it holds
abbrev pub path_step : UsePath-F Tree Tree Tree → Tree
path_step x = use_branch (t.Second (use_name x.ident ▸ t.First (mark x.colon2_token ▸ x.tree.value)))

-- { trees }
abbrev pub group_step : UseGroup-F Tree Tree Tree → Tree
group_step x = t.Node k.UseTree (t.First (enclosed x.brace_token (list (λ y. y) x.items)))

abbrev pub use_step : UseTree-F Tree Tree Tree → Tree
use_step (layer.Path x) = x
use_step (layer.Name x) = use_alone x
use_step (layer.Rename x) = use_rename x
use_step (layer.Glob x) = use_glob x
use_step (layer.Group x) = x

abbrev pub use_tree : UseTree → Tree
use_tree = fold-UseTree Tree Tree Tree use_step group_step path_step

-- In braces that no path stands before, a tree may begin with `::`.
abbrev mutual
  pub rooted : Tree → Tree
  rooted (t.Node k.UseTree (t.First (t.Group d x))) = t.Node k.UseRooted (t.First (t.Group d (tops x)))
  rooted (t.Node k.UseTree (t.Second x)) = t.Node k.UseRooted (t.Second x)
  rooted x = x

  pub tops : Tree → Tree
  tops (t.More x c spacing y) = t.More (t.Node k.UseTop (t.Second (rooted x))) c spacing (tops y)
  tops (t.Final x) = t.Final (t.Node k.UseTop (t.Second (rooted x)))
  tops x = x

abbrev pub use_top : Option (Punctuation 28 2) → Tree → Tree
use_top None x = t.Node k.UseTop (t.Second (rooted x))
use_top (Some m) x = t.Node k.UseTop (t.First (mark m ▸ x))

-- use tree ;
abbrev pub item_use : {E : Type 0} → (E → Tree) → ItemUse E → Tree
item_use f x =
    item_of f x.attrs.items (visibility f x.vis) (alternative 3 (t.Node k.AUse (keyword x.use_token
    ▸ n.the_path ∶ use_top x.leading_colon (use_tree x.tree) ▸ mark x.semi_token)))
