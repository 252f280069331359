use Rattle.std.proofs.Common.{rules, arith}
use Rattle.proc_macro2.proofs.Drops.{trees_size, last_length, group_length}
use Rattle.proc_macro2.proofs.+dropping.Goals as goal

-- where memory is refused, the trees that are dropped in their list have fewer tokens than the stream
pub tree::TokenStream::drop-drop-inside-requires : goal.tree::TokenStream::drop-drop-inside-requires
tree::TokenStream::drop-drop-inside-requires t c κs = (
  (
    (
      grind (
        arith,
        c.decreases,
        c.into_last_list.ensures,
        c.in-Some.is,
        c.in-Some.ensures,
        c.loop-tree.invariant,
        c.pop.ensures,
        c.in-Some-pop.is,
        c.in-Group.is,
        c.in-Some-into_last_list.is,
        c.in-Some-into_last_list.ensures,
        c.append.ensures,
        trees_size c.append.new.other.items,
        last_length c.pop.new.self.items c.in-Some-pop.tree,
        group_length c.in-Group.group,
      ),
      tt,
    ),
    tt,
  ),
  search rules,
)
