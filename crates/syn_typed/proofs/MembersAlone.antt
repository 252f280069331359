-- What was read by itself of a trait, an impl or an extern block is kept as it was read.
use Rattle.std.proofs.Common.{refl}
use Rattle.std.specs.Prelude.{List}
use Rattle.proc_macro2.specs.Token.{Token}
use Rattle.syn_part.specs.Kept.{IsKept}
use Rattle.syn_grammar.specs.Derives.{Derives}
use Rattle.syn_grammar.specs.Gram.{called, ref, seq}
use Rattle.syn_grammar.specs.Kind as k
use Rattle.syn_grammar.specs.Lists.{default_there}
use Rattle.syn_grammar.specs.Name as n
use Rattle.syn_grammar.specs.Table.{table}
use Rattle.syn_grammar.specs.Tree.{Tree}
use Rattle.syn_item.proofs.ItemKept.{kept_by_itself}

-- a function
pub function_kept : (p : k.Place) (tree : Tree) (rest : List Token) → Derives tree (ref (k.OneFunction p)) rest
    → IsKept tree
unfolding table
function_kept p tree rest d =
    kept_by_itself (k.OneFunction p) p (seq (ref k.OuterAttributes) (seq (called n.the_visibility (ref k.Visibility))
    (seq (default_there p) (called n.the_item (ref (k.AFunction p)))))) refl tree rest d

-- a constant
pub constant_kept : (p : k.Place) (tree : Tree) (rest : List Token) → Derives tree (ref (k.OneConst p)) rest
    → IsKept tree
unfolding table
constant_kept p tree rest d =
    kept_by_itself (k.OneConst p) p (seq (ref k.OuterAttributes) (seq (called n.the_visibility (ref k.Visibility))
    (seq (default_there p) (called n.the_item (ref k.AConst))))) refl tree rest d

-- a type
pub type_kept : (p : k.Place) (tree : Tree) (rest : List Token) → Derives tree (ref (k.OneTypeAlias p)) rest
    → IsKept tree
unfolding table
type_kept p tree rest d =
    kept_by_itself (k.OneTypeAlias p) p (seq (ref k.OuterAttributes) (seq (called n.the_visibility (ref k.Visibility))
    (seq (default_there p) (called n.the_item (ref (k.ATypeAlias p)))))) refl tree rest d
