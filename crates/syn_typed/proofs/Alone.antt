-- What was read by itself is kept as it was read.
use Rattle.std.specs.Prelude.{List, not}
use Rattle.std.proofs.Common.{refl}
use Rattle.proc_macro2.specs.Token.{Token}
use Rattle.syn_part.specs.Kept.{IsKept}
use Rattle.syn_grammar.specs.Derives.{Derives}
use Rattle.syn_grammar.specs.Gram.{called, ref, seq}
use Rattle.syn_grammar.specs.Items.{is_variadic, safety}
use Rattle.syn_grammar.specs.Kind as k
use Rattle.syn_grammar.specs.Lists.{is_trait_alias}
use Rattle.syn_grammar.specs.Name as n
use Rattle.syn_grammar.specs.Part.{the}
use Rattle.syn_grammar.specs.Table.{table}
use Rattle.syn_grammar.specs.Tree.{Tree}
use Rattle.syn_item.proofs.ItemKept.{kept_by_itself, kept_or_refused}

-- a parameter
pub parameter_kept : (tree : Tree) (rest : List Token) → Derives tree (ref k.FnArg) rest → IsKept tree
unfolding table
parameter_kept tree rest d = kept_or_refused k.FnArg (λ x. not (is_variadic x)) (ref k.Parameter) refl tree rest d

-- a trait by itself
pub trait_kept : (tree : Tree) (rest : List Token) → Derives tree (ref k.ItemTrait) rest → IsKept tree
unfolding table
trait_kept tree rest d =
    kept_or_refused k.ItemTrait (λ x. not (is_trait_alias (the n.the_item x))) (seq (ref k.OuterAttributes)
    (seq (ref k.Visibility) (called n.the_item (ref k.ATrait)))) refl tree rest d

-- a static of an extern block by itself
pub static_kept : (tree : Tree) (rest : List Token) → Derives tree (ref k.ForeignItemStatic) rest → IsKept tree
unfolding table
static_kept tree rest d =
    kept_by_itself k.ForeignItemStatic k.InForeign (seq (ref k.OuterAttributes) (seq (called n.the_visibility
    (ref k.Visibility)) (seq (safety k.InForeign) (called n.the_item (ref k.AStatic))))) refl tree rest d
