use Rattle.std.proofs.Common.{refl}
use Rattle.syn_grammar.specs.Gram.{ref}
use Rattle.syn_grammar.specs.Kind as k
use Rattle.syn_grammar.specs.Table.{table}
use Rattle.syn_part.proofs.Derived.{shaped}
use Rattle.syn_typed.proofs.one_item.OneItemItemStructParse.view.Goals as goal

pub returns-in_default : goal.returns-in_default
unfolding table
returns-in_default c rest d = c.in_default.ensures k.ItemStruct k.AStruct rest refl d

pub returns-in-None : goal.returns-in-None
unfolding table
returns-in-None c rest d =
    let form = (c.in-Some.ensures.1 k.ItemStruct k.AStruct rest refl d).1 in
    c.in-None.ensures (shaped c.in-Some.parts.item.now (ref k.AStruct) rest form)
