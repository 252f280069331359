use Rattle.syn_grammar.specs.Gram.{ref}
use Rattle.syn_grammar.specs.Kind as k
use Rattle.syn_part.proofs.Derived.{shaped}
use Rattle.syn_item.proofs.ItemKept.{read_item}
use Rattle.syn_typed.proofs.item_forms.AnyItemParse.view.Goals as goal

pub returns-in-None : goal.returns-in-None
returns-in-None c rest d =
    c.in-None.ensures (read_item c.args.tree.now rest d) (shaped c.args.tree.now (ref k.AnItem) rest d)
