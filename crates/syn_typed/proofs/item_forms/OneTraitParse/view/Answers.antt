use Rattle.syn_grammar.specs.Gram.{ref}
use Rattle.syn_grammar.specs.Kind as k
use Rattle.syn_part.proofs.Derived.{shaped}
use Rattle.syn_typed.proofs.Alone.{trait_kept}
use Rattle.syn_typed.proofs.item_forms.OneTraitParse.view.Goals as goal

pub returns-in-None : goal.returns-in-None
returns-in-None c rest d =
    c.in-None.ensures (trait_kept c.args.tree.now rest d) (shaped c.args.tree.now (ref k.ItemTrait) rest d)
