use Rattle.syn_grammar.specs.Gram.{ref}
use Rattle.syn_grammar.specs.Kind as k
use Rattle.syn_part.proofs.Derived.{shaped}
use Rattle.syn_typed.proofs.item_forms.SignatureParse.view.Goals as goal

pub returns-in-None : goal.returns-in-None
returns-in-None c rest d =
    c.in-None.ensures.tree_is k.InFile (shaped c.args.tree.now (ref (k.Signature k.InFile)) rest d)
