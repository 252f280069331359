use Rattle.syn_grammar.specs.Gram.{ref}
use Rattle.syn_grammar.specs.Kind as k
use Rattle.syn_part.proofs.Derived.{shaped}
use Rattle.syn_typed.proofs.MembersAlone.{constant_kept}
use Rattle.syn_typed.proofs.member_forms.OneTraitItemConstParse.view.Goals as goal

pub returns-in-None : goal.returns-in-None
returns-in-None c rest d =
    c.in-None.ensures.tree_is k.InTrait (constant_kept k.InTrait c.args.tree.now rest d)
    (shaped c.args.tree.now (ref (k.OneConst k.InTrait)) rest d)
