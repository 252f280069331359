use Rattle.syn_grammar.specs.Gram.{ref}
use Rattle.syn_grammar.specs.Kind as k
use Rattle.syn_part.proofs.Derived.{shaped}
use Rattle.syn_typed.proofs.type_forms.TypeTraitObjectParse.view.Goals as goal

pub returns-in-None : goal.returns-in-None
returns-in-None c rest d = c.in-None.ensures k.WithPlus (shaped c.args.tree.now (ref (k.DynType k.WithPlus)) rest d)
