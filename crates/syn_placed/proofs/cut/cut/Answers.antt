use Rattle.std.proofs.Common.{ap, ◌∙◌, arith}
use Rattle.syn_grammar.specs.Tree.{flat}
use Rattle.syn_placed.specs.Stands.{tokens}
use Rattle.syn_placed.proofs.Cuts.{taken, left}
use Rattle.syn_placed.proofs.cut.cut.Goals as goal

pub new-requires : goal.new-requires
new-requires c =
    ap tokens c.split_at.ensures.front
    ∙ taken (flat c.args.tree.now) c.past.result c.args.entries.now c.requires.rest (omega arith) c.requires.is

pub returns-clause-behind : goal.returns-clause-behind
returns-clause-behind c = λ rest h.
    ap tokens c.split_at.ensures.back
    ∙ left (flat c.args.tree.now) c.past.result c.args.entries.now rest (omega arith) h
