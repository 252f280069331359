use Rattle.std.proofs.Common.{[], sym, ap, ◌∙◌}
use Rattle.std.proofs.lemmas.List.{append-nil}
use Rattle.syn_grammar.specs.Kept.{attributed, kept}
use Rattle.syn_grammar.specs.Look.{sees}
use Rattle.syn_grammar.specs.Say.{parenthesis}
use Rattle.syn_grammar.specs.Table.{table}
use Rattle.syn_grammar.specs.Tree.{flat}
use Rattle.laws_ranges.specs.Shelled.{shelled}
use Rattle.laws_ranges.proofs.Starts as Starts
use Rattle.laws_ranges.proofs.Given as Given
use Rattle.laws_ranges.proofs.laws.opened.Goals as goal

pub returns-clause-alone : goal.returns-clause-alone
unfolding table
returns-clause-alone c = λ p x rest d. ap (sees parenthesis) (sym (append-nil (flat (shelled (kept x)))))
    ∙ Starts.paren_first x p rest [] d.1.1

pub returns-clause-given : goal.returns-clause-given
returns-clause-given c = λ x rest a d own seen.
    ap (sees parenthesis) (sym (append-nil (flat (shelled (attributed (kept a) (kept x))))))
    ∙ Given.given_opened x rest [] a d own seen
