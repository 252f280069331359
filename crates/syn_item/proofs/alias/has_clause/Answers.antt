use Rattle.std.proofs.Common.{◌∙◌, ap, sym}
use Rattle.syn_ast.specs.Generics.{clause_tree}
use Rattle.syn_part.specs.Leaves.{optional_tree}
use Rattle.syn_grammar.specs.Kind as k
use Rattle.syn_grammar.specs.Name.{same_part}
use Rattle.syn_grammar.specs.Tree as t
use Rattle.syn_grammar.specs.Verdicts.{is_where}
use Rattle.syn_item.proofs.alias.has_clause.Goals as goal

pub returns-in-Some-clause : goal.returns-in-Some-clause
unfolding same_part
returns-in-Some-clause c = λ h. sym (ap is_where (c.in-Some.ensures
    ∙ ap (λ o. t.Node k.Where (optional_tree clause_tree o)) c.in-Some-clause.is))
