use Rattle.std.proofs.lemmas.Result.{IfErr-weaker, IfOk-weaker}
use Rattle.std.specs.Prelude.{false}
use Rattle.syn_grammar.specs.Say.{ident}
use Rattle.syn_input.specs.Input.{rest}
use Rattle.syn_kinds.specs.Stands.{marks_stand}
use Rattle.syn_kinds.specs.Table.{marks}
use Rattle.syn_lists.specs.Lists.{separators, values}
use Rattle.laws_lists.specs.Leaves.{mark_of}
use Rattle.laws_lists.specs.Many.{name_tree}
use Rattle.laws_lists.proofs.ManyRead.{many_found, many_none}
use Rattle.laws_lists.proofs.NamesMany.{mark_separator, name_entry, name_listable}
use Rattle.laws_lists.proofs.many.read_names.Goals as goal

pub returns-clause-found : goal.returns-clause-found
returns-clause-found g c =
    IfOk-weaker c.parse_separated_nonempty.result _ _
    (λ list h. many_found _ _ _ _ (λ x. false) (marks_stand (marks g.row.K 1)) ident name_tree (mark_of g.row.K)
    name_listable name_entry (mark_separator (λ p. p.spans) g.row.K) (rest c.args.input.now) (values list)
    (separators list) (rest c.parse_separated_nonempty.new.input) h) c.parse_separated_nonempty.ensures.found

pub returns-clause-none : goal.returns-clause-none
returns-clause-none g c =
    IfErr-weaker c.parse_separated_nonempty.result _ _
    (λ e h s. many_none _ _ _ _ (λ x. false) (marks_stand (marks g.row.K 1)) ident name_tree (mark_of g.row.K)
    name_listable name_entry (mark_separator (λ p. p.spans) g.row.K) (rest c.args.input.now) (h s))
    c.parse_separated_nonempty.ensures.none
