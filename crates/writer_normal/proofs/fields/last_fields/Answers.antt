use Rattle.std.specs.Prelude.{None}
use Rattle.std.proofs.Common.{◌≡◌, ◌∙◌, ap, rules}
use Rattle.syn_grammar.specs.Kind.{Kind}
use Rattle.syn_grammar.specs.Name.{the_indices}
use Rattle.syn_grammar.specs.Tree as t
use Rattle.syn_grammar.specs.Tree.{Tree}
use Rattle.reader_table.specs.Kinds.{kind_of}
use Rattle.writer_rules.specs.Way.{last_text}
use Rattle.writer_normal.proofs.Fielding.{last_other}
use Rattle.writer_normal.proofs.Stepping.{made_so}
use Rattle.writer_normal.proofs.fields.last_fields.Goals as goal

pub returns-in-None : goal.returns-in-None
returns-in-None c =
    let l : Tree = c.args.left in
    let k : Kind = kind_of c.args.kind in
    let d : Tree = c.args.dot.now in
    let z : Tree = c.args.behind.now in
    let none : None ≡ last_text k z = search rules in
    made_so c.lone_field.result _ _ (c.lone_field.ensures _ c.copy-in-None.ensures)
    (ap (λ x. t.Back l k (t.Pair (t.Pair x (t.Called the_indices t.End)) z)) c.copy.ensures ∙ last_other l k d z none)
