use Rattle.std.proofs.Common.{◌∙◌, ap, subst, sym}
use Rattle.reader_table.specs.Kinds.{kind_of, plus_of}
use Rattle.syn_grammar.specs.Tree as t
use Rattle.syn_grammar.specs.Types.{type_entry}
use Rattle.syn_part.specs.Shape.{IsAmong}
use Rattle.syn_ast.proofs.TypeForms.{type_inside}
use Rattle.syn_ast.proofs.types.Type.of.Goals as goal

pub returns-in-None : goal.returns-in-None
returns-in-None c = λ p h.
    type_inside c.args.tree.now c.in-Some-AType-default.inner.now (plus_of c.in-Some-AType-default.field-0-0-0) p
    (c.in-Some-AType-default.ensures
    ∙ ap (λ j. t.Node (kind_of j) c.in-Some-AType-default.inner.now) c.in-Some-AType-default.field-0-0-is)
    (λ r i. c.in-None.ensures r (subst (λ z. IsAmong z (type_entry r)) (sym c.choice-form.ensures) i)) h
