-- The group that stands there, and nothing behind it.
use Rattle.std.proofs.Common.{List, refl, subst}
use Rattle.proc_macro2.specs.Token.{Token}
use Rattle.syn_grammar.specs.Tree.{First}
use Rattle.reader_tokens.proofs.Groups.{whole_balanced}
use Rattle.reader_tokens.specs.Tokens.{tokens}
use Rattle.reader_fast.specs.Attributes.{IsEntered, delimited}
use Rattle.reader_fast.proofs.AttributeForms.{group_behind}
use Rattle.reader_fast.proofs.attributes.only_group.Goals as goal

pub returns-then-is_empty : goal.returns-then-is_empty
returns-then-is_empty c =
    let g = c.in_ok-group.group in
    let ts = tokens c.args.at.now in
    let xs = tokens g.inside.now in
    let x = delimited g.delimiter xs in
    let P : List Token → Type 0 = λ us. IsEntered g.delimiter ts xs us in
    group_behind g.delimiter ts xs x (First x) (c.is_seen.ensures c.if-is_seen.true) c.in_ok-group.ensures.opens
    (subst P (c.is_empty.ensures c.if-is_empty.true) c.in_ok-group.ensures.enters)
    (whole_balanced g.inside.now c.in_ok-group.ensures.inside) refl refl
