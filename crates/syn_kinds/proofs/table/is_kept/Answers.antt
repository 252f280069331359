use Rattle.std.proofs.Common.{arith, sym, ◌∙◌}
use Rattle.rust_leaf.specs.Leaf.{ident_text}
use Rattle.rust_leaf.specs.Keywords.{same_text}
use Rattle.syn_kinds.proofs.Words.{is_found, is_passed, none_before, none_behind}
use Rattle.syn_kinds.proofs.table.is_kept.Goals as goal

pub loop-kind-init : goal.loop-kind-init
loop-kind-init c =
    none_before c.first_byte.result c.rows_from-from.result.0 (ident_text c.args.ident.now) c.first_byte.ensures
    c.rows_from-from.ensures.before

pub returns-then-is_keyword : goal.returns-then-is_keyword
returns-then-is_keyword c =
    is_found (λ w. same_text w (ident_text c.args.ident.now)) c.loop-kind.kind _ (omega arith)
    (sym c.is_keyword.ensures ∙ c.if-is_keyword.true) c.loop-kind.invariant

pub loop-kind-preserved : goal.loop-kind-preserved
loop-kind-preserved c =
    is_passed (λ w. same_text w (ident_text c.args.ident.now)) c.loop-kind.kind _ (omega arith)
    (sym c.is_keyword.ensures ∙ c.if-is_keyword.false) c.loop-kind.invariant

pub returns : goal.returns
returns c =
    none_behind c.first_byte.result c.rows_from-from.result.1 c.loop-kind.kind (ident_text c.args.ident.now) _
    c.first_byte.ensures c.rows_from-from.ensures.behind (omega arith) c.loop-kind.invariant
