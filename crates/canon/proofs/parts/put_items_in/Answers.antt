use Rattle.std.proofs.Common.{◌<◌, List, length, rules, subst}
use Rattle.std.proofs.lemmas.Result.{err_from_is_err_and}
use Rattle.writer_print.specs.Pieces.{piece_token}
use Rattle.writer_print.specs.Sheets.{Shows}
use Rattle.writer_print.specs.declared.piece.Piece.{Piece}
use Rattle.writer_rules.specs.Said.{said}
use Rattle.writer_read.proofs.Read.{formed_read}
use Rattle.syn_grammar.specs.Kind.{AnItem, Plain}
use Rattle.std.proofs.Common.{◌++◌, map}
use Rattle.canon.proofs.Parted.{items_put, items_unread, one_item_more, rest_shorter, rest_within}
use Rattle.canon.proofs.parts.put_items_in.Goals as goal

pub overflow_sub-entries : goal.overflow_sub-entries
overflow_sub-entries c =
    rest_within c.args.entries.now c.loop-work.rest.entries.now c.loop-work.pieces.items c.loop-work.invariant

pub returns-in_err-item-clause-refused : goal.returns-in_err-item-clause-refused
returns-in_err-item-clause-refused c =
    let p = err_from_is_err_and c.from_residual-in_err-item.result c.from_residual-in_err-item.ensures.1 in
    let some : 0 < length c.loop-work.rest.entries.now = search rules in
    rw (p.1, p.2) (items_unread c.args.entries.now c.loop-work.rest.entries.now c.loop-work.pieces.items _
    c.loop-work.invariant some c.in_err-item.ensures.refused)

pub loop-work-smaller : goal.loop-work-smaller
loop-work-smaller c =
    rest_shorter c.loop-work.rest.entries.now c.in_ok-item.behind.now c.in_ok-item.item c.in_ok-item.ensures.found

pub loop-work-preserved : goal.loop-work-preserved
unfolding said
loop-work-preserved c =
    let formed = formed_read AnItem c.in_ok-item.item _ c.in_ok-item.ensures.found.0 (λ e. cc) in
    one_item_more c.args.entries.now c.loop-work.rest.entries.now c.in_ok-item.behind.now c.loop-work.pieces.items
    c.write.new.out.items c.in_ok-item.item c.loop-work.invariant c.in_ok-item.ensures.whole
    c.in_ok-item.ensures.found (c.in_ok-write.ensures.put Plain formed)

pub returns-clause-put : goal.returns-clause-put
returns-clause-put c =
    let es = c.args.entries.now in
    let rest = c.loop-work.rest.entries.now in
    let within = rest_within es rest c.loop-work.pieces.items c.loop-work.invariant in
    let less : length rest < length es = search (rules, within) in
    items_put es rest c.loop-work.pieces.items c.args.sheet.now c.put.new.self c.requires.whole c.loop-work.invariant
    less
    (λ ts q. subst (λ (ps : List Piece). Shows c.put.new.self (ts ++ map piece_token ps)) c.as_slice.ensures.value
    (c.in_ok-put.ensures ts q))
