use Rattle.std.proofs.Common.{◌≡◌, List, arith, subst}
use Rattle.std.proofs.lemmas.Result.{err_from_is_err_and}
use Rattle.reader_steps.specs.Answers.{tokens}
use Rattle.syn_buffer.specs.declared.entry.Entry.{Entry}
use Rattle.syn_grammar.specs.Kind.{Items}
use Rattle.canon.proofs.Parted.{Progress, finished, front_unread, gone_on, rest_unread, sliced}
use Rattle.canon.specs.Parts.{PrintsItems}
use Rattle.canon.specs.Unread.{IsUnreadAs}
use Rattle.canon.proofs.parts.text_of_file.Goals as goal

pub returns-in_err-left-clause-refused : goal.returns-in_err-left-clause-refused
returns-in_err-left-clause-refused c =
    let p = err_from_is_err_and c.from_residual.result c.from_residual.ensures.1 in
    rw (p.1, p.2) (front_unread c.args.entries.now _ c.in_err-left.ensures.refused)

pub returns-in_err-left-2-clause-refused : goal.returns-in_err-left-2-clause-refused
returns-in_err-left-2-clause-refused c =
    let r = c.from_residual-in_err-left-2 in
    let p = err_from_is_err_and r.result r.ensures.1 in
    let same = sliced c.args.entries.now c.loop-left.left in
    rw (p.1, p.2) (rest_unread c.args.entries.now c.loop-left.left c.loop-left.sheet _ c.loop-left.invariant
    (subst (λ (rest : List Entry). IsUnreadAs Items (tokens rest) c.in_err-left-2.field-0.0) same
    c.in_err-left-2.ensures.refused))

pub loop-left-preserved : goal.loop-left-preserved
loop-left-preserved c =
    gone_on c.args.entries.now c.loop-left.left c.in_ok-left-2.left c.loop-left.sheet c.put_items.new.sheet
    c.loop-left.invariant
    (subst (λ (rest : List Entry). PrintsItems rest c.in_ok-left-2.left c.loop-left.sheet c.put_items.new.sheet)
    (sliced c.args.entries.now c.loop-left.left) c.in_ok-left-2.ensures.put)

pub returns-clause-output : goal.returns-clause-output
returns-clause-output c =
    let none : c.loop-left.left ≡ 0 = omega (arith, c.loop-left-test.false) in
    finished c.args.entries.now c.loop-left.sheet _
    (subst (λ n. Progress c.args.entries.now n c.loop-left.sheet) none c.loop-left.invariant) c.into_text.ensures
