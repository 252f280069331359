use Rattle.std.proofs.Common.{ap, sym, ◌∙◌, subst, Bool, List, drop, arith, IsTrue}
use Rattle.syn_buffer.specs.Entries.{entry_token, is_laid, spanned_entries}
use Rattle.syn_buffer.specs.Heads.{SeenFirst}
use Rattle.syn_buffer.specs.Seen.{all_seen, is_seen, seen}
use Rattle.syn_buffer.specs.declared.entry.Entry.{Entry}
use Rattle.syn_buffer.proofs.AllSeen.{seen_drop}
use Rattle.syn_buffer.proofs.Laid.{one_passed, borrowed, seen_first, seen_end}
use Rattle.syn_buffer.proofs.cursor.settled.Goals.{else-loop-at-test, then-loop-at-test+then-is_seen}
use Rattle.syn_buffer.proofs.cursor.settled.Goals as goal

pub loop-at-preserved : goal.loop-at-preserved
loop-at-preserved c =
    let f : Entry → Bool = λ e. is_seen (entry_token e) in
    one_passed c.args.entries.now c.loop-at.at c.index-entries-at.result c.loop-at-test.true
    (ap f (sym c.index-entries-at.is) ∙ sym c.is_seen.ensures ∙ c.if-is_seen.false) c.loop-at.invariant

pub returns-clause-same : goal.returns-clause-same
returns-clause-same c = ap (λ (es : List Entry). seen (spanned_entries es)) (borrowed c.args.entries.now c.loop-at.at)
    ∙ c.loop-at.invariant.same

pub returns-clause-laid : goal.returns-clause-laid
returns-clause-laid c =
    let P : List Entry → Type 0 = λ es. IsTrue (is_laid es) in
    subst P (sym (borrowed c.args.entries.now c.loop-at.at)) c.loop-at.invariant.lies

pub returns-clause-first : goal.returns-clause-first
returns-clause-first c =
    let es : List Entry = c.args.entries.now in
    let f : Entry → Bool = λ e. is_seen (entry_token e) in
    let there : SeenFirst (drop c.loop-at.at es) =
    elim c.loop-at-test.branch [
      | else-loop-at-test w ↦ seen_end es c.loop-at.at (omega arith)
      | then-loop-at-test+then-is_seen w ↦
          seen_first es c.loop-at.at w.index-entries-at.result w.loop-at-test.true
          (ap f (sym w.index-entries-at.is) ∙ sym w.is_seen.ensures ∙ w.if-is_seen.true)
    ] in
    subst SeenFirst (sym (borrowed es c.loop-at.at)) there

pub returns-clause-visible : goal.returns-clause-visible
returns-clause-visible c = λ v.
    let P : List Entry → Type 0 = λ es. IsTrue (all_seen (spanned_entries es)) in
    subst P (sym (borrowed c.args.entries.now c.loop-at.at)) (seen_drop c.loop-at.at c.args.entries.now v)
