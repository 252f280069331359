use Rattle.std.proofs.Common.{◌≡◌, ◌<◌, ◌≤◌, ◌+◌, ◌∙◌, length, drop, get_or, arith, refl, rules, sym}
use Rattle.syn_error.proofs.Fronts.{keeps_both}
use Rattle.syn_kinds.specs.Table.{marks}
use Rattle.syn_kinds.specs.Values.{spacing_before}
use Rattle.syn_kinds.proofs.Marks.{all_put, mark_at, marks_count, one_more, spacing_alone, spacing_joint}
use Rattle.syn_kinds.proofs.punctuation.PunctuationToTokens.to_tokens.Goals as goal
use Rattle.syn_kinds.proofs.punctuation.PunctuationToTokens.to_tokens.Goals.{then-index, else-index}

pub loop-index-preserved : goal.loop-index-preserved
loop-index-preserved g c =
    let cs = marks g.row.K g.row.N in
    let count = marks_count g.row.K g.row.N in
    let below : c.loop-index.index < length cs = omega arith in
    let spans_below : c.loop-index.index < length c.args.self.now.spans = search rules in
    let spacing : c.if-index.spacing ≡ spacing_before (drop (c.loop-index.index + 1) cs) =
    elim c.if-index.branch [
      | then-index w ↦ w.spacing-is ∙ sym (spacing_joint cs _ (omega arith))
      | else-index w ↦ w.spacing-is ∙ sym (spacing_alone cs _ (omega arith))
    ] in
    let is_mark : c.mark.result ≡ get_or cs c.loop-index.index 126 =
    c.mark.ensures.mark ∙ sym (mark_at g.row.K g.row.N c.loop-index.index (omega arith)) in
    record {
      kept = keeps_both _ _ _ c.loop-index.invariant.kept c.put_mark.ensures.keeps;
      left =
          one_more cs c.args.self.now.spans c.loop-index.index c.mark.result _ _ c.if-index.spacing c.loop-index.tokens
          c.put_mark.new.tokens _
          below spans_below is_mark refl spacing c.in_ok-put_mark.ensures.put c.loop-index.invariant.left;
    }

pub returns-clause-put : goal.returns-clause-put
returns-clause-put g c =
    let cs = marks g.row.K g.row.N in
    let count = marks_count g.row.K g.row.N in
    let past : length cs ≤ c.loop-index.index = omega arith in
    all_put cs c.args.self.now.spans c.loop-index.index _ _ past c.loop-index.invariant.left
