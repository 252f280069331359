use Rattle.std.proofs.Common.{◌<◌, ◌∙◌, length, arith, inr, ap, ◌++◌, ◌∷◌, []}
use Rattle.syn_buffer.specs.Position.{ahead}
use Rattle.syn_lists.specs.Lists.{separators, values}
use Rattle.syn_input.specs.Input.{rest}
use Rattle.syn_lists.proofs.ReadPairs.{even_next, few_tokens, pairs_next, past_both}
use Rattle.syn_lists.proofs.punctuated.Punctuated.parse_terminated.Goals as goal

pub returns-then-most-len-clause-none : goal.returns-then-most-len-clause-none
returns-then-most-len-clause-none g c =
    let vs = c.push_punct.ensures.values ∙ c.in_ok-push_value.ensures.ok in
    let ps = c.in_ok-push_punct.ensures.ok
    ∙ ap (λ qs. qs ++ c.in_ok-separator.separator ∷ []) c.push_value.ensures.separators in
    let many : length (rest c.args.input.now) < length (values c.push_punct.new.self) =
    omega (
      arith,
      few_tokens c.args.input.now.cursor,
      c.entries_left-most.ensures,
      ap ahead c.cursor.ensures,
    ) in
    λ _. (
      values c.push_punct.new.self,
      separators c.push_punct.new.self,
      rest c.parse-in-values.new.self,
      pairs_next g.T.Parse.reads g.P.Parse.reads _ _ _ _ _ _ _ _ _ _ vs ps c.values.invariant.pairs
          c.in_ok-value.ensures.found c.in_ok-separator.ensures.found,
      inr many,
    )

pub values-preserved : goal.values-preserved
values-preserved g c =
    let vs = c.push_punct.ensures.values ∙ c.in_ok-push_value.ensures.ok in
    let ps = c.in_ok-push_punct.ensures.ok
    ∙ ap (λ qs. qs ++ c.in_ok-separator.separator ∷ []) c.push_value.ensures.separators in
    record {
      pairs = pairs_next g.T.Parse.reads g.P.Parse.reads _ _ _ _ _ _ _ _ _ _ vs ps c.values.invariant.pairs
          c.in_ok-value.ensures.found c.in_ok-separator.ensures.found;
      few = omega (arith, ap length vs);
      even = even_next _ _ _ _ _ _ vs ps c.values.invariant.even;
      noted = c.in_ok-separator.ensures.noted ∙ c.in_ok-value.ensures.noted ∙ c.values.invariant.noted;
      onward =
          past_both _ _ _
          (past_both _ _ _ c.values.invariant.onward c.parse.ensures.onward) c.parse-in-values.ensures.onward;
    }
