use Rattle.std.proofs.Common.{◌≡◌, ◌∙◌, ◌<◌, ◌++◌, ◌∷◌, [], arith, ap, inl, inr, length, rules}
use Rattle.std.specs.Prelude.{true, false}
use Rattle.std.proofs.lemmas.Result.{err_from_is_err_and}
use Rattle.proc_macro2.specs.Token.{plain}
use Rattle.syn_buffer.specs.Position.{ahead}
use Rattle.syn_input.specs.Input.{rest}
use Rattle.syn_lists.proofs.ReadPairs.{even_next, few_tokens, past_both}
use Rattle.syn_lists.specs.Lists.{separators, values}
use Rattle.syn_lists.specs.ReadMany.{ReadsBy}
use Rattle.syn_lists.specs.contracts.many.read_many.F-Fn.{words}
use Rattle.syn_lists.proofs.Turns.{ends_in_value, read_by, refused_by, turns_next}
use Rattle.syn_lists.proofs.many.read_many.Goals as goal

pub returns-in_err-value-clause-none : goal.returns-in_err-value-clause-none
returns-in_err-value-clause-none g c =
    let runs = (words g.row.T g.row.P g.row.E g.row.F g.F.Fn).post c.args.reader in
    let goes_on : g.E.Token.stands (plain (rest c.turns.input)) ≡ false = search rules in
    let p = err_from_is_err_and c.from_residual.result c.from_residual.ensures.1 in
    rw (p.1, p.2) (λ s. (
      values c.turns.list,
      separators c.turns.list,
      rest c.turns.input,
      c.turns.invariant.turns,
      inl (goes_on, inl (refused_by runs _ _ _ s c.in_err-value.ensures)),
    ))

pub returns-then-not-peek-clause-found : goal.returns-then-not-peek-clause-found
returns-then-not-peek-clause-found g c =
    let runs = (words g.row.T g.row.P g.row.E g.row.F g.F.Fn).post c.args.reader in
    let goes_on : g.E.Token.stands (plain (rest c.turns.input)) ≡ false = search rules in
    let none : g.P.Token.stands (plain (rest c.reader.new.arg2)) ≡ false = search rules in
    ends_in_value (ReadsBy runs) g.P.Parse.reads g.E.Token.stands g.P.Token.stands _ (values c.turns.list) _
    (separators c.turns.list) _ (rest c.turns.input) _ c.in_ok-value.value c.turns.invariant.turns
    c.push_value.ensures.separators c.in_ok-push_value.ensures.ok goes_on
    (read_by runs _ _ _ c.in_ok-value.ensures) none

pub returns-in_err-separator-clause-none : goal.returns-in_err-separator-clause-none
returns-in_err-separator-clause-none g c =
    let runs = (words g.row.T g.row.P g.row.E g.row.F g.F.Fn).post c.args.reader in
    let goes_on : g.E.Token.stands (plain (rest c.turns.input)) ≡ false = search rules in
    let there : g.P.Token.stands (plain (rest c.reader.new.arg2)) ≡ true = search rules in
    let p = err_from_is_err_and c.from_residual-in_err-separator.result c.from_residual-in_err-separator.ensures.1 in
    rw (p.1, p.2) (λ s. (
      values c.turns.list,
      separators c.turns.list,
      rest c.turns.input,
      c.turns.invariant.turns,
      inl (
        goes_on,
        inr (
          c.in_ok-value.value,
          rest c.reader.new.arg2,
          read_by runs _ _ _ c.in_ok-value.ensures,
          there,
          c.in_err-separator.ensures.none s,
        ),
      ),
    ))

pub returns-then-most-len-clause-none : goal.returns-then-most-len-clause-none
returns-then-most-len-clause-none g c =
    let runs = (words g.row.T g.row.P g.row.E g.row.F g.F.Fn).post c.args.reader in
    let goes_on : g.E.Token.stands (plain (rest c.turns.input)) ≡ false = search rules in
    let there : g.P.Token.stands (plain (rest c.reader.new.arg2)) ≡ true = search rules in
    let vs = c.push_punct.ensures.values ∙ c.in_ok-push_value.ensures.ok in
    let ps = c.in_ok-push_punct.ensures.ok
    ∙ ap (λ qs. qs ++ c.in_ok-separator.separator ∷ []) c.push_value.ensures.separators in
    let many : length (rest c.args.input.now) < length (values c.push_punct.new.self) = omega (
      arith,
      few_tokens c.args.input.now.cursor,
      c.entries_left-most.ensures,
      ap ahead c.cursor.ensures,
    ) in
    λ _. (
      values c.push_punct.new.self,
      separators c.push_punct.new.self,
      rest c.parse.new.self,
      turns_next (ReadsBy runs) g.P.Parse.reads g.E.Token.stands g.P.Token.stands _ _ _ _ _ _ _ _ _ _ vs ps
          c.turns.invariant.turns goes_on (read_by runs _ _ _ c.in_ok-value.ensures) there
          c.in_ok-separator.ensures.found,
      inr many,
    )

pub turns-preserved : goal.turns-preserved
turns-preserved g c =
    let runs = (words g.row.T g.row.P g.row.E g.row.F g.F.Fn).post c.args.reader in
    let goes_on : g.E.Token.stands (plain (rest c.turns.input)) ≡ false = search rules in
    let there : g.P.Token.stands (plain (rest c.reader.new.arg2)) ≡ true = search rules in
    let vs = c.push_punct.ensures.values ∙ c.in_ok-push_value.ensures.ok in
    let ps = c.in_ok-push_punct.ensures.ok
    ∙ ap (λ qs. qs ++ c.in_ok-separator.separator ∷ []) c.push_value.ensures.separators in
    record {
      turns = turns_next (ReadsBy runs) g.P.Parse.reads g.E.Token.stands g.P.Token.stands _ _ _ _ _ _ _ _ _ _ vs ps
          c.turns.invariant.turns goes_on (read_by runs _ _ _ c.in_ok-value.ensures) there
          c.in_ok-separator.ensures.found;
      few = omega (arith, ap length vs);
      even = even_next _ _ _ _ _ _ vs ps c.turns.invariant.even;
      noted = λ h. c.in_ok-separator.ensures.noted ∙ h _ _ _ c.in_ok-value.ensures ∙ c.turns.invariant.noted h;
      onward = past_both _ _ _ (past_both _ _ _ c.turns.invariant.onward
          (c.requires.onward _ _ _ c.reader.ensures)) c.parse.ensures.onward;
    }
