use Rattle.std.proofs.Common.{◌≡◌, ◌+◌, ◌∷◌, refl, sym, ap, ◌∙◌, length, arith, length-drop}
use Rattle.syn_grammar.specs.Run.{interp, wrap}
use Rattle.syn_grammar.specs.Tree.{Second}
use Rattle.reader_table.specs.Ops.{gram_of}
use Rattle.reader_table.specs.declared.op.Op.TheVariants as ops
use Rattle.reader_steps.specs.Answers.{tokens}
use Rattle.reader_steps.proofs.Choices.{first_chosen, first_read, more_chosen, second_chosen, second_read}
use Rattle.reader_steps.proofs.choice.chosen.Goals as goal

pub returns-then-passes-clause-says : goal.returns-then-passes-clause-says
returns-then-passes-clause-says g c =
    let s = c.in_ok-first.ensures.cases in
    let a = c.choices.asked in
    λ call. first_chosen c.choices.seconds _ _ _ (c.choices.invariant.says call)
    (first_read a.count a.parts.now _ _ s.0 s.1 s.2 a.test _ call (sym c.passes.ensures ∙ c.if-passes.true))

pub choices-preserved : goal.choices-preserved
choices-preserved g c =
    let s = c.in_ok-first.ensures.cases in
    let a = c.choices.asked in
    let x = c.in-Some-Alt-default in
    let e : c.in_ok-first.second.now ≡ ops.Alt x.next x.size ∷ x.others.now =
    cc (x.ensures.cases.0, x.is, x.field-0-0-is, x.others-is, x.next-is, x.size-is) in
    record {
      says = λ call. more_chosen c.choices.seconds (c.choices.seconds + 1) _ _ _ refl (c.choices.invariant.says call)
          (second_read a.count a.parts.now _ _ s.0 s.1 s.2 a.test _ call (sym c.passes.ensures ∙ c.if-passes.false)
          ∙ ap (λ is. wrap Second (interp call (gram_of is) (tokens c.args.at.now))) e);
      few = omega (arith, c.choices.invariant.few, ap length e, ap length s.2, length-drop a.count a.parts.now);
    }

pub returns-in_default-clause-says : goal.returns-in_default-clause-says
returns-in_default-clause-says g c =
    let s = c.in_ok-first.ensures.cases in
    let a = c.choices.asked in
    λ call. second_chosen c.choices.seconds (c.choices.seconds + 1) _ _ _ refl (c.choices.invariant.says call)
    (second_read a.count a.parts.now _ _ s.0 s.1 s.2 a.test _ call (sym c.passes.ensures ∙ c.if-passes.false))
