use Rattle.std.proofs.Common.{◌≡◌, ◌-◌, [], suc, refl, sym, ap, ◌∙◌, arith, length}
use Rattle.std.proofs.lemmas.List.{append-nil}
use Rattle.std.proofs.lemmas.Result.{IfOk-at_ok, err_from_is_err_and}
use Rattle.syn_grammar.specs.Run.{climb, run, wrap, Got}
use Rattle.syn_grammar.specs.Run.{interp as says}
use Rattle.syn_grammar.specs.Tree.{Alone, Front, Back, Infix}
use Rattle.reader_table.specs.Kinds.{kind_of, position_of}
use Rattle.reader_table.specs.Looks.{test_of}
use Rattle.reader_table.specs.Ops.{gram_of, separator_of}
use Rattle.reader_steps.specs.Answers.{tokens}
use Rattle.reader_steps.specs.Around.{around_of}
use Rattle.reader_steps.specs.declared.around.Around.TheVariants as arounds
use Rattle.reader_steps.specs.Operands.{extended, own_of}
use Rattle.reader_steps.specs.Pending.{says_at}
use Rattle.reader_steps.proofs.Turns.{turn_more, turn_none, turn_fails}
use Rattle.reader_steps.proofs.Elements.{element_more, element_none, element_last, element_fails}
use Rattle.reader_steps.proofs.Operands.{climb_ends, climb_chains, climb_goes, climb_fails, operand_goes}
use Rattle.reader_steps.proofs.Operands.{none_stands, operand_fails}
use Rattle.reader_steps.proofs.Outs.{fails_as, fails_on, gives_as, got_on, syntax_fails}
use Rattle.reader_steps.proofs.Pendings.{as_light, at_step, ends, goes, leads_fails, leads_on, lighter, makes_left}
use Rattle.reader_steps.proofs.Pendings.{no_step, old_kept, refused}
use Rattle.reader_steps.proofs.run.+run.Goals as goal

pub forward-returns-in-Word-clause-answer : goal.forward-returns-in-Word-clause-answer
forward-returns-in-Word-clause-answer g t c =
    let i = rw c.in_ok-spot.was at c.steps.invariant.read in
    let s = at_step c.in_ok-spot.spot.fuel _ c.in-Some.parts.now _ _ (tokens c.in_ok-spot.spot.entries.now)
    c.in-Some.ensures.cases.0 c.in-Word.is in
    ends _ _ i.0 _ _ i.1 i.2 (λ x. x.0) (λ x. x.1.now) _ _ _ s refl c.word.ensures.answer

pub forward-returns-in-Literal-clause-answer : goal.forward-returns-in-Literal-clause-answer
forward-returns-in-Literal-clause-answer g t c =
    let i = rw c.in_ok-spot.was at c.steps.invariant.read in
    let s = at_step c.in_ok-spot.spot.fuel _ c.in-Some.parts.now _ _ (tokens c.in_ok-spot.spot.entries.now)
    c.in-Some.ensures.cases.0 c.in-Literal.is in
    ends _ _ i.0 _ _ i.1 i.2 (λ x. x.0) (λ x. x.1.now) _ _ _ s refl c.literal.ensures.answer

pub forward-returns-in-Mark-clause-answer : goal.forward-returns-in-Mark-clause-answer
forward-returns-in-Mark-clause-answer g t c =
    let i = rw c.in_ok-spot.was at c.steps.invariant.read in
    let s = at_step c.in_ok-spot.spot.fuel _ c.in-Some.parts.now _ _ (tokens c.in_ok-spot.spot.entries.now)
    c.in-Some.ensures.cases.0 c.in-Mark.is in
    ends _ _ i.0 _ _ i.1 i.2 (λ x. x.0) (λ x. x.1.now) _ _ _ s refl (c.mark.ensures.answer (run c.in_ok-spot.spot.fuel))

pub forward-returns-in-Lifetime-clause-answer : goal.forward-returns-in-Lifetime-clause-answer
forward-returns-in-Lifetime-clause-answer g t c =
    let i = rw c.in_ok-spot.was at c.steps.invariant.read in
    let s = at_step c.in_ok-spot.spot.fuel _ c.in-Some.parts.now _ _ (tokens c.in_ok-spot.spot.entries.now)
    c.in-Some.ensures.cases.0 c.in-Lifetime.is in
    ends _ _ i.0 _ _ i.1 i.2 (λ x. x.0) (λ x. x.1.now) _ _ _ s refl c.lifetime.ensures.answer

pub forward-returns-in-Raw-clause-answer : goal.forward-returns-in-Raw-clause-answer
forward-returns-in-Raw-clause-answer g t c =
    let i = rw c.in_ok-spot.was at c.steps.invariant.read in
    let s = at_step c.in_ok-spot.spot.fuel _ c.in-Some.parts.now _ _ (tokens c.in_ok-spot.spot.entries.now)
    c.in-Some.ensures.cases.0 c.in-Raw.is in
    ends _ _ i.0 _ _ i.1 i.2 (λ x. x.0) (λ x. x.1.now) _ _ _ s refl c.raw.ensures.answer

pub forward-returns-in-Never-clause-answer : goal.forward-returns-in-Never-clause-answer
forward-returns-in-Never-clause-answer g t c =
    let i = rw c.in_ok-spot.was at c.steps.invariant.read in
    let s = at_step c.in_ok-spot.spot.fuel _ c.in-Some.parts.now _ _ (tokens c.in_ok-spot.spot.entries.now)
    c.in-Some.ensures.cases.0 c.in-Never.is in
    refused _ _ i.0 _ _ i.1 i.2 _ _ s refl c.refuse-in-Never.ensures.syntax

pub forward-returns-in-Star-clause-answer : goal.forward-returns-in-Star-clause-answer
forward-returns-in-Star-clause-answer g t c =
    let i = rw c.in_ok-spot.was at c.steps.invariant.read in
    let s = at_step c.in_ok-spot.spot.fuel _ c.in-Some.parts.now _ _ (tokens c.in_ok-spot.spot.entries.now)
    c.in-Some.ensures.cases.0 c.in-Star.is in
    ends _ _ i.0 _ _ i.1 i.2 (λ x. x.0) (λ x. x.1.now) _ _ _ s c.star.ensures.kept c.star.ensures.answer

pub forward-returns-in-Many-clause-answer : goal.forward-returns-in-Many-clause-answer
forward-returns-in-Many-clause-answer g t c =
    let i = rw c.in_ok-spot.was at c.steps.invariant.read in
    let s = at_step c.in_ok-spot.spot.fuel _ c.in-Some.parts.now _ _ (tokens c.in_ok-spot.spot.entries.now)
    c.in-Some.ensures.cases.0 c.in-Many.is in
    ends _ _ i.0 _ _ i.1 i.2 (λ x. x.0) (λ x. x.1.now) _ _ _ s c.many.ensures.kept c.many.ensures.answer

pub forward-returns-in-Operand-clause-answer : goal.forward-returns-in-Operand-clause-answer
forward-returns-in-Operand-clause-answer g t c =
    let i = rw c.in_ok-spot.was at c.steps.invariant.read in
    let s = at_step c.in_ok-spot.spot.fuel _ c.in-Some.parts.now _ _ (tokens c.in_ok-spot.spot.entries.now)
    c.in-Some.ensures.cases.0 c.in-Operand.is in
    ends _ _ i.0 _ _ i.1 i.2 (λ x. x.0) (λ x. x.1.now) _ _ _ s c.operand.ensures.kept c.operand.ensures.answer

pub forward-returns-in_default-clause-answer : goal.forward-returns-in_default-clause-answer
forward-returns-in_default-clause-answer g t c =
    let i = rw c.in_ok-spot.was at c.steps.invariant.read in
    let s = no_step c.in_ok-spot.spot.fuel c.in_ok-spot.spot.steps.now (tokens c.in_ok-spot.spot.entries.now)
    c.in_default.ensures.cases in
    refused _ _ i.0 _ _ i.1 i.2 _ _ s refl c.refuse.ensures.syntax

pub forward-returns-in_err-spot-clause-answer : goal.forward-returns-in_err-spot-clause-answer
forward-returns-in_err-spot-clause-answer g t c =
    let p = err_from_is_err_and c.from_residual.result c.from_residual.ensures.1 in
    let i = rw c.in_err-spot.was at c.steps.invariant.read in
    rw (p.1, p.2) (i.0, i.1, i.2)

pub forward-steps-preserved-in-Seq : goal.forward-steps-preserved-in-Seq
forward-steps-preserved-in-Seq g t c =
    let i = rw c.in_ok-spot.was at c.steps.invariant.read in
    let s = at_step c.in_ok-spot.spot.fuel _ c.in-Some.parts.now _ _ (tokens c.in_ok-spot.spot.entries.now)
    c.in-Some.ensures.cases.0 c.in-Seq.is in
    let le = IfOk-at_ok _ c.in_ok-spot.was c.steps.invariant.least in
    let o = c.seq-step.ensures in
    record {
      read = goes _ _ i.0 _ _ i.1 i.2 _ _ _ s o.answer;
      whole = o.whole;
      least = lighter _ _ _ o.lighter (omega (arith, le, ap length c.in-Some.ensures.cases.0));
    }

pub forward-steps-preserved-in-Group : goal.forward-steps-preserved-in-Group
forward-steps-preserved-in-Group g t c =
    let i = rw c.in_ok-spot.was at c.steps.invariant.read in
    let s = at_step c.in_ok-spot.spot.fuel _ c.in-Some.parts.now _ _ (tokens c.in_ok-spot.spot.entries.now)
    c.in-Some.ensures.cases.0 c.in-Group.is in
    let le = IfOk-at_ok _ c.in_ok-spot.was c.steps.invariant.least in
    let o = c.group-step.ensures in
    record {
      read = goes _ _ i.0 _ _ i.1 i.2 _ _ _ s o.answer;
      whole = o.whole;
      least = lighter _ _ _ o.lighter (omega (arith, le, ap length c.in-Some.ensures.cases.0));
    }

pub forward-steps-preserved-in-Judged : goal.forward-steps-preserved-in-Judged
forward-steps-preserved-in-Judged g t c =
    let i = rw c.in_ok-spot.was at c.steps.invariant.read in
    let s = at_step c.in_ok-spot.spot.fuel _ c.in-Some.parts.now _ _ (tokens c.in_ok-spot.spot.entries.now)
    c.in-Some.ensures.cases.0 c.in-Judged.is in
    let le = IfOk-at_ok _ c.in_ok-spot.was c.steps.invariant.least in
    let o = c.weighed-step.ensures in
    record {
      read = goes _ _ i.0 _ _ i.1 i.2 _ _ _ s o.answer;
      whole = o.whole;
      least = as_light _ _ _ o.lighter (omega (arith, le, ap length c.in-Some.ensures.cases.0));
    }

pub forward-steps-preserved-in-Dropped : goal.forward-steps-preserved-in-Dropped
forward-steps-preserved-in-Dropped g t c =
    let i = rw c.in_ok-spot.was at c.steps.invariant.read in
    let s = at_step c.in_ok-spot.spot.fuel _ c.in-Some.parts.now _ _ (tokens c.in_ok-spot.spot.entries.now)
    c.in-Some.ensures.cases.0 c.in-Dropped.is in
    let le = IfOk-at_ok _ c.in_ok-spot.was c.steps.invariant.least in
    let o = c.within-step-in-Dropped.ensures in
    record {
      read = goes _ _ i.0 _ _ i.1 i.2 _ _ _ s o.answer;
      whole = o.whole;
      least = as_light _ _ _ o.lighter (omega (arith, le, ap length c.in-Some.ensures.cases.0));
    }

pub forward-steps-preserved-in-Called : goal.forward-steps-preserved-in-Called
forward-steps-preserved-in-Called g t c =
    let i = rw c.in_ok-spot.was at c.steps.invariant.read in
    let s = at_step c.in_ok-spot.spot.fuel _ c.in-Some.parts.now _ _ (tokens c.in_ok-spot.spot.entries.now)
    c.in-Some.ensures.cases.0 c.in-Called.is in
    let le = IfOk-at_ok _ c.in_ok-spot.was c.steps.invariant.least in
    let o = c.within-step-in-Called.ensures in
    record {
      read = goes _ _ i.0 _ _ i.1 i.2 _ _ _ s o.answer;
      whole = o.whole;
      least = as_light _ _ _ o.lighter (omega (arith, le, ap length c.in-Some.ensures.cases.0));
    }

pub forward-returns-in_default-chosen-clause-answer : goal.forward-returns-in_default-chosen-clause-answer
forward-returns-in_default-chosen-clause-answer g t c =
    let i = rw c.in_ok-spot.was at c.steps.invariant.read in
    let s = at_step c.in_ok-spot.spot.fuel _ c.in-Some.parts.now _ _ (tokens c.in_ok-spot.spot.entries.now)
    c.in-Some.ensures.cases.0 c.in-Alt.is in
    refused _ _ i.0 _ _ i.1 i.2 _ _ (s ∙ c.in_default-chosen.ensures.says (run c.in_ok-spot.spot.fuel)) refl
    c.refuse-in_default-chosen.ensures.syntax

pub forward-returns-then-is_nothing-clause-answer : goal.forward-returns-then-is_nothing-clause-answer
forward-returns-then-is_nothing-clause-answer g t c =
    let i = rw c.in_ok-spot.was at c.steps.invariant.read in
    let s = at_step c.in_ok-spot.spot.fuel _ c.in-Some.parts.now _ _ (tokens c.in_ok-spot.spot.entries.now)
    c.in-Some.ensures.cases.0 c.in-Alt.is in
    let x = c.in-Some-chosen in
    let a = around_of (arounds.Chosen x.choice.seconds x.choice.is_first) in
    ends _ _ i.0 _ _ i.1 i.2 (λ x. x.0) (λ x. x.1.now) _ _ _
    (s ∙ x.ensures.says (run c.in_ok-spot.spot.fuel)
    ∙ ap (λ g. wrap a (says (run c.in_ok-spot.spot.fuel) g (tokens c.in_ok-spot.spot.entries.now)))
    (c.is_nothing.ensures c.if-is_nothing.true)) refl c.none_chosen.ensures.answer

pub forward-steps-preserved-in-Alt : goal.forward-steps-preserved-in-Alt
forward-steps-preserved-in-Alt g t c =
    let i = rw c.in_ok-spot.was at c.steps.invariant.read in
    let s = at_step c.in_ok-spot.spot.fuel _ c.in-Some.parts.now _ _ (tokens c.in_ok-spot.spot.entries.now)
    c.in-Some.ensures.cases.0 c.in-Alt.is in
    let le = IfOk-at_ok _ c.in_ok-spot.was c.steps.invariant.least in
    let o = c.within-step.ensures in
    record {
      read = goes _ _ i.0 _ _ i.1 i.2 _ _ _ (s ∙ c.in-Some-chosen.ensures.says (run c.in_ok-spot.spot.fuel)) o.answer;
      whole = o.whole;
      least = as_light _ _ _ o.lighter (omega (
        arith,
        le,
        c.in-Some-chosen.ensures.shorter,
        ap length
            c.in-Some.ensures.cases.0,
      ));
    }

pub forward-steps-preserved : goal.forward-steps-preserved
forward-steps-preserved g t c =
    let i = rw c.in_ok-spot.was at c.steps.invariant.read in
    let s = at_step c.in_ok-spot.spot.fuel _ c.in-Some.parts.now _ _ (tokens c.in_ok-spot.spot.entries.now)
    c.in-Some.ensures.cases.0 c.in-Ref.is in
    let le = IfOk-at_ok _ c.in_ok-spot.was c.steps.invariant.least in
    let o = c.node-step.ensures in
    record {
      read = goes _ _ i.0 _ _ i.1 i.2 _ _ _ s o.answer;
      whole = o.whole;
      least = lighter _ _ _ o.lighter (omega (arith, le));
    }

pub interp-returns-clause-kept : goal.interp-returns-clause-kept
interp-returns-clause-kept g t c =
    let f = c.forward-inner.ensures.answer in
    c.finished.ensures.kept ∙ old_kept _ _ f.0 _ f.1 (c.len-base.ensures ∙ c.args.work.now.pending.ok.0)

pub interp-returns-clause-answer : goal.interp-returns-clause-answer
interp-returns-clause-answer g t c =
    let f = c.forward-inner.ensures.answer in
    c.finished.ensures.answer _ (makes_left _ _ f.0 _ f.1 (c.len-base.ensures ∙ c.args.work.now.pending.ok.0) _ _ _ f.2)

pub seq-returns-in_err-front-clause-answer : goal.seq-returns-in_err-front-clause-answer
seq-returns-in_err-front-clause-answer g t c =
    let call = run c.args.fuel in
    let p = err_from_is_err_and c.from_residual.result c.from_residual.ensures.1 in
    rw (p.1, p.2) (leads_fails says_at _ _ _ _ c.in_err-front.ensures.kept
    (fails_as _ _ _ (ap (λ g. says call g (tokens c.args.at.now)) c.in-Some.ensures.says)
    (fails_on _ (says call (gram_of c.in-Some.first.now) (tokens c.args.at.now)) _ c.in_err-front.ensures.answer)))

pub seq-returns-clause-answer : goal.seq-returns-clause-answer
seq-returns-clause-answer g t c =
    let call = run c.args.fuel in
    let h = c.to_make.ensures.answer _
    (ap (λ g. says call g (tokens c.args.at.now)) c.in-Some.ensures.says
    ∙ got_on (says call (gram_of c.in-Some.first.now) (tokens c.args.at.now)) _ _ _ c.in_ok-front.ensures.answer) in
    leads_on says_at _ _ _ [] _ _ _ (c.in_ok-front.ensures.kept ∙ sym (append-nil _)) refl h

pub many-returns-in_err-tree-clause-answer : goal.many-returns-in_err-tree-clause-answer
many-returns-in_err-tree-clause-answer g t c =
    let s : c.elements.fuel ≡ suc (c.elements.fuel - 1) = omega arith in
    let p = err_from_is_err_and c.from_residual.result c.from_residual.ensures.1 in
    rw (p.1, p.2) (element_fails (test_of c.args.test) (separator_of c.args.separator) (gram_of c.args.parts.now) _
    c.elements.fuel (c.elements.fuel - 1) c.elements.before.items _ _ s c.elements.invariant.read
    (sym c.passes.ensures ∙ c.if-passes.false) c.in_err-tree.ensures.answer)

pub many-returns-in_default-clause-answer : goal.many-returns-in_default-clause-answer
many-returns-in_default-clause-answer g t c =
    let s : c.elements.fuel ≡ suc (c.elements.fuel - 1) = omega arith in
    gives_as (λ x. x.0) (λ x. x.1.now) _ _ _
    (element_last (test_of c.args.test) (separator_of c.args.separator) (gram_of c.args.parts.now)
    c.elements.fuel (c.elements.fuel - 1) c.elements.before.items _ _ _ _ s c.elements.invariant.read
    (sym c.passes.ensures ∙ c.if-passes.false) c.in_ok-tree.ensures.answer c.in_default.ensures.none)
    (c.with_rest.ensures.answer _ c.elements-list.ensures)

pub many-elements-preserved : goal.many-elements-preserved
many-elements-preserved g t c =
    let s : c.elements.fuel ≡ suc (c.elements.fuel - 1) = omega arith in
    record {
      read = element_more (test_of c.args.test) (separator_of c.args.separator) (gram_of c.args.parts.now)
          c.elements.fuel (c.elements.fuel - 1) c.elements.before.items _ _ _ _ _ _ s c.elements.invariant.read
          c.in_ok-push.ensures.items (sym c.passes.ensures ∙ c.if-passes.false) c.in_ok-tree.ensures.answer
          c.in-Some.ensures.seen c.in-Some.ensures.mark;
      whole = c.in-Some.ensures.whole;
      least = omega arith;
      kept = c.in_ok-tree.ensures.kept ∙ c.elements.invariant.kept;
    }

pub many-returns-clause-answer : goal.many-returns-clause-answer
many-returns-clause-answer g t c =
    let s : c.elements.fuel ≡ suc (c.elements.fuel - 1) = omega arith in
    gives_as (λ x. x.0) (λ x. x.1.now) _ _ _
    (element_none (test_of c.args.test) (separator_of c.args.separator) (gram_of c.args.parts.now)
    c.elements.fuel (c.elements.fuel - 1) c.elements.before.items _ _ s c.elements.invariant.read
    (sym c.passes.ensures ∙ c.if-passes.true))
    (c.with_rest-2.ensures.answer _ c.elements-list-2.ensures)

pub turn-returns-in-Err-clause-answer : goal.turn-returns-in-Err-clause-answer
turn-returns-in-Err-clause-answer g t c = c.unclosed.ensures _ c.in-Err.ensures.answer

pub star-returns-in_err-turn-clause-answer : goal.star-returns-in_err-turn-clause-answer
star-returns-in_err-turn-clause-answer g t c =
    let s : c.turns.fuel ≡ suc (c.turns.fuel - 1) = omega arith in
    let p = err_from_is_err_and c.from_residual.result c.from_residual.ensures.1 in
    rw (p.1, p.2) (turn_fails (test_of c.args.test) (gram_of c.args.parts.now) _ c.turns.fuel (c.turns.fuel - 1)
    c.turns.turns.items _ _ s c.turns.invariant.read (sym c.passes.ensures ∙ c.if-not-passes.false)
    c.in_err-turn.ensures.answer)

pub star-turns-preserved : goal.star-turns-preserved
star-turns-preserved g t c =
    let s : c.turns.fuel ≡ suc (c.turns.fuel - 1) = omega arith in
    record {
      read = turn_more (test_of c.args.test) (gram_of c.args.parts.now) c.turns.fuel (c.turns.fuel - 1)
          c.turns.turns.items _ _ _ _ _ s c.turns.invariant.read c.in_ok-push.ensures.items
          (sym c.passes.ensures ∙ c.if-not-passes.false) c.in_ok-turn.ensures.answer;
      whole = c.in_ok-turn.ensures.whole;
      least = omega arith;
      kept = c.in_ok-turn.ensures.kept ∙ c.turns.invariant.kept;
    }

pub star-returns-clause-answer : goal.star-returns-clause-answer
star-returns-clause-answer g t c =
    let s : c.turns.fuel ≡ suc (c.turns.fuel - 1) = omega arith in
    gives_as (λ x. x.0) (λ x. x.1.now) _ _ _
    (turn_none (test_of c.args.test) (gram_of c.args.parts.now) c.turns.fuel (c.turns.fuel - 1) c.turns.turns.items _ _
    s
    c.turns.invariant.read (sym c.passes.ensures ∙ c.if-not-passes.true))
    (c.with_rest.ensures.answer _ c.turns-tree.ensures)

pub tower-returns-in_err-tree-clause-answer : goal.tower-returns-in_err-tree-clause-answer
tower-returns-in_err-tree-clause-answer g t c =
    let s : c.args.fuel ≡ suc (c.args.fuel - 1) = omega arith in
    let k = kind_of c.in-Some.kind in
    let p = err_from_is_err_and c.from_residual.result c.from_residual.ensures.1 in
    rw (p.1, p.2) (operand_fails (c.args.fuel - 1) (position_of c.args.position) c.args.level c.args.fuel k
    (tokens c.args.at.now) _ s c.in-Some.ensures (c.in_err-tree.ensures.answer (Alone k) (Front k)))

pub tower-returns-in_default-clause-answer : goal.tower-returns-in_default-clause-answer
tower-returns-in_default-clause-answer g t c =
    let s : c.args.fuel ≡ suc (c.args.fuel - 1) = omega arith in
    none_stands (c.args.fuel - 1) (position_of c.args.position) c.args.level c.args.fuel (tokens c.args.at.now)
    c.refuse.result s c.refuse.ensures.syntax c.in_default.ensures

pub tower-returns-clause-answer : goal.tower-returns-clause-answer
tower-returns-clause-answer g t c =
    let s : c.args.fuel ≡ suc (c.args.fuel - 1) = omega arith in
    let k = kind_of c.in-Some.kind in
    let o = c.in_ok-tree in
    let ts = tokens c.args.at.now in
    let got : own_of (run (c.args.fuel - 1)) (Alone k) (Front k) (position_of c.args.position) k ts
    ≡ Got c.in_ok-left.left (tokens o.field-0.rest.now) =
    o.ensures.answer (Alone k) (Front k) ∙ ap (λ x. Got x (tokens o.field-0.rest.now)) (sym c.in_ok-left.ensures) in
    rw (operand_goes (c.args.fuel - 1) (position_of c.args.position) c.args.level c.args.fuel k ts
    (tokens o.field-0.rest.now) c.in_ok-left.left s c.in-Some.ensures got) c.climb.ensures.answer

pub climb-returns-in-Nothing-clause-answer : goal.climb-returns-in-Nothing-clause-answer
climb-returns-in-Nothing-clause-answer g t c =
    let s : c.forms.most ≡ suc (c.forms.most - 1) = omega arith in
    sym c.forms.invariant.read
    ∙ climb_ends (c.forms.most - 1) (position_of c.args.position) c.args.level c.forms.most c.forms.form
    (tokens c.forms.place.entries.now) s c.in-Nothing.ensures

pub climb-returns-in-Chained-clause-answer : goal.climb-returns-in-Chained-clause-answer
climb-returns-in-Chained-clause-answer g t c =
    let s : c.forms.most ≡ suc (c.forms.most - 1) = omega arith in
    let h = c.in-Chained.ensures in
    syntax_fails c.refuse.result _ c.refuse.ensures.syntax
    (sym c.forms.invariant.read
    ∙ climb_chains (c.forms.most - 1) (position_of c.args.position) c.args.level c.forms.most c.forms.form h.0
    (tokens c.forms.place.entries.now) s h.1 h.2 h.3)

pub climb-returns-in_err-tree-in-Form-clause-answer : goal.climb-returns-in_err-tree-in-Form-clause-answer
climb-returns-in_err-tree-in-Form-clause-answer g t c =
    let s : c.forms.most ≡ suc (c.forms.most - 1) = omega arith in
    let h = c.in-Form.ensures in
    let k = kind_of c.in-Form.kind in
    let p = err_from_is_err_and c.from_residual.result c.from_residual.ensures.1 in
    rw (p.1, p.2) (fails_as _ _ _ (sym c.forms.invariant.read)
    (climb_fails (c.forms.most - 1) (position_of c.args.position) c.args.level _ c.forms.most c.forms.form k
    (tokens c.forms.place.entries.now) s h.0 h.1 h.2
    (c.in_err-tree-in-Form.ensures.answer (Back c.forms.form k) (Infix c.forms.form k))))

pub climb-forms-preserved : goal.climb-forms-preserved
climb-forms-preserved g t c =
    let s : c.forms.most ≡ suc (c.forms.most - 1) = omega arith in
    let h = c.in-Form.ensures in
    let k = kind_of c.in-Form.kind in
    let o = c.in_ok-tree-in-Form in
    let ts = tokens c.forms.place.entries.now in
    let us = tokens o.field-0.rest.now in
    let got : extended (run (c.forms.most - 1)) (position_of c.args.position) c.forms.form k ts
    ≡ Got c.in_ok-form-in-Form.form us =
    o.ensures.answer (Back c.forms.form k) (Infix c.forms.form k)
    ∙ ap (λ x. Got x us) (sym c.in_ok-form-in-Form.ensures) in
    record {
      read = sym (climb_goes (c.forms.most - 1) (position_of c.args.position) c.args.level c.forms.most c.forms.form
          c.in_ok-form-in-Form.form k ts us s h.0 h.1 h.2 got) ∙ c.forms.invariant.read;
      whole = o.ensures.whole;
      least = omega arith;
      kept = o.ensures.kept ∙ c.forms.invariant.kept;
    }
