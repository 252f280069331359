use Rattle.std.proofs.Common.{◌<◌, ◌≤◌, length, arith, of_calls, refl}
use Rattle.std.specs.Fn.{CalledAtMut}
use Rattle.std.proofs.lemmas.List.{get_or_default}
use Rattle.std.proofs.RetainMut.{Called-Mut, retain_mut_end}
use Rattle.syn_lists.proofs.Kept.{kept_more, let_go}
use Rattle.syn_lists.proofs.KeptPairs.{all_asked, none_kept, pair_goes, pair_stays}
use Rattle.syn_lists.proofs.retain.keep_in_front.Goals.{then-keeps, else-keeps}
use Rattle.syn_lists.proofs.retain.keep_in_front.Goals as goal

pub loop-index-init : goal.loop-index-init
loop-index-init g c = record {
  few = omega arith;
  callable = search of_calls;
  turns = (refl, λ zs h. h);
  pairs = λ even. none_kept _ _ _ _;
}

pub loop-index-preserved : goal.loop-index-preserved
loop-index-preserved g c =
    let at = c.loop-index in
    let R = CalledAtMut g.F.FnMut in
    let all = c.args.values.now in
    let marks = c.args.separators.now in
    let called = Called-Mut g.F.FnMut c.keeps.ensures in
    let within : at.index < length at.values = omega arith in
    let inside : at.index < length all = omega arith in
    let is = get_or_default at.values at.index _ _ within in
    elim c.if-keeps.branch [
      | then-keeps w ↦ record {
        few = omega arith;
        callable = search of_calls;
        turns = rw (w.values-is, w.kept-is, w.swap.ensures.after)
            (kept_more R c.args.keeps all at.keeps _ at.values at.kept at.index _ _ at.invariant.few within is
            at.invariant.turns (rw w.if-keeps.true at called));
        pairs = λ even. rw (w.values-is, w.separators-is, w.kept-is, w.swap.ensures.after)
            (pair_stays R c.args.keeps all marks even at.keeps _ at.values at.separators at.kept at.index _ _
            at.invariant.few within inside is at.invariant.turns.0 (at.invariant.pairs even) _
            w.swap_separators.ensures.inside w.swap_separators.ensures.past (rw w.if-keeps.true at called));
      }
      | else-keeps w ↦ record {
        few = omega arith;
        callable = search of_calls;
        turns = rw (w.values-is, w.kept-is)
            (let_go R c.args.keeps all at.keeps _ at.values at.kept at.index _ _ at.invariant.few within is
            at.invariant.turns (rw w.if-keeps.false at called));
        pairs = λ even. rw (w.values-is, w.separators-is, w.kept-is)
            (pair_goes R c.args.keeps all marks even at.keeps _ at.values at.separators at.kept at.index _ _
            at.invariant.few within inside is at.invariant.turns.0 (at.invariant.pairs even)
            (rw w.if-keeps.false at called));
      }
    ]

pub returns-clause-filtered : goal.returns-clause-filtered
returns-clause-filtered g c =
    let at = c.loop-index in
    retain_mut_end (CalledAtMut g.F.FnMut) _ _ at.keeps at.values at.kept at.index (omega arith) at.invariant.turns

pub returns-clause-pairs : goal.returns-clause-pairs
returns-clause-pairs g c =
    let at = c.loop-index in
    let past : length c.args.values.now ≤ at.index = omega arith in
    let bound : at.index ≤ length c.args.values.now = omega arith in
    λ even. all_asked (CalledAtMut g.F.FnMut) _ _ _ at.keeps at.values at.separators at.kept at.index past bound
    (at.invariant.pairs even)
