use Rattle.std.proofs.Common.{◌≡◌, ◌∙◌, ◌-◌, ap, arith, rules, take}
use Rattle.std.specs.Fn.{CalledAtMut}
use Rattle.syn_lists.specs.Lists.{separators, values}
use Rattle.syn_lists.proofs.KeptPairs.{cut_short, retained}
use Rattle.syn_lists.proofs.punctuated.Punctuated.retain.Goals.{then-trailing, else-trailing}
use Rattle.syn_lists.proofs.punctuated.Punctuated.retain.Goals as goal

pub returns-clause-pairs : goal.returns-clause-pairs
returns-clause-pairs g c =
    let xs = values c.args.self.now in
    let qs = separators c.args.self.now in
    let kept = c.keep_in_front-kept.result in
    let ps = c.keep_in_front-kept.new.separators in
    retained (CalledAtMut g.F.FnMut) _ xs _ c.keep_in_front-kept.new.values _ qs _ ps _ kept
    c.as_mut_slice.ensures.value
    c.as_mut_slice-2.ensures.value
    (cut_short kept _ _ _ _ c.truncate.ensures.items (omega arith) (omega arith))
    (λ full. elim c.if-trailing.branch [
      | then-trailing w ↦
          let count = w.separators-is in
          cut_short _ _ _ _ _ c.truncate-2.ensures.items (omega (arith, count)) (omega (arith, count))
          ∙ ap (λ j. take j ps) count
      | else-trailing w ↦ search rules
    ])
    (λ even few. elim c.if-trailing.branch [
      | then-trailing w ↦ search rules
      | else-trailing w ↦
          let count : c.if-trailing.separators ≡ kept - 1 = search rules in
          cut_short _ _ _ _ _ c.truncate-2.ensures.items (omega (arith, count)) (omega (arith, count, even.1))
          ∙ ap (λ j. take j ps) count
    ])
    c.keep_in_front-kept.ensures.pairs
