use Rattle.std.proofs.Common.{◌≡◌, ◌<◌, ◌≤◌, ◌+◌, ◌++◌, ◌∷◌, [], ◌∙◌, ap}
use Rattle.std.proofs.Common.{arith, drop, length, subst, suc, sym}
use Rattle.syn_grammar.specs.Kept.{kept}
use Rattle.reader_tree.specs.Forms.{elements, ending}
use Rattle.node_words.specs.Words.{all_listed, listed}
use Rattle.node_take.proofs.Lists.{element_put, element_shaped, element_fewer, length_more, listed_is, no_last}
use Rattle.node_take.proofs.Lists.{one_last}
use Rattle.node_take.proofs.list.separated.Goals as goal
use Rattle.node_take.proofs.list.separated.Goals.{in-Some+in_ok-make-2+in_ok-push_value-2, in_default}

pub loop-element-preserved : goal.loop-element-preserved
loop-element-preserved g c =
    let m = c.args.mark in
    let f = g.M.Make.view in
    let es = c.elements.result.before.now in
    let i = c.loop-element.element-index in
    let x = c.element-item.result in
    let o = ending (λ b. b.now) c.elements.result.last in
    let vs = c.loop-element.list.values.items in
    let ps = c.loop-element.list.separators.items in
    let v = c.in_ok-make.field-0 in
    let below : i < length es = omega arith in
    let values : c.push_punct.new.self.values.items ≡ vs ++ v ∷ [] =
    c.push_punct.ensures.values ∙ c.in_ok-push_value.ensures.ok in
    let inv = c.loop-element.invariant in
    let q = element_shaped m es i x o inv.shaped.0 g.M.Make.shape below c.element-item.is inv.shaped.1 in
    record {
      whole =
          subst (λ zs. all_listed m f zs (kept (elements m (drop (i + 1) es) o))
          ≡ kept c.args.tree.now) (sym values)
          (element_put m f vs v es i x o (kept c.args.tree.now) below c.element-item.is c.in_ok-make.ensures
          inv.whole);
      shaped = (inv.shaped.0, q.1);
      even =
          ap length values ∙ length_more vs v ∙ ap suc inv.even ∙ sym (length_more ps c.new.result)
          ∙ sym (ap length c.in_ok-push_punct.ensures.ok ∙ ap (λ zs. length (zs ++ c.new.result ∷
          [])) c.push_value.ensures.separators);
      fewer = (element_fewer m es i x o _ below c.element-item.is inv.fewer).1;
    }

pub returns : goal.returns
returns g c =
    let m = c.args.mark in
    let f = g.M.Make.view in
    let es = c.elements.result.before.now in
    let i = c.loop-element.element-index in
    let vs = c.loop-element.list.values.items in
    let ps = c.loop-element.list.separators.items in
    let inv = c.loop-element.invariant in
    let ended : length es ≤ i = omega arith in
    let k = kept c.args.tree.now in
    let ws = c.match-last.list.values.items in
    let qs = c.match-last.list.separators.items in
    elim c.match-last.branch [
      | in-Some+in_ok-make-2+in_ok-push_value-2 w ↦ (
          let v = w.in_ok-make-2.field-0 in
          let e : ws ≡ vs ++ v ∷ [] = cc (w.list-is, w.in_ok-push_value-2.ensures.ok) in
          let h : qs ≡ ps = cc (w.list-is, w.push_value-in-Some.ensures.separators) in
          listed_is m f (vs ++ v ∷ []) ws ps qs k e h
          (one_last m f vs v ps es i c.elements.result.last w.in-Some.element k inv.even ended w.in-Some.is
          w.in_ok-make-2.ensures inv.whole)
          )
      | in_default w ↦ (
          let e : ws ≡ vs = cc (w.list-is) in
          let h : qs ≡ ps = cc (w.list-is) in
          listed_is m f vs ws ps qs k e h
          (no_last m f vs ps es i c.elements.result.last k inv.even ended w.in_default.not-Some inv.whole)
          )
    ]
