-- Lists and turns by what is held of each.
use Rattle.std.specs.Prelude.{List}
use Rattle.std.proofs.Common.{◌≡◌, ◌<◌, ◌∙◌, ◌++◌, [], ◌∷◌, arith, ap, length, map, option_to_list, refl, subst, sym}
use Rattle.syn_grammar.specs.Tree.{Tree}
use Rattle.reader_table.specs.Ops.{separator_of}
use Rattle.reader_tree.specs.Forms.{elements, ending, tree_of, turns}
use Rattle.reader_tree.specs.Size.{node_count}
use Rattle.reader_tree.proofs.Sizes.{elements_below, tree_size, turns_size}
use Rattle.writer_normal.proofs.Inside.{last_below}
use Rattle.syn_grammar.specs.Tree as t
use Rattle.reader_tree.specs.declared.tree.Element.{Element}
use Rattle.syn_grammar.specs.Kept.{kept}
use Rattle.writer_normal.specs.Held.{element_held}
use Rattle.writer_normal.proofs.Holding.{held_none, held_some}
use Rattle.writer_normal.proofs.Stepping.{made_so}
use Rattle.writer_normal.proofs.Frames.{held_fewer, inside, weight_below, within_below, within_more}
use Rattle.writer_normal.specs.Frames.{framed, IsBegun, IsHeldWithin, IsWithin}
use Rattle.writer_normal.specs.declared.frame.Frame.{Frame}
use Rattle.writer_normal.proofs.kept.+kept.Goals as goal

pub list-put_elements-requires : goal.list-put_elements-requires
list-put_elements-requires n c =
    let list = c.args.list.now in
    let m = separator_of list.separator in
    let y : Tree = ending (λ b. b.now) list.last in
    let x : Tree = elements m list.before.now y in
    omega (arith, c.decreases, elements_below m list.before.now y x refl, tree_size x)

pub list-kept_in-requires : goal.list-kept_in-requires
list-kept_in-requires n c =
    let list = c.args.list.now in
    let m = separator_of list.separator in
    let x : Tree = elements m list.before.now (ending (λ b. b.now) list.last) in
    let is : x ≡ elements m list.before.now (t.Final c.in-Some.last.now) =
    ap (λ o. elements m list.before.now (ending (λ b. b.now) o)) c.in-Some.is in
    omega (
      arith,
      c.decreases,
      last_below m list.before.now c.in-Some.last.now x is,
      tree_size x,
      tree_size c.in-Some.last.now,
    )

pub list-returns-in_ok-ended-in-Some-clause-held : goal.list-returns-in_ok-ended-in-Some-clause-held
list-returns-in_ok-ended-in-Some-clause-held n c =
    let list = c.args.list.now in
    let m = separator_of list.separator in
    let es : List Element = list.before.now in
    made_so c.elements.result _ _ c.elements.ensures
    (held_some m es c.put_elements.new.out.items c.in-Some.last.now c.in_ok-ended-in-Some.ended
    (c.in_ok-put_elements.ensures.put ∙ ap (λ xs. xs ++ map element_held es) c.new-before.ensures.items)
    c.in_ok-ended-in-Some.ensures.held
    ∙ ap (λ o. kept (elements m es (ending (λ b. b.now) o))) (sym c.in-Some.is))

pub list-returns-in-None-clause-held : goal.list-returns-in-None-clause-held
list-returns-in-None-clause-held n c =
    let list = c.args.list.now in
    let m = separator_of list.separator in
    let es : List Element = list.before.now in
    made_so c.elements-in-None.result _ _ c.elements-in-None.ensures
    (held_none m es c.put_elements.new.out.items
    (c.in_ok-put_elements.ensures.put ∙ ap (λ xs. xs ++ map element_held es) c.new-before.ensures.items)
    ∙ ap (λ o. kept (elements m es (ending (λ b. b.now) o))) (sym c.in-None.is))

pub begun-turns-requires : goal.begun-turns-requires
begun-turns-requires n c =
    let xs : List Tree = c.in-Turns.trees.now.each.now in
    let x : Tree = c.args.tree.now in
    let view : x ≡ turns xs = sym c.tree.view_is ∙ ap tree_of c.in-Turns.is in
    omega (arith, c.decreases, turns_size xs, ap node_count view, tree_size x)

pub innermost-begun-requires : goal.innermost-begun-requires
innermost-begun-requires n c =
    omega (
      arith,
      c.decreases,
      within_below c.args.frames.now.items c.into.frames.items c.into.place.tree.now c.args.tree.now c.into.invariant,
    )

pub innermost-into-smaller : goal.innermost-into-smaller
innermost-into-smaller n c =
    let x : Tree = c.in-Within.inner.now in
    let y : Tree = c.into.place.tree.now in
    let goes_on : framed c.in-Within.frame x ≡ y = subst (IsBegun y) c.in-Within.is c.in_ok-made.ensures.begun in
    omega (arith, inside c.in-Within.frame x y goes_on)

pub innermost-into-preserved : goal.innermost-into-preserved
innermost-into-preserved n c =
    let before : List Frame = c.args.frames.now.items in
    let f : Frame = c.in-Within.frame in
    let x : Tree = c.in-Within.inner.now in
    let y : Tree = c.into.place.tree.now in
    let goes_on : framed f x ≡ y = subst (IsBegun y) c.in-Within.is c.in_ok-made.ensures.begun in
    let put : c.push.new.self.items ≡ c.into.frames.items ++ f ∷ [] =
    c.in_ok-push-in-Within.ensures.items ∙ ap (λ fs. fs ++ f ∷ []) c.in_ok-made.ensures.frames in
    subst (λ fs. IsWithin before fs x c.args.tree.now) (sym put)
    (within_more before c.into.frames.items f x y c.args.tree.now goes_on c.into.invariant)

pub kept_in-around-requires : goal.kept_in-around-requires
kept_in-around-requires n c =
    let before : List Frame = c.args.frames.now.items in
    let others : List Frame = c.pop.new.self.items in
    let all : List Frame = c.out.frames.items in
    let f : Frame = c.in-Some.frame in
    let more : length before < length all = omega (arith, c.out.invariant.outer, c.out-test.true, c.len.ensures) in
    let last : all ≡ others ++ f ∷ [] =
    c.pop.ensures.items ∙ ap (λ o. others ++ option_to_list o) c.in-Some.is in
    omega (
      arith,
      c.decreases,
      weight_below before others all f c.out.made c.args.tree.now more last c.out.invariant.held,
    )

pub kept_in-out-preserved-in-Some : goal.kept_in-out-preserved-in-Some
kept_in-out-preserved-in-Some n c =
    let before : List Frame = c.args.frames.now.items in
    let others : List Frame = c.pop.new.self.items in
    let all : List Frame = c.out.frames.items in
    let f : Frame = c.in-Some.frame in
    let whole : Tree = c.args.tree.now in
    let more : length before < length all = omega (arith, c.out.invariant.outer, c.out-test.true, c.len.ensures) in
    let last : all ≡ others ++ f ∷ [] =
    c.pop.ensures.items ∙ ap (λ o. others ++ option_to_list o) c.in-Some.is in
    record {
      outer = c.out.invariant.outer;
      held = subst (λ fs. IsHeldWithin before fs c.in_ok-made-2.made whole) (sym c.in_ok-made-2.ensures.frames)
          (held_fewer before others all f c.in_ok-made-2.made c.out.made whole more last c.in_ok-made-2.ensures.held
          c.out.invariant.held);
    }
