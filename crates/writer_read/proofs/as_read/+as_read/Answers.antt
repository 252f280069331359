use Rattle.std.specs.Prelude.{List, [], ◌∷◌}
use Rattle.std.proofs.Common.{append_assoc, arith, ap, inl, inr, sym, refl, rules, ◌≡◌, ◌∙◌, ◌-◌, ◌++◌, length, map}
use Rattle.std.proofs.Common.{take}
use Rattle.std.proofs.lemmas.List.{take_all}
use Rattle.reader_table.specs.Kinds.{kind_of}
use Rattle.proc_macro2.specs.Token.{Token, Punct}
use Rattle.rust_leaf.specs.declared.punct.Spacing.{Spacing}
use Rattle.reader_table.specs.Ops.{separator_of}
use Rattle.reader_table.specs.declared.op.Separator.{Separator}
use Rattle.reader_tree.specs.declared.tree.Element.{Element}
use Rattle.reader_tree.specs.Forms.{elements, ending, tree_of, turns}
use Rattle.reader_tree.specs.Size.{node_count}
use Rattle.reader_tree.proofs.Flat.{flat_elements, flat_seconds}
use Rattle.reader_tree.proofs.Sizes.{element_in, turn_in, list_below, tree_size, turns_size}
use Rattle.syn_grammar.specs.Tree as t
use Rattle.syn_grammar.specs.Tree.{Tree, flat}
use denote.Bor.{Bor}
use Rattle.writer_print.specs.Pieces.{piece_token}
use Rattle.writer_rules.proofs.Fronts.{keeps_both, keeps_same}
use Rattle.writer_rules.proofs.Putting.{last_below, loop_end, loop_next, put_none, put_same, put_second}
use Rattle.writer_rules.proofs.Putting.{put_third, tail_inside}
use Rattle.writer_read.specs.Chains.{behind_lefts_read}
use Rattle.writer_read.proofs.Chains.{forms_more}
use Rattle.writer_read.proofs.Flat.{behind_back, behind_infix, behind_none, element_next, left_out, lefts_put}
use Rattle.writer_read.proofs.Flat.{other_read, put_read, read_put, rest_read}
use Rattle.writer_read.proofs.Inside.{first_below, second_below}
use Rattle.writer_read.proofs.as_read.+as_read.Goals as goal

-- the mark of a separator, so spaced
abbrev mark_token : Separator → Spacing → List Token
mark_token mark spacing = Punct (separator_of mark) spacing ∷ []

-- what is called is smaller
pub put_as_read-put_turns-requires : goal.put_as_read-put_turns-requires
put_as_read-put_turns-requires n c =
    let x : Tree = c.tails.left.tree.now in
    let view : x ≡ turns c.in-Turns.turns.now.each.now = sym c.here.view_is ∙ ap tree_of c.in-Turns.is in
    omega (
      arith,
      c.decreases,
      c.tails.invariant.inside,
      turns_size c.in-Turns.turns.now.each.now,
      ap node_count view,
      tree_size x,
    )

pub put_as_read-put_elements-requires : goal.put_as_read-put_elements-requires
put_as_read-put_elements-requires n c =
    let x : Tree = c.tails.left.tree.now in
    let is = sym c.here.view_is ∙ ap tree_of c.in-Elements.is in
    omega (arith, c.decreases, c.tails.invariant.inside, list_below c.in-Elements.list.now x is, tree_size x)

pub put_before_right-put_left-requires : goal.put_before_right-put_left-requires
put_before_right-put_left-requires n c = omega (arith, c.decreases, tree_size c.args.three.now.left)

pub put_before_right-put_as_read-requires : goal.put_before_right-put_as_read-requires
put_before_right-put_as_read-requires n c = omega (arith, c.decreases, tree_size c.args.three.now.own)

pub put_turns-put_as_read-requires : goal.put_turns-put_as_read-requires
put_turns-put_as_read-requires n c =
    let below = turn_in c.args.trees.now c.loop-tree.tree-index c.tree-item.result
    c.loop-tree-test.true c.tree-item.is in
    omega (arith, c.decreases, below)

pub put_elements-put_as_read-requires : goal.put_elements-put_as_read-requires
put_elements-put_as_read-requires n c =
    let below = element_in c.args.before.now c.loop-element.element-index c.element-item.result
    c.loop-element-test.true c.element-item.is in
    omega (arith, c.decreases, below)

-- one more of them has been put
pub put_turns-loop-tree-preserved : goal.put_turns-loop-tree-preserved
put_turns-loop-tree-preserved n c = record {
  kept = keeps_both _ _ _ c.loop-tree.invariant.kept c.put_as_read.ensures.keeps;
  put = loop_next (λ xs. flat (turns xs)) c.args.trees.now c.loop-tree.tree-index c.tree-item.result _ _ _ _
      c.loop-tree-test.true c.tree-item.is refl c.loop-tree.invariant.put c.in_ok-put_as_read.ensures.put;
}

pub put_elements-loop-element-preserved : goal.put_elements-loop-element-preserved
put_elements-loop-element-preserved n c = record {
  kept = keeps_both _ _ _ (keeps_both _ _ _ c.loop-element.invariant.kept c.put_as_read.ensures.keeps)
      c.separator.ensures.keeps;
  put = element_next (separator_of c.args.mark) c.args.before.now c.loop-element.element-index c.element-item.result
      _ _ _ _ c.loop-element-test.true c.element-item.is c.loop-element.invariant.put
      c.in_ok-put_as_read.ensures.put
      (c.in_ok-separator.ensures.put ∙ ap (λ s. map piece_token c.put_as_read.new.out.items ++ mark_token c.args.mark s)
      c.spacing.ensures);
}

-- what is left, by its form
pub put_as_read-tails-init : goal.put_as_read-tails-init
put_as_read-tails-init n c = record {
  kept = keeps_same _ _ refl;
  put = refl;
  inside = omega arith;
}

pub put_as_read-returns-in-Word-clause-put : goal.put_as_read-returns-in-Word-clause-put
put_as_read-returns-in-Word-clause-put n c =
    put_read _ _ _ _ _ _ _ (sym c.here.view_is ∙ ap tree_of c.in-Word.is) refl c.tails.invariant.put
    c.ident.ensures.put

pub put_as_read-returns-in-Word-clause-keeps : goal.put_as_read-returns-in-Word-clause-keeps
put_as_read-returns-in-Word-clause-keeps n c = keeps_both _ _ _ c.tails.invariant.kept c.ident.ensures.keeps

pub put_as_read-returns-in-Literal-clause-put : goal.put_as_read-returns-in-Literal-clause-put
put_as_read-returns-in-Literal-clause-put n c =
    put_read _ _ _ _ _ _ _ (sym c.here.view_is ∙ ap tree_of c.in-Literal.is) refl c.tails.invariant.put
    c.literal.ensures.put

pub put_as_read-returns-in-Literal-clause-keeps : goal.put_as_read-returns-in-Literal-clause-keeps
put_as_read-returns-in-Literal-clause-keeps n c = keeps_both _ _ _ c.tails.invariant.kept c.literal.ensures.keeps

pub put_as_read-returns-in-Mark-clause-put : goal.put_as_read-returns-in-Mark-clause-put
put_as_read-returns-in-Mark-clause-put n c =
    put_read _ _ _ _ _ _ _ (sym c.here.view_is ∙ ap tree_of c.in-Mark.is) refl c.tails.invariant.put
    c.sign.ensures.put

pub put_as_read-returns-in-Mark-clause-keeps : goal.put_as_read-returns-in-Mark-clause-keeps
put_as_read-returns-in-Mark-clause-keeps n c = keeps_both _ _ _ c.tails.invariant.kept c.sign.ensures.keeps

pub put_as_read-returns-in-Lifetime-clause-put : goal.put_as_read-returns-in-Lifetime-clause-put
put_as_read-returns-in-Lifetime-clause-put n c =
    put_read _ _ _ _ _ _ _ (sym c.here.view_is ∙ ap tree_of c.in-Lifetime.is) refl c.tails.invariant.put
    c.lifetime.ensures.put

pub put_as_read-returns-in-Lifetime-clause-keeps : goal.put_as_read-returns-in-Lifetime-clause-keeps
put_as_read-returns-in-Lifetime-clause-keeps n c = keeps_both _ _ _ c.tails.invariant.kept c.lifetime.ensures.keeps

pub put_as_read-returns-in-Raw-clause-put : goal.put_as_read-returns-in-Raw-clause-put
put_as_read-returns-in-Raw-clause-put n c =
    put_read _ _ _ _ _ _ _ (sym c.here.view_is ∙ ap tree_of c.in-Raw.is) refl c.tails.invariant.put
    c.entries.ensures.put

pub put_as_read-returns-in-Raw-clause-keeps : goal.put_as_read-returns-in-Raw-clause-keeps
put_as_read-returns-in-Raw-clause-keeps n c = keeps_both _ _ _ c.tails.invariant.kept c.entries.ensures.keeps

pub put_as_read-returns-in-Turns-clause-put : goal.put_as_read-returns-in-Turns-clause-put
put_as_read-returns-in-Turns-clause-put n c =
    put_read _ _ _ _ _ _ _ (sym c.here.view_is ∙ ap tree_of c.in-Turns.is) refl c.tails.invariant.put
    c.put_turns.ensures.put

pub put_as_read-returns-in-Turns-clause-keeps : goal.put_as_read-returns-in-Turns-clause-keeps
put_as_read-returns-in-Turns-clause-keeps n c = keeps_both _ _ _ c.tails.invariant.kept c.put_turns.ensures.keeps

pub put_as_read-returns-in-Group-clause-put : goal.put_as_read-returns-in-Group-clause-put
put_as_read-returns-in-Group-clause-put n c =
    put_read _ _ _ _ _ _ _ (sym c.here.view_is ∙ ap tree_of c.in-Group.is) refl c.tails.invariant.put
    c.put_group.ensures.put

pub put_as_read-returns-in-Group-clause-keeps : goal.put_as_read-returns-in-Group-clause-keeps
put_as_read-returns-in-Group-clause-keeps n c = keeps_both _ _ _ c.tails.invariant.kept c.put_group.ensures.keeps

pub put_as_read-returns-in_default-clause-put : goal.put_as_read-returns-in_default-clause-put
put_as_read-returns-in_default-clause-put n c =
    let es : List Element = c.in-Elements.list.now.before.now in
    let m = separator_of c.in-Elements.list.now.separator in
    let is : c.tails.left.tree.now ≡ elements m es t.End =
    sym c.here.view_is ∙ ap tree_of c.in-Elements.is
    ∙ ap (λ o. elements m es (ending (λ b. b.now) o)) c.in_default.is in
    read_put _ _ _ _ _ _ is refl c.tails.invariant.put c.in_ok-put_elements-in-Elements.ensures.put

pub put_as_read-returns-in_default-clause-keeps : goal.put_as_read-returns-in_default-clause-keeps
put_as_read-returns-in_default-clause-keeps n c =
    keeps_both _ _ _ c.tails.invariant.kept c.put_elements.ensures.keeps

pub put_as_read-returns-in_err-put_as_read-in-Pair-clause-keeps :
    goal.put_as_read-returns-in_err-put_as_read-in-Pair-clause-keeps
put_as_read-returns-in_err-put_as_read-in-Pair-clause-keeps n c =
    keeps_both _ _ _ c.tails.invariant.kept c.put_as_read.ensures.keeps

pub put_as_read-returns-in_err-put_left-in-Back-clause-keeps :
    goal.put_as_read-returns-in_err-put_left-in-Back-clause-keeps
put_as_read-returns-in_err-put_left-in-Back-clause-keeps n c =
    keeps_both _ _ _ c.tails.invariant.kept c.put_left.ensures.keeps

pub put_as_read-returns-in_err-put_before_right-in-Infix-clause-keeps :
    goal.put_as_read-returns-in_err-put_before_right-in-Infix-clause-keeps
put_as_read-returns-in_err-put_before_right-in-Infix-clause-keeps n c =
    keeps_both _ _ _ c.tails.invariant.kept c.put_before_right.ensures.keeps

pub put_as_read-returns-in_err-put_elements-in-Elements-clause-keeps :
    goal.put_as_read-returns-in_err-put_elements-in-Elements-clause-keeps
put_as_read-returns-in_err-put_elements-in-Elements-clause-keeps n c =
    keeps_both _ _ _ c.tails.invariant.kept c.put_elements.ensures.keeps

pub put_as_read-tails-preserved : goal.put_as_read-tails-preserved
put_as_read-tails-preserved n c =
    elim c.in-Pair.is [
      | inl w ↦ record {
        kept = keeps_both _ _ _ c.tails.invariant.kept c.put_as_read.ensures.keeps;
        put = rest_read _ _ c.in-Pair.two.now.back _ _ _ _
            (sym c.here.view_is ∙ ap tree_of w) refl c.tails.invariant.put
            c.in_ok-put_as_read-in-Pair.ensures.put;
        inside = tail_inside _ _ c.in-Pair.two.now.back c.in-Pair.two.now.back _ (sym c.here.view_is ∙ ap tree_of w)
            refl (omega arith) c.tails.invariant.inside;
      }
      | inr w ↦ record {
        kept = keeps_both _ _ _ c.tails.invariant.kept c.put_as_read.ensures.keeps;
        put = rest_read _ _ c.in-Pair.two.now.back _ _ _ _
            (sym c.here.view_is ∙ ap tree_of w.1) refl c.tails.invariant.put
            c.in_ok-put_as_read-in-Pair.ensures.put;
        inside = tail_inside _ _ c.in-Pair.two.now.back c.in-Pair.two.now.back _ (sym c.here.view_is ∙ ap tree_of w.1)
            refl (omega arith) c.tails.invariant.inside;
      }
    ]

pub put_as_read-tails-preserved-in_ok-put_left-in-Back : goal.put_as_read-tails-preserved-in_ok-put_left-in-Back
put_as_read-tails-preserved-in_ok-put_left-in-Back n c = record {
  kept = keeps_both _ _ _ c.tails.invariant.kept c.put_left.ensures.keeps;
  put = rest_read _ _ c.in-Back.two.now.back _ _ _ _
      (sym c.here.view_is ∙ ap tree_of c.in-Back.is) refl c.tails.invariant.put
      c.in_ok-put_left-in-Back.ensures.put;
  inside = tail_inside _ _ c.in-Back.two.now.back c.in-Back.two.now.back _
      (sym c.here.view_is ∙ ap tree_of c.in-Back.is) refl (omega arith) c.tails.invariant.inside;
}

pub put_as_read-tails-preserved-in_ok-put_before_right-in-Infix :
    goal.put_as_read-tails-preserved-in_ok-put_before_right-in-Infix
put_as_read-tails-preserved-in_ok-put_before_right-in-Infix n c =
    let three = c.in-Infix.three.now in
    record {
      kept = keeps_both _ _ _ c.tails.invariant.kept c.put_before_right.ensures.keeps;
      put = rest_read _ _ three.right _ _ _ _ (sym c.here.view_is ∙ ap tree_of c.in-Infix.is)
          (sym (append_assoc (flat three.left) (flat three.own) (flat three.right))) c.tails.invariant.put
          c.in_ok-put_before_right-in-Infix.ensures.put;
      inside = tail_inside _ _ three.right three.right _ (sym c.here.view_is ∙ ap tree_of c.in-Infix.is)
          refl (omega arith) c.tails.invariant.inside;
    }

pub put_as_read-tails-preserved-in-Some : goal.put_as_read-tails-preserved-in-Some
put_as_read-tails-preserved-in-Some n c =
    let es : List Element = c.in-Elements.list.now.before.now in
    let m = separator_of c.in-Elements.list.now.separator in
    let is : c.tails.left.tree.now ≡ elements m es (t.Final c.in-Some.last.now) =
    sym c.here.view_is ∙ ap tree_of c.in-Elements.is
    ∙ ap (λ o. elements m es (ending (λ b. b.now) o)) c.in-Some.is in record {
      kept = keeps_both _ _ _ c.tails.invariant.kept c.put_elements.ensures.keeps;
      put = rest_read _ _ c.in-Some.last.now _ _ _ _ is (flat_elements m es (t.Final c.in-Some.last.now))
          c.tails.invariant.put
          c.in_ok-put_elements-in-Elements.ensures.put;
      inside = tail_inside _ _ c.in-Some.last.now c.in-Some.last.now _ is
          refl (last_below m es c.in-Some.last.now) c.tails.invariant.inside;
    }

pub put_as_read-tails-preserved-in-First : goal.put_as_read-tails-preserved-in-First
put_as_read-tails-preserved-in-First n c =
    elim c.in-First.is [
      | inl w ↦ record {
        kept = c.tails.invariant.kept;
        put = other_read _ _ c.in-First.inner.now _ _ (sym c.here.view_is ∙ ap tree_of w.1)
            (flat_seconds w.0 (t.First c.in-First.inner.now)) c.tails.invariant.put;
        inside = omega (
          arith,
          first_below w.0 c.in-First.inner.now _
              (sym c.here.view_is ∙ ap tree_of w.1),
          c.tails.invariant.inside,
        );
      }
      | inr v ↦ elim v [
        | inl w ↦ record {
          kept = c.tails.invariant.kept;
          put = other_read _ _ c.in-First.inner.now _ _ (sym c.here.view_is ∙ ap tree_of w.1)
              (flat_seconds w.0 c.in-First.inner.now) c.tails.invariant.put;
          inside = omega (
            arith,
            second_below w.0 c.in-First.inner.now _
                (sym c.here.view_is ∙ ap tree_of w.1),
            c.tails.invariant.inside,
          );
        }
        | inr w ↦ record {
          kept = c.tails.invariant.kept;
          put = other_read _ _ c.in-First.inner.now _ _ (sym c.here.view_is ∙ ap tree_of w) refl c.tails.invariant.put;
          inside = tail_inside _ _ c.in-First.inner.now c.in-First.inner.now _ (sym c.here.view_is ∙ ap tree_of w)
              refl (omega arith) c.tails.invariant.inside;
        }
      ]
    ]

pub put_as_read-tails-preserved-in-Called : goal.put_as_read-tails-preserved-in-Called
put_as_read-tails-preserved-in-Called n c =
    elim c.in-Called.is [
      | inl w ↦ record {
        kept = c.tails.invariant.kept;
        put = other_read _ _ c.in-Called.inner.now _ _ (sym c.here.view_is ∙ ap tree_of w.1) refl c.tails.invariant.put;
        inside = tail_inside _ _ c.in-Called.inner.now c.in-Called.inner.now _ (sym c.here.view_is ∙ ap tree_of w.1)
            refl (omega arith) c.tails.invariant.inside;
      }
      | inr v ↦ elim v [
        | inl w ↦ record {
          kept = c.tails.invariant.kept;
          put = other_read _ _ c.in-Called.inner.now _ _ (sym c.here.view_is ∙ ap tree_of w) refl c.tails.invariant.put;
          inside = tail_inside _ _ c.in-Called.inner.now c.in-Called.inner.now _ (sym c.here.view_is ∙ ap tree_of w)
              refl (omega arith) c.tails.invariant.inside;
        }
        | inr w ↦ record {
          kept = c.tails.invariant.kept;
          put = other_read _ _ c.in-Called.inner.now _ _
              (sym c.here.view_is ∙ ap tree_of w.1) refl c.tails.invariant.put;
          inside = tail_inside _ _ c.in-Called.inner.now c.in-Called.inner.now _ (sym c.here.view_is ∙ ap tree_of w.1)
              refl (omega arith) c.tails.invariant.inside;
        }
      ]
    ]

pub put_as_read-tails-preserved-in-Whole : goal.put_as_read-tails-preserved-in-Whole
put_as_read-tails-preserved-in-Whole n c =
    elim c.in-Whole.is [
      | inl w ↦ record {
        kept = c.tails.invariant.kept;
        put = other_read _ _ c.in-Whole.inner.now _ _ (sym c.here.view_is ∙ ap tree_of w) refl c.tails.invariant.put;
        inside = tail_inside _ _ c.in-Whole.inner.now c.in-Whole.inner.now _ (sym c.here.view_is ∙ ap tree_of w)
            refl (omega arith) c.tails.invariant.inside;
      }
      | inr w ↦ record {
        kept = c.tails.invariant.kept;
        put = other_read _ _ c.in-Whole.inner.now _ _ (sym c.here.view_is ∙ ap tree_of w.1) refl c.tails.invariant.put;
        inside = tail_inside _ _ c.in-Whole.inner.now c.in-Whole.inner.now _ (sym c.here.view_is ∙ ap tree_of w.1)
            refl (omega arith) c.tails.invariant.inside;
      }
    ]

-- a group, and what stands before the right operand of an infix form
pub put_group-returns-clause-put : goal.put_group-returns-clause-put
put_group-returns-clause-put n c =
    put_third _ _ _ _ _ _ _ _ _ c.in_ok-opening.ensures.put c.in_ok-put_as_read.ensures.put refl c.closing.ensures.put

pub put_group-returns-in_err-put_as_read-clause-keeps : goal.put_group-returns-in_err-put_as_read-clause-keeps
put_group-returns-in_err-put_as_read-clause-keeps n c =
    keeps_both _ _ _ c.opening.ensures.keeps c.put_as_read.ensures.keeps

pub put_group-returns-clause-keeps : goal.put_group-returns-clause-keeps
put_group-returns-clause-keeps n c =
    keeps_both _ _ _ (keeps_both _ _ _ c.opening.ensures.keeps c.put_as_read.ensures.keeps) c.closing.ensures.keeps

pub put_before_right-returns-clause-put : goal.put_before_right-returns-clause-put
put_before_right-returns-clause-put n c =
    put_second _ _ _ _ _ _ _ c.in_ok-put_left.ensures.put refl c.put_as_read.ensures.put

pub put_before_right-returns-clause-keeps : goal.put_before_right-returns-clause-keeps
put_before_right-returns-clause-keeps n c = keeps_both _ _ _ c.put_left.ensures.keeps c.put_as_read.ensures.keeps

-- a left operand
pub put_left-returns-in_err-put_as_read-clause-keeps : goal.put_left-returns-in_err-put_as_read-clause-keeps
put_left-returns-in_err-put_as_read-clause-keeps n c = c.put_as_read.ensures.keeps

pub put_left-returns-clause-put : goal.put_left-returns-clause-put
put_left-returns-clause-put n c =
    let empty : c.new-forms.result.items ≡ [] = search rules in
    let lent : c.as_slice.result.now ≡ c.leftmost.new.forms.items = search rules in
    lefts_put _ c.args.tree.now c.in_ok-inner.inner.now _ _ _ _ _
    (c.in_ok-inner.ensures.read
    ∙ ap (λ (xs : List (Bor Tree)). flat c.args.tree.now ++ behind_lefts_read (map (λ (x : Bor Tree). x.now) xs)) empty)
    c.in_ok-put_as_read.ensures.put
    (ap (λ (xs : List (Bor Tree)). behind_lefts_read (map (λ (x : Bor Tree). x.now) xs)) lent)
    c.put_behinds.ensures.put

pub put_left-returns-clause-keeps : goal.put_left-returns-clause-keeps
put_left-returns-clause-keeps n c = keeps_both _ _ _ c.put_as_read.ensures.keeps c.put_behinds.ensures.keeps

-- what stands behind a left operand
pub put_behind-returns-in-Some-clause-put : goal.put_behind-returns-in-Some-clause-put
put_behind-returns-in-Some-clause-put n c =
    let three = c.in-Some.three.now in
    put_second _ _ _ _ _ _ _ c.in_ok-put_as_read.ensures.put
    (behind_infix c.args.form.now (kind_of c.in-Some.field-0-0) three.left three.own three.right c.in-Some.ensures)
    c.put_as_read-in-Some.ensures.put

pub put_behind-returns-in-Some-clause-keeps : goal.put_behind-returns-in-Some-clause-keeps
put_behind-returns-in-Some-clause-keeps n c =
    keeps_both _ _ _ c.put_as_read.ensures.keeps c.put_as_read-in-Some.ensures.keeps

pub put_behind-returns-in-Some-back-clause-put : goal.put_behind-returns-in-Some-back-clause-put
put_behind-returns-in-Some-back-clause-put n c =
    put_same _ _ _ _ _ (behind_back c.args.form.now (kind_of c.in-Some-back.field-0-0) c.in-Some-back.two.now.front
    c.in-Some-back.two.now.back c.in-Some-back.ensures) c.put_as_read-in-Some-back.ensures.put

pub put_behind-returns-in-None-clause-put : goal.put_behind-returns-in-None-clause-put
put_behind-returns-in-None-clause-put n c =
    put_none _ _ (behind_none c.args.form.now c.in_default.ensures c.in-None.ensures)

pub put_behinds-returns-in_err-put_behind-clause-keeps : goal.put_behinds-returns-in_err-put_behind-clause-keeps
put_behinds-returns-in_err-put_behind-clause-keeps n c =
    keeps_both _ _ _ c.loop-left.invariant.kept c.put_behind.ensures.keeps

-- lists
pub put_turns-returns-in_err-put_as_read-clause-keeps : goal.put_turns-returns-in_err-put_as_read-clause-keeps
put_turns-returns-in_err-put_as_read-clause-keeps n c =
    keeps_both _ _ _ c.loop-tree.invariant.kept c.put_as_read.ensures.keeps

pub put_turns-returns-clause-put : goal.put_turns-returns-clause-put
put_turns-returns-clause-put n c =
    loop_end (λ xs. flat (turns xs)) c.args.trees.now c.loop-tree.tree-index _ _ c.loop-tree-test.false refl
    c.loop-tree.invariant.put

pub put_elements-returns-in_err-put_as_read-clause-keeps : goal.put_elements-returns-in_err-put_as_read-clause-keeps
put_elements-returns-in_err-put_as_read-clause-keeps n c =
    keeps_both _ _ _ c.loop-element.invariant.kept c.put_as_read.ensures.keeps

pub put_elements-returns-in_err-separator-clause-keeps : goal.put_elements-returns-in_err-separator-clause-keeps
put_elements-returns-in_err-separator-clause-keeps n c =
    keeps_both _ _ _ (keeps_both _ _ _ c.loop-element.invariant.kept c.put_as_read.ensures.keeps)
    c.separator.ensures.keeps

pub put_elements-returns-clause-put : goal.put_elements-returns-clause-put
put_elements-returns-clause-put n c =
    loop_end (λ es. flat (elements (separator_of c.args.mark) es t.End)) c.args.before.now c.loop-element.element-index
    _ _
    c.loop-element-test.false refl c.loop-element.invariant.put

-- what stands behind the forms that are left
pub put_behinds-loop-left-init : goal.put_behinds-loop-left-init
put_behinds-loop-left-init n c = record {
  kept = keeps_same _ _ refl;
  put = ap (λ (ys : List (Bor Tree)). map piece_token c.args.out.now.items
      ++ behind_lefts_read (map (λ (y : Bor Tree). y.now) ys))
      (take_all (length c.args.forms.now) c.args.forms.now (omega arith));
  within = omega arith;
}

pub put_behinds-loop-left-preserved : goal.put_behinds-loop-left-preserved
put_behinds-loop-left-preserved n c =
    let i = c.loop-left.left - 1 in
    let x : Bor Tree = c.index-forms-left.result in
    let more : map (λ (y : Bor Tree). y.now) (take c.loop-left.left c.args.forms.now)
    ≡ map (λ (y : Bor Tree). y.now) (take i c.args.forms.now) ++ x.now ∷ [] =
    forms_more c.args.forms.now c.loop-left.left i x (omega (arith, c.loop-left-test.true))
    (omega (arith, c.loop-left-test.true, c.loop-left.invariant.within)) c.index-forms-left.is in
    record {
      kept = keeps_both _ _ _ c.loop-left.invariant.kept c.put_behind.ensures.keeps;
      put = left_out (map piece_token c.loop-left.out.items) (map piece_token c.put_behind.new.out.items)
          (map piece_token c.args.out.now.items ++ behind_lefts_read (map (λ (y : Bor Tree). y.now) c.args.forms.now))
          x.now (map (λ (y : Bor Tree). y.now) (take i c.args.forms.now)) c.in_ok-put_behind.ensures.put
          (ap (λ (ys : List Tree). map piece_token c.loop-left.out.items ++ behind_lefts_read ys) (sym more)
          ∙ c.loop-left.invariant.put);
      within = omega (arith, c.loop-left.invariant.within);
    }
