use Rattle.std.specs.Prelude.{Bool, List, [], ◌∷◌, OnOk, Some, None, true, false, cond, not}
use Rattle.std.specs.List.{list_any}
use Rattle.std.proofs.Common.{append_assoc, arith, ap, subst, sym, refl, rules, ◌≡◌, ◌∙◌, ◌+◌, ◌-◌, ◌++◌, drop, length}
use Rattle.std.proofs.Common.{map, take}
use Rattle.std.proofs.lemmas.List.{take_all}
use Rattle.std.proofs.lemmas.Result.{on_ok_weaker}
use Rattle.std.proofs.lemmas.Grind.{common_steps}
use denote.Bor.{Bor}
use Rattle.proc_macro2.specs.Token.{Token, Punct}
use Rattle.rust_leaf.specs.declared.punct.Spacing.TheVariants.{Alone as Apart}
use Rattle.writer_print.specs.Pieces.{piece_token}
use Rattle.reader_table.specs.Kinds.{kind_of}
use Rattle.reader_table.specs.Ops.{separator_of}
use Rattle.reader_table.specs.Parts.{part_of}
use Rattle.rust_leaf.specs.Leaf.{literal_text}
use Rattle.syn_grammar.specs.Tree as t
use Rattle.syn_grammar.specs.Tree.{Tree}
use Rattle.syn_grammar.specs.Words.{indices}
use Rattle.reader_tree.specs.declared.tree.Element.{Element}
use Rattle.reader_tree.specs.Forms.{elements, tree_of, turns, ending}
use Rattle.reader_tree.specs.Size.{node_count}
use Rattle.reader_tree.proofs.Sizes.{element_in, list_below, tree_size, turns_size}
use Rattle.laws_ranges.specs.Shelled.{enclosed_if}
use Rattle.writer_rules.specs.declared.within.Within.{Within}
use Rattle.writer_rules.specs.Laid.{firsts_laid, given_laid, laid, laid_in, others_laid, those_laid}
use Rattle.writer_rules.specs.Said.{fields, front_fields}
use Rattle.writer_rules.specs.Operands.{giving_of, stated_of}
use Rattle.writer_rules.specs.Way.{dotted_of, is_dotted, last_text, passes}
use Rattle.writer_rules.proofs.Fronts.{keeps_both, keeps_same, keeps_taken}
use Rattle.writer_rules.proofs.Operands.{stated_below}
use Rattle.writer_rules.proofs.Pushing.{puts}
use Rattle.writer_rules.proofs.WayForms.{own_number, own_undotted}
use Rattle.writer_rules.specs.Laid.{behind_laid, has_attributes}
use Rattle.writer_rules.specs.Seen.{is_missing}
use Rattle.writer_rules.specs.Turns.{apart_where, is_set_apart}
use Rattle.writer_rules.specs.Way.{way_laid}
use Rattle.writer_rules.proofs.Putting.{chain_put, form_put, last_below, loop_end, other_left, put_form}
use Rattle.writer_rules.proofs.Putting.{put_fourth, put_none, put_same, put_second, put_third, tail_inside, tail_left}
use Rattle.writer_rules.proofs.WayForms.{own_else, own_plain}
use Rattle.writer_read.specs.Chains.{behind_lefts}
use Rattle.writer_read.proofs.Chains.{forms_more, given_put, step_out}
use Rattle.writer_read.proofs.Laying.{elements_next, firsts_passing, four_put, others_next, others_skip, those_next}
use Rattle.writer_read.proofs.Laying.{those_skip}
use Rattle.std.proofs.lemmas.List.{length-map}
use Rattle.proc_macro2.specs.Token.{Closes}
use Rattle.proc_macro2.specs.declared.delimiter.Delimiter.TheVariants.{Parenthesis}
use Rattle.syn_grammar.specs.Kind.{Kind}
use Rattle.reader_table.specs.Words.{sign_text}
use Rattle.writer_read.proofs.Chains.{behind_back, behind_infix, behind_none}
use Rattle.writer_read.proofs.Expressing.{enclosed_parts, statement_none, statement_some}
use Rattle.writer_read.proofs.Laying.{firsts_closed, firsts_open, laid_mark, laid_turns, missing_node, node_same}
use Rattle.writer_read.proofs.Laying.{parameter_alone, parameter_named}
use Rattle.writer_read.proofs.Laying.{laid_closed, laid_open, missing_laid}
use Rattle.laws_ranges.specs.Shelled.{goes_in, is_shelled}
use Rattle.reader_tree.specs.declared.tree.Tree.TheDeep.{size-Tree}
use Rattle.writer_read.proofs.+laid.Goals as goal
use Rattle.writer_read.proofs.+laid.Goals.{laid::put_others-then-not-passes+in_ok-put_laid+in_ok-separator}
use Rattle.writer_read.proofs.+laid.Goals.{laid::put_others-else-not-passes}
use Rattle.writer_read.proofs.+laid.Goals.{laid::put_those-then-passes+in_ok-put_laid+in_ok-separator}
use Rattle.writer_read.proofs.+laid.Goals.{laid::put_those-else-passes}

-- what is called is smaller
pub laid::put_laid-put_turns-requires : goal.laid::put_laid-put_turns-requires
laid::put_laid-put_turns-requires n c =
    let x : Tree = c.tails.left.tree.now in
    let view : x ≡ turns c.in-Turns.turns.now.each.now = sym c.here.view_is ∙ ap tree_of c.in-Turns.is in
    omega (
      arith,
      c.decreases,
      c.tails.invariant.inside,
      turns_size c.in-Turns.turns.now.each.now,
      ap node_count view,
      tree_size x,
    )

pub laid::put_laid-put_elements-requires : goal.laid::put_laid-put_elements-requires
laid::put_laid-put_elements-requires n c =
    let x : Tree = c.tails.left.tree.now in
    let is = sym c.here.view_is ∙ ap tree_of c.in-Elements.is in
    omega (arith, c.decreases, c.tails.invariant.inside, list_below c.in-Elements.list.now x is, tree_size x)

-- a part is put behind what was put before it
part_put : (w : Within) (x y : Tree) (ts us vs : List Token) → x ≡ y → ts ++ laid_in w x ≡ vs → us ≡ ts ++ laid_in w y
    → us ≡ vs
part_put w x y ts us vs v i e = e ∙ ap (λ z. ts ++ laid_in w z) (sym v) ∙ i

pub laid::put_laid-returns-in_default-within-clause-put : goal.laid::put_laid-returns-in_default-within-clause-put
laid::put_laid-returns-in_default-within-clause-put n c =
    let x : Tree = c.tails.left.tree.now in
    let y : Tree = t.Called (part_of c.in-Called.part) c.in-Called.inner.now in
    let view : x ≡ y = sym c.here.view_is ∙ ap tree_of c.in-Called.is in
    let ts : List Token = map piece_token c.tails.out.items in
    let us : List Token = map piece_token c.put_part.new.out.items in
    let vs : List Token = map piece_token c.args.out.now.items ++ laid_in c.args.within c.args.tree.now in
    let before : ts ++ laid_in c.tails.left.within x ≡ vs = c.tails.invariant.put in
    let behind : OnOk c.put_part.result (us ≡ ts ++ laid_in c.tails.left.within y) = c.put_part.ensures.put in
    let put : OnOk c.put_part.result (us ≡ vs) =
    on_ok_weaker c.put_part.result (λ e. part_put c.tails.left.within x y ts us vs view before e) behind in put

pub laid::put_firsts-put_those-requires : goal.laid::put_firsts-put_those-requires
laid::put_firsts-put_those-requires n c =
    let is = sym c.list.view_is ∙ ap tree_of c.in-Elements.is in
    omega (arith, c.decreases, list_below c.in-Elements.elements.now c.args.list.now is)

pub laid::put_firsts-put_others-requires : goal.laid::put_firsts-put_others-requires
laid::put_firsts-put_others-requires n c =
    let is = sym c.list.view_is ∙ ap tree_of c.in-Elements.is in
    omega (arith, c.decreases, list_below c.in-Elements.elements.now c.args.list.now is)

pub laid::put_firsts-put_others-requires-then-passes : goal.laid::put_firsts-put_others-requires-then-passes
laid::put_firsts-put_others-requires-then-passes n c =
    let is = sym c.list.view_is ∙ ap tree_of c.in-Elements.is in
    omega (arith, c.decreases, list_below c.in-Elements.elements.now c.args.list.now is)

pub laid::put_firsts-put_others-requires-else-passes : goal.laid::put_firsts-put_others-requires-else-passes
laid::put_firsts-put_others-requires-else-passes n c =
    let is = sym c.list.view_is ∙ ap tree_of c.in-Elements.is in
    omega (arith, c.decreases, list_below c.in-Elements.elements.now c.args.list.now is)

pub laid::put_elements-put_laid-requires : goal.laid::put_elements-put_laid-requires
laid::put_elements-put_laid-requires n c =
    let below = element_in c.args.before.now c.loop-element.element-index c.element-item.result
    c.loop-element-test.true c.element-item.is in
    omega (arith, c.decreases, below)

pub laid::put_those-put_laid-requires : goal.laid::put_those-put_laid-requires
laid::put_those-put_laid-requires n c =
    let below = element_in c.args.before.now c.loop-element.element-index c.element-item.result
    c.loop-element-test.true c.element-item.is in
    omega (arith, c.decreases, below)

pub laid::put_others-put_laid-requires : goal.laid::put_others-put_laid-requires
laid::put_others-put_laid-requires n c =
    let below = element_in c.args.before.now c.loop-element.element-index c.element-item.result
    c.loop-element-test.true c.element-item.is in
    omega (arith, c.decreases, below)

pub laid::put_firsts-returns-in_ok-comma-clause-put : goal.laid::put_firsts-returns-in_ok-comma-clause-put
laid::put_firsts-returns-in_ok-comma-clause-put n c =
    let q : Tree → Bool = passes c.args.which in
    let m = separator_of c.in-Elements.elements.now.separator in
    let es : List Element = c.in-Elements.elements.now.before.now in
    let those : List Token = those_laid q false (elements m es t.End) in
    let comma : List Token = cond (list_any (λ e. not (q e.tree)) es) (Punct 44 Apart ∷ []) [] in
    let others : List Token = others_laid q [] (elements m es t.End) in
    let view : c.args.list.now ≡ elements m es (t.Final c.in-Some.last.now) =
    sym c.list.view_is ∙ ap tree_of c.in-Elements.is
    ∙ ap (λ o. elements m es (ending (λ b. b.now) o)) c.in-Some.is in
    let passing : q c.in-Some.last.now ≡ true = search rules in
    let first : map piece_token c.put_those.new.out.items ≡ map piece_token c.args.out.now.items ++ those =
    search rules in
    let second : map piece_token c.put_laid-then-passes.new.out.items
    ≡ map piece_token c.put_those.new.out.items ++ laid c.in-Some.last.now = search rules in
    let lacks : c.lacks_some.result ≡ list_any (λ e. not (q e.tree)) es = c.lacks_some.ensures in
    let third : map piece_token c.comma.new.out.items ≡ map piece_token c.put_laid-then-passes.new.out.items ++ comma =
    c.in_ok-comma.ensures.put
    ∙ ap (λ b. map piece_token c.put_laid-then-passes.new.out.items ++ cond b (Punct 44 Apart ∷ []) []) lacks in
    on_ok_weaker c.put_others-then-passes.result
    (λ e. four_put (map piece_token c.args.out.now.items) (map piece_token c.put_those.new.out.items)
    (map piece_token c.put_laid-then-passes.new.out.items) (map piece_token c.comma.new.out.items)
    (map piece_token c.put_others-then-passes.new.out.items) those (laid c.in-Some.last.now) comma others
    (firsts_laid q c.args.list.now) first second third e
    (ap (firsts_laid q) view ∙ firsts_passing q m es c.in-Some.last.now passing))
    c.put_others-then-passes.ensures.put

pub laid::put_those-loop-element-preserved : goal.laid::put_those-loop-element-preserved
laid::put_those-loop-element-preserved n c =
    let q : Tree → Bool = passes c.args.which in
    let m = separator_of c.args.mark in
    let left : List Token = those_laid q false
    (elements m (drop (c.loop-element.element-index + 1) c.args.before.now) t.End) in
    let whole : List Token = map piece_token c.args.out.now.items
    ++ those_laid q false (elements m c.args.before.now t.End) in
    elim c.if-passes.branch [
      | laid::put_those-then-passes+in_ok-put_laid+in_ok-separator w ↦
          let passing : q c.element-item.result.tree ≡ true = search rules in
          let same : map piece_token c.if-passes.out.items ≡ map piece_token w.separator.new.out.items =
          ap (λ o. map piece_token o.items) w.out-is in
          record {
            kept = keeps_both _ _ _ (keeps_both _ _ _ (keeps_both _ _ _ c.loop-element.invariant.kept
                w.put_laid.ensures.keeps) w.separator.ensures.keeps) (keeps_same _ _ (ap (λ o. o.items) w.out-is));
            put = ap (λ ts. ts ++ left) same
                ∙ those_next q m c.args.before.now c.loop-element.element-index c.element-item.result
                (map piece_token c.loop-element.out.items) whole (map piece_token w.put_laid.new.out.items)
                (map piece_token w.separator.new.out.items) c.loop-element-test.true c.element-item.is passing
                c.loop-element.invariant.put w.in_ok-put_laid.ensures.put w.in_ok-separator.ensures.put;
          }
      | laid::put_those-else-passes w ↦
          let fails : q c.element-item.result.tree ≡ false = search rules in
          let same : map piece_token c.if-passes.out.items ≡ map piece_token c.loop-element.out.items =
          ap (λ o. map piece_token o.items) w.out-is in
          record {
            kept = keeps_both _ _ _ c.loop-element.invariant.kept (keeps_same _ _ (ap (λ o. o.items) w.out-is));
            put = ap (λ ts. ts ++ left) same
                ∙ those_skip q m c.args.before.now c.loop-element.element-index c.element-item.result
                (map piece_token c.loop-element.out.items) whole c.loop-element-test.true c.element-item.is fails
                c.loop-element.invariant.put;
          }
    ]

pub laid::put_others-loop-element-preserved : goal.laid::put_others-loop-element-preserved
laid::put_others-loop-element-preserved n c =
    let q : Tree → Bool = passes c.args.which in
    let m = separator_of c.args.mark in
    let left : List Token = others_laid q []
    (elements m (drop (c.loop-element.element-index + 1) c.args.before.now) t.End) in
    let whole : List Token = map piece_token c.args.out.now.items
    ++ others_laid q [] (elements m c.args.before.now t.End) in
    elim c.if-not-passes.branch [
      | laid::put_others-then-not-passes+in_ok-put_laid+in_ok-separator w ↦
          let fails : q c.element-item.result.tree ≡ false = search rules in
          let same : map piece_token c.if-not-passes.out.items ≡ map piece_token w.separator.new.out.items =
          ap (λ o. map piece_token o.items) w.out-is in
          record {
            kept = keeps_both _ _ _ (keeps_both _ _ _ (keeps_both _ _ _ c.loop-element.invariant.kept
                w.put_laid.ensures.keeps) w.separator.ensures.keeps) (keeps_same _ _ (ap (λ o. o.items) w.out-is));
            put = ap (λ ts. ts ++ left) same
                ∙ others_next q m c.args.before.now c.loop-element.element-index c.element-item.result
                (map piece_token c.loop-element.out.items) whole (map piece_token w.put_laid.new.out.items)
                (map piece_token w.separator.new.out.items) c.loop-element-test.true c.element-item.is fails
                c.loop-element.invariant.put w.in_ok-put_laid.ensures.put w.in_ok-separator.ensures.put;
          }
      | laid::put_others-else-not-passes w ↦
          let passing : q c.element-item.result.tree ≡ true = search rules in
          let same : map piece_token c.if-not-passes.out.items ≡ map piece_token c.loop-element.out.items =
          ap (λ o. map piece_token o.items) w.out-is in
          record {
            kept = keeps_both _ _ _ c.loop-element.invariant.kept (keeps_same _ _ (ap (λ o. o.items) w.out-is));
            put = ap (λ ts. ts ++ left) same
                ∙ others_skip q m c.args.before.now c.loop-element.element-index c.element-item.result
                (map piece_token c.loop-element.out.items) whole c.loop-element-test.true c.element-item.is passing
                c.loop-element.invariant.put;
          }
    ]

pub turn::put_turns-loop-index-preserved : goal.turn::put_turns-loop-index-preserved
turn::put_turns-loop-index-preserved n c = record {
  kept = keeps_both _ _ _ c.loop-index.invariant.kept c.put_turn.ensures.keeps;
  put = grind (arith, common_steps, puts);
}

pub laid::put_elements-loop-element-preserved : goal.laid::put_elements-loop-element-preserved
laid::put_elements-loop-element-preserved n c = record {
  kept = keeps_both _ _ _ (keeps_both _ _ _ c.loop-element.invariant.kept c.put_laid.ensures.keeps)
      c.separator.ensures.keeps;
  put = elements_next (separator_of c.args.mark) c.args.before.now c.loop-element.element-index c.element-item.result _
      _ _ _
      c.loop-element-test.true c.element-item.is c.loop-element.invariant.put c.in_ok-put_laid.ensures.put
      c.in_ok-separator.ensures.put;
}

-- a turn whose last mark is set apart behind the old ones
pub turn::put_turn-returns-clause-keeps : goal.turn::put_turn-returns-clause-keeps
turn::put_turn-returns-clause-keeps n c =
    keeps_taken c.args.out.now.items c.put_laid-2.new.out.items c.set_apart.new.out.items c.len-before.result
    (omega (arith, c.len-before.ensures, c.args.out.now.ok.0)) c.put_laid-2.ensures.keeps c.set_apart.ensures.front

pub expressed::put_back-put_operand-requires : goal.expressed::put_back-put_operand-requires
expressed::put_back-put_operand-requires n c = omega (arith, c.decreases, tree_size c.args.two.now.front)

pub expressed::put_back-put_own-requires : goal.expressed::put_back-put_own-requires
expressed::put_back-put_own-requires n c = omega (arith, c.decreases, tree_size c.args.two.now.back)

pub expressed::put_left-put_operand-requires : goal.expressed::put_left-put_operand-requires
expressed::put_left-put_operand-requires n c = omega (arith, c.decreases, tree_size c.args.three.now.left)

pub expressed::put_statement-put_laid-requires-2 : goal.expressed::put_statement-put_laid-requires-2
expressed::put_statement-put_laid-requires-2 n c =
    let parts : Some (c.in-Some.parts.before.now, c.in-Some.parts.form.now, c.in-Some.parts.behind.now)
    ≡ stated_of c.args.inner.now = search rules in
    let below = stated_below c.args.inner.now c.in-Some.parts.before.now c.in-Some.parts.form.now
    c.in-Some.parts.behind.now parts in
    omega (arith, c.decreases, below)

pub expressed::put_own-returns-in_default-clause-put : goal.expressed::put_own-returns-in_default-clause-put
expressed::put_own-returns-in_default-clause-put n c =
    let is : is_dotted (kind_of c.args.kind) ≡ true = search rules in
    let none : None ≡ dotted_of c.args.own.now = search rules in
    subst (λ (ts : List Token). OnOk c.put_laid-in_default.result (map piece_token c.put_laid-in_default.new.out.items
    ≡ map piece_token c.args.out.now.items ++ ts))
    (sym (own_undotted (kind_of c.args.kind) c.args.own.now is none)) c.put_laid-in_default.ensures.put

pub expressed::put_own-returns-in-Some-last_number-clause-put :
    goal.expressed::put_own-returns-in-Some-last_number-clause-put
expressed::put_own-returns-in-Some-last_number-clause-put n c =
    let is : is_dotted (kind_of c.args.kind) ≡ true = search rules in
    let dotted : Some (c.in-Some.parts.dot.now, c.in-Some.parts.numbers.now, c.in-Some.parts.behind.now)
    ≡ dotted_of c.args.own.now = search rules in
    let number : Some (literal_text c.in-Some-last_number.literal.now)
    ≡ last_text (kind_of c.args.kind) c.in-Some.parts.behind.now = search rules in
    let own = own_number (kind_of c.args.kind) c.args.own.now c.in-Some.parts.dot.now c.in-Some.parts.numbers.now
    c.in-Some.parts.behind.now (literal_text c.in-Some-last_number.literal.now) is dotted number in
    let fronts : List Token = front_fields c.in-Some.parts.numbers.now in
    let last : List Token = fields (indices (literal_text c.in-Some-last_number.literal.now)) in
    let put : OnOk c.put_fields.result (map piece_token c.put_fields.new.out.items
    ≡ map piece_token c.args.out.now.items ++ (fronts ++ last)) =
    on_ok_weaker c.put_fields.result
    (λ e. e ∙ ap (λ ts. ts ++ last) c.in_ok-put_front_fields.ensures.put
    ∙ append_assoc (map piece_token c.args.out.now.items) fronts last)
    c.put_fields.ensures.put in
    subst (λ (ts : List Token). OnOk c.put_fields.result (map piece_token c.put_fields.new.out.items
    ≡ map piece_token c.args.out.now.items ++ ts)) (sym own) put

-- operands that stand one left of the other
pub chain::put_behinds-loop-left-init : goal.chain::put_behinds-loop-left-init
chain::put_behinds-loop-left-init n c = record {
  kept = keeps_same _ _ refl;
  put = ap (λ (ys : List (Bor Tree)). map piece_token c.args.out.now.items
      ++ behind_lefts (map (λ (y : Bor Tree). y.now) ys))
      (take_all (length c.args.forms.now) c.args.forms.now (omega arith));
  within = omega arith;
}

pub chain::put_behinds-loop-left-preserved : goal.chain::put_behinds-loop-left-preserved
chain::put_behinds-loop-left-preserved n c =
    let i = c.loop-left.left - 1 in
    let x : Bor Tree = c.index-forms-left.result in
    let more : map (λ (y : Bor Tree). y.now) (take c.loop-left.left c.args.forms.now)
    ≡ map (λ (y : Bor Tree). y.now) (take i c.args.forms.now) ++ x.now ∷ [] =
    forms_more c.args.forms.now c.loop-left.left i x (omega (arith, c.loop-left-test.true))
    (omega (arith, c.loop-left-test.true, c.loop-left.invariant.within)) c.index-forms-left.is in
    record {
      kept = keeps_both _ _ _ c.loop-left.invariant.kept c.put_behind.ensures.keeps;
      put = step_out (map piece_token c.loop-left.out.items) (map piece_token c.put_behind.new.out.items)
          (map piece_token c.args.out.now.items ++ behind_lefts (map (λ (y : Bor Tree). y.now) c.args.forms.now)) x.now
          (map (λ (y : Bor Tree). y.now) (take i c.args.forms.now)) c.in_ok-put_behind.ensures.put
          (ap (λ (ys : List Tree). map piece_token c.loop-left.out.items ++ behind_lefts ys) (sym more)
          ∙ c.loop-left.invariant.put);
      within = omega (arith, c.loop-left.invariant.within);
    }

pub chain::put_given-put_operand-requires : goal.chain::put_given-put_operand-requires
chain::put_given-put_operand-requires n c =
    omega (arith, c.decreases, c.in_ok-inner.ensures.inside, tree_size c.args.attributes.now)

pub chain::put_given-returns-clause-put : goal.chain::put_given-returns-clause-put
chain::put_given-returns-clause-put n c =
    let old : List Token = map piece_token c.args.out.now.items in
    let all : List Token = given_laid (laid c.args.attributes.now) (laid c.args.tree.now) c.args.tree.now in
    let last : None ≡ giving_of c.in_ok-inner.inner.now = sym c.in_ok-inner.ensures.last in
    let empty : c.new-forms.result.items ≡ [] = search rules in
    let fronts = c.in_ok-inner.ensures.put
    ∙ ap (λ (xs : List (Bor Tree)). old ++ (all ++ behind_lefts (map (λ (x : Bor Tree). x.now) xs))) empty in
    let operand = c.in_ok-put_operand.ensures.put
    ∙ ap (λ b. map piece_token c.put_laid.new.out.items ++ enclosed_if b (laid c.in_ok-inner.inner.now))
    c.is_lone_range.ensures in
    let lent : c.as_slice.result.now ≡ c.put_fronts.new.forms.items = search rules in
    on_ok_weaker c.put_behinds.result
    (λ e. given_put old (map piece_token c.put_fronts.new.out.items) (map piece_token c.put_laid.new.out.items)
    (map piece_token c.put_operand.new.out.items) (map piece_token c.put_behinds.new.out.items)
    (laid c.args.attributes.now) (behind_lefts (map (λ (x : Bor Tree). x.now) c.put_fronts.new.forms.items)) all
    c.in_ok-inner.inner.now last fronts c.in_ok-put_laid.ensures.put operand
    (e ∙ ap (λ (xs : List (Bor Tree)). map piece_token c.put_operand.new.out.items
    ++ behind_lefts (map (λ (x : Bor Tree). x.now) xs)) lent))
    c.put_behinds.ensures.put

-- operands, between their parentheses
pub expressed::put_operand-returns-clause-put : goal.expressed::put_operand-returns-clause-put
expressed::put_operand-returns-clause-put n c =
    put_third _ _ _ _ _ _ _ _ _ c.in_ok-put_if.ensures.put c.in_ok-put_chain.ensures.put
    (enclosed_parts c.args.enclosed (laid c.args.tree.now)) c.put_if-2.ensures.put

pub expressed::put_operand-returns-clause-keeps : goal.expressed::put_operand-returns-clause-keeps
expressed::put_operand-returns-clause-keeps n c =
    keeps_both _ _ _ (keeps_both _ _ _ c.put_if.ensures.keeps c.put_chain.ensures.keeps) c.put_if-2.ensures.keeps

pub expressed::put_operand-returns-in_err-put_chain-clause-keeps :
    goal.expressed::put_operand-returns-in_err-put_chain-clause-keeps
expressed::put_operand-returns-in_err-put_chain-clause-keeps n c =
    keeps_both _ _ _ c.put_if.ensures.keeps c.put_chain.ensures.keeps

pub expressed::put_back-returns-clause-put : goal.expressed::put_back-returns-clause-put
expressed::put_back-returns-clause-put n c =
    put_second _ _ _ _ _ _ _ c.in_ok-put_operand.ensures.put
    (ap (λ b. enclosed_if b (laid c.args.two.now.front) ++ behind_laid (kind_of c.args.kind) c.args.two.now.back)
    c.goes_in.ensures) c.put_own.ensures.put

pub expressed::put_back-returns-clause-keeps : goal.expressed::put_back-returns-clause-keeps
expressed::put_back-returns-clause-keeps n c = keeps_both _ _ _ c.put_operand.ensures.keeps c.put_own.ensures.keeps

pub expressed::put_left-returns-clause-put : goal.expressed::put_left-returns-clause-put
expressed::put_left-returns-clause-put n c =
    put_second _ _ _ _ _ _ _ c.in_ok-put_operand.ensures.put
    (ap (λ b. enclosed_if b (laid c.args.three.now.left) ++ laid c.args.three.now.own) c.goes_in.ensures)
    c.put_laid.ensures.put

pub expressed::put_left-returns-clause-keeps : goal.expressed::put_left-returns-clause-keeps
expressed::put_left-returns-clause-keeps n c = keeps_both _ _ _ c.put_operand.ensures.keeps c.put_laid.ensures.keeps

-- an expression in a statement, and what stands before it and behind it
pub expressed::put_before-returns-then-has_attributes-clause-put :
    goal.expressed::put_before-returns-then-has_attributes-clause-put
expressed::put_before-returns-then-has_attributes-clause-put n c =
    let a : Tree = c.args.before.now in
    let z : Tree = c.args.form.now in
    let given : true ≡ has_attributes a = search rules in
    put_same _ _ _ _ _ (ap (λ b. cond b (given_laid (laid a) (laid z) z) (laid a ++ laid z)) given)
    c.put_given.ensures.put

pub expressed::put_before-returns-clause-put : goal.expressed::put_before-returns-clause-put
expressed::put_before-returns-clause-put n c =
    let a : Tree = c.args.before.now in
    let z : Tree = c.args.form.now in
    let none : false ≡ has_attributes a = search rules in
    put_second _ _ _ _ _ _ _ c.in_ok-put_laid.ensures.put
    (ap (λ b. cond b (given_laid (laid a) (laid z) z) (laid a ++ laid z)) none) c.put_laid-2.ensures.put

pub expressed::put_before-returns-clause-keeps : goal.expressed::put_before-returns-clause-keeps
expressed::put_before-returns-clause-keeps n c = keeps_both _ _ _ c.put_laid.ensures.keeps c.put_laid-2.ensures.keeps

pub expressed::put_statement-returns-in_default-clause-put : goal.expressed::put_statement-returns-in_default-clause-put
expressed::put_statement-returns-in_default-clause-put n c =
    put_same _ _ _ _ _ (statement_none c.args.inner.now c.in_default.ensures) c.put_laid.ensures.put

pub expressed::put_statement-returns-clause-put : goal.expressed::put_statement-returns-clause-put
expressed::put_statement-returns-clause-put n c =
    put_second _ _ _ _ _ _ _ c.in_ok-put_before.ensures.put
    (statement_some c.args.inner.now c.in-Some.parts.before.now c.in-Some.parts.form.now c.in-Some.parts.behind.now
    c.in-Some.ensures) c.put_laid-2.ensures.put

pub expressed::put_statement-returns-clause-keeps : goal.expressed::put_statement-returns-clause-keeps
expressed::put_statement-returns-clause-keeps n c =
    keeps_both _ _ _ c.put_before.ensures.keeps c.put_laid-2.ensures.keeps

-- an own part
pub expressed::put_own-returns-then-not-is_dotted-clause-put :
    goal.expressed::put_own-returns-then-not-is_dotted-clause-put
expressed::put_own-returns-then-not-is_dotted-clause-put n c =
    let plain : is_dotted (kind_of c.args.kind) ≡ false = search rules in
    put_same _ _ _ _ _ (sym (own_plain (kind_of c.args.kind) c.args.own.now plain)) c.put_laid.ensures.put

pub expressed::put_own-returns-in-Some-last_number-clause-keeps :
    goal.expressed::put_own-returns-in-Some-last_number-clause-keeps
expressed::put_own-returns-in-Some-last_number-clause-keeps n c =
    keeps_both _ _ _ c.put_front_fields.ensures.keeps c.put_fields.ensures.keeps

pub expressed::put_own-returns-in_err-put_laid-clause-keeps :
    goal.expressed::put_own-returns-in_err-put_laid-clause-keeps
expressed::put_own-returns-in_err-put_laid-clause-keeps n c =
    keeps_both _ _ _ c.put_front_fields.ensures.keeps c.put_laid-2.ensures.keeps

pub expressed::put_own-returns-clause-put : goal.expressed::put_own-returns-clause-put
expressed::put_own-returns-clause-put n c =
    let is : is_dotted (kind_of c.args.kind) ≡ true = search rules in
    put_third _ _ _ _ _ _ _ _ _ c.in_ok-put_front_fields.ensures.put c.in_ok-put_laid.ensures.put
    (sym (own_else (kind_of c.args.kind) c.args.own.now c.in-Some.parts.dot.now c.in-Some.parts.numbers.now
    c.in-Some.parts.behind.now is c.in-Some.ensures c.in_default-last_number.ensures)) c.put_laid-3.ensures.put

pub expressed::put_own-returns-clause-keeps : goal.expressed::put_own-returns-clause-keeps
expressed::put_own-returns-clause-keeps n c =
    keeps_both _ _ _ (keeps_both _ _ _ c.put_front_fields.ensures.keeps c.put_laid-2.ensures.keeps)
    c.put_laid-3.ensures.keeps

-- what stands behind a left operand
pub chain::put_behind-returns-in_err-put_laid-clause-keeps : goal.chain::put_behind-returns-in_err-put_laid-clause-keeps
chain::put_behind-returns-in_err-put_laid-clause-keeps n c =
    keeps_both _ _ _ c.put_if.ensures.keeps c.put_laid.ensures.keeps

pub chain::put_behind-returns-in-Some-clause-put : goal.chain::put_behind-returns-in-Some-clause-put
chain::put_behind-returns-in-Some-clause-put n c =
    let three = c.in-Some.three.now in
    put_third _ _ _ _ _ _ _ _ _ c.in_ok-put_if.ensures.put c.in_ok-put_laid.ensures.put
    (ap (λ b. cond b (Closes Parenthesis ∷ []) [] ++ (laid three.own ++ laid three.right)) c.goes_in.ensures
    ∙ behind_infix c.args.form.now (kind_of c.in-Some.kind) three.left three.own three.right c.in-Some.ensures)
    c.put_laid-in-Some.ensures.put

pub chain::put_behind-returns-in-Some-clause-keeps : goal.chain::put_behind-returns-in-Some-clause-keeps
chain::put_behind-returns-in-Some-clause-keeps n c =
    keeps_both _ _ _ (keeps_both _ _ _ c.put_if.ensures.keeps c.put_laid.ensures.keeps)
    c.put_laid-in-Some.ensures.keeps

pub chain::put_behind-returns-in_default-back-clause-put : goal.chain::put_behind-returns-in_default-back-clause-put
chain::put_behind-returns-in_default-back-clause-put n c =
    put_none _ _ (behind_none c.args.form.now c.in_default.ensures c.in_default-back.ensures)

pub chain::put_behind-returns-clause-put : goal.chain::put_behind-returns-clause-put
chain::put_behind-returns-clause-put n c =
    let two = c.in-Some-back.two.now in
    let k : Kind = kind_of c.in-Some-back.kind in
    put_second _ _ _ _ _ _ _ c.in_ok-put_if-2.ensures.put
    (ap (λ b. cond b (Closes Parenthesis ∷ []) [] ++ behind_laid k two.back) c.goes_in-2.ensures
    ∙ behind_back c.args.form.now k two.front two.back c.in-Some-back.ensures) c.put_own.ensures.put

pub chain::put_behind-returns-clause-keeps : goal.chain::put_behind-returns-clause-keeps
chain::put_behind-returns-clause-keeps n c = keeps_both _ _ _ c.put_if-2.ensures.keeps c.put_own.ensures.keeps

pub chain::put_behinds-returns-in_err-put_behind-clause-keeps :
    goal.chain::put_behinds-returns-in_err-put_behind-clause-keeps
chain::put_behinds-returns-in_err-put_behind-clause-keeps n c =
    keeps_both _ _ _ c.loop-left.invariant.kept c.put_behind.ensures.keeps

-- a chain of operands
pub chain::put_chain-returns-in_err-put_laid-clause-keeps : goal.chain::put_chain-returns-in_err-put_laid-clause-keeps
chain::put_chain-returns-in_err-put_laid-clause-keeps n c =
    keeps_both _ _ _ c.put_fronts.ensures.keeps c.put_laid.ensures.keeps

pub chain::put_chain-returns-clause-put : goal.chain::put_chain-returns-clause-put
chain::put_chain-returns-clause-put n c =
    let empty : c.new-forms.result.items ≡ [] = search rules in
    let lent : c.as_slice.result.now ≡ c.put_fronts.new.forms.items = search rules in
    chain_put _ _ _ _ _ _ _ _ _
    (c.in_ok-inner.ensures.put
    ∙ ap (λ (xs : List (Bor Tree)). map piece_token c.args.out.now.items
    ++ (laid c.args.tree.now ++ behind_lefts (map (λ (x : Bor Tree). x.now) xs))) empty)
    c.in_ok-put_laid.ensures.put
    (ap (λ (xs : List (Bor Tree)). behind_lefts (map (λ (x : Bor Tree). x.now) xs)) lent)
    c.put_behinds.ensures.put

pub chain::put_chain-returns-clause-keeps : goal.chain::put_chain-returns-clause-keeps
chain::put_chain-returns-clause-keeps n c =
    keeps_both _ _ _ (keeps_both _ _ _ c.put_fronts.ensures.keeps c.put_laid.ensures.keeps) c.put_behinds.ensures.keeps

pub chain::put_given-returns-in_err-put_laid-clause-keeps : goal.chain::put_given-returns-in_err-put_laid-clause-keeps
chain::put_given-returns-in_err-put_laid-clause-keeps n c =
    keeps_both _ _ _ c.put_fronts.ensures.keeps c.put_laid.ensures.keeps

pub chain::put_given-returns-in_err-put_operand-clause-keeps :
    goal.chain::put_given-returns-in_err-put_operand-clause-keeps
chain::put_given-returns-in_err-put_operand-clause-keeps n c =
    keeps_both _ _ _ (keeps_both _ _ _ c.put_fronts.ensures.keeps c.put_laid.ensures.keeps)
    c.put_operand.ensures.keeps

pub chain::put_given-returns-clause-keeps : goal.chain::put_given-returns-clause-keeps
chain::put_given-returns-clause-keeps n c =
    keeps_both _ _ _ (keeps_both _ _ _ (keeps_both _ _ _ c.put_fronts.ensures.keeps c.put_laid.ensures.keeps)
    c.put_operand.ensures.keeps) c.put_behinds.ensures.keeps

-- a turn
pub turn::put_turn-returns-then-not-is_set_apart-clause-put :
    goal.turn::put_turn-returns-then-not-is_set_apart-clause-put
turn::put_turn-returns-then-not-is_set_apart-clause-put n c =
    let joined : false ≡ is_set_apart c.args.turn.now (turns c.args.behind.now) = search rules in
    put_same _ _ _ _ _ (ap (λ b. apart_where b (laid c.args.turn.now)) joined) c.put_laid.ensures.put

pub turn::put_turn-returns-clause-put : goal.turn::put_turn-returns-clause-put
turn::put_turn-returns-clause-put n c =
    let old : List Token = map piece_token c.args.out.now.items in
    let apart : true ≡ is_set_apart c.args.turn.now (turns c.args.behind.now) = search rules in
    c.set_apart.ensures.apart old (laid c.args.turn.now)
    (length-map c.args.out.now.items piece_token ∙ omega (arith, c.len-before.ensures, c.args.out.now.ok.0))
    c.in_ok-put_laid.ensures.put
    ∙ ap (λ b. old ++ apart_where b (laid c.args.turn.now)) apart

pub turn::put_turns-returns-in_err-put_turn-clause-keeps : goal.turn::put_turns-returns-in_err-put_turn-clause-keeps
turn::put_turns-returns-in_err-put_turn-clause-keeps n c =
    keeps_both _ _ _ c.loop-index.invariant.kept c.put_turn.ensures.keeps

-- nodes and parts, in their ways
pub laid::put_part-returns-clause-put : goal.laid::put_part-returns-clause-put
laid::put_part-returns-clause-put n c = put_same _ _ _ _ _ c.of_part.ensures c.put_so.ensures.put

pub laid::put_node-returns-then-is_missing-clause-put : goal.laid::put_node-returns-then-is_missing-clause-put
laid::put_node-returns-then-is_missing-clause-put n c =
    let none : is_missing c.args.inner.now ≡ true = search rules in
    put_none _ _ (sym (missing_node (kind_of c.args.kind) c.args.inner.now none))

pub laid::put_node-returns-clause-put : goal.laid::put_node-returns-clause-put
laid::put_node-returns-clause-put n c = put_same _ _ _ _ _ c.of_node.ensures c.put_so.ensures.put

pub laid::put_so-returns-in-Nothing-clause-put : goal.laid::put_so-returns-in-Nothing-clause-put
laid::put_so-returns-in-Nothing-clause-put n c =
    put_none _ _ (ap (λ w. way_laid w c.args.inner.now) (sym c.in-Nothing.is))

pub laid::put_so-returns-in-Number-clause-put : goal.laid::put_so-returns-in-Number-clause-put
laid::put_so-returns-in-Number-clause-put n c =
    put_same _ _ _ _ _ (ap (λ w. way_laid w c.args.inner.now) (sym c.in-Number.is)) c.number.ensures.put

pub laid::put_so-returns-in-Parameter-clause-put : goal.laid::put_so-returns-in-Parameter-clause-put
laid::put_so-returns-in-Parameter-clause-put n c =
    put_same _ _ _ _ _ (ap (λ w. way_laid w c.args.inner.now) (sym c.in-Parameter.is)) c.put_parameter.ensures.put

pub laid::put_so-returns-in-Statement-clause-put : goal.laid::put_so-returns-in-Statement-clause-put
laid::put_so-returns-in-Statement-clause-put n c =
    put_same _ _ _ _ _ (ap (λ w. way_laid w c.args.inner.now) (sym c.in-Statement.is)) c.put_statement.ensures.put

pub laid::put_so-returns-in-Firsts-clause-put : goal.laid::put_so-returns-in-Firsts-clause-put
laid::put_so-returns-in-Firsts-clause-put n c =
    put_same _ _ _ _ _ (ap (λ w. way_laid w c.args.inner.now) (sym c.in-Firsts.is)) c.put_firsts.ensures.put

pub laid::put_so-returns-in-Parts-clause-put : goal.laid::put_so-returns-in-Parts-clause-put
laid::put_so-returns-in-Parts-clause-put n c =
    put_same _ _ _ _ _ (ap (λ w. way_laid w c.args.inner.now) (sym c.in-Parts.is)) c.put_laid.ensures.put

-- a parameter
pub laid::put_parameter-returns-in_default-clause-put : goal.laid::put_parameter-returns-in_default-clause-put
laid::put_parameter-returns-in_default-clause-put n c =
    put_same _ _ _ _ _ (sym (parameter_named c.args.inner.now c.in_default.ensures)) c.put_laid.ensures.put

pub laid::put_parameter-returns-clause-put : goal.laid::put_parameter-returns-clause-put
laid::put_parameter-returns-clause-put n c =
    put_fourth _ _ _ _ _ _ _ _ _ _ _ c.in_ok-put_laid.ensures.put c.in_ok-one.ensures.put c.in_ok-one-2.ensures.put
    (sym (parameter_alone c.args.inner.now c.in-Some.front.now c.in-Some.given.now c.in-Some.ensures))
    c.put_laid-3.ensures.put

pub laid::put_parameter-returns-in_err-one-clause-keeps : goal.laid::put_parameter-returns-in_err-one-clause-keeps
laid::put_parameter-returns-in_err-one-clause-keeps n c =
    keeps_both _ _ _ c.put_laid-2.ensures.keeps c.one.ensures.keeps

pub laid::put_parameter-returns-in_err-one-2-clause-keeps : goal.laid::put_parameter-returns-in_err-one-2-clause-keeps
laid::put_parameter-returns-in_err-one-2-clause-keeps n c =
    keeps_both _ _ _ (keeps_both _ _ _ c.put_laid-2.ensures.keeps c.one.ensures.keeps) c.one-2.ensures.keeps

pub laid::put_parameter-returns-clause-keeps : goal.laid::put_parameter-returns-clause-keeps
laid::put_parameter-returns-clause-keeps n c =
    keeps_both _ _ _ (keeps_both _ _ _ (keeps_both _ _ _ c.put_laid-2.ensures.keeps c.one.ensures.keeps)
    c.one-2.ensures.keeps) c.put_laid-3.ensures.keeps

-- lists
pub laid::put_elements-returns-in_err-put_laid-clause-keeps :
    goal.laid::put_elements-returns-in_err-put_laid-clause-keeps
laid::put_elements-returns-in_err-put_laid-clause-keeps n c =
    keeps_both _ _ _ c.loop-element.invariant.kept c.put_laid.ensures.keeps

pub laid::put_elements-returns-in_err-separator-clause-keeps :
    goal.laid::put_elements-returns-in_err-separator-clause-keeps
laid::put_elements-returns-in_err-separator-clause-keeps n c =
    keeps_both _ _ _ (keeps_both _ _ _ c.loop-element.invariant.kept c.put_laid.ensures.keeps)
    c.separator.ensures.keeps

pub laid::put_those-returns-in_err-put_laid-clause-keeps : goal.laid::put_those-returns-in_err-put_laid-clause-keeps
laid::put_those-returns-in_err-put_laid-clause-keeps n c =
    keeps_both _ _ _ c.loop-element.invariant.kept c.put_laid.ensures.keeps

pub laid::put_those-returns-in_err-separator-clause-keeps : goal.laid::put_those-returns-in_err-separator-clause-keeps
laid::put_those-returns-in_err-separator-clause-keeps n c =
    keeps_both _ _ _ (keeps_both _ _ _ c.loop-element.invariant.kept c.put_laid.ensures.keeps)
    c.separator.ensures.keeps

pub laid::put_others-returns-in_err-put_laid-clause-keeps : goal.laid::put_others-returns-in_err-put_laid-clause-keeps
laid::put_others-returns-in_err-put_laid-clause-keeps n c =
    keeps_both _ _ _ c.loop-element.invariant.kept c.put_laid.ensures.keeps

pub laid::put_others-returns-in_err-separator-clause-keeps : goal.laid::put_others-returns-in_err-separator-clause-keeps
laid::put_others-returns-in_err-separator-clause-keeps n c =
    keeps_both _ _ _ (keeps_both _ _ _ c.loop-element.invariant.kept c.put_laid.ensures.keeps)
    c.separator.ensures.keeps

pub laid::put_firsts-returns-in_default-last-clause-put : goal.laid::put_firsts-returns-in_default-last-clause-put
laid::put_firsts-returns-in_default-last-clause-put n c =
    let es : List Element = c.in-Elements.elements.now.before.now in
    let m = separator_of c.in-Elements.elements.now.separator in
    let view : c.args.list.now ≡ elements m es t.End =
    sym c.list.view_is ∙ ap tree_of c.in-Elements.is
    ∙ ap (λ o. elements m es (ending (λ b. b.now) o)) c.in_default-last.is in
    put_second _ _ _ _ _ _ _ c.in_ok-put_those.ensures.put
    (sym (ap (firsts_laid (passes c.args.which)) view ∙ firsts_open (passes c.args.which) m es))
    c.put_others.ensures.put

pub laid::put_firsts-returns-in_default-last-clause-keeps : goal.laid::put_firsts-returns-in_default-last-clause-keeps
laid::put_firsts-returns-in_default-last-clause-keeps n c =
    keeps_both _ _ _ c.put_those.ensures.keeps c.put_others.ensures.keeps

pub laid::put_firsts-returns-in_err-put_laid-clause-keeps : goal.laid::put_firsts-returns-in_err-put_laid-clause-keeps
laid::put_firsts-returns-in_err-put_laid-clause-keeps n c =
    keeps_both _ _ _ c.put_those.ensures.keeps c.put_laid-then-passes.ensures.keeps

pub laid::put_firsts-returns-in_err-comma-clause-keeps : goal.laid::put_firsts-returns-in_err-comma-clause-keeps
laid::put_firsts-returns-in_err-comma-clause-keeps n c =
    keeps_both _ _ _ (keeps_both _ _ _ c.put_those.ensures.keeps c.put_laid-then-passes.ensures.keeps)
    c.comma.ensures.keeps

pub laid::put_firsts-returns-in_err-put_others-clause-keeps :
    goal.laid::put_firsts-returns-in_err-put_others-clause-keeps
laid::put_firsts-returns-in_err-put_others-clause-keeps n c =
    keeps_both _ _ _ c.put_those.ensures.keeps c.put_others-else-passes.ensures.keeps

pub laid::put_firsts-returns-in_ok-comma-clause-keeps : goal.laid::put_firsts-returns-in_ok-comma-clause-keeps
laid::put_firsts-returns-in_ok-comma-clause-keeps n c =
    keeps_both _ _ _ (keeps_both _ _ _ (keeps_both _ _ _ c.put_those.ensures.keeps
    c.put_laid-then-passes.ensures.keeps) c.comma.ensures.keeps) c.put_others-then-passes.ensures.keeps

pub laid::put_firsts-returns-in_ok-put_others-clause-put : goal.laid::put_firsts-returns-in_ok-put_others-clause-put
laid::put_firsts-returns-in_ok-put_others-clause-put n c =
    let es : List Element = c.in-Elements.elements.now.before.now in
    let m = separator_of c.in-Elements.elements.now.separator in
    let q : Tree → Bool = passes c.args.which in
    let view : c.args.list.now ≡ elements m es (t.Final c.in-Some.last.now) =
    sym c.list.view_is ∙ ap tree_of c.in-Elements.is
    ∙ ap (λ o. elements m es (ending (λ b. b.now) o)) c.in-Some.is in
    let fails : q c.in-Some.last.now ≡ false = search rules in
    put_third _ _ _ _ _ _ _ _ _ c.in_ok-put_those.ensures.put c.in_ok-put_others.ensures.put
    (sym (ap (firsts_laid q) view ∙ firsts_closed q m es c.in-Some.last.now fails)) c.put_laid-else-passes.ensures.put

pub laid::put_firsts-returns-in_ok-put_others-clause-keeps : goal.laid::put_firsts-returns-in_ok-put_others-clause-keeps
laid::put_firsts-returns-in_ok-put_others-clause-keeps n c =
    keeps_both _ _ _ (keeps_both _ _ _ c.put_those.ensures.keeps c.put_others-else-passes.ensures.keeps)
    c.put_laid-else-passes.ensures.keeps

-- what is left, by its form
pub laid::put_laid-returns-in-Word-clause-put : goal.laid::put_laid-returns-in-Word-clause-put
laid::put_laid-returns-in-Word-clause-put n c =
    put_form _ _ _ _ _ _ _ _ (sym c.here.view_is ∙ ap tree_of c.in-Word.is) refl c.tails.invariant.put
    c.ident.ensures.put

pub laid::put_laid-returns-in-Word-clause-keeps : goal.laid::put_laid-returns-in-Word-clause-keeps
laid::put_laid-returns-in-Word-clause-keeps n c = keeps_both _ _ _ c.tails.invariant.kept c.ident.ensures.keeps

pub laid::put_laid-returns-in-Literal-clause-put : goal.laid::put_laid-returns-in-Literal-clause-put
laid::put_laid-returns-in-Literal-clause-put n c =
    put_form _ _ _ _ _ _ _ _ (sym c.here.view_is ∙ ap tree_of c.in-Literal.is) refl c.tails.invariant.put
    c.literal.ensures.put

pub laid::put_laid-returns-in-Literal-clause-keeps : goal.laid::put_laid-returns-in-Literal-clause-keeps
laid::put_laid-returns-in-Literal-clause-keeps n c = keeps_both _ _ _ c.tails.invariant.kept c.literal.ensures.keeps

pub laid::put_laid-returns-in-Lifetime-clause-put : goal.laid::put_laid-returns-in-Lifetime-clause-put
laid::put_laid-returns-in-Lifetime-clause-put n c =
    put_form _ _ _ _ _ _ _ _ (sym c.here.view_is ∙ ap tree_of c.in-Lifetime.is) refl c.tails.invariant.put
    c.lifetime.ensures.put

pub laid::put_laid-returns-in-Lifetime-clause-keeps : goal.laid::put_laid-returns-in-Lifetime-clause-keeps
laid::put_laid-returns-in-Lifetime-clause-keeps n c =
    keeps_both _ _ _ c.tails.invariant.kept c.lifetime.ensures.keeps

pub laid::put_laid-returns-in-Raw-clause-put : goal.laid::put_laid-returns-in-Raw-clause-put
laid::put_laid-returns-in-Raw-clause-put n c =
    put_form _ _ _ _ _ _ _ _ (sym c.here.view_is ∙ ap tree_of c.in-Raw.is) refl c.tails.invariant.put
    c.entries.ensures.put

pub laid::put_laid-returns-in-Raw-clause-keeps : goal.laid::put_laid-returns-in-Raw-clause-keeps
laid::put_laid-returns-in-Raw-clause-keeps n c = keeps_both _ _ _ c.tails.invariant.kept c.entries.ensures.keeps

pub laid::put_laid-returns-in-Verbatim-clause-put : goal.laid::put_laid-returns-in-Verbatim-clause-put
laid::put_laid-returns-in-Verbatim-clause-put n c =
    put_form _ _ _ _ _ _ _ _ (sym c.here.view_is ∙ ap tree_of c.in-Verbatim.is) refl c.tails.invariant.put
    c.put_as_read.ensures.put

pub laid::put_laid-returns-in-Verbatim-clause-keeps : goal.laid::put_laid-returns-in-Verbatim-clause-keeps
laid::put_laid-returns-in-Verbatim-clause-keeps n c =
    keeps_both _ _ _ c.tails.invariant.kept c.put_as_read.ensures.keeps

pub laid::put_laid-returns-in-Back-clause-put : goal.laid::put_laid-returns-in-Back-clause-put
laid::put_laid-returns-in-Back-clause-put n c =
    put_form _ _ _ _ _ _ _ _ (sym c.here.view_is ∙ ap tree_of c.in-Back.is) refl c.tails.invariant.put
    c.put_back.ensures.put

pub laid::put_laid-returns-in-Back-clause-keeps : goal.laid::put_laid-returns-in-Back-clause-keeps
laid::put_laid-returns-in-Back-clause-keeps n c = keeps_both _ _ _ c.tails.invariant.kept c.put_back.ensures.keeps

pub laid::put_laid-returns-in-Group-clause-keeps : goal.laid::put_laid-returns-in-Group-clause-keeps
laid::put_laid-returns-in-Group-clause-keeps n c = keeps_both _ _ _ c.tails.invariant.kept c.put_group.ensures.keeps

pub laid::put_laid-returns-in-Mark-clause-put : goal.laid::put_laid-returns-in-Mark-clause-put
laid::put_laid-returns-in-Mark-clause-put n c =
    put_form _ _ _ _ _ _ _ _ (sym c.here.view_is ∙ ap tree_of c.in-Mark.is)
    (sym (laid_mark c.tails.left.within (sign_text c.in-Mark.marks) _)) c.tails.invariant.put c.sign.ensures.put

pub laid::put_laid-returns-in-Mark-clause-keeps : goal.laid::put_laid-returns-in-Mark-clause-keeps
laid::put_laid-returns-in-Mark-clause-keeps n c = keeps_both _ _ _ c.tails.invariant.kept c.sign.ensures.keeps

pub laid::put_laid-returns-in-Turns-clause-put : goal.laid::put_laid-returns-in-Turns-clause-put
laid::put_laid-returns-in-Turns-clause-put n c =
    put_form _ _ _ _ _ _ _ _ (sym c.here.view_is ∙ ap tree_of c.in-Turns.is)
    (sym (laid_turns c.tails.left.within c.in-Turns.turns.now.each.now)) c.tails.invariant.put c.put_turns.ensures.put

pub laid::put_laid-returns-in-Turns-clause-keeps : goal.laid::put_laid-returns-in-Turns-clause-keeps
laid::put_laid-returns-in-Turns-clause-keeps n c = keeps_both _ _ _ c.tails.invariant.kept c.put_turns.ensures.keeps

pub laid::put_laid-returns-then-has_way-clause-put : goal.laid::put_laid-returns-then-has_way-clause-put
laid::put_laid-returns-then-has_way-clause-put n c =
    put_form _ _ _ _ _ _ _ _ (sym c.here.view_is ∙ ap tree_of c.in-Node.is)
    (sym (node_same c.tails.left.within (kind_of c.in-Node.kind) c.in-Node.inner.now)) c.tails.invariant.put
    c.put_node.ensures.put

pub laid::put_laid-returns-then-has_way-clause-keeps : goal.laid::put_laid-returns-then-has_way-clause-keeps
laid::put_laid-returns-then-has_way-clause-keeps n c = keeps_both _ _ _ c.tails.invariant.kept c.put_node.ensures.keeps

pub laid::put_laid-returns-in_default-within-clause-keeps : goal.laid::put_laid-returns-in_default-within-clause-keeps
laid::put_laid-returns-in_default-within-clause-keeps n c =
    keeps_both _ _ _ c.tails.invariant.kept c.put_part.ensures.keeps

pub laid::put_laid-returns-in_err-put_first-in-Pair-clause-keeps :
    goal.laid::put_laid-returns-in_err-put_first-in-Pair-clause-keeps
laid::put_laid-returns-in_err-put_first-in-Pair-clause-keeps n c =
    keeps_both _ _ _ c.tails.invariant.kept c.put_first.ensures.keeps

pub laid::put_laid-returns-in_err-put_left-in-Infix-clause-keeps :
    goal.laid::put_laid-returns-in_err-put_left-in-Infix-clause-keeps
laid::put_laid-returns-in_err-put_left-in-Infix-clause-keeps n c =
    keeps_both _ _ _ c.tails.invariant.kept c.put_left.ensures.keeps

pub laid::put_laid-returns-in_err-put_laid-in-Front-clause-keeps :
    goal.laid::put_laid-returns-in_err-put_laid-in-Front-clause-keeps
laid::put_laid-returns-in_err-put_laid-in-Front-clause-keeps n c =
    keeps_both _ _ _ c.tails.invariant.kept c.put_laid.ensures.keeps

pub laid::put_laid-returns-in_err-put_elements-in-Elements-clause-keeps :
    goal.laid::put_laid-returns-in_err-put_elements-in-Elements-clause-keeps
laid::put_laid-returns-in_err-put_elements-in-Elements-clause-keeps n c =
    keeps_both _ _ _ c.tails.invariant.kept c.put_elements.ensures.keeps

pub laid::put_laid-returns-then-is_shelled-clause-keeps : goal.laid::put_laid-returns-then-is_shelled-clause-keeps
laid::put_laid-returns-then-is_shelled-clause-keeps n c =
    keeps_both _ _ _ (keeps_both _ _ _ c.tails.invariant.kept c.put_laid.ensures.keeps) c.put_operand.ensures.keeps

pub laid::put_laid-returns-in_default-clause-keeps : goal.laid::put_laid-returns-in_default-clause-keeps
laid::put_laid-returns-in_default-clause-keeps n c =
    keeps_both _ _ _ c.tails.invariant.kept c.put_elements.ensures.keeps

pub laid::put_laid-tails-init : goal.laid::put_laid-tails-init
laid::put_laid-tails-init n c = record {
  kept = keeps_same _ _ refl;
  put = ap (λ w. map piece_token c.args.out.now.items ++ laid_in w c.ending-left.result.tree.now)
      c.ending-left.ensures.within
      ∙ ap (λ x. map piece_token c.args.out.now.items ++ laid_in c.args.within x) c.ending-left.ensures.tree;
  inside = omega (arith, ap (λ x. size-Tree x) c.ending-left.ensures.tree);
}

pub laid::put_laid-tails-preserved-in_ok-put_first-in-Pair : goal.laid::put_laid-tails-preserved-in_ok-put_first-in-Pair
laid::put_laid-tails-preserved-in_ok-put_first-in-Pair n c =
    let is = sym c.here.view_is ∙ ap tree_of c.in-Pair.is in record {
      kept = keeps_both _ _ _ c.tails.invariant.kept c.put_first.ensures.keeps;
      put = tail_left _ _ _ _ _ _ _ _ _ _ _ is refl c.ending-left-in-Pair.ensures.within
          c.ending-left-in-Pair.ensures.tree c.tails.invariant.put c.in_ok-put_first-in-Pair.ensures.put;
      inside = tail_inside _ _ _ _ _ is c.ending-left-in-Pair.ensures.tree (omega arith) c.tails.invariant.inside;
    }

pub laid::put_laid-tails-preserved-in_ok-put_left-in-Infix : goal.laid::put_laid-tails-preserved-in_ok-put_left-in-Infix
laid::put_laid-tails-preserved-in_ok-put_left-in-Infix n c =
    let is = sym c.here.view_is ∙ ap tree_of c.in-Infix.is in
    let three = c.in-Infix.three.now in
    let left : List Token = enclosed_if (goes_in (kind_of c.in-Infix.kind) three.left) (laid three.left) in record {
      kept = keeps_both _ _ _ c.tails.invariant.kept c.put_left.ensures.keeps;
      put = tail_left _ _ _ _ _ _ _ _ _ _ _ is (sym (append_assoc left (laid three.own) (laid three.right)))
          c.ending-left-in-Infix.ensures.within
          c.ending-left-in-Infix.ensures.tree c.tails.invariant.put c.in_ok-put_left-in-Infix.ensures.put;
      inside = tail_inside _ _ _ _ _ is c.ending-left-in-Infix.ensures.tree (omega arith) c.tails.invariant.inside;
    }

pub laid::put_laid-tails-preserved-else-is_shelled : goal.laid::put_laid-tails-preserved-else-is_shelled
laid::put_laid-tails-preserved-else-is_shelled n c =
    let is = sym c.here.view_is ∙ ap tree_of c.in-Front.is in
    let two = c.in-Front.two.now in
    let bare : is_shelled (kind_of c.in-Front.kind) two.back ≡ false = search rules in record {
      kept = keeps_both _ _ _ c.tails.invariant.kept c.put_laid.ensures.keeps;
      put = tail_left _ _ _ _ _ _ _ _ _ _ _ is (ap (λ b. laid two.front ++ enclosed_if b (laid two.back)) bare)
          c.ending-left-in-Front.ensures.within c.ending-left-in-Front.ensures.tree c.tails.invariant.put
          c.in_ok-put_laid-in-Front.ensures.put;
      inside = tail_inside _ _ _ _ _ is c.ending-left-in-Front.ensures.tree (omega arith) c.tails.invariant.inside;
    }

pub laid::put_laid-tails-preserved-in-Some : goal.laid::put_laid-tails-preserved-in-Some
laid::put_laid-tails-preserved-in-Some n c =
    let es : List Element = c.in-Elements.list.now.before.now in
    let m = separator_of c.in-Elements.list.now.separator in
    let is : c.tails.left.tree.now ≡ elements m es (t.Final c.in-Some.last.now) =
    sym c.here.view_is ∙ ap tree_of c.in-Elements.is
    ∙ ap (λ o. elements m es (ending (λ b. b.now) o)) c.in-Some.is in record {
      kept = keeps_both _ _ _ c.tails.invariant.kept c.put_elements.ensures.keeps;
      put = tail_left _ _ _ _ _ _ _ _ _ _ _ is (laid_closed c.tails.left.within m es c.in-Some.last.now)
          c.ending-left-in-Elements.ensures.within c.ending-left-in-Elements.ensures.tree c.tails.invariant.put
          c.in_ok-put_elements-in-Elements.ensures.put;
      inside = tail_inside _ _ _ _ _ is c.ending-left-in-Elements.ensures.tree (last_below m es c.in-Some.last.now)
          c.tails.invariant.inside;
    }

pub laid::put_laid-tails-preserved-else-has_way : goal.laid::put_laid-tails-preserved-else-has_way
laid::put_laid-tails-preserved-else-has_way n c =
    let is = sym c.here.view_is ∙ ap tree_of c.in-Node.is in
    let k : Kind = kind_of c.in-Node.kind in
    let plain : laid c.in-Node.inner.now ≡ laid (t.Node k c.in-Node.inner.now) = search rules in record {
      kept = c.tails.invariant.kept;
      put = other_left _ _ _ _ _ _ _ _ _ is (node_same c.tails.left.within k c.in-Node.inner.now ∙ sym plain)
          c.ending-left-in-Node.ensures.within c.ending-left-in-Node.ensures.tree c.tails.invariant.put;
      inside = tail_inside _ _ _ _ _ is c.ending-left-in-Node.ensures.tree (omega arith) c.tails.invariant.inside;
    }

pub laid::put_laid-tails-preserved-in-Anywhere : goal.laid::put_laid-tails-preserved-in-Anywhere
laid::put_laid-tails-preserved-in-Anywhere n c =
    let is = sym c.here.view_is ∙ ap tree_of c.in-Called.is in
    let y : Tree = t.Called (part_of c.in-Called.part) c.in-Called.inner.now in record {
      kept = c.tails.invariant.kept;
      put = other_left _ _ _ _ _ _ _ _ _ is (ap (λ w. laid_in w y) c.in-Anywhere.is) c.ending.ensures.within
          c.ending.ensures.tree c.tails.invariant.put;
      inside = tail_inside _ _ _ _ _ is c.ending.ensures.tree (omega arith) c.tails.invariant.inside;
    }

pub laid::put_laid-returns-then-is_shelled-clause-put : goal.laid::put_laid-returns-then-is_shelled-clause-put
laid::put_laid-returns-then-is_shelled-clause-put n c =
    let two = c.in-Front.two.now in
    let shelled : true ≡ is_shelled (kind_of c.in-Front.kind) two.back = search rules in
    put_form _ _ _ _ _ _ _ _ (sym c.here.view_is ∙ ap tree_of c.in-Front.is)
    (ap (λ b. laid two.front ++ enclosed_if b (laid two.back)) shelled) c.tails.invariant.put
    (put_second _ _ _ _ _ _ _ c.in_ok-put_laid-in-Front.ensures.put refl c.put_operand.ensures.put)

pub laid::put_laid-returns-in_default-clause-put : goal.laid::put_laid-returns-in_default-clause-put
laid::put_laid-returns-in_default-clause-put n c =
    let es : List Element = c.in-Elements.list.now.before.now in
    let m = separator_of c.in-Elements.list.now.separator in
    let is : c.tails.left.tree.now ≡ elements m es t.End =
    sym c.here.view_is ∙ ap tree_of c.in-Elements.is
    ∙ ap (λ o. elements m es (ending (λ b. b.now) o)) c.in_default.is in
    form_put _ _ _ _ _ _ _ is (sym (laid_open c.tails.left.within m es)) c.tails.invariant.put
    c.in_ok-put_elements-in-Elements.ensures.put

-- what stands first of two
pub laid::put_first-returns-in-Word-clause-put : goal.laid::put_first-returns-in-Word-clause-put
laid::put_first-returns-in-Word-clause-put n c =
    put_same _ _ _ _ _ (ap (laid_in c.args.within) (sym (ap tree_of c.in-Word.is) ∙ c.tree.view_is)) c.ident.ensures.put

pub laid::put_first-returns-in-Mark-clause-put : goal.laid::put_first-returns-in-Mark-clause-put
laid::put_first-returns-in-Mark-clause-put n c =
    put_same _ _ _ _ _ (sym (laid_mark c.args.within (sign_text c.in-Mark.marks) _)
    ∙ ap (laid_in c.args.within) (sym (ap tree_of c.in-Mark.is) ∙ c.tree.view_is)) c.sign.ensures.put

pub laid::put_first-returns-then-is_missing : goal.laid::put_first-returns-then-is_missing
laid::put_first-returns-then-is_missing n c =
    let none : is_missing c.args.tree.now ≡ true = search rules in record {
      put = put_none _ _ (sym (missing_laid c.args.within c.args.tree.now none));
      keeps = keeps_same _ _ refl;
    }

-- the ends of lists
pub laid::put_elements-returns-clause-put : goal.laid::put_elements-returns-clause-put
laid::put_elements-returns-clause-put n c =
    loop_end (λ es. laid (elements (separator_of c.args.mark) es t.End)) c.args.before.now c.loop-element.element-index
    _ _
    c.loop-element-test.false refl c.loop-element.invariant.put

pub laid::put_those-returns-clause-put : goal.laid::put_those-returns-clause-put
laid::put_those-returns-clause-put n c =
    loop_end (λ es. those_laid (passes c.args.which) false (elements (separator_of c.args.mark) es t.End))
    c.args.before.now c.loop-element.element-index _ _ c.loop-element-test.false refl c.loop-element.invariant.put

pub laid::put_others-returns-clause-put : goal.laid::put_others-returns-clause-put
laid::put_others-returns-clause-put n c =
    loop_end (λ es. others_laid (passes c.args.which) [] (elements (separator_of c.args.mark) es t.End))
    c.args.before.now c.loop-element.element-index _ _ c.loop-element-test.false refl c.loop-element.invariant.put

pub turn::put_turns-returns-clause-put : goal.turn::put_turns-returns-clause-put
turn::put_turns-returns-clause-put n c =
    loop_end (λ xs. laid (turns xs)) c.args.trees.now c.loop-index.index _ _ c.loop-index-test.false refl
    c.loop-index.invariant.put
