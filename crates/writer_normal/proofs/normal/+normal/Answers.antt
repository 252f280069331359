-- Each form by its operands.
use Rattle.std.specs.Prelude.{List}
use Rattle.std.proofs.Common.{◌≡◌, ◌∙◌, ◌++◌, arith, ap, map, refl, rules, sym}
use Rattle.std.proofs.lemmas.Result.{err_from_is_err_and}
use Rattle.syn_grammar.specs.Kind.{Kind, Position}
use Rattle.syn_grammar.specs.Parens.{follow}
use Rattle.syn_grammar.specs.Tree.{Tree, flat}
use Rattle.reader_table.specs.Kinds.{kind_of, position_of}
use Rattle.reader_table.specs.Ops.{separator_of}
use Rattle.reader_tree.specs.Forms.{elements, ending, seconds, tree_of, turns}
use Rattle.reader_tree.specs.Size.{node_count}
use Rattle.reader_tree.proofs.Sizes.{elements_below, tree_size, turns_size}
use Rattle.writer_normal.proofs.Inside.{last_below}
use Rattle.syn_grammar.specs.Tree as t
use Rattle.reader_tree.specs.declared.tree.Element.{Element}
use Rattle.syn_grammar.specs.Normal.{formed, normal_in, stands_behind}
use Rattle.writer_normal.specs.Separators.{is_mixed}
use Rattle.writer_normal.specs.Parted.{element_in, parted}
use Rattle.writer_normal.proofs.Apartness.{turned_so}
use Rattle.writer_normal.proofs.Emptying.{emptied_size, inside_mixed, node_made, ordered_mixed}
use Rattle.writer_normal.proofs.Forming.{alone_formed, back_formed, front_formed, infix_formed, list_none, list_some}
use Rattle.writer_normal.proofs.Forming.{normal_seconds}
use Rattle.writer_normal.proofs.Mixing.{alone_own, back_left, back_own, element_mixed, front_right, infix_left}
use Rattle.writer_normal.proofs.Mixing.{infix_right, list_element, list_last, mixed_turns}
use Rattle.writer_normal.proofs.Stepping.{made_so, normal_so}
use Rattle.writer_normal.proofs.normal.+normal.Goals as goal

pub alone-returns : goal.alone-returns
alone-returns n c ts head =
    alone_formed (position_of c.args.position) ts (kind_of c.args.kind) c.args.own.now c.in_ok-own.own
    c.in_ok-form.form c.in_ok-own.ensures (c.in_ok-form.ensures ts head)

pub front-returns : goal.front-returns
front-returns n c ts head =
    front_formed (position_of c.args.position) ts (kind_of c.args.kind) c.args.two.now.front c.args.two.now.back
    c.in_ok-own.own c.in_ok-operand.operand c.in_ok-form.form (position_of c.inside-place.result) c.in_ok-own.ensures
    c.inside-place.ensures (c.in_ok-operand.ensures ts head) c.in_ok-form.ensures

pub back-returns : goal.back-returns
back-returns n c ts head =
    let own : Tree = c.in_ok-own.own in
    back_formed (position_of c.args.position) ts (kind_of c.args.kind) c.args.two.now.back c.args.two.now.front
    own c.in_ok-operand.operand c.in_ok-form.form c.in_ok-own.ensures
    (c.in_ok-operand.ensures (follow (flat own)) (c.follow-next.ensures (flat own) c.first-begun.ensures))
    (c.in_ok-form.ensures ts head)

pub infix-returns : goal.infix-returns
infix-returns n c ts head =
    let own : Tree = c.in_ok-own.own in
    infix_formed (position_of c.args.position) ts (kind_of c.args.kind) c.args.three.now.left c.args.three.now.own
    c.args.three.now.right c.in_ok-left.left own c.in_ok-right.right c.in_ok-form.form
    (position_of c.inside-place.result) c.in_ok-own.ensures
    (c.in_ok-left.ensures (follow (flat own)) (c.follow-next.ensures (flat own) c.first-begun.ensures))
    c.inside-place.ensures (c.in_ok-right.ensures ts head) c.in_ok-form.ensures

-- lists
pub list-put_elements-requires : goal.list-put_elements-requires
list-put_elements-requires n c =
    let list = c.args.list.now in
    let m = separator_of list.separator in
    let y : Tree = ending (λ b. b.now) list.last in
    let x : Tree = elements m list.before.now y in
    omega (arith, c.decreases, elements_below m list.before.now y x refl, tree_size x)

pub list-normal_in-requires : goal.list-normal_in-requires
list-normal_in-requires n c =
    let list = c.args.list.now in
    let m = separator_of list.separator in
    let x : Tree = elements m list.before.now (ending (λ b. b.now) list.last) in
    let is : x ≡ elements m list.before.now (t.Final c.in-Some.last.now) =
    ap (λ o. elements m list.before.now (ending (λ b. b.now) o)) c.in-Some.is in
    omega (
      arith,
      c.decreases,
      last_below m list.before.now c.in-Some.last.now x is,
      tree_size x,
      tree_size c.in-Some.last.now,
    )

pub list-returns-in_ok-ended-in-Some : goal.list-returns-in_ok-ended-in-Some
list-returns-in_ok-ended-in-Some n c =
    let p : Position = position_of c.args.position in
    let list = c.args.list.now in
    let m = separator_of list.separator in
    let es : List Element = list.before.now in
    c.or_fault.ensures _ (made_so c.elements.result _ _ c.elements.ensures
    (list_some p m es c.put_elements.new.out.items c.in-Some.last.now c.in_ok-ended-in-Some.ended
    (c.in_ok-put_elements.ensures ∙ ap (λ xs. xs ++ map (element_in p) es) c.new-before.ensures.items)
    c.in_ok-ended-in-Some.ensures
    ∙ ap (λ o. normal_in p (elements m es (ending (λ b. b.now) o))) (sym c.in-Some.is)))

pub list-returns-in-None : goal.list-returns-in-None
list-returns-in-None n c =
    let p : Position = position_of c.args.position in
    let list = c.args.list.now in
    let m = separator_of list.separator in
    let es : List Element = list.before.now in
    c.or_fault-in-None.ensures _ (made_so c.elements-in-None.result _ _ c.elements-in-None.ensures
    (list_none p m es c.put_elements.new.out.items
    (c.in_ok-put_elements.ensures ∙ ap (λ xs. xs ++ map (element_in p) es) c.new-before.ensures.items)
    ∙ ap (λ o. normal_in p (elements m es (ending (λ b. b.now) o))) (sym c.in-None.is)))

-- turns
pub normal_in-turns-requires : goal.normal_in-turns-requires
normal_in-turns-requires n c =
    let xs : List Tree = c.in-Turns.trees.now.each.now in
    let x : Tree = c.args.tree.now in
    let view : x ≡ turns xs = sym c.tree.view_is ∙ ap tree_of c.in-Turns.is in
    omega (arith, c.decreases, turns_size xs, ap node_count view, tree_size x)

pub turns-returns : goal.turns-returns
turns-returns n c =
    let p : Position = position_of c.args.position in
    let xs : List Tree = c.args.trees.now in
    let each : List Tree = c.put_each.new.out.items in
    c.or_fault.ensures _ (made_so c.turns.result _ _ c.turns.ensures
    (turned_so p xs each c.put_parted.new.out.items
    (c.in_ok-put_each.ensures ∙ ap (λ ys. ys ++ map (normal_in p) xs) c.new-each.ensures.items)
    (c.in_ok-put_parted.ensures ∙ ap (λ ys. ys ++ parted xs c.as_slice.result.now) c.new-parted.ensures.items
    ∙ ap (parted xs) c.as_slice.ensures.value)))

-- a choice
pub normal_in-returns-in-First : goal.normal_in-returns-in-First
normal_in-returns-in-First n c =
    let p : Position = position_of c.args.position in
    let x : Tree = c.in-First.inner.now in
    let view : c.args.tree.now ≡ seconds c.in-First.depth (t.First x) =
    sym c.tree.view_is ∙ ap tree_of c.in-First.is in
    normal_so c.first_behind.result _ _ (c.first_behind.ensures (normal_in p x) c.normal_in-inner.ensures)
    (sym (ap (normal_in p) view ∙ normal_seconds p c.in-First.depth (t.First x)))

pub normal_in-returns-in-Second : goal.normal_in-returns-in-Second
normal_in-returns-in-Second n c =
    let p : Position = position_of c.args.position in
    let x : Tree = c.in-Second.inner.now in
    let view : c.args.tree.now ≡ t.Second (seconds c.in-Second.depth x) =
    sym c.tree.view_is ∙ ap tree_of c.in-Second.is in
    normal_so c.second_behind.result _ _ (c.second_behind.ensures (normal_in p x) c.normal_in-in-Second.ensures)
    (sym (ap (normal_in p) view ∙ ap t.Second (normal_seconds p c.in-Second.depth x)))

-- what is left of a node's parts is no larger than they are
pub node-normal_in-requires : goal.node-normal_in-requires
node-normal_in-requires n c =
    let x : Tree = c.args.inner.now in
    let k : Kind = kind_of c.args.kind in
    omega (
      arith,
      c.decreases,
      emptied_size k x,
      ap node_count c.in_ok-left.ensures,
      tree_size x,
      tree_size c.in_ok-left.left,
    )

-- an expression, and a node
pub whole-returns : goal.whole-returns
whole-returns n c =
    c.or_fault.ensures _ (made_so c.whole.result _ _ c.whole.ensures
    (ap t.Whole (c.in_ok-form.ensures (stands_behind (position_of c.args.position)) c.behind_whole.ensures)))

pub node-returns : goal.node-returns
node-returns n c =
    c.or_fault.ensures _ (made_so c.node.result _ _ c.node.ensures
    (node_made (kind_of c.args.kind) (position_of c.args.position) (position_of c.passed.result) c.args.inner.now
    c.in_ok-left.left c.in_ok-inside.inside c.in_ok-tidied.tidied _ c.passed.ensures c.in_ok-left.ensures
    c.in_ok-inside.ensures c.in_ok-tidied.ensures refl))

-- why a part isn't made is why the whole isn't
pub alone-returns-in_err-own : goal.alone-returns-in_err-own
alone-returns-in_err-own n c =
    let p = err_from_is_err_and c.from_residual.result c.from_residual.ensures.1 in
    rw (p.1, p.2) (λ ts head same. alone_own (position_of c.args.position) ts (kind_of c.args.kind) c.args.own.now
    (c.in_err-own.ensures same))

pub front-returns-in_err-operand : goal.front-returns-in_err-operand
front-returns-in_err-operand n c =
    let two = c.args.two.now in
    let p = err_from_is_err_and c.from_residual-in_err-operand.result c.from_residual-in_err-operand.ensures.1 in
    rw (p.1, p.2) (λ ts head same. front_right (position_of c.args.position) ts (kind_of c.args.kind) two.front two.back
    (ap (λ r. is_mixed (formed r ts two.back)) (sym c.inside-place.ensures) ∙ c.in_err-operand.ensures ts head same))

pub back-returns-in_err-own : goal.back-returns-in_err-own
back-returns-in_err-own n c =
    let p = err_from_is_err_and c.from_residual.result c.from_residual.ensures.1 in
    rw (p.1, p.2) (λ ts head same. back_own (position_of c.args.position) ts c.args.two.now.front (kind_of c.args.kind)
    c.args.two.now.back (c.in_err-own.ensures same))

pub back-returns-in_err-operand : goal.back-returns-in_err-operand
back-returns-in_err-operand n c =
    let own : Tree = c.in_ok-own.own in
    let p = err_from_is_err_and c.from_residual-in_err-operand.result c.from_residual-in_err-operand.ensures.1 in
    rw (p.1, p.2) (λ ts head same. back_left (position_of c.args.position) ts c.args.two.now.front (kind_of c.args.kind)
    c.args.two.now.back own c.in_ok-own.ensures
    (c.in_err-operand.ensures (follow (flat own)) (c.follow-next.ensures (flat own) c.first-begun.ensures) same))

pub infix-returns-in_err-left : goal.infix-returns-in_err-left
infix-returns-in_err-left n c =
    let own : Tree = c.in_ok-own.own in
    let three = c.args.three.now in
    let p = err_from_is_err_and c.from_residual-in_err-left.result c.from_residual-in_err-left.ensures.1 in
    rw (p.1, p.2) (λ ts head same. infix_left (position_of c.args.position) ts three.left (kind_of c.args.kind)
    three.own
    three.right own c.in_ok-own.ensures
    (c.in_err-left.ensures (follow (flat own)) (c.follow-next.ensures (flat own) c.first-begun.ensures) same))

pub infix-returns-in_err-right : goal.infix-returns-in_err-right
infix-returns-in_err-right n c =
    let three = c.args.three.now in
    let p = err_from_is_err_and c.from_residual-in_err-right.result c.from_residual-in_err-right.ensures.1 in
    rw (p.1, p.2) (λ ts head same. infix_right (position_of c.args.position) ts three.left (kind_of c.args.kind)
    three.own
    three.right (ap (λ r. is_mixed (formed r ts three.right)) (sym c.inside-place.ensures)
    ∙ c.in_err-right.ensures ts head same))

pub list-returns-in_err-put_elements : goal.list-returns-in_err-put_elements
list-returns-in_err-put_elements n c =
    let list = c.args.list.now in
    let p = err_from_is_err_and c.from_residual.result c.from_residual.ensures.1 in
    rw (p.1, p.2) (λ same. list_element (position_of c.args.position) (separator_of list.separator) list.before.now
    (ending (λ b. b.now) list.last) (c.in_err-put_elements.ensures same))

pub list-returns-in_err-ended-in-Some : goal.list-returns-in_err-ended-in-Some
list-returns-in_err-ended-in-Some n c =
    let q : Position = position_of c.args.position in
    let list = c.args.list.now in
    let m = separator_of list.separator in
    let es : List Element = list.before.now in
    let r = c.from_residual-in_err-ended-in-Some in
    let p = err_from_is_err_and r.result r.ensures.1 in
    rw (p.1, p.2) (λ same. ap (λ o. is_mixed (normal_in q (elements m es (ending (λ b. b.now) o)))) c.in-Some.is
    ∙ list_last q m es c.in-Some.last.now (c.in_err-ended-in-Some.ensures same))

pub put_elements-returns-in_err-normal_in : goal.put_elements-returns-in_err-normal_in
put_elements-returns-in_err-normal_in n c =
    let p = err_from_is_err_and c.from_residual.result c.from_residual.ensures.1 in
    rw (p.1, p.2) (λ same. element_mixed (position_of c.args.position) c.args.before.now c.loop-element.element-index
    c.element-item.result (search rules) (search rules) (c.in_err-normal_in.ensures same))

pub node-returns-in_err-inside : goal.node-returns-in_err-inside
node-returns-in_err-inside n c =
    let r = c.from_residual-in_err-inside in
    let p = err_from_is_err_and r.result r.ensures.1 in
    rw (p.1, p.2) (λ same. inside_mixed (kind_of c.args.kind) (position_of c.args.position)
    (position_of c.passed.result) c.args.inner.now c.in_ok-left.left c.passed.ensures c.in_ok-left.ensures
    (c.in_err-inside.ensures same))

pub node-returns-in_err-tidied : goal.node-returns-in_err-tidied
node-returns-in_err-tidied n c =
    let r = c.from_residual-in_err-tidied in
    let p = err_from_is_err_and r.result r.ensures.1 in
    rw (p.1, p.2) (λ same. ordered_mixed (kind_of c.args.kind) (position_of c.args.position)
    (position_of c.passed.result) c.args.inner.now c.in_ok-left.left c.in_ok-inside.inside c.passed.ensures
    c.in_ok-left.ensures c.in_ok-inside.ensures (c.in_err-tidied.ensures same))

pub turns-returns-in_err-put_each : goal.turns-returns-in_err-put_each
turns-returns-in_err-put_each n c =
    let p = err_from_is_err_and c.from_residual.result c.from_residual.ensures.1 in
    rw (p.1, p.2) (λ same. mixed_turns (position_of c.args.position) c.args.trees.now ∙ c.in_err-put_each.ensures same)
