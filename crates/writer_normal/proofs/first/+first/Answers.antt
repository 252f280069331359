use Rattle.proc_macro2.specs.Token.{Punct}
use Rattle.std.proofs.Common.{◌≡◌, ◌∙◌, ◌∷◌, ◌++◌, [], ap, arith, inl, inr, sym}
use Rattle.reader_table.specs.Kinds.{kind_of}
use Rattle.reader_table.specs.Ops.{separator_of}
use Rattle.reader_tree.specs.Forms.{elements, ending, tree_of}
use Rattle.reader_tree.proofs.Sizes.{tree_size}
use Rattle.syn_grammar.specs.Tree as t
use Rattle.syn_grammar.specs.Tree.{flat}
use Rattle.writer_built.specs.Begins.{front3}
use Rattle.writer_built.specs.Heads.{head_tokens}
use Rattle.writer_normal.proofs.Inside.{last_below}
use Rattle.writer_normal.proofs.Heads.{elements_more, end_below, group_first, list_last, three_firsts, turns_more}
use Rattle.writer_normal.proofs.Heads.{two_firsts}
use Rattle.writer_normal.proofs.first.+first.Goals as goal

pub first-returns-in-Infix : goal.first-returns-in-Infix
first-returns-in-Infix n c =
    let three = c.in-Infix.three.now in
    let view : c.args.tree.now ≡ t.Infix three.left (kind_of c.in-Infix.field-0) three.own three.right =
    sym c.tree.view_is ∙ ap tree_of c.in-Infix.is in
    three_firsts (head_tokens c.followed-in-Infix.result) (head_tokens c.followed.result) (head_tokens c.first.result)
    three.left three.own three.right c.followed-in-Infix.ensures c.followed.ensures c.first.ensures
    ∙ ap (λ z. front3 (flat z)) (sym view)

pub first-returns-in-Group : goal.first-returns-in-Group
first-returns-in-Group n c =
    let view : c.args.tree.now ≡ t.Group c.in-Group.delimiter c.in-Group.group.now.inside =
    sym c.tree.view_is ∙ ap tree_of c.in-Group.is in
    group_first c.in-Group.delimiter (head_tokens c.enclosed.result) (head_tokens c.first-in-Group.result)
    (flat c.in-Group.group.now.inside) c.enclosed.ensures c.first-in-Group.ensures
    ∙ ap (λ z. front3 (flat z)) (sym view)

pub first-returns-in-Pair : goal.first-returns-in-Pair
first-returns-in-Pair n c =
    let two = c.in-Pair.two.now in
    let said = two_firsts (head_tokens c.followed-in-Pair.result) (head_tokens c.first-in-Pair.result) two.front
    two.back c.followed-in-Pair.ensures c.first-in-Pair.ensures in
    elim c.in-Pair.is [
      | inl w ↦
          let view : c.args.tree.now ≡ t.Pair two.front two.back = sym c.tree.view_is ∙ ap tree_of w in
          said ∙ ap (λ z. front3 (flat z)) (sym view)
      | inr v ↦ elim v [
        | inl w ↦
            let view : c.args.tree.now ≡ t.Front (kind_of w.0) two.front two.back =
            sym c.tree.view_is ∙ ap tree_of w.1 in
            said ∙ ap (λ z. front3 (flat z)) (sym view)
        | inr w ↦
            let view : c.args.tree.now ≡ t.Back two.front (kind_of w.0) two.back =
            sym c.tree.view_is ∙ ap tree_of w.1 in
            said ∙ ap (λ z. front3 (flat z)) (sym view)
      ]
    ]

pub first_list-followed_elements-before-requires : goal.first_list-followed_elements-before-requires
first_list-followed_elements-before-requires n c =
    let list = c.args.list.now in
    let below = end_below (separator_of list.separator) list.before.now (ending (λ b. b.now) list.last) in
    omega (arith, c.decreases, below)

pub first_list-followed-requires : goal.first_list-followed-requires
first_list-followed-requires n c =
    let list = c.args.list.now in
    let m = separator_of list.separator in
    let x = c.in-Some.last.now in
    let y = elements m list.before.now (ending (λ b. b.now) list.last) in
    let is : y ≡ elements m list.before.now (t.Final x) =
    ap (λ o. elements m list.before.now (ending (λ b. b.now) o)) c.in-Some.is in
    let below = last_below m list.before.now x y is in
    omega (arith, c.decreases, below, tree_size x, tree_size y)

pub first_list-returns-in-Some : goal.first_list-returns-in-Some
first_list-returns-in-Some n c =
    let list = c.args.list.now in
    let m = separator_of list.separator in
    list_last (head_tokens c.followed.result) (head_tokens c.followed_elements-before.result) m list.before.now
    c.in-Some.last.now c.followed.ensures c.followed_elements-before.ensures
    ∙ ap (λ o. front3 (flat (elements m list.before.now (ending (λ b. b.now) o)))) (sym c.in-Some.is)

pub followed_elements-returns-in_default-front : goal.followed_elements-returns-in_default-front
followed_elements-returns-in_default-front n c =
    elements_more (head_tokens c.followed_elements.result) (head_tokens c.joined.result) (head_tokens c.followed.result)
    (head_tokens c.args.front) (separator_of c.args.mark) c.in-Some.element.now c.args.before.now c.in-Some.others.now
    c.followed_elements.ensures
    (c.joined.ensures ∙ ap (λ u. front3 (head_tokens c.followed.result ++ u ∷ []))
    (c.separator.ensures ∙ ap (Punct (separator_of c.args.mark)) c.spacing.ensures))
    c.followed.ensures c.in-Some.ensures.cases.0

pub followed_turns-returns-in_default-front : goal.followed_turns-returns-in_default-front
followed_turns-returns-in_default-front n c =
    turns_more (head_tokens c.followed_turns.result) (head_tokens c.followed.result) (head_tokens c.args.front)
    c.in-Some.tree.now c.args.trees.now c.in-Some.others.now c.followed_turns.ensures c.followed.ensures
    c.in-Some.ensures.cases.0
