-- Each form by its operands, in its place.
use Rattle.std.proofs.Common.{◌≡◌, List, arith, ap, subst, ◌∙◌}
use Rattle.std.proofs.lemmas.Result.{IfOk-weaker}
use Rattle.proc_macro2.specs.Token.{Token}
use Rattle.syn_grammar.specs.Kind.{Kind, Position}
use Rattle.syn_grammar.specs.Name.{the_label}
use Rattle.syn_grammar.specs.Part.{has}
use Rattle.syn_grammar.specs.Tree.{Tree, Front, Back, Infix, flat}
use Rattle.syn_grammar.specs.Forms.{inside}
use Rattle.syn_grammar.specs.Kept.{kept}
use Rattle.syn_grammar.specs.Parens.{follow}
use Rattle.laws_binding.specs.Written.{write, infix_of, paren_unless, may_left, may_right}
use Rattle.reader_table.specs.Kinds.{kind_of, position_of}
use Rattle.writer_read.specs.Formed.{HasFormed}
use Rattle.reader_tree.proofs.Sizes.{tree_size}
use Rattle.writer_built.specs.Asked.{IsWritten}
use Rattle.writer_built.specs.Begins.{front3}
use Rattle.writer_built.specs.Behind.{first_own}
use Rattle.writer_built.specs.Heads.{head_tokens}
use Rattle.writer_built.specs.Facts.{last_of}
use Rattle.writer_built.specs.Kept.{kept_of, own_tokens}
use Rattle.writer_built.specs.Ropes.{rope_tokens}
use Rattle.writer_built.proofs.Builds.{back_built, front_built, infix_built, left_built, right_built}
use Rattle.writer_built.proofs.build.+written.Goals as goal

-- what is called is smaller
pub front-right-requires : goal.front-right-requires
front-right-requires n c = omega (arith, c.decreases, tree_size c.args.two.now.back)

pub back-left-requires : goal.back-left-requires
back-left-requires n c = omega (arith, c.decreases, tree_size c.args.two.now.front)

pub infix-left-requires : goal.infix-left-requires
infix-left-requires n c = omega (arith, c.decreases, tree_size c.args.three.now.left)

pub infix-right-requires : goal.infix-right-requires
infix-right-requires n c = omega (arith, c.decreases, tree_size c.args.three.now.right)

pub right-returns-clause-same : goal.right-returns-clause-same
right-returns-clause-same n c =
    let p : Position = position_of c.args.position in
    let k : Kind = kind_of c.args.kind in
    let x : Tree = c.args.tree.now in
    let o = c.in_ok-operand.operand in
    IfOk-weaker c.in_parens_unless.result (λ r. kept_of r ≡ paren_unless c.stays_right-stays.result (kept_of o))
    (λ r. (y : Tree) (ts : List Token) → c.args.labelled ≡ has the_label y → head_tokens c.args.behind ≡ front3 ts
    → HasFormed x → kept_of r ≡ paren_unless (may_right p k y (write (inside p k) ts (kept x)))
    (write (inside p k) ts (kept x)))
    (λ r e y ts label head formed. right_built p k y (kept_of r) (kept_of o)
    (write (inside p k) ts (kept x)) c.stays_right-stays.result
    (c.stays_right-stays.ensures y (rope_tokens o.rope) label c.in_ok-operand.ensures.head)
    (subst (λ q. IsWritten q c.args.behind x o) c.inside-place.ensures c.in_ok-operand.ensures.same ts head formed) e)
    c.in_parens_unless.ensures.same

pub left-returns-clause-same : goal.left-returns-clause-same
left-returns-clause-same n c =
    let p : Position = position_of c.args.position in
    let k : Kind = kind_of c.args.kind in
    let x : Tree = c.args.tree.now in
    let o = c.in_ok-operand.operand in
    IfOk-weaker c.in_parens_unless.result (λ r. kept_of r ≡ paren_unless c.stays_left-stays.result (kept_of o))
    (λ r. (y : Tree) → head_tokens c.args.own ≡ front3 (flat y) → HasFormed x
    → kept_of r ≡ paren_unless (may_left p k y (write p (follow (flat y)) (kept x)))
    (write p (follow (flat y)) (kept x)))
    (λ r e y head formed. left_built p k y (kept_of r) (kept_of o) (write p (follow (flat y)) (kept x))
    c.stays_left-stays.result (c.stays_left-stays.ensures y (rope_tokens o.rope) head)
    (c.in_ok-operand.ensures.same (follow (flat y)) (c.follow-next.ensures (flat y) head) formed) e)
    c.in_parens_unless.ensures.same

pub front-returns-clause-same : goal.front-returns-clause-same
front-returns-clause-same n c =
    let p : Position = position_of c.args.position in
    let k : Kind = kind_of c.args.kind in
    let o = c.in_ok-operand.operand in
    IfOk-weaker c.in_parens_unless.result (λ r. kept_of r ≡ paren_unless c.begins_in-stays.result (kept_of o))
    (λ r. IsWritten p c.args.behind (Front k c.args.two.now.front c.args.two.now.back) r)
    (λ r e ts head formed. front_built p k ts c.args.two.now.front c.args.two.now.back (kept_of r) (kept_of o)
    (kept_of c.in_ok-right.right) (own_tokens c.in_ok-own.own) (c.in_ok-own.ensures.same formed.0)
    c.in_ok-operand.ensures.same
    (λ z label. c.in_ok-right.ensures.same z ts (c.has-labelled.ensures ∙ label) head formed.1)
    (e ∙ ap (λ b. paren_unless b (kept_of o)) c.begins_in-stays.ensures))
    c.in_parens_unless.ensures.same

pub back-returns-clause-same : goal.back-returns-clause-same
back-returns-clause-same n c =
    let p : Position = position_of c.args.position in
    let k : Kind = kind_of c.args.kind in
    let o = c.in_ok-operand.operand in
    let own = c.in_ok-own.own in
    IfOk-weaker c.in_parens_unless.result (λ r. kept_of r ≡ paren_unless c.stays_behind-stays.result (kept_of o))
    (λ r. IsWritten p c.args.behind (Back c.args.two.now.front k c.args.two.now.back) r)
    (λ r e ts head formed.
    let is = c.in_ok-own.ensures.same formed.1 in
    back_built p k ts c.args.two.now.front c.args.two.now.back (kept_of r) (kept_of o) (kept_of c.in_ok-left.left)
    (own_tokens own.own) c.stays_behind-stays.result (last_of own.last) is.0 is.2 c.in_ok-operand.ensures.same
    (c.in_ok-left.ensures.same (first_own k c.args.two.now.back) is.1 formed.0)
    (c.stays_behind-stays.ensures ts head) e formed.1)
    c.in_parens_unless.ensures.same

pub infix-returns-clause-same : goal.infix-returns-clause-same
infix-returns-clause-same n c =
    let p : Position = position_of c.args.position in
    let k : Kind = kind_of c.args.kind in
    let own = c.in_ok-own.own in
    let l = kept_of c.in_ok-left.left in
    let r = kept_of c.in_ok-right.right in
    IfOk-weaker c.infix.result (λ o. (y : Tree) → own_tokens own ≡ flat y → kept_of o ≡ infix_of l k y r)
    (λ o. IsWritten p c.args.behind
    (Infix c.args.three.now.left k c.args.three.now.own c.args.three.now.right) o)
    (λ o e ts head formed.
    let said = c.in_ok-own.ensures.same formed.1 in
    infix_built p k ts c.args.three.now.left c.args.three.now.own c.args.three.now.right (kept_of o) l r
    (own_tokens own) said e
    (λ z is. c.in_ok-left.ensures.same z (c.in_ok-own.ensures.head ∙ ap front3 is) formed.0)
    (λ z label. c.in_ok-right.ensures.same z ts (c.has-labelled.ensures ∙ label) head formed.2))
    c.infix.ensures.same
