use Rattle.std.proofs.Common.{arith, sym, ◌∙◌, take}
use Rattle.std.specs.Str.{IsUtf8}
use Rattle.rust_leaf.proofs.CStrings.{first_split, front_filled, no_char, one_more}
use Rattle.rust_leaf.proofs.escape.first_char.Goals.{in-Ok+in_default-next, in_default}
use Rattle.rust_leaf.proofs.escape.first_char.Goals as goal

pub returns-in-Some-clause-value : goal.returns-in-Some-clause-value
returns-in-Some-clause-value c =
    first_split c.args.bytes.now _ c.loop-len.len c.in-Some.c c.len_utf8.result c.len_utf8.ensures.value
    (sym c.in-Ok.ensures.cases.0 ∙ sym c.chars-chars.ensures.rest ∙ c.in-Some.ensures.steps.0)

pub loop-len-preserved : goal.loop-len-preserved
loop-len-preserved c =
    one_more (λ k. IsUtf8 (take k c.args.bytes.now)) c.loop-len.len c.loop-len.invariant
    (elim c.match-from_utf8.branch [
      | in-Ok+in_default-next w ↦ λ _. front_filled c.args.bytes.now _ c.loop-len.len c.min-most.result
          (w.chars-chars.ensures.rest ∙ w.in-Ok.ensures.cases.0) w.in_default-next.ensures.steps.0.0 (omega arith)
          c.loop-len-test.true c.min-most.ensures
      | in_default w ↦ w.in_default.ensures.cases.0
    ])

pub returns-clause-none : goal.returns-clause-none
returns-clause-none c = no_char c.args.bytes.now c.loop-len.len _ c.min-most.ensures (omega arith) c.loop-len.invariant
