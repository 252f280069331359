use Rattle.std.proofs.Common.{arith, ap, sym, ◌∙◌}
use Rattle.rust_escape.specs.Chars.{past}
use Rattle.rust_escape.specs.Escape.{is_hex_part}
use Rattle.rust_escape.specs.Places.{rest_at}
use Rattle.rust_escape.proofs.Steps.{digit_fits, digits_fit, digits_more, over_digit}
use Rattle.rust_escape.proofs.read.digits.Goals as goal

pub overflow_mul-number : goal.overflow_mul-number
overflow_mul-number c =
    let k = digits_fit c.loop-at.count c.loop-at.number c.loop-at.invariant.small c.if-count-ge6.false in
    omega arith

pub overflow_add-number : goal.overflow_add-number
overflow_add-number c =
    let k = digits_fit c.loop-at.count c.loop-at.number c.loop-at.invariant.small c.if-count-ge6.false in
    omega (arith, c.in-Some.ensures.small)

pub loop-at-preserved : goal.loop-at-preserved
loop-at-preserved c =
    let is = c.in-Some.ensures.digit in
    record {
      same = sym (rw c.char_at-c.ensures.rest
          (digits_more c.args.mode c.loop-at.count c.loop-at.number c.char_at-c.result.0 c.in-Some.digit _
          c.if-c-eq125.false c.if-c-eq95.false is.0 is.1 c.if-count-ge6.false)) ∙ c.loop-at.invariant.same;
      place = c.char_at-c.ensures.behind.place;
      on = omega (arith, c.char_at-c.ensures.behind.on);
      few = omega arith;
      small = digit_fits _ _ _ c.loop-at.invariant.small c.in-Some.ensures.small;
      over = sym (ap (past is_hex_part) c.char_at-c.ensures.rest ∙ over_digit c.char_at-c.result.0
          (rest_at c.args.text.now c.char_at-c.result.1) is.0) ∙ c.loop-at.invariant.over;
    }
