use Rattle.std.proofs.Common.{◌≤◌, arith, length, sym, ◌∙◌}
use Rattle.rust_escape.proofs.Closing.{closes_here, seeks_start, seeks_commons, seeks_on, seeks_plain}
use Rattle.rust_escape.proofs.Closing.{closes_nowhere, closes_never}
use Rattle.rust_escape.proofs.lexical.inside_end.Goals as goal

pub returns-then-c-eq34 : goal.returns-then-c-eq34
returns-then-c-eq34 c = (
  closes_here c.args.mode c.args.text.now c.args.start c.loop-at.at c.char_at-c.result.0 _ c.loop-at.invariant
      c.char_at-c.ensures.rest c.if-c-eq34.true,
  c.loop-at.invariant.place,
  c.loop-at.invariant.on,
)

pub loop-at-init : goal.loop-at-init
loop-at-init c =
    seeks_commons _ _ _ _ _ (seeks_start c.args.mode c.args.text.now c.args.start c.requires) c.past_blocks-at.ensures

pub loop-at-preserved : goal.loop-at-preserved
loop-at-preserved c =
    let read = seeks_on c.args.mode c.args.text.now c.args.start c.loop-at.at c.char_at-c.result.0 _
    c.lexical_unit-reading.result c.in-Ok.field-0 c.loop-at.invariant c.char_at-c.ensures.rest c.if-c-eq34.false
    c.lexical_unit-reading.ensures c.in-Ok.is in
    seeks_commons _ _ _ _ _ read c.past_blocks-at-in-Ok.ensures

pub returns-in-Err : goal.returns-in-Err
returns-in-Err c =
    closes_nowhere c.args.mode c.args.text.now c.args.start c.loop-at.at c.char_at-c.result.0 _
    c.lexical_unit-reading.result c.in-Err.field-0 c.loop-at.invariant c.char_at-c.ensures.rest c.if-c-eq34.false
    c.lexical_unit-reading.ensures c.in-Err.is

pub returns : goal.returns
returns c = let l : length c.args.text.now ≤ c.loop-at.at =
    omega arith in closes_never c.args.mode c.args.text.now c.args.start c.loop-at.at c.loop-at.invariant l

pub loop-at-preserved-then-is_plain : goal.loop-at-preserved-then-is_plain
loop-at-preserved-then-is_plain c =
    seeks_plain c.args.mode c.args.text.now c.args.start c.loop-at.at c.char_at-c.result.0 c.char_at-c.result.1
    c.loop-at.invariant c.char_at-c.ensures.rest c.if-c-eq34.false (sym c.is_plain.ensures ∙ c.if-is_plain.true)
    c.char_at-c.ensures.behind
