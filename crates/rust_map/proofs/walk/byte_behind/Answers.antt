use Rattle.std.proofs.Common.{arith, ◌-◌, ◌≡◌, ◌+◌}
use Rattle.text_chars.proofs.Steps.{rest_end}
use Rattle.rust_map.proofs.ByteLemmas.{byte_behind_step, there_step}
use Rattle.rust_map.proofs.walk.byte_behind.Goals as goal

pub char_at-next-requires-clause-more : goal.char_at-next-requires-clause-more
char_at-next-requires-clause-more c = Prim.grind (arith, rest_end)

pub loop-passed-preserved : goal.loop-passed-preserved
loop-passed-preserved c =
    let e = c.char_at-next.ensures in
    let k : c.args.count - (c.loop-passed.passed + 1) ≡ (c.args.count - c.loop-passed.passed) - 1 = omega arith in
    record {
      place = e.behind.place;
      there = rw k (there_step _ _ _ (c.args.count - c.loop-passed.passed) e.rest c.loop-passed.invariant.there);
      same = rw (
        k,
        byte_behind_step _ _ c.loop-passed.at _ _ (c.args.count - c.loop-passed.passed) e.rest e.next
            (omega arith),
      ) c.loop-passed.invariant.same;
    }
