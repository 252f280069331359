use Rattle.std.proofs.Common.{arith}
use Rattle.std.proofs.lemmas.Grind.{common_steps}
use Rattle.syn_tokens.proofs.Nests.{put_all}
use Rattle.syn_tokens.proofs.tokens.stream_of.Goals as goal

pub returns-then-is_empty-clause-some : goal.returns-then-is_empty-clause-some
returns-then-is_empty-clause-some c =
    put_all c.loop-piece.nest.inside c.args.pieces.now (grind (arith, common_steps))
