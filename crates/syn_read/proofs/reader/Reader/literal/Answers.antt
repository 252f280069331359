use Rattle.std.proofs.Common.{[], arith, ◌∷◌}
use Rattle.syn_read.proofs.Firsts.{first_rest}
use Rattle.syn_read.proofs.reader.Reader.literal.Goals as goal

pub past-requires-clause-last : goal.past-requires-clause-last
past-requires-clause-last c =
    (c.entry-item.result ∷ [], first_rest _ _ (omega (arith, c.in-len1-up.len_at_least)) c.entry-item.is)
