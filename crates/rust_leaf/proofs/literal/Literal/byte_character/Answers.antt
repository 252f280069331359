use Rattle.rust_leaf.proofs.InQuotes.{byte_whole}
use Rattle.rust_leaf.proofs.literal.Literal.byte_character.Goals as goal

pub closed-requires : goal.closed-requires
closed-requires c = byte_whole _ _ c.args.byte c.ranges.byte.fits c.in_ok-out.ensures c.in_ok-push_byte.ensures
