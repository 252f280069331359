use Rattle.std.proofs.Common.{rules}
use Rattle.rust_leaf.proofs.InQuotes.{character_whole}
use Rattle.rust_leaf.proofs.literal.Literal.character.Goals as goal

pub closed-requires : goal.closed-requires
closed-requires c = character_whole _ _ c.args.ch (search rules) c.in_ok-out.ensures c.in_ok-push_char.ensures
