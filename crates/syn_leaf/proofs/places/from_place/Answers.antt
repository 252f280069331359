use Rattle.std.proofs.lemmas.Str.{IsCharBoundary-from_drop}
use Rattle.syn_leaf.proofs.places.from_place.Goals as goal

pub range_from-requires : goal.range_from-requires
range_from-requires c =
    λ p. IsCharBoundary-from_drop c.args.text.now c.args.at c.requires.within c.requires.cut
