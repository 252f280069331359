-- Texts that are compared by their bytes.
use Rattle.std.proofs.lemmas.Slice.Eq.{bytes_eq-Decides}

pub ruleset texts = (bytes_eq-Decides)
