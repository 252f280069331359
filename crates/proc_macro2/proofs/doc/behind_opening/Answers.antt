use Rattle.std.proofs.Common.{◌≡◌, ◌≤◌, ◌<◌, List, ℕ, [], ◌∷◌, length, arith, refl}
use Rattle.std.specs.Str.{chars}
use Rattle.std.proofs.lemmas.Str.{IsCharBoundary-from_drop}
use Rattle.proc_macro2.proofs.Puts.{some_bytes}
use Rattle.proc_macro2.proofs.doc.behind_opening.Goals as goal

some : (bytes cs : List ℕ) → chars bytes ≡ cs → 3 ≤ length cs → 0 < length bytes
some bytes [] e h = absurd (omega arith)
some bytes (c ∷ cs) e h = some_bytes bytes c cs e

pub char_at-second-requires-clause-more : goal.char_at-second-requires-clause-more
char_at-second-requires-clause-more c = some c.args.doc.now _ refl c.requires

pub range_from-requires : goal.range_from-requires
range_from-requires c = λ _.
    (let p = c.char_at-behind.ensures.behind.place in IsCharBoundary-from_drop _ _ p.within p.cut)
