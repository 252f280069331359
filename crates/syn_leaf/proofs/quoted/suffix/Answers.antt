use Rattle.std.specs.Str.{chars}
use Rattle.syn_leaf.proofs.Apart.{suffix_behind}
use Rattle.syn_leaf.proofs.quoted.suffix.Goals as goal

pub returns : goal.returns
returns c =
    suffix_behind c.args.kind (chars c.args.text.now) (chars c.taken_apart.result.inside.now)
    (chars c.taken_apart.result.closing.now) (chars c.behind_hashes.result.now) c.taken_apart.result.mode
    c.requires.quoted c.requires.there c.taken_apart.ensures c.behind_hashes.ensures
