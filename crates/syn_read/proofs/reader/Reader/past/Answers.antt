use Rattle.std.proofs.Common.{refl}
use Rattle.syn_read.proofs.Onward.{passes}
use Rattle.syn_read.proofs.reader.Reader.past.Goals as goal

pub returns-clause-onward : goal.returns-clause-onward
returns-clause-onward c =
    (refl, passes c.args.self.entries.now c.requires.last.0 c.args.rest.now c.requires.last.1)
