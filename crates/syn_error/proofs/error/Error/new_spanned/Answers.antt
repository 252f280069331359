use Rattle.std.proofs.Common.{rules}
use Rattle.syn_error.proofs.error.Error.new_spanned.Goals as goal

pub returns : goal.returns
returns g c = (c.in_ok-stream.stream, c.in_ok-stream.ensures, search rules)
