use Rattle.std.proofs.Common.{◌≡◌, rules}
use Rattle.std.specs.Prelude.{true}
use Rattle.proc_macro2.specs.Token.{plain}
use Rattle.syn_buffer.specs.Stands.{end_stands}
use Rattle.syn_input.specs.Input.{rest}
use Rattle.syn_lists.proofs.ReadPairs.{at_end}
use Rattle.syn_lists.proofs.punctuated.Punctuated.parse_terminated_with.Goals as goal

pub returns-then-is_empty-clause-whole : goal.returns-then-is_empty-clause-whole
returns-then-is_empty-clause-whole g c =
    let ended : end_stands (plain (rest c.read_many.new.input)) ≡ true = search rules in
    at_end (rest c.read_many.new.input) ended
