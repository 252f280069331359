use Rattle.std.proofs.Common.{◌≤◌, length, subst, rules}
use Rattle.syn_parse.specs.Lists.{separators, values}
use Rattle.syn_parse.specs.Input.{rest}
use Rattle.syn_parse.specs.ReadLists.{ReadsList}
use Rattle.example_parser.specs.Lines.{ReadsLine, reads_semi}
use Rattle.example_parser.proofs.read.lines.Goals as goal

pub returns-then-empty_or_trailing : goal.returns-then-empty_or_trailing
returns-then-empty_or_trailing c =
    let lines = c.in_ok-lines.lines in
    let ended : length (values lines) ≤ length (separators lines) = search rules in (
      subst (λ us. ReadsList ReadsLine reads_semi (rest c.args.input.now) (values lines) (separators lines) us)
          c.in_ok-lines.ensures.whole c.in_ok-lines.ensures.found,
      ended,
    )
