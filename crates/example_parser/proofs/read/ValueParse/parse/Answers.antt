use Rattle.std.proofs.Common.{subst, sym, ap}
use Rattle.syn_parse.specs.Delimiter.TheVariants.{Bracket}
use Rattle.syn_parse.specs.Lists.{separators, values}
use Rattle.syn_parse.specs.Groups.{IsGroup}
use Rattle.syn_parse.specs.Input.{rest}
use Rattle.syn_parse.specs.Position as place
use Rattle.syn_parse.specs.ReadLists.{ReadsList}
use Rattle.example_parser.specs.Lines.{reads_comma, reads_number}
use Rattle.example_parser.proofs.read.ValueParse.parse.Goals as goal

pub returns-then-branch-2-clause-found : goal.returns-then-branch-2-clause-found
returns-then-branch-2-clause-found c =
    let span = c.in_ok-content.field-0-0.join in
    let inside = rest c.in_ok-content.content in
    let numbers = c.in_ok-numbers.numbers in (
      span,
      inside,
      subst (λ us. IsGroup (rest c.args.input.now) Bracket span inside us) (sym (ap place.rest c.close.ensures.stays))
          c.in_ok-content.ensures.found.group,
      subst (λ us. ReadsList reads_number reads_comma inside (values numbers) (separators numbers) us)
          c.in_ok-numbers.ensures.whole c.in_ok-numbers.ensures.found,
    )
