use Rattle.std.proofs.Common.{rules}
use Rattle.rust_leaf.proofs.Identifiers.{raw_text, raw_printed}
use Rattle.rust_leaf.proofs.ident.Ident.new_raw.Goals as goal

pub returns-in_ok-of-in-None-2-clause-text_is : goal.returns-in_ok-of-in-None-2-clause-text_is
returns-in_ok-of-in-None-2-clause-text_is c = search (rules, raw_text)

pub invariant_of-result : goal.invariant_of-result
invariant_of-result c = record {
  is_printed = raw_printed c.args.text.now c.in_ok-printed-in-None-2.printed.bytes.items _ (search rules)
      (search rules) (search rules) (search rules);
}
