use denote.Enum.Bare.{same_true}
use Rattle.std.proofs.Common.{arith, rules, sym, ap, List, take, drop, length, ◌-◌, ◌∙◌, ◌∷◌, ◌++◌}
use Rattle.syn_buffer.specs.Entries.{spanned_entries}
use Rattle.syn_buffer.specs.declared.entry.Entry.{Entry}
use Rattle.proc_macro2.specs.Flat.{spanned}
use Rattle.proc_macro2.specs.Token.{Opens, Closes}
use Rattle.reader_steps.specs.Answers.{tokens}
use Rattle.proc_macro2.specs.contracts.delimiter.Delimiter.{the_type}
use Rattle.reader_steps.proofs.Groups.{entered_inside, entered_behind}
use Rattle.syn_read.proofs.Firsts.{first_rest, group_behind, group_spans, group_stands}
use Rattle.syn_read.proofs.reader.Reader.group.Goals as goal

pub past-requires-clause-whole : goal.past-requires-clause-whole
past-requires-clause-whole c = entered_behind c.args.delimiter c.args.self.now.entries.now _ c.entry-item.result _ _ _
    (first_rest _ _ (omega (arith, c.in-len1-up.len_at_least)) c.entry-item.is) c.in-Open.is
    c.args.self.now.is_whole

pub past-requires-clause-last : goal.past-requires-clause-last
past-requires-clause-last c = group_behind c.args.delimiter c.args.self.now.entries.now _ c.entry-item.result _ _ _
    (first_rest _ _ (omega (arith, c.in-len1-up.len_at_least)) c.entry-item.is) c.in-Open.is

pub invariant_of-inside : goal.invariant_of-inside
invariant_of-inside c = record {
  is_whole = entered_inside c.args.delimiter c.args.self.now.entries.now _ c.entry-item.result _ _ _
      (first_rest _ _ (omega (arith, c.in-len1-up.len_at_least)) c.entry-item.is) c.in-Open.is
      c.args.self.now.is_whole;
}

pub returns-then-eq-clause-read : goal.returns-then-eq-clause-read
returns-then-eq-clause-read c =
    let others : List Entry = take (length c.args.self.now.entries.now - 1) (drop 1 c.args.self.now.entries.now) in
    let stands =
    group_stands c.args.delimiter c.args.self.now.entries.now others c.entry-item.result _ _ _
    (first_rest _ _ (omega (arith, c.in-len1-up.len_at_least)) c.entry-item.is) c.in-Open.is
    (same_true the_type (search rules) _ _ (sym c.if-eq.ensures)) c.args.self.now.is_whole in (
      stands.0,
      stands.1
          ∙ ap (λ ts. Opens c.args.delimiter ∷ tokens (take c.in-Open.count others) ++ Closes c.args.delimiter ∷ ts)
          (sym c.past.ensures.tokens),
    )

pub returns-then-eq-clause-entered : goal.returns-then-eq-clause-entered
returns-then-eq-clause-entered c =
    let others : List Entry = take (length c.args.self.now.entries.now - 1) (drop 1 c.args.self.now.entries.now) in
    group_spans c.args.delimiter c.args.self.now.entries.now others c.entry-item.result _ _ _
    (first_rest _ _ (omega (arith, c.in-len1-up.len_at_least)) c.entry-item.is) c.in-Open.is
    (same_true the_type (search rules) _ _ (sym c.if-eq.ensures)) c.args.self.now.is_whole
    ∙ ap (λ es. spanned (Opens c.args.delimiter) c.in-Open.span ∷ spanned_entries (take c.in-Open.count others)
    ++ spanned (Closes c.args.delimiter) c.in-Open.span ∷ spanned_entries es) (sym c.past.ensures.entries)
