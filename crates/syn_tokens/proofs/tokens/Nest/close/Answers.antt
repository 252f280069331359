use denote.Enum.Bare.{same_true}
use Rattle.std.proofs.Common.{rules, sym, ◌∙◌, ap, [], ◌∷◌, ◌++◌}
use Rattle.proc_macro2.specs.Flat.{spanned}
use Rattle.proc_macro2.specs.Token.{Opens, Closes}
use Rattle.proc_macro2.specs.contracts.delimiter.Delimiter.{the_type}
use Rattle.syn_tokens.proofs.Nests.{group_closes}
use Rattle.syn_tokens.proofs.tokens.Nest.close.Goals as goal

pub returns-in_ok-push_tree-clause-put : goal.returns-in_ok-push_tree-clause-put
returns-in_ok-push_tree-clause-put c = λ _ ps.
    group_closes c.pop.new.self.items c.args.self.now.outer.items c.in-Some.outer c.args.delimiter
    c.args.self.now.inside
    c.replace-inside.new.dest c.push_tree.new.self c.group_at-group.result.span ps c.in-Some.ensures.items
    (same_true the_type (search rules) _ _ (sym c.if-eq.ensures)) (sym c.group_at-group.ensures.span)
    c.replace-inside.ensures.after
    (c.in_ok-push_tree.ensures.ok
    ∙ ap (λ d. c.replace-inside.new.dest ++ (spanned (Opens d) c.group_at-group.result.span
    ∷ (c.group_at-group.result.stream ++ spanned (Closes d) c.group_at-group.result.span ∷ [])))
    c.group_at-group.ensures.delimiter
    ∙ ap (λ ts. c.replace-inside.new.dest ++ (spanned (Opens c.args.delimiter) c.group_at-group.result.span
    ∷ (ts ++ spanned (Closes c.args.delimiter) c.group_at-group.result.span ∷ [])))
    (c.group_at-group.ensures.stream ∙ c.replace-inside.ensures.value))
