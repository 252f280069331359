use Rattle.std.proofs.Common.{◌≡◌, ◌∙◌, ◌-◌, ℕ, List, ap, subst, sym, length, drop}
use Rattle.proc_macro2.specs.Token.{Token, plain}
use Rattle.reader_steps.specs.Answers.{IsSyntax, tokens}
use Rattle.syn_buffer.specs.Entries.{spanned_entries}
use Rattle.syn_buffer.specs.Position.{rest}
use Rattle.syn_buffer.specs.declared.entry.Entry.{Entry}
use Rattle.syn_buffer.specs.declared.position.Cursor.{Cursor}
use Rattle.syn_grammar.specs.Read.{IsRead, NoneRead}
use Rattle.node_read.proofs.Left.{behind_tokens, seen_tokens}
use Rattle.node_read.proofs.made.Goals as goal

pub returns-in-Ok-clause-found : goal.returns-in-Ok-clause-found
returns-in-Ok-clause-found g c =
    let es : List Entry = c.args.entries.now in
    let n : ℕ = length es - c.in-Ok.left in
    let from : Cursor = c.cursor.result in
    let f : Cursor → List Token = λ x. plain (rest x) in
    let seen : spanned_entries es ≡ rest from = c.requires.seen ∙ ap rest (sym c.cursor.ensures) in
    let behind : f c.advance_to.new.self.cursor ≡ tokens (drop n es) =
    ap f (c.advance_to.ensures.cursor ∙ c.new.ensures.cursor)
    ∙ behind_tokens from c.behind_seen-behind.result es n seen c.behind_seen-behind.ensures in
    subst (λ ts. IsRead g.M.Makes.kind (f c.args.input.now.cursor) (g.M.Makes.view c.in-Ok.value) ts) (sym behind)
    (subst (λ ts. IsRead g.M.Makes.kind ts (g.M.Makes.view c.in-Ok.value) (tokens (drop n es)))
    (sym (seen_tokens c.args.input.now.cursor es c.requires.seen)) c.in-Ok.ensures.found)

pub returns-in-Err-Syntax-clause-none : goal.returns-in-Err-Syntax-clause-none
returns-in-Err-Syntax-clause-none g c = λ _.
    subst (λ (ts : List Token). NoneRead g.M.Makes.kind ts)
    (sym (seen_tokens c.args.input.now.cursor c.args.entries.now c.requires.seen))
    (c.in-Err-Syntax.ensures.none (subst (λ e. IsSyntax e) (sym c.in-Err-Syntax.field-0-is) tt))
