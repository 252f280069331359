use Rattle.std.proofs.Common.{◌≡◌, ◌∙◌, ◌-◌, ◌++◌, List, ap, subst, sym, length, drop}
use Rattle.proc_macro2.specs.Token.{Token, plain}
use Rattle.reader_steps.specs.Answers.{IsSyntax, tokens}
use Rattle.reader_table.specs.Kinds.{kind_of}
use Rattle.syn_buffer.specs.Entries.{is_whole}
use Rattle.syn_buffer.specs.Position.{rest}
use Rattle.syn_buffer.specs.declared.entry.Entry.{Entry}
use Rattle.syn_buffer.specs.declared.position.Cursor.{Cursor}
use Rattle.syn_grammar.specs.Derives.{Derives}
use Rattle.syn_grammar.specs.Gram.{ref}
use Rattle.syn_grammar.specs.Read.{NoneRead}
use Rattle.syn_grammar.specs.Tree.{flat}
use Rattle.reader_rust.proofs.Behind.{left}
use Rattle.syn_read.proofs.Behind.{left_behind, left_entries}
use Rattle.syn_read.proofs.stream.ParseBufferParseForms.parse_as.Goals as goal

pub behind-behind-requires-clause-whole : goal.behind-behind-requires-clause-whole
behind-behind-requires-clause-whole c =
    let es : List Entry = c.in-Some.entries.now in
    let n = length es - length c.in-Ok.rest.now in
    ap (λ (xs : List Entry). is_whole (drop n xs)) (sym c.in-Some.ensures.some)
    ∙ (left (flat c.in-Ok.tree) es c.in-Ok.rest.now c.in-Ok.ensures.found.1 c.in-Some.ensures.whole
    c.in-Ok.ensures.whole).whole

pub returns-in-Ok-clause-read : goal.returns-in-Ok-clause-read
returns-in-Ok-clause-read c =
    let es : List Entry = c.in-Some.entries.now in
    let form = left (flat c.in-Ok.tree) es c.in-Ok.rest.now c.in-Ok.ensures.found.1 c.in-Some.ensures.whole
    c.in-Ok.ensures.whole in
    let f : Cursor → List Token = λ x. plain (rest x) in
    let behind : f c.advance_to.new.self.cursor ≡ tokens c.in-Ok.rest.now =
    ap f (c.advance_to.ensures.cursor ∙ c.new.ensures.cursor)
    ∙ left_behind c.cursor-from.result c.behind-behind.result es c.in-Ok.rest.now c.in-Some.ensures.tokens
    c.behind-behind.ensures.passed form in
    let before : tokens es ≡ f c.args.self.now.cursor =
    sym (left_entries c.cursor-from.result es c.in-Some.ensures.tokens) ∙ ap f c.cursor-from.ensures in (
      subst (λ (ts : List Token). Derives c.in-Ok.tree (ref (kind_of c.args.kind)) ts) (sym behind)
          c.in-Ok.ensures.found.0,
      ap (λ (ts : List Token). flat c.in-Ok.tree ++ ts) behind ∙ c.in-Ok.ensures.found.1 ∙ before,
    )

pub returns-in-Err-Syntax-clause-refused : goal.returns-in-Err-Syntax-clause-refused
returns-in-Err-Syntax-clause-refused c = λ _ _.
    let es : List Entry = c.in-Some.entries.now in
    let f : Cursor → List Token = λ x. plain (rest x) in
    subst (λ (ts : List Token). NoneRead (kind_of c.args.kind) ts)
    (sym (left_entries c.cursor-from.result es c.in-Some.ensures.tokens) ∙ ap f c.cursor-from.ensures)
    (c.in-Err-Syntax.ensures.none (subst (λ e. IsSyntax e) (sym c.in-Err-Syntax.field-0-is) tt))
