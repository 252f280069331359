use Rattle.std.proofs.Common.{◌≡◌, ◌∙◌, List, ap, refl, sym}
use Rattle.std.specs.Prelude.{true}
use Rattle.reader_table.specs.Looks.{look_of}
use Rattle.proc_macro2.specs.Token.{Token, plain}
use Rattle.syn_buffer.specs.Position.{rest}
use Rattle.syn_buffer.specs.declared.position.Cursor.{Cursor}
use Rattle.syn_grammar.specs.Look.{sees}
use Rattle.syn_read.proofs.Behind.{left_entries}
use Rattle.syn_read.proofs.stream.sees_there.Goals as goal

pub returns-in-Some : goal.returns-in-Some
returns-in-Some c =
    let f : Cursor → List Token = λ x. plain (rest x) in
    let same = sym (left_entries c.cursor.result c.in-Some.entries.now c.in-Some.ensures.tokens)
    ∙ ap f c.cursor.ensures in
    let visible : c.args.input.now.cursor.all_visible ≡ true =
    sym (ap (λ (x : Cursor). x.all_visible) c.cursor.ensures) ∙ c.in-Some.ensures.there.0 refl in
    (visible, c.passes.ensures ∙ ap (sees (look_of c.args.look)) same)
