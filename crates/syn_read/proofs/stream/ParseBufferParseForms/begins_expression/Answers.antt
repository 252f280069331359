use Rattle.std.proofs.Common.{◌≡◌, ◌∙◌, List, ap, refl, sym}
use Rattle.std.specs.Prelude.{true, ◌&&◌}
use Rattle.proc_macro2.specs.Token.{Token, plain}
use Rattle.syn_buffer.specs.Position.{rest}
use Rattle.syn_buffer.specs.declared.position.Cursor.{Cursor}
use Rattle.syn_grammar.specs.Forms.{operand_stands}
use Rattle.syn_grammar.specs.Look.{sees}
use Rattle.syn_read.proofs.Behind.{left_entries}
use Rattle.syn_read.proofs.stream.ParseBufferParseForms.begins_expression.Goals as goal

pub returns-in-Some : goal.returns-in-Some
returns-in-Some c =
    let f : Cursor → List Token = λ x. plain (rest x) in
    let same = sym (left_entries c.cursor.result c.in-Some.entries.now c.in-Some.ensures.tokens)
    ∙ ap f c.cursor.ensures in
    let seen : c.args.self.now.cursor.all_visible ≡ true =
    sym (ap (λ (x : Cursor). x.all_visible) c.cursor.ensures) ∙ c.in-Some.ensures.there.0 refl in
    c.operand_stands.ensures ∙ ap (sees operand_stands) same
    ∙ ap (λ b. b && sees operand_stands (f c.args.self.now.cursor)) (sym seen)
