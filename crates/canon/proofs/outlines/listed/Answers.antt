use Rattle.std.proofs.Common.{◌++◌, ◌∙◌, ap, sym, subst, List}
use Rattle.proc_macro2.specs.Token.{plain}
use Rattle.syn_buffer.specs.Entries.{spanned_entries}
use Rattle.syn_grammar.specs.Names.{names}
use Rattle.reader_rust.specs.declared.names.Name as read
use Rattle.canon.specs.Outline.{AreThere, names_of}
use Rattle.canon.proofs.Outlined.{names_there}
use Rattle.canon.proofs.outlines.listed.Goals as goal

pub rows_of-requires-clause-there : goal.rows_of-requires-clause-there
rows_of-requires-clause-there c =
    let tokens = plain (spanned_entries c.entries.result.now) in
    let again = ap (λ es. plain (spanned_entries es)) (c.entries.ensures.tokens ∙ sym c.entries-2.ensures.tokens) in
    let same = ap names_of c.as_slice.ensures.value ∙ c.in_ok-names.ensures
    ∙ ap (λ (ns : List read.Name). names_of ns ++ names c.in_ok-file.file) c.new-found.ensures.items in
    subst (λ ts. AreThere ts (names_of c.as_slice.result.now)) again
    (subst (AreThere tokens) (sym same) (names_there tokens c.in_ok-file.file c.in_ok-file.ensures.file))
