use Rattle.std.proofs.Common.{sym, ◌∙◌, subst, refl}
use Rattle.std.specs.Prelude.{IsTrue}
use Rattle.std.specs.Str.{chars}
use Rattle.std.proofs.lemmas.Str.{scalars-chars}
use Rattle.rust_leaf.specs.Mark.{is_mark}
use Rattle.rust_leaf.specs.Parse.{IsLiteralLeaf}
use Rattle.rust_leaf.proofs.WrittenLiterals.{string_literal}
use Rattle.rust_leaf.proofs.Texts.{ident_characters, literal_characters}
use Rattle.proc_macro2.specs.Flat.{trees_tokens}
use Rattle.proc_macro2.specs.Stream.{IsStream}
use Rattle.proc_macro2.proofs.StreamLemmas.{ident_stream, joined_stream, literal_stream, punct_stream}
use Rattle.proc_macro2.proofs.doc.inside.Goals as goal

equals : IsTrue (is_mark 61)
unfolding is_mark
equals = refl

pub of-requires : goal.of-requires
of-requires c =
    let word = ident_stream _ _ c.in_ok-ident.ident.is_printed (ident_characters c.in_ok-ident.ident) in
    let mark = punct_stream _ _ _ (subst (λ m. IsTrue (is_mark m)) (sym c.alone.ensures.char_is) equals) in
    let text = literal_stream _ _
    (subst IsLiteralLeaf (sym (c.set_span.ensures.text_stays ∙ c.in_ok-literal.ensures.text_is))
    (string_literal (chars c.args.text.now) (scalars-chars c.args.text.now c.utf8.text)))
    (literal_characters c.set_span.new.self) in
    subst (λ ts. IsStream (trees_tokens ts)) (sym c.in_ok-trees.ensures.items)
    (joined_stream _ _ word (joined_stream _ _ mark text))
