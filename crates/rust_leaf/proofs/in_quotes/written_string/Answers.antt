use Rattle.std.proofs.Common.{sym, subst}
use Rattle.std.proofs.lemmas.Str.{scalars-chars}
use Rattle.rust_leaf.specs.Parse.{IsLiteralText}
use Rattle.rust_leaf.proofs.InQuotes.{string_whole}
use Rattle.rust_leaf.proofs.in_quotes.written_string.Goals as goal

pub returns-clause-is_literal : goal.returns-clause-is_literal
returns-clause-is_literal c =
    subst IsLiteralText (sym c.in_ok-push_bare.ensures)
    (string_whole _ _ _ (scalars-chars c.args.text.now c.utf8.text) c.in_ok-out.ensures c.in_ok-push_text.ensures)
