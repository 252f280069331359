-- Tokens that are put behind others.
use Rattle.std.proofs.Common.{◌≡◌, refl, List, [], ◌∷◌, ◌++◌, map, append_assoc}
use Rattle.std.proofs.lemmas.List.{map-append, append-nil}
use Rattle.std.specs.Prelude.{codes}
use Rattle.std.specs.Str.{chars}
use Rattle.std.proofs.lemmas.Str.{chars-IsAscii}
use Rattle.rust_leaf.proofs.Texts.{ascii_word}
use Rattle.syn_buffer.specs.Entries.{entry_token}
use Rattle.syn_buffer.specs.declared.entry.Entry.{Entry}

pub one : (es : List Entry) (e : Entry) → map entry_token (es ++ e ∷ []) ≡ map entry_token es ++ entry_token e ∷ []
one es e = map-append entry_token es (e ∷ [])

pub ruleset puts = (one, append_assoc, append-nil)

-- `_` is a word
pub underscore_word : chars (codes "_") ≡ codes "_"
underscore_word = chars-IsAscii (codes "_") (ascii_word (codes "_") refl)
