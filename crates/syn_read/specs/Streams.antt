-- Forms that are read from a stream.
use Rattle.std.specs.Prelude.{ℕ, List, codes}
use Rattle.proc_macro2.specs.Token.{Spanned}
use Rattle.syn_buffer.specs.Behind.{Passes}
use Rattle.syn_input.specs.declared.input.ParseBuffer.{ParseBuffer}

-- what is said where an invisible group stands in the buffer
abbrev pub invisible_words : List ℕ
invisible_words = codes "forms are not read among invisible groups"

-- the one stream stands behind some tokens of the other, where the last of them ends
abbrev pub IsPassed : ParseBuffer → ParseBuffer → Type 0
IsPassed old new = (tokens : List Spanned) × Passes old.cursor tokens new.cursor
