-- The tokens of entries, all of them.
use Rattle.std.specs.Prelude.{List, map, Option, Some, None}
use Rattle.proc_macro2.specs.Token.{Token}
use Rattle.syn_buffer.specs.Entries.{entry_token}
use Rattle.syn_buffer.specs.declared.entry.Entry.{Entry}

abbrev pub tokens : List Entry → List Token
tokens es = map entry_token es

-- the tokens that are left, if any call left some
abbrev pub after : {A : Type 0} → (A → List Entry) → Option A → Option (List Token)
after f None = None
after f (Some a) = Some (tokens (f a))
