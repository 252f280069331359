-- Entries that are put behind others: these tokens, and they are whole trees.
use Rattle.std.specs.Prelude.{◌≡◌, true, List, ◌++◌}
use Rattle.proc_macro2.specs.Token.{Spanned}
use Rattle.syn_buffer.specs.Entries.{is_whole, spanned_entries}
use Rattle.syn_buffer.specs.declared.entry.Entry.{Entry}

pub record Puts (before after : List Entry) (tokens : List Spanned) : Type 0 where
  pub added : List Entry
  pub behind : after ≡ before ++ added
  pub tokens_are : spanned_entries added ≡ tokens
  pub lies : is_whole added ≡ true
