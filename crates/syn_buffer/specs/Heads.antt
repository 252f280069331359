-- The first of some entries is seen, if there is one.
use Rattle.std.specs.Prelude.{◌≡◌, true, List, [], ◌∷◌}
use Rattle.syn_buffer.specs.Seen.{is_seen}
use Rattle.syn_buffer.specs.Entries.{entry_token}
use Rattle.syn_buffer.specs.declared.entry.Entry.{Entry}

abbrev pub SeenFirst : List Entry → Type 0
SeenFirst [] = Unit {0}
SeenFirst (e ∷ es) = is_seen (entry_token e) ≡ true
