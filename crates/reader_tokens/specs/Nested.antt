-- Entries in which each group that opens closes where it says, whatever was opened before them.
use Rattle.std.specs.Prelude.{Bool, true, ◌&&◌, List, [], ◌∷◌, take, drop}
use Rattle.syn_buffer.specs.Entries.{closes_with, is_whole}
use Rattle.syn_buffer.specs.declared.entry.Entry.{Entry}
use Rattle.syn_buffer.specs.declared.entry.Entry.TheVariants as entry

-- Behind a mark that opens a group whole trees stand, as many entries as it says, and then the mark that closes it.
abbrev pub is_nested : List Entry → Bool
is_nested [] = true
is_nested (entry.Open d s n ∷ es) = (is_whole (take n es) && closes_with d s (drop n es)) && is_nested es
is_nested (entry.Close d s ∷ es) = is_nested es
is_nested (entry.Ident i ∷ es) = is_nested es
is_nested (entry.Punct p ∷ es) = is_nested es
is_nested (entry.Literal l ∷ es) = is_nested es
