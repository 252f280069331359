-- Members of traits, impls and extern blocks that are read by themselves.
use Rattle.std.specs.Prelude.{◌≡◌}
use Rattle.reader_table.specs.Kinds.{place_of}
use Rattle.syn_grammar.specs.Kind as k
use Rattle.syn_grammar.specs.Tree as t
use Rattle.syn_grammar.specs.Tree.{Tree}
use Rattle.syn_item.specs.ItemEntries.{IsDefaultIn, placed_parts}
use Rattle.syn_item.specs.declared.entry.PlacedParts.{PlacedParts}

-- A tree is a member by itself, of the kind that reads such members in the place that its parts say, and these are its
-- parts; default stands in a trait or an impl alone.
abbrev pub IsOneMember : (k.Place → k.Kind) → PlacedParts → Tree → Type 0
IsOneMember kind x tree = (tree ≡ t.Node (kind (place_of x.place)) (placed_parts x)) × IsDefaultIn x.place x.defaultness
