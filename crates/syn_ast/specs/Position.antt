-- How many segments paths have.
use Rattle.std.specs.Prelude.{ℕ, suc, Option, Some, None}
use Rattle.syn_part.specs.declared.sub.Marked.{Marked}
use Rattle.syn_part.specs.declared.sub.Worded.{Worded}
use Rattle.syn_grammar.specs.Kind as k
use Rattle.syn_grammar.specs.Tree as t
use Rattle.syn_grammar.specs.Tree.{Tree}

-- how many segments there are: a first one, and those that stand at its end behind a ::, each with the others in it
abbrev pub segment_count : Tree → ℕ
segment_count (t.Node (k.Segments s) x) = suc (segment_count x)
segment_count (t.Pair x y) = segment_count y
segment_count (t.First x) = segment_count x
segment_count (t.Second x) = segment_count x
segment_count _ = 0

-- how many stand behind a ::, if one stands there
abbrev pub further_count : Option Marked → ℕ
further_count None = 0
further_count (Some x) = segment_count x.node.now

-- how many segments a path has; what is no path, as a qualified one, has none
abbrev pub path_count : Tree → ℕ
path_count (t.Node (k.Path s) x) = segment_count x
path_count _ = 0

-- how many the trait's path has that stands behind as; where there is no as, there are none
abbrev pub trait_count : Option Worded → ℕ
trait_count None = 0
trait_count (Some x) = path_count x.node.now
