-- Items of one kind that are read by themselves.
use Rattle.syn_grammar.specs.Kind.{Kind}
use Rattle.syn_grammar.specs.Name as n
use Rattle.syn_grammar.specs.Tree as t
use Rattle.syn_grammar.specs.Tree.{Tree}
use denote.Bor.{Bor}

-- an item of that kind, as it is kept when it is read by itself: its attributes, its visibility, and the item behind
-- them
abbrev pub one_item : Kind → Bor Tree → Bor Tree → Tree → Tree
one_item i a v y = t.Node i (t.First (t.Pair a.now (t.Pair (t.Called n.the_visibility v.now) (t.Called n.the_item y))))
