-- Frames: trees without what they go on with, and what stands within them.
use Rattle.std.specs.Prelude.{◌≡◌, ◌++◌, List, [], ◌∷◌}
use Rattle.reader_table.specs.Kinds.{kind_of}
use Rattle.reader_table.specs.Parts.{part_of}
use Rattle.reader_tree.specs.Forms.{seconds}
use Rattle.syn_grammar.specs.Kept.{kept}
use Rattle.syn_grammar.specs.Tree as t
use Rattle.syn_grammar.specs.Tree.{Tree}
use Rattle.writer_normal.specs.declared.frame.Begun.{Begun}
use Rattle.writer_normal.specs.declared.frame.Begun.TheVariants as begun
use Rattle.writer_normal.specs.declared.frame.Frame.{Frame}
use Rattle.writer_normal.specs.declared.frame.Frame.TheVariants as frame

-- The tree of which that frame is what is left, with that in its place.
abbrev pub framed : Frame → Tree → Tree
framed (frame.Pair f) x = t.Pair f.now x
framed (frame.First n) x = seconds n (t.First x)
framed (frame.Second n) x = t.Second (seconds n x)
framed (frame.Group d span) x = t.Group d x
framed (frame.Called p) x = t.Called (part_of p) x
framed (frame.Node k) x = t.Node (kind_of k) x
framed frame.Whole x = t.Whole x
framed (frame.Alone k) x = t.Alone (kind_of k) x
framed (frame.Front k y) x = t.Front (kind_of k) y.now x
framed (frame.Back k y) x = t.Back x (kind_of k) y.now
framed (frame.Infix k y r) x = t.Infix x (kind_of k) y.now r.now

-- Each of them round the one behind it, and the last one round that.
abbrev pub all_framed : List Frame → Tree → Tree
all_framed [] x = x
all_framed (f ∷ fs) x = framed f (all_framed fs x)

-- What has been begun of a tree: what is held of it; or it is that frame round that tree.
abbrev pub IsBegun : Tree → Begun → Type 0
IsBegun whole (begun.Held made) = made ≡ kept whole
IsBegun whole (begun.Within f x) = framed f x.now ≡ whole

-- Behind those frames others have been put, and the whole is these round that tree.
abbrev pub IsWithin : List Frame → List Frame → Tree → Tree → Type 0
IsWithin before now x whole = (fs : List Frame) × (now ≡ before ++ fs) × (all_framed fs x ≡ whole)

-- What is held of such a tree has been made.
abbrev pub IsHeldWithin : List Frame → List Frame → Tree → Tree → Type 0
IsHeldWithin before now made whole = (x : Tree) × (made ≡ kept x) × IsWithin before now x whole
