use Rattle.std.proofs.Common.{ap, refl}
use Rattle.syn_grammar.specs.Tree as t
use Rattle.reader_tree.specs.Forms.{seconds}
use Rattle.writer_normal.proofs.Stepping.{made_so}
use Rattle.writer_normal.proofs.forget.as_path.Goals as goal

pub returns : goal.returns
returns c =
    let root = made_so c.second-root.result _ _ c.second-root.ensures (ap t.Second c.nil.ensures) in
    let bare = made_so c.seconds-bare.result _ _ c.seconds-bare.ensures (ap (seconds 3) c.nil-2.ensures) in
    c.node.ensures _ (c.pair-path.ensures _ _ root
    (c.node-segments.ensures _ (c.seconds-segment.ensures _ (c.pair.ensures _ _ refl bare))))
