use Rattle.rust_leaf.proofs.Texts.{bytes_eq-same, leaf_utf8}
use Rattle.rust_leaf.specs.Leaf.{ident_bytes}
use Rattle.rust_leaf.proofs.laws.equality_is_by_text.Goals as goal

pub returns : goal.returns
returns c =
    bytes_eq-same (ident_bytes c.args.a.now) (ident_bytes c.args.b.now) (leaf_utf8 c.args.a.now.text)
    (leaf_utf8 c.args.b.now.text)
