-- The text of an identifier or a literal.
use Rattle.std.specs.Prelude.{ℕ, List}
use Rattle.rust_leaf.specs.Kept.{kept_bytes}
use Rattle.rust_leaf.specs.declared.leaf_text.LeafText.{LeafText}

-- the bytes of a leaf's text
abbrev pub leaf_bytes : LeafText → List ℕ
leaf_bytes t = kept_bytes t.kept
