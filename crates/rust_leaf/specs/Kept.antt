-- How a text is kept.
use Rattle.std.specs.Prelude.{ℕ, List}
use Rattle.std.specs.Rc.{rc_str_bytes}
use Rattle.rust_leaf.specs.declared.leaf_text.Kept.{Kept}
use Rattle.rust_leaf.specs.declared.leaf_text.Kept.TheVariants.{Short, Shared}

-- the bytes of a text, however it is kept
abbrev pub kept_bytes : Kept → List ℕ
kept_bytes (Short t) = t.bytes
kept_bytes (Shared s) = rc_str_bytes s
