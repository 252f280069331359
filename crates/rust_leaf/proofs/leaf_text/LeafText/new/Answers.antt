use Rattle.std.proofs.Common.{ap, ◌∙◌}
use Rattle.std.specs.Str.{is_utf8}
use Rattle.std.proofs.lemmas.Str.{is_utf8-from_IsUtf8}
use Rattle.rust_leaf.proofs.leaf_text.LeafText.new.Goals as goal

pub invariant_of-result : goal.invariant_of-result
invariant_of-result c =
    record { is_text = ap is_utf8 c.in_ok-from_str.ensures.ok ∙ is_utf8-from_IsUtf8 c.args.text.now c.utf8.text }
