use Rattle.std.proofs.Common.{◌≡◌, ◌++◌, ap, ◌∙◌}
use Rattle.std.specs.Str.{is_utf8}
use Rattle.std.proofs.lemmas.Str.{is_utf8-from_IsUtf8}
use Rattle.rust_leaf.proofs.leaf_text.LeafText.short.Goals as goal

pub invariant_of-result : goal.invariant_of-result
invariant_of-result c =
    let same : c.push_str.new.self.bytes ≡ c.args.text.now =
    c.push_str.ensures.bytes ∙ ap (λ bytes. bytes ++ c.args.text.now) c.new-short.ensures in
    record { is_text = ap is_utf8 same ∙ is_utf8-from_IsUtf8 c.args.text.now c.utf8.text }
