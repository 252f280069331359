use Rattle.std.proofs.Common.{ap, ◌++◌, ◌∙◌}
use Rattle.std.specs.Prelude.{ℕ, List}
use Rattle.std.specs.Str.{chars}
use Rattle.std.proofs.lemmas.Str.{chars-nil}
use Rattle.rust_leaf.specs.Leaf.{ident_text}
use Rattle.canon.proofs.outlines.text.Goals as goal

pub returns : goal.returns
returns c = c.in_ok-push_to.ensures.appended
    ∙ ap (λ (cs : List ℕ). cs ++ ident_text c.args.ident.now) (ap chars c.new-text.ensures.bytes ∙ chars-nil)
