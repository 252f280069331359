use Rattle.std.proofs.Common.{ap, ◌∙◌}
use Rattle.std.specs.Prelude.{take}
use Rattle.rust_leaf.proofs.Texts.{first_alone, ident_filled, printed_leaf}
use Rattle.rust_leaf.proofs.ident.Ident.first_byte.Goals as goal

pub bounds-as_bytes-0 : goal.bounds-as_bytes-0
bounds-as_bytes-0 c = ident_filled c.args.self.now _ (c.as_bytes.ensures.value ∙ c.as_str.ensures)

pub returns : goal.returns
returns c =
    let same = c.as_bytes.ensures.value ∙ c.as_str.ensures in
    ap (take 1) (printed_leaf c.args.self.now.text) ∙ first_alone _ _ same (ident_filled c.args.self.now _ same)
