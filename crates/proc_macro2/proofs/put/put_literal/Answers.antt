use Rattle.std.proofs.Common.{sym, subst}
use Rattle.rust_leaf.specs.Parse.{IsLiteralLeaf}
use Rattle.rust_leaf.proofs.Texts.{literal_characters}
use Rattle.proc_macro2.proofs.StreamLemmas.{literal_stream}
use Rattle.proc_macro2.proofs.put.put_literal.Goals as goal

pub put-requires : goal.put-requires
put-requires c = literal_stream _ _ (subst IsLiteralLeaf (sym c.in_ok-literal.ensures.text_is) c.requires)
    (literal_characters c.in_ok-literal.literal)
