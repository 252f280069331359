use Rattle.rust_leaf.proofs.InQuotes.{are_bytes, c_string_whole}
use Rattle.rust_leaf.proofs.literal.Literal.c_string.Goals as goal

pub closed-requires : goal.closed-requires
closed-requires c = c_string_whole _ _ c.args.bytes.now (are_bytes _ (λ i. (c.type_inv.bytes i).fits)) c.requires
    c.in_ok-out.ensures c.in_ok-push_c_bytes.ensures
