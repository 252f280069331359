-- By the words that begin as it does and are as long.
use Rattle.rust_leaf.specs.Leaf.{ident_text}
use Rattle.reader_tokens.proofs.Such.{such}
use Rattle.reader_tokens.proofs.reserved.is_reserved.Goals as goal

pub returns-in-Some : goal.returns-in-Some
returns-in-Some c =
    such c.first_byte.result c.len.result c.in-Some.one.now c.in-Some.other.now (ident_text c.args.ident.now)
    c.is_one.result c.in-Some.ensures.some c.in-Some.ensures.are c.first_byte.ensures c.len.ensures c.is_one.ensures
