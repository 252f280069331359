use Rattle.std.proofs.Common.{refl}
use Rattle.rust_lex.proofs.Fronts.{wide_is}
use Rattle.rust_lex.proofs.front.wide_front.Goals as goal

pub returns-then-is_xid_start : goal.returns-then-is_xid_start
returns-then-is_xid_start c = rw (wide_is c.args.c c.requires, ← c.if-is_xid_start.ensures.value) refl

pub returns-then-is_white : goal.returns-then-is_white
returns-then-is_white c =
    rw (wide_is c.args.c c.requires, ← c.if-is_xid_start.ensures.value, ← c.if-is_white.ensures) refl

pub returns-else-is_white : goal.returns-else-is_white
returns-else-is_white c =
    rw (wide_is c.args.c c.requires, ← c.if-is_xid_start.ensures.value, ← c.if-is_white.ensures) refl
