use Rattle.std.proofs.Common.{◌<◌, ◌∙◌, arith, sym}
use Rattle.rust_lex.proofs.NarrowPieces.{closes_found, made, mark_found, opens_found}
use Rattle.rust_lex.proofs.scan.narrow_piece.Goals as goal

pub returns-in-Opens-clause-piece : goal.returns-in-Opens-clause-piece
returns-in-Opens-clause-piece c =
    let small : c.in-Some.c < 128 = omega arith in
    made _ _ _ c.of.result _ _ c.of.ensures.kind c.of.ensures.end c.of.ensures.joint
    (opens_found c.args.text.now c.args.at c.in-Some.next c.in-Some.c c.in-Opens.marks c.requires c.in-Some.ensures.0
    c.in-Some.ensures.1 small (sym c.front_of.ensures ∙ c.in-Opens.is))

pub returns-in-Closes-clause-piece : goal.returns-in-Closes-clause-piece
returns-in-Closes-clause-piece c =
    let small : c.in-Some.c < 128 = omega arith in
    made _ _ _ c.of-in-Closes.result _ _ c.of-in-Closes.ensures.kind c.of-in-Closes.ensures.end
    c.of-in-Closes.ensures.joint
    (closes_found c.args.text.now c.args.at c.in-Some.next c.in-Some.c c.in-Closes.marks c.requires
    c.in-Some.ensures.0 c.in-Some.ensures.1 small (sym c.front_of.ensures ∙ c.in-Closes.is))

pub returns-in-Mark-clause-piece : goal.returns-in-Mark-clause-piece
returns-in-Mark-clause-piece c =
    let small : c.in-Some.c < 128 = omega arith in
    mark_found c.args.text.now c.args.at c.in-Some.next c.in-Some.c c.is_joined.result c.requires c.in-Some.ensures.0
    c.in-Some.ensures.1 small (sym c.front_of.ensures ∙ c.in-Mark.is) c.if-c-ne47.true c.is_joined.ensures
