use Rattle.std.proofs.Common.{◌≡◌, sym}
use Rattle.std.proofs.lemmas.Result.{IfOk-weaker}
use Rattle.syn_grammar.specs.Kind.{Kind, Position}
use Rattle.syn_grammar.specs.Parens.{is_ended, stays_left}
use Rattle.syn_grammar.specs.Tree.{Tree, flat}
use Rattle.reader_table.specs.Kinds.{kind_of, position_of}
use Rattle.writer_normal.proofs.Edges.{stays_chained, stays_ended, stays_not}
use Rattle.writer_normal.proofs.stays.stays_left.Goals as goal

pub returns-then-not-stands_left : goal.returns-then-not-stands_left
returns-then-not-stands_left c =
    stays_not (position_of c.args.position) (kind_of c.args.kind) c.args.own.now c.args.operand.now
    (sym c.if-is_struct.ensures) (sym c.if-not-stands_left.ensures)

pub returns-then-chains : goal.returns-then-chains
returns-then-chains c =
    stays_chained (position_of c.args.position) (kind_of c.args.kind) c.args.own.now c.args.operand.now
    (sym c.if-is_struct.ensures) (sym c.if-not-stands_left.ensures) (sym c.if-chains.ensures)

pub returns : goal.returns
returns c =
    let q : Position = position_of c.args.position in
    let k : Kind = kind_of c.args.kind in
    let y : Tree = c.args.own.now in
    let l : Tree = c.args.operand.now in
    IfOk-weaker c.is_ended.result (λ b. b ≡ is_ended k (flat y) l) (λ b. b ≡ stays_left q k y l)
    (λ b e. stays_ended q k y l b (sym c.if-is_struct.ensures) (sym c.if-not-stands_left.ensures)
    (sym c.if-chains.ensures) e)
    c.is_ended.ensures
