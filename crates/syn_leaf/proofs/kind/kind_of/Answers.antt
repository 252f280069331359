use Rattle.rust_leaf.proofs.Parsing.{kind_is, no_kind, no_piece}
use Rattle.syn_leaf.specs.Kinds.{IsKind}
use Rattle.syn_leaf.proofs.kind.kind_of.Goals as goal

pub returns-in_err-piece : goal.returns-in_err-piece
unfolding IsKind
returns-in_err-piece c = no_piece _ _ c.in_err-piece.ensures c.from_residual.ensures

pub returns-then-end-text : goal.returns-then-end-text
unfolding IsKind
returns-then-end-text c = kind_is _ _ _ _ c.utf8.text c.in_ok-piece.ensures.0 c.in_ok-piece.ensures.1 c.if-end-text.true
    c.literal_of.ensures

pub returns-else-end-text : goal.returns-else-end-text
unfolding IsKind
returns-else-end-text c = no_kind _ _ _ c.utf8.text c.in_ok-piece.ensures.0 c.in_ok-piece.ensures.1 c.if-end-text.false
