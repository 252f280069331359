use Rattle.std.proofs.Common.{List, ap}
use Rattle.proc_macro2.specs.Token.{Token, plain}
use Rattle.syn_buffer.specs.Position.{rest}
use Rattle.syn_buffer.specs.declared.position.Cursor.{Cursor}
use Rattle.syn_input.specs.Input.{left}
use Rattle.syn_read.proofs.Singles.{other_found}
use Rattle.syn_read.proofs.single.ParseBufferParseSingleForm.single.Goals as goal

pub returns-in-None-clause-refused : goal.returns-in-None-clause-refused
returns-in-None-clause-refused g c = λ _ _.
    let f : Cursor → List Token = λ x. plain (rest x) in
    other_found g.T.ParseSingle.kind _ g.T.ParseSingle.is_meant (left c.args.self.now) _ c.in_ok-tree.tree
    c.in_ok-tree-2.tree.now (left c.parse_as.new.self) c.kind.ensures (ap f c.fork-ahead.ensures.cursor)
    c.in_ok-tree-2.ensures c.in_ok-tree.ensures.read c.in-None.ensures
