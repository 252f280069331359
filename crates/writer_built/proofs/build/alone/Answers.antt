use Rattle.std.proofs.lemmas.Result.{IfOk-weaker}
use Rattle.std.proofs.Common.{◌≡◌}
use Rattle.std.specs.Prelude.{not}
use Rattle.laws_binding.specs.Written.{paren_unless}
use Rattle.reader_table.specs.Kinds.{kind_of, position_of}
use Rattle.syn_grammar.specs.Tree.{Alone}
use Rattle.writer_built.specs.Asked.{IsWritten}
use Rattle.writer_built.specs.Kept.{kept_of, own_tokens}
use Rattle.writer_built.proofs.Builds.{alone_built}
use Rattle.writer_built.proofs.build.alone.Goals as goal

-- the form by its operands, in its place
pub returns-clause-same : goal.returns-clause-same
returns-clause-same c block called =
    IfOk-weaker c.in_parens_unless.result
    (λ o. kept_of o ≡ paren_unless (not c.takes_what_follows-stays.result) (kept_of c.alone-operand.result))
    (λ o. IsWritten (position_of c.args.place.0) c.args.place.1 (Alone (kind_of c.args.kind) c.args.own.now) o)
    (λ o e ts head formed. alone_built (position_of c.args.place.0) (kind_of c.args.kind) ts c.args.own.now
    (kept_of o) (kept_of c.alone-operand.result) (own_tokens c.in_ok-written.written) c.args.ends.0 c.args.ends.1
    c.takes_what_follows-stays.result (c.in_ok-written.ensures.same formed) c.alone-operand.ensures.same block called
    (c.takes_what_follows-stays.ensures ts head) e formed)
    c.in_parens_unless.ensures.same
