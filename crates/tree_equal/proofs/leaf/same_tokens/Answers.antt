use Rattle.std.proofs.Common.{arith, sym, true≢false, ◌∙◌}
use Rattle.syn_buffer.specs.Entries.{entry_token}
use Rattle.tree_equal.proofs.Pointwise.{one_seen}
use Rattle.tree_equal.proofs.Sorts.{not_one}
use Rattle.tree_equal.proofs.leaf.same_tokens.Goals as goal

pub returns-then-not-same_token : goal.returns-then-not-same_token
returns-then-not-same_token c = not_one
    (λ s. true≢false (sym (c.same_token.ensures.1 (one_seen entry_token c.args.a.now c.args.b.now c.loop-index.index
    c.index-a-index.result c.index-b-index.result c.loop-index-test.true (omega arith) c.index-a-index.is
    c.index-b-index.is s)) ∙ c.if-not-same_token.true))
