use Rattle.std.proofs.Common.{◌≡◌, drop, map}
use Rattle.syn_buffer.specs.Entries.{entry_token}
use Rattle.tree_equal.proofs.leaf.same_tokens.Given as goal

-- as far as they are the same, what is left decides
abbrev pub invariant-loop-index : goal.invariant-loop-index
invariant-loop-index l = map entry_token (drop l.index l.a) ≡ map entry_token (drop l.index l.b)
    → map entry_token l.a ≡ map entry_token l.b
