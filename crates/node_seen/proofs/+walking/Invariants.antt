use Rattle.std.proofs.Common.{◌≡◌, ◌++◌, ◌+◌, ◌*◌, List, length}
use Rattle.proc_macro2.specs.Token.{Spanned}
use Rattle.syn_buffer.specs.Position.{rest}
use Rattle.syn_buffer.specs.Puts.{Puts}
use Rattle.node_seen.proofs.+walking.Given as goal

-- a group's inside is less than what stood with it
abbrev pub decreases-put_seen : goal.decreases-put_seen
decreases-put_seen l = 2 * length (rest l.from) + 1

abbrev pub decreases-put_group : goal.decreases-put_group
decreases-put_group l = 2 * length (rest l.inside) + 2

-- what stands before the place has been put
abbrev pub invariant-put_seen-loop-ident : goal.invariant-put_seen-loop-ident
invariant-put_seen-loop-ident l = (passed : List Spanned)
    × Puts l.initial.entries.items l.entries.items passed × (rest l.initial.from ≡ passed ++ rest l.at)

abbrev pub decreases-put_seen-loop-ident : goal.decreases-put_seen-loop-ident
decreases-put_seen-loop-ident l = length (rest l.at)
