use Rattle.std.proofs.Common.{◌≡◌, ◌-◌, ℕ, List, arith, length, take, drop, subst}
use Rattle.syn_buffer.specs.declared.entry.Entry.{Entry}
use Rattle.syn_buffer.proofs.Laid.{borrowed}
use Rattle.node_seen.specs.Trees.{IsTree}
use Rattle.node_seen.proofs.Steps.{Step, step}
use Rattle.node_seen.proofs.behind_seen.Goals as goal

-- what one turn does
turn : (c : goal.After-tree_length-passed)
    → Step c.args.from c.behind_tree-at.result c.args.entries.now c.args.count c.loop-passed.passed
    c.tree_length-passed.result
turn c =
    let es : List Entry = c.args.entries.now in
    let p : ℕ = c.loop-passed.passed in
    let n : ℕ = c.tree_length-passed.result in
    let same : take (length es - p) (drop p es) ≡ drop p es = borrowed es p in
    step c.args.from c.loop-passed.at c.behind_tree-at.result es c.args.count p n c.requires.seen c.requires.within
    c.requires.ends c.loop-passed-test.true c.loop-passed.invariant.1 c.loop-passed.invariant.2
    c.loop-passed.invariant.3 (subst (λ xs. IsTree xs n) same c.tree_length-passed.ensures)
    (c.behind_tree-at.ensures n c.tree_length-passed.ensures)

pub overflow_add-passed : goal.overflow_add-passed
overflow_add-passed c =
    let s = turn c in
    omega (arith, s.within, c.ranges.count.fits)

pub loop-passed-smaller : goal.loop-passed-smaller
loop-passed-smaller c =
    let s = turn c in
    omega (arith, s.some, s.within)

pub loop-passed-preserved : goal.loop-passed-preserved
loop-passed-preserved c =
    let s = turn c in
    (s.within, s.left, s.whole, s.passes)
