-- What is pending yet makes the same of what was made.
use Rattle.std.proofs.Common.{◌≡◌, ◌≤◌, drop, length, take, true}
use Rattle.std.specs.Prelude.{IfOk}
use Rattle.syn_buffer.specs.Entries.{is_whole}
use Rattle.syn_grammar.specs.Run.{Out}
use Rattle.reader_steps.specs.Pending.{Makes}
use Rattle.reader_steps.proofs.Pendings.{got}
use Rattle.reader_steps.proofs.finish.finished.Given as goal

abbrev pub invariant-pending : goal.invariant-pending
invariant-pending g l = record {
  enough : l.base ≤ length l.work.pending.items;
  kept : take l.base l.work.pending.items ≡ take l.base l.fn.work.pending.items;
  made : (o : Out) → Makes got (drop l.base l.fn.work.pending.items) l.fn.inner o
      → Makes got (drop l.base l.work.pending.items) l.read o;
  whole : IfOk l.read (λ x. is_whole x.1.now ≡ true);
}

abbrev pub decreases-pending : goal.decreases-pending
decreases-pending g l = length l.work.pending.items
