use Rattle.std.proofs.Common.{List, IsTrue, subst, sym}
use Rattle.syn_buffer.specs.Entries.{spanned_entries}
use Rattle.syn_buffer.specs.Seen.{all_seen}
use Rattle.syn_buffer.specs.declared.entry.Entry.{Entry}
use Rattle.syn_buffer.proofs.AllSeen.{seen_drop}
use Rattle.syn_buffer.proofs.Laid.{borrowed}
use Rattle.syn_buffer.proofs.position.Cursor.token_tree.Goals as goal

pub past-requires-clause-visible : goal.past-requires-clause-visible
past-requires-clause-visible c = λ v.
    let P : List Entry → Type 0 = λ es. IsTrue (all_seen (spanned_entries es)) in
    subst P (sym (borrowed c.args.self.entries.now c.in-Some.count))
    (seen_drop c.in-Some.count c.args.self.entries.now (c.args.self.is_visible v))
