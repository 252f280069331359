use Rattle.reader_table.specs.Ops.{separator_of}
use Rattle.std.specs.Prelude.{map}
use Rattle.std.proofs.Common.{ap}
use Rattle.syn_data.specs.Members.{member_name}
use Rattle.syn_data.proofs.Listed.{names_whole}
use Rattle.syn_data.proofs.members.named.Goals as goal

pub returns : goal.returns
returns c = λ e d h.
    let l = c.args.list.now in
    names_whole (separator_of l.separator) l.before.now l.last (map member_name c.new-found.result.items)
    (map member_name c.push_names.new.found.items) (map member_name c.push_last.new.found.items) e d
    (ap (map member_name) c.new-found.ensures.items) c.in_ok-push_names.ensures c.in_ok-push_last.ensures h
