use Rattle.std.specs.Prelude.{map}
use Rattle.std.proofs.Common.{arith}
use Rattle.syn_data.specs.Members.{member_name}
use Rattle.syn_data.proofs.Listed.{names_more}
use Rattle.syn_data.proofs.members.push_names.Goals as goal

pub loop-field-preserved : goal.loop-field-preserved
loop-field-preserved c = λ all.
    names_more c.args.fields.now c.loop-field.field-index c.field-item.result (map member_name c.args.found.now.items)
    (map member_name c.loop-field.found.items) (map member_name c.push_name.new.found.items) (omega arith)
    c.field-item.is c.loop-field.invariant c.in_ok-push_name.ensures all
