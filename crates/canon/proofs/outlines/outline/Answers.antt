use Rattle.std.proofs.Common.{subst}
use Rattle.std.specs.Option.{option_map}
use Rattle.std.specs.Str.{chars}
use Rattle.proc_macro2.specs.Token.{plain}
use Rattle.canon.proofs.Formed.{syntax_is}
use Rattle.canon.proofs.Outlined.{outline_here}
use Rattle.canon.proofs.RowsStand.{rows_stand}
use Rattle.syn_error.specs.Notes.{place_of}
use Rattle.canon.specs.Unread.{IsUnread}
use Rattle.canon.proofs.outlines.outline.Goals as goal

pub returns-in-Ok-listed-clause-rows : goal.returns-in-Ok-listed-clause-rows
returns-in-Ok-listed-clause-rows c =
    outline_here c.args.map.now c.from_file.new.map (chars c.args.text.now)
    (option_map (λ line. chars line.now) c.in-Ok.file.0) c.in-Ok.file.1 c.in-Ok-listed.rows.items
    c.in-Ok.ensures.parsed c.in-Ok.ensures.map_ok c.in-Ok.ensures.spot c.in-Ok-listed.ensures.file

pub returns-in-Ok-listed-clause-stand : goal.returns-in-Ok-listed-clause-stand
returns-in-Ok-listed-clause-stand c =
    rows_stand (chars c.args.text.now) c.in-Ok-listed.rows.items (outline_here c.args.map.now c.from_file.new.map
    (chars c.args.text.now) (option_map (λ line. chars line.now) c.in-Ok.file.0) c.in-Ok.file.1
    c.in-Ok-listed.rows.items c.in-Ok.ensures.parsed c.in-Ok.ensures.map_ok c.in-Ok.ensures.spot
    c.in-Ok-listed.ensures.file)

pub returns-clause-fault : goal.returns-clause-fault
returns-clause-fault c =
    syntax_is c.args.map.now c.from_file.new.map (chars c.args.text.now)
    (option_map (λ line. chars line.now) c.in-Ok.file.0) c.in-Ok.file.1
    (place_of c.in_ok-error-in-Err-Syntax.error) c.in_ok-error-in-Err-Syntax.place
    c.in-Ok.ensures.parsed c.in-Ok.ensures.map_ok c.in-Ok.ensures.spot
    (subst (IsUnread (plain c.in-Ok.file.1)) c.in-Err-Syntax.field-0-is c.in-Err-Syntax.ensures.refused)
    c.in_ok-error-in-Err-Syntax.ensures
