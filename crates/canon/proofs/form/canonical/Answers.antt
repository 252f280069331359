use Rattle.std.proofs.Common.{subst}
use Rattle.std.specs.Option.{option_map}
use Rattle.std.specs.Str.{chars}
use Rattle.proc_macro2.specs.Token.{plain}
use Rattle.rust_leaf.specs.Leaf.{text_of}
use Rattle.canon.proofs.Formed.{output_is, syntax_is}
use Rattle.syn_error.specs.Notes.{place_of}
use Rattle.canon.specs.Unread.{IsUnread}
use Rattle.canon.proofs.form.canonical.Goals as goal

pub returns-in-Ok-formed-clause-output : goal.returns-in-Ok-formed-clause-output
returns-in-Ok-formed-clause-output c =
    output_is _ (chars c.args.text.now) (text_of c.in-Ok-formed.form) _
    (option_map (λ line. chars line.now) c.in-Ok.file.0) c.in-Ok.file.1 c.in-Ok.ensures.parsed
    c.in-Ok-formed.ensures.output c.in_ok-with_shebang-in-Ok-formed.ensures

pub returns-clause-fault : goal.returns-clause-fault
returns-clause-fault c =
    syntax_is c.args.map.now c.from_file.new.map (chars c.args.text.now)
    (option_map (λ line. chars line.now) c.in-Ok.file.0) c.in-Ok.file.1
    (place_of c.in_ok-error-in-Err-Syntax.error) c.in_ok-error-in-Err-Syntax.place
    c.in-Ok.ensures.parsed c.in-Ok.ensures.map_ok c.in-Ok.ensures.spot
    (subst (IsUnread (plain c.in-Ok.file.1)) c.in-Err-Syntax.field-0-is c.in-Err-Syntax.ensures.refused)
    c.in_ok-error-in-Err-Syntax.ensures
