use Rattle.std.proofs.Common.{◌∙◌, ◌-◌, ap, take, length}
use Rattle.std.proofs.Math.Nat.{sub-zero}
use Rattle.std.specs.Str.{chars}
use Rattle.proc_macro2.proofs.Docs.{cuts_closing}
use Rattle.proc_macro2.proofs.doc.before_closing.Goals as goal

pub overflow_sub-body : goal.overflow_sub-body
overflow_sub-body c = (cuts_closing c.args.body.now c.utf8.body c.requires).long

pub range-requires-clause-end_boundary : goal.range-requires-clause-end_boundary
range-requires-clause-end_boundary c = (cuts_closing c.args.body.now c.utf8.body c.requires).boundary

pub returns : goal.returns
returns c = ap chars (c.range.ensures.value ∙ ap (λ n. take n c.args.body.now) (sub-zero (length c.args.body.now - 2)))
    ∙ (cuts_closing c.args.body.now c.utf8.body c.requires).before
