use Rattle.std.proofs.Common.{◌∙◌, ap, sym, length}
use Rattle.std.specs.Str.{chars}
use Rattle.rust_map.specs.Tables.{byte_steps_of, line_starts_of}
use Rattle.rust_map.proofs.file.SourceFile.new.Goals as goal

pub invariant_of-result-clause-counted : goal.invariant_of-result-clause-counted
invariant_of-result-clause-counted c =
    c.in_ok-characters.ensures.count ∙ ap (λ b. length (chars b)) (sym c.in_ok-text.ensures.ok)

pub invariant_of-result-clause-lines : goal.invariant_of-result-clause-lines
invariant_of-result-clause-lines c =
    c.in_ok-characters.ensures.starts ∙ ap (λ b. line_starts_of (chars b)) (sym c.in_ok-text.ensures.ok)

pub invariant_of-result-clause-steps : goal.invariant_of-result-clause-steps
invariant_of-result-clause-steps c =
    c.in_ok-byte_steps.ensures ∙ ap (λ b. byte_steps_of (chars b)) (sym c.in_ok-text.ensures.ok)
