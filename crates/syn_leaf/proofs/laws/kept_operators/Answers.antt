use Rattle.std.proofs.Common.{◌++◌, ◌∙◌, ap, sym}
use Rattle.syn_leaf.specs.Alike.{unspaced}
use Rattle.syn_leaf.specs.Operators.{bin_op_spans, bin_op_text, range_limits_spans, range_limits_text, un_op_spans}
use Rattle.syn_leaf.specs.Operators.{un_op_text}
use Rattle.syn_leaf.proofs.Kept.{kept_marks}
use Rattle.syn_leaf.proofs.laws.kept_operators.Goals as goal

pub returns-clause-binary : goal.returns-clause-binary
returns-clause-binary c =
    λ ts us printed op read put. kept_marks (bin_op_text op) (bin_op_spans op) ts us read.0
    ∙ ap (λ tokens. unspaced (tokens ++ us)) (sym put)

pub returns-clause-unary : goal.returns-clause-unary
returns-clause-unary c =
    λ ts us printed op read put. kept_marks (un_op_text op) (un_op_spans op) ts us read.0
    ∙ ap (λ tokens. unspaced (tokens ++ us)) (sym put)

pub returns-clause-limits : goal.returns-clause-limits
returns-clause-limits c =
    λ ts us printed op read put. kept_marks (range_limits_text op) (range_limits_spans op) ts us read.0
    ∙ ap (λ tokens. unspaced (tokens ++ us)) (sym put)
