use Rattle.std.proofs.Common.{◌≡◌, rules}
use Rattle.std.specs.Prelude.{Err}
use Rattle.rust_leaf.specs.declared.value.ConversionErrorKind.TheVariants.{FailedToUnescape}
use Rattle.rust_leaf.proofs.value.cstr_value.Goals as goal

pub returns-in_err-bytes-clause-malformed : goal.returns-in_err-bytes-clause-malformed
returns-in_err-bytes-clause-malformed c = λ error e.
    let same : c.value_of.result ≡ Err (FailedToUnescape error) = search rules in
    c.value_of.ensures.malformed error same
