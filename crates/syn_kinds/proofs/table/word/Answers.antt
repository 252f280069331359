use Rattle.std.proofs.Common.{◌≡◌, length, get_or, ap, arith}
use Rattle.std.proofs.lemmas.Str.{lead_after_ascii}
use Rattle.syn_kinds.proofs.table.word.Goals as goal

pub range-requires-clause-start_boundary : goal.range-requires-clause-start_boundary
range-requires-clause-start_boundary c =
    let row = c.word_row-row.result.now in
    let first : get_or row 0 0 ≡ 96 = ap (λ bs. get_or bs 0 0) c.word_row-row.ensures in
    λ p. (
      omega (arith, ap length c.word_row-row.ensures),
      λ below high. lead_after_ascii row 0 c.word_row-row.utf8 (omega arith) below high,
    )
