use Rattle.laws_lexer.proofs.Exactly.{forest_back}
use Rattle.laws_lexer.proofs.spaced.is_well_spaced.Goals as goal

pub returns : goal.returns
returns c = λ base.
    let back = forest_back base c.args.stream.now c.each_stream.ensures.leaves c.each_stream.ensures.matched in
    (λ t. back.0 (c.is_well_spaced.ensures.0 t), λ f. c.is_well_spaced.ensures.1 (back.1 f))
