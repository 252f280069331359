use Rattle.laws_ranges.proofs.Given as Given
use Rattle.laws_ranges.proofs.laws.attributes_given.Goals as goal

pub returns : goal.returns
returns c = Given.given_shelled
