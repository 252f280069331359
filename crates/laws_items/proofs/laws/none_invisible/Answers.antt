use Rattle.laws_items.proofs.Visible as Visible
use Rattle.laws_items.proofs.laws.none_invisible.Goals as goal

pub returns-clause-spaced : goal.returns-clause-spaced
returns-clause-spaced c = Visible.spaced_visible

pub returns-clause-printed : goal.returns-clause-printed
returns-clause-printed c = Visible.printed_visible
