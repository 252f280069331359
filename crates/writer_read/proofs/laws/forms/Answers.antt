use Rattle.writer_read.proofs.Dots as Dots
use Rattle.writer_read.proofs.laws.forms.Goals as goal

pub returns : goal.returns
returns c = record {
  atom = Dots.alone_said;
  prefix = Dots.prefix_said;
  postfix = Dots.back_said;
  between = Dots.infix_said;
}
