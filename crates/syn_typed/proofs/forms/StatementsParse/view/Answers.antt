use Rattle.std.proofs.Common.{refl}
use Rattle.syn_grammar.specs.Gram.{ref}
use Rattle.syn_grammar.specs.Kind as k
use Rattle.syn_part.proofs.Derived.{shaped}
use Rattle.syn_expr.proofs.ExprKept.{kept}
use Rattle.syn_typed.proofs.forms.StatementsParse.view.Goals as goal

pub returns-in-None : goal.returns-in-None
returns-in-None c rest d =
    c.in-None.ensures (kept k.Statements c.args.tree.now rest refl d) (shaped c.args.tree.now (ref k.Statements) rest d)
