-- A path without segments is none that was read.
use Rattle.std.specs.Prelude.{List}
use Rattle.proc_macro2.specs.Token.{Token}
use Rattle.syn_grammar.specs.Derives.{Bound}
use Rattle.syn_grammar.specs.Kind.{Position, ExprPath}
use Rattle.syn_grammar.specs.Table.{table}
use Rattle.syn_part.proofs.Derived.{shaped}
use Rattle.syn_part.specs.Shape.{IsShaped}
use Rattle.syn_expr.specs.ExprPlaceholder.{own, placeholder}

pub no_segments : (p : Position) (rest : List Token) → Bound p placeholder rest → ⊥
unfolding table
no_segments p rest b = let h : IsShaped own (table ExprPath) = shaped own (table ExprPath) rest b.1 in h.1.1.1
