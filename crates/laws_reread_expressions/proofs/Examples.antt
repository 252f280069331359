-- Simple expressions there are: 1 + x, put in parentheses behind a minus.
use Rattle.std.proofs.Common.{[], refl, inl, inr}
use Rattle.std.specs.Prelude.{codes}
use Rattle.rust_leaf.specs.declared.punct.Spacing.TheVariants.{Alone as Apart}
use Rattle.syn_grammar.specs.Kind.{Plain, Expression, ExprLit, ExprPath, ExprSum, ExprUnary}
use Rattle.syn_grammar.specs.Words.{is_plain_name}
use Rattle.rust_leaf.specs.Keywords.{is_reserved}
use Rattle.syn_grammar.specs.Tree.{Tree, ALiteral, AMark, First, Second, Node, Whole, Alone, Front, Infix}
use Rattle.syn_grammar.specs.Gram.{ref}
use Rattle.syn_grammar.specs.Forms.{level}
use Rattle.syn_grammar.specs.Table.{table}
use Rattle.syn_grammar.specs.Kept.{held}
use Rattle.syn_grammar.specs.Derives.{Derives}
use Rattle.syn_grammar.specs.Normal.{passed, normal_in}
use Rattle.syn_grammar.specs.Parens.{may_lack}
use Rattle.syn_grammar.specs.Forms.{back}
use Rattle.laws_reread_expressions.specs.Simple.{lone_name, IsSimple}
use Rattle.laws_reread_expressions.specs.Behind.{MayFollow}
use Rattle.laws_reread_expressions.proofs.ReadBack.{read_back}
use Rattle.laws_reread_expressions.proofs.Simples.{simple}

abbrev pub sum : Tree
sum =
    Infix (Alone ExprLit (First (ALiteral (codes "1")))) ExprSum (First (AMark 43 [] Apart))
    (Alone ExprPath (lone_name (codes "x")))

abbrev pub minus : Tree
minus = Front ExprUnary (Second (Second (First (AMark 45 [] Apart)))) sum

is_simple : IsSimple minus
unfolding table level may_lack is_plain_name is_reserved held passed
is_simple = (
  refl,
  ((refl, (refl, (refl, (refl, refl)))), refl),
  refl,
  (
    refl,
    ((refl, (refl, refl)), refl),
    refl,
    (inl (refl, ((refl, refl), refl)), refl),
    (inr (refl, codes "x", refl, refl), refl),
  ),
)

nothing : MayFollow Plain []
unfolding back
nothing = (refl, refl, refl, refl)

-- so they are read back
pub sum_back : Derives (normal_in Plain (Node (Expression Plain) (Whole minus))) (ref (Expression Plain)) []
sum_back = read_back Plain minus [] (simple minus is_simple) nothing
