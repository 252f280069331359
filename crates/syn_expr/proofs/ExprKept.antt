-- What is read of a kind that is judged, and never kept as tokens alone, is kept as a tree.
use Rattle.std.specs.Prelude.{◌≡◌, true, List, not}
use Rattle.std.proofs.Common.{subst}
use Rattle.proc_macro2.specs.Token.{Token}
use Rattle.syn_grammar.specs.Derives.{Derives}
use Rattle.syn_grammar.specs.Expressions.{is_arm, is_base}
use Rattle.syn_grammar.specs.Gram.{ref}
use Rattle.syn_grammar.specs.Kind.{Kind, FieldValues, Arm, Statements, OneStatement, ALet}
use Rattle.syn_grammar.specs.Part.{choice, each_separated, each_turn_but_last, in_group}
use Rattle.syn_grammar.specs.Statements.{is_let, needs_semicolon}
use Rattle.syn_grammar.specs.Table.{table}
use Rattle.syn_grammar.specs.Tree.{Tree, Node}
use Rattle.syn_part.specs.Kept.{IsFirst, IsKept}
use Rattle.syn_part.proofs.Judged.{kept_judged}
use Rattle.syn_expr.specs.Judged.{keeps_trees}

inside : (k : Kind) (x : Tree) (rest : List Token) → keeps_trees k ≡ true → Derives x (table k) rest → IsFirst x
unfolding table
inside FieldValues x rest h d = kept_judged x (in_group (each_separated (λ y. not (is_base y)))) _ rest d
inside Arm x rest h d = kept_judged x is_arm _ rest d
inside Statements x rest h d = kept_judged x (each_turn_but_last (λ y. not (needs_semicolon (choice y)))) _ rest d
inside OneStatement x rest h d = kept_judged x (λ y. not (needs_semicolon y)) _ rest d
inside ALet x rest h d = kept_judged x is_let _ rest d
inside _ x rest h d = cc

pub kept : (k : Kind) (x : Tree) (rest : List Token) → keeps_trees k ≡ true → Derives x (ref k) rest → IsKept x
kept k (Node j x) rest h d =
    let s : Derives x (table k) rest = subst (λ z. Derives x (table z) rest) d.0 d.1 in inside k x rest h s
kept k _ rest h d = absurd d
