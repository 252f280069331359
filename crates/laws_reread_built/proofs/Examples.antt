-- Spelled expressions there are: - before m!() + 1, whose sum is put in parentheses.
use Rattle.std.proofs.Common.{◌≡◌, [], ◌++◌, refl}
use Rattle.std.specs.Prelude.{codes}
use Rattle.proc_macro2.specs.declared.delimiter.Delimiter.TheVariants.{Parenthesis}
use Rattle.rust_leaf.specs.declared.punct.Spacing.TheVariants.{Alone as Apart}
use Rattle.syn_grammar.specs.Kind.{Style, AtType, InModule, Plain, AMacro, Delimited, Expression, ExprLit, ExprMacro}
use Rattle.syn_grammar.specs.Kind.{ExprSum, ExprUnary, Path, Segments}
use Rattle.syn_grammar.specs.Words.{is_bool, is_name, is_path_keyword, is_plain_name}
use Rattle.rust_leaf.specs.Keywords.{is_reserved}
use Rattle.syn_grammar.specs.Tree.{Tree, AWord, ALiteral, AMark, Raw, Nil, Pair, First, Second, Group, Node, Whole}
use Rattle.syn_grammar.specs.Tree.{Alone, Front, Infix, flat}
use Rattle.syn_grammar.specs.Gram.{operand}
use Rattle.syn_grammar.specs.Table.{table}
use Rattle.syn_grammar.specs.Derives.{Derives}
use Rattle.syn_grammar.specs.Forms.{back, chains, front, has_right, inside, level, stands_left, takes}
use Rattle.syn_grammar.specs.Kept.{held}
use Rattle.syn_grammar.specs.Normal.{passed, stands_behind, normal_in}
use Rattle.syn_grammar.specs.Parens.{in_parens, may_lack}
use Rattle.syn_grammar.specs.Read.{IsRead}
use Rattle.laws_reread_expressions.specs.Behind.{MayFollow}
use Rattle.laws_reread_built.specs.Spelled.{IsSpelled}
use Rattle.laws_reread_built.proofs.ReadBack.{read_back}

abbrev call : Style → Tree
call s =
    Alone ExprMacro
    (Node AMacro
    (Pair (Node (Path s) (Pair (Second Nil)
    (Node (Segments s) (Second (Pair (AWord (codes "m")) (Second (Second (Second Nil))))))))
    (Pair (AMark 33 [] Apart) (Node Delimited (First (Group Parenthesis (Raw [])))))))

abbrev minus : Tree → Tree
minus x = Front ExprUnary (Second (Second (First (AMark 45 [] Apart)))) x

abbrev one : Tree
one = Alone ExprLit (First (ALiteral (codes "1")))

abbrev plus : Tree → Tree → Tree
plus x y = Infix x ExprSum (First (AMark 43 [] Apart)) y

-- as it is built by hand, and as it is read in its parentheses
abbrev pub sum : Tree
sum = minus (plus (call AtType) one)

abbrev in_its_parens : Tree
in_its_parens = minus (in_parens (plus (in_parens (call InModule)) (in_parens one)))

call_read : Derives (Whole (call InModule)) (operand Plain 0) []
unfolding table level has_right takes front back stands_left is_bool is_name is_path_keyword is_plain_name is_reserved
call_read = (
  (refl, refl),
  (
    refl,
    (
      refl,
      (
        (refl, ((refl, tt), (refl, (refl, (refl, (refl, (refl, (refl, tt)))))))),
        ((refl, refl), (refl, (refl, (refl, (refl, refl))))),
      ),
    ),
    refl,
  ),
)

sum_read : Derives (Whole (plus (in_parens (call InModule)) (in_parens one))) (operand Plain 0) []
unfolding table level has_right takes inside front back chains stands_left
sum_read = (
  (refl, refl),
  (
    refl,
    (refl, (refl, refl)),
    refl,
    (refl, refl),
    (refl, (refl, (refl, (refl, call_read), refl)), refl),
    (refl, refl),
    (refl, (refl, (refl, (refl, ((refl, refl), (refl, (refl, refl), refl))), refl)), refl),
  ),
)

is_spelled : IsSpelled sum
unfolding table level has_right takes inside front back stands_left held passed
is_spelled = record {
  tree = Node (Expression Plain) (Whole in_its_parens);
  derived = (
    refl,
    (
      (refl, refl),
      (
        refl,
        (refl, (refl, (refl, (refl, refl)))),
        refl,
        (refl, refl),
        (refl, (refl, (refl, (refl, sum_read), refl)), refl),
      ),
    ),
  );
  spelled = refl;
  kept_is = refl;
}

-- its normal form
in_normal_form : normal_in Plain (Node (Expression Plain) (Whole sum))
    ≡ Node (Expression Plain) (Whole (minus (in_parens (plus (call AtType) one))))
unfolding level has_right takes inside chains stands_left may_lack passed stands_behind
in_normal_form = refl

-- so it is read back
nothing : MayFollow Plain []
unfolding back
nothing = (refl, refl, refl, refl)

pub sum_back : IsRead (Expression Plain) (flat (normal_in Plain (Node (Expression Plain) (Whole sum))) ++ [])
    (normal_in Plain (Node (Expression Plain) (Whole sum))) []
sum_back = read_back Plain sum [] is_spelled nothing
