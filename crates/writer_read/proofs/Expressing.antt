-- The tokens of forms of expressions and of statements, with the parentheses that they get.
use Rattle.std.specs.Prelude.{◌≡◌, Bool, true, false, cond, List, [], ◌∷◌, ◌++◌, Some, None, refl}
use Rattle.std.proofs.Common.{ap, sym, append_assoc}
use Rattle.std.proofs.lemmas.List.{append-nil}
use Rattle.proc_macro2.specs.Token.{Token, Opens, Closes}
use Rattle.proc_macro2.specs.declared.delimiter.Delimiter.TheVariants.{Parenthesis}
use Rattle.syn_grammar.specs.Kind.{AStatement, Expression}
use Rattle.syn_grammar.specs.Name.{the_attributes, the_expression}
use Rattle.syn_grammar.specs.Tree as t
use Rattle.syn_grammar.specs.Tree.{Tree}
use Rattle.laws_ranges.specs.Shelled.{enclosed_if}
use Rattle.writer_rules.specs.Laid.{given_laid, has_attributes, laid}
use Rattle.writer_rules.specs.Operands.{stated_of}
use Rattle.writer_rules.proofs.Operands.{stated_is}
use Rattle.writer_rules.proofs.SeenForms.{some_none}

-- an operand, between its parentheses
pub enclosed_parts : (b : Bool) (ts : List Token)
    → cond b (Opens Parenthesis ∷ []) [] ++ (ts ++ cond b (Closes Parenthesis ∷ []) []) ≡ enclosed_if b ts
enclosed_parts true ts = refl
enclosed_parts false ts = append-nil ts

pub ruleset operands = (enclosed_parts, append_assoc, append-nil)

-- a statement
pub statement_some : (x a z s : Tree) → Some (a, z, s) ≡ stated_of x
    → cond (has_attributes a) (given_laid (laid a) (laid z) z) (laid a ++ laid z) ++ laid s
    ≡ laid (t.Node AStatement x)
statement_some x a z s e = ap (λ y. laid (t.Node AStatement y)) (sym (stated_is x a z s e).1)

pub statement_none : (x : Tree) → None ≡ stated_of x → laid x ≡ laid (t.Node AStatement x)
statement_none (t.Second (t.Second (t.Second (t.Second (t.Pair (t.Called the_attributes a)
    (t.Pair (t.Called the_expression (t.Node (Expression p) (t.Whole y))) u)))))) e =
    absurd (some_none (a, y, u) (sym e))
statement_none x e = refl

pub ruleset statements = (statement_some, statement_none, append_assoc, append-nil)
