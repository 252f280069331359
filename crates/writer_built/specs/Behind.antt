-- The own part of a form behind its left operand. Numbers behind a dot are fields each: such a form is several.
use Rattle.std.specs.Prelude.{ℕ, Bool, true, false, cond, nat_eq, min, List, ◌++◌}
use Rattle.proc_macro2.specs.Token.{Token}
use Rattle.syn_grammar.specs.Kind.{Kind, ExprField, ExprMethodCall, ExprAwait}
use Rattle.syn_grammar.specs.Name.{the_indices, the_value}
use Rattle.syn_grammar.specs.Words.{before_dot, plain_decimal}
use Rattle.syn_grammar.specs.Tree.{Tree, ALiteral, Pair, Second, Again, Called}
use Rattle.syn_grammar.specs.Kept.{behind_dot, kept, lone_dot}
use Rattle.syn_grammar.specs.Normal.{normal}
use Rattle.syn_grammar.specs.Forms.{level}
use Rattle.laws_binding.specs.Written.{Written, other, a_named_field, takes_at}
use Rattle.laws_binding.specs.Written as w

-- a form with an operand before it, from what is kept of that: its level, the tokens behind it, and what it ends with
abbrev pub put_at : Written → ℕ → List Token → w.Last → Written
put_at v n ts l = record {
  tokens = v.tokens ++ ts;
  range = nat_eq n 3;
  postfix = takes_at n;
  path = false;
  block = false;
  macro = false;
  compares = nat_eq n 7;
  least = min n v.least;
  cap = 17;
  opened = false;
  last = l;
}

abbrev pub put_behind : Written → Kind → List Token → w.Last → Written
put_behind v k ts l = put_at v (level k) ts l

-- the own part of a field by its number
abbrev pub field_own : List ℕ → Tree
field_own cs = behind_dot lone_dot (Second (Called the_value (ALiteral (plain_decimal cs))))

-- the own part of the first form
abbrev pub last_own : Kind → Tree → Tree → Tree
last_own ExprField d (Second (Called the_value (ALiteral cs))) = field_own (before_dot cs)
last_own k d z = behind_dot (normal (kept d)) (normal (kept z))

abbrev pub dotted_first : Kind → Tree → Tree
dotted_first k (Pair (Pair d (Called the_indices (Again (ALiteral cs) x))) z) = field_own (before_dot cs)
dotted_first k (Pair (Pair d (Called the_indices x)) z) = last_own k d z
dotted_first k y = normal (kept y)

abbrev pub first_own : Kind → Tree → Tree
first_own ExprField y = dotted_first ExprField y
first_own ExprMethodCall y = dotted_first ExprMethodCall y
first_own ExprAwait y = dotted_first ExprAwait y
first_own k y = normal (kept y)

-- what the last form ends with
abbrev pub last_behind : Kind → Tree → w.Last
last_behind ExprField (Pair (Pair d (Called the_indices x)) (Second (Called the_value (ALiteral cs)))) = other
last_behind k y = w.last_of k (normal (kept y))

-- numbers in front, the first of which is one
abbrev pub is_numbered : Tree → Bool
is_numbered (Again (ALiteral cs) x) = true
is_numbered x = false

-- what a form behind a dot ends with that is no number
abbrev pub last_named : Kind → Bool → w.Last
last_named ExprField named = cond named a_named_field other
last_named k named = other
