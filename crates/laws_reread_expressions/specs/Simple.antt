-- Expressions of names, literals, operators, ranges, jumps, fields and groups: each own part is a name, or one behind a
-- dot, or nothing behind it changes it.
use Rattle.std.specs.Prelude.{◌≡◌, ◌⊎◌, ℕ, Bool, true, false, ◌||◌, List, [], codes}
use Rattle.syn_grammar.specs.Kind.{Kind, InExpression, AnyPath, Path, Segments, ExprPath, ExprRawAddr, ExprReference}
use Rattle.syn_grammar.specs.Kind.{ExprAwait, ExprBreak, ExprField}
use Rattle.syn_grammar.specs.Name.{the_name, the_value}
use Rattle.syn_grammar.specs.Words.{is_ident, is_plain_name, are_indices, ends_in_dot}
use Rattle.syn_grammar.specs.Tree.{Tree, AWord, ALiteral, First, Second, Called, Node, Alone}
use Rattle.syn_grammar.specs.Tree.{Front, Back, Infix}
use Rattle.syn_grammar.specs.Alternatives.{a_lone_name, without_colons}
use Rattle.syn_grammar.specs.Kept as kept
use Rattle.syn_grammar.specs.Kept.{lone_dot}
use Rattle.syn_grammar.specs.Normal.{normal}
use Rattle.laws_reread_expressions.specs.Firm.{is_firm_front, is_firm_behind, IsOwn}
use Rattle.laws_reread_expressions.specs.Formed.{may_lack_operand, may_have_operand}

-- a path that is a name by itself
abbrev pub lone_name : List ℕ → Tree
lone_name cs =
    Node (AnyPath InExpression) (Second (Node (Path InExpression)
    (without_colons (Node (Segments InExpression) (a_lone_name (AWord cs))))))

abbrev pub IsName : Kind → Tree → Type 0
IsName k y = (k ≡ ExprPath) × (cs : List ℕ) × (is_plain_name cs ≡ true) × (y ≡ lone_name cs)

-- Behind a dot: await, a name, or a number that ends in no dot.
abbrev pub behind_dot : Tree → Tree
behind_dot x = kept.behind_dot lone_dot x

abbrev pub lone_await : Tree
lone_await = behind_dot (AWord (codes "await"))

abbrev pub lone_field : List ℕ → Tree
lone_field cs = behind_dot (First (Called the_name (AWord cs)))

abbrev pub lone_number : List ℕ → Tree
lone_number cs = behind_dot (Second (Called the_value (ALiteral cs)))

abbrev pub IsDotted : Kind → Tree → Type 0
IsDotted k y =
    ((k ≡ ExprAwait) × (y ≡ lone_await)) ⊎ ((k ≡ ExprField) × (cs : List ℕ)
    × (((is_ident cs ≡ true) × (y ≡ lone_field cs))
    ⊎ ((are_indices cs ≡ true) × (ends_in_dot cs ≡ false) × (y ≡ lone_number cs))))

-- break, with a label or without
abbrev pub is_break : Kind → Bool
is_break ExprBreak = true
is_break k = false

-- & and &mut, &raw const and &raw mut
abbrev pub is_reference : Kind → Bool
is_reference ExprReference = true
is_reference ExprRawAddr = true
is_reference k = false

abbrev pub IsSimple : Tree → Type 0
IsSimple (Alone k y) =
    ((((is_firm_front k || is_break k) ≡ true) × IsOwn k (normal y)) ⊎ IsName k (normal y))
    × (may_lack_operand k ≡ true)
IsSimple (Front k y x) =
    ((is_firm_front k || is_break k || is_reference k) ≡ true) × IsOwn k (normal y) × (may_have_operand k ≡ true)
    × IsSimple x
IsSimple (Back l k y) =
    (((is_firm_behind k ≡ true) × IsOwn k (normal y)) ⊎ IsDotted k (normal y)) × (may_lack_operand k ≡ true)
    × IsSimple l
IsSimple (Infix l k y r) =
    (is_firm_behind k ≡ true) × IsOwn k (normal y) × (may_have_operand k ≡ true) × IsSimple l × IsSimple r
IsSimple x = ⊥
