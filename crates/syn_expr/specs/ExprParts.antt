-- The trees that the parts of expressions are.
use Rattle.syn_part.specs.Leaves.{list_tree, literal_tree, mark_tree, optional_tree, word_tree}
use Rattle.syn_part.specs.Sub.{worded_tree}
use Rattle.syn_ast.specs.Paths.{member}
use Rattle.syn_ast.specs.declared.paths.Member.{Member}
use Rattle.syn_expr.specs.declared.expr.parts.FieldValues.{FieldValues}
use Rattle.syn_expr.specs.declared.expr.parts.Arm.{Arm}
use Rattle.syn_expr.specs.declared.expr.parts.StructRest.{StructRest}
use Rattle.syn_expr.specs.declared.expr.parts.AFieldValue.{AFieldValue}
use Rattle.syn_expr.specs.declared.expr.parts.FieldValue.{FieldValue}
use Rattle.syn_part.specs.declared.leaf.Mark.{Mark}
use Rattle.syn_ast.specs.declared.paths.Member.TheVariants as members
use Rattle.syn_expr.specs.declared.expr.parts.AFieldValue.TheVariants as values
use Rattle.syn_grammar.specs.Kind as k
use Rattle.syn_grammar.specs.Name as n
use Rattle.syn_grammar.specs.Tree as t
use Rattle.syn_grammar.specs.Tree.{Tree}
use denote.Bor.{Bor}
use Rattle.std.specs.Prelude.{Bool, true, false, Option, Some, None}

-- behind a dot a name, or a number, which is an index or several with dots between them, each as a part: the name, or
-- the value
abbrev pub field_member_tree : Member → Tree
field_member_tree (members.Named i) = t.First (t.Called n.the_name (word_tree i))
field_member_tree (members.Unnamed x) = t.Second (t.Called n.the_value (literal_tree x.index))

-- behind .. nothing, where the braces end there, or another struct
abbrev pub rest_tree : Option (Bor Tree) → Tree
rest_tree None = t.First t.Nil
rest_tree (Some x) = t.Second x.now

-- the fields that another struct has: ..a, or .. alone, as a part
abbrev pub struct_rest_tree : StructRest → Tree
struct_rest_tree x = t.Called n.the_base (t.Pair (mark_tree x.dot2_token) (rest_tree x.rest))

-- the fields of another struct, or a field
abbrev pub a_field_value : AFieldValue → Tree
a_field_value (values.Rest r) = t.Node k.AFieldValue (t.First (struct_rest_tree r))
a_field_value (values.Field x) = t.Node k.AFieldValue (t.Second x.now)

-- a member, : and a value
abbrev pub member_value_tree : Member → Mark → Tree → Tree
member_value_tree m c e = t.Pair (member m) (t.Pair (mark_tree c) (t.Called n.the_value e))

-- a member by itself, as the word or the literal that it is
abbrev pub member_alone : Member → Tree
member_alone (members.Named i) = word_tree i
member_alone (members.Unnamed x) = literal_tree x.index

-- a member, : and a value, or a member by itself; with one of : and a value alone there is no tree
abbrev pub field_init_tree : Member → Option Mark → Option (Bor Tree) → Tree
field_init_tree m (Some c) (Some e) = t.Second (member_value_tree m c e.now)
field_init_tree m None None = t.First (member_alone m)
field_init_tree m (Some c) None = t.Nil
field_init_tree m None (Some e) = t.Nil

-- a field of a struct's value, with its attributes: a: b, a
abbrev pub field_value : FieldValue → Tree
field_value x = t.Node k.FieldValue (t.Pair x.attrs.now (field_init_tree x.member x.colon_token x.expr))

-- behind an arm's body: nothing, where the braces end there, and else a comma, or none; at the end with a comma there
-- is no tree
abbrev pub arm_comma_tree : Bool → Option Mark → Tree
arm_comma_tree true None = t.First t.Nil
arm_comma_tree true (Some m) = t.Nil
arm_comma_tree false (Some m) = t.Second (t.First (mark_tree m))
arm_comma_tree false None = t.Second (t.Second t.Nil)

-- the fields of a struct, in their braces: { a: b, ..c }
abbrev pub field_values : FieldValues → Tree
field_values x = t.Node k.FieldValues (t.First (t.Group x.brace_token.delimiter (list_tree x.fields)))

-- an arm of a match, with its attributes: a if b => c,
abbrev pub arm : Arm → Tree
arm x = t.Node k.Arm (t.First (t.Pair x.attrs.now (t.Pair x.pat.now (t.Pair (optional_tree worded_tree x.guard)
    (t.Pair (mark_tree x.fat_arrow_token) (t.Pair (t.Called n.the_body x.body.now) (t.Called n.the_comma
    (arm_comma_tree x.at_end x.comma))))))))
