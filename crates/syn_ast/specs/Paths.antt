-- The trees that the types of paths are.
use Rattle.std.specs.Prelude.{Bool, true, false, List, Option, Some, None, ℕ}
use Rattle.syn_part.specs.declared.leaf.Mark.{Mark}
use Rattle.syn_part.specs.Leaves.{lifetime_tree, list_tree, literal_tree, mark_tree, optional_tree, raw_tree, word_tree}
use Rattle.syn_part.specs.Sub.{lit_tree, marked_tree, worded_tree}
use Rattle.syn_ast.specs.declared.paths.AssocType.{AssocType}
use Rattle.syn_ast.specs.declared.paths.Delimited.{Delimited}
use Rattle.syn_ast.specs.declared.paths.GenericArgument.{GenericArgument}
use Rattle.syn_ast.specs.declared.paths.Index.{Index}
use Rattle.syn_ast.specs.declared.paths.MacroDelimiter.{MacroDelimiter}
use Rattle.syn_ast.specs.declared.paths.Member.{Member}
use Rattle.syn_ast.specs.declared.paths.OneSegment.{OneSegment}
use Rattle.syn_ast.specs.declared.paths.PathArguments.{PathArguments}
use Rattle.syn_ast.specs.declared.paths.PathSegment.{PathSegment}
use Rattle.syn_ast.specs.declared.paths.Segments.{Segments}
use Rattle.syn_part.specs.declared.sub.Marked.{Marked}
use Rattle.syn_ast.specs.declared.paths.GenericArgument.TheVariants as given
use Rattle.syn_ast.specs.declared.paths.MacroDelimiter.TheVariants as delimiters
use Rattle.syn_ast.specs.declared.paths.Member.TheVariants as members
use Rattle.syn_ast.specs.declared.paths.PathArguments.TheVariants as arguments
use Rattle.syn_ast.specs.declared.paths.AngleBracketedGenericArguments.{AngleBracketedGenericArguments}
use Rattle.syn_ast.specs.declared.paths.Macro.{Macro}
use Rattle.syn_ast.specs.declared.paths.ParenthesizedGenericArguments.{ParenthesizedGenericArguments}
use Rattle.syn_ast.specs.declared.paths.Path.{Path}
use Rattle.syn_ast.specs.declared.paths.QualifiedPath.{QualifiedPath}
use Rattle.reader_table.specs.Kinds.{style_of}
use Rattle.syn_grammar.specs.Kind as k
use Rattle.syn_grammar.specs.Name as n
use Rattle.syn_grammar.specs.Tree as t
use Rattle.syn_grammar.specs.Tree.{Tree}

-- a path, in its style: ::a::b<T>
abbrev pub path : Path → Tree
path x = t.Node (k.Path (style_of x.style)) (t.Pair (optional_tree mark_tree x.leading_colon) x.segments.now)

-- a qualified path, in its style: <T as A>::B, <T>::B
abbrev pub qualified_path : QualifiedPath → Tree
qualified_path x = t.Node (k.QualifiedPath (style_of x.style)) (t.Pair (mark_tree x.qself.lt_token) (t.Pair
    x.qself.ty.now (t.Pair (optional_tree worded_tree x.qself.as_token) (t.Pair (mark_tree x.qself.gt_token) (t.Pair
    (mark_tree x.colon2_token) x.segments.now)))))

-- arguments in angle brackets: ::<A, B>, or without the ::
abbrev pub angle_bracketed_generic_arguments : AngleBracketedGenericArguments → Tree
angle_bracketed_generic_arguments x = t.Node k.Arguments (t.Pair (optional_tree mark_tree x.colon2_token) (t.Pair
    (mark_tree x.lt_token) (t.Pair (t.Called n.the_arguments (list_tree x.args)) (mark_tree x.gt_token))))

-- arguments in parentheses: (A, B) -> C, or without a type behind them
abbrev pub parenthesized_generic_arguments : ParenthesizedGenericArguments → Tree
parenthesized_generic_arguments x = t.Node k.ParenthesizedArguments (t.Pair (t.Group x.paren_token.delimiter
    (list_tree x.inputs)) (optional_tree marked_tree x.output))

-- a macro: a::b!(c)
abbrev pub macro : Macro → Tree
macro x = t.Node k.AMacro (t.Pair x.path.now (t.Pair (mark_tree x.bang_token) x.delimited.now))

-- behind a keyword perhaps :: and further segments; it takes no arguments, and with any it is no segment
abbrev pub behind_keyword : PathArguments → Option Marked → Tree
behind_keyword arguments.None others = optional_tree marked_tree others
behind_keyword _ others = t.Nil

-- behind a name its arguments, and perhaps :: and further segments; behind arguments in parentheses none stand
abbrev pub behind_name : PathArguments → Option Marked → Tree
behind_name (arguments.AngleBracketed x) others = t.First (t.Pair x.now (optional_tree marked_tree others))
behind_name arguments.None (Some m) = t.Second (t.First (marked_tree m))
behind_name (arguments.Parenthesized x) None = t.Second (t.Second (t.First x.now))
behind_name arguments.None None = t.Second (t.Second (t.Second t.Nil))
behind_name (arguments.Parenthesized x) (Some m) = t.Nil

-- a first segment, which is a keyword (self, super, crate) or another name, and what stands behind it
abbrev pub segments_inside : Bool → PathSegment → Option Marked → Tree
segments_inside true x others = t.First (t.Pair (word_tree x.ident) (behind_keyword x.arguments others))
segments_inside false x others = t.Second (t.Pair (word_tree x.ident) (behind_name x.arguments others))

-- segments, in their style: a<T>::b
abbrev pub segments : Segments → Tree
segments x = t.Node (k.Segments (style_of x.style)) (segments_inside x.is_keyword x.first x.others)

-- of segments that are one name without arguments, a keyword among them, that name
abbrev pub lone_name : Tree → Option (List ℕ)
lone_name (t.Node (k.Segments s) (t.First (t.Pair (t.AWord cs) (t.Second t.Nil)))) = Some cs
lone_name (t.Node (k.Segments s) (t.Second (t.Pair (t.AWord cs) (t.Second (t.Second (t.Second t.Nil)))))) = Some cs
lone_name _ = None

-- of a path that is one name, with no :: in front, that name
abbrev pub name_behind : Option Mark → Tree → Option (List ℕ)
name_behind None x = lone_name x
name_behind (Some m) x = None

-- the same of a path
abbrev pub name_of_path : Path → Option (List ℕ)
name_of_path x = name_behind x.leading_colon x.segments.now

-- the arguments of a segment by itself: in angle brackets, in parentheses, or none
abbrev pub segment_end : PathArguments → Tree
segment_end (arguments.AngleBracketed x) = t.First x.now
segment_end (arguments.Parenthesized x) = t.Second (t.First x.now)
segment_end arguments.None = t.Second (t.Second t.Nil)

-- a keyword by itself, which has no arguments; with any it is no segment
abbrev pub keyword_alone : PathSegment → PathArguments → Tree
keyword_alone x arguments.None = t.First (word_tree x.ident)
keyword_alone x _ = t.Nil

-- a keyword by itself, or another name with its arguments
abbrev pub segment_inside : Bool → PathSegment → Tree
segment_inside true x = keyword_alone x x.arguments
segment_inside false x = t.Second (t.Pair (word_tree x.ident) (segment_end x.arguments))

-- a segment by itself, in its style: a<T>
abbrev pub one_segment : OneSegment → Tree
one_segment x = t.Node (k.Segment (style_of x.style)) (segment_inside x.is_keyword x.segment)

-- a type that is associated: A = T
abbrev pub assoc_type_tree : AssocType → Tree
assoc_type_tree x = t.Pair (word_tree x.ident) (t.Pair (mark_tree x.eq_token) x.ty.now)

-- a generic argument: a lifetime, a literal, a block, Ident = Type, or a type
abbrev pub argument_inside : GenericArgument → Tree
argument_inside (given.Lifetime l) = t.First (t.Called n.the_lifetime (lifetime_tree l))
argument_inside (given.Const l) = t.Second (t.First (lit_tree l))
argument_inside (given.ConstBlock x) = t.Second (t.Second (t.First x.now))
argument_inside (given.AssocType x) = t.Second (t.Second (t.Second (t.First (assoc_type_tree x))))
argument_inside (given.«Type» x) = t.Second (t.Second (t.Second (t.Second x.now)))

-- a generic argument, as a node
abbrev pub generic_argument : GenericArgument → Tree
generic_argument x = t.Node k.AnArgument (argument_inside x)

-- a field's index, as its literal: 0
abbrev pub index : Index → Tree
index x = t.Node k.Index (literal_tree x.index)

-- a field's name, or its index
abbrev pub member_inside : Member → Tree
member_inside (members.Named i) = t.First (word_tree i)
member_inside (members.Unnamed x) = t.Second (literal_tree x.index)

-- a member, as a node
abbrev pub member : Member → Tree
member x = t.Node k.Member (member_inside x)

-- a group of tokens that are kept as they are: (a), {a}, [a]
abbrev pub delimited_inside : MacroDelimiter → Tree → Tree
delimited_inside (delimiters.Paren d) x = t.First (t.Group d.delimiter x)
delimited_inside (delimiters.Brace d) x = t.Second (t.First (t.Group d.delimiter x))
delimited_inside (delimiters.Bracket d) x = t.Second (t.Second (t.Group d.delimiter x))

-- a group of such tokens, as a node
abbrev pub delimited : Delimited → Tree
delimited x = t.Node k.Delimited (delimited_inside x.delimiter (raw_tree x.tokens))
