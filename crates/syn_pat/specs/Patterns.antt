-- The trees that the types of patterns are.
use Rattle.std.specs.Prelude.{Option, Some, None}
use Rattle.syn_part.specs.Leaves.{list_tree, literal_tree, mark_tree, node_tree, optional_tree, turns_tree, word_tree}
use Rattle.syn_part.specs.Sub.{lit_tree, marked_tree}
use Rattle.syn_pat.specs.declared.patterns.FieldPat.{FieldPat}
use Rattle.syn_pat.specs.declared.patterns.FieldPattern.{FieldPattern}
use Rattle.syn_pat.specs.declared.patterns.FieldPatterns.{FieldPatterns}
use Rattle.syn_pat.specs.declared.patterns.LiteralPattern.{LiteralPattern}
use Rattle.syn_pat.specs.declared.patterns.MemberPattern.{MemberPattern}
use Rattle.syn_pat.specs.declared.patterns.PatIdent.{PatIdent}
use Rattle.syn_pat.specs.declared.patterns.PatOr.{PatOr}
use Rattle.syn_pat.specs.declared.patterns.PatParenthesized.{PatParenthesized}
use Rattle.syn_pat.specs.declared.patterns.PatRangeTo.{PatRangeTo}
use Rattle.syn_pat.specs.declared.patterns.PatReference.{PatReference}
use Rattle.syn_pat.specs.declared.patterns.PatRest.{PatRest}
use Rattle.syn_pat.specs.declared.patterns.PatSeveral.{PatSeveral}
use Rattle.syn_pat.specs.declared.patterns.PatSlice.{PatSlice}
use Rattle.syn_pat.specs.declared.patterns.PatWild.{PatWild}
use Rattle.syn_pat.specs.declared.patterns.PathBehind.{PathBehind}
use Rattle.syn_pat.specs.declared.patterns.PathPattern.{PathPattern}
use Rattle.syn_pat.specs.declared.patterns.RangeBound.{RangeBound}
use Rattle.syn_pat.specs.declared.patterns.RangeLimits.{RangeLimits}
use Rattle.syn_pat.specs.declared.patterns.Shorthand.{Shorthand}
use Rattle.syn_pat.specs.declared.patterns.SignedLit.{SignedLit}
use Rattle.syn_pat.specs.declared.patterns.FieldPattern.TheVariants as fields
use Rattle.syn_pat.specs.declared.patterns.PathBehind.TheVariants as behind
use Rattle.syn_pat.specs.declared.patterns.RangeBound.TheVariants as bounds
use Rattle.syn_pat.specs.declared.patterns.RangeLimits.TheVariants as limits
use Rattle.syn_pat.specs.declared.patterns.SignedLit.TheVariants as signed
use Rattle.syn_part.specs.declared.sub.Marked.{Marked}
use Rattle.syn_grammar.specs.Kind as k
use Rattle.syn_grammar.specs.Name as n
use Rattle.syn_grammar.specs.Tree as t
use Rattle.syn_grammar.specs.Tree.{Tree}
use denote.Bor.{Bor}

-- any value: _
abbrev pub pat_wild : PatWild → Tree
pat_wild x = t.Node k.WildPattern (word_tree x.underscore_token)

-- the values that are left: ..
abbrev pub pat_rest : PatRest → Tree
pat_rest x = t.Node k.RestPattern (mark_tree x.dot2_token)

-- a reference: &a, &mut a
abbrev pub pat_reference : PatReference → Tree
pat_reference x = t.Node k.ReferencePattern (t.Pair (mark_tree x.and_token) (t.Pair
    (optional_tree word_tree x.mutability) x.pat.now))

-- a slice or an array: [a, b]
abbrev pub pat_slice : PatSlice → Tree
pat_slice x = t.Node k.SlicePattern (t.Group x.bracket_token.delimiter (list_tree x.elems))

-- a tuple, or a pattern in parentheses: any list of patterns in them
abbrev pub pat_parenthesized : PatParenthesized → Tree
pat_parenthesized x = t.Node k.TuplePattern (t.Group x.paren_token.delimiter (list_tree x.elems))

-- alternatives, with a | in front or without: | a | b
abbrev pub pat_or : PatOr → Tree
pat_or x = t.Node k.Pattern (t.Pair (optional_tree mark_tree x.leading_vert) (t.Pair x.first.now (turns_tree x.others)))

-- alternatives with no | in front: a | b
abbrev pub pat_several : PatSeveral → Tree
pat_several x = t.Node k.SeveralPatterns (t.Pair x.first.now (turns_tree x.others))

-- behind a name perhaps @ and a pattern; what stands there is no !, before which it would be refused
abbrev pub subpattern : Option Marked → Tree
subpattern o = t.Second (optional_tree marked_tree o)

-- a name for what is matched: ref mut a @ b
abbrev pub pat_ident : PatIdent → Tree
pat_ident x = t.Node k.IdentPattern (t.Pair (optional_tree word_tree x.by_ref) (t.Pair
    (optional_tree word_tree x.mutability) (t.Pair (word_tree x.ident) (subpattern x.subpat))))

-- ..= or ..
abbrev pub range_limits : RangeLimits → Tree
range_limits (limits.Closed m) = t.First (mark_tree m)
range_limits (limits.HalfOpen m) = t.Second (mark_tree m)

-- a range without a start: ..=a, ..a
abbrev pub pat_range_to : PatRangeTo → Tree
pat_range_to x = t.Node k.RangeToPattern (t.Pair (range_limits x.limits) x.end.now)

-- what makes a range of what stands before it: ..= and an end, or .. and perhaps one; ..= alone is none
abbrev pub range_end : RangeLimits → Option (Bor Tree) → Tree
range_end (limits.Closed m) (Some x) = t.First (t.Pair (mark_tree m) x.now)
range_end (limits.HalfOpen m) o = t.Second (t.Pair (mark_tree m) (optional_tree node_tree o))
range_end (limits.Closed m) None = t.Nil

-- a literal, or a number behind -
abbrev pub signed_lit_tree : SignedLit → Tree
signed_lit_tree (signed.Negative m l) = t.First (t.Pair (mark_tree m) (literal_tree l))
signed_lit_tree (signed.Plain l) = t.Second (lit_tree l)

-- a literal, alone or as a range's start
abbrev pub literal_pattern : LiteralPattern → Tree
literal_pattern x = t.Node k.LiteralPattern (t.Pair (signed_lit_tree x.lit) (optional_tree node_tree x.end))

-- a bound of a range: a literal, - and a number, or a path
abbrev pub range_bound_inside : RangeBound → Tree
range_bound_inside (bounds.Lit l) = t.First (signed_lit_tree l)
range_bound_inside (bounds.Path x) = t.Second x.now

-- a bound of a range, as a node
abbrev pub range_bound : RangeBound → Tree
range_bound x = t.Node k.RangeBound (range_bound_inside x)

-- behind a path: patterns in parentheses, fields in braces, the end of a range, or nothing
abbrev pub path_behind : PathBehind → Tree
path_behind (behind.Tuple d l) = t.First (t.Group d.delimiter (list_tree l))
path_behind (behind.Struct x) = t.Second (t.First x.now)
path_behind (behind.Range x) = t.Second (t.Second (t.First x.now))
path_behind behind.None = t.Second (t.Second (t.Second t.Nil))

-- a path, alone, as a tuple struct, as a struct or as a range's start
abbrev pub path_pattern : PathPattern → Tree
path_pattern x = t.Node k.PathPattern (t.Pair x.path.now (path_behind x.behind))

-- the fields of a struct's pattern: { a, b: c, .. }
abbrev pub field_patterns : FieldPatterns → Tree
field_patterns x = t.Node k.FieldPatterns (t.First (t.Group x.brace_token.delimiter (list_tree x.fields)))

-- a field with a pattern: a: b
abbrev pub member_pattern_tree : MemberPattern → Tree
member_pattern_tree x = t.Pair x.member.now (t.Pair (mark_tree x.colon_token) x.pat.now)

-- a field by its name alone: ref mut a
abbrev pub shorthand_tree : Shorthand → Tree
shorthand_tree x = t.Pair (optional_tree word_tree x.by_ref) (t.Pair (optional_tree word_tree x.mutability)
    (word_tree x.ident))

-- .., a field with a pattern, or a field by its name alone
abbrev pub field_pattern_tree : FieldPattern → Tree
field_pattern_tree (fields.Rest x) = t.First (t.Called n.the_rest x.now)
field_pattern_tree (fields.Member x) = t.Second (t.First (member_pattern_tree x))
field_pattern_tree (fields.Shorthand x) = t.Second (t.Second (shorthand_tree x))

-- a field of a struct's pattern, or .., behind its attributes
abbrev pub field_pat : FieldPat → Tree
field_pat x = t.Node k.FieldPattern (t.Pair x.attrs.now (field_pattern_tree x.pattern))
