-- The trees that patterns are, by their form.
use Rattle.std.specs.Prelude.{◌≡◌, ◌⊎◌, Bool, true, false, Option, Some, None}
use Rattle.syn_part.specs.Leaves.{list_tree, mark_tree, optional_tree, turns_tree}
use Rattle.syn_pat.specs.Patterns.{pat_ident, pat_or, pat_reference, pat_rest, pat_slice, pat_wild}
use Rattle.syn_pat.specs.Patterns.{path_behind, range_end, range_limits, signed_lit_tree}
use Rattle.syn_part.specs.Shape.{IsAmong, IsShaped}
use Rattle.syn_part.specs.declared.leaf.Delimiters.{Delimiters}
use Rattle.syn_pat.specs.declared.pat.Pat.{Pat}
use Rattle.syn_pat.specs.declared.pat.PatRange.{PatRange}
use Rattle.syn_pat.specs.declared.pat.Read.{Read}
use Rattle.syn_pat.specs.declared.patterns.PatOr.{PatOr}
use Rattle.syn_pat.specs.declared.patterns.RangeBound.{RangeBound}
use Rattle.syn_pat.specs.declared.patterns.RangeLimits.{RangeLimits}
use Rattle.syn_pat.specs.declared.pat.Pat.TheVariants as pats
use Rattle.syn_pat.specs.declared.pat.Read.TheVariants as reads
use Rattle.syn_pat.specs.declared.patterns.PathBehind.TheVariants as behind
use Rattle.syn_pat.specs.declared.patterns.RangeBound.TheVariants as bounds
use Rattle.syn_grammar.specs.Gram as g
use Rattle.syn_grammar.specs.Kind as k
use Rattle.syn_grammar.specs.Part.{choice}
use Rattle.syn_grammar.specs.Patterns.{one_pattern}
use Rattle.syn_grammar.specs.Tree as t
use Rattle.syn_grammar.specs.Tree.{Tree}
use denote.Bor.{Bor}

-- of a node that is one alternative, its form
abbrev pub one_form : Tree → Tree
one_form (t.Node k.OnePattern x) = choice x
one_form _ = t.Nil

-- of alternatives, by what stands in front, the first and the others: one without a | in front is its form; else they
-- are all of them, as a node of the kind that a | may stand in front of
abbrev pub alternatives : Tree → Tree → Tree → Tree
alternatives (t.Second t.Nil) x t.End = one_form x
alternatives leading x others = t.Node k.Pattern (t.Pair leading (t.Pair x others))

-- of a pattern that was read, whether as alternatives, with a | in front or without, or as one of them, its form
abbrev pub form_of_pat : Tree → Tree
form_of_pat (t.Node k.OnePattern x) = choice x
form_of_pat (t.Node k.Pattern (t.Pair leading (t.Pair x others))) = alternatives leading x others
form_of_pat (t.Node k.SeveralPatterns (t.Pair x others)) = alternatives (t.Second t.Nil) x others
form_of_pat _ = t.Nil

-- it has the shape of a pattern, in one of the three ways in which one is read
abbrev pub IsAPattern : Tree → Type 0
IsAPattern x = IsShaped x (g.ref k.Pattern) ⊎ (IsShaped x (g.ref k.SeveralPatterns) ⊎ IsShaped x (g.ref k.OnePattern))

-- the form is .. alone
abbrev pub is_rest_form : Tree → Bool
is_rest_form (t.Node k.RestPattern x) = true
is_rest_form _ = false

-- the pattern is .. alone
abbrev pub is_rest_pattern : Tree → Bool
is_rest_pattern x = is_rest_form (form_of_pat x)

-- the same of alternatives as a value: the form of one without a | in front
abbrev pub alternatives_tree : PatOr → Tree
alternatives_tree x = alternatives (optional_tree mark_tree x.leading_vert) x.first.now (turns_tree x.others)

-- what a pattern was read as: the form of one alternative, or alternatives
abbrev pub read_tree : Read → Tree
read_tree (reads.One x) = x.now
read_tree (reads.Several x) = pat_or x

-- the form of one alternative is one of those that may be chosen; of alternatives nothing is asked
abbrev pub IsRead : Read → Type 0
IsRead (reads.One x) = IsAmong x.now one_pattern
IsRead (reads.Several x) = Unit {0}

-- a range whose start is a literal, or a path, and what stands behind that
abbrev pub started : RangeBound → Tree → Tree
started (bounds.Lit l) x = t.Node k.LiteralPattern (t.Pair (signed_lit_tree l) (t.First x))
started (bounds.Path p) x = t.Node k.PathPattern (t.Pair p.now (t.Second (t.Second (t.First x))))

-- a range has a start or an end; with neither it is what no tree's form is
abbrev pub range_inside : Option RangeBound → RangeLimits → Option (Bor Tree) → Tree
range_inside None l (Some x) = t.Node k.RangeToPattern (t.Pair (range_limits l) x.now)
range_inside (Some b) l o = started b (t.Node k.RangeEnd (range_end l o))
range_inside None l None = t.First t.Nil

-- a range, by its start, its limits and its end
abbrev pub range_form : PatRange → Tree
range_form x = range_inside x.start x.limits x.end

-- a list of patterns in these parentheses
abbrev pub parenthesized : Delimiters → Tree → Tree
parenthesized d x = t.Node k.TuplePattern (t.Group d.delimiter x)

-- a path, and what stands behind it
abbrev pub by_path : Tree → Tree → Tree
by_path path x = t.Node k.PathPattern (t.Pair path x)

-- the tree that a pattern is, by its form
abbrev pub pat_tree : Pat → Tree
pat_tree (pats.«Ident» x) = pat_ident x
pat_tree (pats.Lit x) = t.Node k.LiteralPattern (t.Pair (signed_lit_tree x.lit) (t.Second t.Nil))
pat_tree (pats.Or x) = pat_or x
pat_tree (pats.Paren x) = parenthesized x.paren_token (t.Final x.pat.now)
pat_tree (pats.Path x) = by_path x.path.now (path_behind behind.None)
pat_tree (pats.Range x) = range_form x
pat_tree (pats.Reference x) = pat_reference x
pat_tree (pats.Rest x) = pat_rest x
pat_tree (pats.Slice x) = pat_slice x
pat_tree (pats.Struct x) = by_path x.path.now (path_behind (behind.Struct x.fields))
pat_tree (pats.Tuple x) = parenthesized x.paren_token (list_tree x.elems)
pat_tree (pats.TupleStruct x) = by_path x.path.now (path_behind (behind.Tuple x.paren_token x.elems))
pat_tree (pats.Wild x) = pat_wild x

-- of a list, if it is one pattern without a comma, that this is ..
abbrev pub lone_rest : Tree → Bool
lone_rest (t.Final x) = is_rest_pattern x
lone_rest _ = true

-- one pattern in parentheses, without a comma, is a tuple if it is .., and else a pattern in parentheses
abbrev pub IsApart : Pat → Type 0
IsApart (pats.Paren x) = is_rest_pattern x.pat.now ≡ false
IsApart (pats.Tuple x) = lone_rest (list_tree x.elems) ≡ true
IsApart _ = Unit {0}
