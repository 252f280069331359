-- What stands in the trees of patterns of their forms: each form behind the alternatives before its own.
use Rattle.std.specs.Prelude.{Option, Some, None}
use Rattle.proc_macro2.specs.declared.delimiter.Delimiter.TheVariants.{Parenthesis}
use Rattle.reader_tree.specs.Forms.{seconds}
use Rattle.syn_part.specs.Leaves.{turns_tree}
use Rattle.syn_pat.specs.Pat.{alternatives, alternatives_tree, pat_tree, range_form}
use Rattle.syn_pat.specs.Patterns.{pat_ident, pat_or, pat_reference, pat_rest, pat_slice, pat_wild}
use Rattle.syn_pat.specs.declared.pat.Pat.{Pat}
use Rattle.syn_pat.specs.declared.patterns.PatOr.{PatOr}
use Rattle.syn_pat.specs.declared.patterns.RangeBound.{RangeBound}
use Rattle.syn_pat.specs.declared.pat.Pat.TheVariants as pats
use Rattle.syn_pat.specs.declared.patterns.RangeBound.TheVariants as bounds
use Rattle.syn_grammar.specs.Kind as k
use Rattle.syn_grammar.specs.Part.{choice}
use Rattle.syn_grammar.specs.Tree as t
use Rattle.syn_grammar.specs.Tree.{Tree}

-- alternatives in parentheses
abbrev pub in_parens : PatOr → Tree
in_parens x = t.Node k.TuplePattern (t.Group Parenthesis (t.Final (pat_or x)))

-- a range among patterns, by its start
abbrev pub range_inside_one : Option RangeBound → Tree → Tree
range_inside_one None x = seconds 2 (t.First x)
range_inside_one (Some (bounds.Lit l)) x = seconds 7 (t.First x)
range_inside_one (Some (bounds.Path p)) x = seconds 8 x

-- a pattern's form among those of one alternative; alternatives stand in parentheses there
abbrev pub one_inside : Pat → Tree
one_inside (pats.«Ident» x) = t.First (pat_ident x)
one_inside (pats.Wild x) = seconds 1 (t.First (pat_wild x))
one_inside (pats.Range x) = range_inside_one x.start (range_form x)
one_inside (pats.Rest x) = seconds 3 (t.First (pat_rest x))
one_inside (pats.Paren x) = seconds 4 (t.First (pat_tree (pats.Paren x)))
one_inside (pats.Tuple x) = seconds 4 (t.First (pat_tree (pats.Tuple x)))
one_inside (pats.Or x) = seconds 4 (t.First (in_parens x))
one_inside (pats.Slice x) = seconds 5 (t.First (pat_slice x))
one_inside (pats.Reference x) = seconds 6 (t.First (pat_reference x))
one_inside (pats.Lit x) = seconds 7 (t.First (pat_tree (pats.Lit x)))
one_inside (pats.Path x) = seconds 8 (pat_tree (pats.Path x))
one_inside (pats.Struct x) = seconds 8 (pat_tree (pats.Struct x))
one_inside (pats.TupleStruct x) = seconds 8 (pat_tree (pats.TupleStruct x))

-- the kind of a range's form, by its start
abbrev pub range_kind : Option RangeBound → k.Kind
range_kind None = k.RangeToPattern
range_kind (Some (bounds.Lit l)) = k.LiteralPattern
range_kind (Some (bounds.Path p)) = k.PathPattern

-- the kind of a pattern's form
abbrev pub pat_kind : Pat → k.Kind
pat_kind (pats.«Ident» x) = k.IdentPattern
pat_kind (pats.Wild x) = k.WildPattern
pat_kind (pats.Range x) = range_kind x.start
pat_kind (pats.Rest x) = k.RestPattern
pat_kind (pats.Paren x) = k.TuplePattern
pat_kind (pats.Tuple x) = k.TuplePattern
pat_kind (pats.Or x) = k.Pattern
pat_kind (pats.Slice x) = k.SlicePattern
pat_kind (pats.Reference x) = k.ReferencePattern
pat_kind (pats.Lit x) = k.LiteralPattern
pat_kind (pats.Path x) = k.PathPattern
pat_kind (pats.Struct x) = k.PathPattern
pat_kind (pats.TupleStruct x) = k.PathPattern

-- one alternative
abbrev pub one_pattern_tree : Pat → Tree
one_pattern_tree p = t.Node k.OnePattern (one_inside p)

-- alternatives, or one
abbrev pub pattern_tree : Pat → Tree
pattern_tree (pats.Or x) = pat_or x
pattern_tree p = t.Node k.Pattern (t.Pair (t.Second t.Nil) (t.Pair (one_pattern_tree p) t.End))

-- alternatives, or one, with no | in front
abbrev pub several_tree : Pat → Tree
several_tree (pats.Or x) = t.Node k.SeveralPatterns (t.Pair x.first.now (turns_tree x.others))
several_tree p = t.Node k.SeveralPatterns (t.Pair (one_pattern_tree p) t.End)

-- the form of each of the three: a range without a start and an end is none
abbrev pub one_form_of : Pat → Tree
one_form_of (pats.Or x) = in_parens x
one_form_of p = choice (pat_tree p)

abbrev pub pattern_form_of : Pat → Tree
pattern_form_of (pats.Or x) = alternatives_tree x
pattern_form_of p = choice (pat_tree p)

abbrev pub several_form_of : Pat → Tree
several_form_of (pats.Or x) = alternatives (t.Second t.Nil) x.first.now (turns_tree x.others)
several_form_of p = choice (pat_tree p)
