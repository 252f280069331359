-- Which values of the types of types, bounds, paths and patterns are trees, where their fields may contradict each
-- other.
use Rattle.reader_table.specs.declared.kind.Plus.{Plus}
use Rattle.reader_table.specs.declared.kind.Plus.TheVariants as pluses
use Rattle.reader_table.specs.declared.kind.Style.{Style}
use Rattle.reader_table.specs.declared.kind.Style.TheVariants as styles
use Rattle.reader_table.specs.Words.{sign_text}
use Rattle.reader_table.specs.declared.word.Sign.{Sign}
use Rattle.reader_table.specs.declared.word.Sign.TheVariants as signs
use Rattle.std.specs.Prelude.{◌≡◌, Bool, true, false, None, Option, Some}
use Rattle.syn_part.specs.Leaves.{list_tree}
use Rattle.syn_ast.specs.Types.{no_lone}
use Rattle.syn_ast.specs.declared.bounds.TraitBoundModifier.{TraitBoundModifier}
use Rattle.syn_ast.specs.declared.bounds.TraitBoundModifier.TheVariants as modifiers
use Rattle.syn_ast.specs.declared.bounds.TypeParamBound.{TypeParamBound}
use Rattle.syn_ast.specs.declared.bounds.TypeParamBound.TheVariants as bounds
use Rattle.syn_part.specs.declared.leaf.Mark.{Mark}
use Rattle.syn_part.specs.declared.list.Elements.{Elements}
use Rattle.syn_pat.specs.declared.pat.Pat.{Pat}
use Rattle.syn_pat.specs.declared.pat.Pat.TheVariants as pats
use Rattle.syn_pat.specs.declared.patterns.RangeBound.{RangeBound}
use Rattle.syn_pat.specs.declared.patterns.RangeLimits.{RangeLimits}
use Rattle.syn_pat.specs.declared.patterns.RangeLimits.TheVariants as limits
use Rattle.syn_ast.specs.declared.paths.OneSegment.{OneSegment}
use Rattle.syn_ast.specs.declared.paths.PathArguments.{PathArguments}
use Rattle.syn_ast.specs.declared.paths.PathArguments.TheVariants as arguments
use Rattle.syn_ast.specs.declared.paths.Segments.{Segments}
use Rattle.syn_part.specs.declared.sub.Marked.{Marked}
use Rattle.syn_ast.specs.declared.types.TypeBounds.{TypeBounds}
use Rattle.syn_ast.specs.declared.types.TypeBounds.TheVariants as boundses
use Rattle.syn_ast.specs.declared.types.«Type».{«Type» as Type'}
use Rattle.syn_ast.specs.declared.types.«Type».TheVariants as types
use Rattle.syn_grammar.specs.Tree.{Tree}
use denote.Bor.{Bor}

-- the list of a tuple stands in it as it is: one element without a comma would be left out
abbrev pub IsTuple : Elements → Type 0
IsTuple l = no_lone (list_tree l) ≡ list_tree l

-- where a + may stand a list of bounds stands, perhaps of one, and elsewhere one bound alone
abbrev pub AreBounds : Plus → TypeBounds → Type 0
AreBounds pluses.WithPlus (boundses.Several x) = Unit {0}
AreBounds pluses.WithoutPlus (boundses.One x) = Unit {0}
AreBounds _ _ = ⊥

-- a type that is a tuple has such a list, and one that is dyn or impl such bounds
abbrev pub IsWholeType : Type' → Type 0
IsWholeType (types.Tuple x) = IsTuple x.elems
IsWholeType (types.TraitObject x) = AreBounds x.plus x.bounds
IsWholeType (types.ImplTrait x) = AreBounds x.plus x.bounds
IsWholeType _ = Unit {0}

-- a trait stands behind ? or behind for<'a>, and never behind both
abbrev pub IsTraitFront : TraitBoundModifier → Option (Bor Tree) → Type 0
IsTraitFront (modifiers.Maybe m) (Some x) = ⊥
IsTraitFront _ _ = Unit {0}

-- a bound: a lifetime, or a trait of which that holds
abbrev pub IsWholeBound : TypeParamBound → Type 0
IsWholeBound (bounds.Lifetime l) = Unit {0}
IsWholeBound (bounds.Trait x) = IsTraitFront x.modifier x.lifetimes

-- a keyword has no arguments
abbrev pub IsBare : PathArguments → Type 0
IsBare arguments.None = Unit {0}
IsBare _ = ⊥

-- behind arguments in parentheses no further segments stand
abbrev pub IsNameEnd : PathArguments → Option Marked → Type 0
IsNameEnd (arguments.Parenthesized x) (Some m) = ⊥
IsNameEnd _ _ = Unit {0}

abbrev pub IsSegmentEnd : Bool → PathArguments → Option Marked → Type 0
IsSegmentEnd true a o = IsBare a
IsSegmentEnd false a o = IsNameEnd a o

-- in a path of a module no arguments stand, and in parentheses they stand only in a type or a bound
abbrev pub AreArgumentsIn : Style → PathArguments → Type 0
AreArgumentsIn s arguments.None = Unit {0}
AreArgumentsIn styles.InModule (arguments.AngleBracketed x) = ⊥
AreArgumentsIn s (arguments.AngleBracketed x) = Unit {0}
AreArgumentsIn styles.AtType (arguments.Parenthesized x) = Unit {0}
AreArgumentsIn s (arguments.Parenthesized x) = ⊥

abbrev pub AreWhole : Segments → Type 0
AreWhole x = AreArgumentsIn x.style x.first.arguments × IsSegmentEnd x.is_keyword x.first.arguments x.others

-- of a segment by itself too
abbrev pub IsLoneSegment : Bool → PathArguments → Type 0
IsLoneSegment true a = IsBare a
IsLoneSegment false a = Unit {0}

abbrev pub IsWholeSegment : OneSegment → Type 0
IsWholeSegment x = AreArgumentsIn x.style x.segment.arguments × IsLoneSegment x.is_keyword x.segment.arguments

-- behind ..= an end stands
abbrev pub IsRangeEnd : RangeLimits → Option (Bor Tree) → Type 0
IsRangeEnd (limits.Closed m) None = ⊥
IsRangeEnd _ _ = Unit {0}

-- a range has such an end behind its start, and without a start it has an end
abbrev pub HasRangeEnd : Option RangeBound → RangeLimits → Option (Bor Tree) → Type 0
HasRangeEnd (Some b) l o = IsRangeEnd l o
HasRangeEnd None l (Some x) = Unit {0}
HasRangeEnd None l None = ⊥

-- a punctuation is that one
abbrev pub IsSign : Sign → Mark → Type 0
IsSign s m = sign_text m.sign ≡ sign_text s

-- the punctuation of a range is .. or ..=, as it says
abbrev pub IsLimit : RangeLimits → Type 0
IsLimit (limits.HalfOpen m) = IsSign signs.DotDot m
IsLimit (limits.Closed m) = IsSign signs.DotDotEq m

-- a range in a pattern is both
abbrev pub IsRange : Option RangeBound → RangeLimits → Option (Bor Tree) → Type 0
IsRange b l o = IsLimit l × HasRangeEnd b l o

-- a pattern that is a range is such a one
abbrev pub IsWholePat : Pat → Type 0
IsWholePat (pats.Range x) = IsRange x.start x.limits x.end
IsWholePat _ = Unit {0}
