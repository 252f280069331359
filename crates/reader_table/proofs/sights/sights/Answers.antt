-- Each arm gives a row, and the row is evaluated. Written by tools/rows.py.
use Rattle.std.proofs.Common.{sym, ap}
use Rattle.reader_table.specs.Composites.{composite_of}
use Rattle.reader_table.proofs.sights.sights.Goals as goal

pub returns-in-Turbofish : goal.returns-in-Turbofish
returns-in-Turbofish c = sym (ap composite_of c.in-Turbofish.is)

pub returns-in-ArgumentsStand : goal.returns-in-ArgumentsStand
returns-in-ArgumentsStand c = sym (ap composite_of c.in-ArgumentsStand.is)

pub returns-in-ALiteral : goal.returns-in-ALiteral
returns-in-ALiteral c = sym (ap composite_of c.in-ALiteral.is)

pub returns-in-IdentThenEq : goal.returns-in-IdentThenEq
returns-in-IdentThenEq c = sym (ap composite_of c.in-IdentThenEq.is)

pub returns-in-FnPtrStands : goal.returns-in-FnPtrStands
returns-in-FnPtrStands c = sym (ap composite_of c.in-FnPtrStands.is)

pub returns-in-NamedArgument : goal.returns-in-NamedArgument
returns-in-NamedArgument c = sym (ap composite_of c.in-NamedArgument.is)

pub returns-in-BoundStands : goal.returns-in-BoundStands
returns-in-BoundStands c = sym (ap composite_of c.in-BoundStands.is)

pub returns-in-Vert : goal.returns-in-Vert
returns-in-Vert c = sym (ap composite_of c.in-Vert.is)

pub returns-in-IdentPatternStands : goal.returns-in-IdentPatternStands
returns-in-IdentPatternStands c = sym (ap composite_of c.in-IdentPatternStands.is)

pub returns-in-RangeToPatternStands : goal.returns-in-RangeToPatternStands
returns-in-RangeToPatternStands c = sym (ap composite_of c.in-RangeToPatternStands.is)

pub returns-in-Dots : goal.returns-in-Dots
returns-in-Dots c = sym (ap composite_of c.in-Dots.is)

pub returns-in-LiteralPatternStands : goal.returns-in-LiteralPatternStands
returns-in-LiteralPatternStands c = sym (ap composite_of c.in-LiteralPatternStands.is)

pub returns-in-RangeEndStands : goal.returns-in-RangeEndStands
returns-in-RangeEndStands c = sym (ap composite_of c.in-RangeEndStands.is)

pub returns-in-RangeBoundStands : goal.returns-in-RangeBoundStands
returns-in-RangeBoundStands c = sym (ap composite_of c.in-RangeBoundStands.is)

pub returns-in-MemberColon : goal.returns-in-MemberColon
returns-in-MemberColon c = sym (ap composite_of c.in-MemberColon.is)

pub returns-in-InnerAttribute : goal.returns-in-InnerAttribute
returns-in-InnerAttribute c = sym (ap composite_of c.in-InnerAttribute.is)

pub returns-in-AnyDelimiter : goal.returns-in-AnyDelimiter
returns-in-AnyDelimiter c = sym (ap composite_of c.in-AnyDelimiter.is)

pub returns-in-ImplGenericsStand : goal.returns-in-ImplGenericsStand
returns-in-ImplGenericsStand c = sym (ap composite_of c.in-ImplGenericsStand.is)

pub returns-in-LifetimeBehindAttributes : goal.returns-in-LifetimeBehindAttributes
returns-in-LifetimeBehindAttributes c = sym (ap composite_of c.in-LifetimeBehindAttributes.is)

pub returns-in-ConstBehindAttributes : goal.returns-in-ConstBehindAttributes
returns-in-ConstBehindAttributes c = sym (ap composite_of c.in-ConstBehindAttributes.is)

pub returns-in-WhereEnds : goal.returns-in-WhereEnds
returns-in-WhereEnds c = sym (ap composite_of c.in-WhereEnds.is)

pub returns-in-PostfixStands : goal.returns-in-PostfixStands
returns-in-PostfixStands c = sym (ap composite_of c.in-PostfixStands.is)

pub returns-in-IdentAlone : goal.returns-in-IdentAlone
returns-in-IdentAlone c = sym (ap composite_of c.in-IdentAlone.is)

pub returns-in-AnyRestriction : goal.returns-in-AnyRestriction
returns-in-AnyRestriction c = sym (ap composite_of c.in-AnyRestriction.is)

pub returns-in-RestrictedIn : goal.returns-in-RestrictedIn
returns-in-RestrictedIn c = sym (ap composite_of c.in-RestrictedIn.is)

pub returns-in-NotBeforeBrace : goal.returns-in-NotBeforeBrace
returns-in-NotBeforeBrace c = sym (ap composite_of c.in-NotBeforeBrace.is)

pub returns-in-ReceiverStands : goal.returns-in-ReceiverStands
returns-in-ReceiverStands c = sym (ap composite_of c.in-ReceiverStands.is)

pub returns-in-IdentThenLt : goal.returns-in-IdentThenLt
returns-in-IdentThenLt c = sym (ap composite_of c.in-IdentThenLt.is)

pub returns-in-UnsafeOrSafe : goal.returns-in-UnsafeOrSafe
returns-in-UnsafeOrSafe c = sym (ap composite_of c.in-UnsafeOrSafe.is)

pub returns-in-IdentOrTry : goal.returns-in-IdentOrTry
returns-in-IdentOrTry c = sym (ap composite_of c.in-IdentOrTry.is)

pub returns-in-SignatureStands : goal.returns-in-SignatureStands
returns-in-SignatureStands c = sym (ap composite_of c.in-SignatureStands.is)

pub returns-in-ExternCrate : goal.returns-in-ExternCrate
returns-in-ExternCrate c = sym (ap composite_of c.in-ExternCrate.is)

pub returns-in-ConstTrait : goal.returns-in-ConstTrait
returns-in-ConstTrait c = sym (ap composite_of c.in-ConstTrait.is)

pub returns-in-ConstImpl : goal.returns-in-ConstImpl
returns-in-ConstImpl c = sym (ap composite_of c.in-ConstImpl.is)

pub returns-in-UnsafeExtern : goal.returns-in-UnsafeExtern
returns-in-UnsafeExtern c = sym (ap composite_of c.in-UnsafeExtern.is)

pub returns-in-UnsafeMod : goal.returns-in-UnsafeMod
returns-in-UnsafeMod c = sym (ap composite_of c.in-UnsafeMod.is)

pub returns-in-UnsafeImpl : goal.returns-in-UnsafeImpl
returns-in-UnsafeImpl c = sym (ap composite_of c.in-UnsafeImpl.is)

pub returns-in-UnionIdent : goal.returns-in-UnionIdent
returns-in-UnionIdent c = sym (ap composite_of c.in-UnionIdent.is)

pub returns-in-RestrictedTraitStands : goal.returns-in-RestrictedTraitStands
returns-in-RestrictedTraitStands c = sym (ap composite_of c.in-RestrictedTraitStands.is)

pub returns-in-TraitStands : goal.returns-in-TraitStands
returns-in-TraitStands c = sym (ap composite_of c.in-TraitStands.is)

pub returns-in-ImplStands : goal.returns-in-ImplStands
returns-in-ImplStands c = sym (ap composite_of c.in-ImplStands.is)

pub returns-in-MacroStands : goal.returns-in-MacroStands
returns-in-MacroStands c = sym (ap composite_of c.in-MacroStands.is)

pub returns-in-ForeignSignatureStands : goal.returns-in-ForeignSignatureStands
returns-in-ForeignSignatureStands c = sym (ap composite_of c.in-ForeignSignatureStands.is)

pub returns-in-ForeignStaticStands : goal.returns-in-ForeignStaticStands
returns-in-ForeignStaticStands c = sym (ap composite_of c.in-ForeignStaticStands.is)

pub returns-in-DefaultStands : goal.returns-in-DefaultStands
returns-in-DefaultStands c = sym (ap composite_of c.in-DefaultStands.is)

pub returns-in-NameOrPathSep : goal.returns-in-NameOrPathSep
returns-in-NameOrPathSep c = sym (ap composite_of c.in-NameOrPathSep.is)

pub returns-in-MacroItemBehindAttributes : goal.returns-in-MacroItemBehindAttributes
returns-in-MacroItemBehindAttributes c = sym (ap composite_of c.in-MacroItemBehindAttributes.is)

pub returns-in-MacroStatementBehindAttributes : goal.returns-in-MacroStatementBehindAttributes
returns-in-MacroStatementBehindAttributes c = sym (ap composite_of c.in-MacroStatementBehindAttributes.is)

pub returns-in-LetBehindAttributes : goal.returns-in-LetBehindAttributes
returns-in-LetBehindAttributes c = sym (ap composite_of c.in-LetBehindAttributes.is)

pub returns-in-ItemBehindAttributes : goal.returns-in-ItemBehindAttributes
returns-in-ItemBehindAttributes c = sym (ap composite_of c.in-ItemBehindAttributes.is)

pub returns-in-LabelledBlock : goal.returns-in-LabelledBlock
returns-in-LabelledBlock c = sym (ap composite_of c.in-LabelledBlock.is)

pub returns-in-LabelledLoop : goal.returns-in-LabelledLoop
returns-in-LabelledLoop c = sym (ap composite_of c.in-LabelledLoop.is)

pub returns-in-LabelledWhile : goal.returns-in-LabelledWhile
returns-in-LabelledWhile c = sym (ap composite_of c.in-LabelledWhile.is)

pub returns-in-LabelledFor : goal.returns-in-LabelledFor
returns-in-LabelledFor c = sym (ap composite_of c.in-LabelledFor.is)

pub returns-in-TypedClosureStands : goal.returns-in-TypedClosureStands
returns-in-TypedClosureStands c = sym (ap composite_of c.in-TypedClosureStands.is)

pub returns-in-ClosureStands : goal.returns-in-ClosureStands
returns-in-ClosureStands c = sym (ap composite_of c.in-ClosureStands.is)

pub returns-in-RepeatStands : goal.returns-in-RepeatStands
returns-in-RepeatStands c = sym (ap composite_of c.in-RepeatStands.is)

pub returns-in-RawAddrStands : goal.returns-in-RawAddrStands
returns-in-RawAddrStands c = sym (ap composite_of c.in-RawAddrStands.is)

pub returns-in-UnaryStands : goal.returns-in-UnaryStands
returns-in-UnaryStands c = sym (ap composite_of c.in-UnaryStands.is)

pub returns-in-MacroCallStands : goal.returns-in-MacroCallStands
returns-in-MacroCallStands c = sym (ap composite_of c.in-MacroCallStands.is)

pub returns-in-PathStands : goal.returns-in-PathStands
returns-in-PathStands c = sym (ap composite_of c.in-PathStands.is)

pub returns-in-AssignOpStands : goal.returns-in-AssignOpStands
returns-in-AssignOpStands c = sym (ap composite_of c.in-AssignOpStands.is)

pub returns-in-EqualityStands : goal.returns-in-EqualityStands
returns-in-EqualityStands c = sym (ap composite_of c.in-EqualityStands.is)

pub returns-in-AssignStands : goal.returns-in-AssignStands
returns-in-AssignStands c = sym (ap composite_of c.in-AssignStands.is)

pub returns-in-ShiftStands : goal.returns-in-ShiftStands
returns-in-ShiftStands c = sym (ap composite_of c.in-ShiftStands.is)

pub returns-in-LtOrGt : goal.returns-in-LtOrGt
returns-in-LtOrGt c = sym (ap composite_of c.in-LtOrGt.is)

pub returns-in-PlusOrMinus : goal.returns-in-PlusOrMinus
returns-in-PlusOrMinus c = sym (ap composite_of c.in-PlusOrMinus.is)

pub returns-in-ProductStands : goal.returns-in-ProductStands
returns-in-ProductStands c = sym (ap composite_of c.in-ProductStands.is)

pub returns-in-AwaitStands : goal.returns-in-AwaitStands
returns-in-AwaitStands c = sym (ap composite_of c.in-AwaitStands.is)

pub returns-in-MethodStands : goal.returns-in-MethodStands
returns-in-MethodStands c = sym (ap composite_of c.in-MethodStands.is)

pub returns-in-DotStands : goal.returns-in-DotStands
returns-in-DotStands c = sym (ap composite_of c.in-DotStands.is)

pub returns-in-OperandStands : goal.returns-in-OperandStands
returns-in-OperandStands c = sym (ap composite_of c.in-OperandStands.is)

pub returns-in-BreakOperandStands : goal.returns-in-BreakOperandStands
returns-in-BreakOperandStands c = sym (ap composite_of c.in-BreakOperandStands.is)

pub returns-in-RangeIsOpen : goal.returns-in-RangeIsOpen
returns-in-RangeIsOpen c = sym (ap composite_of c.in-RangeIsOpen.is)

pub returns-in-RangeIsOpenInCondition : goal.returns-in-RangeIsOpenInCondition
returns-in-RangeIsOpenInCondition c = sym (ap composite_of c.in-RangeIsOpenInCondition.is)
