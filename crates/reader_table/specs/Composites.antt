-- What looks of several steps see, in the words of the written grammar. Written by tools/rows.py.
use Rattle.std.specs.Prelude.{codes, [], ◌∷◌}
use Rattle.syn_grammar.specs.Kind as k
use Rattle.syn_grammar.specs.Look.{Look, ◌then◌, ◌or◌}
use Rattle.syn_grammar.specs.Look.{a_literal, a_lifetime, all_attributes, an_ident, a_name, a_quoted, any_mark, maybe}
use Rattle.syn_grammar.specs.Look.{no}
use Rattle.syn_grammar.specs.Say.{at, marks, parenthesis, brace, bracket}
use Rattle.syn_grammar.specs.Words.{is_index}
use Rattle.syn_grammar.specs.Paths.{turbofish, arguments_stand}
use Rattle.syn_grammar.specs.Types.{colon, bound_stands}
use Rattle.syn_grammar.specs.Patterns.{vert, binding, dots, range_bound_stands, range_end_stands}
use Rattle.syn_grammar.specs.Generics.{impl_generics_stand, where_ends}
use Rattle.syn_grammar.specs.Expressions.{postfix_stands}
use Rattle.syn_grammar.specs.Items.{restricted, restricted_in, receiver_stands, signature_stands, trait_stands}
use Rattle.syn_grammar.specs.Items.{restricted_trait_stands, maybe_safety}
use Rattle.syn_grammar.specs.Lists.{macro_stands}
use Rattle.syn_grammar.specs.Statements.{macro_item_stands, macro_statement_stands, item_stands}
use Rattle.syn_grammar.specs.Forms.{labelled, typed_closure_stands, closure_stands, repeat_stands, macro_call_stands}
use Rattle.syn_grammar.specs.Forms.{dot_stands, operand_stands, range_is_open}
use Rattle.reader_table.specs.declared.composite.Composite.{Composite}
use Rattle.reader_table.specs.declared.composite.Composite.TheVariants as composites

abbrev pub composite_of : Composite → Look
composite_of composites.Turbofish = turbofish
composite_of composites.ArgumentsStand = arguments_stand k.InType
composite_of composites.ALiteral = a_literal
composite_of composites.IdentThenEq = an_ident then marks "="
composite_of composites.FnPtrStands = at "for" or at "unsafe" or at "extern" or at "fn"
composite_of composites.NamedArgument = (an_ident or at "_") then colon
composite_of composites.BoundStands = bound_stands
composite_of composites.Vert = vert
composite_of composites.IdentPatternStands = at "ref" or at "mut" or binding
composite_of composites.RangeToPatternStands = marks "..=" or (dots then range_bound_stands)
composite_of composites.Dots = dots
composite_of composites.LiteralPatternStands = a_literal or marks "-"
composite_of composites.RangeEndStands = range_end_stands
composite_of composites.RangeBoundStands = range_bound_stands
composite_of composites.MemberColon = (an_ident or a_quoted is_index) then marks ":"
composite_of composites.InnerAttribute = marks "#" then marks "!"
composite_of composites.AnyDelimiter = parenthesis or brace or bracket
composite_of composites.ImplGenericsStand = impl_generics_stand
composite_of composites.LifetimeBehindAttributes = all_attributes then a_lifetime
composite_of composites.ConstBehindAttributes = all_attributes then at "const"
composite_of composites.WhereEnds = where_ends
composite_of composites.PostfixStands = postfix_stands
composite_of composites.IdentAlone = an_ident then no (marks ":")
composite_of composites.AnyRestriction = restricted or restricted_in
composite_of composites.RestrictedIn = restricted_in
composite_of composites.NotBeforeBrace = marks "!" then no brace
composite_of composites.ReceiverStands = receiver_stands
composite_of composites.IdentThenLt = an_ident then marks "<"
composite_of composites.UnsafeOrSafe = at "unsafe" or at "safe"
composite_of composites.IdentOrTry = an_ident or at "try"
composite_of composites.SignatureStands = signature_stands k.InFile
composite_of composites.ExternCrate = at "extern" then at "crate"
composite_of composites.ConstTrait = at "const" then trait_stands
composite_of composites.ConstImpl = at "const" then maybe (at "unsafe") then at "impl"
composite_of composites.UnsafeExtern = at "unsafe" then at "extern"
composite_of composites.UnsafeMod = at "unsafe" then at "mod"
composite_of composites.UnsafeImpl = at "unsafe" then at "impl"
composite_of composites.UnionIdent = at "union" then an_ident
composite_of composites.RestrictedTraitStands = restricted_trait_stands
composite_of composites.TraitStands = at "trait" or (at "auto" then at "trait")
composite_of composites.ImplStands = at "impl" or (at "default" then no (marks "!"))
composite_of composites.MacroStands = macro_stands
composite_of composites.ForeignSignatureStands = signature_stands k.InForeign
composite_of composites.ForeignStaticStands = maybe_safety k.InForeign then at "static"
composite_of composites.DefaultStands = at "default" then no (marks "!")
composite_of composites.NameOrPathSep = a_name or marks "::"
composite_of composites.MacroItemBehindAttributes = all_attributes then macro_item_stands
composite_of composites.MacroStatementBehindAttributes = all_attributes then macro_statement_stands
composite_of composites.LetBehindAttributes = all_attributes then at "let"
composite_of composites.ItemBehindAttributes = all_attributes then item_stands
composite_of composites.LabelledBlock = labelled then brace
composite_of composites.LabelledLoop = labelled then at "loop"
composite_of composites.LabelledWhile = labelled then at "while"
composite_of composites.LabelledFor = labelled then at "for"
composite_of composites.TypedClosureStands = typed_closure_stands
composite_of composites.ClosureStands = closure_stands
composite_of composites.RepeatStands = repeat_stands
composite_of composites.RawAddrStands = marks "&" then at "raw" then (at "const" or at "mut")
composite_of composites.UnaryStands = marks "*" or marks "!" or marks "-"
composite_of composites.MacroCallStands = macro_call_stands
composite_of composites.PathStands = a_name or marks "::" or marks "<"
composite_of composites.AssignOpStands = any_mark (codes "+=" ∷ codes "-=" ∷ codes "*=" ∷ codes "/=" ∷ codes "%="
    ∷ codes "^=" ∷ codes "&=" ∷ codes "|=" ∷ codes "<<=" ∷ codes ">>=" ∷ [])
composite_of composites.EqualityStands = any_mark (codes "==" ∷ codes "<=" ∷ codes "!=" ∷ codes ">=" ∷ [])
composite_of composites.AssignStands = no (marks "=>") then marks "="
composite_of composites.ShiftStands = marks "<<" or marks ">>"
composite_of composites.LtOrGt = marks "<" or marks ">"
composite_of composites.PlusOrMinus = marks "+" or marks "-"
composite_of composites.ProductStands = marks "*" or marks "/" or marks "%"
composite_of composites.AwaitStands = dot_stands then at "await"
composite_of composites.MethodStands = dot_stands then an_ident then (parenthesis or marks "::")
composite_of composites.DotStands = dot_stands
composite_of composites.OperandStands = operand_stands
composite_of composites.BreakOperandStands = no brace then operand_stands
composite_of composites.RangeIsOpen = range_is_open k.Plain
composite_of composites.RangeIsOpenInCondition = range_is_open k.InCondition
