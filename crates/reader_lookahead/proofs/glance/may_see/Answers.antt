-- A look sees nothing where no token stands that it may begin with.
use Rattle.std.proofs.Common.{rules}
use Rattle.reader_tokens.specs.Tokens.{tokens}
use Rattle.reader_table.specs.declared.composite.Composite.TheVariants as composites
use Rattle.reader_lookahead.proofs.Glances.{so, turbofish_none, ident_eq_none, named_none, pointer_none, vert_none}
use Rattle.reader_lookahead.proofs.Glances.{inner_none, ident_lt_none, signature_none, const_trait_none}
use Rattle.reader_lookahead.proofs.Glances.{const_impl_none, literal_none, macro_item_none, macro_statement_none}
use Rattle.reader_lookahead.proofs.Glances.{item_none}
use Rattle.reader_lookahead.proofs.glance.may_see.Goals as goal

pub returns-in-Turbofish : goal.returns-in-Turbofish
returns-in-Turbofish c h =
    so c.args.composite composites.Turbofish (tokens c.args.at.now) c.in-Turbofish.is
    (turbofish_none (tokens c.args.at.now) (search rules))

pub returns-in-IdentThenEq : goal.returns-in-IdentThenEq
returns-in-IdentThenEq c h =
    so c.args.composite composites.IdentThenEq (tokens c.args.at.now) c.in-IdentThenEq.is
    (ident_eq_none (tokens c.args.at.now) (search rules))

pub returns-in-NamedArgument : goal.returns-in-NamedArgument
returns-in-NamedArgument c h =
    so c.args.composite composites.NamedArgument (tokens c.args.at.now) c.in-NamedArgument.is
    (named_none (tokens c.args.at.now) (search rules))

pub returns-in-FnPtrStands : goal.returns-in-FnPtrStands
returns-in-FnPtrStands c h =
    so c.args.composite composites.FnPtrStands (tokens c.args.at.now) c.in-FnPtrStands.is
    (pointer_none (tokens c.args.at.now) (search rules))

pub returns-in-Vert : goal.returns-in-Vert
returns-in-Vert c h =
    so c.args.composite composites.Vert (tokens c.args.at.now) c.in-Vert.is
    (vert_none (tokens c.args.at.now) (search rules))

pub returns-in-InnerAttribute : goal.returns-in-InnerAttribute
returns-in-InnerAttribute c h =
    so c.args.composite composites.InnerAttribute (tokens c.args.at.now) c.in-InnerAttribute.is
    (inner_none (tokens c.args.at.now) (search rules))

pub returns-in-IdentThenLt : goal.returns-in-IdentThenLt
returns-in-IdentThenLt c h =
    so c.args.composite composites.IdentThenLt (tokens c.args.at.now) c.in-IdentThenLt.is
    (ident_lt_none (tokens c.args.at.now) (search rules))

pub returns-in-SignatureStands : goal.returns-in-SignatureStands
returns-in-SignatureStands c h =
    so c.args.composite composites.SignatureStands (tokens c.args.at.now) c.in-SignatureStands.is
    (signature_none (tokens c.args.at.now) (search rules))

pub returns-else-quoted : goal.returns-else-quoted
returns-else-quoted c h =
    so c.args.composite composites.ALiteral (tokens c.args.at.now) c.in-ALiteral.is
    (literal_none (tokens c.args.at.now) (search rules) (search rules))

pub returns-else-begins_call : goal.returns-else-begins_call
returns-else-begins_call c h =
    so c.args.composite composites.MacroItemBehindAttributes (tokens c.args.at.now) c.in-MacroItemBehindAttributes.is
    (macro_item_none (tokens c.args.at.now) (search rules) (search rules))

pub returns-else-begins_call-2 : goal.returns-else-begins_call-2
returns-else-begins_call-2 c h =
    so c.args.composite composites.MacroStatementBehindAttributes (tokens c.args.at.now)
    c.in-MacroStatementBehindAttributes.is
    (macro_statement_none (tokens c.args.at.now) (search rules) (search rules))

pub returns-else-begins_item : goal.returns-else-begins_item
returns-else-begins_item c h =
    so c.args.composite composites.ItemBehindAttributes (tokens c.args.at.now) c.in-ItemBehindAttributes.is
    (item_none (tokens c.args.at.now) (search rules) (search rules))

pub returns-in-ConstTrait : goal.returns-in-ConstTrait
returns-in-ConstTrait c h =
    so c.args.composite composites.ConstTrait (tokens c.args.at.now) c.in-ConstTrait.is
    (const_trait_none (tokens c.args.at.now) (search rules))

pub returns-in-ConstImpl : goal.returns-in-ConstImpl
returns-in-ConstImpl c h =
    so c.args.composite composites.ConstImpl (tokens c.args.at.now) c.in-ConstImpl.is
    (const_impl_none (tokens c.args.at.now) (search rules))
