-- Each arm is that position.
use Rattle.std.proofs.Common.{ap, ◌∙◌}
use Rattle.std.specs.Prelude.{Some, None, ◌∷◌}
use Rattle.proc_macro2.specs.Token.{Opens}
use Rattle.proc_macro2.specs.declared.delimiter.Delimiter.TheVariants as D
use Rattle.syn_grammar.specs.Forms as f
use Rattle.syn_grammar.specs.Kind as k
use Rattle.reader_tokens.specs.Tokens.{tokens}
use Rattle.reader_table.specs.Kinds.{position_of}
use Rattle.reader_table.specs.declared.kind.Position.{Position}
use Rattle.reader_lookahead.proofs.Backs.{struct_back, brace_plain, brace_condition, brace_arm, brace_statement}
use Rattle.reader_lookahead.proofs.form.brace_back.Goals as goal

pub returns-in-Plain : goal.returns-in-Plain
returns-in-Plain c =
    struct_back (position_of c.args.position) c.args.delimiter (tokens c.args.at.now) (tokens c.args.rest.now)
    (Some k.ExprStruct) c.requires.first c.requires.brace
    (ap (λ (p : Position). f.back (position_of p) (Opens D.Brace ∷ tokens c.args.rest.now)) c.in-Plain.is
    ∙ brace_plain (tokens c.args.rest.now))

pub returns-in-InCondition : goal.returns-in-InCondition
returns-in-InCondition c =
    struct_back (position_of c.args.position) c.args.delimiter (tokens c.args.at.now) (tokens c.args.rest.now)
    None c.requires.first c.requires.brace
    (ap (λ (p : Position). f.back (position_of p) (Opens D.Brace ∷ tokens c.args.rest.now)) c.in-InCondition.is
    ∙ brace_condition (tokens c.args.rest.now))

pub returns-in-InArm : goal.returns-in-InArm
returns-in-InArm c =
    struct_back (position_of c.args.position) c.args.delimiter (tokens c.args.at.now) (tokens c.args.rest.now)
    (Some k.ExprStruct) c.requires.first c.requires.brace
    (ap (λ (p : Position). f.back (position_of p) (Opens D.Brace ∷ tokens c.args.rest.now)) c.in-InArm.is
    ∙ brace_arm (tokens c.args.rest.now))

pub returns-in-InStatement : goal.returns-in-InStatement
returns-in-InStatement c =
    struct_back (position_of c.args.position) c.args.delimiter (tokens c.args.at.now) (tokens c.args.rest.now)
    (Some k.ExprStruct) c.requires.first c.requires.brace
    (ap (λ (p : Position). f.back (position_of p) (Opens D.Brace ∷ tokens c.args.rest.now)) c.in-InStatement.is
    ∙ brace_statement (tokens c.args.rest.now))
