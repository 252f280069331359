use Rattle.std.proofs.Common.{◌∙◌, ap, sym}
use Rattle.std.specs.Prelude.{◌&&◌, ◌||◌, Bool, nat_eq, not}
use Rattle.laws_binding.specs.Written.{Written, ends_in, fits_left, is_over}
use Rattle.syn_grammar.specs.Forms.{is_dotted, level}
use Rattle.syn_grammar.specs.Kind.{Kind}
use Rattle.syn_grammar.specs.Tree.{flat}
use Rattle.reader_table.specs.Kinds.{kind_of, position_of}
use Rattle.writer_built.specs.Facts.{facts_of}
use Rattle.writer_built.proofs.stays.stays_left.Goals as goal

-- no struct, and what stands there may stand
pub returns-then-may_stand : goal.returns-then-may_stand
returns-then-may_stand c y ts head =
    let k : Kind = kind_of c.args.kind in
    let v : Written = facts_of ts c.args.facts in
    let stands : Bool = fits_left k v && (not (ends_in (position_of c.args.position) v) || is_dotted k) in
    let precedes : Bool = not (nat_eq (level k) 7 && c.args.facts.compares) && is_over k (flat y) v in
    c.may_precede.ensures ts (flat y) head
    ∙ ap (λ b. b && precedes) (sym c.if-may_stand.true ∙ c.may_stand.ensures ts)
    ∙ ap (λ b. b || (stands && precedes)) (sym c.if-is_struct.false ∙ c.is_struct.ensures)
