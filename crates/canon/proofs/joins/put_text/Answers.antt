use Rattle.std.proofs.Common.{◌≡◌, ◌<◌, ◌∙◌, ℕ, zero, suc, arith, refl, rules, sym, subst}
use Rattle.std.specs.Prelude.{false, ◌==◌}
use Rattle.std.specs.Option.{option_map}
use Rattle.std.specs.Str.{chars}
use Rattle.proc_macro2.specs.Token.{plain}
use Rattle.syn_error.specs.Notes.{place_of}
use Rattle.canon.proofs.Formed.{syntax_is}
use Rattle.canon.proofs.Joined.{stands_there, stands_wrong}
use Rattle.canon.specs.Unread.{IsUnread}
use Rattle.canon.proofs.joins.put_text.Goals as goal
use Rattle.canon.proofs.joins.put_text.Goals.{then-before-eq0, else-before-eq0}

none : (n : ℕ) → 0 < n → n ≡ 0 → ⊥
none n some e = omega (arith, some, e)

some : (n : ℕ) → (n ≡ 0 → ⊥) → 0 < n
some zero e = absurd (e refl)
some (suc n) e = search rules

not_zero : (n : ℕ) → n ≡ 0 → (n == 0) ≡ false → ⊥
not_zero zero e h = cc
not_zero (suc n) e h = none (suc n) (search rules) e

pub returns-in-Ok-has_own_attributes-clause-program :
    goal.returns-in-Ok-has_own_attributes-clause-program
returns-in-Ok-has_own_attributes-clause-program c =
    let read = c.in-Ok-has_own_attributes.ensures.file in
    let stands = stands_there _ c.args.before (chars c.args.text.now) c.in-Ok.file.0 c.in-Ok.file.1 read.0
    c.in-Ok-has_own_attributes.own c.in-Ok.ensures.parsed read.1 read.2 in
    elim c.if-before-eq0.branch [
      | then-before-eq0 w ↦ stands (λ some. absurd (none c.args.before some w.if-before-eq0.true))
      | else-before-eq0 w ↦
          stands (λ some. sym w.may_follow.ensures ∙ sym w.value-is ∙ c.if-may_follow.true)
    ]

pub returns-in-Ok-2-clause-fault : goal.returns-in-Ok-2-clause-fault
returns-in-Ok-2-clause-fault c =
    let read = c.in-Ok-has_own_attributes.ensures.file in
    let wrong = stands_wrong _ c.args.before (chars c.args.text.now) c.in-Ok.file.0 c.in-Ok.file.1 read.0
    c.in-Ok-has_own_attributes.own c.in-Ok.ensures.parsed read.1 read.2 in
    elim c.if-before-eq0.branch [
      | then-before-eq0 w ↦
          absurd (not_zero c.args.before w.if-before-eq0.true (sym w.value-is ∙ c.if-may_follow.false))
      | else-before-eq0 w ↦
          wrong (some c.args.before w.if-before-eq0.false)
          (sym w.may_follow.ensures ∙ sym w.value-is ∙ c.if-may_follow.false)
    ]

pub returns-clause-fault : goal.returns-clause-fault
returns-clause-fault c =
    syntax_is c.args.map.now c.from_file.new.map (chars c.args.text.now)
    (option_map (λ line. chars line.now) c.in-Ok.file.0) c.in-Ok.file.1
    (place_of c.in_ok-error-in-Err-Syntax.error) c.in_ok-error-in-Err-Syntax.place
    c.in-Ok.ensures.parsed c.in-Ok.ensures.map_ok c.in-Ok.ensures.spot
    (subst (IsUnread (plain c.in-Ok.file.1)) c.in-Err-Syntax.field-0-is c.in-Err-Syntax.ensures.refused)
    c.in_ok-error-in-Err-Syntax.ensures
