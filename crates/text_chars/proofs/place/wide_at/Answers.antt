use Rattle.std.proofs.Common.{◌≡◌, ◌+◌, ◌∙◌, sym, ◌++◌, drop}
use Rattle.std.specs.Prelude.{encode_utf8}
use Rattle.std.proofs.lemmas.Str.{IsCharBoundary-from_drop}
use Rattle.text_chars.proofs.Steps.{IsStep, step}
use Rattle.text_chars.proofs.place.wide_at.Goals as goal

pub range_from-rest-requires : goal.range_from-rest-requires
range_from-rest-requires c = λ _. IsCharBoundary-from_drop _ _ c.requires.place.within c.requires.place.cut

stepped : (c : goal.After-len_utf8) → IsStep c.args.text.now c.args.at c.in-Some.c (c.args.at + c.len_utf8.result)
stepped c =
    let h = c.in-Some.ensures.steps in
    let e : drop c.args.at c.args.text.now ≡ encode_utf8 c.in-Some.c ++ c.next.new.self.rest.now =
    sym (c.chars.ensures.rest ∙ c.range_from-rest.ensures.value) ∙ h.0 in
    rw c.len_utf8.ensures.value (step _ _ _ c.in-Some.c c.requires.place e)

pub returns-clause-rest : goal.returns-clause-rest
returns-clause-rest c = (stepped c).rest

pub returns-clause-behind : goal.returns-clause-behind
returns-clause-behind c = (stepped c).behind
