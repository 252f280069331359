use Rattle.std.proofs.Common.{◌≡◌, ◌∙◌, ap}
use Rattle.std.proofs.lemmas.Result.{IfOk-weaker}
use Rattle.std.specs.Str.{chars}
use Rattle.rust_leaf.specs.Leaf.{ident_span, ident_text}
use Rattle.syn_input.specs.Raw.{unraw_text}
use Rattle.syn_input.proofs.RawTexts.{printed_ident, text_behind_raw, unraw_behind, unraw_none}
use Rattle.syn_input.proofs.ident_ext.IdentIdentExt.unraw.Goals as goal

pub from_text-requires : goal.from_text-requires
from_text-requires c =
    text_behind_raw c.args.self.now c.as_str.result.now (chars c.in-Some.name.now)
    (printed_ident c.args.self.now c.as_str.result.now (c.as_str.ensures.value ∙ c.in_ok-printed.ensures.ok))
    c.in-Some.ensures.some

pub returns-in-Some-clause-text : goal.returns-in-Some-clause-text
returns-in-Some-clause-text c =
    IfOk-weaker c.from_text.result (λ bare. ident_text bare ≡ chars c.in-Some.name.now)
    (λ bare. ident_text bare ≡ unraw_text (ident_text c.args.self.now))
    (λ bare e. e ∙ unraw_behind c.args.self.now c.as_str.result.now (chars c.in-Some.name.now)
    (printed_ident c.args.self.now c.as_str.result.now (c.as_str.ensures.value ∙ c.in_ok-printed.ensures.ok))
    c.in-Some.ensures.some)
    c.from_text.ensures.text_is

pub returns-clause-text : goal.returns-clause-text
returns-clause-text c =
    IfOk-weaker c.try_clone.result
    (λ copy. (ident_text copy, ident_span copy) ≡ (ident_text c.args.self.now, ident_span c.args.self.now))
    (λ bare. ident_text bare ≡ unraw_text (ident_text c.args.self.now))
    (λ bare e. ap (λ both. both.0) e ∙ unraw_none c.args.self.now c.as_str.result.now
    (printed_ident c.args.self.now c.as_str.result.now (c.as_str.ensures.value ∙ c.in_ok-printed.ensures.ok))
    c.in-None.ensures.none)
    c.try_clone.ensures.copy
