use Rattle.std.proofs.Common.{◌∙◌, ℕ, List, ap, sym, subst, inl, inr, ⊎_elim}
use Rattle.std.proofs.lemmas.Str.{scalars-chars}
use Rattle.std.specs.Prelude.{Err}
use Rattle.std.specs.Str.{chars}
use Rattle.rust_leaf.specs.Leaf.{text_of}
use Rattle.canon.specs.Joined.{IsFaultAmong, put_in, texts_of}
use Rattle.canon.specs.declared.fault.Fault.{Fault}
use Rattle.canon.specs.declared.fault.Fault.TheVariants.{MapFull}
use Rattle.canon.proofs.Joined.{all_behind, full_or_memory, full_there, had_room}
use Rattle.canon.proofs.Joined.{joined_faultless, joined_output, lacks_room, lacks_whole, whole_decides, whole_lacks}
use Rattle.canon.proofs.JoinedText.{err_as, err_here, error_is, joined_characters, ok_as, on_ok, same_fault}
use Rattle.canon.proofs.Paged.{error_as}
use Rattle.canon.proofs.joins.canonical_joined.Goals as goal

pub returns-in_err-put_texts-clause-fault : goal.returns-in_err-put_texts-clause-fault
returns-in_err-put_texts-clause-fault c =
    let texts : List (List ℕ) = texts_of c.args.texts.now in
    error_as c.from_residual.result _ (IsFaultAmong texts) c.from_residual.ensures.1
    (λ e is. subst (IsFaultAmong texts) (sym is) c.in_err-put_texts.ensures.fault)

pub returns-in_err-put_texts-clause-full : goal.returns-in_err-put_texts-clause-full
returns-in_err-put_texts-clause-full c full =
    let texts : List (List ℕ) = texts_of c.args.texts.now in
    let fault : Fault = c.in_err-put_texts.field-0.0 in
    let was = error_is c.from_residual.result _ fault c.from_residual.ensures.1 (λ e is. is) in
    lacks_room (put_in texts) c.args.map.now c.put_texts.new.map fault
    c.in_err-put_texts.ensures.decided
    (same_fault c.from_residual.result fault MapFull was full)

pub returns-in_err-put_texts-clause-no_room : goal.returns-in_err-put_texts-clause-no_room
returns-in_err-put_texts-clause-no_room c lacks =
    let texts : List (List ℕ) = texts_of c.args.texts.now in
    let fault : Fault = c.in_err-put_texts.field-0.0 in
    let was = error_is c.from_residual.result _ fault c.from_residual.ensures.1 (λ e is. is) in
    ⊎_elim (λ e. inl (was ∙ ap Err e)) (λ e. inr (was ∙ ap Err e))
    (full_or_memory (put_in texts) c.args.map.now c.put_texts.new.map fault
    c.in_err-put_texts.ensures.decided lacks)

pub returns-clause-output : goal.returns-clause-output
returns-clause-output c =
    let is = sym (ap chars (c.as_str.ensures.value ∙ c.in_ok-joined.ensures.ok)
    ∙ joined_characters c.args.texts.now c.in_ok-put_texts.ensures.text) in
    ok_as c.canonical.result _ _ c.canonical.ensures.output
    (λ s o. joined_output (texts_of c.args.texts.now) c.args.map.now c.put_texts.new.map
    (chars c.as_str.result.now) (text_of s) is c.in_ok-put_texts.ensures.put
    (scalars-chars c.as_str.result.now c.as_str.utf8) o)

pub returns-clause-fault : goal.returns-clause-fault
returns-clause-fault c =
    let is = sym (ap chars (c.as_str.ensures.value ∙ c.in_ok-joined.ensures.ok)
    ∙ joined_characters c.args.texts.now c.in_ok-put_texts.ensures.text) in
    err_as c.canonical.result _ _ c.canonical.ensures.fault
    (λ f was o. joined_faultless (texts_of c.args.texts.now) c.args.map.now c.put_texts.new.map
    (chars c.as_str.result.now) f is c.in_ok-put_texts.ensures.put o)

pub returns-clause-decided : goal.returns-clause-decided
returns-clause-decided c =
    let is = sym (ap chars (c.as_str.ensures.value ∙ c.in_ok-joined.ensures.ok)
    ∙ joined_characters c.args.texts.now c.in_ok-put_texts.ensures.text) in
    err_as c.canonical.result _ _ c.canonical.ensures.fault
    (λ f was o. whole_decides (texts_of c.args.texts.now) c.args.map.now c.put_texts.new.map
    (chars c.as_str.result.now) is c.in_ok-put_texts.ensures.put c.canonical.new.map f o
    (full_there c.canonical.result f _ was c.canonical.ensures.full)
    (err_here c.canonical.result _ f c.canonical.ensures.place was)
    (err_here c.canonical.result _ f c.canonical.ensures.map_err was))

pub returns-clause-put : goal.returns-clause-put
returns-clause-put c =
    let is = sym (ap chars (c.as_str.ensures.value ∙ c.in_ok-joined.ensures.ok)
    ∙ joined_characters c.args.texts.now c.in_ok-put_texts.ensures.text) in
    on_ok c.canonical.result _ _ c.canonical.ensures.map_ok
    (λ s was e. all_behind (texts_of c.args.texts.now) c.args.map.now c.put_texts.new.map
    (chars c.as_str.result.now) is c.in_ok-put_texts.ensures.put c.canonical.new.map
    (had_room c.canonical.result s _ was c.canonical.ensures.full) e)

pub returns-clause-full : goal.returns-clause-full
returns-clause-full c full =
    let is = sym (ap chars (c.as_str.ensures.value ∙ c.in_ok-joined.ensures.ok)
    ∙ joined_characters c.args.texts.now c.in_ok-put_texts.ensures.text) in
    whole_lacks (texts_of c.args.texts.now) c.args.map.now c.put_texts.new.map
    (chars c.as_str.result.now) is c.in_ok-put_texts.ensures.put (c.canonical.ensures.full.0 full)

pub returns-clause-no_room : goal.returns-clause-no_room
returns-clause-no_room c lacks =
    let is = sym (ap chars (c.as_str.ensures.value ∙ c.in_ok-joined.ensures.ok)
    ∙ joined_characters c.args.texts.now c.in_ok-put_texts.ensures.text) in
    inl (c.canonical.ensures.full.1 (lacks_whole (texts_of c.args.texts.now) c.args.map.now c.put_texts.new.map
    (chars c.as_str.result.now) is c.in_ok-put_texts.ensures.put lacks))
