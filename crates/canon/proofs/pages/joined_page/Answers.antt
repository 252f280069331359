use Rattle.std.proofs.Common.{◌∙◌, List, ℕ, ap, sym, subst, inl, inr, ⊎_elim}
use Rattle.std.proofs.lemmas.Str.{IsUtf8-string_bytes}
use Rattle.std.specs.Prelude.{Err, string_bytes}
use Rattle.laws_programs.specs.Joined.{IsJoinedOutput}
use Rattle.rust_leaf.specs.Leaf.{text_of}
use Rattle.canon.specs.Joined.{IsFaultAmong, texts_of}
use Rattle.canon.specs.JoinedRun.{IsJoinedFault, bytes_of}
use Rattle.canon.specs.declared.fault.Fault.{Fault}
use Rattle.canon.specs.declared.fault.Fault.TheVariants.{MapFull, Memory}
use Rattle.canon.proofs.JoinedPaged.{characters_are, joined_page_is, joined_run_fault, lacks_room_of}
use Rattle.canon.proofs.JoinedPaged.{not_both, too_long}
use Rattle.canon.proofs.JoinedText.{error_is, same_fault}
use Rattle.canon.proofs.Paged.{error_as}
use Rattle.canon.proofs.pages.joined_page.Goals as goal

pub returns-in_err-page-clause-fault : goal.returns-in_err-page-clause-fault
returns-in_err-page-clause-fault c =
    let bytes : List (List ℕ) = bytes_of c.args.texts.now in
    let fault : Fault = c.in_err-page.field-0.0 in
    let same = characters_are c.as_slice.result.now c.in_ok-texts.texts.items bytes c.as_slice.ensures.value
    c.in_ok-texts.ensures.same in
    error_as c.from_residual-in_err-page.result _ (IsJoinedFault bytes) c.from_residual-in_err-page.ensures.1
    (λ e is. subst (IsJoinedFault bytes) (sym is) (joined_run_fault bytes fault c.in_ok-texts.ensures.text
    (subst (λ (us : List (List ℕ)). IsFaultAmong us fault) same c.in_err-page.ensures.fault)
    (λ e. too_long c.new.result (texts_of c.as_slice.result.now) bytes c.new.ensures same
    (c.canonical_joined.ensures.full (c.in_err-page.was ∙ ap Err e)))))

pub returns-in_err-page-clause-too_long : goal.returns-in_err-page-clause-too_long
returns-in_err-page-clause-too_long c utf8 long =
    let bytes : List (List ℕ) = bytes_of c.args.texts.now in
    let fault : Fault = c.in_err-page.field-0.0 in
    let same = characters_are c.as_slice.result.now c.in_ok-texts.texts.items bytes c.as_slice.ensures.value
    c.in_ok-texts.ensures.same in
    let r = c.from_residual-in_err-page in
    let is = error_is r.result _ fault r.ensures.1 (λ e is. is) in
    ⊎_elim
    (λ e. inl (is ∙ ap Err (same_fault c.canonical_joined.result fault MapFull c.in_err-page.was e)))
    (λ e. inr (is ∙ ap Err (same_fault c.canonical_joined.result fault Memory c.in_err-page.was e)))
    (c.canonical_joined.ensures.no_room
    (lacks_room_of c.new.result (texts_of c.as_slice.result.now) bytes c.new.ensures same long))

pub returns-clause-page : goal.returns-clause-page
returns-clause-page c =
    let bytes : List (List ℕ) = bytes_of c.args.texts.now in
    let same = characters_are c.as_slice.result.now c.in_ok-texts.texts.items bytes c.as_slice.ensures.value
    c.in_ok-texts.ensures.same in
    joined_page_is bytes (string_bytes c.in_ok-page.page) (string_bytes c.push.new.self) c.in_ok-texts.ensures.text
    (IsUtf8-string_bytes c.in_ok-page.page)
    (subst (λ (us : List (List ℕ)). IsJoinedOutput us (text_of c.in_ok-page.page)) same c.in_ok-page.ensures.output)
    c.in_ok-push.ensures.bytes

pub returns-clause-too_long : goal.returns-clause-too_long
returns-clause-too_long c utf8 long =
    let bytes : List (List ℕ) = bytes_of c.args.texts.now in
    let same = characters_are c.as_slice.result.now c.in_ok-texts.texts.items bytes c.as_slice.ensures.value
    c.in_ok-texts.ensures.same in
    ⊎_elim
    (λ e. absurd (not_both c.canonical_joined.result c.in_ok-page.page MapFull c.in_ok-page.was e))
    (λ e. absurd (not_both c.canonical_joined.result c.in_ok-page.page Memory c.in_ok-page.was e))
    (c.canonical_joined.ensures.no_room
    (lacks_room_of c.new.result (texts_of c.as_slice.result.now) bytes c.new.ensures same long))
