use Rattle.std.proofs.Common.{◌≡◌, ◌-◌, ◌∙◌, [], ap, arith, drop, length, sym, take}
use Rattle.std.specs.Prelude.{◌==◌, codes, string_bytes}
use Rattle.std.specs.Cmp.Lexicographic.{same_text}
use Rattle.std.proofs.lemmas.Bool.{false≢true}
use Rattle.canon_program.proofs.Words.{one_word, word_and_others}
use Rattle.canon_program.proofs.asked_by.Goals as goal

pub returns-in-len2 : goal.returns-in-len2
returns-in-len2 c =
    one_word string_bytes c.args.words.now c.word-item.result _ c.word-item.is (codes "outline")
    (sym c.as_str.ensures.value ∙ same_text c.as_str.result.now (codes "outline") c.if-eq.ensures)
    (omega (arith, c.in-len2.len_at_least, c.in-len2.len_below))

pub returns-in-len2-up : goal.returns-in-len2-up
returns-in-len2-up c =
    let words = c.args.words.now in
    let some : take (length words - 2) (drop 2 words) ≡ [] → ⊥ =
    λ e. false≢true (c.if-not-is_empty.ensures ∙ ap (λ ys. length ys == 0) e) in (
      word_and_others string_bytes words c.word-item-2.result _ c.word-item-2.is (codes "join")
          (sym c.as_str-2.ensures.value ∙ same_text c.as_str-2.result.now (codes "join") c.if-eq-2.ensures) some,
      some,
    )
