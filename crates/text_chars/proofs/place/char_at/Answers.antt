use Rattle.std.proofs.Common.{ap, ◌≡◌, ◌∙◌, get_or}
use Rattle.text_chars.proofs.Steps.{ascii_step}
use Rattle.text_chars.proofs.place.char_at.Goals as goal

pub returns-then-byte-lt128-clause-rest : goal.returns-then-byte-lt128-clause-rest
returns-then-byte-lt128-clause-rest c =
    let k = rw c.as_bytes.ensures.value at c.if-byte-lt128.true in
    let e : c.from.result ≡ get_or c.args.text.now c.args.at 0 =
    c.from.ensures ∙ ap (λ b. get_or b c.args.at 0) c.as_bytes.ensures.value in
    rw e (ascii_step _ _ c.requires.place c.requires.more k).rest

pub returns-then-byte-lt128-clause-behind : goal.returns-then-byte-lt128-clause-behind
returns-then-byte-lt128-clause-behind c =
    let k = rw c.as_bytes.ensures.value at c.if-byte-lt128.true in
    (ascii_step _ _ c.requires.place c.requires.more k).behind
