use Rattle.std.proofs.Common.{◌≤◌, ℕ, List, arith, refl, subst, length}
use Rattle.std.specs.Str.{chars, IsUtf8}
use Rattle.std.proofs.lemmas.Str.{encodes-chars, length-le-encodes}
use Rattle.proc_macro2.proofs.parse.span_ahead.Goals as goal

-- a text has no more characters than bytes
few : (bytes : List ℕ) → IsUtf8 bytes → length (chars bytes) ≤ length bytes
few bytes u = let P : List ℕ
    → Type 0 = λ bs. length (chars bytes) ≤ length bs in subst P (encodes-chars bytes u)
    (length-le-encodes (chars bytes))

pub returns-in-Ok-clause-full : goal.returns-in-Ok-clause-full
returns-in-Ok-clause-full c =
    let h = few c.args.text.now c.utf8.text in
    let fits = c.in-Ok.ensures.fits.0 refl in
    (λ e. cc, λ past. absurd (omega arith))

pub returns-in-Ok-clause-end : goal.returns-in-Ok-clause-end
returns-in-Ok-clause-end c =
    let h = few c.args.text.now c.utf8.text in
    let span = c.in-Ok.ensures.span in
    rw span (omega arith)
