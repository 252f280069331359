use Rattle.std.proofs.Common.{arith, ap, ◌∙◌}
use Rattle.rust_escape.specs.LexicalScan.{lexical_scan}
use Rattle.rust_escape.specs.Places.{rest_at}
use Rattle.rust_escape.proofs.LexicalSteps.{scan_slash, scan_one}
use Rattle.rust_escape.proofs.Steps.{scanned_next}
use Rattle.rust_escape.proofs.lexical.scanned_unit.Goals as goal

pub returns-then-c-is_raw-clause-scanned : goal.returns-then-c-is_raw-clause-scanned
returns-then-c-is_raw-clause-scanned c =
    let test = rw c.is_raw.ensures at c.if-c-is_raw.true in
    scanned_next c.args.text.now c.args.start c.char_at-c.result.1 _ _ _
    (ap (λ t. lexical_scan c.args.mode t) c.char_at-c.ensures.rest ∙ scan_slash c.args.mode c.char_at-c.result.0
    (rest_at c.args.text.now c.char_at-c.result.1) test)
    (omega (arith, c.char_at-c.ensures.behind.on))
    c.slash.ensures

pub returns-clause-scanned : goal.returns-clause-scanned
returns-clause-scanned c =
    let test = rw c.is_raw.ensures at c.if-c-is_raw.false in
    scanned_next c.args.text.now c.args.start c.char_at-c.result.1 _ _ _
    (ap (λ t. lexical_scan c.args.mode t) c.char_at-c.ensures.rest ∙ scan_one c.args.mode c.char_at-c.result.0
    (rest_at c.args.text.now c.char_at-c.result.1) test)
    (omega (arith, c.char_at-c.ensures.behind.on))
    c.one.ensures
