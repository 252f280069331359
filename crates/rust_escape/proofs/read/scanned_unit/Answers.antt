use Rattle.std.proofs.Common.{arith, ap, ◌∙◌}
use Rattle.rust_escape.specs.Scan as scan
use Rattle.rust_escape.specs.Places.{rest_at}
use Rattle.rust_escape.proofs.Steps.{scan_slash, scan_one, scanned_next}
use Rattle.rust_escape.proofs.read.scanned_unit.Goals as goal

pub returns-then-c-is_raw-clause-scanned : goal.returns-then-c-is_raw-clause-scanned
returns-then-c-is_raw-clause-scanned c =
    let test = rw c.is_raw.ensures at c.if-c-is_raw.true in
    scanned_next c.args.text.now c.args.start c.char_at-c.result.1 _ _ _
    (ap (λ t. scan.scan c.args.mode t) c.char_at-c.ensures.rest ∙ scan_slash c.args.mode c.char_at-c.result.0
    (rest_at c.args.text.now c.char_at-c.result.1) test)
    (omega (arith, c.char_at-c.ensures.behind.on))
    c.slash.ensures.scanned

pub returns-clause-scanned : goal.returns-clause-scanned
returns-clause-scanned c =
    let test = rw c.is_raw.ensures at c.if-c-is_raw.false in
    let e = ap (λ t. scan.scan c.args.mode t) c.char_at-c.ensures.rest ∙ scan_one c.args.mode c.char_at-c.result.0
    (rest_at c.args.text.now c.char_at-c.result.1) test in
    record {
      same = rw e (c.plain.ensures (rest_at c.args.text.now c.char_at-c.result.1));
      place = c.char_at-c.ensures.behind.place;
      on = omega (arith, c.char_at-c.ensures.behind.on);
    }
