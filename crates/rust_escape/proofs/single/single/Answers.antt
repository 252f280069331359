use Rattle.std.proofs.Common.{rules}
use Rattle.rust_escape.proofs.Singles.{IsSingle, empty_single, refused_single, found_single, skips_quoted}
use Rattle.rust_escape.specs.declared.error.EscapeError.TheVariants.{ZeroChars}
use Rattle.std.specs.Str.{chars}
use Rattle.rust_escape.proofs.single.single.Goals as goal

pub returns-then-is_empty-clause-malformed : goal.returns-then-is_empty-clause-malformed
returns-then-is_empty-clause-malformed c = (empty_single c.args.mode c.args.src.now ZeroChars (search rules)).malformed

pub returns-then-is_empty-clause-more : goal.returns-then-is_empty-clause-more
returns-then-is_empty-clause-more c = (empty_single c.args.mode c.args.src.now ZeroChars (search rules)).more

pub unreachable-requires : goal.unreachable-requires
unreachable-requires c = skips_quoted c.args.mode c.args.src.now c.scanned_unit-reading.result
    c.scanned_unit-reading.ensures.scanned (search rules) c.requires

pub returns-in-Err-clause-malformed : goal.returns-in-Err-clause-malformed
returns-in-Err-clause-malformed c =
    (refused_single c.args.mode c.args.src.now c.scanned_unit-reading.result c.in-Err.error
    c.scanned_unit-reading.ensures.scanned c.in-Err.is).malformed

pub returns-in-Err-clause-more : goal.returns-in-Err-clause-more
returns-in-Err-clause-more c =
    (refused_single c.args.mode c.args.src.now c.scanned_unit-reading.result c.in-Err.error
    c.scanned_unit-reading.ensures.scanned c.in-Err.is).more

whole : (c : goal.After-only) → IsSingle c.args.mode (chars c.args.src.now) c.only.result.value
whole c = found_single c.args.mode c.args.src.now c.scanned_unit-reading.result c.in-Ok-Some.value c.only.result.value
    c.scanned_unit-reading.ensures.scanned (search rules) c.only.ensures.whole c.only.ensures.more

pub returns-in-Ok-Some-clause-value : goal.returns-in-Ok-Some-clause-value
returns-in-Ok-Some-clause-value c = (whole c).value

pub returns-in-Ok-Some-clause-malformed : goal.returns-in-Ok-Some-clause-malformed
returns-in-Ok-Some-clause-malformed c = (whole c).malformed

pub returns-in-Ok-Some-clause-more : goal.returns-in-Ok-Some-clause-more
returns-in-Ok-Some-clause-more c = (whole c).more
