use Rattle.std.proofs.Common.{rules}
use Rattle.std.proofs.lemmas.Str.{chars-nil}
use Rattle.rust_leaf.proofs.CStrings.{written_character, written_byte, written_all, shorter}
use Rattle.rust_leaf.proofs.escape.push_c_bytes.Goals as goal

pub loop-byte-smaller-in-Some-first_char : goal.loop-byte-smaller-in-Some-first_char
loop-byte-smaller-in-Some-first_char c = shorter _ _ _ c.in-Some-first_char.ensures.value

pub loop-byte-preserved-in-Some-first_char : goal.loop-byte-preserved-in-Some-first_char
loop-byte-preserved-in-Some-first_char c =
    written_character _ _ _ _ _ _ _ c.loop-byte.invariant c.in-Some-first_char.ensures.scalar
    c.in-Some-first_char.ensures.value
    (rw chars-nil at c.in_ok-push_char-in-Some-first_char.ensures)

pub loop-byte-preserved : goal.loop-byte-preserved
loop-byte-preserved c =
    written_byte _ _ _ _ _ _ _ c.loop-byte.invariant c.in-None.ensures.none c.in-Some.ensures.cases.0 (search rules)

pub returns : goal.returns
returns c = written_all _ _ _ _ c.loop-byte.invariant c.in_default.ensures.cases
