-- The characters that stand for themselves in every literal.
use Rattle.std.proofs.Common.{◌≡◌, ℕ, ◌<◌, arith, refl, sym}
use Rattle.std.specs.Prelude.{true, false, not, ◌&&◌, ◌==◌, nat_le}
use Rattle.std.proofs.lemmas.Bool.{and_parts, not-true, eqb-false, ne_eqb, leb-true, lt-ltb}
use Rattle.rust_escape.specs.LexicalScan.{is_common}
use Rattle.rust_escape.specs.Mode.{Mode, Char, Byte, Str, RawStr, ByteStr, RawByteStr, CStr, RawCStr}
use Rattle.rust_escape.specs.Unit.{Lexical, is_plain}

plain_at : (mode : Mode) (c : ℕ) → (92 == c) ≡ false → (34 == c) ≡ false → (13 == c) ≡ false → (c == 0) ≡ false
    → c < 128 → is_plain Lexical mode c ≡ true
plain_at Char c a b d z l = rw (a, lt-ltb c 128 l) refl
plain_at Byte c a b d z l = rw (a, lt-ltb c 128 l) refl
plain_at Str c a b d z l = rw (a, b, d, lt-ltb c 128 l) refl
plain_at RawStr c a b d z l = rw (d, lt-ltb c 128 l) refl
plain_at ByteStr c a b d z l = rw (a, b, d, lt-ltb c 128 l) refl
plain_at RawByteStr c a b d z l = rw (d, lt-ltb c 128 l) refl
plain_at CStr c a b d z l = rw (a, b, d, z, lt-ltb c 128 l) refl
plain_at RawCStr c a b d z l = rw (d, z, lt-ltb c 128 l) refl

pub common_plain : (mode : Mode) (c : ℕ) → is_common c ≡ true → is_plain Lexical mode c ≡ true
common_plain mode c h =
    let (a, b) = and_parts (nat_le 32 c && nat_le c 126) (not (c == 34) && not (c == 92)) h in
    let (low, high) = and_parts (nat_le 32 c) (nat_le c 126) a in
    let (quote, slash) = and_parts (not (c == 34)) (not (c == 92)) b in
    let from = leb-true 32 c low in
    let to = leb-true c 126 high in
    let no_slash = eqb-false c 92 (not-true (c == 92) slash) in
    let no_quote = eqb-false c 34 (not-true (c == 34) quote) in
    plain_at mode c
    (ne_eqb 92 c (λ e. no_slash (sym e)))
    (ne_eqb 34 c (λ e. no_quote (sym e)))
    (ne_eqb 13 c (λ e. absurd (omega arith)))
    (ne_eqb c 0 (λ e. absurd (omega arith)))
    (omega arith)

pub ruleset commons = (common_plain)
