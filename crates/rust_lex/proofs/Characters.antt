-- The test of a character literal at the front of a text says what the definition says.
use Rattle.std.proofs.Common.{◌≡◌, ℕ, List, [], ◌∷◌, ◌++◌, refl, ap, ◌∙◌, subst, ⊎_elim}
use Rattle.std.specs.Prelude.{true, ◌↔◌, ◌==◌, is_some, None}
use Rattle.std.proofs.lemmas.Bool.{and_parts, eqb-true}
use Rattle.rust_escape.specs.declared.mode.Mode.{Mode}
use Rattle.rust_escape.specs.declared.mode.Mode.TheVariants as modes
use Rattle.rust_lex.specs.Quoted.{Char, literal_kind, opening_of, IsTail, IsQuotedLiteral}
use Rattle.rust_lex.specs.QuotedScan.{past_char}
use Rattle.rust_lex.specs.Scan.{begins_char}
use Rattle.rust_lex.proofs.Taken.{option_cases}
use Rattle.rust_lex.proofs.Units.{single_found, single_whole}

begun : (text : List ℕ) → begins_char text ≡ true → (cs rest : List ℕ) × (text ≡ cs ++ rest) × IsQuotedLiteral Char cs
begun [] h = cc
begun (c ∷ cs) h =
    let (q, s) = and_parts (c == 39) (is_some (past_char modes.Char cs)) h in
    ⊎_elim
    (λ n. let k : is_some {T = List ℕ} None ≡ true = subst (λ o. is_some {T = List ℕ} o ≡ true) n s in cc)
    (λ (rest, o). let f = single_found modes.Char cs rest o in
    (39 ∷ f.tail, rest, rw (eqb-true c 39 q, ← f.joined) refl, (modes.Char, f.tail, refl, refl, f.is)))
    (option_cases (past_char modes.Char cs))

begins_on : (mode : Mode) (tail rest : List ℕ) → Char ≡ literal_kind mode → IsTail mode tail
    → begins_char ((opening_of mode ++ tail) ++ rest) ≡ true
begins_on modes.Char tail rest k i = ap is_some (single_whole modes.Char tail rest i)
begins_on modes.Byte tail rest k i = cc
begins_on modes.Str tail rest k i = cc
begins_on modes.ByteStr tail rest k i = cc
begins_on modes.CStr tail rest k i = cc
begins_on modes.RawStr tail rest k i = cc
begins_on modes.RawByteStr tail rest k i = cc
begins_on modes.RawCStr tail rest k i = cc

begins : (text : List ℕ) → (cs rest : List ℕ) × (text ≡ cs ++ rest) × IsQuotedLiteral Char cs → begins_char text ≡ true
begins text (cs, rest, joined, (mode, tail, k, e, i)) =
    ap begins_char (joined ∙ ap (λ x. x ++ rest) e) ∙ begins_on mode tail rest k i

pub begun_character : (text : List ℕ) → begins_char text ≡ true
    ↔ ((cs rest : List ℕ) × (text ≡ cs ++ rest) × IsQuotedLiteral Char cs)
begun_character text = (begun text, begins text)
