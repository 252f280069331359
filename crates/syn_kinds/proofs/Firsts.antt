-- The first character of a lifetime's text.
use Rattle.std.proofs.Common.{◌≡◌, ℕ, List, ◌∷◌, ◌++◌, ap, ◌&&◌, sym, ◌∙◌, IsTrue}
use Rattle.std.specs.Prelude.{◌==◌, true, false, Bool}
use Rattle.std.specs.Char.{encode_utf8}
use Rattle.std.specs.Str.{chars, IsUtf8}
use Rattle.std.proofs.lemmas.Str.{chars_past_char}
use Rattle.rust_leaf.specs.Identifier.{is_identifier}
use Rattle.syn_kinds.specs.Symbols.{is_symbol}

pub first_of : (bs rest : List ℕ) (c : ℕ) → IsUtf8 bs → bs ≡ encode_utf8 c ++ rest → chars bs ≡ c ∷ chars rest
first_of bs rest c u e = chars_past_char bs rest c u e

pub symbol_of : (bs rest : List ℕ) (c : ℕ) → IsUtf8 bs → bs ≡ encode_utf8 c ++ rest →
    is_symbol (chars bs) ≡ ((c == 39) && is_identifier (chars rest))
symbol_of bs rest c u e = ap is_symbol (chars_past_char bs rest c u e)

pub ruleset firsts = (first_of, symbol_of)
