-- Identifiers, and the quote mark of a lifetime.
use Rattle.std.specs.Prelude.{◌≡◌, ℕ, Bool, true, false, ◌&&◌, ◌||◌, ◌==◌, not, List, [], ◌∷◌, ◌++◌, drop}
use Rattle.std.specs.Prelude.{codes, if◌then◌else◌}
use Rattle.rust_lex.specs.Chars.{is_first, is_next, begins, passes, begins_with, is_tick, is_tick_or_hash, past}

-- a character that an identifier begins with, and any that it goes on with
abbrev pub IsWord : List ℕ → Type 0
IsWord [] = ⊥
IsWord (c ∷ cs) = (is_first c ≡ true) × (passes is_next cs ≡ true)

-- a text begins with a word, behind which an identifier doesn't go on
abbrev pub begins_word : List ℕ → List ℕ → Bool
begins_word [] cs = not (begins is_next cs)
begins_word (d ∷ ds) [] = false
begins_word (d ∷ ds) (c ∷ cs) = c == d && begins_word ds cs

-- the identifier that a text begins with is _ super self Self or crate, none of which is ever raw
unfoldable pub begins_never_raw : List ℕ → Bool
begins_never_raw cs = begins_word (codes "_") cs
    || (begins_word (codes "super") cs
    || (begins_word (codes "self") cs || (begins_word (codes "Self") cs || begins_word (codes "crate") cs)))

-- r#
abbrev pub begins_raw_mark : List ℕ → Bool
begins_raw_mark cs = begins_with (114 ∷ 35 ∷ []) cs

-- the name of a raw identifier stands there
abbrev pub begins_raw_name : List ℕ → Bool
begins_raw_name cs = begins is_first cs && not (begins_never_raw cs)

-- r# and an identifier that may be raw, before a rest
abbrev pub IsRawWord : List ℕ → List ℕ → Type 0
IsRawWord cs rest = (name : List ℕ) × (cs ≡ 114 ∷ 35 ∷ name) × IsWord name × (begins_never_raw (name ++ rest) ≡ false)

-- behind a quote that is a mark: an identifier stands there, and behind it neither ' nor #;
-- behind a raw identifier # may stand
unfoldable pub begins_lifetime : List ℕ → Bool
begins_lifetime cs =
    if begins_raw_mark cs then begins_raw_name (drop 2 cs) && not (begins is_tick (past is_next (drop 2 cs)))
    else begins is_first cs && not (begins is_tick_or_hash (past is_next cs))
