-- Comments: the plain ones, which are gaps, and the four forms of docs.
use Rattle.std.specs.Prelude.{◌≡◌, ℕ, zero, suc, Bool, true, false, ◌&&◌, ◌||◌, ◌==◌, not, List, [], ◌∷◌, ◌++◌}
use Rattle.std.specs.Prelude.{Option, Some, None, if◌then◌else◌, ◌⊎◌}
use Rattle.rust_lex.specs.Chars.{begins, passes, is_line_feed, is_not_feed, is_slash, is_slash_or_star}
pub use Rattle.rust_lex.specs.declared.piece.DocKind.{DocKind}
pub use Rattle.rust_lex.specs.declared.piece.DocKind.TheVariants.{OuterLine, InnerLine, OuterBlock, InnerBlock}

-- behind the end of the outermost of n + 1 block comments that are open; in a doc a carriage return
-- stands before a line feed only
unfoldable pub past_comment : Bool → ℕ → List ℕ → Option (List ℕ)
past_comment doc n [] = None
past_comment doc n (c ∷ []) = None
past_comment doc n (c ∷ d ∷ cs) =
    if c == 42 && d == 47 then (elim n [ zero ↦ Some cs | suc m ↦ past_comment doc m cs ])
    else (if c == 47 && d == 42 then past_comment doc (suc n) cs
    else (if doc && (c == 13 && not (d == 10)) then None
    else past_comment doc n (d ∷ cs)))

-- behind the // of a plain line comment: a doc begins /// or //!, and //// is plain
abbrev pub is_plain_line : List ℕ → Bool
is_plain_line [] = true
is_plain_line (c ∷ []) = not (c == 47 || c == 33)
is_plain_line (c ∷ d ∷ cs) = not (c == 33) && (not (c == 47) || d == 47)

-- behind the /* of a plain block comment: a doc begins /** or /*!, and /**/ and /*** are plain
abbrev pub is_plain_block : List ℕ → Bool
is_plain_block [] = true
is_plain_block (c ∷ []) = not (c == 42 || c == 33)
is_plain_block (c ∷ d ∷ cs) = not (c == 33) && (not (c == 42) || (d == 47 || d == 42))

-- a plain comment before a rest: // up to a line feed or the end, or /* up to the */ that closes it
abbrev pub IsComment : List ℕ → List ℕ → Type 0
IsComment (a ∷ b ∷ cs) rest =
    (a ≡ 47) × ((b ≡ 47) × (is_plain_line (cs ++ rest) ≡ true) × (passes is_not_feed cs ≡ true) ×
    (begins is_not_feed rest ≡ false)
    ⊎ (b ≡ 42) × (is_plain_block (cs ++ rest) ≡ true) × (past_comment false 0 cs ≡ Some []))
IsComment _ rest = ⊥

-- /// //! /** /*!
abbrev pub doc_opening : DocKind → List ℕ
doc_opening OuterLine = 47 ∷ 47 ∷ 47 ∷ []
doc_opening InnerLine = 47 ∷ 47 ∷ 33 ∷ []
doc_opening OuterBlock = 47 ∷ 42 ∷ 42 ∷ []
doc_opening InnerBlock = 47 ∷ 42 ∷ 33 ∷ []

-- neither a line feed nor a carriage return
abbrev pub is_within_line : ℕ → Bool
is_within_line c = not (c == 10 || c == 13)

-- a line ends there: before a line feed, before a carriage return and a line feed, or at the text's end
abbrev pub ends_line : List ℕ → Bool
ends_line [] = true
ends_line (c ∷ cs) = c == 10 || (c == 13 && begins is_line_feed cs)

-- what follows the three opening characters of a doc. The line forms go on to the end of the line;
-- the block forms go on to the */ that closes them; /// is none before /, nor /** before * and /
abbrev pub IsDocText : DocKind → List ℕ → List ℕ → Type 0
IsDocText OuterLine cs rest =
    (begins is_slash (cs ++ rest) ≡ false) × (passes is_within_line cs ≡ true) × (ends_line rest ≡ true)
IsDocText InnerLine cs rest = (passes is_within_line cs ≡ true) × (ends_line rest ≡ true)
IsDocText OuterBlock cs rest = (begins is_slash_or_star cs ≡ false) × (past_comment true 0 cs ≡ Some [])
IsDocText InnerBlock cs rest = past_comment true 0 cs ≡ Some []

abbrev pub IsDoc : DocKind → List ℕ → List ℕ → Type 0
IsDoc kind cs rest = (text : List ℕ) × (cs ≡ doc_opening kind ++ text) × IsDocText kind text rest
