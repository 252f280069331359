-- Which piece a text begins with: what the code computes. That it is the one piece that fits is proved.
use Rattle.std.specs.Prelude.{ℕ, zero, suc, Bool, true, false, ◌&&◌, ◌||◌, ◌==◌, not, is_some, List, [], ◌∷◌}
use Rattle.std.specs.Prelude.{Option, Some, None, if◌then◌else◌, drop, length}
use Rattle.rust_lex.specs.Chars.{is_white, is_first, is_next, is_digit, is_mark_but_tick, is_not_feed, past}
use Rattle.rust_lex.specs.Chars.{begins, begins_prefix, is_behind_prefix, is_wide, narrow}
use Rattle.rust_lex.specs.Ends.{past_suffix}
use Rattle.rust_lex.specs.Comment.{OuterLine, InnerLine, OuterBlock, InnerBlock, is_plain_line, is_plain_block}
use Rattle.rust_lex.specs.Comment.{past_comment, is_within_line, ends_line}
use Rattle.rust_escape.specs.declared.mode.Mode.TheVariants as modes
use Rattle.rust_lex.specs.Quoted.{LiteralKind, Str, Char, literal_kind, opening_of, opener_of}
use Rattle.rust_lex.specs.QuotedScan.{past_units, past_char, past_tail}
use Rattle.rust_lex.specs.Number.{past_number, number_kind}
use Rattle.rust_lex.specs.Word.{begins_raw_mark, begins_raw_name, begins_lifetime}
use Rattle.rust_lex.specs.Piece.{Parenthesis, Brace, Bracket, PieceKind, FrontMark, White, Comment, Doc, Open}
use Rattle.rust_lex.specs.Piece.{Close, Mark, Ident, Literal, begins_mark}
-- what begins with a character
pub use Rattle.rust_lex.specs.declared.front.Front.{Front}
pub use Rattle.rust_lex.specs.declared.front.Front.TheVariants.{White as white, Opens as opens, Closes as closes}
pub use Rattle.rust_lex.specs.declared.front.Front.TheVariants.{Quote as quote, Tick as tick, Digit as digit}
pub use Rattle.rust_lex.specs.declared.front.Front.TheVariants.{First as first, Mark as mark, Other as other}

-- a quote, a tick, or a delimiter: " ' ( ) [ ] { }
abbrev pub by_itself : ℕ → Front
by_itself c = if c == 34 then quote else (if c == 39 then tick else
    (if c == 40 then opens Parenthesis else (if c == 41 then closes Parenthesis else
    (if c == 91 then opens Bracket else (if c == 93 then closes Bracket else
    (if c == 123 then opens Brace else (if c == 125 then closes Brace else other)))))))

-- a letter or _ , a white character, a mark, or a digit, each by its class; else what that character is by itself
unfoldable pub front_of : ℕ → Front
front_of c = if is_first c then first else (if is_white c then white else
    (if is_mark_but_tick c then mark else (if is_digit c then digit else by_itself c)))

-- What a letter of the table of fronts stands for: a is any letter, + any mark, 0 any digit, w white.
abbrev pub front_by : ℕ → Front
front_by c = if c == 97 then first else
    (if c == 43 then mark else (if c == 48 then digit else (if c == 119 then white else by_itself c)))

-- a piece, and what stands behind it
pub data Scanned : Type 0 where
  Nowhere : Scanned
  Ends : PieceKind → List ℕ → Scanned

abbrev pub suffixed : LiteralKind → Option (List ℕ) → Scanned
suffixed k None = Nowhere
suffixed k (Some cs) = Ends (Literal k) (past_suffix cs)

abbrev pub ended : PieceKind → Option (List ℕ) → Scanned
ended k None = Nowhere
ended k (Some cs) = Ends k cs

-- behind the second slash
unfoldable pub line : List ℕ → Scanned
line [] = Ends Comment []
line (c ∷ cs) = if is_plain_line (c ∷ cs) then Ends Comment (past is_not_feed (c ∷ cs))
    else (if ends_line (past is_within_line cs) then Ends (Doc (if c == 33 then InnerLine else OuterLine))
    (past is_within_line cs) else Nowhere)

-- behind /*
unfoldable pub block : List ℕ → Scanned
block [] = Nowhere
block (c ∷ cs) = if is_plain_block (c ∷ cs) then ended Comment (past_comment false 0 (c ∷ cs))
    else ended (Doc (if c == 33 then InnerBlock else OuterBlock)) (past_comment true 0 cs)

-- behind a slash
unfoldable pub slash : List ℕ → Scanned
slash [] = Ends Mark []
slash (c ∷ cs) = if c == 47 then line cs else (if c == 42 then block cs else Ends Mark (c ∷ cs))

-- behind '
unfoldable pub ticked : List ℕ → Scanned
ticked cs = elim (past_char modes.Char cs)
    [ Some rest ↦ Ends (Literal Char) (past_suffix rest) | None ↦ if begins_lifetime cs then Ends Mark cs else Nowhere ]

-- a text that begins with a letter or _
unfoldable pub word : List ℕ → Scanned
word cs = if begins_raw_mark cs && begins_raw_name (drop 2 cs) then Ends Ident (past is_next (drop 2 cs))
    else (elim (opener_of cs) [
      | None ↦ Ends Ident (past is_next cs)
      | Some mode ↦ suffixed (literal_kind mode)
          (past_tail mode (drop (length (opening_of mode)) cs))
    ])

abbrev pub at_front : Front → ℕ → List ℕ → Scanned
at_front white c cs = Ends White cs
at_front (opens d) c cs = Ends (Open d) cs
at_front (closes d) c cs = Ends (Close d) cs
at_front quote c cs = suffixed Str (past_units modes.Str 0 cs)
at_front tick c cs = ticked cs
at_front digit c cs = suffixed (number_kind (c ∷ cs)) (past_number (c ∷ cs))
at_front first c cs = word (c ∷ cs)
at_front mark c cs = if c == 47 then slash cs else Ends Mark cs
at_front other c cs = Nowhere

abbrev pub scan : List ℕ → Scanned
scan [] = Nowhere
scan (c ∷ cs) = at_front (front_of c) c cs

-- the same at the front of a text
abbrev pub scan_front : List ℕ → Scanned
scan_front [] = Nowhere
scan_front (c ∷ cs) = if c == 65279 then Ends FrontMark cs else scan (c ∷ cs)

-- the same behind some number of characters or bytes
abbrev pub scan_at : ℕ → List ℕ → Scanned
scan_at zero cs = scan_front cs
scan_at (suc n) cs = scan cs

-- a text begins with a character literal
abbrev pub begins_char : List ℕ → Bool
begins_char [] = false
begins_char (c ∷ cs) = c == 39 && is_some (past_char modes.Char cs)

-- a ' before a text is a mark, or begins a character literal
abbrev pub is_mark_or_opening : List ℕ → Bool
is_mark_or_opening cs = begins_lifetime cs || is_some (past_char modes.Char cs)

-- the mark that a text begins with is joint: ' always is, another before a mark or the ' of a character literal
abbrev pub is_joint : List ℕ → Bool
is_joint [] = false
is_joint (c ∷ cs) = c == 39 || (begins_mark cs || begins_char cs)

-- behind a mark other than ' stands what makes it joint
abbrev pub is_joined : List ℕ → Bool
is_joined cs = begins_mark cs || begins_char cs

-- a literal with a prefix or a raw identifier may begin with a character before a text
abbrev pub may_open : ℕ → List ℕ → Bool
may_open c cs = begins_prefix c && begins is_behind_prefix cs

-- What a character of ASCII begins is one of the commonest pieces: the mark of a group, an identifier of ASCII as which
-- no other piece may begin, or a mark other than ' and /.
abbrev pub is_common : Front → ℕ → List ℕ → Bool
is_common white c cs = false
is_common (opens d) c cs = true
is_common (closes d) c cs = true
is_common quote c cs = false
is_common tick c cs = false
is_common digit c cs = false
is_common first c cs = not (may_open c cs) && not (begins is_wide (past (narrow is_next) cs))
is_common mark c cs = not (c == 47)
is_common other c cs = false

-- a text begins with such a piece
abbrev pub begins_common : List ℕ → Bool
begins_common [] = false
begins_common (c ∷ cs) = not (is_wide c) && is_common (front_of c) c cs

-- a character that neither ends nor begins a comment, nor is a carriage return
abbrev pub is_quiet : ℕ → Bool
is_quiet c = not (c == 42 || (c == 47 || c == 13))
