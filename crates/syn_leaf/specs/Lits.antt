-- What literals are to a contract: which one, its text, and where it stands.
use Rattle.proc_macro2.specs.Entered.{literal_entered}
use Rattle.proc_macro2.specs.Flat.{spanned}
use Rattle.proc_macro2.specs.Token.{Ident, Literal, Spanned}
use Rattle.syn_kinds.specs.Values.{word_tokens}
use Rattle.syn_leaf.specs.Booleans.{bool_text}
use Rattle.syn_leaf.specs.Quoted.{HasSuffix}
use Rattle.std.specs.Prelude.{◌≡◌, ℕ, List, [], ◌∷◌, Option, Some, None}
use Rattle.rust_map.specs.declared.span.Span.{Span}
use Rattle.rust_lex.specs.declared.piece.LiteralKind.{LiteralKind}
use Rattle.rust_lex.specs.declared.piece.LiteralKind.TheVariants as kinds
use Rattle.rust_leaf.specs.Leaf.{literal_span, literal_text}
use Rattle.syn_leaf.specs.declared.lit.Lit.{Lit}
use Rattle.syn_leaf.specs.declared.lit.Lit.TheVariants as lit

-- which literal token it is: true, false, and a number behind a minus are none
abbrev pub lit_kind : Lit → Option LiteralKind
lit_kind (lit.Str l) = Some kinds.Str
lit_kind (lit.ByteStr l) = Some kinds.ByteStr
lit_kind (lit.CStr l) = Some kinds.CStr
lit_kind (lit.Byte l) = Some kinds.Byte
lit_kind (lit.Char l) = Some kinds.Char
lit_kind (lit.Int l) = Some kinds.Int
lit_kind (lit.Float l) = Some kinds.Float
lit_kind (lit.Bool l) = None
lit_kind (lit.Verbatim l) = None

-- its text, suffix included
abbrev pub lit_text : Lit → List ℕ
lit_text (lit.Str l) = literal_text l.token
lit_text (lit.ByteStr l) = literal_text l.token
lit_text (lit.CStr l) = literal_text l.token
lit_text (lit.Byte l) = literal_text l.token
lit_text (lit.Char l) = literal_text l.token
lit_text (lit.Int l) = literal_text l.token
lit_text (lit.Float l) = literal_text l.token
lit_text (lit.Bool l) = bool_text l.value
lit_text (lit.Verbatim l) = literal_text l

abbrev pub lit_span : Lit → Span
lit_span (lit.Str l) = literal_span l.token
lit_span (lit.ByteStr l) = literal_span l.token
lit_span (lit.CStr l) = literal_span l.token
lit_span (lit.Byte l) = literal_span l.token
lit_span (lit.Char l) = literal_span l.token
lit_span (lit.Int l) = literal_span l.token
lit_span (lit.Float l) = literal_span l.token
lit_span (lit.Bool l) = l.span
lit_span (lit.Verbatim l) = literal_span l

-- the one token that it is read from: true and false are identifiers
abbrev pub lit_token : Lit → Spanned
lit_token (lit.Str l) = spanned (Literal (literal_text l.token)) (literal_span l.token)
lit_token (lit.ByteStr l) = spanned (Literal (literal_text l.token)) (literal_span l.token)
lit_token (lit.CStr l) = spanned (Literal (literal_text l.token)) (literal_span l.token)
lit_token (lit.Byte l) = spanned (Literal (literal_text l.token)) (literal_span l.token)
lit_token (lit.Char l) = spanned (Literal (literal_text l.token)) (literal_span l.token)
lit_token (lit.Int l) = spanned (Literal (literal_text l.token)) (literal_span l.token)
lit_token (lit.Float l) = spanned (Literal (literal_text l.token)) (literal_span l.token)
lit_token (lit.Bool l) = spanned (Ident (bool_text l.value)) l.span
lit_token (lit.Verbatim l) = spanned (Literal (literal_text l)) (literal_span l)

-- its tokens
abbrev pub lit_tokens : Lit → List Spanned
lit_tokens (lit.Str l) = spanned (Literal (literal_text l.token)) (literal_span l.token) ∷ []
lit_tokens (lit.ByteStr l) = spanned (Literal (literal_text l.token)) (literal_span l.token) ∷ []
lit_tokens (lit.CStr l) = spanned (Literal (literal_text l.token)) (literal_span l.token) ∷ []
lit_tokens (lit.Byte l) = spanned (Literal (literal_text l.token)) (literal_span l.token) ∷ []
lit_tokens (lit.Char l) = spanned (Literal (literal_text l.token)) (literal_span l.token) ∷ []
lit_tokens (lit.Int l) = spanned (Literal (literal_text l.token)) (literal_span l.token) ∷ []
lit_tokens (lit.Float l) = spanned (Literal (literal_text l.token)) (literal_span l.token) ∷ []
lit_tokens (lit.Bool l) = word_tokens (bool_text l.value) l.span
lit_tokens (lit.Verbatim l) = literal_entered (literal_text l) (literal_span l)

-- its suffix, or nothing; true, false and a number behind a minus have none
abbrev pub HasLitSuffix : Lit → List ℕ → Type 0
HasLitSuffix (lit.Str l) suffix = HasSuffix kinds.Str (literal_text l.token) suffix
HasLitSuffix (lit.ByteStr l) suffix = HasSuffix kinds.ByteStr (literal_text l.token) suffix
HasLitSuffix (lit.CStr l) suffix = HasSuffix kinds.CStr (literal_text l.token) suffix
HasLitSuffix (lit.Byte l) suffix = HasSuffix kinds.Byte (literal_text l.token) suffix
HasLitSuffix (lit.Char l) suffix = HasSuffix kinds.Char (literal_text l.token) suffix
HasLitSuffix (lit.Int l) suffix = HasSuffix kinds.Int (literal_text l.token) suffix
HasLitSuffix (lit.Float l) suffix = HasSuffix kinds.Float (literal_text l.token) suffix
HasLitSuffix (lit.Bool l) suffix = suffix ≡ []
HasLitSuffix (lit.Verbatim l) suffix = suffix ≡ []
