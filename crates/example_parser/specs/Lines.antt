-- The small language: lines of the forms let NAME = VALUE; and use NAME, NAME;
use Rattle.std.specs.Prelude.{◌≡◌, ◌≤◌, ◌++◌, ◌∷◌, [], List, false, length}
use Rattle.syn_parse.specs.Span.{Span}
use Rattle.syn_parse.specs.Token.{Spanned}
use Rattle.syn_parse.specs.Delimiter.TheVariants.{Bracket}
use Rattle.syn_parse.specs.Leaf.{ident_text}
use Rattle.syn_parse.specs.Ident.{Ident}
use Rattle.syn_parse.specs.Literal.{Literal}
use Rattle.syn_parse.specs.Kinds.{marks_stand}
use Rattle.syn_parse.specs.Keywords.{is_reserved}
use Rattle.syn_parse.specs.Table.{marks, word}
use Rattle.syn_parse.specs.Values.{word_tokens}
use Rattle.syn_parse.specs.Punctuation.{Punctuation}
use Rattle.syn_parse.specs.Lists.{separators, values}
use Rattle.syn_parse.specs.Groups.{IsGroup}
use Rattle.syn_parse.specs.Leaves.{ident_token, literal_token}
use Rattle.syn_parse.specs.Marks.{ReadsMarks}
use Rattle.syn_parse.specs.ReadLists.{Reading, ReadsList}
use Rattle.syn_parse.specs.ReadMany.{ReadsMany}
use Rattle.example_parser.specs.declared.line.Line.{Line}
use Rattle.example_parser.specs.declared.line.Line.TheVariants as line
use Rattle.example_parser.specs.declared.line.Definition.{Definition}
use Rattle.example_parser.specs.declared.line.Import.{Import}
use Rattle.example_parser.specs.declared.line.Value.{Value}
use Rattle.example_parser.specs.declared.line.Value.TheVariants as value

-- names, numbers, and punctuations of one mark
abbrev pub reads_name : Reading Ident
reads_name ts i us = (ts ≡ ident_token i ∷ us) × (is_reserved (ident_text i) ≡ false)

abbrev pub reads_number : Reading Literal
reads_number ts x us = ts ≡ literal_token x ∷ us

abbrev pub reads_comma : Reading (Punctuation 7 1)
reads_comma ts x us = ReadsMarks (marks 7 1) x.spans ts us

abbrev pub reads_semi : Reading (Punctuation 36 1)
reads_semi ts x us = ReadsMarks (marks 36 1) x.spans ts us

-- a number, or in brackets numbers with commas between them
abbrev pub ReadsValue : Reading Value
ReadsValue ts (value.Number x) us = reads_number ts x us
ReadsValue ts (value.List xs) us =
    (span : Span) × (inside : List Spanned) × IsGroup ts Bracket span inside us
    × ReadsList reads_number reads_comma inside (values xs) (separators xs) []

-- the tokens of a definition one behind the other; 22 is let and 13 is =
pub record ReadsDefinition (tokens : List Spanned) (it : Definition) (left : List Spanned) : Type 0 where
  pub behind_let : List Spanned
  pub behind_name : List Spanned
  pub behind_eq : List Spanned
  pub keyword : tokens ≡ word_tokens (word 22) it.let_token.span ++ behind_let
  pub name : reads_name behind_let it.ident behind_name
  pub eq : ReadsMarks (marks 13 1) it.eq_token.spans behind_name behind_eq
  pub value : ReadsValue behind_eq it.value left

-- 46 is use: names behind it as long as commas stand behind them
pub record ReadsImport (tokens : List Spanned) (it : Import) (left : List Spanned) : Type 0 where
  pub behind_use : List Spanned
  pub keyword : tokens ≡ word_tokens (word 46) it.use_token.span ++ behind_use
  pub names : ReadsMany reads_name reads_comma (λ _. false) (marks_stand (marks 7 1)) behind_use (values it.names)
      (separators it.names) left

abbrev pub ReadsLine : Reading Line
ReadsLine ts (line.Definition x) us = ReadsDefinition ts x us
ReadsLine ts (line.Import x) us = ReadsImport ts x us

-- lines to the end, each with its ;
abbrev pub ReadsLines : List Spanned → List Line → List (Punctuation 36 1) → Type 0
ReadsLines ts lines semis = ReadsList ReadsLine reads_semi ts lines semis [] × (length lines ≤ length semis)
