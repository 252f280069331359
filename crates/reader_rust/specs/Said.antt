-- What is said of tokens that could not be read: what was expected in their place, by its text or by its name.
use Rattle.std.specs.Prelude.{ℕ, Bool, true, false, ◌&&◌, List, [], ◌++◌, Option, Some, None, cond, codes}
use Rattle.rust_map.specs.Spans.{call_site}
use Rattle.rust_map.specs.declared.span.Span.{Span}
use Rattle.proc_macro2.specs.declared.delimiter.Delimiter.{Delimiter}
use Rattle.proc_macro2.specs.declared.delimiter.Delimiter.TheVariants as delimiters
use Rattle.reader_table.specs.Words.{keyword_text, sign_text}
use Rattle.reader_table.specs.declared.kind.Kind.{Kind}
use Rattle.reader_table.specs.declared.kind.Kind.TheVariants as kinds
use Rattle.reader_table.specs.declared.op.Verdicts.{Verdicts}
use Rattle.reader_table.specs.declared.op.Verdicts.TheVariants as verdicts
use Rattle.reader_table.specs.declared.word.Words.{Words}
use Rattle.reader_table.specs.declared.word.Words.TheVariants as words
use Rattle.reader_table.specs.declared.word.Literals.{Literals}
use Rattle.reader_table.specs.declared.word.Literals.TheVariants as literals
use Rattle.reader_steps.specs.declared.refusal.Wanted.{Wanted}
use Rattle.reader_steps.specs.declared.refusal.Wanted.TheVariants as wanted
use Rattle.reader_rust.specs.declared.said.Shown.{Shown}
use Rattle.reader_rust.specs.declared.said.Shown.TheVariants as shows
use Rattle.reader_rust.specs.declared.said.Thing.{Thing}
use Rattle.reader_rust.specs.declared.said.Message.{Message}

-- expected, by its text
abbrev pub quoted : List ℕ → List ℕ
quoted text = codes "expected `" ++ text ++ codes "`"

-- expected, by its name
abbrev pub named : List ℕ → List ℕ
named name = codes "expected " ++ name

-- a thing that was expected, by its text or by its name; or a sentence of its own
abbrev pub shown : Shown → List ℕ → List ℕ
shown shows.Text text = quoted text
shown shows.Name name = named name
shown shows.Sentence words = words

abbrev pub thing_text : Thing → List ℕ
thing_text t = shown t.shown t.words.now

-- the names of words
abbrev pub word_name : Words → List ℕ
word_name words.PathKeyword = codes "`self`, `super` or `crate`"
word_name words.MacroStart = codes "`self`, `super` or `crate`"
word_name words.Restriction = codes "`self`, `super` or `crate`"
word_name words.Bool = codes "`true` or `false`"
word_name words.Safety = codes "`unsafe` or `safe`"
word_name words.ConstOrMut = codes "`const` or `mut`"
word_name words.ItemWord = codes "item"
word_name w = codes "identifier"

-- of literals
abbrev pub literal_name : Literals → List ℕ
literal_name literals.Any = codes "literal"
literal_name literals.Text = codes "string literal"
literal_name literals.Number = codes "number"
literal_name literals.EndsInDot = codes "number"
literal_name literals.Indices = codes "field name or index"
literal_name w = codes "index"

-- of groups
abbrev pub group_name : Delimiter → List ℕ
group_name delimiters.Parenthesis = codes "parentheses"
group_name delimiters.Brace = codes "curly braces"
group_name delimiters.Bracket = codes "square brackets"
group_name delimiters.None = codes "invisible group"

-- Of what was judged: what may stand there.
abbrev pub verdict_name : Verdicts → List ℕ
verdict_name (verdicts.Item p) = codes "item that may stand here"
verdict_name (verdicts.Typed p) = codes "item that may stand here"
verdict_name verdicts.SomeBounds = codes "trait among the bounds"
verdict_name verdicts.FieldPatterns = codes "`..` behind all fields"
verdict_name verdicts.FieldValues = codes "`..` behind all fields"
verdict_name verdicts.Arm = codes "comma behind the arm"
verdict_name verdicts.Parameters = codes "`self` before all parameters, and `...` behind them"
verdict_name verdicts.FnArg = codes "parameter without `...`"
verdict_name verdicts.Trait = codes "alias of traits without `unsafe` and `auto`"
verdict_name verdicts.RestrictedTrait = codes "trait that is no alias"
verdict_name verdicts.TraitByItself = codes "trait that is no alias"
verdict_name verdicts.TraitAliasByItself = codes "alias of traits"
verdict_name verdicts.Impl = codes "trait behind `!`"
verdict_name verdicts.Let = codes "no `else` behind a value that ends in braces"
verdict_name v = codes "semicolon behind the statement"

-- The names of kinds of which no token stands there, or none with which they go on.
abbrev pub kind_name : Kind → List ℕ
kind_name (kinds.AType p) = codes "type"
kind_name kinds.Pattern = codes "pattern"
kind_name kinds.SeveralPatterns = codes "pattern"
kind_name kinds.OnePattern = codes "pattern"
kind_name kinds.AnItem = codes "item"
kind_name kinds.DeriveInput = codes "one of: `struct`, `enum`, `union`"
kind_name kinds.AForeignItem = codes "item of an extern block"
kind_name kinds.ATraitItem = codes "item of a trait"
kind_name kinds.AnImplItem = codes "item of an impl"
kind_name kinds.IdentPattern = codes "pattern that is no macro"
kind_name kinds.ExprBreak = codes "parentheses round what is labelled"
kind_name kinds.ExprCast = codes "parentheses round the cast"
kind_name k = codes "another token"

-- what was wanted
abbrev pub wanted_text : Wanted → List ℕ
wanted_text (wanted.Word (words.Keyword k)) = quoted (keyword_text k)
wanted_text (wanted.Word w) = named (word_name w)
wanted_text (wanted.Literal w) = named (literal_name w)
wanted_text (wanted.Mark s) = quoted (sign_text s)
wanted_text wanted.Separator = named (codes "separator")
wanted_text wanted.Lifetime = named (codes "lifetime")
wanted_text (wanted.Group d) = named (group_name d)
wanted_text wanted.End = named (codes "no token")
wanted_text wanted.Expression = named (codes "expression")
wanted_text wanted.Unchained = codes "comparison operators cannot be chained"
wanted_text (wanted.Judged v) = named (verdict_name v)
wanted_text (wanted.Node k) = named (kind_name k)
wanted_text wanted.Nothing = named (codes "another token")

-- where no token is left, in a group or at all, that is said first, unless a punctuation was expected; and of a
-- comparison behind a comparison, which is there
abbrev pub says_end : Wanted → Bool
says_end (wanted.Mark s) = false
says_end wanted.Unchained = false
says_end w = true

abbrev pub message : Bool → Wanted → List ℕ
message at_end w = cond (at_end && says_end w) (codes "unexpected end of input, ") [] ++ wanted_text w

-- Where it is said: of the token that stands there, or of the mark that closes the group whose inside ends there; of
-- the call site at the end of all tokens.
abbrev pub place : Option Span → Span
place None = call_site
place (Some span) = span

abbrev pub message_of : Message → List ℕ
message_of m = cond m.says_end (codes "unexpected end of input, ") [] ++ thing_text m.thing
